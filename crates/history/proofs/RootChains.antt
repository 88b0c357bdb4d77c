-- On sound memory, walking all root chains meets each found node exactly once, and nothing else: every node has one root above it, which
-- stands in one root chain, and a root chain has one first node.
use Rattle.std.specs.Prelude.{◌≡◌, refl, ◌⊎◌, ◌↔◌, Bool, true, false, cond, ◌&&◌, List, [], ◌∷◌, ◌++◌, ℕ, zero, suc, ◌≤◌, eqb}
use Rattle.std.proofs.Common.{sym, ap, ◌∙◌, subst, inl, inr, append-nil, arith, eq-eqb, eqb-true}
use Rattle.std.proofs.lemmas.Bool.{false≢true}
use Rattle.std.proofs.Math.Decide.{ℕ_discrete}
use Rattle.link.specs.Ids.{slot_of}
use Rattle.link.specs.Found.{Found}
use Rattle.link.specs.declared.header.Header.{Header}
use Rattle.rules.specs.Lists.{head_or, last_or, In, Off, NoDup}
use Rattle.rules.specs.Links.{par, prv, nxt, view}
use Rattle.rules.specs.Sound.{Sound}
use Rattle.rules.specs.Forest.{Key, owner, Forest, Segment}
use Rattle.rules.specs.Tree.{pre, Above, self, higher}
use Rattle.follow.specs.Follow.{Ends, stop, step}
use Rattle.forest.specs.Lists.{in_left, off-left, not_in_off, last_some}
use Rattle.forest.specs.Found.{found_some, found_one}
use Rattle.forest.specs.Places.{Place, place}
use Rattle.forest.specs.Whole.{Forested, forest_of, sound_forested, no_cycle, tree_of_lem}
use Rattle.arena.specs.Census.{live_b}
use Rattle.keeps.specs.Census.{live_exactly}
use Rattle.keeps_moves.specs.Ancestors.{above-some, above-or}
use Rattle.lists.specs.Orders.{ordered}
use Rattle.lists.specs.declared.order.Order.TheVariants.{FollowingSiblings, Descendants}
use Rattle.walks.specs.Stepped.{tree-once}
use Rattle.walks.specs.Preorder.{descendants-tree}
use Rattle.walks.specs.Chains.{following-chain}
use Rattle.history.specs.Walked.{id_in, leads_b, firsts, through, occurs}
use Rattle.history.specs.Descendants.{below_exactly}
use Rattle.history.specs.WalkedLaws.{in-through, nodup-through, off-occurs, in-occurs}

-- ---- one root above a node

same-root : {f : ℕ → ℕ} {r s y : ℕ} → f r ≡ 0 → f s ≡ 0 → Above f r y → Above f s y → r ≡ s
same-root a b (self n) (self k) = refl
same-root a b (self n) (higher k v) = absurd (above-some v a)
same-root a b (higher n u) (self k) = absurd (above-some u b)
same-root a b (higher n u) (higher k v) = same-root a b u v

module _ (m : List ℕ) (h : Header) (S : Sound m h) where
  abbrev live : ℕ → Type 0
  live = Found m h.used

  abbrev F : Forest
  F = forest_of m h S

  abbrev H : Forested m h F
  H = sound_forested m h S

  root-above : {x : ℕ} → Ends (view m par) x → live x → (r : ℕ) × Above (view m par) r x × (view m par r ≡ 0) × live r
  root-above stop f = absurd (found_some m h.used 0 f refl)
  root-above {x} (step n e) f = go (ℕ_discrete (view m par x) 0) (root-above e)
    where
      go : Dec (view m par x ≡ 0) → (live (view m par x) → (r : ℕ) × Above (view m par) r (view m par x) × (view m par r ≡ 0) × live r)
          → (r : ℕ) × Above (view m par) r x × (view m par r ≡ 0) × live r
      go (yes q) up = (x, self n, q, f)
      go (no k) up = let q = up (S.links.found x f par k) in (q.0, higher n q.1, q.2, q.3)

  -- ---- the first nodes of root chains

  -- no parent, no previous
  abbrev Leads : ℕ → Type 0
  Leads y = live y × (view m par y ≡ 0) × (view m prv y ≡ 0)

  own-id : (y : ℕ) → live y → id_in m (slot_of y) ≡ y
  own-id y f = let e = f.stamp in omega arith

  leads_exactly : (s : ℕ) → 1 ≤ s → s ≤ h.used → (leads_b m s ≡ true) ↔ Leads (id_in m s)
  leads_exactly s a b = (to (live_b m s) (eqb (view m par (id_in m s)) 0) (eqb (view m prv (id_in m s)) 0) refl refl refl, from)
    where
      to : (p q r : Bool) → live_b m s ≡ p → eqb (view m par (id_in m s)) 0 ≡ q → eqb (view m prv (id_in m s)) 0 ≡ r → (p && q && r) ≡ true → Leads (id_in m s)
      to false q r e g k t = absurd (false≢true t)
      to true false r e g k t = absurd (false≢true t)
      to true true false e g k t = absurd (false≢true t)
      to true true true e g k t =
          let w = (live_exactly m h S s a b).0 e in
          let f = w.2 in
          (subst live (sym (own-id w.0 f) ∙ ap (id_in m) w.1) f, eqb-true (view m par (id_in m s)) 0 g, eqb-true (view m prv (id_in m s)) 0 k)

      from : Leads (id_in m s) → leads_b m s ≡ true
      from l =
          let own : slot_of (id_in m s) ≡ s = omega arith in
          let is = (live_exactly m h S s a b).1 (id_in m s, own, l.0, λ y f e. found_one m h.used y (id_in m s) f l.0 (e ∙ sym own)) in
          simp (is, eq-eqb (view m par (id_in m s)) 0 l.1, eq-eqb (view m prv (id_in m s)) 0 l.2)

  in-firsts : (n : ℕ) → n ≤ h.used → (y : ℕ) → In y (firsts m n) ↔ (Leads y × (slot_of y ≤ n))
  in-firsts zero b y = (λ i. absurd i, λ q. let a = q.0.0.from in let c = q.1 in absurd (omega arith))
  in-firsts (suc n) b y = by (leads_b m (suc n)) refl (in-firsts n (omega arith) y)
    where
      x : ℕ
      x = id_in m (suc n)

      own : slot_of (id_in m (suc n)) ≡ suc n
      own = omega arith

      by : (t : Bool) → leads_b m (suc n) ≡ t → In y (firsts m n) ↔ (Leads y × (slot_of y ≤ n))
          → In y (cond t (id_in m (suc n) ∷ firsts m n) (firsts m n)) ↔ (Leads y × (slot_of y ≤ suc n))
      by true e r = (to, from)
        where
          to : (y ≡ id_in m (suc n)) ⊎ In y (firsts m n) → Leads y × (slot_of y ≤ suc n)
          to (inl q) = (subst Leads (sym q) ((leads_exactly (suc n) (omega arith) b).0 e), let o = own in let z = ap slot_of q in omega arith)
          to (inr i) = let q = r.0 i in let c = q.1 in (q.0, omega arith)

          from : Leads y × (slot_of y ≤ suc n) → (y ≡ id_in m (suc n)) ⊎ In y (firsts m n)
          from (l, c) = go (ℕ_discrete (slot_of y) (suc n))
            where
              go : Dec (slot_of y ≡ suc n) → (y ≡ id_in m (suc n)) ⊎ In y (firsts m n)
              go (yes q) = inl (sym (own-id y l.0) ∙ ap (id_in m) q)
              go (no k) = inr (r.1 (l, omega arith))
      by false e r = (λ i. let q = r.0 i in let c = q.1 in (q.0, omega arith), from)
        where
          from : Leads y × (slot_of y ≤ suc n) → In y (firsts m n)
          from (l, c) = go (ℕ_discrete (slot_of y) (suc n))
            where
              go : Dec (slot_of y ≡ suc n) → In y (firsts m n)
              go (yes q) =
                  let z : y ≡ id_in m (suc n) = sym (own-id y l.0) ∙ ap (id_in m) q in
                  absurd (false≢true (sym e ∙ (leads_exactly (suc n) (omega arith) b).1 (subst Leads z l)))
              go (no k) = r.1 (l, omega arith)

  nodup-firsts : (n : ℕ) → n ≤ h.used → NoDup (firsts m n)
  nodup-firsts zero b = tt
  nodup-firsts (suc n) b = by (leads_b m (suc n)) (nodup-firsts n (omega arith))
    where
      by : (t : Bool) → NoDup (firsts m n) → NoDup (cond t (id_in m (suc n) ∷ firsts m n) (firsts m n))
      by true d = (not_in_off (id_in m (suc n)) (firsts m n) (λ i. let c = ((in-firsts n (omega arith) (id_in m (suc n))).0 i).1 in omega arith), d)
      by false d = d

  -- ---- root chains

  abbrev home : ℕ → Key
  home = H.members.home

  -- its chain begins with it
  leads-chain : (y : ℕ) → Leads y → (rs : List ℕ) × (F (home y) ≡ y ∷ rs)
  leads-chain y l = by P.left P.some (sym P.before ∙ l.2) P.is
    where
      P : Place (view m) live F H y
      P = place (view m) live F H y l.0

      by : (ls : List ℕ) → Off 0 (ls ++ y ∷ P.right) → last_or 0 ls ≡ 0 → F P.key ≡ ls ++ y ∷ P.right → (rs : List ℕ) × (F (home y) ≡ y ∷ rs)
      by [] o e q = (P.right, ap F (sym P.home) ∙ q)
      by (z ∷ zs) o e q = absurd (last_some z zs (off-left 0 (z ∷ zs) (y ∷ P.right) o) e)

  chain_of : (y : ℕ) → Leads y → ordered m h.used FollowingSiblings y ≡ F (home y)
  chain_of y l = let (rs, e) = leads-chain y l in following-chain m h F H y (home y) [] rs e ∙ sym e

  -- a node without a parent is in the chain of its first
  first_of : (r : ℕ) → live r → view m par r ≡ 0 → (y : ℕ) × Leads y × In r (F (home y))
  first_of r f e = by (F (home r)) refl (H.members.placed r f)
    where
      P : Place (view m) live F H r
      P = place (view m) live F H r f

      none : owner (home r) ≡ 0
      none = ap owner (sym P.home) ∙ sym P.parent ∙ e

      by : (xs : List ℕ) → F (home r) ≡ xs → In r xs → (y : ℕ) × Leads y × In r (F (home y))
      by (y ∷ ys) q i =
          let at = H.members.member (home r) y (rw q (inl refl)) in
          let s = subst (λ (zs : List ℕ). Segment (view m par) (view m prv) (view m nxt) (owner (home r)) 0 zs 0) q (H.chains (home r) at.2).segment in
          (y, (at.0, s.0 ∙ none, s.1), subst (In r) (sym q ∙ ap F at.1) i)
      by [] q i = elim i [ ]

  abbrev leaders : List ℕ
  leaders = firsts m h.used

  abbrev all_roots : List ℕ
  all_roots = through (ordered m h.used FollowingSiblings) leaders

  leads_in : (y : ℕ) → In y leaders → Leads y
  leads_in y i = ((in-firsts h.used (omega arith) y).0 i).0

  -- a member of the chain of y, where y leads: it stands at home there, and has no parent
  in-chain : (y r : ℕ) → In y leaders → In r (ordered m h.used FollowingSiblings y) → live r × (home y ≡ home r) × (view m par r ≡ 0)
  in-chain y r i j =
      let l = leads_in y i in
      let at = H.members.member (home y) r (subst (In r) (chain_of y l) j) in
      let P = place (view m) live F H r at.0 in
      let Q = place (view m) live F H y l.0 in
      (at.0, at.1, P.parent ∙ ap owner (P.home ∙ sym at.1 ∙ sym Q.home) ∙ sym Q.parent ∙ l.1)

  in-roots : (r : ℕ) → In r all_roots ↔ (live r × (view m par r ≡ 0))
  in-roots r = (
    λ i. let q = (in-through (ordered m h.used FollowingSiblings) leaders r).0 i in let w = in-chain q.0 r q.1 q.2 in (w.0, w.2),
    λ w. let q = first_of r w.0 w.1 in
        (in-through (ordered m h.used FollowingSiblings) leaders r).1
        (q.0, (in-firsts h.used (omega arith) q.0).1 (q.1, q.1.0.upto), subst (In r) (sym (chain_of q.0 q.1)) q.2),
  )

  nodup-roots : NoDup all_roots
  nodup-roots =
      nodup-through (ordered m h.used FollowingSiblings) leaders (nodup-firsts h.used (omega arith))
      (λ y i. subst NoDup (sym (chain_of y (leads_in y i))) (H.members.distinct (home y)))
      (λ y z r i j a b. same y z (leads_in y i) (leads_in z j) ((in-chain y r i a).1 ∙ sym (in-chain z r j b).1))
    where
      -- a chain has one first node
      same : (y z : ℕ) → Leads y → Leads z → home y ≡ home z → y ≡ z
      same y z l k e =
          let (ys, p) = leads-chain y l in
          let (zs, q) = leads-chain z k in
          ap (λ (xs : List ℕ). head_or xs 0) (sym p ∙ ap F e ∙ q)

  -- ---- and all below them

  abbrev everything : List ℕ
  everything = through (ordered m h.used Descendants) all_roots

  in-down : (r y : ℕ) → live r → In y (ordered m h.used Descendants r) ↔ (live y × Above (view m par) r y)
  in-down r y f = (λ i. to (subst (In y) is i), λ w. subst (In y) (sym is) (from w.0 (above-or w.1)))
    where
      is : ordered m h.used Descendants r ≡ r ∷ (pre (tree_of_lem m h S r f).tree ++ [])
      is = descendants-tree m h S r f

      to : (y ≡ r) ⊎ In y (pre (tree_of_lem m h S r f).tree ++ []) → live y × Above (view m par) r y
      to (inl e) = (subst live (sym e) f, subst (Above (view m par) r) (sym e) (self (found_some m h.used r f)))
      to (inr i) =
          let q = (below_exactly m h S r f y).0 (subst (In y) (append-nil (pre (tree_of_lem m h S r f).tree)) i) in
          (q.0, higher (found_some m h.used y q.0) q.1)

      from : live y → (y ≡ r) ⊎ Above (view m par) r (view m par y) → (y ≡ r) ⊎ In y (pre (tree_of_lem m h S r f).tree ++ [])
      from g (inl e) = inl e
      from g (inr a) = inr (in_left y (pre (tree_of_lem m h S r f).tree) [] ((below_exactly m h S r f y).1 (g, a)))

  nodup-everything : NoDup everything
  nodup-everything =
      nodup-through (ordered m h.used Descendants) all_roots nodup-roots
      (λ r i. let f = ((in-roots r).0 i).0 in subst NoDup (sym (descendants-tree m h S r f)) (tree-once m h S r f))
      (λ r s y i j a b.
      let f = (in-roots r).0 i in
      let g = (in-roots s).0 j in
      same-root f.1 g.1 ((in-down r y f.0).0 a).1 ((in-down s y g.0).0 b).1)

  in-everything : (x : ℕ) → In x everything ↔ live x
  in-everything x = (
    λ i. let q = (in-through (ordered m h.used Descendants) all_roots x).0 i in ((in-down q.0 x ((in-roots q.0).0 q.1).0).0 q.2).0,
    λ f. let q = root-above (no_cycle m h S x f) f in
        (in-through (ordered m h.used Descendants) all_roots x).1 (q.0, (in-roots q.0).1 (q.3, q.2), (in-down q.0 x q.3).1 (f, q.1)),
  )

  -- A found node is met exactly once, any other number never.
  pub walked_once : (x : ℕ) → live x → occurs x everything ≡ 1
  walked_once x f = in-occurs x everything nodup-everything ((in-everything x).1 f)

  pub walked-never : (x : ℕ) → (live x → ⊥) → occurs x everything ≡ 0
  walked-never x n = off-occurs x everything (not_in_off x everything (λ i. n ((in-everything x).0 i)))
