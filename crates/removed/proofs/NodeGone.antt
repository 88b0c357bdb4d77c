-- `remove`, on ready memory and a found node: the node is gone, and its children, in order, have taken its place between its
-- neighbours under its parent; those of a parentless node stay together as a root chain. Every other chain is as before.
use Rattle.std.specs.Prelude.{◌≡◌, ◌≢◌, ◌⊎◌, length}
use Rattle.std.proofs.Math.Path.{refl, ap}
use Rattle.std.proofs.Common.{sym, ◌∙◌, subst, inl, inr, le_refl, arith}
use mathlib.Core.List.{List, [], ◌∷◌, ◌++◌, append-nil}
use Prim.Native.Nat.{ℕ, ◌*◌, ◌≤◌, ◌<◌}
use Rattle.std.proofs.Math.Decide.{ℕ_discrete}
use Rattle.link.specs.Words.{width, PARENT, PREVIOUS, NEXT, FIRST, LAST, link}
use Rattle.link.specs.Found.{Found}
use Rattle.link.specs.FoundLaws.{is_found}
use Rattle.link.specs.declared.header.Header.{Header}
use Rattle.rules.specs.Answers.{DONE, answer}
use Rattle.rules.specs.declared.answer.Answer.{Answer}
use Rattle.rules.specs.Lists.{head_or, last_or, In, Off}
use Rattle.rules.specs.Links.{par, prv, nxt, View, view}
use Rattle.rules.specs.Sound.{Ready}
use Rattle.rules.specs.Forest.{Key, children, roots, owner, Forest, Segment, Chain, OwnerIn, Holds, detached, moved}
use Rattle.rules.specs.Tree.{none, Above, self, higher}
use Rattle.follow.specs.Point.{at, at_same, at_other}
use Rattle.follow.specs.Follow.{Ends, ends_in}
use Rattle.forest.specs.Lists.{in_right, in-dec, not_in_off, all_of}
use Rattle.forest.specs.View.{detach, detach_par}
use Rattle.forest.specs.Found.{found-nodes, found_some}
use Rattle.forest.specs.Segments.{seg-right}
use Rattle.forest.specs.Members.{put_same}
use Rattle.forest.specs.Edits.{Without}
use Rattle.forest.specs.Acyclic.{Acyclic}
use Rattle.forest.specs.Insert.{all_at, reparent}
use Rattle.forest.specs.Hoist.{ends-hoist}
use Rattle.forest.specs.Bound.{found-few}
use Rattle.forest.specs.Looks.{Looks}
use Rattle.forest.specs.Subtree.{holds-without}
use Rattle.forest.specs.Surgery.{detach_words}
use Rattle.forest.specs.DetachWords.{kept-detach, detach_forested}
use Rattle.forest.specs.Whole.{Forested, no_cycle}
use Rattle.arena.specs.FreeList.{free_node}
use Rattle.removal.specs.Remove.{steps_for, hoisted, removed, remove_node}
use Rattle.removal.specs.RemoveLaws.{when-found}
use Rattle.removed.specs.Gone.{joins, joining, Gone, Removes}
use Rattle.removed.specs.GoneLaws.{gone-kept, gone-then, removes_by}
use Rattle.removed.specs.Stands.{Stands, stands_forested, stands-ready, stands-freed, stands-gone, acyclic-left, ready-stands}
use Rattle.removed.specs.Alone.{detached-words, detach-length, alone-room, alone-ready, alone-looks, alone-slots}
use Rattle.removed.specs.TreeStays.{no_loop}
use Rattle.removed.specs.Hoisted.{Hoist, hoist}
use Rattle.removed.specs.NodeRule.{keys-apart, out_at, out-other, inside-alone, is-rule}

-- each on a segment names its owner
seg-parent : (p q n : ℕ → ℕ) (o b : ℕ) (xs : List ℕ) (e : ℕ) → Segment p q n o b xs e → (y : ℕ) → In y xs → p y ≡ o
seg-parent p q n o b (x ∷ xs) e s y (inl r) = ap p r ∙ s.0
seg-parent p q n o b (x ∷ xs) e s y (inr t) = seg-parent p q n o x xs e s.3 y t
seg-parent p q n o b [] e s y x'' = elim x'' [ ]

-- naming a parent to ms is the same of two functions that agree
all_same : (f g : ℕ → ℕ) (ms : List ℕ) (o y : ℕ) → f y ≡ g y → all_at f ms o y ≡ all_at g ms o y
unfolding all_at
all_same f g [] o y e = e
all_same f g (a ∷ ms) o y e = all_same (at f a o) (at g a o) ms o y (go (ℕ_discrete y a))
  where
    go : Dec (y ≡ a) → at f a o y ≡ at g a o y
    go (yes q) = rw q (at_same f a o ∙ sym (at_same g a o))
    go (no n) = at_other f a o y n ∙ e ∙ sym (at_other g a o y n)

module _ (m : List ℕ) (h : Header) (room : h.used * width ≤ length m) (R : Ready m h) (x : ℕ) (f : Found m h.used x)
    (F : Forest) (H : Forested m h F) (k : Key) (ls rs : List ℕ) (e : F k ≡ ls ++ x ∷ rs) (j : ℕ) (free : F (roots j) ≡ []) where
  abbrev live : ℕ → Type 0
  live = Found m h.used

  abbrev v : View
  v = view m

  abbrev ms : List ℕ
  ms = F (children x)

  xz : x ≢ 0
  xz = found_some m h.used x f

  -- ---- where the node stands

  stood : In x (F k)
  stood = rw e (in_right x ls (x ∷ rs) (inl refl))

  ok : OwnerIn live k
  ok = (H.members.member k x stood).2

  here : Segment (v par) (v prv) (v nxt) (owner k) (last_or 0 ls) (x ∷ rs) 0
  here = seg-right (v par) (v prv) (v nxt) (owner k) 0 ls (x ∷ rs) 0 (subst (Chain v (owner k)) e (H.chains k ok)).segment

  child-parent : (y : ℕ) → In y ms → v par y ≡ x
  child-parent = seg-parent (v par) (v prv) (v nxt) x 0 ms 0 (H.chains (children x) f).segment

  loop : Above (v par) x (v par x) → ⊥
  loop = no_loop (v par) x (no_cycle m h R.sound x f) xz

  kj : k ≢ roots j
  kj q = subst (In x) (ap F q ∙ free) stood

  ki : k ≢ children x
  ki q = loop (subst (Above (v par) x) (sym (here.0 ∙ ap owner q)) (self xz))

  -- its parent is none of its children
  owner-apart : Off (owner k) ms
  owner-apart = not_in_off (owner k) ms (λ t.
      loop (subst (Above (v par) x) (sym here.0)
      (higher (H.members.some (owner k) (H.members.member (children x) (owner k) t).0) (subst (Above (v par) x) (sym (child-parent (owner k) t)) (self xz)))))

  few : length ms < steps_for h.used
  few =
      let l = found-few m h.used ms (all_of live ms (λ y t. (H.members.member (children x) y t).0)) (H.members.distinct (children x)) in
      omega arith

  -- ---- the node alone, its children in its place

  abbrev m₁ : List ℕ
  m₁ = detach_words m x

  abbrev live₁ : ℕ → Type 0
  live₁ = Found m₁ h.used

  abbrev R₁ : Ready m₁ h
  R₁ = alone-ready m h room R x f

  L : Looks m₁ live h.used (detach v x)
  L = alone-looks m h room R x f

  f₁ : live₁ x
  f₁ = (L.alive x).0 f

  ok₁ : (k : Key) → OwnerIn live k → OwnerIn live₁ k
  ok₁ (children p) l = (L.alive p).0 l
  ok₁ (roots i) l = tt

  same-children : detached F k ls x rs j (children x) ≡ ms
  same-children = out-other F k ls x rs j free kj ki ms (children x) (λ q. ki (sym q)) (keys-apart x j)

  P : Hoist m₁ h live₁ (found-nodes m₁ h.used) (view m₁) R₁.sound.free.slots (ready-stands m₁ h (alone-room m h room R x f) R₁)
      (detached F k ls x rs j) (detach_forested m h room R.sound x f F H k ls rs e j free) x f₁ k ls rs
      (out_at F k ls x rs j free kj ki ms) (ok₁ k ok) ki (steps_for h.used) ms
  P = subst (Hoist m₁ h live₁ (found-nodes m₁ h.used) (view m₁) R₁.sound.free.slots (ready-stands m₁ h (alone-room m h room R x f) R₁)
      (detached F k ls x rs j) (detach_forested m h room R.sound x f F H k ls rs e j free) x f₁ k ls rs
      (out_at F k ls x rs j free kj ki ms) (ok₁ k ok) ki (steps_for h.used)) same-children
      (hoist m₁ h live₁ (found-nodes m₁ h.used) (view m₁) R₁.sound.free.slots (ready-stands m₁ h (alone-room m h room R x f) R₁)
      (detached F k ls x rs j) (detach_forested m h room R.sound x f F H k ls rs e j free) x f₁ k ls rs
      (out_at F k ls x rs j free kj ki ms) (ok₁ k ok) ki (steps_for h.used) (rw same-children owner-apart) (rw same-children few))

  -- ---- the node freed

  abbrev m₂ : List ℕ
  m₂ = hoisted (steps_for h.used) m₁ (head_or ms 0) (last_or 0 ms) (owner k) (last_or 0 ls) (head_or rs 0)

  abbrev left : ℕ → Type 0
  left = Without live₁ (x ∷ [])

  abbrev words : List ℕ
  words = (free_node m₂ h x).0

  abbrev head : Header
  head = (free_node m₂ h x).1

  stands : Stands words head left P.after (R.sound.free.slots ++ joining (x ∷ []))
  stands = subst (Stands words head left P.after)
      (ap (λ (fs : List ℕ). fs ++ joins x) (alone-slots m h room R x f) ∙ ap (λ (fs : List ℕ). R.sound.free.slots ++ fs) (sym (append-nil (joins x))))
      (stands-freed P.stands x f₁)

  gone : Gone m h (x ∷ []) words head
  gone = gone-then (gone-kept m m₁ h (detach-length m x) (kept-detach m x)) (gone-then (gone-kept m₁ m₂ h P.size P.kept) (stands-gone P.stands x f₁))

  holds : Holds P.after left (moved F k ls ms rs (children x))
  holds = subst (Holds P.after left) (λ i k'. is-rule F k ls x rs j free kj ki ms k' i)
      (holds-without P.after live₁ (moved (detached F k ls x rs j) k ls ms rs (children x)) P.holds x f₁ none
      ((P.holds.chains (children x) f₁).first xz ∙ ap (λ (zs : List ℕ). head_or zs 0) (put_same _ (children x) [])) tt
      j (inside-alone F k ls x rs j free kj ki ms))

  acyclic : Acyclic P.after left
  acyclic =
      acyclic-left (reparent v ms (owner k)) P.after live left (moved F k ls ms rs (children x)) (λ y l. (L.alive y).1 l.0) same holds hung
    where
      same : (y : ℕ) → left y → P.after par y ≡ all_at (v par) ms (owner k) y
      same y l =
          P.parents y
          ∙ all_same (view m₁ par) (v par) ms (owner k) y (L.sees par y ((L.alive y).1 l.0) ∙ detach_par v x y ∙ at_other (v par) x 0 y l.1.0)

      named : (y : ℕ) → Off y ms ⊎ In y ms → Off y ms ⊎ (In y ms × (v par y ≡ x))
      named y (inl o) = inl o
      named y (inr t) = inr (t, child-parent y t)

      hung : Acyclic (reparent v ms (owner k)) live
      hung y l =
          let (n, d) = ends_in (v par) (no_cycle m h R.sound y l) in
          subst (λ (o : ℕ). Ends (all_at (v par) ms o) y) here.0 (ends-hoist (v par) x ms xz (λ z. named z (in-dec z ms)) n n (le_refl n) y d)

  is : remove_node m h x ≡ (words, answer head DONE 0)
  unfolding remove_node removed
  is =
      when-found m h x (removed m h x) (is_found m h.used x f)
      ∙ ap done (detached-words m h room R x f)
      ∙ rw ((H.chains (children x) f).first xz, (H.chains (children x) f).last xz, here.0, here.1, here.2) refl
    where
      done : List ℕ → List ℕ × Answer
      done w =
          let q = free_node (hoisted (steps_for h.used) w (link m x FIRST) (link m x LAST) (link m x PARENT) (link m x PREVIOUS) (link m x NEXT)) h x in
          (q.0, answer q.1 DONE 0)

  -- The node alone is gone.
  pub node_removes : Removes m h R (x ∷ []) (remove_node m h x)
  node_removes = removes_by m h R (x ∷ []) (remove_node m h x) words head is gone (stands-ready stands _ holds acyclic)

  -- Its children, in order, stand where it stood, and no other chain changes.
  pub node-forest : Forested (remove_node m h x).0 (remove_node m h x).1.header (moved F k ls ms rs (children x))
  node-forest =
      subst (λ (r : List ℕ × Answer). Forested r.0 r.1.header (moved F k ls ms rs (children x))) (sym is) (stands_forested stands _ holds)
