-- Links that hold a forest without cycles are sound: each test at a live node is read off its place, and predecessors end because
-- parents do.
use Rattle.std.specs.Prelude.{◌≡◌, refl, ◌≢◌, ◌⊎◌, ◌↔◌, List, [], ◌∷◌, ◌++◌, ℕ}
use Rattle.std.proofs.Common.{sym, ap, ◌∙◌, subst, inl, inr, append_assoc}
use Rattle.rules.specs.Lists.{head_or, last_or, In, Off}
use Rattle.rules.specs.Links.{Link, par, prv, nxt, fst, lst, View}
use Rattle.rules.specs.Sound.{SoundLinks}
use Rattle.rules.specs.Forest.{Key, children, roots, owner, Forest, Segment, Chain, OwnerIn, Holds}
use Rattle.forest.specs.Lists.{off-left, last_in, head_in, last_some}
use Rattle.forest.specs.View.{or_else, or_left}
use Rattle.follow.specs.Follow.{Ends, stop, step}
use Rattle.forest.specs.Found.{Nodes}
use Rattle.forest.specs.Segments.{seg-left, seg-right, seg-last}
use Rattle.forest.specs.Local.{Local, pred, tests-sound}
use Rattle.forest.specs.Members.{zero_off}
use Rattle.forest.specs.Places.{Place, place, member-live, left-live, right-live, owner-live}
use Rattle.forest.specs.Acyclic.{Acyclic}

-- predecessors end along a chain, if they do before it
pred-along : (v : View) (o b : ℕ) (xs : List ℕ) (e : ℕ) → Segment (v par) (v prv) (v nxt) o b xs e → Off 0 xs → Ends (pred v) (or_else b o)
    → (y : ℕ) → In y xs → Ends (pred v) y
pred-along v o b (x ∷ xs) e s z h y t =
    go t (step (λ r. z.0 (sym r)) (rw (ap (λ (w : ℕ). or_else w (v par x)) s.1 ∙ ap (or_else b) s.0) h)) (pred-along v o x xs e s.3 z.1)
  where
    go : (y ≡ x) ⊎ In y xs → Ends (pred v) x → (Ends (pred v) (or_else x o) → (w : ℕ) → In w xs → Ends (pred v) w) → Ends (pred v) y
    go (inl q) here ih = rw q here
    go (inr u) here ih = ih (rw (or_left x o (λ r. z.0 (sym r))) here) y u
pred-along v o b [] e s z h y t = elim t [ ]

module _ (v : View) (live : ℕ → Type 0) (F : Forest) (H : Holds v live F) where
  pred-ends : Acyclic v live → (y : ℕ) → live y → Ends (pred v) y
  pred-ends a y l = up y l (a y l)
    where
      up : (y : ℕ) → live y → Ends (v par) y → Ends (pred v) y
      up y l stop = stop
      up y l (step h r) = go (place v live F H y l) (λ w. up (v par y) w r)
        where
          go : Place v live F H y → (live (v par y) → Ends (pred v) (v par y)) → Ends (pred v) y
          go P ih =
              pred-along v (owner P.key) 0 (P.left ++ y ∷ P.right) 0 P.segment P.some (above P.key P.ok P.parent) y
              (rw (sym P.is, P.home) (H.members.placed y l))
            where
              above : (k : Key) → OwnerIn live k → v par y ≡ owner k → Ends (pred v) (owner k)
              above (roots j) ok e = stop
              above (children p) ok e = subst (Ends (pred v)) e (ih (subst live (sym e) ok))

  some-live : (y : ℕ) → (y ≡ 0) ⊎ live y → y ≢ 0 → live y
  some-live y (inl e) h = absurd (h e)
  some-live y (inr l) h = l

  pub found_of : (x : ℕ) → live x → (k : Link) → v k x ≢ 0 → live (v k x)
  found_of x l par h = let P = place v live F H x l in rw P.parent (some-live _ (owner-live live P.key P.ok) (λ q. h (P.parent ∙ q)))
  found_of x l prv h =
      let P = place v live F H x l in
      rw P.before (some-live _ (left-live v live F H P.key P.left (x ∷ P.right) P.is) (λ q. h (P.before ∙ q)))
  found_of x l nxt h =
      let P = place v live F H x l in
      rw P.after (some-live _ (right_of P P.right P.is) (λ q. h (P.after ∙ q)))
    where
      right_of : (P : Place v live F H x) (rs : List ℕ) → F P.key ≡ P.left ++ x ∷ rs → (head_or rs 0 ≡ 0) ⊎ live (head_or rs 0)
      right_of P [] e = inl refl
      right_of P (r ∷ rs) e = right-live v live F H P.key (P.left ++ x ∷ []) (r ∷ rs) (e ∙ sym (append_assoc P.left (x ∷ []) (r ∷ rs)))
  found_of x l fst h =
      let e = (H.chains (children x) l).first (H.members.some x l) in
      rw e (some-live _ (member-live v live F H (children x) _ (head_in (F (children x)))) (λ q. h (e ∙ q)))
  found_of x l lst h =
      let e = (H.chains (children x) l).last (H.members.some x l) in
      rw e (some-live _ (member-live v live F H (children x) _ (last_in 0 (F (children x)))) (λ q. h (e ∙ q)))

  -- what the ends of a child chain say, by the list's form
  record ChildEnds (x : ℕ) : Type 0 where
    both : (v fst x ≡ 0) ↔ (v lst x ≡ 0)
    first : v fst x ≢ 0 → (v par (v fst x) ≡ x) × (v prv (v fst x) ≡ 0)
    last : v lst x ≢ 0 → (v par (v lst x) ≡ x) × (v nxt (v lst x) ≡ 0)

  child-ends : (x : ℕ) → live x → ChildEnds x
  child-ends x l = go (F (children x)) (H.chains (children x) l) (zero_off live F H.members (children x))
    where
      go : (xs : List ℕ) → Chain v x xs → Off 0 xs → ChildEnds x
      go [] c z =
          let f = c.first (H.members.some x l) in let g = c.last (H.members.some x l) in
          record { both = (λ _. g, λ _. f); first = λ h. absurd (h f); last = λ h. absurd (h g) }
      go (a ∷ xs) c z =
          let f = c.first (H.members.some x l) in let g = c.last (H.members.some x l) in
          record {
            both = (λ q. absurd (z.0 (sym q ∙ f)), λ q. absurd (last_some a xs z (sym g ∙ q)));
            first = λ _. rw f (c.segment.0, c.segment.1);
            last = λ _. rw g (seg-last (v par) (v prv) (v nxt) x 0 a xs 0 c.segment);
          }

  after_of : (x : ℕ) (P : Place v live F H x) → v nxt x ≢ 0 → (v prv (v nxt x) ≡ x) × (v par (v nxt x) ≡ v par x)
  after_of x P h = go P.right P.after (seg-right (v par) (v prv) (v nxt) (owner P.key) 0 P.left (x ∷ P.right) 0 P.segment)
    where
      go : (rs : List ℕ) → v nxt x ≡ head_or rs 0 → Segment (v par) (v prv) (v nxt) (owner P.key) (last_or 0 P.left) (x ∷ rs) 0
          → (v prv (v nxt x) ≡ x) × (v par (v nxt x) ≡ v par x)
      go [] e s = absurd (h e)
      go (r ∷ rs) e s = rw e (s.3.1, s.3.0 ∙ sym P.parent)

  before_of : (x : ℕ) (P : Place v live F H x) → v prv x ≢ 0 → v nxt (v prv x) ≡ x
  before_of x P h = go P.left P.before (seg-left (v par) (v prv) (v nxt) (owner P.key) 0 P.left (x ∷ P.right) 0 P.segment)
    where
      go : (ls : List ℕ) → v prv x ≡ last_or 0 ls → Segment (v par) (v prv) (v nxt) (owner P.key) 0 ls x → v nxt (v prv x) ≡ x
      go [] e s = absurd (h e)
      go (a ∷ ls) e s = rw e (seg-last (v par) (v prv) (v nxt) (owner P.key) 0 a ls x s).1

  leads_of : (x : ℕ) (P : Place v live F H x) → v prv x ≡ 0 → v par x ≢ 0 → v fst (v par x) ≡ x
  leads_of x P ep hq = go P.key P.ok P.parent P.left P.before P.is P.some
    where
      go : (k : Key) → OwnerIn live k → v par x ≡ owner k → (ls : List ℕ) → v prv x ≡ last_or 0 ls → F k ≡ ls ++ x ∷ P.right
          → Off 0 (ls ++ x ∷ P.right)
          → v fst (v par x) ≡ x
      go (roots j) ok e ls b q z = absurd (hq e)
      go (children p) ok e [] b q z = ap (v fst) e ∙ (H.chains (children p) ok).first (H.members.some p ok) ∙ ap (λ (xs : List ℕ). head_or xs 0) q
      go (children p) ok e (a ∷ ls) b q z = absurd (last_some a ls (off-left 0 (a ∷ ls) (x ∷ P.right) z) (sym b ∙ ep))

  holds_local : Local v live
  holds_local = record {
    found = found_of;
    both = λ x l. (child-ends x l).both;
    first = λ x l. (child-ends x l).first;
    last = λ x l. (child-ends x l).last;
    after = λ x l. after_of x (place v live F H x l);
    before = λ x l. before_of x (place v live F H x l);
    leads = λ x l. leads_of x (place v live F H x l);
  }

  pub holds-sound : Nodes live → Acyclic v live → SoundLinks v live
  holds-sound N a = tests-sound v live N holds_local (pred-ends a)
