-- The forest that links hold is the only one: two forests of one view have the same children of each node, and the same chain
-- around each node, root chains too, whose numbers mean nothing.
use Rattle.std.specs.Prelude.{◌≡◌, refl, ◌∷◌, ◌++◌, ℕ}
use Rattle.std.proofs.Common.{sym, ap, ap₂, ◌∙◌}
use Rattle.rules.specs.Lists.{last_or}
use Rattle.rules.specs.Links.{par, prv, nxt, View}
use Rattle.rules.specs.Forest.{children, owner, Forest, Holds}
use Rattle.forest.specs.Lists.{off-left, off-right}
use Rattle.forest.specs.Segments.{seg-left, seg-right, seg-forwards, seg-backwards}
use Rattle.forest.specs.Members.{zero_off}
use Rattle.forest.specs.Places.{Place, place}

module _ (v : View) (live : ℕ → Type 0) (F G : Forest) (H : Holds v live F) (K : Holds v live G) where
  pub children-only : (x : ℕ) → live x → F (children x) ≡ G (children x)
  children-only x l =
      let some = H.members.some x l in
      let c = H.chains (children x) l in let d = K.chains (children x) l in
      seg-forwards (v par) (v prv) (v nxt) x 0 x 0 (F (children x)) (G (children x)) c.segment d.segment
      (zero_off live F H.members (children x)) (zero_off live G K.members (children x)) (sym (c.first some) ∙ d.first some)

  pub chain-only : (y : ℕ) → live y → F (H.members.home y) ≡ G (K.members.home y)
  chain-only y l = ap F (sym P.home) ∙ P.is ∙ ap₂ ◌++◌ left right ∙ sym Q.is ∙ ap G Q.home
    where
      P : Place v live F H y
      P = place v live F H y l

      Q : Place v live G K y
      Q = place v live G K y l

      left : P.left ≡ Q.left
      left = seg-backwards (v par) (v prv) (v nxt) (owner P.key) (owner Q.key) y y P.left Q.left
          (seg-left (v par) (v prv) (v nxt) (owner P.key) 0 P.left (y ∷ P.right) 0 P.segment)
          (seg-left (v par) (v prv) (v nxt) (owner Q.key) 0 Q.left (y ∷ Q.right) 0 Q.segment)
          (off-left 0 P.left (y ∷ P.right) P.some) (off-left 0 Q.left (y ∷ Q.right) Q.some) (sym P.before ∙ Q.before)

      right : y ∷ P.right ≡ y ∷ Q.right
      right = seg-forwards (v par) (v prv) (v nxt) (owner P.key) (last_or 0 P.left) (owner Q.key) (last_or 0 Q.left) (y ∷ P.right) (y ∷ Q.right)
          (seg-right (v par) (v prv) (v nxt) (owner P.key) 0 P.left (y ∷ P.right) 0 P.segment)
          (seg-right (v par) (v prv) (v nxt) (owner Q.key) 0 Q.left (y ∷ Q.right) 0 Q.segment)
          (off-right 0 P.left (y ∷ P.right) P.some) (off-right 0 Q.left (y ∷ Q.right) Q.some) refl
