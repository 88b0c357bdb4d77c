-- Ready memory after a found node was taken out of its chain: the node stands alone, the parents of others are the same, and the
-- parent that it had still has the children that stood before and behind it.
use Rattle.std.specs.Prelude.{◌≡◌, ◌≢◌, List, [], ◌∷◌, ℕ, ◌*◌, ◌≤◌, length}
use Rattle.std.proofs.Common.{sym, ap, ◌∙◌, subst}
use Rattle.link.specs.Words.{width, PARENT, PREVIOUS, NEXT, FIRST, LAST, link}
use Rattle.link.specs.Found.{Found}
use Rattle.link.specs.declared.header.Header.{Header}
use Rattle.rules.specs.Links.{par, prv, nxt, fst, lst, view}
use Rattle.rules.specs.Sound.{Ready}
use Rattle.rules.specs.Forest.{roots, Segment, Chain}
use Rattle.follow.specs.Point.{at, at_same, at_other}
use Rattle.forest.specs.View.{first_of, first_of-keep, connect, detach, detach_par}
use Rattle.forest.specs.Surgery.{detach_words}
use Rattle.forest.specs.DetachWords.{detached-alone, detach-sound}
use Rattle.removed.specs.Alone.{alone-looks}
use Rattle.splice.specs.Around.{parent-other, parent-first, parent-last}
use Rattle.splice.specs.Connects.{HasEnd}

-- An end that a neighbour's change leaves.
old-end : (end : ℕ → ℕ) (o p n : ℕ) → p ≢ 0 → end o ≢ 0 → at end o (first_of p n (end o)) o ≢ 0
old-end end o p n a b z = b (sym (first_of-keep p n (end o) a b) ∙ sym (at_same end o _) ∙ z)

module _ (m : List ℕ) (h : Header) (room : h.used * width ≤ length m) (R : Ready m h) (x : ℕ) (f : Found m h.used x) where
  pub taken-found : (y : ℕ) → Found m h.used y → Found (detach_words m x) h.used y
  taken-found y g = ((alone-looks m h room R x f).alive y).0 g

  pub taken-alone : Segment (view (detach_words m x) par) (view (detach_words m x) prv) (view (detach_words m x) nxt) 0 0 (x ∷ []) 0
  taken-alone =
      let (F, H, alone) = detached-alone m h room R.sound x f in
      (subst (Chain (view (detach_words m x)) 0) alone (H.chains (roots 0) tt)).segment

  pub taken-parent : (y : ℕ) → Found m h.used y → y ≢ x → link (detach_words m x) y PARENT ≡ link m y PARENT
  taken-parent y g n = (alone-looks m h room R x f).sees par y g ∙ detach_par (view m) x y ∙ at_other (view m par) x 0 y n

  -- its own ends
  own_first : link (detach_words m x) x FIRST ≡ link m x FIRST
  unfolding detach connect
  own_first = (alone-looks m h room R x f).sees fst x f ∙ at_other (view m fst) (link m x PARENT) _ x (λ e. parent-other m h R.sound x f (sym e))

  own-last : link (detach_words m x) x LAST ≡ link m x LAST
  unfolding detach connect
  own-last = (alone-looks m h room R x f).sees lst x f ∙ at_other (view m lst) (link m x PARENT) _ x (λ e. parent-other m h R.sound x f (sym e))

  -- the ends of its parent, where it had a neighbour on that side
  pub taken-first : HasEnd (detach_words m x) (link m x PARENT) (link m x PREVIOUS) FIRST
  unfolding detach connect
  taken-first a b z =
      old-end (view m fst) (link m x PARENT) (link m x PREVIOUS) (link m x NEXT) a (parent-first m h R.sound x f b)
      (sym ((alone-looks m h room R x f).sees fst (link m x PARENT) (R.sound.links.found x f par b)) ∙ z)

  pub taken-last : HasEnd (detach_words m x) (link m x PARENT) (link m x NEXT) LAST
  unfolding detach connect
  taken-last a b z =
      old-end (view m lst) (link m x PARENT) (link m x NEXT) (link m x PREVIOUS) a (parent-last m h R.sound x f b)
      (sym ((alone-looks m h room R x f).sees lst (link m x PARENT) (R.sound.links.found x f par b)) ∙ z)

  -- the node's own children are as they were: nothing before the first, nothing behind the last
  pub taken-kids : link m x FIRST ≢ 0 → (link (detach_words m x) (link m x FIRST) PREVIOUS ≡ 0) × (link (detach_words m x) (link m x LAST) NEXT ≡ 0)
  taken-kids some =
      let S = detach-sound m h room R.sound x f in
      let a : link (detach_words m x) x FIRST ≡ link m x FIRST = own_first in
      let b : link (detach_words m x) x LAST ≡ link m x LAST = own-last in
      let c = S.links.kids x (taken-found x f) (λ z. some (sym a ∙ z)) in
      (ap (λ (y : ℕ). link (detach_words m x) y PREVIOUS) (sym a) ∙ c.no-previous, ap (λ (y : ℕ). link (detach_words m x) y NEXT) (sym b) ∙ c.ends)
