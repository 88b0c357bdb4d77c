-- The loop that scatters a node's children, on words: with a step for each child and one more, memory looks as the children cut
-- loose say; stamps and numbers stay, and no word beyond the slots in use is written.
use Rattle.std.specs.Prelude.{◌≡◌, refl, Bool, true, false, cond, eqb, length}
use Rattle.std.proofs.Common.{sym, ap, ◌∙◌, inr, not-suc-le-zero, arith, eq-eqb, ne_eqb}
use mathlib.Core.List.{List, [], ◌∷◌}
use Prim.Native.Nat.{ℕ, zero, suc, ◌<◌}
use Rattle.link.specs.Ids.{slot_of}
use Rattle.link.specs.Words.{width, PARENT, PREVIOUS, NEXT, FIRST, LAST, link, set_link}
use Rattle.link.specs.WordLaws.{length-set_link, set_link-slot}
use Rattle.link.proofs.OnlyLaws.{only-link, only_then}
use Rattle.rules.specs.Lists.{head_or, Off, NoDup, All}
use Rattle.rules.specs.Links.{Link, par, prv, nxt, fst, lst, View}
use Rattle.rules.specs.Sound.{Linked}
use Rattle.rules.specs.Forest.{Segment}
use Rattle.follow.specs.Point.{at, at_other}
use Rattle.forest.specs.View.{upd}
use Rattle.forest.specs.Found.{Nodes}
use Rattle.forest.specs.Insert.{all_at}
use Rattle.forest.specs.Looks.{Looks, looks_write}
use Rattle.forest.specs.Kept.{Kept, only_kept}
use Rattle.moves.specs.Detach.{scatter, detach_children}
use Rattle.keeps_moves.specs.Past.{Past, past-then}
use Rattle.keeps_moves.specs.Singles.{cut}

-- ---- stamps and numbers

kept_then : (a b c : List ℕ) → Kept a b → Kept b c → Kept a c
kept_then a b c p q s = ((q s).0 ∙ (p s).0, (q s).1 ∙ (p s).1)

kept-scatter : (n : ℕ) (m : List ℕ) (c : ℕ) → Kept m (scatter n m c)
unfolding scatter
kept-scatter zero m c = λ s. (refl, refl)
kept-scatter (suc n) m c = go (eqb c 0) (kept-scatter n (set_link (set_link (set_link m c NEXT 0) c PREVIOUS 0) c PARENT 0) (link m c NEXT))
  where
    m₃ : List ℕ
    m₃ = set_link (set_link (set_link m c NEXT 0) c PREVIOUS 0) c PARENT 0

    go : (b : Bool) → Kept m₃ (scatter n m₃ (link m c NEXT)) → Kept m (cond b m (scatter n m₃ (link m c NEXT)))
    go true ih = λ s. (refl, refl)
    go false ih =
        kept_then m m₃ (scatter n m₃ (link m c NEXT))
        (only_kept (only_then (only-link m c NEXT 0 (omega arith) (omega arith))
        (only_then (only-link _ c PREVIOUS 0 (omega arith) (omega arith)) (only-link _ c PARENT 0 (omega arith) (omega arith))))) ih

pub kept-children : (n : ℕ) (m : List ℕ) (x : ℕ) → Kept m (detach_children n m x)
unfolding detach_children
kept-children n m x =
    kept_then m (set_link (set_link m x FIRST 0) x LAST 0) _
    (only_kept (only_then (only-link m x FIRST 0 (omega arith) (omega arith)) (only-link _ x LAST 0 (omega arith) (omega arith))))
    (kept-scatter n _ (link m x FIRST))

length-scatter : (n : ℕ) (m : List ℕ) (c : ℕ) → length (scatter n m c) ≡ length m
unfolding scatter
length-scatter zero m c = refl
length-scatter (suc n) m c = go (eqb c 0) (length-scatter n (set_link (set_link (set_link m c NEXT 0) c PREVIOUS 0) c PARENT 0) (link m c NEXT))
  where
    m₃ : List ℕ
    m₃ = set_link (set_link (set_link m c NEXT 0) c PREVIOUS 0) c PARENT 0

    go : (b : Bool) → length (scatter n m₃ (link m c NEXT)) ≡ length m₃ → length (cond b m (scatter n m₃ (link m c NEXT))) ≡ length m
    go true ih = refl
    go false ih = ih ∙ simp length-set_link

pub length-children : (n : ℕ) (m : List ℕ) (x : ℕ) → length (detach_children n m x) ≡ length m
unfolding detach_children
length-children n m x = length-scatter n _ (link m x FIRST) ∙ simp length-set_link

-- ---- links

-- each of cs has lost parent, previous and next
abbrev loose : View → List ℕ → View
loose v cs par = all_at (v par) cs 0
loose v cs prv = all_at (v prv) cs 0
loose v cs nxt = all_at (v nxt) cs 0
loose v cs fst = v fst
loose v cs lst = v lst

loose_none : (v : View) → loose v [] ≡ v
unfolding all_at
loose_none v = λ i k. at-link k i
  where
    at-link : (k : Link) → loose v [] k ≡ v k
    at-link par = refl
    at-link prv = refl
    at-link nxt = refl
    at-link fst = refl
    at-link lst = refl

loose-more : (v : View) (c : ℕ) (cs : List ℕ) → loose v (c ∷ cs) ≡ loose (upd (upd (upd v nxt c 0) prv c 0) par c 0) cs
unfolding all_at
loose-more v c cs = λ i k. at-link k i
  where
    at-link : (k : Link) → loose v (c ∷ cs) k ≡ loose (upd (upd (upd v nxt c 0) prv c 0) par c 0) cs k
    at-link par = refl
    at-link prv = refl
    at-link nxt = refl
    at-link fst = refl
    at-link lst = refl

loose-cut : (v : View) (x : ℕ) (cs : List ℕ) → loose (upd (upd v fst x 0) lst x 0) cs ≡ cut v x cs
loose-cut v x cs = λ i k. at-link k i
  where
    at-link : (k : Link) → loose (upd (upd v fst x 0) lst x 0) cs k ≡ cut v x cs k
    at-link par = refl
    at-link prv = refl
    at-link nxt = refl
    at-link fst = refl
    at-link lst = refl

linked_off : (f : ℕ → ℕ) (a : ℕ) (cs : List ℕ) → Off a cs → Linked f cs → Linked (at f a 0) cs
linked_off f a [] o l = tt
linked_off f a (c ∷ cs) o l = (at_other f a 0 c (λ q. o.0 (sym q)) ∙ l.0, linked_off f a cs o.1 l.1)

segment-linked : (p q n : ℕ → ℕ) (o b : ℕ) (xs : List ℕ) → Segment p q n o b xs 0 → Linked n xs
segment-linked p q n o b [] s = tt
segment-linked p q n o b (x ∷ xs) s = (s.2, segment-linked p q n o x xs s.3)

-- one of them
abbrev freed : List ℕ → ℕ → List ℕ
freed m c = set_link (set_link (set_link m c NEXT 0) c PREVIOUS 0) c PARENT 0

module _ (live : ℕ → Type 0) (N : Nodes live) (used : ℕ) where
  past_write : (m : List ℕ) (v : View) (k x : ℕ) → k < width → live x → Looks m live used v → Past used m (set_link m x k 0)
  past_write m v k x a l L s j b c = let f = ((L.alive x).0 l).upto in set_link-slot m x k 0 s j a c (omega arith) (λ (e : s ≡ slot_of x). omega arith)

  module _ (m : List ℕ) (v : View) (x : ℕ) (l : live x) (L : Looks m live used v) where
    one : Looks (set_link m x NEXT 0) live used (upd v nxt x 0)
    one = looks_write m live N used v nxt x 0 (inr l) L

    two : Looks (set_link (set_link m x NEXT 0) x PREVIOUS 0) live used (upd (upd v nxt x 0) prv x 0)
    two = looks_write _ live N used _ prv x 0 (inr l) one

    looks-freed : Looks (freed m x) live used (upd (upd (upd v nxt x 0) prv x 0) par x 0)
    looks-freed = looks_write _ live N used _ par x 0 (inr l) two

    past-freed : Past used m (freed m x)
    past-freed s j b c = past_write _ _ PARENT x (omega arith) l two s j b c ∙ past_write _ _ PREVIOUS x (omega arith) l one s j b c
        ∙ past_write m v NEXT x (omega arith) l L s j b c

  scattered : (cs : List ℕ) (n : ℕ) (m : List ℕ) (v : View) (c : ℕ) → c ≡ head_or cs 0 → Linked (v nxt) cs → All live cs → NoDup cs
      → length cs < n → Looks m live used v → Looks (scatter n m c) live used (loose v cs) × Past used m (scatter n m c)
  unfolding scatter
  scattered cs zero m v c e l a d h L = absurd (not-suc-le-zero h)
  scattered [] (suc n) m v c e l a d h L = simp (eq-eqb c 0 e) (rw (loose_none v) L, λ _ _ _ _. refl)
  scattered (x ∷ cs) (suc n) m v c e l a d h L =
      let r = scattered cs n (freed m c) (upd (upd (upd v nxt x 0) prv x 0) par x 0) (link m c NEXT)
      (ap (λ (z : ℕ). link m z NEXT) e ∙ L.sees nxt x a.0 ∙ l.0) (linked_off (v nxt) x cs d.0 l.1) a.1 d.1 (omega arith)
      (rw e (looks-freed m v x a.0 L)) in
      simp (ne_eqb c 0 (λ z. N.some x a.0 (sym e ∙ z)))
      (rw (loose-more v x cs) r.0, past-then used m (freed m c) _ (rw e (past-freed m v x a.0 L)) r.1)

  -- The whole: the node's own ends first, then its children.
  pub children-look : (cs : List ℕ) (n : ℕ) (m : List ℕ) (v : View) (x : ℕ) → live x → v fst x ≡ head_or cs 0
      → Segment (v par) (v prv) (v nxt) x 0 cs 0 → All live cs → NoDup cs
      → length cs < n → Looks m live used v → Looks (detach_children n m x) live used (cut v x cs) × Past used m (detach_children n m x)
  unfolding detach_children
  children-look cs n m v x lx e s a d h L =
      let first = looks_write m live N used v fst x 0 (inr lx) L in
      let ends = looks_write _ live N used _ lst x 0 (inr lx) first in
      let r = scattered cs n (set_link (set_link m x FIRST 0) x LAST 0) (upd (upd v fst x 0) lst x 0) (link m x FIRST) (L.sees fst x lx ∙ e)
      (segment-linked (v par) (v prv) (v nxt) x 0 cs s) a d h ends in (
        rw (sym (loose-cut v x cs)) r.0,
        λ s j b c. r.1 s j b c ∙ past_write _ _ LAST x (omega arith) lx first s j b c ∙ past_write m v FIRST x (omega arith) lx L s j b c,
      )
