-- Laws of a segment of siblings: its two parts and their joint, what a write elsewhere leaves, a new start and a new end; the links
-- of one member; and one list only, read forwards from its first or backwards from its last.
use Rattle.std.specs.Prelude.{◌≡◌, refl, ℕ}
use Rattle.std.proofs.Common.{sym, ap, ◌∙◌}
use mathlib.Core.List.{List, [], ◌∷◌, ◌++◌, reverse, reverse_aux, reverse-reverse}
use Rattle.rules.specs.Lists.{head_or, last_or, Off, NoDup}
use Rattle.rules.specs.Sound.{Linked}
use Rattle.rules.specs.Forest.{Segment}
use Rattle.forest.specs.Lists.{head-append, off-last}
use Rattle.follow.specs.Point.{at, at_same, at_other}
use Rattle.forest.specs.Free.{linked-only}

module _ (p q n : ℕ → ℕ) where
  pub seg-left : (o b : ℕ) (ls rs : List ℕ) (e : ℕ) → Segment p q n o b (ls ++ rs) e → Segment p q n o b ls (head_or rs e)
  seg-left o b [] rs e s = tt
  seg-left o b (a ∷ ls) rs e s = (s.0, s.1, s.2 ∙ head-append ls rs e, seg-left o a ls rs e s.3)

  pub seg-right : (o b : ℕ) (ls rs : List ℕ) (e : ℕ) → Segment p q n o b (ls ++ rs) e → Segment p q n o (last_or b ls) rs e
  seg-right o b [] rs e s = s
  seg-right o b (a ∷ ls) rs e s = seg-right o a ls rs e s.3

  pub seg-join : (o b : ℕ) (ls rs : List ℕ) (e : ℕ) → Segment p q n o b ls (head_or rs e) → Segment p q n o (last_or b ls) rs e
      → Segment p q n o b (ls ++ rs) e
  seg-join o b [] rs e s t = t
  seg-join o b (a ∷ ls) rs e s t = (s.0, s.1, s.2 ∙ sym (head-append ls rs e), seg-join o a ls rs e s.3 t)

  pub seg-last : (o b x : ℕ) (xs : List ℕ) (e : ℕ) → Segment p q n o b (x ∷ xs) e → (p (last_or x xs) ≡ o) × (n (last_or x xs) ≡ e)
  seg-last o b x [] e s = (s.0, s.2)
  seg-last o b x (y ∷ ys) e s = seg-last o x y ys e s.3

  -- a write at a node that is no member
  pub seg_nxt_off : (o b : ℕ) (xs : List ℕ) (e l a : ℕ) → Off l xs → Segment p q n o b xs e → Segment p q (at n l a) o b xs e
  seg_nxt_off o b [] e l a h s = tt
  seg_nxt_off o b (x ∷ xs) e l a h s = (s.0, s.1, at_other n l a x (λ r. h.0 (sym r)) ∙ s.2, seg_nxt_off o x xs e l a h.1 s.3)

  pub seg_prv_off : (o b : ℕ) (xs : List ℕ) (e l a : ℕ) → Off l xs → Segment p q n o b xs e → Segment p (at q l a) n o b xs e
  seg_prv_off o b [] e l a h s = tt
  seg_prv_off o b (x ∷ xs) e l a h s = (s.0, at_other q l a x (λ r. h.0 (sym r)) ∙ s.1, s.2, seg_prv_off o x xs e l a h.1 s.3)

  pub seg_par_off : (o b : ℕ) (xs : List ℕ) (e l a : ℕ) → Off l xs → Segment p q n o b xs e → Segment (at p l a) q n o b xs e
  seg_par_off o b [] e l a h s = tt
  seg_par_off o b (x ∷ xs) e l a h s = (at_other p l a x (λ r. h.0 (sym r)) ∙ s.0, s.1, s.2, seg_par_off o x xs e l a h.1 s.3)

  -- the end is tied to another
  pub seg-set-end : (o b : ℕ) (xs : List ℕ) (e e' : ℕ) → NoDup xs → Off b xs → Segment p q n o b xs e → Segment p q (at n (last_or b xs) e') o b xs e'
  seg-set-end o b [] e e' h k s = tt
  seg-set-end o b (x ∷ []) e e' h k s = (s.0, s.1, at_same n x e', tt)
  seg-set-end o b (x ∷ y ∷ ys) e e' h k s =
      (s.0, s.1, at_other n (last_or y ys) e' x (off-last x y ys h.0) ∙ s.2, seg-set-end o x (y ∷ ys) e e' h.1 h.0 s.3)

  -- the start is tied to another
  pub seg-set-start : (o b b' : ℕ) (xs : List ℕ) (e : ℕ) → NoDup xs → Segment p q n o b xs e → Segment p (at q (head_or xs 0) b') n o b' xs e
  seg-set-start o b b' [] e h s = tt
  seg-set-start o b b' (x ∷ xs) e h s = (s.0, at_same q x b', s.2, seg_prv_off o x xs e x b' h.0 s.3)

  seg-linked : (o b : ℕ) (xs : List ℕ) → Segment p q n o b xs 0 → Linked n xs
  seg-linked o b [] s = tt
  seg-linked o b (x ∷ xs) s = (s.2, seg-linked o x xs s.3)

  -- one list only, from its first member
  pub seg-forwards : (o b o' b' : ℕ) (xs ys : List ℕ) → Segment p q n o b xs 0 → Segment p q n o' b' ys 0 → Off 0 xs → Off 0 ys
      → head_or xs 0 ≡ head_or ys 0 → xs ≡ ys
  seg-forwards o b o' b' xs ys s t z w e = linked-only n xs ys (seg-linked o b xs s) (seg-linked o' b' ys t) z w e

  -- turned round, it is linked by previous
  turned : (o b : ℕ) (xs : List ℕ) (e : ℕ) (acc : List ℕ) → Segment p q n o b xs e → Linked q acc → b ≡ head_or acc 0 → Linked q (reverse_aux xs acc)
  turned o b [] e acc s l h = l
  turned o b (x ∷ xs) e acc s l h = turned o x xs e (x ∷ acc) s.3 (s.1 ∙ h, l) refl

turned-head : (xs acc : List ℕ) (b : ℕ) → b ≡ head_or acc 0 → head_or (reverse_aux xs acc) 0 ≡ last_or b xs
turned-head [] acc b h = sym h
turned-head (x ∷ xs) acc b h = turned-head xs (x ∷ acc) x refl

turned_off : (xs acc : List ℕ) → Off 0 xs → Off 0 acc → Off 0 (reverse_aux xs acc)
turned_off [] acc z w = w
turned_off (x ∷ xs) acc z w = turned_off xs (x ∷ acc) z.1 (z.0, w)

-- one list only, from its last member
pub seg-backwards : (p q n : ℕ → ℕ) (o o' e e' : ℕ) (xs ys : List ℕ) → Segment p q n o 0 xs e → Segment p q n o' 0 ys e' → Off 0 xs → Off 0 ys
    → last_or 0 xs ≡ last_or 0 ys → xs ≡ ys
seg-backwards p q n o o' e e' xs ys s t z w h =
    sym (reverse-reverse xs)
    ∙ ap reverse (linked-only q (reverse xs) (reverse ys) (turned p q n o 0 xs e [] s tt refl) (turned p q n o' 0 ys e' [] t tt refl)
    (turned_off xs [] z tt) (turned_off ys [] w tt) (turned-head xs [] 0 refl ∙ h ∙ sym (turned-head ys [] 0 refl)))
    ∙ reverse-reverse ys
