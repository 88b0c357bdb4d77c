-- `used` steps are enough to come to none along any function that stays at found nodes.
-- From the pigeonhole: the nodes met are distinct, so their slots are, and those are within used.
use Rattle.std.specs.Prelude.{◌≡◌, refl, ◌≢◌, ℕ, zero, suc, ◌≤◌, length}
use Rattle.std.proofs.Common.{ap, suc-le-suc, zero-le, arith}
use mathlib.Core.List.{List, [], ◌∷◌}
use Rattle.link.specs.Ids.{slot_of}
use Rattle.link.specs.Found.{Found}
use Rattle.rules.specs.Lists.{Off, NoDup, All}
use Rattle.follow.specs.Pigeons.{Below, pigeons}
use Rattle.follow.specs.Follow.{EndsIn, path, path_nodup, path-length}
use Rattle.forest.specs.Found.{found_one}

slots : List ℕ → List ℕ
slots [] = []
slots (x ∷ xs) = slot_of x ∷ slots xs

slots_length : (xs : List ℕ) → length (slots xs) ≡ length xs
unfolding slots
slots_length [] = refl
slots_length (x ∷ xs) = ap suc (slots_length xs)

module _ (m : List ℕ) (used : ℕ) where
  slots_off : (x : ℕ) → Found m used x → (xs : List ℕ) → All (Found m used) xs → Off x xs → Off (slot_of x) (slots xs)
  unfolding slots
  slots_off x f [] a o = tt
  slots_off x f (y ∷ xs) a o = ((λ e. o.0 (found_one m used x y f a.0 e)), slots_off x f xs a.1 o.1)

  slots_nodup : (xs : List ℕ) → All (Found m used) xs → NoDup xs → NoDup (slots xs)
  unfolding slots
  slots_nodup [] a n = tt
  slots_nodup (x ∷ xs) a n = (slots_off x a.0 xs a.1 n.0, slots_nodup xs a.1 n.1)

  slots-below : (xs : List ℕ) → All (Found m used) xs → Below (suc used) (slots xs)
  unfolding slots
  slots-below [] a = tt
  slots-below (x ∷ xs) a = (suc-le-suc a.0.upto, slots-below xs a.1)

  slots-some : (xs : List ℕ) → All (Found m used) xs → Off 0 (slots xs)
  unfolding slots
  slots-some [] a = tt
  slots-some (x ∷ xs) a = ((λ e. let b = a.0.from in omega arith), slots-some xs a.1)

  -- distinct found nodes are at most used
  pub found-few : (xs : List ℕ) → All (Found m used) xs → NoDup xs → length xs ≤ used
  found-few xs a n =
      let p = pigeons (suc used) (0 ∷ slots xs) (suc-le-suc zero-le, slots-below xs a) (slots-some xs a, slots_nodup xs a n) in
      let e = slots_length xs in
      omega arith

  module _ (f : ℕ → ℕ) (closed : (y : ℕ) → Found m used y → f y ≢ 0 → Found m used (f y)) where
    path-live : (n y : ℕ) → (y ≢ 0 → Found m used y) → EndsIn f n y → All (Found m used) (path f n y)
    path-live zero y l a = tt
    path-live (suc n) y l a = (l a.0, path-live n (f y) (closed y (l a.0)) a.1)

    pub steps-few : (n y : ℕ) → (y ≢ 0 → Found m used y) → EndsIn f n y → n ≤ used
    steps-few n y l a =
        let p = found-few (path f n y) (path-live n y l a) (path_nodup f n y a) in
        let e = path-length f n y in
        omega arith
