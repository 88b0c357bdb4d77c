-- Storing a list's members one after another, from the first place on, writes it; one more store at a time.
use Rattle.std.specs.Prelude.{◌≡◌, List, ◌∷◌, ◌++◌, ℕ, ◌+◌, ◌≤◌, length, drop, set}
use Rattle.std.proofs.Common.{ap, ◌∙◌, add-one, arith}
use Rattle.std.proofs.lemmas.List.Edits.{sets, sets-eq}
use Rattle.walk.specs.Written.{written}

pub sets-written : (xs places : List ℕ) → length xs ≤ length places → sets places 0 xs ≡ written xs places
unfolding written
sets-written xs places h =
    let z : 0 + length xs ≡ length xs = omega arith in
    sets-eq xs places 0 (omega arith) ∙ ap (λ (k : ℕ). xs ++ drop k places) z

pub sets_more : (places : List ℕ) (i x : ℕ) (xs : List ℕ) → sets (set places i x) (i + 1) xs ≡ sets places i (x ∷ xs)
sets_more places i x xs = rw add-one
