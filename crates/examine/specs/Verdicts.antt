-- The two questions that a verdict answers: whether memory is sound, with spent slots on the free chain or without; and whether it is
-- ready. Ready memory is sound.
use Rattle.std.specs.Prelude.{◌≡◌, refl, Bool, true, false}
use Rattle.examine.specs.declared.chain.Verdict.{Verdict}
use Rattle.examine.specs.declared.chain.Verdict.TheVariants.{Unsound, Spent, Ready}

abbrev pub sound_b : Verdict → Bool
sound_b Unsound = false
sound_b Spent = true
sound_b Ready = true

abbrev pub ready_b : Verdict → Bool
ready_b Unsound = false
ready_b Spent = false
ready_b Ready = true

pub ready-sound : (v : Verdict) → ready_b v ≡ true → sound_b v ≡ true
ready-sound Unsound e = e
ready-sound Spent e = refl
ready-sound Ready e = refl
