-- Load, commands and batches where they refuse, and what they leave of the scratch.
use Rattle.std.specs.Prelude.{◌≡◌, Bool, true, false, cond, not, ◌||◌, List, [], ◌∷◌, ℕ, ◌*◌, eqb, ltb, length}
use Rattle.std.proofs.Math.Path.{refl}
use Rattle.std.proofs.Common.{inl, inr}
use Rattle.link.specs.Words.{width, capacity_of}
use Rattle.rules.specs.Answers.{DONE, SCRATCH, INVALID, ROOM, MARK, VERSION, LENGTH, answer}
use Rattle.rules.specs.Lists.{In}
use Rattle.rules.specs.declared.answer.Answer.{Answer}
use Rattle.examine.specs.Scratch.{zeroed}
use Rattle.examine.specs.Verdicts.{sound_b}
use Rattle.examine.specs.Examination.{examined}
use Rattle.arena.specs.Reads.{cleared}
use Rattle.image.specs.Image.{version, prefix, image_length, marked_b, version_in, used_in, header_in, words_in}
use Rattle.image.specs.Load.{load_refusal, load_no_with, load_no, loaded}
use Rattle.first_demands.specs.RefusalLaws.{by_cond}

abbrev pub load_numbers : List ℕ
load_numbers = DONE ∷ LENGTH ∷ MARK ∷ VERSION ∷ ROOM ∷ SCRATCH ∷ INVALID ∷ []

tests_in : (a b c d e f g : Bool) → In (load_refusal a b c d e f g) load_numbers
unfolding load_refusal
tests_in true b c d e f g = inr (inl refl)
tests_in false true c d e f g = inr (inr (inl refl))
tests_in false false true d e f g = inr (inr (inr (inl refl)))
tests_in false false false true e f g = inr (inl refl)
tests_in false false false false true f g = inr (inr (inr (inr (inl refl))))
tests_in false false false false false true g = inr (inr (inr (inr (inr (inl refl)))))
tests_in false false false false false false true = inr (inr (inr (inr (inr (inr (inl refl))))))
tests_in false false false false false false false = inl refl

module _ (bytes words scratch : List ℕ) where
  abbrev number : ℕ
  number = load_no bytes (length words) (length scratch)

  number_in : In (load_no bytes (length words) (length scratch)) load_numbers
  unfolding load_no load_no_with
  number_in =
      tests_in (ltb (length bytes) prefix) (not (marked_b bytes)) (not (eqb (version_in bytes) version))
      (not (eqb (length bytes) (image_length (used_in bytes)))) (ltb (capacity_of (length words)) (used_in bytes)) (ltb (length scratch) (2 * used_in bytes))
      (not (sound_b (examined (words_in bytes) (header_in bytes))))

  -- A number among load's; refused, the words as document 01 says, the header all zero; and the scratch by the number.
  abbrev pub FairLoad : List ℕ × List ℕ × Answer → Type 0
  FairLoad r =
      let n = r.2.number in
      In n load_numbers
      × ((n ≡ DONE → ⊥) → (r.0 ≡ cond (eqb n INVALID) (zeroed (width * used_in bytes) words) words) × (r.2 ≡ answer cleared n 0))
      × (r.1 ≡ cond (eqb n DONE || eqb n INVALID) (zeroed (2 * used_in bytes) scratch) scratch)

  pub fair-loaded : FairLoad (loaded bytes words scratch)
  unfolding loaded
  fair-loaded =
      by_cond FairLoad (eqb number DONE)
      (λ _. (inl refl, (λ n. absurd (n refl)), refl))
      (λ d. by_cond FairLoad (eqb number INVALID)
      (λ _. (inr (inr (inr (inr (inr (inr (inl refl)))))), (λ _. (refl, refl)), refl))
      (λ i. (number_in, (λ _. (simp i, refl)), simp (d, i))))
