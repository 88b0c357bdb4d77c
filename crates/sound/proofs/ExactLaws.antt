-- What the guard and the validator answer, by a Result: done exactly on ready memory that fits, yes exactly on sound memory that fits.
use Rattle.std.specs.Prelude.{◌≡◌, ◌↔◌, Bool, true, List, ℕ, ◌*◌, ◌≤◌, length, Result, Ok}
use Rattle.std.proofs.Common.{sym, ◌∙◌}
use Rattle.link.specs.Words.{capacity_of}
use Rattle.link.specs.declared.header.Header.{Header}
use Rattle.rules.specs.Answers.{number_in, reply_yes}
use Rattle.rules.specs.Sound.{Sound, Ready}
use Rattle.rules.specs.declared.answer.Refusal.{Refusal}
use Rattle.rules.proofs.AnswerLaws.{number-done, yes-result}
use Rattle.sound.specs.Guard.{guard_no, validated}
use Rattle.sound.specs.GuardLaws.{guard-ready, validated_exact}

module _ (m : List ℕ) (h : Header) where
  pub guard_exact : {n : ℕ} (r : Result Unit Refusal) → number_in r ≡ guard_no m h n
      → (r ≡ Ok tt) ↔ ((h.used ≤ capacity_of (length m)) × (2 * h.used ≤ n) × Ready m h)
  guard_exact {n} r e =
      (λ d. (guard-ready m h n).0 (sym e ∙ (number-done r).1 d), λ w. (number-done r).0 (e ∙ (guard-ready m h n).1 w))

  pub yes_exact : (s : List ℕ) {s' : List ℕ} (r : Result Bool Refusal) → (s', reply_yes r) ≡ validated m h s
      → (r ≡ Ok true) ↔ ((h.used ≤ capacity_of (length m)) × (2 * h.used ≤ length s) × Sound m h)
  yes_exact s r e =
      let x = validated_exact m h s e in
      (λ d. x.0 ((yes-result r).1 d), λ w. (yes-result r).0 (x.1 w))
