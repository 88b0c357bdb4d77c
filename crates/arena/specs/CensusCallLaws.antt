-- The census as a guarded call, put together from what the guard said and what was counted.
use Rattle.std.specs.Prelude.{◌≡◌, ℕ, length, Result, Ok, Err}
use Rattle.std.specs.Result.{IsErrAnd}
use Rattle.std.proofs.Math.Path.{ap}
use Rattle.std.proofs.Common.{sym, ◌∙◌, eq-eqb, ne_eqb}
use Rattle.std.proofs.lemmas.Result.{err_from_is_err_and}
use mathlib.Core.List.{List}
use Rattle.link.specs.declared.header.Header.{Header}
use Rattle.rules.specs.Answers.{DONE, refusal_no}
use Rattle.rules.specs.declared.answer.Refusal.{Refusal}
use Rattle.rules.proofs.AnswerLaws.{refused-not_done, refusal_no-one}
use Rattle.sound.specs.Guard.{scratch_after, guard_no}
use Rattle.sound.specs.GuardedLaws.{passed, stopped}
use Rattle.arena.specs.declared.census.Census.{Census}
use Rattle.arena.specs.Census.{Counted, census_of, counted, counted_of, no_census, census_call}

counted-refused : (r : Result Census Refusal) (e : Refusal) → IsErrAnd r (λ y. y ≡ e) → counted_of r ≡ counted (refusal_no e) no_census
counted-refused r e w = let p = err_from_is_err_and r w in rw (p.1, p.2)

-- What is handed back is known from its number and its census.
pub counted_of-one : (r s : Result Census Refusal) → counted_of r ≡ counted_of s → r ≡ s
counted_of-one (Ok x) (Ok y) q = ap (λ (z : Census). Ok z) (ap (λ (c : Counted). c.census) q)
counted_of-one (Ok x) (Err e) q = absurd (refused-not_done e (sym (ap (λ (c : Counted). c.number) q)))
counted_of-one (Err d) (Ok y) q = absurd (refused-not_done d (ap (λ (c : Counted). c.number) q))
counted_of-one (Err d) (Err e) q = ap (λ (z : Refusal). Err z) (refusal_no-one d e (ap (λ (c : Counted). c.number) q))

module _ (m : List ℕ) (h : Header) (s : List ℕ) {s₁ : List ℕ} {no : ℕ} (scratch : s₁ ≡ scratch_after m h s) (number : no ≡ guard_no m h (length s)) where
  pub census-passed : {c : Census} → no ≡ DONE → c ≡ census_of m h → (s₁, counted DONE c) ≡ census_call m h s
  unfolding census_call
  census-passed {c} d e =
      simp (eq-eqb (guard_no m h (length s)) DONE (passed m h s scratch number d))
      (ap (λ (t : List ℕ). (t, counted DONE c)) scratch ∙ ap (λ (x : Census). (scratch_after m h s, counted DONE x)) e)

  pub census-stopped : (no ≡ DONE → ⊥) → (s₁, counted no no_census) ≡ census_call m h s
  unfolding census_call
  census-stopped n =
      simp (ne_eqb (guard_no m h (length s)) DONE (stopped m h s scratch number n))
      (ap (λ (t : List ℕ). (t, counted no no_census)) scratch ∙ ap (λ (k : ℕ). (scratch_after m h s, counted k no_census)) number)

  -- At the exit of a `?` on the guard, whose refusal e is what the call answers.
  pub census-err : (r : Result Census Refusal) (e : Refusal) → no ≡ refusal_no e → IsErrAnd r (λ y. y ≡ e) → (s₁, counted_of r) ≡ census_call m h s
  census-err r e n w =
      ap (λ (x : Counted). (s₁, x)) (counted-refused r e w ∙ ap (λ (k : ℕ). counted k no_census) (sym n))
      ∙ census-stopped (λ d. refused-not_done e (sym n ∙ d))
