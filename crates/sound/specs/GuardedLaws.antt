-- A guarded call, put together from what the guard said and what the work did: one law for each way out, whatever the work.
use Rattle.std.specs.Prelude.{◌≡◌, length, Result}
use Rattle.std.specs.Result.{IsErrAnd}
use Rattle.std.proofs.Common.{sym, ◌∙◌, eq-eqb, ne_eqb}
use Rattle.std.proofs.Math.Path.{ap}
use mathlib.Core.List.{List}
use Prim.Native.Nat.{ℕ}
use Rattle.link.specs.declared.header.Header.{Header}
use Rattle.rules.specs.Answers.{DONE, reply, answer, refusal_no, reply_by, answer_by}
use Rattle.rules.specs.declared.answer.Refusal.{Refusal}
use Rattle.rules.proofs.AnswerLaws.{refused-not_done, reply-refused, answer-refused}
use Rattle.rules.specs.declared.answer.Reply.{Reply}
use Rattle.rules.specs.declared.answer.Answer.{Answer}
use Rattle.sound.specs.Guard.{scratch_after, guard_no, guarded, guarded_read}

module _ (m : List ℕ) (h : Header) (s : List ℕ) {s₁ : List ℕ} {no : ℕ} (scratch : s₁ ≡ scratch_after m h s) (number : no ≡ guard_no m h (length s)) where
  pub passed : no ≡ DONE → guard_no m h (length s) ≡ DONE
  passed d = sym number ∙ d

  pub stopped : (no ≡ DONE → ⊥) → guard_no m h (length s) ≡ DONE → ⊥
  stopped n e = n (number ∙ e)

  pub guarded-done : {work : List ℕ × Answer} {m₁ : List ℕ} {r : Answer} → no ≡ DONE → (m₁, r) ≡ work → (m₁, s₁, r) ≡ guarded m h s work
  unfolding guarded
  guarded-done {work} {m₁} {r} d e =
      simp (eq-eqb (guard_no m h (length s)) DONE (passed d))
      (ap (λ (t : List ℕ). (m₁, t, r)) scratch ∙ ap (λ (w : List ℕ × Answer). (w.0, scratch_after m h s, w.1)) e)

  pub guarded-refused : (work : List ℕ × Answer) → (no ≡ DONE → ⊥) → (m, s₁, answer h no 0) ≡ guarded m h s work
  unfolding guarded
  guarded-refused work n =
      simp (ne_eqb (guard_no m h (length s)) DONE (stopped n))
      (ap (λ (t : List ℕ). (m, t, answer h no 0)) scratch ∙ ap (λ (k : ℕ). (m, scratch_after m h s, answer h k 0)) number)

  pub read-passed : {work r : Reply} → no ≡ DONE → r ≡ work → (s₁, r) ≡ guarded_read m h s work
  unfolding guarded_read
  read-passed {work} {r} d e = simp (eq-eqb (guard_no m h (length s)) DONE (passed d)) (ap (λ (t : List ℕ). (t, r)) scratch ∙ ap (λ (x : Reply). (scratch_after m h s, x)) e)

  pub read-stopped : (work : Reply) → (no ≡ DONE → ⊥) → (s₁, reply no 0) ≡ guarded_read m h s work
  unfolding guarded_read
  read-stopped work n =
      simp (ne_eqb (guard_no m h (length s)) DONE (stopped n))
      (ap (λ (t : List ℕ). (t, reply no 0)) scratch ∙ ap (λ (k : ℕ). (scratch_after m h s, reply k 0)) number)

  -- At the exit of a `?` on the guard, whose refusal e is what the call answers.
  pub guarded-err : {A : Type 0} (after : Header → A → Header) (value : A → ℕ) (work : List ℕ × Answer) (r : Result A Refusal) (e : Refusal)
      → no ≡ refusal_no e → IsErrAnd r (λ y. y ≡ e) → (m, s₁, answer_by after value h r) ≡ guarded m h s work
  guarded-err after value work r e n w =
      ap (λ x. (m, s₁, x)) (answer-refused after value h r e w ∙ ap (λ k. answer h k 0) (sym n))
      ∙ guarded-refused work (λ d. refused-not_done e (sym n ∙ d))

  pub read-err : {A : Type 0} (value : A → ℕ) (work : Reply) (r : Result A Refusal) (e : Refusal)
      → no ≡ refusal_no e → IsErrAnd r (λ y. y ≡ e) → (s₁, reply_by value r) ≡ guarded_read m h s work
  read-err value work r e n w =
      ap (λ x. (s₁, x)) (reply-refused value r e w ∙ ap (λ k. reply k 0) (sym n))
      ∙ read-stopped work (λ d. refused-not_done e (sym n ∙ d))
