-- What the calls of a value form hand back, put together, by the number that the creation answers.
use Rattle.std.specs.Prelude.{◌≡◌, Bool, cond, Result}
use Rattle.std.specs.Result.{IsErrAnd}
use Rattle.std.proofs.Math.Path.{refl, sym, ap}
use Rattle.std.proofs.Common.{◌∙◌}
use Rattle.std.proofs.Math.Bool.{true, false}
use mathlib.Core.List.{List}
use Prim.Native.Nat.{ℕ, ◌+◌}
use Rattle.std.proofs.Math.Dec.{eqb}
use borrow.Author.Tests.{eq-eqb, ne_eqb, eqb-true}
use Rattle.link.specs.Found.{found_b}
use Rattle.link.specs.declared.header.Header.{Header}
use Rattle.link.specs.declared.siblings_range.ConsistencyError.{ConsistencyError}
use Rattle.rules.specs.Answers.{DONE, REMOVED, refusal, answer, refusal_no, answer_created}
use Rattle.rules.specs.declared.answer.Refusal.{Refusal}
use Rattle.rules.specs.declared.answer.Created.{Created}
use Rattle.rules.proofs.AnswerLaws.{refused-not_done, answer-refused}
use Rattle.rules.specs.declared.answer.Answer.{Answer}
use Rattle.arena.specs.Create.{create_no, fresh, reused, new_node}
use Rattle.moves.specs.Values.{put_new, value_no, value_node}
use Rattle.moves.specs.declared.place.Place.{Place}

module _ (m : List ℕ) (h : Header) (number : ℕ) where
  -- A creation answers DONE or FULL, by its test.
  pub new-number : (new_node m h number).1.number ≡ create_no m h
  unfolding new_node fresh reused
  new-number = by (eqb (create_no m h) DONE) (eqb h.first 0) refl
    where
      by : (a b : Bool) → eqb (create_no m h) DONE ≡ a
          → (cond {A = List ℕ × Answer} a (cond b (fresh m h number) (reused m h number)) (m, answer h (create_no m h) 0)).1.number ≡ create_no m h
      by true true e = sym (eqb-true (create_no m h) DONE e)
      by true false e = sym (eqb-true (create_no m h) DONE e)
      by false b e = refl

  pub new-refused : (create_no m h ≡ DONE → ⊥) → new_node m h number ≡ (m, answer h (create_no m h) 0)
  unfolding new_node
  new-refused n = simp (ne_eqb (create_no m h) DONE n)

module _ (m : List ℕ) (h : Header) (target : ℕ) where
  -- Where the target is found, what is left is the creation's test.
  pub value_found : found_b m h.used target ≡ true → value_no m h target ≡ create_no m h
  unfolding value_no refusal
  value_found e = simp e

  module _ (place : Place) (number : ℕ) where
    pub value-removed : found_b m h.used target ≡ false → (m, answer h REMOVED 0) ≡ value_node place m h target number
    unfolding value_node value_no refusal
    value-removed e = simp e

    pub value_made : {m₁ m₂ : List ℕ} {made : Answer} {said : Result Unit ConsistencyError} → found_b m h.used target ≡ true → (m₁, made) ≡ new_node m h number
        → made.number ≡ DONE → (m₂, said) ≡ put_new place (h.used + 1) m₁ target made.result
        → (m₂, made) ≡ value_node place m h target number
    unfolding value_node
    value_made {m₁} {m₂} {made} {said} e f d g =
        let done : value_no m h target ≡ DONE =
        value_found e ∙ sym (ap (λ (p : List ℕ × Answer). p.1.number) f ∙ new-number m h number) ∙ d in
        simp (eq-eqb (value_no m h target) DONE done)
        (ap (λ (p : List ℕ × Result Unit ConsistencyError). (p.0, made)) g
        ∙ ap (λ (p : List ℕ × Answer). ((put_new place (h.used + 1) p.0 target p.1.result).0, p.1)) f)

    pub value-full : {m₁ : List ℕ} {made : Answer} → found_b m h.used target ≡ true → (m₁, made) ≡ new_node m h number
        → (made.number ≡ DONE → ⊥) → (m₁, made) ≡ value_node place m h target number
    unfolding value_node
    value-full e f d =
        let is = ap (λ (p : List ℕ × Answer). p.1.number) f ∙ new-number m h number in
        let n : (create_no m h ≡ DONE → ⊥) = (λ z. d (is ∙ z)) in
        simp (value_found e, ne_eqb (create_no m h) DONE n) (f ∙ new-refused m h number n)

    -- At the exit of a `?` on the creation, whose refusal e is what the value form answers.
    pub value-err : {m₁ : List ℕ} (r : Result Created Refusal) (e : Refusal) → found_b m h.used target ≡ true → (m₁, answer h (refusal_no e) 0) ≡ new_node m h number
        → IsErrAnd r (λ y. y ≡ e) → (m₁, answer_created h r) ≡ value_node place m h target number
    value-err {m₁} r e f g w =
        ap (λ x. (m₁, x)) (answer-refused (λ _ (made : Created). made.header) (λ (made : Created). made.id) h r e w)
        ∙ value-full f g (refused-not_done e)
