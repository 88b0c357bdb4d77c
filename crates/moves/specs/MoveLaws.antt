-- What the calls of a move hand back, put together; and each number answered, by its case.
use Rattle.std.specs.Prelude.{◌≡◌, refl, true, false, ℕ, ◌+◌, Result}
use Rattle.std.proofs.Common.{sym, ◌∙◌, eq-eqb, ne_eqb}
use Rattle.std.proofs.Math.Path.{ap}
use Rattle.std.specs.Result.{IsErrAnd}
use mathlib.Core.List.{List}
use Rattle.link.specs.Siblings.{insert_with_neighbors}
use Rattle.link.specs.Found.{found_b}
use Rattle.link.specs.declared.header.Header.{Header}
use Rattle.link.specs.declared.siblings_range.ConsistencyError.{ConsistencyError}
use Rattle.rules.specs.Answers.{DONE, REMOVED, SELF, ANCESTOR, refusal, answer, refusal_no, answer_kept}
use Rattle.rules.specs.declared.answer.Refusal.{Refusal}
use Rattle.rules.proofs.AnswerLaws.{refused-not_done, answer-refused}
use Rattle.moves.specs.Places.{spot}
use Rattle.moves.specs.Detach.{detach}
use Rattle.moves.specs.Moves.{ancestor_b, move_no, move_words, move_node}
use Rattle.moves.specs.declared.place.Place.{Place}
use Rattle.moves.specs.declared.place.Spot.{Spot}

pub move-made : (place : Place) (n : ℕ) (m : List ℕ) (target moved : ℕ) {m₁ m₂ : List ℕ} {to : Spot} {said : Result Unit ConsistencyError} → m₁ ≡ detach m moved
    → to ≡ spot place m₁ target → (m₂, said) ≡ insert_with_neighbors n m₁ moved to.parent to.previous to.next
    → m₂ ≡ move_words place n m target moved
unfolding move_words
move-made place n m target moved {m₁} {m₂} {to} {said} e f g =
    ap (λ (p : List ℕ × Result Unit ConsistencyError). p.0) g
    ∙ ap (λ (s : Spot). (insert_with_neighbors n m₁ moved s.parent s.previous s.next).0) f
    ∙ ap (λ (w : List ℕ). (insert_with_neighbors n w moved (spot place w target).parent (spot place w target).previous (spot place w target).next).0) e

module _ (m : List ℕ) (h : Header) (target moved : ℕ) where
  pub move-self : target ≡ moved → move_no m h target moved ≡ SELF
  unfolding move_no refusal
  move-self e = simp (eq-eqb target moved e)

  pub move-lost : (target ≡ moved → ⊥) → found_b m h.used target ≡ false → move_no m h target moved ≡ REMOVED
  unfolding move_no refusal
  move-lost n e = simp (ne_eqb target moved n, e)

  module _ (n : target ≡ moved → ⊥) (e : found_b m h.used target ≡ true) where
    pub move-removed : found_b m h.used moved ≡ false → move_no m h target moved ≡ REMOVED
    unfolding move_no refusal
    move-removed f = simp (ne_eqb target moved n, e, f)

    pub move_ancestor : found_b m h.used moved ≡ true → ancestor_b m h target moved ≡ true → move_no m h target moved ≡ ANCESTOR
    unfolding move_no refusal
    move_ancestor f g = simp (ne_eqb target moved n, e, f, g)

    pub move-done : found_b m h.used moved ≡ true → ancestor_b m h target moved ≡ false → move_no m h target moved ≡ DONE
    unfolding move_no refusal
    move-done f g = simp (ne_eqb target moved n, e, f, g)

  pub moved-done : (place : Place) {no : ℕ} {m₁ : List ℕ} → no ≡ move_no m h target moved → no ≡ DONE
      → m₁ ≡ move_words place (h.used + 1) m target moved → (m₁, answer h no 0) ≡ move_node place m h target moved
  unfolding move_node
  moved-done place {no} e d g =
      simp (eq-eqb (move_no m h target moved) DONE (sym e ∙ d)) (ap (λ (w : List ℕ). (w, answer h no 0)) g
      ∙ ap (λ (x : ℕ). (move_words place (h.used + 1) m target moved, answer h x 0)) d)

  pub moved-refused : (place : Place) {no : ℕ} → no ≡ move_no m h target moved → (no ≡ DONE → ⊥) → (m, answer h no 0) ≡ move_node place m h target moved
  unfolding move_node
  moved-refused place e d =
      simp (ne_eqb (move_no m h target moved) DONE (λ (z : move_no m h target moved ≡ DONE). d (e ∙ z))) (ap (λ (x : ℕ). (m, answer h x 0)) e)

  -- At the exit of a `?` on the number, whose refusal e is what the move answers.
  pub moved-err : (place : Place) (r : Result Unit Refusal) (e : Refusal) → refusal_no e ≡ move_no m h target moved → IsErrAnd r (λ y. y ≡ e)
      → (m, answer_kept h r) ≡ move_node place m h target moved
  moved-err place r e n w =
      ap (λ x. (m, x)) (answer-refused (λ h _. h) (λ _. 0) h r e w) ∙ moved-refused place n (refused-not_done e)

-- P8 of document 01, for each move and every identifier: two equal identifiers are SELF, found or not.
pub P8 : (place : Place) (m : List ℕ) (h : Header) (id : ℕ) → move_node place m h id id ≡ (m, answer h SELF 0)
unfolding move_node move_no refusal
P8 place m h id = simp (eq-eqb id id refl)
