-- What the tests of a single read and of set come to, by their cases; the slot of a node that is named lies within the memory.
use Rattle.std.specs.Prelude.{◌≡◌, Bool, not, ℕ, ◌*◌, ◌<◌, ◌≤◌, length, Result}
use Rattle.std.specs.Result.{IsErrAnd}
use Rattle.std.proofs.Math.Path.{refl, ap}
use Rattle.std.proofs.Common.{sym, ◌∙◌, arith, eq-eqb, ne_eqb, lt-ltb, le-ltb, ltb-false}
use Rattle.std.proofs.Math.Bool.{true, false}
use mathlib.Core.List.{List}
use Rattle.std.proofs.Math.Dec.{ltb}
use Rattle.link.specs.Ids.{slot_of}
use Rattle.link.specs.Words.{width, NUMBER, capacity_of, link, set_link}
use Rattle.link.specs.Found.{found_b}
use Rattle.link.specs.FoundLaws.{found_is}
use Rattle.link.specs.declared.header.Header.{Header}
use Rattle.rules.specs.Answers.{DONE, FRAME, REMOVED, refusal, refusal_no, reply, reply_of, reply_done}
use Rattle.rules.specs.declared.answer.Refusal.{Refusal}
use Rattle.rules.specs.declared.answer.Reply.{Reply}
use Rattle.rules.proofs.AnswerLaws.{refused-not_done, reply-refused}
use Rattle.sound.specs.GuardLaws.{capacity-fits}
use Rattle.arena.specs.Reads.{named_no, read_word, set_number}

module _ (m : List ℕ) (h : Header) (id : ℕ) where
  pub named-frame : capacity_of (length m) < h.used → named_no m h id ≡ FRAME
  unfolding named_no refusal
  named-frame l = simp (lt-ltb (capacity_of (length m)) h.used l)

  pub named-done : h.used ≤ capacity_of (length m) → found_b m h.used id ≡ true → named_no m h id ≡ DONE
  unfolding named_no refusal
  named-done l e = simp (le-ltb (capacity_of (length m)) h.used l, e)

  pub named-removed : h.used ≤ capacity_of (length m) → found_b m h.used id ≡ false → named_no m h id ≡ REMOVED
  unfolding named_no refusal
  named-removed l e = simp (le-ltb (capacity_of (length m)) h.used l, e)

  -- DONE says both tests passed;
  pub named_is : named_no m h id ≡ DONE → (h.used ≤ capacity_of (length m)) × (found_b m h.used id ≡ true)
  unfolding named_no refusal
  named_is e = by (ltb (capacity_of (length m)) h.used) (found_b m h.used id) refl refl e
    where
      by : (a b : Bool) → ltb (capacity_of (length m)) h.used ≡ a → found_b m h.used id ≡ b
          → refusal a false false false (not b) false false false ≡ DONE
          → (h.used ≤ capacity_of (length m)) × (found_b m h.used id ≡ true)
      by true b p q t = absurd (omega arith)
      by false true p q t = (ltb-false (capacity_of (length m)) h.used p, q)
      by false false p q t = absurd (omega arith)

  -- and then the slot lies within the memory.
  pub named-slot : named_no m h id ≡ DONE → (0 < slot_of id) × (slot_of id * width ≤ length m)
  named-slot e =
      let f = found_is m h.used id (named_is e).1 in
      let w = (capacity-fits (length m) h.used (named_is e).0).1 in
      let a = f.from in
      let b = f.upto in
      (omega arith, omega arith)

  pub read_done : (k : ℕ) {n r : ℕ} → n ≡ named_no m h id → n ≡ DONE → r ≡ link m id k → reply n r ≡ read_word k m h id
  unfolding read_word
  read_done k {n} {r} e d g =
      simp (eq-eqb (named_no m h id) DONE (sym e ∙ d)) (ap (λ (x : ℕ). reply x r) d ∙ ap (reply DONE) g)

  pub read-refused : (k : ℕ) {n : ℕ} → n ≡ named_no m h id → (n ≡ DONE → ⊥) → reply n 0 ≡ read_word k m h id
  unfolding read_word
  read-refused k e d = simp (ne_eqb (named_no m h id) DONE (λ (z : named_no m h id ≡ DONE). d (e ∙ z))) (ap (λ (x : ℕ). reply x 0) e)

  pub set-done : (v : ℕ) {n : ℕ} {m₁ : List ℕ} → n ≡ named_no m h id → n ≡ DONE → m₁ ≡ set_link m id NUMBER v → (m₁, reply n 0) ≡ set_number m h id v
  unfolding set_number
  set-done v {n} e d g =
      simp (eq-eqb (named_no m h id) DONE (sym e ∙ d))
      (ap (λ (x : List ℕ). (x, reply n 0)) g ∙ ap (λ (x : ℕ). (set_link m id NUMBER v, reply x 0)) d)

  pub set-refused : (v : ℕ) {n : ℕ} → n ≡ named_no m h id → (n ≡ DONE → ⊥) → (m, reply n 0) ≡ set_number m h id v
  unfolding set_number
  set-refused v e d = simp (ne_eqb (named_no m h id) DONE (λ (z : named_no m h id ≡ DONE). d (e ∙ z))) (ap (λ (x : ℕ). (m, reply x 0)) e)

  -- The same at the exit of a `?`: r is what is handed back, and e the refusal in it.
  pub read-err : (k : ℕ) (r : Result ℕ Refusal) (e : Refusal) → refusal_no e ≡ named_no m h id → IsErrAnd r (λ y. y ≡ e) → reply_of r ≡ read_word k m h id
  read-err k r e n w = reply-refused (λ n. n) r e w ∙ read-refused k n (refused-not_done e)

  pub set-err : (v : ℕ) (r : Result Unit Refusal) (e : Refusal) → refusal_no e ≡ named_no m h id → IsErrAnd r (λ y. y ≡ e) → (m, reply_done r) ≡ set_number m h id v
  set-err v r e n w = ap (λ (x : Reply). (m, x)) (reply-refused (λ _. 0) r e w) ∙ set-refused v n (refused-not_done e)

-- For what names one identifier.
pub ruleset naming = (named-frame, named-done, named-removed, read_done, set-done)
