-- Two walks compared, one step at a time; and the whole call put together from its parts.
-- From the definitions alone.
use Rattle.std.specs.Prelude.{◌≡◌, Bool, length, Result}
use Rattle.std.specs.Result.{IsErrAnd}
use Rattle.std.proofs.Common.{sym, ◌∙◌}
use Rattle.std.proofs.Math.Path.{ap}
use Rattle.std.proofs.Math.Bool.{true, false, cond}
use mathlib.Core.List.{List}
use Prim.Native.Nat.{ℕ, suc, ◌+◌, ◌*◌, ◌≤◌}
use native.Mathlib.Omega.{arith}
use borrow.Author.Tests.{eq-eqb, ne_eqb}
use Rattle.link.specs.Found.{found_b}
use Rattle.link.specs.declared.header.Header.{Header}
use Rattle.rules.specs.Answers.{DONE, REMOVED, refusal, reply, refusal_no, reply_by}
use Rattle.rules.specs.declared.answer.Refusal.{Refusal}
use Rattle.rules.specs.declared.answer.Reply.{Reply}
use Rattle.rules.proofs.AnswerLaws.{refused-not_done, reply-refused}
use Rattle.sound.specs.Guard.{scratch_after, guard_no, guarded_read}
use Rattle.walk.specs.declared.edge.Edge.{Edge}
use Rattle.walk.specs.declared.edge.Edge.TheVariants.{Start}
use Rattle.subtree.specs.declared.Together.{Together}
use Rattle.subtree.specs.Compare.{by_together, compare_step, compare_run, compared, subtrees_compared}

module _ (n : ℕ) (m : List ℕ) (x : ℕ) (e : Edge) (m' : List ℕ) (y : ℕ) (f : Edge) where
  pub compare-out : n ≤ 0 → compare_run n m x e m' y f ≡ false
  unfolding compare_run
  compare-out h = let z : n ≡ 0 = omega arith in rw z

  pub compare-step : {s : Together} (k : ℕ) → n ≡ k + 1 → s ≡ compare_step m x e m' y f
      → compare_run n m x e m' y f ≡ by_together (λ g i. compare_run k m x g m' y i) true false s
  unfolding compare_run
  compare-step {s} k h q = let z : n ≡ suc k = omega arith in rw (z, q)

module _ (m : List ℕ) (used x : ℕ) (m' : List ℕ) (used' y : ℕ) where
  pub compared-first : found_b m used x ≡ false → reply REMOVED 0 ≡ compared m used x m' used' y
  unfolding compared refusal
  compared-first f = simp f

  pub compared-second : found_b m used x ≡ true → found_b m' used' y ≡ false → reply REMOVED 0 ≡ compared m used x m' used' y
  unfolding compared refusal
  compared-second f g = simp (f, g)

  pub compared-done : found_b m used x ≡ true → found_b m' used' y ≡ true → {equal : Bool} {result : ℕ}
      → equal ≡ compare_run (2 * used + 1) m x (Start x) m' y (Start y) → result ≡ cond equal 1 0 → reply DONE result ≡ compared m used x m' used' y
  unfolding compared refusal
  compared-done f g e r = simp (f, g) (ap (reply DONE) (r ∙ ap (λ (b : Bool). cond b 1 0) e))

-- The guard of the first memory, and what is left to do where it lets the call through.
module _ (m : List ℕ) (h : Header) (x : ℕ) (m' : List ℕ) (h' : Header) (y : ℕ) (s : List ℕ) {s₁ : List ℕ} {no : ℕ}
    (after : s₁ ≡ scratch_after m h s) (said : no ≡ guard_no m h (length s)) where
  pub subtrees-err : {A : Type 0} (value : A → ℕ) (r : Result A Refusal) (e : Refusal) → no ≡ refusal_no e → IsErrAnd r (λ d. d ≡ e)
      → (s₁, reply_by value r) ≡ subtrees_compared m h x m' h' y s
  unfolding subtrees_compared
  subtrees-err value r e n w =
      let t : reply_by value r ≡ reply (guard_no m h (length s)) 0 = reply-refused value r e w ∙ ap (λ k. reply k 0) (sym n ∙ said) in
      simp (ne_eqb (guard_no m h (length s)) DONE (λ d. refused-not_done e (sym n ∙ said ∙ d))) (cc)

  pub subtrees-then : no ≡ DONE → guarded_read m' h' s₁ (compared m h.used x m' h'.used y) ≡ subtrees_compared m h x m' h' y s
  unfolding subtrees_compared
  subtrees-then d =
      simp (eq-eqb (guard_no m h (length s)) DONE (sym said ∙ d)) (ap (λ (t : List ℕ). guarded_read m' h' t (compared m h.used x m' h'.used y)) after)

  pub subtrees-first : (no ≡ DONE → ⊥) → (s₁, reply no 0) ≡ subtrees_compared m h x m' h' y s
  unfolding subtrees_compared
  subtrees-first d = simp (ne_eqb (guard_no m h (length s)) DONE (λ e. d (said ∙ e))) (cc)

  pub subtrees-second : {s₂ : List ℕ} {no' : ℕ} → no ≡ DONE → s₂ ≡ scratch_after m' h' s₁ → no' ≡ guard_no m' h' (length s₁) → (no' ≡ DONE → ⊥)
      → (s₂, reply no' 0) ≡ subtrees_compared m h x m' h' y s
  unfolding subtrees_compared guarded_read
  subtrees-second {s₂} {no'} d after' said' d' =
      let u : s₂ ≡ scratch_after m' h' (scratch_after m h s) = after' ∙ ap (scratch_after m' h') after in
      let v : no' ≡ guard_no m' h' (length (scratch_after m h s)) = said' ∙ ap (λ (l : List ℕ). guard_no m' h' (length l)) after in
      simp (eq-eqb (guard_no m h (length s)) DONE (sym said ∙ d), ne_eqb (guard_no m' h' (length (scratch_after m h s))) DONE (λ e. d' (v ∙ e))) (cc)

  pub subtrees-done : {s₂ : List ℕ} {no' : ℕ} {r : Reply} → no ≡ DONE → s₂ ≡ scratch_after m' h' s₁ → no' ≡ guard_no m' h' (length s₁) → no' ≡ DONE
      → r ≡ compared m h.used x m' h'.used y → (s₂, r) ≡ subtrees_compared m h x m' h' y s
  unfolding subtrees_compared guarded_read
  subtrees-done {s₂} {no'} d after' said' d' e =
      let u : s₂ ≡ scratch_after m' h' (scratch_after m h s) = after' ∙ ap (scratch_after m' h') after in
      let v : no' ≡ guard_no m' h' (length (scratch_after m h s)) = said' ∙ ap (λ (l : List ℕ). guard_no m' h' (length l)) after in
      simp (eq-eqb (guard_no m h (length s)) DONE (sym said ∙ d), eq-eqb (guard_no m' h' (length (scratch_after m h s))) DONE (sym v ∙ d')) (cc)
