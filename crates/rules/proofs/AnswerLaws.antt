-- A result and its number say the same: a refusal's number is not DONE, and no two refusals share one. And what the exit of a `?` answers.
use Rattle.std.specs.Prelude.{◌≡◌, ◌↔◌, refl, ℕ, zero, suc, Bool, true, false, cond, Result, Ok, Err}
use Rattle.std.specs.Result.{IsErrAnd}
use Rattle.std.proofs.Common.{ap, sym, ◌∙◌, arith}
use Rattle.std.proofs.lemmas.Result.{err_from_is_err_and}
use Rattle.link.specs.declared.header.Header.{Header}
use Rattle.rules.specs.declared.answer.Refusal.{Refusal}
use Rattle.rules.specs.declared.answer.Refusal.TheVariants as Is
use Rattle.rules.specs.declared.answer.Created.{Created}
use Rattle.rules.specs.declared.answer.Reply.{Reply}
use Rattle.rules.specs.declared.answer.Answer.{Answer}
use Rattle.rules.specs.Answers.{DONE, reply, answer, refusal_no, reply_by, reply_of, reply_done, reply_yes, number_in, answer_by, answer_kept, answer_changed, answer_created}

pub refused-not_done : (e : Refusal) → refusal_no e ≡ DONE → ⊥
refused-not_done Is.Frame q = omega arith
refused-not_done Is.Scratch q = omega arith
refused-not_done Is.Invalid q = omega arith
refused-not_done Is.Removed q = omega arith
refused-not_done Is.SelfMove q = omega arith
refused-not_done Is.Ancestor q = omega arith
refused-not_done Is.Full q = omega arith
refused-not_done Is.Room q = omega arith
refused-not_done Is.Command q = omega arith
refused-not_done Is.Part q = omega arith
refused-not_done Is.Mark q = omega arith
refused-not_done Is.Version q = omega arith
refused-not_done Is.Length q = omega arith

-- The refusal that a number stands for; what it gives for other numbers is not used.
abbrev refusal_at : ℕ → Refusal
refusal_at (suc zero) = Is.Frame
refusal_at (suc (suc zero)) = Is.Scratch
refusal_at (suc (suc (suc zero))) = Is.Invalid
refusal_at (suc (suc (suc (suc zero)))) = Is.Removed
refusal_at (suc (suc (suc (suc (suc zero))))) = Is.SelfMove
refusal_at (suc (suc (suc (suc (suc (suc zero)))))) = Is.Ancestor
refusal_at (suc (suc (suc (suc (suc (suc (suc zero))))))) = Is.Full
refusal_at (suc (suc (suc (suc (suc (suc (suc (suc zero)))))))) = Is.Room
refusal_at (suc (suc (suc (suc (suc (suc (suc (suc (suc zero))))))))) = Is.Command
refusal_at (suc (suc (suc (suc (suc (suc (suc (suc (suc (suc zero)))))))))) = Is.Part
refusal_at (suc (suc (suc (suc (suc (suc (suc (suc (suc (suc (suc zero))))))))))) = Is.Mark
refusal_at (suc (suc (suc (suc (suc (suc (suc (suc (suc (suc (suc (suc zero)))))))))))) = Is.Version
refusal_at n = Is.Length

refusal_at-no : (e : Refusal) → refusal_at (refusal_no e) ≡ e
refusal_at-no Is.Frame = refl
refusal_at-no Is.Scratch = refl
refusal_at-no Is.Invalid = refl
refusal_at-no Is.Removed = refl
refusal_at-no Is.SelfMove = refl
refusal_at-no Is.Ancestor = refl
refusal_at-no Is.Full = refl
refusal_at-no Is.Room = refl
refusal_at-no Is.Command = refl
refusal_at-no Is.Part = refl
refusal_at-no Is.Mark = refl
refusal_at-no Is.Version = refl
refusal_at-no Is.Length = refl

pub refusal_no-one : (d e : Refusal) → refusal_no d ≡ refusal_no e → d ≡ e
refusal_no-one d e q = sym (refusal_at-no d) ∙ ap refusal_at q ∙ refusal_at-no e

pub number-done : (r : Result Unit Refusal) → (number_in r ≡ DONE) ↔ (r ≡ Ok tt)
number-done (Ok x) = (λ _. refl, λ _. refl)
number-done (Err e) = (λ q. absurd (refused-not_done e q), λ q. cc)

pub number_in-one : (r s : Result Unit Refusal) → number_in r ≡ number_in s → r ≡ s
number_in-one (Ok x) (Ok y) q = refl
number_in-one (Ok x) (Err e) q = absurd (refused-not_done e (sym q))
number_in-one (Err d) (Ok y) q = absurd (refused-not_done d q)
number_in-one (Err d) (Err e) q = ap (λ x. Err x) (refusal_no-one d e q)

-- Where two values never count as the same number, what is handed back is known from its numbers.
pub reply_by-one : {A : Type 0} (value : A → ℕ) → ((x y : A) → value x ≡ value y → x ≡ y) → (r s : Result A Refusal) → reply_by value r ≡ reply_by value s → r ≡ s
reply_by-one value one (Ok x) (Ok y) q = ap (λ z. Ok z) (one x y (ap (λ (p : Reply). p.result) q))
reply_by-one value one (Ok x) (Err e) q = absurd (refused-not_done e (sym (ap (λ (p : Reply). p.number) q)))
reply_by-one value one (Err d) (Ok y) q = absurd (refused-not_done d (ap (λ (p : Reply). p.number) q))
reply_by-one value one (Err d) (Err e) q = ap (λ x. Err x) (refusal_no-one d e (ap (λ (p : Reply). p.number) q))

pub reply_of-one : (r s : Result ℕ Refusal) → reply_of r ≡ reply_of s → r ≡ s
reply_of-one = reply_by-one (λ n. n) (λ x y q. q)

pub reply_done-one : (r s : Result Unit Refusal) → reply_done r ≡ reply_done s → r ≡ s
reply_done-one = reply_by-one (λ _. 0) (λ x y q. refl)

bit-one : (a b : Bool) → ◌≡◌ {A = ℕ} (cond a 1 0) (cond b 1 0) → a ≡ b
bit-one true true q = refl
bit-one true false q = absurd (omega arith)
bit-one false true q = absurd (omega arith)
bit-one false false q = refl

pub reply_yes-one : (r s : Result Bool Refusal) → reply_yes r ≡ reply_yes s → r ≡ s
reply_yes-one = reply_by-one (λ b. cond b 1 0) bit-one

-- Yes is the result 1, and nothing else is.
pub yes-result : (r : Result Bool Refusal) → ((reply_yes r).result ≡ 1) ↔ (r ≡ Ok true)
yes-result (Ok true) = (λ _. refl, λ _. refl)
yes-result (Ok false) = (λ q. absurd (omega arith), λ q. cc)
yes-result (Err e) = (λ q. absurd (omega arith), λ q. cc)

-- The same with the header, where the header after and the number tell two values apart.
pub answer_by-one : {A : Type 0} (after : Header → A → Header) (value : A → ℕ) (h : Header)
    → ((x y : A) → after h x ≡ after h y → value x ≡ value y → x ≡ y)
    → (r s : Result A Refusal) → answer_by after value h r ≡ answer_by after value h s → r ≡ s
answer_by-one after value h one (Ok x) (Ok y) q = ap (λ z. Ok z) (one x y (ap (λ (p : Answer). p.header) q) (ap (λ (p : Answer). p.result) q))
answer_by-one after value h one (Ok x) (Err e) q = absurd (refused-not_done e (sym (ap (λ (p : Answer). p.number) q)))
answer_by-one after value h one (Err d) (Ok y) q = absurd (refused-not_done d (ap (λ (p : Answer). p.number) q))
answer_by-one after value h one (Err d) (Err e) q = ap (λ x. Err x) (refusal_no-one d e (ap (λ (p : Answer). p.number) q))

pub answer_kept-one : (h : Header) (r s : Result Unit Refusal) → answer_kept h r ≡ answer_kept h s → r ≡ s
answer_kept-one h = answer_by-one (λ h _. h) (λ _. 0) h (λ x y p q. refl)

pub answer_changed-one : (h : Header) (r s : Result Header Refusal) → answer_changed h r ≡ answer_changed h s → r ≡ s
answer_changed-one h = answer_by-one (λ _ after. after) (λ _. 0) h (λ x y p q. p)

pub answer_created-one : (h : Header) (r s : Result Created Refusal) → answer_created h r ≡ answer_created h s → r ≡ s
answer_created-one h = answer_by-one (λ _ (c : Created). c.header) (λ (c : Created). c.id) h (λ x y p q. ap (λ k. made k x.id) p ∙ ap (λ i. made y.header i) q)
  where
    made : Header → ℕ → Created
    made k i = record { header = k; id = i }

-- At the exit of a `?`, e being the refusal that a call before it answered.
pub number-refused : (r : Result Unit Refusal) (e : Refusal) → IsErrAnd r (λ y. y ≡ e) → number_in r ≡ refusal_no e
number-refused r e w = let p = err_from_is_err_and r w in rw (p.1, p.2)

pub reply-refused : {A : Type 0} (value : A → ℕ) (r : Result A Refusal) (e : Refusal) → IsErrAnd r (λ y. y ≡ e)
    → reply_by value r ≡ reply (refusal_no e) 0
reply-refused value r e w = let p = err_from_is_err_and r w in rw (p.1, p.2)

pub answer-refused : {A : Type 0} (after : Header → A → Header) (value : A → ℕ) (h : Header) (r : Result A Refusal) (e : Refusal)
    → IsErrAnd r (λ y. y ≡ e) → answer_by after value h r ≡ answer h (refusal_no e) 0
answer-refused after value h r e w = let p = err_from_is_err_and r w in rw (p.1, p.2)
