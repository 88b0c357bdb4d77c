-- What a call of a walk hands back is known from its numbers.
use Rattle.std.specs.Prelude.{◌≡◌, ℕ, Result, Ok, Err}
use Rattle.std.proofs.Common.{ap, sym}
use Rattle.rules.specs.declared.answer.Refusal.{Refusal}
use Rattle.rules.proofs.AnswerLaws.{refused-not_done, refusal_no-one}
use Rattle.walk.specs.Walks.{Started, Walked, started_by, yielded_by, walked_by}
use Rattle.walk.specs.declared.walk.Traverse.{Traverse}
use Rattle.walk.specs.declared.walk.Yielded.{Yielded}

pub started_by-one : (root : ℕ) (r s : Result Traverse Refusal) → started_by root r ≡ started_by root s → r ≡ s
started_by-one root (Ok x) (Ok y) q = ap (λ w. Ok w) (ap (λ (a : Started). a.walk) q)
started_by-one root (Ok x) (Err e) q = absurd (refused-not_done e (sym (ap (λ (a : Started). a.number) q)))
started_by-one root (Err d) (Ok y) q = absurd (refused-not_done d (ap (λ (a : Started). a.number) q))
started_by-one root (Err d) (Err e) q = ap (λ x. Err x) (refusal_no-one d e (ap (λ (a : Started). a.number) q))

pub yielded_by-one : (x y : Yielded) → yielded_by x ≡ yielded_by y → x ≡ y
yielded_by-one x y q = ap (λ (a : Walked). told a.result a.walk) q
  where
    told : ℕ → Traverse → Yielded
    told count walk = record { count = count; walk = walk }

pub walked_by-one : (from : Traverse) (r s : Result Yielded Refusal) → walked_by from r ≡ walked_by from s → r ≡ s
walked_by-one from (Ok x) (Ok y) q = ap (λ z. Ok z) (yielded_by-one x y q)
walked_by-one from (Ok x) (Err e) q = absurd (refused-not_done e (sym (ap (λ (a : Walked). a.number) q)))
walked_by-one from (Err d) (Ok y) q = absurd (refused-not_done d (ap (λ (a : Walked). a.number) q))
walked_by-one from (Err d) (Err e) q = ap (λ x. Err x) (refusal_no-one d e (ap (λ (a : Walked). a.number) q))
