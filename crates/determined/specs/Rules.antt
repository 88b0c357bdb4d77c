-- Crate rules: what a call hands back, and the same in numbers. Its public functions, each with one outcome.
-- Excluded: a refusal counted as another's number; a header free to change where a call is refused.
use denote.RattleType.{RattleType}
use denote.Param.Laws.{Laws, IsCopy}
use mir.Syntax.{Dict}
use Rattle.std.specs.declared.clone.Clone.{Ghosts}
use Rattle.rules.specs.declared.answer.Outcome.{Ghosts as ValueGhosts}
use Rattle.determined.specs.Outcome.{OneOutcome, one_value}
use Rattle.rules.proofs.answer.U32FromRefusal.from as number_from
use Rattle.rules.proofs.answer.ReplyFromResultRefusal.from as reply_from
use Rattle.rules.proofs.answer.Answer.of
use Rattle.rules.proofs.answer.UnitOutcome.value as unit_value
use Rattle.rules.proofs.answer.UnitOutcome.after as unit_after
use Rattle.rules.proofs.answer.U32Outcome.value as u32_value
use Rattle.rules.proofs.answer.U32Outcome.after as u32_after
use Rattle.rules.proofs.answer.BoolOutcome.value as bool_value
use Rattle.rules.proofs.answer.BoolOutcome.after as bool_after
use Rattle.rules.proofs.answer.HeaderOutcome.value as header_value
use Rattle.rules.proofs.answer.HeaderOutcome.after as header_after
use Rattle.rules.proofs.answer.CreatedOutcome.value as created_value
use Rattle.rules.proofs.answer.CreatedOutcome.after as created_after

pub one-number_from : OneOutcome number_from.Kinds.ps number_from.Kinds.r number_from.Reads.Learnt
one-number_from _ _ _ _ = one_value (λ t. (t, (tt, tt)))

-- Of any type of values that a call hands back.
module _ (T : RattleType) (L : Laws T) (C : IsCopy T) (V : ValueGhosts T.Denot) (D : Dict) (G : Ghosts T.Denot) (E : Dict) where
  pub one-reply_from : OneOutcome (reply_from.Kinds.ps T L C) (reply_from.Kinds.r T L C) (reply_from.Reads.Learnt T L C V D G E)
  one-reply_from _ _ _ _ = one_value (λ t. (t, (tt, tt)))

  pub one-of : OneOutcome (of.Kinds.ps T L C) (of.Kinds.r T L C) (of.Reads.Learnt T L C V D G E)
  one-of _ _ _ _ = one_value (λ t. (t, (tt, (tt, tt))))

-- The types that do.
pub one-unit_value : OneOutcome unit_value.Kinds.ps unit_value.Kinds.r unit_value.Reads.Learnt
one-unit_value _ _ _ _ = one_value (λ t. (t, (tt, tt)))

pub one-unit_after : OneOutcome unit_after.Kinds.ps unit_after.Kinds.r unit_after.Reads.Learnt
one-unit_after _ _ _ _ = one_value (λ t. (t, (tt, (tt, tt))))

pub one-u32_value : OneOutcome u32_value.Kinds.ps u32_value.Kinds.r u32_value.Reads.Learnt
one-u32_value _ _ _ _ = one_value (λ t. (t, (tt, tt)))

pub one-u32_after : OneOutcome u32_after.Kinds.ps u32_after.Kinds.r u32_after.Reads.Learnt
one-u32_after _ _ _ _ = one_value (λ t. (t, (tt, (tt, tt))))

pub one-bool_value : OneOutcome bool_value.Kinds.ps bool_value.Kinds.r bool_value.Reads.Learnt
one-bool_value _ _ _ _ = one_value (λ t. (t, (tt, tt)))

pub one-bool_after : OneOutcome bool_after.Kinds.ps bool_after.Kinds.r bool_after.Reads.Learnt
one-bool_after _ _ _ _ = one_value (λ t. (t, (tt, (tt, tt))))

pub one-header_value : OneOutcome header_value.Kinds.ps header_value.Kinds.r header_value.Reads.Learnt
one-header_value _ _ _ _ = one_value (λ t. (t, (tt, tt)))

pub one-header_after : OneOutcome header_after.Kinds.ps header_after.Kinds.r header_after.Reads.Learnt
one-header_after _ _ _ _ = one_value (λ t. (t, (tt, (tt, tt))))

pub one-created_value : OneOutcome created_value.Kinds.ps created_value.Kinds.r created_value.Reads.Learnt
one-created_value _ _ _ _ = one_value (λ t. (t, (tt, tt)))

pub one-created_after : OneOutcome created_after.Kinds.ps created_after.Kinds.r created_after.Reads.Learnt
one-created_after _ _ _ _ = one_value (λ t. (t, (tt, (tt, tt))))
