-- Crate image: save and load. Its public functions, each with one outcome.
-- Excluded: an image with bytes to choose; a refused load whose words or header may be anything.
use Rattle.rules.specs.Answers.{number_in, reply_of, answer_changed}
use Rattle.rules.proofs.AnswerLaws.{number_in-one, reply_of-one, answer_changed-one}
use Rattle.determined.specs.Outcome.{OneOutcome, one_value, one_view, one_left, one-two_left}
use Rattle.image.proofs.format.image_length
use Rattle.image.proofs.format.marked
use Rattle.image.proofs.format.read_header
use Rattle.image.proofs.format.write_mark
use Rattle.image.proofs.format.write_prefix
use Rattle.image.proofs.load.admit
use Rattle.image.proofs.load.answered
use Rattle.image.proofs.load.settle
use Rattle.image.proofs.load.load
use Rattle.image.proofs.save.write_image
use Rattle.image.proofs.save.save
use Rattle.image.proofs.unlink.is_spent
use Rattle.image.proofs.unlink.bypass
use Rattle.image.proofs.unlink.unlink_exhausted_free_slots

pub one-image_length : OneOutcome image_length.Kinds.ps image_length.Kinds.r image_length.Reads.Learnt
one-image_length _ _ _ _ = one_value (λ t. (t, (tt, tt)))

pub one-marked : OneOutcome marked.Kinds.ps marked.Kinds.r marked.Reads.Learnt
one-marked _ _ _ _ = one_value (λ t. (t, (tt, tt)))

pub one-read_header : OneOutcome read_header.Kinds.ps read_header.Kinds.r read_header.Reads.Learnt
one-read_header _ _ _ _ = one_value (λ t. (t, (tt, tt)))

pub one-write_mark : OneOutcome write_mark.Kinds.ps write_mark.Kinds.r write_mark.Reads.Learnt
one-write_mark _ _ _ _ = one_value (λ t. (tt, (t, tt)))

pub one-write_prefix : OneOutcome write_prefix.Kinds.ps write_prefix.Kinds.r write_prefix.Reads.Learnt
one-write_prefix _ _ _ _ = one_value (λ t. (tt, (t, (tt, tt))))

pub one-admit : OneOutcome admit.Kinds.ps admit.Kinds.r admit.Reads.Learnt
one-admit _ _ _ _ = one_view number_in number_in-one (λ r. (r, (tt, (tt, (tt, tt)))))

pub one-answered : OneOutcome answered.Kinds.ps answered.Kinds.r answered.Reads.Learnt
one-answered _ _ _ _ = one_value (λ t. (t, (tt, tt)))

pub one-settle : OneOutcome settle.Kinds.ps settle.Kinds.r settle.Reads.Learnt
one-settle _ _ _ _ = one_left (answer_changed _) (answer_changed-one _) (λ m r. (r, (m, (tt, (tt, tt)))))

pub one-load : OneOutcome load.Kinds.ps load.Kinds.r load.Reads.Learnt
one-load _ _ _ _ = one-two_left (answer_changed _) (answer_changed-one _) (λ m s r. (r, (tt, (m, (s, tt)))))

pub one-write_image : OneOutcome write_image.Kinds.ps write_image.Kinds.r write_image.Reads.Learnt
one-write_image _ _ _ _ = one_left reply_of reply_of-one (λ b r. (r, (tt, (tt, (b, tt)))))

pub one-save : OneOutcome save.Kinds.ps save.Kinds.r save.Reads.Learnt
one-save _ _ _ _ = one-two_left reply_of reply_of-one (λ s b r. (r, (tt, (tt, (s, (b, tt))))))

pub one-is_spent : OneOutcome is_spent.Kinds.ps is_spent.Kinds.r is_spent.Reads.Learnt
one-is_spent _ _ _ _ = one_value (λ t. (t, (tt, tt)))

pub one-bypass : OneOutcome bypass.Kinds.ps bypass.Kinds.r bypass.Reads.Learnt
one-bypass _ _ _ _ = one_value (λ t. (t.1, (t.0, (tt, (tt, (tt, (tt, tt)))))))

pub one-unlink_exhausted_free_slots : OneOutcome unlink_exhausted_free_slots.Kinds.ps unlink_exhausted_free_slots.Kinds.r unlink_exhausted_free_slots.Reads.Learnt
one-unlink_exhausted_free_slots _ _ _ _ = one_value (λ t. (t.1, (t.0, (tt, tt))))
