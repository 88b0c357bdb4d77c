-- Crate little_endian: numbers in bytes. Its public functions, each with one outcome.
-- Excluded: bytes beside the number that may change.
use Rattle.determined.specs.Outcome.{OneOutcome, one_value}
use Rattle.little_endian.proofs.number.get_16
use Rattle.little_endian.proofs.number.get_32
use Rattle.little_endian.proofs.number.put_16
use Rattle.little_endian.proofs.number.put_32
use Rattle.little_endian.proofs.words.put_words
use Rattle.little_endian.proofs.words.get_words

pub one-get_16 : OneOutcome get_16.Kinds.ps get_16.Kinds.r get_16.Reads.Learnt
one-get_16 _ _ _ _ = one_value (λ t. (t, (tt, (tt, tt))))

pub one-get_32 : OneOutcome get_32.Kinds.ps get_32.Kinds.r get_32.Reads.Learnt
one-get_32 _ _ _ _ = one_value (λ t. (t, (tt, (tt, tt))))

pub one-put_16 : OneOutcome put_16.Kinds.ps put_16.Kinds.r put_16.Reads.Learnt
one-put_16 _ _ _ _ = one_value (λ t. (tt, (t, (tt, (tt, tt)))))

pub one-put_32 : OneOutcome put_32.Kinds.ps put_32.Kinds.r put_32.Reads.Learnt
one-put_32 _ _ _ _ = one_value (λ t. (tt, (t, (tt, (tt, tt)))))

pub one-put_words : OneOutcome put_words.Kinds.ps put_words.Kinds.r put_words.Reads.Learnt
one-put_words _ _ _ _ = one_value (λ t. (tt, (t, (tt, (tt, (tt, tt))))))

pub one-get_words : OneOutcome get_words.Kinds.ps get_words.Kinds.r get_words.Reads.Learnt
one-get_words _ _ _ _ = one_value (λ t. (tt, (tt, (tt, (t, (tt, tt))))))
