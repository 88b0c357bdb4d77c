-- Crate lines: answers as text. Its public functions, each with one outcome.
-- Excluded: a number with zeros in front; bytes past the text that may change.
use Rattle.determined.specs.Outcome.{OneOutcome, one_value}
use Rattle.lines.proofs.decimal.places
use Rattle.lines.proofs.decimal.put_number
use Rattle.lines.proofs.lines.put_line
use Rattle.lines.proofs.lines.put_lines

pub one-places : OneOutcome places.Kinds.ps places.Kinds.r places.Reads.Learnt
one-places _ _ _ _ = one_value (λ t. (t, (tt, tt)))

pub one-put_number : OneOutcome put_number.Kinds.ps put_number.Kinds.r put_number.Reads.Learnt
one-put_number _ _ _ _ = one_value (λ t. (t.1, (t.0, (tt, (tt, tt)))))

pub one-put_line : OneOutcome put_line.Kinds.ps put_line.Kinds.r put_line.Reads.Learnt
one-put_line _ _ _ _ = one_value (λ t. (t.1, (t.0, (tt, (tt, (tt, tt))))))

pub one-put_lines : OneOutcome put_lines.Kinds.ps put_lines.Kinds.r put_lines.Reads.Learnt
one-put_lines _ _ _ _ = one_value (λ t. (t.1, (tt, (tt, (t.0, tt)))))
