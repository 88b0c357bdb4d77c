-- The loop of `validated::text::numbers_of`.
use Rattle.std.proofs.Common.{length, ◌≤◌}
use Rattle.validated.proofs.text.numbers_of.Given as goal

abbrev pub invariant-loop-digits : goal.invariant-loop-digits
invariant-loop-digits l = l.count ≤ length l.numbers
