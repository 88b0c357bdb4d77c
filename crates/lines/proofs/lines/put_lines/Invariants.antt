-- The contract of `lines::lines::put_lines`.
use Rattle.lines.specs.LineLaws.{Lining}
use Rattle.lines.proofs.lines.put_lines.Given as goal

abbrev pub invariant-loop-i : goal.invariant-loop-i
invariant-loop-i l = Lining l.n l.list l.initial.out l.out l.i l.at
