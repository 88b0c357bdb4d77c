-- The loop of `console::serve::run`.
use Rattle.std.proofs.Common.{◌≡◌, ◌≤◌, length}
use Rattle.command.specs.Known.{Knows}
use Rattle.console.proofs.serve.run.Given as goal

abbrev pub invariant-loop : goal.invariant-loop
invariant-loop l = Knows l.words l.state.header l.scratch l.state.known × (l.state.kept ≤ 11) × (length l.bytes ≡ length l.initial.bytes) × (length l.list ≡ length l.initial.list) × (length l.out ≡ length l.initial.out) × (length l.words ≡ length l.initial.words) × (length l.scratch ≡ length l.initial.scratch)
