-- The contract of `console::turn::take_turn`.
use Rattle.std.proofs.Common.{ap, ◌∙◌, ◌%◌, take}
use Rattle.batch.specs.Trace.{size}
use Rattle.console.specs.TurnLaws.{turns, front_copied}
use Rattle.console.proofs.turn.take_turn.Goals as goal

pub returns : goal.returns
returns c =
    let a = c.args in
    turns a.total a.bytes.now a.words.now a.h a.scratch.now a.list.now a.out.now c.requires.3 c.perform-done.ensures c.put_lines-text.ensures
    (ap (take (a.total % size)) c.copy_within.ensures.after ∙ front_copied a.total a.bytes.now c.requires.1)
