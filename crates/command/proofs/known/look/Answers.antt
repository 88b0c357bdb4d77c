-- The contract of `command::known::look`.
use lib.ListN.{length}
use Rattle.command.specs.KnownLaws.{fits-capacity, looked-known, looked-now}
use Rattle.command.proofs.known.look.Goals as goal

pub returns-in-Some : goal.returns-in-Some
returns-in-Some c = let a = c.args in looked-known a.words.now a.h a.scratch.now c.requires.3 c.in-Some.is c.clean_to.ensures

pub returns-in-None : goal.returns-in-None
returns-in-None c =
    let a = c.args in let p = c.requires in
    looked-now a.words.now a.h a.scratch.now (fits-capacity (length a.words.now) a.h.used p.0 p.1) p.2 c.examine.ensures.0 c.examine.ensures.1
