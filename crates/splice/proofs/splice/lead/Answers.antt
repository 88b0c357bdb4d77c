-- The contract of `splice::splice::lead`.
use borrow.Author.Rules.{rules}
use Rattle.splice.specs.SpliceLaws.{led_at}
use Rattle.splice.proofs.splice.lead.Goals as goal

pub overflow_sub-words : goal.overflow_sub-words
overflow_sub-words c =
    let a = c.args in let p = c.requires in
    (led_at a.words.now a.spare a.parent a.neighbour a.side.along a.side.end a.v p.0 p.1 p.2 p.3 p.4 c.place_of-own.ensures c.place_of-above.ensures c.place_of-beside.ensures c.choose-other.ensures c.choose-at.ensures).from

pub offset_bounds-words-at : goal.offset_bounds-words-at
offset_bounds-words-at c =
    let a = c.args in let p = c.requires in
    let w = (led_at a.words.now a.spare a.parent a.neighbour a.side.along a.side.end a.v p.0 p.1 p.2 p.3 p.4 c.place_of-own.ensures c.place_of-above.ensures c.place_of-beside.ensures c.choose-other.ensures c.choose-at.ensures).inside in
    search rules

pub bounds-words-at : goal.bounds-words-at
bounds-words-at c =
    let a = c.args in let p = c.requires in
    (led_at a.words.now a.spare a.parent a.neighbour a.side.along a.side.end a.v p.0 p.1 p.2 p.3 p.4 c.place_of-own.ensures c.place_of-above.ensures c.place_of-beside.ensures c.choose-other.ensures c.choose-at.ensures).inside

pub returns : goal.returns
returns c =
    let a = c.args in let p = c.requires in
    (led_at a.words.now a.spare a.parent a.neighbour a.side.along a.side.end a.v p.0 p.1 p.2 p.3 p.4 c.place_of-own.ensures c.place_of-above.ensures c.place_of-beside.ensures c.choose-other.ensures c.choose-at.ensures).is
