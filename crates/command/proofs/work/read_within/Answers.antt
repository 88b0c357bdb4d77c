-- The contract of `command::work::read_within`.
use mathlib.Core.Path.{refl, sym, ◌∙◌, ap}
use native.Mathlib.Omega.{arith}
use lib.ListN.{length}
use Rattle.link.specs.Words.{word}
use Rattle.link.specs.WordLaws.{link-some}
use Rattle.sound.specs.GuardLaws.{capacity-fits}
use Rattle.arena.specs.ReadLaws.{named-done, named-removed, named-slot, read_done, read-refused}
use Rattle.command.proofs.work.read_within.Goals as goal

pub found_within-requires : goal.found_within-requires
found_within-requires c = let a = c.args in (capacity-fits (length a.words.now) a.h.used c.requires.0).1

pub get_word-requires : goal.get_word-requires
get_word-requires c =
    let a = c.args in
    let w = named-slot a.words.now a.h a.id (named-done a.words.now a.h a.id c.requires.0 (sym c.found_within.ensures ∙ c.if-not-found_within.false)) in
    let e = c.slot_of.ensures in
    (rw e w.0, rw e w.1, c.requires.1)

pub returns : goal.returns
returns c =
    let a = c.args in
    let d = named-done a.words.now a.h a.id c.requires.0 (sym c.found_within.ensures ∙ c.if-not-found_within.false) in
    read_done a.words.now a.h a.id a.k (sym d) refl
    (c.get_word.ensures ∙ ap (λ s. word a.words.now s a.k) c.slot_of.ensures ∙ sym (link-some a.words.now a.id a.k (named-slot a.words.now a.h a.id d).0))

pub returns-then-not-found_within : goal.returns-then-not-found_within
returns-then-not-found_within c =
    let a = c.args in
    read-refused a.words.now a.h a.id a.k (sym (named-removed a.words.now a.h a.id c.requires.0 (sym c.found_within.ensures ∙ c.if-not-found_within.true))) (λ e. omega arith)
