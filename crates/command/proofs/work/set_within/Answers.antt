-- The contract of `command::work::set_within`.
use mathlib.Core.Path.{refl, sym, ◌∙◌, ap}
use native.Mathlib.Omega.{arith}
use lib.ListN.{length}
use Rattle.link.specs.Words.{NUMBER, set_word}
use Rattle.link.specs.WordLaws.{set_link-some}
use Rattle.sound.specs.GuardLaws.{capacity-fits}
use Rattle.arena.specs.ReadLaws.{named-done, named-removed, named-slot, set-done, set-refused}
use Rattle.command.proofs.work.set_within.Goals as goal

pub found_within-requires : goal.found_within-requires
found_within-requires c = let a = c.args in (capacity-fits (length a.words.now) a.h.used c.requires).1

pub set_word-requires : goal.set_word-requires
set_word-requires c =
    let a = c.args in
    let w = named-slot a.words.now a.h a.id (named-done a.words.now a.h a.id c.requires (sym c.found_within.ensures ∙ c.if-not-found_within.false)) in
    let e = c.slot_of.ensures in
    (rw e w.0, rw e w.1, omega arith)

pub returns : goal.returns
returns c =
    let a = c.args in
    let d = named-done a.words.now a.h a.id c.requires (sym c.found_within.ensures ∙ c.if-not-found_within.false) in
    set-done a.words.now a.h a.id a.value (sym d) refl
    (c.set_word.ensures ∙ ap (λ s. set_word a.words.now s NUMBER a.value) c.slot_of.ensures ∙ sym (set_link-some a.words.now a.id NUMBER a.value (named-slot a.words.now a.h a.id d).0))

pub returns-then-not-found_within : goal.returns-then-not-found_within
returns-then-not-found_within c =
    let a = c.args in
    set-refused a.words.now a.h a.id a.value (sym (named-removed a.words.now a.h a.id c.requires (sym c.found_within.ensures ∙ c.if-not-found_within.true))) (λ e. omega arith)
