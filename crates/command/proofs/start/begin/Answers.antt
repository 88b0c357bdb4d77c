-- The contract of `command::start::begin`.
use mathlib.Core.Path.{sym, ap, ◌∙◌}
use Rattle.std.proofs.Common.{inl, inr}
use Rattle.command.specs.Commands.{called}
use Rattle.command.specs.StepLaws.{did-same, did-kept, did-set}
use Rattle.command.specs.StartLaws.{starts-answered, starts-same, starts_make, starts-live, starts-below, starts-validate}
use Rattle.command.specs.declared.call.Call.{Call}
use Rattle.command.proofs.start.begin.Goals as goal

pub returns-in-Make : goal.returns-in-Make
returns-in-Make c =
    let a = c.args in
    let E = c.enter.ensures in
    elim c.in-Make.is [
      | inl w ↦ starts-same a.words.now a.h a.scratch.now a.a a.b (sym w.1) (starts_make a.words.now a.h a.scratch.now a.a a.b E w.0)
      | inr w ↦ elim w [
        | inl e ↦ starts-same a.words.now a.h a.scratch.now a.a a.b (sym e) (starts-live a.words.now a.h a.scratch.now a.a a.b E)
        | inr e ↦ starts-same a.words.now a.h a.scratch.now a.a a.b (sym e) (starts-below a.words.now a.h a.scratch.now a.a a.b E)
      ]
    ]

pub returns-in-Read : goal.returns-in-Read
unfolding called
returns-in-Read c =
    let a = c.args in
    starts-answered (called a.call a.a a.b) a.words.now a.h a.scratch.now c.replied.ensures
    (did-same (ap (λ (x : Call). called x a.a a.b a.words.now a.h a.scratch.now) (sym c.in-Read.is))
    (did-kept a.words.now a.h a.scratch.now (ap (λ r. (a.scratch.now, r)) (c.from.ensures ∙ c.read.ensures)) c.requires))

pub returns-in-Set : goal.returns-in-Set
unfolding called
returns-in-Set c =
    let a = c.args in
    starts-answered (called a.call a.a a.b) a.words.now a.h a.scratch.now c.replied-in-Set.ensures
    (did-same (ap (λ (x : Call). called x a.a a.b a.words.now a.h a.scratch.now) (sym c.in-Set.is))
    (did-set a.words.now a.h a.scratch.now a.a a.b (ap (λ r. (c.set.new.words, r)) c.from-in-Set.ensures ∙ c.set.ensures) c.requires))

pub returns-in-Validate : goal.returns-in-Validate
unfolding called
returns-in-Validate c =
    let a = c.args in
    starts-same a.words.now a.h a.scratch.now a.a a.b (sym c.in-Validate.is) (starts-validate a.words.now a.h a.scratch.now a.a a.b c.judge.ensures)
