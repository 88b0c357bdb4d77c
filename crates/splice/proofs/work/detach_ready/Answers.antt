-- The contract of `splice::work::detach_ready`.
use mathlib.Core.Path.{sym, ap, ◌∙◌}
use mathlib.Core.List.{List}
use Prim.Native.Nat.{ℕ}
use lib.ListN.{length}
use Rattle.sound.specs.GuardLaws.{capacity-fits}
use Rattle.link.specs.FoundLaws.{found_is}
use Rattle.rules.specs.Answers.{DONE, refusal, answer}
use Rattle.moves.specs.Detach.{name_no, detach_node}
use Rattle.splice.specs.ReadyLaws.{taken_out_lem}
use Rattle.splice.specs.WorkLaws.{out-asks}
use Rattle.splice.proofs.work.detach_ready.Goals as goal

pub found_within-requires : goal.found_within-requires
found_within-requires c = let a = c.args in (capacity-fits (length a.words.now) a.h.used c.requires.1).1

pub take_out-requires : goal.take_out-requires
take_out-requires c =
    let a = c.args in let p = c.requires in
    out-asks a.words.now a.h p.1 p.0 a.id (found_is _ _ _ (sym c.found_within.ensures ∙ c.if-not-found_within.false))

pub returns : goal.returns
unfolding detach_node name_no refusal
returns c =
    let a = c.args in let p = c.requires in let e = sym c.found_within.ensures ∙ c.if-not-found_within.false in
    simp e (ap (λ (m : List ℕ). (m, answer a.h DONE 0)) (c.take_out.ensures ∙ taken_out_lem a.words.now a.h p.1 p.0 a.id (found_is _ _ _ e)))

pub returns-then-not-found_within : goal.returns-then-not-found_within
unfolding detach_node name_no refusal
returns-then-not-found_within c = simp (sym c.found_within.ensures ∙ c.if-not-found_within.true)
