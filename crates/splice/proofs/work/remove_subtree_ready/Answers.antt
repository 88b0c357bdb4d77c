-- The contract of `splice::work::remove_subtree_ready`.
use mathlib.Core.Path.{sym, ap, ◌∙◌}
use mathlib.Core.List.{List}
use Prim.Native.Nat.{ℕ}
use lib.ListN.{length}
use Rattle.link.specs.FoundLaws.{found_is}
use Rattle.link.specs.declared.header.Header.{Header}
use Rattle.rules.specs.Answers.{DONE, answer}
use Rattle.sound.specs.GuardLaws.{capacity-fits}
use Rattle.removal.specs.Remove.{steps_for, remove_subtree}
use Rattle.removal.specs.RemoveLaws.{out_freeable, below_freeable, subtree_by, when-found, when-not}
use Rattle.splice.specs.ReadyLaws.{taken-out-steps}
use Rattle.splice.specs.WorkLaws.{out-asks, ready_freeable}
use Rattle.splice.proofs.work.remove_subtree_ready.Goals as goal

pub found_within-requires : goal.found_within-requires
found_within-requires c = let a = c.args in (capacity-fits (length a.words.now) a.h.used c.requires.1).1

pub take_out-requires : goal.take_out-requires
take_out-requires c =
    let a = c.args in let p = c.requires in
    out-asks a.words.now a.h p.1 p.0 a.id (found_is _ _ _ (sym c.found_within.ensures ∙ c.if-not-found_within.false))

pub remove_descendants-below-requires : goal.remove_descendants-below-requires
remove_descendants-below-requires c =
    let a = c.args in let p = c.requires in let e = sym c.found_within.ensures ∙ c.if-not-found_within.false in (
      out_freeable a.words.now a.h a.id (ready_freeable a.words.now a.h p.1 p.0 a.id e) (steps_for a.h.used)
          (c.take_out.ensures ∙ taken-out-steps a.words.now a.h p.1 p.0 a.id (found_is _ _ _ e)),
      (capacity-fits (length a.words.now) a.h.used p.1).0,
    )

pub free_node-requires : goal.free_node-requires
free_node-requires c =
    let a = c.args in let p = c.requires in let e = sym c.found_within.ensures ∙ c.if-not-found_within.false in
    below_freeable a.words.now a.h a.id (ready_freeable a.words.now a.h p.1 p.0 a.id e) (steps_for a.h.used)
    (c.take_out.ensures ∙ taken-out-steps a.words.now a.h p.1 p.0 a.id (found_is _ _ _ e)) c.remove_descendants-below.ensures

pub returns : goal.returns
unfolding remove_subtree
returns c =
    let a = c.args in let p = c.requires in let e = sym c.found_within.ensures ∙ c.if-not-found_within.false in
    ap (λ (r : List ℕ × Header). (r.0, answer r.1 DONE 0))
    (subtree_by a.words.now a.h a.id (c.take_out.ensures ∙ taken-out-steps a.words.now a.h p.1 p.0 a.id (found_is _ _ _ e))
    c.remove_descendants-below.ensures c.free_node.ensures)
    ∙ sym (when-found _ _ _ _ e)

pub returns-then-not-found_within : goal.returns-then-not-found_within
unfolding remove_subtree
returns-then-not-found_within c = sym (when-not _ _ _ _ (sym c.found_within.ensures ∙ c.if-not-found_within.true))
