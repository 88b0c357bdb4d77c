-- The contract of `splice::work::remove_ready`.
use mathlib.Core.Path.{sym, ap, ◌∙◌}
use mathlib.Core.List.{List}
use Prim.Native.Nat.{ℕ}
use native.Mathlib.Omega.{arith}
use lib.ListN.{length}
use Rattle.link.specs.Words.{PARENT, PREVIOUS, NEXT, FIRST, LAST}
use Rattle.link.specs.FoundLaws.{found_is}
use Rattle.link.specs.declared.header.Header.{Header}
use Rattle.rules.specs.Answers.{DONE, answer}
use Rattle.sound.specs.GuardLaws.{capacity-fits}
use Rattle.removal.specs.Remove.{steps_for, remove_node}
use Rattle.removal.specs.RemoveLaws.{hoist_freeable, removed_by, when-found, when-not}
use Rattle.splice.specs.ReadyLaws.{taken-out-steps}
use Rattle.splice.specs.WorkLaws.{links-read, word-asks, out-asks, ready_freeable, hoist-asks, hoisted_by}
use Rattle.splice.proofs.work.remove_ready.Goals as goal

pub found_within-requires : goal.found_within-requires
found_within-requires c = let a = c.args in (capacity-fits (length a.words.now) a.h.used c.requires.1).1

pub get_word-requires : goal.get_word-requires
get_word-requires c =
    let a = c.args in let p = c.requires in
    word-asks a.words.now a.h p.1 p.0 a.id PARENT (found_is _ _ _ (sym c.found_within.ensures ∙ c.if-not-found_within.false)) (omega arith) c.slot_of-slot.ensures

pub get_word-requires-2 : goal.get_word-requires-2
get_word-requires-2 c =
    let a = c.args in let p = c.requires in
    word-asks a.words.now a.h p.1 p.0 a.id PREVIOUS (found_is _ _ _ (sym c.found_within.ensures ∙ c.if-not-found_within.false)) (omega arith) c.slot_of-slot.ensures

pub get_word-requires-3 : goal.get_word-requires-3
get_word-requires-3 c =
    let a = c.args in let p = c.requires in
    word-asks a.words.now a.h p.1 p.0 a.id NEXT (found_is _ _ _ (sym c.found_within.ensures ∙ c.if-not-found_within.false)) (omega arith) c.slot_of-slot.ensures

pub get_word-requires-4 : goal.get_word-requires-4
get_word-requires-4 c =
    let a = c.args in let p = c.requires in
    word-asks a.words.now a.h p.1 p.0 a.id FIRST (found_is _ _ _ (sym c.found_within.ensures ∙ c.if-not-found_within.false)) (omega arith) c.slot_of-slot.ensures

pub get_word-requires-5 : goal.get_word-requires-5
get_word-requires-5 c =
    let a = c.args in let p = c.requires in
    word-asks a.words.now a.h p.1 p.0 a.id LAST (found_is _ _ _ (sym c.found_within.ensures ∙ c.if-not-found_within.false)) (omega arith) c.slot_of-slot.ensures

pub take_out-requires : goal.take_out-requires
take_out-requires c =
    let a = c.args in let p = c.requires in
    out-asks a.words.now a.h p.1 p.0 a.id (found_is _ _ _ (sym c.found_within.ensures ∙ c.if-not-found_within.false))

pub overflow_add-h : goal.overflow_add-h
overflow_add-h c = let a = c.args in let w = capacity-fits (length a.words.now) a.h.used c.requires.1 in omega arith

pub hoist-requires : goal.hoist-requires
hoist-requires c =
    let a = c.args in let p = c.requires in let f = found_is _ _ _ (sym c.found_within.ensures ∙ c.if-not-found_within.false) in
    hoist-asks a.words.now a.h p.1 p.0 a.id f c.take_out.ensures
    (links-read a.words.now a.id f.from c.slot_of-slot.ensures c.get_word.ensures c.get_word-2.ensures c.get_word-3.ensures c.get_word-4.ensures c.get_word-5.ensures)

pub free_node-requires : goal.free_node-requires
free_node-requires c =
    let a = c.args in let p = c.requires in let e = sym c.found_within.ensures ∙ c.if-not-found_within.false in let f = found_is _ _ _ e in
    hoist_freeable a.words.now a.h a.id (ready_freeable a.words.now a.h p.1 p.0 a.id e) (steps_for a.h.used) _ _ _ _ _
    (c.take_out.ensures ∙ taken-out-steps a.words.now a.h p.1 p.0 a.id f)
    (hoisted_by a.words.now a.h p.1 p.0 a.id f c.take_out.ensures
    (links-read a.words.now a.id f.from c.slot_of-slot.ensures c.get_word.ensures c.get_word-2.ensures c.get_word-3.ensures c.get_word-4.ensures c.get_word-5.ensures) c.hoist.ensures)

pub returns : goal.returns
unfolding remove_node
returns c =
    let a = c.args in let p = c.requires in let e = sym c.found_within.ensures ∙ c.if-not-found_within.false in let f = found_is _ _ _ e in
    let L = links-read a.words.now a.id f.from c.slot_of-slot.ensures c.get_word.ensures c.get_word-2.ensures c.get_word-3.ensures c.get_word-4.ensures c.get_word-5.ensures in
    ap (λ (r : List ℕ × Header). (r.0, answer r.1 DONE 0))
    (removed_by a.words.now a.h a.id (c.take_out.ensures ∙ taken-out-steps a.words.now a.h p.1 p.0 a.id f)
    L.up L.left L.right L.start L.end
    (hoisted_by a.words.now a.h p.1 p.0 a.id f c.take_out.ensures L c.hoist.ensures)
    c.free_node.ensures)
    ∙ sym (when-found _ _ _ _ e)

pub returns-then-not-found_within : goal.returns-then-not-found_within
unfolding remove_node
returns-then-not-found_within c = sym (when-not _ _ _ _ (sym c.found_within.ensures ∙ c.if-not-found_within.true))
