-- The contract of `arena::arena::create`.
use Rattle.std.proofs.Common.{◌+◌, sym, arith, length}
use Rattle.sound.specs.GuardLaws.{capacity-fits}
use Rattle.arena.specs.FreeListLaws.{taken-first}
use Rattle.arena.specs.CreateLaws.{first-free, first-within}
use Rattle.arena.proofs.arena.create.Goals as goal

pub pop_front_free_node-requires : goal.pop_front_free_node-requires
pop_front_free_node-requires c =
    let a = c.args in
    let w = first-within a.words.now a.h c.requires.0 in
    let v = capacity-fits (length a.words.now) a.h.used c.requires.1 in omega arith

pub reuse_node-requires : goal.reuse_node-requires
reuse_node-requires c =
    let a = c.args in
    let t = taken-first a.words.now a.h c.in-Some.taken (sym c.in-Some.ensures) in
    let w = first-free a.words.now a.h c.requires.0 t.0 in
    let v = capacity-fits (length a.words.now) a.h.used c.requires.1 in
    rw t.2 (omega arith, omega arith, omega arith, w.1)

pub push_node-requires : goal.push_node-requires
push_node-requires c =
    let a = c.args in
    let v = capacity-fits (length a.words.now) (a.h.used + 1) (omega arith) in (v.1, omega arith)
