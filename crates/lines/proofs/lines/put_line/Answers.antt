-- The contract of `lines::lines::put_line`.
use Prim.Native.Nat.{ℕ}
use native.Mathlib.Omega.{arith}
use lib.ListN.{length-set}
use Rattle.lines.specs.LineLaws.{number-end, line-done}
use Rattle.lines.proofs.lines.put_line.Goals as goal

pub bounds-out-space : goal.bounds-out-space
bounds-out-space c =
    let e = number-end _ _ _ c.put_number-space.ensures in
    omega arith

pub overflow_add-space : goal.overflow_add-space
overflow_add-space c =
    let e = number-end _ _ _ c.put_number-space.ensures in
    omega arith

pub put_number-end-requires : goal.put_number-end-requires
put_number-end-requires c =
    let e = number-end _ _ _ c.put_number-space.ensures in
    omega (arith, length-set {A = ℕ})

pub bounds-out-end : goal.bounds-out-end
bounds-out-end c =
    let e = number-end _ _ _ c.put_number-space.ensures in
    let f = number-end _ _ _ c.put_number-end.ensures in
    omega (arith, length-set {A = ℕ})

pub overflow_add-result : goal.overflow_add-result
overflow_add-result c =
    let e = number-end _ _ _ c.put_number-space.ensures in
    let f = number-end _ _ _ c.put_number-end.ensures in
    omega arith

pub returns : goal.returns
returns c = let a = c.args in line-done a.out.now a.at a.number a.res c.put_number-space.ensures c.put_number-end.ensures
