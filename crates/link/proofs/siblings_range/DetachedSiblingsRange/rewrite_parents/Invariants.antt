-- The contract of `link::siblings_range::DetachedSiblingsRange::rewrite_parents`.
use mathlib.Core.Path.{◌≡◌}
use Prim.Native.Nat.{◌-◌}
use Rattle.link.specs.Siblings.{rewrite_parents}
use Rattle.link.proofs.siblings_range.DetachedSiblingsRange.rewrite_parents.Given as goal

abbrev pub invariant-loop : goal.invariant-loop
invariant-loop l = rewrite_parents (l.steps - l.counter) l.words l.child l.parent ≡ rewrite_parents l.steps l.initial.words l.initial.child l.parent
