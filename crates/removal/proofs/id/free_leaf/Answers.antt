-- The contract of `removal::id::free_leaf`.
use mathlib.Core.Path.{sym, subst}
use mathlib.Core.List.{List}
use Prim.Native.Nat.{ℕ}
use Rattle.removal.specs.Freeable.{Freeable}
use Rattle.removal.specs.FreeableLaws.{freeable-only}
use Rattle.removal.specs.DescendantLaws.{only-front}
use Rattle.removal.proofs.id.free_leaf.Goals as goal

pub free_node-header-requires : goal.free_node-header-requires
free_node-header-requires c =
    let a = c.args in
    subst (λ (w : List ℕ). Freeable w a.h a.leaf) (sym c.leave_front.ensures) (freeable-only a.h a.leaf (only-front _ _ _) c.requires)
