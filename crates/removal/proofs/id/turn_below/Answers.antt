-- The contract of `removal::id::turn_below`.
use mathlib.Core.Path.{sym, ◌∙◌}
use Rattle.link.specs.FoundLaws.{found_is}
use Rattle.removal.proofs.id.turn_below.Goals as goal

pub free_leaf-requires : goal.free_leaf-requires
free_leaf-requires c = (found_is _ _ _ (sym c.found.ensures ∙ c.if-not-found.false), c.requires.0, c.requires.1)
