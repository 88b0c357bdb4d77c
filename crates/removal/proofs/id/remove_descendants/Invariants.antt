-- The contract of `removal::id::remove_descendants`.
use mathlib.Core.Path.{◌≡◌}
use Prim.Native.Nat.{◌-◌}
use lib.ListN.{length}
use Rattle.removal.specs.Descendants.{remove_descendants, turns_for}
use Rattle.removal.specs.Freeable.{Freeable}
use Rattle.removal.proofs.id.remove_descendants.Given as goal

abbrev pub invariant-loop : goal.invariant-loop
invariant-loop l = (length l.words ≡ length l.initial.words) × Freeable l.words l.at.header l.id × (remove_descendants (turns_for l.fn.h.used - l.counter) l.words l.at.header l.id l.at.cursor ≡ remove_descendants (turns_for l.fn.h.used) l.initial.words l.fn.h l.id l.id)
