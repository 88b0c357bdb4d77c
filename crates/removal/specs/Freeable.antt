-- What freeing a node asks for: the node is found, the slots in use lie within the memory, and the last free slot is one of them.
-- Excluded: freeing by a stale identifier; joining a slot behind a last free slot past the memory.
use Rattle.std.specs.Prelude.{List, ℕ, ◌*◌, ◌≤◌, length}
use Rattle.link.specs.Words.{width}
use Rattle.link.specs.Found.{Found}
use Rattle.link.specs.declared.header.Header.{Header}

abbrev pub Freeable : List ℕ → Header → ℕ → Type 0
Freeable m h x = Found m h.used x × (h.used * width ≤ length m) × (h.last ≤ h.used)
