-- How the face writes what calls take and hand back: a header is three words, used, first free, last free.
-- Excluded: first and last free exchanged; a header read from behind another's words.
use Rattle.std.specs.Prelude.{List, ℕ, get_or}
use Rattle.link.specs.declared.header.Header.{Header}
use Rattle.rules.specs.Answers.{header}
use Rattle.arena.specs.declared.census.Census.{Census}

abbrev pub header_of : List ℕ → Header
header_of words = header (get_or words 0 0) (get_or words 1 0) (get_or words 2 0)

-- A census is four words, in document 01's order.
abbrev pub census_of : List ℕ → Census
census_of words = record { live = get_or words 0 0; free = get_or words 1 0; spent = get_or words 2 0; fresh = get_or words 3 0 }
