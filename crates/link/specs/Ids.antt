-- An identifier is slot × 65,536 + stamp, and word 0 of a slot is kind × 65,536 + stamp: the halves of each.
use Rattle.std.specs.Prelude.{ℕ, ◌+◌, ◌*◌, ◌/◌, ◌%◌}

abbrev pub id_of : ℕ → ℕ → ℕ
id_of slot stamp = slot * 65536 + stamp

abbrev pub slot_of : ℕ → ℕ
slot_of id = id / 65536

-- The low half of an identifier, or of word 0.
abbrev pub stamp_of : ℕ → ℕ
stamp_of id = id % 65536

-- The high half of word 0: 0 is data, 1 is free.
abbrev pub kind_of : ℕ → ℕ
kind_of word0 = word0 / 65536
