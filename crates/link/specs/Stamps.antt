-- Stamps, as document 01 has them: a signed 16-bit number, negative once removed; and the 16 bits of word 0 that hold one.
-- Excluded: removing stamp 5 to −5 (the next hand-out would be 5 again); taking 65,535 for a live stamp.
use Rattle.std.specs.Prelude.{Bool, true, false, cond, ◌-◌, ℕ, zero, suc, ◌≤◌, eqb, leb, ◌-ℤ◌, ℤ, pos, negsuc, neg_ℤ}

-- A stamp that a slot is handed out with: 0 to 32,767. (`pos n` is n, `negsuc n` is −n − 1.)
abbrev pub Live : ℤ → Type 0
Live (pos n) = n ≤ 32767
Live (negsuc n) = ⊥

-- A removed stamp: −32,768 to −1.
abbrev pub Removed : ℤ → Type 0
Removed (pos n) = ⊥
Removed (negsuc n) = n ≤ 32767

-- A removed stamp that is not spent: −32,767 to −1.
abbrev pub Reusable : ℤ → Type 0
Reusable (pos n) = ⊥
Reusable (negsuc n) = n ≤ 32766

-- Removing stamp s gives −s − 1.
abbrev pub removed_stamp : ℤ → ℤ
removed_stamp s = neg_ℤ s -ℤ pos 1

-- Reusing −k gives k.
abbrev pub reused_stamp : ℤ → ℤ
reused_stamp s = neg_ℤ s

abbrev pub is_removed : ℤ → Bool
is_removed (pos n) = false
is_removed (negsuc n) = true

-- Spent is −32,768.
abbrev pub is_spent : ℤ → Bool
is_spent (pos n) = false
is_spent (negsuc n) = eqb n 32767

-- The n-th stamp (from 0) that a slot is handed out with: fresh, then removed and reused n times.
unfoldable pub handed_out : ℕ → ℤ
handed_out zero = pos 0
handed_out (suc n) = reused_stamp (removed_stamp (handed_out n))

-- Two's complement in 16 bits.
abbrev pub bits_of : ℤ → ℕ
bits_of (pos n) = n
bits_of (negsuc n) = 65535 - n

abbrev pub stamp_of_bits : ℕ → ℤ
stamp_of_bits b = cond (leb b 32767) (pos b) (negsuc (65535 - b))

-- The same steps on the bits, which is what a word holds.
abbrev pub removed_bits : ℕ → ℕ
removed_bits b = 65535 - b

abbrev pub reused_bits : ℕ → ℕ
reused_bits b = 65536 - b
