-- When an identifier is found, as document 01 says it, on any memory and header; `found_b` is the same as a test.
-- Excluded: reading through the slot and ignoring the stamp; a low half of 32,768 or more (131071 on a removed slot 1).
use Rattle.std.specs.Prelude.{◌≡◌, Bool, false, cond, List, ℕ, ◌≤◌, eqb, ltb}
use Rattle.link.specs.Ids.{slot_of, stamp_of, kind_of}
use Rattle.link.specs.Words.{STAMP, word, link}

-- Its slot is 1 to used, its low half is 0 to 32,767, the slot's stamp equals that and its kind is 0.
pub record Found (m : List ℕ) (used id : ℕ) : Type 0 where
  pub from : 1 ≤ slot_of id
  pub upto : slot_of id ≤ used
  pub small : stamp_of id ≤ 32767
  pub stamp : stamp_of (word m (slot_of id) STAMP) ≡ stamp_of id
  pub kind : kind_of (word m (slot_of id) STAMP) ≡ 0

-- Kind 0 and that stamp: word 0 is the low half itself.
unfoldable pub found_b : List ℕ → ℕ → ℕ → Bool
found_b m used id =
    cond (eqb (slot_of id) 0) false
    (cond (ltb used (slot_of id)) false
    (cond (ltb 32767 (stamp_of id)) false
    (eqb (link m id STAMP) (stamp_of id))))
