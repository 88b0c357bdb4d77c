-- How often a slot was handed out, by its cases; freeing a slot does not change it.
use Rattle.std.specs.Prelude.{◌≡◌, ◌≢◌, List, ◌-◌, ℕ, suc, ◌+◌, ◌<◌, ◌≤◌}
use Rattle.std.proofs.Common.{sym, ◌∙◌, arith, le-leb}
use Rattle.std.proofs.Math.Decide.{dec_le}
use Rattle.std.proofs.lemmas.Bool.{lt-leb}
use Rattle.link.specs.Ids.{stamp_of}
use Rattle.link.specs.Stamps.{removed_bits}
use Rattle.link.specs.Words.{STAMP, word}
use Rattle.keeps.specs.Handouts.{handouts, times_out}

module _ (b : ℕ) where
  pub handouts-live : b ≤ 32767 → handouts b ≡ suc b
  unfolding handouts
  handouts-live h = simp (le-leb b 32767 h) (omega arith)

  pub handouts-removed : 32768 ≤ b → handouts b ≡ 65536 - b
  unfolding handouts
  handouts-removed h = simp (lt-leb b 32767 (omega arith))

pub handouts-freed : (b : ℕ) → b ≤ 32767 → handouts (removed_bits b) ≡ handouts b
handouts-freed b h = handouts-removed (removed_bits b) (omega arith) ∙ sym (handouts-live b h ∙ omega arith)

module _ (m : List ℕ) (u s : ℕ) where
  pub times_in_lem : s ≤ u → times_out m u s ≡ handouts (stamp_of (word m s STAMP))
  unfolding times_out
  times_in_lem h = simp (le-leb s u h)

  pub times_none : u < s → times_out m u s ≡ 0
  unfolding times_out
  times_none h = simp (lt-leb s u h)

-- It depends on the slot's stamp alone, and one more slot in use changes it for that slot only.
pub times-same : (m m' : List ℕ) (u s : ℕ) → word m' s STAMP ≡ word m s STAMP → times_out m' u s ≡ times_out m u s
unfolding times_out
times-same m m' u s e = simp e

pub times_more : (m : List ℕ) (u s : ℕ) → s ≢ u + 1 → times_out m (u + 1) s ≡ times_out m u s
times_more m u s n = by (dec_le s u)
  where
    by : Dec (s ≤ u) → times_out m (u + 1) s ≡ times_out m u s
    by (yes l) = times_in_lem m (u + 1) s (omega arith) ∙ sym (times_in_lem m u s l)
    by (no l) = times_none m (u + 1) s (omega arith) ∙ sym (times_none m u s (omega arith))
