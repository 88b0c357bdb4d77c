-- The census adds up to the capacity: each slot in use is live, free or spent, and not two of them, by its stamp's 16 bits alone.
-- On sound memory the slots counted live are those that a found identifier names, and each is named by one only.
use Rattle.std.specs.Prelude.{◌≡◌, refl, ◌↔◌, Bool, true, false, List, ℕ, zero, suc, ◌+◌, ◌<◌, ◌≤◌, leb, length}
use Rattle.std.proofs.Common.{sym, ap, ◌∙◌, arith, leb-true, leb-false, le-leb}
use Rattle.std.proofs.lemmas.Bool.{lt-leb}
use Rattle.link.specs.Ids.{slot_of, stamp_of}
use Rattle.link.specs.Words.{STAMP, capacity_of, word}
use Rattle.link.specs.declared.header.Header.{Header}
use Rattle.link.specs.Found.{Found}
use Rattle.rules.specs.Sound.{Sound}
use Rattle.forest.specs.Found.{live-found}
use Rattle.arena.specs.Census.{one_if, slots_that, between, live_b, free_b, spent_b, census_of}

-- 16 bits lie in one of the three ranges.
one_of_three : (b : ℕ) → b < 65536 → one_if (between 0 32767 b) + one_if (between 32769 65535 b) + one_if (between 32768 32768 b) ≡ 1
one_of_three b h = by (leb b 32767) (leb b 32768) refl refl
  where
    by : (x y : Bool) → leb b 32767 ≡ x → leb b 32768 ≡ y
        → one_if (between 0 32767 b) + one_if (between 32769 65535 b) + one_if (between 32768 32768 b) ≡ 1
    by true y e f =
        let l = leb-true b 32767 e in
        simp (e, le-leb 0 b (omega arith), lt-leb 32769 b (omega arith), lt-leb 32768 b (omega arith))
    by false true e f =
        let l = leb-false b 32767 e in
        let k = leb-true b 32768 f in
        simp (e, f, le-leb 0 b (omega arith), lt-leb 32769 b (omega arith), le-leb 32768 b (omega arith))
    by false false e f =
        let k = leb-false b 32768 f in
        simp (e, f, le-leb 0 b (omega arith), le-leb 32769 b (omega arith), le-leb b 65535 (omega arith), le-leb 32768 b (omega arith))

used_adds : (m : List ℕ) (n : ℕ) → slots_that (live_b m) n + slots_that (free_b m) n + slots_that (spent_b m) n ≡ n
unfolding slots_that
used_adds m zero = refl
used_adds m (suc n) = let a = one_of_three (stamp_of (word m (suc n) STAMP)) (omega arith) in let b = used_adds m n in omega arith

pub census_adds : (m : List ℕ) (h : Header) → h.used ≤ capacity_of (length m)
    → (census_of m h).live + (census_of m h).free + (census_of m h).spent + (census_of m h).fresh ≡ capacity_of (length m)
unfolding census_of
census_adds m h l = let a = used_adds m h.used in omega arith

pub live_exactly : (m : List ℕ) (h : Header) → Sound m h → (s : ℕ) → 1 ≤ s → s ≤ h.used
    → (live_b m s ≡ true) ↔ ((x : ℕ) × (slot_of x ≡ s) × Found m h.used x × ((y : ℕ) → Found m h.used y → slot_of y ≡ s → y ≡ x))
live_exactly m h S s a b = (to, from)
  where
    low : leb 0 (stamp_of (word m s STAMP)) ≡ true
    low = le-leb 0 (stamp_of (word m s STAMP)) (omega arith)

    to : live_b m s ≡ true → (x : ℕ) × (slot_of x ≡ s) × Found m h.used x × ((y : ℕ) → Found m h.used y → slot_of y ≡ s → y ≡ x)
    to e =
        let l = leb-true (stamp_of (word m s STAMP)) 32767 (simp low at e) in
        live-found m h.used s a b l (S.kind s a b l)

    from : (x : ℕ) × (slot_of x ≡ s) × Found m h.used x × ((y : ℕ) → Found m h.used y → slot_of y ≡ s → y ≡ x) → live_b m s ≡ true
    from w =
        let e : stamp_of (word m s STAMP) ≡ stamp_of w.0 = ap (λ (t : ℕ). stamp_of (word m t STAMP)) (sym w.1) ∙ w.2.stamp in
        let l = w.2.small in
        simp (low, le-leb (stamp_of (word m s STAMP)) 32767 (omega arith))
