-- The model of the second pass, on the scratch list alone: place s holds what leads to slot s, or 65,536 + i once it was passed.
-- Place 0, which stands for none, holds 65,536.
use Rattle.std.specs.Prelude.{Bool, true, false, cond, not, List, ℕ, zero, suc, ◌+◌, eqb, ltb, get_or, set}

-- At most n steps from x with the marks of i: yes at another climb's mark and at none's, no at an own one.
unfoldable pub climb_run : ℕ → ℕ → ℕ → ℕ → List ℕ → List ℕ × Bool
climb_run zero used i x scratch = (scratch, false)
climb_run (suc n) used i x scratch =
    cond (ltb used (get_or scratch x 0)) (scratch, not (eqb (get_or scratch x 0) (65536 + i)))
    (climb_run n used i (get_or scratch x 0) (set scratch x (65536 + i)))

-- From n slots, i on.
unfoldable pub climbs_run : ℕ → ℕ → ℕ → List ℕ → List ℕ × Bool
climbs_run zero used i scratch = (scratch, true)
climbs_run (suc n) used i scratch =
    let r = climb_run (used + 2) used i i scratch in
    cond r.1 (climbs_run n used (i + 1) r.0) r
