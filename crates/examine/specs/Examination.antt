-- The model of the examination. The passes over links run on the scratch; what they answer does not depend on what it held.
use Rattle.std.specs.Prelude.{Bool, true, false, cond, ◌&&◌, List, ℕ, zero, suc, ◌+◌, eqb, ltb, leb, set}
use Rattle.link.specs.Ids.{id_of, stamp_of}
use Rattle.link.specs.Words.{STAMP, word}
use Rattle.link.specs.declared.header.Header.{Header}
use Rattle.follow.specs.Marks.{scan}
use Rattle.examine.specs.Slots.{kin_ok, look, look_run}
use Rattle.examine.specs.Marks.{climbs_run}
use Rattle.examine.specs.Chain.{chain_run}
use Rattle.examine.specs.declared.chain.Verdict.{Verdict}
use Rattle.examine.specs.declared.chain.Verdict.TheVariants.{Unsound}

-- The passes over links, on the scratch, with none marked in place 0.
unfoldable pub links_run : List ℕ → ℕ → List ℕ → List ℕ × Bool
links_run m used scratch =
    let r = look_run used m used 1 (set scratch 0 65536) in
    cond (eqb used 0) (scratch, true) (cond r.1 (climbs_run used used 1 r.0) r)

-- Of a removed slot nothing is asked; a live one has kind 0 and its node passes all tests.
unfoldable pub passes : List ℕ → ℕ → ℕ → Bool
passes m used s =
    cond (ltb 32767 (stamp_of (word m s STAMP))) true
    (cond (ltb 65535 (word m s STAMP)) false (kin_ok m used s (id_of s (word m s STAMP))))

-- Each slot of n, from s on.
unfoldable pub all_pass : ℕ → List ℕ → ℕ → ℕ → Bool
all_pass zero m used s = true
all_pass (suc n) m used s = cond (passes m used s) (all_pass n m used (s + 1)) false

-- What leads to a slot in use, kept within the slots in use.
unfoldable pub leading : List ℕ → ℕ → ℕ → ℕ
leading m used s = cond (leb (look m used s) used) (look m used s) 0

-- Every slot passes, and along what leads to it every slot comes to none.
unfoldable pub links_ok : List ℕ → ℕ → Bool
links_ok m used = all_pass used m used 1 && scan (leading m used) used used 1 (λ _. 0)

unfoldable pub examined : List ℕ → Header → Verdict
examined m h =
    cond (links_ok m h.used) (chain_run (h.used + 1) m h.used h.last false 0 h.first) Unsound
