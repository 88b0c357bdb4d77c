-- What making two nodes neighbours under a parent does to the words. Each of the three may be none.
use Rattle.std.specs.Prelude.{cond, List, ℕ, eqb}
use Rattle.link.specs.Words.{PREVIOUS, NEXT, FIRST, LAST, link, set_link}

-- The first child of a parent whose first child was old: next where nothing comes before it, previous where there was none.
unfoldable pub first_after : ℕ → ℕ → ℕ → ℕ
first_after old previous next = cond (eqb previous 0) next (cond (eqb old 0) previous old)

-- The mirror image.
unfoldable pub last_after : ℕ → ℕ → ℕ → ℕ
last_after old previous next = first_after old next previous

unfoldable pub connect_neighbors : List ℕ → ℕ → ℕ → ℕ → List ℕ
connect_neighbors m parent previous next =
    let m₁ = set_link m previous NEXT next in
    let m₂ = set_link m₁ next PREVIOUS previous in
    let m₃ = set_link m₂ parent FIRST (first_after (link m parent FIRST) previous next) in
    set_link m₃ parent LAST (last_after (link m parent LAST) previous next)
