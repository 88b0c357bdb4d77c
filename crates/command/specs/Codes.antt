-- The code table of document 01, with the arguments that each code uses; and when a command is not refused COMMAND.
-- Excluded: code 18 taken with an argument; a command whose third byte is not zero.
use Rattle.std.specs.Prelude.{Bool, true, false, cond, List, [], ◌∷◌, ℕ, ◌-◌, eqb, ltb, get_or}

-- 1 new, 2 get, 3 set, 4 append, 5 prepend, 6 insert after, 7 insert before, 8 detach, 9 detach children, 10 remove,
-- 11 remove subtree, 12 remove children, 13 parent, 14 first child, 15 last child, 16 next, 17 previous, 18 live count,
-- 19 descendant count, 20 validate, 21 to 24 the value forms.
abbrev pub argument_table : List ℕ
argument_table = 1 ∷ 1 ∷ 2 ∷ 2 ∷ 2 ∷ 2 ∷ 2 ∷ 1 ∷ 1 ∷ 1 ∷ 1 ∷ 1 ∷ 1 ∷ 1 ∷ 1 ∷ 1 ∷ 1 ∷ 0 ∷ 1 ∷ 0 ∷ 2 ∷ 2 ∷ 2 ∷ 2 ∷ []

abbrev pub arguments_of : ℕ → ℕ
arguments_of code = get_or argument_table (code - 1) 0

-- The greatest first and second argument where none is used, one is, or two are.
abbrev pub limit_table : List ℕ
limit_table = 0 ∷ 0 ∷ 4294967295 ∷ 0 ∷ 4294967295 ∷ 4294967295 ∷ []

-- An argument that is not used is zero.
abbrev pub spared : Bool → ℕ → Bool
spared used argument = cond used true (eqb argument 0)

-- A known code; the unused bytes zero, as one number; each unused argument zero.
unfoldable pub acceptable : ℕ → ℕ → ℕ → ℕ → Bool
acceptable code unused a b =
    cond (eqb code 0) false
    (cond (ltb 24 code) false
    (cond (eqb unused 0)
    (cond (spared (ltb 1 (arguments_of code)) b) (spared (ltb 0 (arguments_of code)) a) false)
    false))
