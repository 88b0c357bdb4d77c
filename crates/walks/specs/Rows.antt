-- Trees in rows: as many nodes as rows have members, no tree has more rows than nodes, and the children of a row are the row below.
-- From the definitions alone.
use Rattle.std.specs.Prelude.{◌≡◌, refl, List, [], ◌∷◌, ◌++◌, ℕ, zero, suc, ◌+◌, ◌≤◌, length}
use Rattle.std.proofs.Common.{sym, ap, ◌∙◌, arith, length-append}
use Rattle.rules.specs.Tree.{Tree, none, node}
use Rattle.walks.specs.Orders.{row, below, rows, belows, levels, size}

abbrev pub sizes : List Tree → ℕ
sizes [] = 0
sizes (t ∷ ts) = size t + sizes ts

pub sizes-append : (ts us : List Tree) → sizes (ts ++ us) ≡ sizes ts + sizes us
sizes-append [] us = omega arith
sizes-append (t ∷ ts) us = let e = sizes-append ts us in omega arith

pub row-size : (t : Tree) → size t ≡ length (row t) + sizes (below t)
row-size none = refl
row-size (node x k n) = let e = row-size n in omega arith

pub rows-size : (ts : List Tree) → sizes ts ≡ length (rows ts) + sizes (belows ts)
rows-size [] = refl
rows-size (t ∷ ts) =
    let a = row-size t in
    let b = rows-size ts in
    let c = length-append (row t) (rows ts) in
    let d = sizes-append (below t) (belows ts) in
    omega arith

empty : (xs : List ℕ) → length xs ≤ 0 → xs ≡ []
empty [] h = refl
empty (x ∷ xs) h = absurd (omega arith)

-- a row without members has nothing below it
row_none : (t : Tree) → length (row t) ≤ 0 → sizes (below t) ≡ 0
row_none none h = refl
row_none (node x k n) h = absurd (omega arith)

rows_none : (ts : List Tree) → length (rows ts) ≤ 0 → sizes (belows ts) ≡ 0
rows_none [] h = refl
rows_none (t ∷ ts) h =
    let c = length-append (row t) (rows ts) in
    let a = row_none t (omega arith) in
    let b = rows_none ts (omega arith) in
    let d = sizes-append (below t) (belows ts) in
    omega arith

levels_none : (d : ℕ) (ts : List Tree) → sizes ts ≤ 0 → levels d ts ≡ []
levels_none zero ts h = refl
levels_none (suc d) ts h =
    let a = rows-size ts in
    let e = empty (rows ts) (omega arith) in
    let r = levels_none d (belows ts) (omega arith) in
    ap (λ (l : List ℕ). l ++ levels d (belows ts)) e ∙ r

less : (d : ℕ) (ts : List Tree) → sizes ts ≤ suc d → sizes (belows ts) ≤ d
less d ts h = by (length (rows ts)) refl
  where
    by : (n : ℕ) → length (rows ts) ≡ n → sizes (belows ts) ≤ d
    by zero e = let b = rows_none ts (omega arith) in omega arith
    by (suc n) e = let a = rows-size ts in omega arith

-- as many rows as nodes are enough
pub levels-enough : (d e : ℕ) (ts : List Tree) → sizes ts ≤ d → sizes ts ≤ e → levels d ts ≡ levels e ts
levels-enough zero e ts h k = sym (levels_none e ts h)
levels-enough (suc d) zero ts h k = levels_none (suc d) ts k
levels-enough (suc d) (suc e) ts h k =
    ap (λ (l : List ℕ). rows ts ++ l) (levels-enough d e (belows ts) (less d ts h) (less e ts k))

-- All rows are the first and all below it.
pub levels-turn : (ts : List Tree) → levels (sizes ts) ts ≡ rows ts ++ levels (sizes (belows ts)) (belows ts)
levels-turn ts =
    let a = rows-size ts in
    levels-enough (sizes ts) (suc (sizes ts)) ts (omega arith) (omega arith)
    ∙ ap (λ (l : List ℕ). rows ts ++ l) (levels-enough (sizes ts) (sizes (belows ts)) (belows ts) (omega arith) (omega arith))

-- and have as many members as there are nodes.
pub levels-length : (d : ℕ) (ts : List Tree) → sizes ts ≤ d → length (levels d ts) ≡ sizes ts
levels-length zero ts h = omega arith
levels-length (suc d) ts h =
    let a = rows-size ts in
    let b = levels-length d (belows ts) (less d ts h) in
    let c = length-append (rows ts) (levels d (belows ts)) in
    omega arith
