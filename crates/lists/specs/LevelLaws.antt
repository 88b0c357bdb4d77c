-- Level order, one node asked at a time, on lent places of which the first are the list so far.
-- From the definitions alone.
use Rattle.std.specs.Prelude.{◌≡◌, List, [], ◌∷◌, ◌++◌, get_or, set, take, drop}
use Rattle.std.proofs.Math.Path.{refl, ap}
use Rattle.std.proofs.Common.{sym, ◌∙◌, sub-one, arith, take-append-drop, length-append, length-set, drop-drop, length-take-le, get_or-take, take-suc-set, drop-set-lt, lt-ltb, le-ltb, ne_eqb}
use Prim.Native.Nat.{◌-◌, ℕ, zero, suc, ◌+◌, ◌<◌, ◌≤◌}
use Rattle.std.proofs.Math.ListN.{length}
use Rattle.std.proofs.lemmas.List.Edits.{sets, sets-eq}
use Rattle.std.proofs.Math.Seq.{length-sets, take_at, drop_at}
use Rattle.walk.specs.Written.{written}
use Rattle.lists.specs.Orders.{ordered}
use Rattle.lists.specs.Storing.{stored_at}
use Rattle.lists.specs.OrderLaws.{ordered-most}
use Rattle.lists.specs.Levels.{level_run, level_order}
use Rattle.lists.specs.declared.order.Order.TheVariants.{Children}

module _ (n : ℕ) (m : List ℕ) (size : ℕ) (xs : List ℕ) (asked : ℕ) where
  pub level_out : length xs ≤ asked → level_run n m size xs asked ≡ xs
  unfolding level_run
  level_out h = by n
    where
      by : (k : ℕ) → level_run k m size xs asked ≡ xs
      by zero = refl
      by (suc k) = simp (le-ltb asked (length xs) h)

  pub level-step : 0 < n → asked < length xs
      → level_run n m size xs asked ≡ level_run (n - 1) m size (xs ++ ordered m (size - length xs) Children (get_or xs asked 0)) (asked + 1)
  unfolding level_run
  level-step h k = by n h
    where
      by : (k : ℕ) → 0 < k
          → level_run k m size xs asked ≡ level_run (k - 1) m size (xs ++ ordered m (size - length xs) Children (get_or xs asked 0)) (asked + 1)
      by zero g = absurd (omega arith)
      by (suc j) g = simp (lt-ltb asked (length xs) k, sub-one)

-- The places before and behind what was stored.
module _ (xs list : List ℕ) (at : ℕ) (fits : at + length xs ≤ length list) where
  before-length : length (take at list ++ xs) ≡ at + length xs
  before-length = length-append (take at list) xs ∙ ap (λ (k : ℕ). k + length xs) (length-take-le at list (omega arith))

  pub take-stored : take (stored_at xs list at).1 (stored_at xs list at).0 ≡ take at list ++ xs
  unfolding stored_at
  take-stored = ap (take (at + length xs)) (sets-eq xs list at fits) ∙ take_at (take at list ++ xs) (drop (at + length xs) list) (at + length xs) before-length

  pub drop-stored : drop (stored_at xs list at).1 (stored_at xs list at).0 ≡ drop (at + length xs) list
  unfolding stored_at
  drop-stored = ap (drop (at + length xs)) (sets-eq xs list at fits) ∙ drop_at (take at list ++ xs) (drop (at + length xs) list) (at + length xs) before-length

-- Places of which the first are xs and the others as they were: xs is written.
pub parts-written : (xs list list' : List ℕ) (at : ℕ) → at ≤ length list' → take at list' ≡ xs → drop at list' ≡ drop at list
    → (list' ≡ written xs list) × (at ≡ length xs)
unfolding written
parts-written xs list list' at h e f =
    let n : length xs ≡ at = sym (ap length e) ∙ length-take-le at list' h in (
      sym (take-append-drop at list') ∙ ap (λ (l : List ℕ). l ++ drop at list') e ∙ ap (λ (l : List ℕ). xs ++ l) f
          ∙ ap (λ (k : ℕ). xs ++ drop k list) (sym n),
      sym n,
    )

-- Where the loop stands: `at` places are written, the first `asked` of them have been asked, and the rest makes the whole.
pub record Levelling (m : List ℕ) (root size : ℕ) (list₀ list : List ℕ) (asked at : ℕ) : Type 0 where
  pub begun : 0 < at
  pub some : asked ≤ at
  pub within : at ≤ size
  pub places : length list ≡ length list₀
  pub behind : drop at list ≡ drop at list₀
  pub rest : level_run (size - asked) m size (take at list) asked ≡ level_run size m size (root ∷ []) 0

pub levelling-begin : (m : List ℕ) (root size : ℕ) (list : List ℕ) → size ≤ length list → 0 < size
    → Levelling m root size (set list 0 root) (set list 0 root) 0 1
levelling-begin m root size list fits h =
    let n : size - 0 ≡ size = omega arith in
    let t : take 1 (set list 0 root) ≡ root ∷ [] = take-suc-set list 0 root (omega arith) in
    record {
      begun = omega arith;
      some = omega arith;
      within = omega arith;
      places = refl;
      behind = refl;
      rest = ap (λ (k : ℕ). level_run k m size (take 1 (set list 0 root)) 0) n ∙ ap (λ (xs : List ℕ). level_run size m size xs 0) t;
    }

pub levelling-more : (m : List ℕ) (root size : ℕ) (list₀ list : List ℕ) (asked at x : ℕ) {list' : List ℕ} {at' : ℕ} → size ≤ length list₀
    → Levelling m root size list₀ list asked at → asked < at → x ≡ get_or list asked 0
    → (list', at') ≡ stored_at (ordered m (size - at) Children x) list at → Levelling m root size list₀ list' (asked + 1) at'
unfolding stored_at
levelling-more m root size list₀ list asked at x {list'} {at'} fits L h e p =
    let xs = ordered m (size - at) Children x in
    let b = ordered-most m (size - at) Children x in
    let q : at' ≡ at + length xs = ap (λ (w : List ℕ × ℕ). w.1) p in
    let w : list' ≡ sets list at xs = ap (λ (w : List ℕ × ℕ). w.0) p in
    let i = L.within in
    let l = L.places in
    let room : at + length xs ≤ length list = omega arith in
    let n : length (take at list) ≡ at = length-take-le at list (omega arith) in
    let g : get_or (take at list) asked 0 ≡ x = get_or-take at list asked 0 h ∙ sym e in
    let c : size - asked - 1 ≡ size - (asked + 1) = omega arith in
    let s = level-step (size - asked) m size (take at list) asked (omega arith) (omega arith) in
    record {
      begun = omega arith;
      some = omega arith;
      within = omega arith;
      places = ap length w ∙ length-sets list at xs ∙ L.places;
      behind = rw (q, w) (drop-stored xs list at room ∙ sym (drop-drop (length xs) at list) ∙ ap (drop (length xs)) L.behind ∙ drop-drop (length xs) at list₀);
      rest = ap (λ (l : List ℕ). level_run (size - (asked + 1)) m size l (asked + 1)) (rw (q, w) (take-stored xs list at room))
          ∙ ap (λ (k : ℕ). level_run k m size (take at list ++ xs) (asked + 1)) (sym c)
          ∙ ap (λ (y : ℕ). level_run (size - asked - 1) m size (take at list ++ ordered m (size - at) Children y) (asked + 1)) (sym g)
          ∙ ap (λ (k : ℕ). level_run (size - asked - 1) m size (take at list ++ ordered m (size - k) Children (get_or (take at list) asked 0)) (asked + 1)) (sym n)
          ∙ sym s ∙ L.rest;
    }

pub levelling-end : (m : List ℕ) (root size : ℕ) (list₀ list : List ℕ) (asked at : ℕ) → size ≤ length list₀ → (size ≡ 0 → ⊥)
    → Levelling m root size (set list₀ 0 root) list asked at → at ≤ asked
    → (list ≡ written (level_order m size root) list₀) × (at ≡ length (level_order m size root))
unfolding level_order
levelling-end m root size list₀ list asked at fits z L h =
    let i = L.within in
    let l : length list ≡ length list₀ = L.places ∙ length-set list₀ 0 root in
    let n : length (take at list) ≡ at = length-take-le at list (omega arith) in
    let t : take at list ≡ level_run size m size (root ∷ []) 0 = sym (level_out (size - asked) m size (take at list) asked (omega arith)) ∙ L.rest in
    simp (ne_eqb size 0 z) (parts-written (level_run size m size (root ∷ []) 0) list₀ list at (omega arith) t (L.behind ∙ drop-set-lt at list₀ 0 root L.begun))
