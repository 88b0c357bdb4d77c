-- The traversal, one edge at a time, with its edges stored as they come: what is left then is the whole that was to come.
-- From its definition alone.
use Rattle.std.proofs.Math.Path.{◌≡◌}
use Rattle.std.specs.Prelude.{refl, Bool, true, false, cond, set}
use Rattle.std.proofs.Common.{sym, ap, ◌∙◌, sub-one}
use mathlib.Core.List.{List, [], ◌∷◌}
use Prim.Native.Nat.{◌-◌, ℕ, zero, suc, ◌+◌, ◌<◌, ◌≤◌}
use native.Mathlib.Omega.{arith}
use Rattle.std.proofs.Math.ListN.{length}
use Rattle.std.proofs.lemmas.List.Edits.{sets}
use Rattle.link.specs.Found.{found_b}
use Rattle.walk.specs.Edges.{edge_id, edge_code, next_of_next, step_from}
use Rattle.walk.specs.Written.{written}
use Rattle.walk.specs.WrittenLaws.{sets-written, sets_more}
use Rattle.walk.specs.Runs.{yield_from}
use Rattle.walk.specs.Walks.{Walked, before, traversal, codes, yielded_to, yielded}
use Rattle.walk.specs.declared.edge.Edge.{Edge}
use Rattle.walk.specs.declared.edge.Step.{Step}
use Rattle.walk.specs.declared.edge.Step.TheVariants as S

module _ (n : ℕ) (m : List ℕ) (used root : ℕ) (list : List ℕ) (i : ℕ) where
  pub yield-out : (next : Step) → n ≤ 0 → yield_from n m used root next list i ≡ (list, i, next)
  unfolding yield_from traversal
  yield-out next h = let e : n ≡ 0 = omega arith in let z : i + 0 ≡ i = omega arith in rw e (rw z)

  pub yield-edge : (e : Edge) → 0 < n → found_b m used (edge_id e) ≡ true
      → yield_from n m used root (S.Edge e) list i ≡ yield_from (n - 1) m used root (next_of_next m root e) (set list i (edge_code e)) (i + 1)
  unfolding yield_from traversal
  yield-edge e h f = by n h
    where
      by : (k : ℕ) → 0 < k
          → yield_from k m used root (S.Edge e) list i ≡ yield_from (k - 1) m used root (next_of_next m root e) (set list i (edge_code e)) (i + 1)
      by zero g = absurd (omega arith)
      by (suc k) g = simp (f, sub-one) (stored (traversal k m used root (next_of_next m root e)))
        where
          stored : (t : List Edge × Step)
              → ◌≡◌ {A = List ℕ × ℕ × Step} (sets list i (codes (before e t).0), i + length (before e t).0, (before e t).1)
              (sets (set list i (edge_code e)) (i + 1) (codes t.0), i + 1 + length t.0, t.1)
          stored t =
              let s = sets_more list i (edge_code e) (codes t.0) in
              let c : i + suc (length t.0) ≡ i + 1 + length t.0 = omega arith in
              cc

  pub yield-lost : (e : Edge) → 0 < n → found_b m used (edge_id e) ≡ false → yield_from n m used root (S.Edge e) list i ≡ (list, i, S.Broken)
  unfolding yield_from traversal
  yield-lost e h f = by n h
    where
      by : (k : ℕ) → 0 < k → yield_from k m used root (S.Edge e) list i ≡ (list, i, S.Broken)
      by zero g = absurd (omega arith)
      by (suc k) g = let z : i + 0 ≡ i = omega arith in simp (f, z)

  pub yield-over : 0 < n → yield_from n m used root S.Over list i ≡ (list, i, S.Over)
  unfolding yield_from traversal
  yield-over h = by n h
    where
      by : (k : ℕ) → 0 < k → yield_from k m used root S.Over list i ≡ (list, i, S.Over)
      by zero g = absurd (omega arith)
      by (suc k) g = let z : i + 0 ≡ i = omega arith in simp z

  pub yield_broken : 0 < n → yield_from n m used root S.Broken list i ≡ (list, i, S.Broken)
  unfolding yield_from traversal
  yield_broken h = by n h
    where
      by : (k : ℕ) → 0 < k → yield_from k m used root S.Broken list i ≡ (list, i, S.Broken)
      by zero g = absurd (omega arith)
      by (suc k) g = let z : i + 0 ≡ i = omega arith in simp z

-- A step is the traversal with a budget of one.
pub step_one : (m : List ℕ) (used root : ℕ) (e : Edge) → (traversal 1 m used root (S.Edge e)).1 ≡ step_from m used root e
unfolding traversal step_from
step_one m used root e = by (found_b m used (edge_id e))
  where
    by : (b : Bool) → (cond {A = List Edge × Step} b (before e ([], next_of_next m root e)) ([], S.Broken)).1 ≡ cond b (next_of_next m root e) S.Broken
    by true = refl
    by false = refl

-- No more edges than the budget.
pub traversal-most : (k : ℕ) (m : List ℕ) (used root : ℕ) (next : Step) → length (traversal k m used root next).0 ≤ k
unfolding traversal
traversal-most zero m used root next = omega arith
traversal-most (suc k) m used root S.Over = omega arith
traversal-most (suc k) m used root S.Broken = omega arith
traversal-most (suc k) m used root (S.Edge e) = by (found_b m used (edge_id e)) (traversal-most k m used root (next_of_next m root e))
  where
    by : (b : Bool) → length (traversal k m used root (next_of_next m root e)).0 ≤ k
        → length (cond {A = List Edge × Step} b (before e (traversal k m used root (next_of_next m root e))) ([], S.Broken)).0 ≤ suc k
    by true h = omega arith
    by false h = omega arith

pub length-codes : (es : List Edge) → length (codes es) ≡ length es
length-codes [] = refl
length-codes (e ∷ es) = ap suc (length-codes es)

-- The whole of it, once it is stored.
pub yield-whole : (k : ℕ) (m : List ℕ) (used root : ℕ) (next : Step) (list : List ℕ) {list' : List ℕ} {count : ℕ} {next' : Step} {r : Walked} → k ≤ length list
    → (list', count, next') ≡ yield_from k m used root next list 0 → r ≡ yielded_to root count next' → (list', r) ≡ yielded m used root next k list
unfolding yield_from yielded
yield-whole k m used root next list {list'} {count} {next'} {r} fits e q =
    let t = traversal k m used root next in
    let n : length (codes t.0) ≡ length t.0 = length-codes t.0 in
    let b = traversal-most k m used root next in
    let w : sets list 0 (codes t.0) ≡ written (codes t.0) list = sets-written (codes t.0) list (omega arith) in
    let z : 0 + length t.0 ≡ length t.0 = omega arith in
    ap (answered list') q ∙ ap (λ (p : List ℕ × ℕ × Step). answered p.0 (yielded_to root p.1 p.2)) e ∙ simp (w, z)
  where
    answered : List ℕ → Walked → List ℕ × Walked
    answered l a = (l, a)

-- A turn of the loop, by what it met; n edges were still to come.
module _ (n : ℕ) (m : List ℕ) (used root : ℕ) (next : Step) (list : List ℕ) (i : ℕ) {whole : List ℕ × ℕ × Step}
    (some : 0 < n) (inv : yield_from n m used root next list i ≡ whole) where
  pub turn-edge : (e : Edge) {id code : ℕ} {after : Step} {found : Bool} → next ≡ S.Edge e → id ≡ edge_id e → found ≡ found_b m used id → found ≡ true
      → code ≡ edge_code e → after ≡ next_of_next m root e → yield_from (n - 1) m used root after (set list i code) (i + 1) ≡ whole
  turn-edge e {id} {code} {after} {found} p q f t c a =
      let seen : found_b m used (edge_id e) ≡ true = ap (found_b m used) (sym q) ∙ sym f ∙ t in
      ap (λ (s : Step). yield_from (n - 1) m used root s (set list i code) (i + 1)) a
      ∙ ap (λ (k : ℕ). yield_from (n - 1) m used root (next_of_next m root e) (set list i k) (i + 1)) c
      ∙ sym (yield-edge n m used root list i e some seen)
      ∙ ap (λ (s : Step). yield_from n m used root s list i) (sym p) ∙ inv

  pub turn-lost : (e : Edge) {id : ℕ} {found : Bool} → next ≡ S.Edge e → id ≡ edge_id e → found ≡ found_b m used id → found ≡ false → (list, i, S.Broken) ≡ whole
  turn-lost e {id} {found} p q f t =
      let lost : found_b m used (edge_id e) ≡ false = ap (found_b m used) (sym q) ∙ sym f ∙ t in
      sym (yield-lost n m used root list i e some lost) ∙ ap (λ (s : Step). yield_from n m used root s list i) (sym p) ∙ inv
