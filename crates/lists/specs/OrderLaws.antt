-- A list by steps, one node at a time: counted, and stored as it comes. Said once, over the step and what is kept.
-- From the definitions alone.
use Rattle.std.specs.Prelude.{◌≡◌, Bool, eqb}
use Rattle.std.proofs.Math.Path.{refl}
use Rattle.std.proofs.Common.{ap, ◌∙◌, eq-eqb, ne_eqb}
use Rattle.std.proofs.Math.Bool.{true, false, cond}
use mathlib.Core.List.{List, [], ◌∷◌}
use Prim.Native.Nat.{◌-◌, ℕ, zero, suc, ◌+◌, ◌<◌, ◌≤◌}
use Rattle.std.proofs.Math.Numerals.{sub-one}
use native.Mathlib.Omega.{arith}
use Rattle.std.proofs.Math.ListN.{length}
use Rattle.std.proofs.lemmas.List.Edits.{sets}
use Rattle.link.specs.Words.{PARENT, NEXT, link}
use Rattle.walk.specs.Written.{written}
use Rattle.walk.specs.WrittenLaws.{sets-written, sets_more}
use Rattle.lists.specs.Storing.{put_if, stored_at}
use Rattle.lists.specs.Orders.{along, kept, after_subtree, first_of, step_of, keep_b, ordered}
use Rattle.lists.specs.declared.order.Order.{Order}

-- What comes behind a subtree, one ancestor at a time.
module _ (n : ℕ) (m : List ℕ) (root y : ℕ) where
  pub after-out : n ≤ 0 → after_subtree n m root y ≡ 0
  unfolding after_subtree
  after-out h = let e : n ≡ 0 = omega arith in rw e

  pub after-step : 0 < n → after_subtree n m root y ≡
      cond (eqb y root) 0 (cond (eqb (link m y NEXT) 0) (after_subtree (n - 1) m root (link m y PARENT)) (link m y NEXT))
  unfolding after_subtree
  after-step h = by n h
    where
      by : (k : ℕ) → 0 < k → after_subtree k m root y ≡
          cond (eqb y root) 0 (cond (eqb (link m y NEXT) 0) (after_subtree (k - 1) m root (link m y PARENT)) (link m y NEXT))
      by zero g = absurd (omega arith)
      by (suc k) g = simp sub-one

pub stored-done : (list : List ℕ) (at : ℕ) → stored_at [] list at ≡ (list, at)
unfolding stored_at
stored-done list at = let z : at + 0 ≡ at = omega arith in rw z

pub stored-place : (xs list ys list' : List ℕ) (at at' : ℕ) → stored_at xs list at ≡ stored_at ys list' at' → at + length xs ≡ at' + length ys
unfolding stored_at
stored-place xs list ys list' at at' e = ap (λ (p : List ℕ × ℕ). p.1) e

pub one-most : (keep : Bool) → cond keep 1 0 ≤ 1
one-most true = omega arith
one-most false = omega arith

-- The whole of it, once it is stored from the first place on.
pub stored-whole : (xs list : List ℕ) {list' : List ℕ} {count : ℕ} → length xs ≤ length list
    → (list', count) ≡ stored_at xs list 0 → (list' ≡ written xs list) × (count ≡ length xs)
unfolding stored_at
stored-whole xs list fits e = (
  ap (λ (p : List ℕ × ℕ). p.0) e ∙ sets-written xs list fits,
  let q = ap (λ (p : List ℕ × ℕ). p.1) e in omega arith,
)

module _ (keep : ℕ → Bool) (step : ℕ → ℕ) where
  -- What is kept of at most n nodes from x.
  unfoldable pub list_from : ℕ → ℕ → List ℕ
  list_from n x = kept keep (along step n x)

  pub from_out : (n x : ℕ) → n ≤ 0 → list_from n x ≡ []
  unfolding list_from along kept
  from_out n x h = let e : n ≡ 0 = omega arith in rw e

  pub from_none : (n x : ℕ) → x ≡ 0 → list_from n x ≡ []
  unfolding list_from along kept
  from_none zero x e = refl
  from_none (suc n) x e = simp (eq-eqb x 0 e)

  pub from_step : (n x : ℕ) → 0 < n → (x ≡ 0 → ⊥)
      → list_from n x ≡ cond (keep x) (x ∷ list_from (n - 1) (step x)) (list_from (n - 1) (step x))
  unfolding list_from along kept
  from_step zero x h k = absurd (omega arith)
  from_step (suc n) x h k = simp (ne_eqb x 0 k, sub-one)

  pub from-most : (n x : ℕ) → length (list_from n x) ≤ n
  unfolding list_from along kept
  from-most zero x = omega arith
  from-most (suc n) x = by (eqb x 0) (keep x) (from-most n (step x))
    where
      by : (a b : Bool) → length (kept keep (along step n (step x))) ≤ n → length (kept keep (cond a [] (x ∷ along step n (step x)))) ≤ suc n
      by true b h = omega arith
      by false b h = more (keep x)
        where
          more : (b : Bool) → length (cond b (x ∷ kept keep (along step n (step x))) (kept keep (along step n (step x)))) ≤ suc n
          more true = omega arith
          more false = omega arith

  -- One node more.
  pub length-step : (n x : ℕ) → 0 < n → (x ≡ 0 → ⊥) → length (list_from n x) ≡ cond (keep x) 1 0 + length (list_from (n - 1) (step x))
  length-step n x h k = rw (from_step n x h k) (by (keep x))
    where
      by : (b : Bool) → length (cond b (x ∷ list_from (n - 1) (step x)) (list_from (n - 1) (step x))) ≡ cond b 1 0 + length (list_from (n - 1) (step x))
      by true = omega arith
      by false = omega arith

  pub stored-step : (n x : ℕ) (list : List ℕ) (at : ℕ) → 0 < n → (x ≡ 0 → ⊥)
      → stored_at (list_from n x) list at ≡ stored_at (list_from (n - 1) (step x)) (put_if (keep x) list at x).0 (put_if (keep x) list at x).1
  unfolding stored_at put_if
  stored-step n x list at h k = rw (from_step n x h k) (by (keep x))
    where
      rest : List ℕ
      rest = list_from (n - 1) (step x)

      by : (b : Bool) → ◌≡◌ {A = List ℕ × ℕ} (sets list at (cond b (x ∷ rest) rest), at + length (cond b (x ∷ rest) rest))
          (sets (put_if b list at x).0 (put_if b list at x).1 rest, (put_if b list at x).1 + length rest)
      by true =
          let s = sets_more list at x rest in
          let c : at + suc (length rest) ≡ at + 1 + length rest = omega arith in
          cc
      by false = refl

  -- What is kept has its place.
  pub kept-some : (n x : ℕ) → 0 < n → (x ≡ 0 → ⊥) → keep x ≡ true → 0 < length (list_from n x)
  kept-some n x h k e = let l = length-step n x h k in rw (l, e) (omega arith)

-- No list is longer than the slots in use.
pub ordered-most : (m : List ℕ) (used : ℕ) (order : Order) (root : ℕ) → length (ordered m used order root) ≤ used
unfolding ordered list_from
ordered-most m used order root = from-most (keep_b m order) (step_of m used order root) used (first_of m order root)
