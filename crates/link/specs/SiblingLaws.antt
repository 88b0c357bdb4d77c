-- The walk along next, one turn at a time; and what each function of the range answers, put together from its calls.
use Rattle.std.specs.Prelude.{◌≡◌, List, eqb, Result, Ok, Err}
use Rattle.std.proofs.Common.{sym, ap, ◌∙◌}
use Rattle.std.proofs.Math.Bool.{cond}
use Prim.Native.Nat.{◌-◌, ℕ, zero, suc, ◌<◌, ◌≤◌}
use native.Mathlib.Omega.{arith}
use Rattle.std.proofs.Math.Numerals.{sub-one}
use Rattle.link.specs.Words.{PARENT, NEXT, link, set_link}
use Rattle.link.specs.Siblings.{rewrite_parents, joined, transplanted}
use Rattle.link.specs.declared.siblings_range.ConsistencyError.{ConsistencyError}
use Rattle.link.specs.declared.siblings_range.ConsistencyError.TheVariants.{ParentChildLoop, OutOfSteps}

module _ (n : ℕ) (m : List ℕ) (child parent : ℕ) where
  pub rewrite-out : n ≤ 0 → rewrite_parents n m child parent ≡ (m, Err OutOfSteps)
  unfolding rewrite_parents
  rewrite-out h = let e : n ≡ 0 = omega arith in rw e

  pub rewrite-step : 0 < n → rewrite_parents n m child parent ≡
      cond (eqb child 0) (m, Ok tt)
      (cond (eqb child parent) (m, Err ParentChildLoop)
      (rewrite_parents (n - 1) (set_link m child PARENT parent) (link (set_link m child PARENT parent) child NEXT) parent))
  unfolding rewrite_parents
  rewrite-step h = by n h
    where
      by : (k : ℕ) → 0 < k → rewrite_parents k m child parent ≡
          cond (eqb child 0) (m, Ok tt)
          (cond (eqb child parent) (m, Err ParentChildLoop)
          (rewrite_parents (k - 1) (set_link m child PARENT parent) (link (set_link m child PARENT parent) child NEXT) parent))
      by zero g = absurd (omega arith)
      by (suc k) g = simp sub-one

-- What was said, by its case, and the memory joined by that case.
pub transplanted_by : (n : ℕ) (m : List ℕ) (first last parent previous next : ℕ) {m₁ m₂ : List ℕ} {said s : Result Unit ConsistencyError}
    → (m₁, said) ≡ rewrite_parents n m first parent → said ≡ s → m₂ ≡ joined s m₁ first last parent previous next
    → (m₂, s) ≡ transplanted n m first last parent previous next
unfolding transplanted
transplanted_by n m first last parent previous next {m₁} {m₂} {said} {s} e f g =
    ap (λ (x : List ℕ). (x, s)) g
    ∙ ap (λ (r : List ℕ × Result Unit ConsistencyError). (joined r.1 r.0 first last parent previous next, r.1)) (ap (λ (z : Result Unit ConsistencyError). (m₁, z)) (sym f) ∙ e)
