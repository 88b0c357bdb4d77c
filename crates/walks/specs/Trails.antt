-- The traversal cut into budgets is the traversal; and along a trail of found edges it yields the trail, as far as the budget goes.
-- From the definition of the traversal, on any memory.
use Rattle.std.specs.Prelude.{◌≡◌, Bool, length, take}
use Rattle.std.proofs.Math.Path.{refl, sym, ap}
use Rattle.std.proofs.Common.{◌∙◌, zero-add, suc-add, arith}
use Rattle.std.proofs.Math.Bool.{true, false, cond}
use mathlib.Core.List.{List, [], ◌∷◌, ◌++◌}
use Prim.Native.Nat.{ℕ, zero, suc, ◌+◌, ◌≤◌}
use Rattle.link.specs.Found.{found_b}
use Rattle.walk.specs.Edges.{edge_id, next_of_next}
use Rattle.walk.specs.Walks.{before, traversal}
use Rattle.walk.specs.declared.edge.Edge.{Edge}
use Rattle.walk.specs.declared.edge.Step.{Step}
use Rattle.walk.specs.declared.edge.Step.TheVariants as S

-- One walk after another: the edges of both, and where the second stands.
abbrev pub then : List Edge × Step → (Step → List Edge × Step) → List Edge × Step
then a f = (a.0 ++ (f a.1).0, (f a.1).1)

-- Walking with one budget after another.
abbrev pub divided : List ℕ → List ℕ → ℕ → ℕ → Step → List Edge × Step
divided [] m used root next = ([], next)
divided (k ∷ ks) m used root next = then (traversal k m used root next) (divided ks m used root)

abbrev pub sum : List ℕ → ℕ
sum [] = 0
sum (k ∷ ks) = k + sum ks

module _ (m : List ℕ) (used root : ℕ) where
  -- after over or broken nothing is yielded, with the same mark
  pub after-over : (k : ℕ) → traversal k m used root S.Over ≡ ([], S.Over)
  unfolding traversal
  after-over zero = refl
  after-over (suc k) = refl

  pub after_broken : (k : ℕ) → traversal k m used root S.Broken ≡ ([], S.Broken)
  unfolding traversal
  after_broken zero = refl
  after_broken (suc k) = refl

  pub traversal_add : (j k : ℕ) (next : Step) → traversal (j + k) m used root next ≡ then (traversal j m used root next) (traversal k m used root)
  unfolding traversal
  traversal_add zero k next = ap (λ (n : ℕ). traversal n m used root next) (zero-add k)
  traversal_add (suc j) k S.Over = after-over (suc j + k) ∙ sym (ap (λ (p : List Edge × Step). then ([], S.Over) (λ _. p)) (after-over k))
  traversal_add (suc j) k S.Broken = after_broken (suc j + k) ∙ sym (ap (λ (p : List Edge × Step). then ([], S.Broken) (λ _. p)) (after_broken k))
  traversal_add (suc j) k (S.Edge e) =
      ap (λ (n : ℕ). traversal n m used root (S.Edge e)) (suc-add j k) ∙ by (found_b m used (edge_id e)) (traversal_add j k (next_of_next m root e))
    where
      by : (b : Bool) → traversal (j + k) m used root (next_of_next m root e) ≡ then (traversal j m used root (next_of_next m root e)) (traversal k m used root)
          → cond {A = List Edge × Step} b (before e (traversal (j + k) m used root (next_of_next m root e))) ([], S.Broken)
          ≡ then (cond {A = List Edge × Step} b (before e (traversal j m used root (next_of_next m root e))) ([], S.Broken)) (traversal k m used root)
      by true ih = ap (before e) ih
      by false ih = sym (ap (λ (p : List Edge × Step). then ([], S.Broken) (λ _. p)) (after_broken k))

  -- Any division into budgets is the walk with their sum.
  pub divided-whole : (ks : List ℕ) (next : Step) → divided ks m used root next ≡ traversal (sum ks) m used root next
  unfolding traversal
  divided-whole [] next = refl
  divided-whole (k ∷ ks) next =
      ap (λ (p : List Edge × Step). then (traversal k m used root next) (λ _. p)) (divided-whole ks (traversal k m used root next).1)
      ∙ sym (traversal_add k (sum ks) next)

  -- From a step along found edges until it is over.
  pub data Trail : Step → List Edge → Type 0 where
    end : Trail S.Over []
    on : {e : Edge} {es : List Edge} → found_b m used (edge_id e) ≡ true → Trail (next_of_next m root e) es → Trail (S.Edge e) (e ∷ es)

  -- What a budget yields of a trail.
  pub trail-takes : (k : ℕ) {next : Step} {es : List Edge} → Trail next es → (traversal k m used root next).0 ≡ take k es
  unfolding traversal
  trail-takes zero t = refl
  trail-takes (suc k) end = refl
  trail-takes (suc k) (on {e} {es} f t) = simp f (ap (λ (l : List Edge). e ∷ l) (trail-takes k t))

  pub trail-over : (k : ℕ) {next : Step} {es : List Edge} → Trail next es → length es ≤ k → (traversal k m used root next).1 ≡ S.Over
  unfolding traversal
  trail-over zero end h = refl
  trail-over zero (on f t) h = absurd (omega arith)
  trail-over (suc k) end h = refl
  trail-over (suc k) (on {e} {es} f t) h = simp f (trail-over k t (omega arith))
