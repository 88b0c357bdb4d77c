-- A node's children take a place in another chain, in order: the links after it hold the forest after it, and have no cycle where
-- the place is the node's own.
use Rattle.std.specs.Prelude.{◌≡◌, ◌≢◌, ◌⊎◌, List, ◌∷◌, ◌++◌, ℕ, zero, suc, ◌≤◌}
use Rattle.std.proofs.Common.{sym, ap, ◌∙◌, subst, inl, inr, le_of_suc-le-suc, not-suc-le-zero, arith}
use Rattle.rules.specs.Lists.{head_or, last_or, In, Off}
use Rattle.rules.specs.Links.{fst, lst, View}
use Rattle.rules.specs.Forest.{Key, children, owner, Forest, Chain, OwnerIn, Holds, moved}
use Rattle.forest.specs.Lists.{in-dec}
use Rattle.follow.specs.Point.{at, at_same, at_other}
use Rattle.forest.specs.View.{upd, connect}
use Rattle.follow.specs.Follow.{Ends, stop, step, EndsIn}
use Rattle.forest.specs.Members.{own-apart}
use Rattle.forest.specs.Insert.{all_at, all_off, transplant, holds-move}

-- x has no children
abbrev pub childless : View → ℕ → View
childless v x = upd (upd v fst x 0) lst x 0

-- which another node's chain does not see
childless-chain : (v : View) (x o : ℕ) (xs : List ℕ) → (o ≢ 0 → o ≢ x) → Chain v o xs → Chain (childless v x) o xs
childless-chain v x o xs h c = record {
  segment = c.segment;
  first = λ z. at_other (v fst) x 0 o (h z) ∙ c.first z;
  last = λ z. at_other (v lst) x 0 o (h z) ∙ c.last z;
}

pub holds-hoist : (v : View) (live : ℕ → Type 0) (F : Forest) → Holds v live F → (x : ℕ) → live x → (k : Key) (ls rs : List ℕ) → F k ≡ ls ++ rs
    → OwnerIn live k
    → (m : ℕ) (ms : List ℕ) → F (children x) ≡ m ∷ ms → k ≢ children x
    → Holds (transplant (childless v x) (owner k) (last_or 0 ls) (head_or rs 0) (m ∷ ms)) live (moved F k ls (m ∷ ms) rs (children x))
unfolding transplant connect
holds-hoist v live F H x lx k ls rs e ok m ms ei ki =
    holds-move (childless v x) live F H.members k ls rs e ok (children x) m ms ei ki
    (childless-chain v x (owner k) (ls ++ rs) (own-apart k (children x) ki) (subst (Chain v (owner k)) e (H.chains k ok)))
    x (subst (Chain v x) ei (H.chains (children x) lx)).segment
    (λ k' _ hi ok'. childless-chain v x (owner k') (F k') (own-apart k' (children x) hi) (H.chains k' ok'))
    (record {
      segment = tt;
      first = λ h. at_other _ (owner k) _ x (apart h) ∙ at_other _ (owner k) _ x (apart h) ∙ at_same (v fst) x 0;
      last = λ h. at_other _ (owner k) _ x (apart h) ∙ at_other _ (owner k) _ x (apart h) ∙ at_same (v lst) x 0;
    })
  where
    apart : x ≢ 0 → x ≢ owner k
    apart h = own-apart (children x) k (λ q. ki (sym q)) h

-- ---- no cycle

all_in_at : (f : ℕ → ℕ) (ms : List ℕ) (o y : ℕ) → In y ms → all_at f ms o y ≡ o
unfolding all_at
all_in_at f (x ∷ xs) o y (inr t) = all_in_at (at f x o) xs o y t
all_in_at f (x ∷ xs) o y (inl e) = go (all_in_at (at f x o) xs o y) (in-dec y xs)
  where
    go : (In y xs → all_at (at f x o) xs o y ≡ o) → Off y xs ⊎ In y xs → all_at (at f x o) xs o y ≡ o
    go ih (inl k) = all_off (at f x o) xs o y k ∙ ap (at f x o) e ∙ at_same f x o
    go ih (inr t) = ih t
all_in_at f mathlib.Core.List.[] o y x' = elim x' [ ]

-- the children ms of x get x's parent instead
pub ends-hoist : (f : ℕ → ℕ) (x : ℕ) (ms : List ℕ) → x ≢ 0 → ((y : ℕ) → Off y ms ⊎ (In y ms × (f y ≡ x))) → (b n : ℕ) → n ≤ b → (y : ℕ) → EndsIn f n y
    → Ends (all_at f ms (f x)) y
ends-hoist f x ms xz c zero zero h y a = subst (Ends (all_at f ms (f x))) (sym a) stop
ends-hoist f x ms xz c (suc b) zero h y a = subst (Ends (all_at f ms (f x))) (sym a) stop
ends-hoist f x ms xz c zero (suc n) h y a = absurd (not-suc-le-zero h)
ends-hoist f x ms xz c (suc b) (suc n) h y a = go (λ m. ends-hoist f x ms xz c b m) (c y) n a.1 (le_of_suc-le-suc h)
  where
    go : ((m : ℕ) → m ≤ b → (z : ℕ) → EndsIn f m z → Ends (all_at f ms (f x)) z) → Off y ms ⊎ (In y ms × (f y ≡ x)) → (n : ℕ) → EndsIn f n (f y)
        → n ≤ b
        → Ends (all_at f ms (f x)) y
    go ih (inl k) n e l = step a.0 (rw (all_off f ms (f x) y k) (ih n l (f y) e))
    go ih (inr t) zero e l = absurd (xz (sym t.1 ∙ e))
    go ih (inr t) (suc n) e l = step a.0 (rw (all_in_at f ms (f x) y t.0) (ih n (omega arith) (f x) (subst (λ (z : ℕ). EndsIn f n (f z)) t.1 e.1)))
