-- The rule of `remove_subtree` as an edit of chains: a node taken out and alone, then gone with all below it, is the forest in which
-- its chain has closed and none of those nodes has children. Nothing here is about links.
use Rattle.std.specs.Prelude.{◌≡◌, refl, ◌≢◌, List, [], ◌∷◌, ◌++◌, ℕ}
use Rattle.std.proofs.Common.{sym, ap, ◌∙◌, inl, inr}
use Rattle.rules.specs.Lists.{In, Off}
use Rattle.rules.specs.Forest.{Key, children, roots, Forest, put, detached, dropped}
use Rattle.forest.specs.Members.{put_same, put_elim, dropped_elim}
use Rattle.removed.specs.NodeRule.{keys-apart, put_other}

-- a chain of a node that is gone, and one that is not
dropped_in : (F : Forest) (xs : List ℕ) (i : Key) (p : ℕ) → In p xs → dropped F xs i (children p) ≡ []
dropped_in F (x ∷ xs) i p t = go (dropped_in F xs i p) t
  where
    go : (In p xs → dropped F xs i (children p) ≡ []) → In p (x ∷ xs) → put (dropped F xs i) (children x) [] (children p) ≡ []
    go ih (inl e) = ap (λ (z : ℕ). put (dropped F xs i) (children x) [] (children z)) e ∙ put_same (dropped F xs i) (children x) []
    go ih (inr u) = put_elim (λ k ys. k ≡ children p → ys ≡ []) (dropped F xs i) (children x) [] (λ _. refl) (λ k _ q. ap (dropped F xs i) q ∙ ih u) (children p) refl
dropped_in F [] i p t = elim t [ ]

dropped_off : (F : Forest) (xs : List ℕ) (i k : Key) → k ≢ i → ((p : ℕ) → k ≡ children p → Off p xs) → dropped F xs i k ≡ F k
dropped_off F [] i k n o = put_other F i [] k n
dropped_off F (x ∷ xs) i k n o =
    put_other (dropped F xs i) (children x) [] k (λ q. (o x q).0 refl) ∙ dropped_off F xs i k n (λ p q. (o p q).1)

module _ (F : Forest) (k : Key) (ls : List ℕ) (x : ℕ) (rs : List ℕ) (j : ℕ) (free : F (roots j) ≡ []) (kj : k ≢ roots j) (xs : List ℕ) where
  pub closed-rule : (k' : Key) → dropped (detached F k ls x rs j) (x ∷ xs) (roots j) k' ≡ dropped (put F k (ls ++ rs)) (x ∷ xs) (children x) k'
  closed-rule =
      dropped_elim (λ k' ys. ys ≡ dropped (put F k (ls ++ rs)) (x ∷ xs) (children x) k') (detached F k ls x rs j) (x ∷ xs) (roots j)
      (sym (dropped_off (put F k (ls ++ rs)) (x ∷ xs) (children x) (roots j) (λ q. keys-apart x j (sym q)) (λ p q. absurd (keys-apart p j (sym q)))
      ∙ put_other F k (ls ++ rs) (roots j) (λ q. kj (sym q)) ∙ free))
      (λ p t. sym (dropped_in (put F k (ls ++ rs)) (x ∷ xs) (children x) p t))
      (λ k' n o. put_other (put F k (ls ++ rs)) (roots j) (x ∷ []) k' n
      ∙ sym (dropped_off (put F k (ls ++ rs)) (x ∷ xs) (children x) k' (λ q. (o x q).0 refl) o))
