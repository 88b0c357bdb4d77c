-- Which node stands in which chain: a member of one chain is off every other; and what an edit of the forest says of each chain.
-- Nothing here is about links.
use Rattle.std.specs.Prelude.{◌≡◌, refl, ◌≢◌, ◌⊎◌, List, [], ◌∷◌, ◌++◌, ℕ}
use Rattle.std.proofs.Common.{sym, ap, ◌∙◌, subst, inl, inr}
use Rattle.std.proofs.Math.Logic.{ite, if_pos}
use Rattle.std.proofs.Math.Decide.{ℕ_discrete}
use Rattle.rules.specs.Lists.{In, Off}
use Rattle.rules.specs.Forest.{Key, children, roots, Key-Dec, owner, Forest, Members, put, detached, moved, dropped}
use Rattle.forest.specs.Lists.{not_in_off}

module _ (live : ℕ → Type 0) (F : Forest) (M : Members live F) where
  pub zero_off : (k : Key) → Off 0 (F k)
  zero_off k = not_in_off 0 (F k) (λ t. M.some 0 (M.member k 0 t).0 refl)

  pub far_off : (k k' : Key) (y : ℕ) → k' ≢ k → In y (F k) → Off y (F k')
  far_off k k' y h t = not_in_off y (F k') (λ t'. h ((M.member k' y t').1 ∙ sym (M.member k y t).1))

  -- the same for none
  pub far-end : (k k' : Key) (y : ℕ) → k' ≢ k → (y ≡ 0) ⊎ In y (F k) → Off y (F k')
  far-end k k' y h (inl e) = subst (λ (z : ℕ). Off z (F k')) (sym e) (zero_off k')
  far-end k k' y h (inr t) = far_off k k' y h t

-- two chains have two parents, unless both have none
pub own-apart : (k' k : Key) → k' ≢ k → owner k' ≢ 0 → owner k' ≢ owner k
own-apart (roots i) k h z q = z refl
own-apart (children p) (roots i) h z q = z q
own-apart (children p) (children p') h z q = h (ap children q)

-- ---- what an edit says of each chain

pub put_same : (F : Forest) (k : Key) (xs : List ℕ) → put F k xs k ≡ xs
unfolding put
put_same F k xs = if_pos (Key-Dec ℕ_discrete k k) refl xs (F k)

pub put_elim : (P : Key → List ℕ → Type 0) (F : Forest) (k : Key) (xs : List ℕ) → P k xs → ((k' : Key) → k' ≢ k → P k' (F k')) → (k' : Key)
    → P k' (put F k xs k')
unfolding put
put_elim P F k xs a b k' = go (Key-Dec ℕ_discrete k' k)
  where
    go : (d : Dec (k' ≡ k)) → P k' (ite d xs (F k'))
    go (yes e) = subst (λ (z : Key). P z xs) (sym e) a
    go (no h) = b k' h

pub detached_elim : (P : Key → List ℕ → Type 0) (F : Forest) (k : Key) (ls rs : List ℕ) (x j : ℕ) → P (roots j) (x ∷ []) → P k (ls ++ rs)
    → ((k' : Key) → k' ≢ k → P k' (F k')) → (k' : Key) → P k' (detached F k ls x rs j k')
detached_elim P F k ls rs x j a b c = put_elim P (put F k (ls ++ rs)) (roots j) (x ∷ []) a (λ k' h. put_elim P F k (ls ++ rs) b c k')

pub moved_elim : (P : Key → List ℕ → Type 0) (F : Forest) (k : Key) (ls ms rs : List ℕ) (i : Key) → P i [] → P k (ls ++ (ms ++ rs))
    → ((k' : Key) → k' ≢ k → k' ≢ i → P k' (F k')) → (k' : Key) → P k' (moved F k ls ms rs i k')
moved_elim P F k ls ms rs i a b c =
    put_elim P (put F k (ls ++ (ms ++ rs))) i [] a (λ k' h. put_elim (λ z xs. z ≢ i → P z xs) F k (ls ++ (ms ++ rs)) (λ _. b) c k' h)

pub dropped_elim : (P : Key → List ℕ → Type 0) (F : Forest) (xs : List ℕ) (i : Key) → P i [] → ((p : ℕ) → In p xs → P (children p) [])
    → ((k : Key) → k ≢ i → ((p : ℕ) → k ≡ children p → Off p xs) → P k (F k)) → (k : Key) → P k (dropped F xs i k)
dropped_elim P F [] i a b c = put_elim P F i [] a (λ k h. c k h (λ p _. tt))
dropped_elim P F (x ∷ xs) i a b c =
    put_elim P (dropped F xs i) (children x) [] (b x (inl refl))
    (λ k h. dropped_elim (λ z ys. z ≢ children x → P z ys) F xs i (λ _. a) (λ p t _. b p (inr t))
    (λ z hi hk h'. c z hi (λ p e. ((λ q. h' (e ∙ ap children q)), hk p e))) k h)
