-- A node's children become chains of one: the links after it, and the edit. Over views.
use Rattle.std.specs.Prelude.{◌≡◌, ◌≢◌, ◌⊎◌, List, [], ◌∷◌, ℕ}
use Rattle.std.proofs.Math.Path.{refl, ap}
use Rattle.std.proofs.Common.{◌∙◌, inl, inr}
use Rattle.rules.specs.Lists.{In, Off}
use Rattle.rules.specs.Links.{par, prv, nxt, fst, lst, View}
use Rattle.rules.specs.Forest.{Key, roots, Forest}
use Rattle.follow.specs.Point.{at, at_same}
use Rattle.follow.specs.Follow.{Ends, stop, step}
use Rattle.forest.specs.Lists.{in-dec}
use Rattle.forest.specs.Members.{put_elim}
use Rattle.forest.specs.Acyclic.{Acyclic}
use Rattle.forest.specs.Insert.{all_at, all_off}
use Rattle.keeps_moves.specs.Rule.{singles}

-- ---- a function that is none at each of xs

pub all_none : (f : ℕ → ℕ) (xs : List ℕ) (y : ℕ) → In y xs → all_at f xs 0 y ≡ 0
unfolding all_at
all_none f (x ∷ xs) y (inr t) = all_none (at f x 0) xs y t
all_none f (x ∷ xs) y (inl e) = go (all_none (at f x 0) xs y) (in-dec y xs)
  where
    go : (In y xs → all_at (at f x 0) xs 0 y ≡ 0) → Off y xs ⊎ In y xs → all_at (at f x 0) xs 0 y ≡ 0
    go ih (inl o) = all_off (at f x 0) xs 0 y o ∙ ap (at f x 0) e ∙ at_same f x 0
    go ih (inr t) = ih t
all_none f [] y x' = elim x' [ ]

-- the links after it
abbrev pub cut : View → ℕ → List ℕ → View
cut v x cs par = all_at (v par) cs 0
cut v x cs prv = all_at (v prv) cs 0
cut v x cs nxt = all_at (v nxt) cs 0
cut v x cs fst = at (v fst) x 0
cut v x cs lst = at (v lst) x 0

pub cut-acyclic : (v : View) (live : ℕ → Type 0) (x : ℕ) (cs : List ℕ) → Acyclic v live → Acyclic (cut v x cs) live
cut-acyclic v live x cs a y l = up (a y l)
  where
    up : {y : ℕ} → Ends (v par) y → Ends (all_at (v par) cs 0) y
    up stop = stop
    up (step {x = y} h r) = go (up r) (in-dec y cs)
      where
        go : Ends (all_at (v par) cs 0) (v par y) → Off y cs ⊎ In y cs → Ends (all_at (v par) cs 0) y
        go ih (inl o) = step h (rw (all_off (v par) cs 0 y o) ih)
        go ih (inr t) = step h (rw (all_none (v par) cs y t) stop)

-- ---- the edit

pub singles_elim : (P : Key → List ℕ → Type 0) (F : Forest) (number : ℕ → ℕ) (cs : List ℕ)
    → ((c : ℕ) → In c cs → P (roots (number c)) (c ∷ []))
    → ((k : Key) → ((c : ℕ) → In c cs → k ≢ roots (number c)) → P k (F k)) → (k : Key) → P k (singles F number cs k)
singles_elim P F number [] a b k = b k (λ c t. absurd t)
singles_elim P F number (c ∷ cs) a b k =
    put_elim P (singles F number cs) (roots (number c)) (c ∷ []) (a c (inl refl))
    (λ k' h. singles_elim (λ z xs. z ≢ roots (number c) → P z xs) F number cs (λ d t _. a d (inr t)) (λ z g h'. b z (both z g h')) k' h) k
  where
    both : (z : Key) → ((d : ℕ) → In d cs → z ≢ roots (number d)) → z ≢ roots (number c) → (d : ℕ) → In d (c ∷ cs) → z ≢ roots (number d)
    both z g h' d (inl e) q = h' (q ∙ ap (λ (y : ℕ). roots (number y)) e)
    both z g h' d (inr t) q = g d t q
