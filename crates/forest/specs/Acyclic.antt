-- No node is above itself: following the parent comes to none. Sound links have no cycle, and none comes from cutting a node off,
-- from hanging it under a node that it is not above, or from giving a node's children that node's parent.
use Rattle.std.specs.Prelude.{◌≡◌, ℕ}
use Rattle.std.proofs.Common.{sym, ap, ◌∙◌, subst}
use Rattle.std.proofs.Math.Decide.{ℕ_discrete}
use Rattle.rules.specs.Links.{par, prv, nxt, View}
use Rattle.rules.specs.Sound.{SoundLinks}
use Rattle.rules.specs.Tree.{Above, self, higher}
use Rattle.follow.specs.Point.{at, at_same, at_other}
use Rattle.forest.specs.View.{connect, detach}
use Rattle.follow.specs.Follow.{Ends, stop, step, ends-tail}
use Rattle.forest.specs.Found.{Nodes}
use Rattle.forest.specs.Local.{pred, pred-previous, pred-parent, sound-ends}

abbrev pub Acyclic : View → (ℕ → Type 0) → Type 0
Acyclic v live = (y : ℕ) → live y → Ends (v par) y

pub sound-acyclic : (v : View) (live : ℕ → Type 0) → Nodes live → SoundLinks v live → Acyclic v live
sound-acyclic v live N S y l = up y l (sound-ends v live N S y l)
  where
    up : (x : ℕ) → live x → Ends (pred v) x → Ends (v par) x
    up x l stop = stop
    up x l (step h r) = go (λ w. up (pred v x) w r) (ℕ_discrete (v prv x) 0) (ℕ_discrete (v par x) 0)
      where
        go : (live (pred v x) → Ends (v par) (pred v x)) → Dec (v prv x ≡ 0) → Dec (v par x ≡ 0) → Ends (v par) x
        go ih d (yes q) = step h (rw q stop)
        go ih (yes e) (no hq) = let w = pred-parent v x e in step h (rw w at (ih (rw w (S.found x l par hq))))
        go ih (no k) (no hq) =
            let w = pred-previous v x k in
            let lp : live (v prv x) = S.found x l prv k in
            let e : v nxt (v prv x) ≡ x = S.before x l k in
            let pe : v par x ≡ v par (v prv x) = ap (v par) (sym e) ∙ S.share (v prv x) lp (λ z. N.some x l (sym e ∙ z)) in
            step h (rw pe (ends-tail (N.some _ lp) (rw w at (ih (rw w lp)))))

-- x loses its parent
ends-cut : (f : ℕ → ℕ) (x : ℕ) {y : ℕ} → Ends f y → Ends (at f x 0) y
ends-cut f x stop = stop
ends-cut f x (step {x = y} h r) = go (ends-cut f x r) (ℕ_discrete y x)
  where
    go : Ends (at f x 0) (f y) → Dec (y ≡ x) → Ends (at f x 0) y
    go ih (yes e) = step h (rw (ap (at f x 0) e ∙ at_same f x 0) stop)
    go ih (no k) = step h (rw (at_other f x 0 y k) ih)

pub detach-acyclic : (v : View) (live : ℕ → Type 0) (x : ℕ) → Acyclic v live → Acyclic (detach v x) live
unfolding detach connect
detach-acyclic v live x a y l = ends-cut (v par) x (a y l)

-- x gets the parent o, which it is not above
ends_stay : (f : ℕ → ℕ) (x o : ℕ) {y : ℕ} → Ends f y → (Above f x y → ⊥) → Ends (at f x o) y
ends_stay f x o stop h = stop
ends_stay f x o (step {x = y} z r) h =
    step z (rw (at_other f x o y (λ e. h (subst (Above f x) (sym e) (self (λ q. z (e ∙ q)))))) (ends_stay f x o r (λ a. h (higher z a))))

pub ends_hang : (f : ℕ → ℕ) (x o : ℕ) → Ends f o → (Above f x o → ⊥) → {y : ℕ} → Ends f y → Ends (at f x o) y
ends_hang f x o eo h stop = stop
ends_hang f x o eo h (step {x = y} z r) = go (ends_hang f x o eo h r) (ℕ_discrete y x)
  where
    go : Ends (at f x o) (f y) → Dec (y ≡ x) → Ends (at f x o) y
    go ih (yes e) = step z (rw (ap (at f x o) e ∙ at_same f x o) (ends_stay f x o eo h))
    go ih (no k) = step z (rw (at_other f x o y k) ih)
