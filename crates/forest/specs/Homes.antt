-- In sound links, the chain that a node belongs to, found by going back along previous: the children of its parent, or the root
-- chain that its first member names.
use Rattle.std.specs.Prelude.{◌≡◌, ◌≢◌}
use Rattle.std.proofs.Math.Path.{refl, sym, ap}
use Rattle.std.proofs.Common.{◌∙◌, subst, inl, inr}
use Prim.Native.Nat.{ℕ, zero, suc}
use Rattle.std.proofs.Math.Decide.{ℕ_discrete}
use Rattle.rules.specs.Lists.{In, All}
use Rattle.rules.specs.Links.{par, prv, nxt, View}
use Rattle.rules.specs.Sound.{SoundLinks}
use Rattle.rules.specs.Forest.{Key, children, roots}
use Rattle.follow.specs.Follow.{EndsIn, in-unique, path}
use Rattle.forest.specs.Found.{Nodes}
use Rattle.forest.specs.Local.{pred, pred-previous}
use Rattle.forest.specs.Siblings.{Deep, deep}

module _ (v : View) (live : ℕ → Type 0) (N : Nodes live) (S : SoundLinks v live) where
  -- by the previous and the parent of y, where k is the chain of the previous
  pick_home : (y : ℕ) → Dec (v prv y ≡ 0) → Dec (v par y ≡ 0) → Key → Key
  pick_home y (no h) d k = k
  pick_home y (yes e) (yes e') k = roots y
  pick_home y (yes e) (no h) k = children (v par y)

  home_in : ℕ → ℕ → Key
  home_in zero y = roots y
  home_in (suc n) y = pick_home y (ℕ_discrete (v prv y) 0) (ℕ_discrete (v par y) 0) (home_in n (v prv y))

  home_of : (y : ℕ) → Dec (live y) → Key
  home_of y (yes l) = home_in (deep v live N S y l).0 y
  home_of y (no h) = roots y

  pub home : ℕ → Key
  home y = home_of y (N.dec y)

  home_in_lem : (n y : ℕ) → live y → Deep v n y → home y ≡ home_in n y
  unfolding home home_of
  home_in_lem n y l d = go (N.dec y)
    where
      go : (b : Dec (live y)) → home_of y b ≡ home_in n y
      go (yes l') = let (m, a) = deep v live N S y l' in ap (λ (m : ℕ). home_in m y) (in-unique (pred v) m n y a d)
      go (no h) = absurd (h l)

  -- one step back
  home-step : (y : ℕ) → live y → (n : ℕ) × EndsIn (pred v) n (pred v y)
      × (home y ≡ pick_home y (ℕ_discrete (v prv y) 0) (ℕ_discrete (v par y) 0) (home_in n (v prv y)))
  unfolding home_in
  home-step y l = let (n, d) = deep v live N S y l in go n d
    where
      go : (n : ℕ) → Deep v n y → (n : ℕ) × EndsIn (pred v) n (pred v y)
          × (home y ≡ pick_home y (ℕ_discrete (v prv y) 0) (ℕ_discrete (v par y) 0) (home_in n (v prv y)))
      go zero d = absurd (N.some y l d)
      go (suc n) d = (n, d.1, home_in_lem (suc n) y l d)

  pub home-back : (y : ℕ) → live y → v prv y ≢ 0 → home y ≡ home (v prv y)
  unfolding pick_home
  home-back y l h =
      let (n, d, e) = home-step y l in
      e ∙ pick (home_in n (v prv y)) (ℕ_discrete (v prv y) 0) (ℕ_discrete (v par y) 0)
      ∙ sym (home_in_lem n (v prv y) (S.found y l prv h) (subst (EndsIn (pred v) n) (pred-previous v y h) d))
    where
      pick : (k : Key) (d : Dec (v prv y ≡ 0)) (d' : Dec (v par y ≡ 0)) → pick_home y d d' k ≡ k
      pick k (yes e) d' = absurd (h e)
      pick k (no _) d' = refl

  pub home-children : (y : ℕ) → live y → v prv y ≡ 0 → v par y ≢ 0 → home y ≡ children (v par y)
  unfolding pick_home
  home-children y l e h = let (n, d, q) = home-step y l in q ∙ pick (home_in n (v prv y)) (ℕ_discrete (v prv y) 0) (ℕ_discrete (v par y) 0)
    where
      pick : (k : Key) (d : Dec (v prv y ≡ 0)) (d' : Dec (v par y ≡ 0)) → pick_home y d d' k ≡ children (v par y)
      pick k (no q) d' = absurd (q e)
      pick k (yes _) (yes e') = absurd (h e')
      pick k (yes _) (no _) = refl

  pub home-roots : (y : ℕ) → live y → v prv y ≡ 0 → v par y ≡ 0 → home y ≡ roots y
  unfolding pick_home
  home-roots y l e h = let (n, d, q) = home-step y l in q ∙ pick (home_in n (v prv y)) (ℕ_discrete (v prv y) 0) (ℕ_discrete (v par y) 0)
    where
      pick : (k : Key) (d : Dec (v prv y ≡ 0)) (d' : Dec (v par y ≡ 0)) → pick_home y d d' k ≡ roots y
      pick k (no q) d' = absurd (q e)
      pick k (yes _) (yes e') = refl
      pick k (yes _) (no q) = absurd (q h)

  home-next : (x : ℕ) → live x → v nxt x ≢ 0 → home (v nxt x) ≡ home x
  home-next x l h =
      let e : v prv (v nxt x) ≡ x = S.after x l h in
      home-back (v nxt x) (S.found x l nxt h) (λ q. N.some x l (sym e ∙ q)) ∙ ap home e

  -- all on a chain belong where its first member does
  pub home-path : (n x y : ℕ) → All live (path (v nxt) n x) → In y (path (v nxt) n x) → live y × (home y ≡ home x)
  home-path (suc n) x y w (inl q) = (subst live (sym q) w.0, ap home q)
  home-path (suc n) x y w (inr t) = let r = home-path n (v nxt x) y w.1 t in (r.0, r.1 ∙ go n w.1 t)
    where
      go : (m : ℕ) → All live (path (v nxt) m (v nxt x)) → In y (path (v nxt) m (v nxt x)) → home (v nxt x) ≡ home x
      go (suc m) w' t' = home-next x w.0 (N.some _ w'.0)
      go zero w' t' = elim t' [ ]
  home-path zero x y w x4 = elim x4 [ ]
