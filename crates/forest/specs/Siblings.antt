-- In sound links, following next from a live node comes to none (predecessors grow on the way, and live nodes are finitely many);
-- the nodes met are live and distinct, and are the whole chain from there, tied to each other under one parent.
use Rattle.std.specs.Prelude.{◌≡◌, refl, ◌≢◌, ◌⊎◌, List, ℕ, zero, suc, ◌≤◌, ◌<◌, length}
use Rattle.std.proofs.Common.{sym, ap, ◌∙◌, subst, inl, inr, suc-le-suc, lt_irrefl, le_refl, arith}
use Rattle.std.proofs.Math.Decide.{ℕ_discrete}
use Rattle.rules.specs.Lists.{last_or, In, Off, NoDup, All}
use Rattle.rules.specs.Links.{Link, par, prv, nxt, View}
use Rattle.rules.specs.Sound.{OnChain, here, along, SoundLinks}
use Rattle.rules.specs.Forest.{Segment}
use Rattle.forest.specs.Lists.{all_map}
use Rattle.follow.specs.Pigeons.{pigeons}
use Rattle.follow.specs.Follow.{EndsIn, in-unique, ends_in, path, path-length, path-head}
use Rattle.forest.specs.Found.{Nodes}
use Rattle.forest.specs.Local.{pred, pred-previous, sound-ends}

-- ---- a path down to none, along any function

module _ (f : ℕ → ℕ) where
  pub head_in-path : (n a : ℕ) → a ≢ 0 → EndsIn f n a → In a (path f n a)
  head_in-path zero a h e = absurd (h e)
  head_in-path (suc n) a h e = inl refl

  pub path-closed : (n a x : ℕ) → EndsIn f n a → In x (path f n a) → f x ≢ 0 → In (f x) (path f n a)
  path-closed (suc n) a x e (inl q) h = inr (subst (λ (z : ℕ). In z (path f n (f a))) (ap f (sym q)) (head_in-path n (f a) (λ z. h (ap f q ∙ z)) e.1))
  path-closed (suc n) a x e (inr t) h = inr (path-closed n (f a) x e.1 t h)
  path-closed zero a x e x5 h = elim x5 [ ]

  pub path-last : (n a y b : ℕ) → EndsIn f n a → In y (path f n a) → f y ≡ 0 → last_or b (path f n a) ≡ y
  path-last (suc n) a y b e (inr t) h = path-last n (f a) y a e.1 t h
  path-last (suc n) a y b e (inl q) h = at_head n e.1
    where
      at_head : (m : ℕ) → EndsIn f m (f a) → last_or a (path f m (f a)) ≡ y
      at_head zero c = sym q
      at_head (suc m) c = absurd (c.0 (ap f (sym q) ∙ h))
  path-last zero a y b e x3 h = elim x3 [ ]

-- how many predecessors a node has, itself with them
abbrev pub Deep : View → ℕ → ℕ → Type 0
Deep v n x = EndsIn (pred v) n x

module _ (v : View) (live : ℕ → Type 0) (N : Nodes live) (S : SoundLinks v live) where
  pub deep : (x : ℕ) → live x → (n : ℕ) × Deep v n x
  deep x l = ends_in (pred v) (sound-ends v live N S x l)

  pub next-deep : (n x : ℕ) → live x → v nxt x ≢ 0 → Deep v n x → Deep v (suc n) (v nxt x)
  next-deep n x l h d =
      let e = S.after x l h in
      (h, rw (pred-previous v (v nxt x) (λ z. N.some x l (sym e ∙ z)) ∙ e) d)

  pub none_or : (x : ℕ) → live x → (k : Link) → (v k x ≡ 0) ⊎ live (v k x)
  none_or x l k = go (ℕ_discrete (v k x) 0)
    where
      go : Dec (v k x ≡ 0) → (v k x ≡ 0) ⊎ live (v k x)
      go (yes e) = inl e
      go (no h) = inr (S.found x l k h)

  -- c steps along next come to none, or meet c live nodes
  try : (c x : ℕ) → (x ≡ 0) ⊎ live x → ((n : ℕ) × EndsIn (v nxt) n x) ⊎ All live (path (v nxt) c x)
  try zero x d = inr tt
  try (suc c) x (inl e) = inl (0, e)
  try (suc c) x (inr l) = go (try c (v nxt x) (none_or x l nxt))
    where
      go : ((n : ℕ) × EndsIn (v nxt) n (v nxt x)) ⊎ All live (path (v nxt) c (v nxt x))
          → ((n : ℕ) × EndsIn (v nxt) n x) ⊎ All live (path (v nxt) (suc c) x)
      go (inl r) = inl (suc r.0, (N.some x l, r.1))
      go (inr h) = inr (l, h)

  -- which are distinct, since each is deeper than those before it
  deeper : (k y x d : ℕ) → Deep v k y → Deep v d x → k < d → y ≢ x
  deeper k y x d a b h e = lt_irrefl d (subst (λ (z : ℕ). z < d) (in-unique (pred v) k d x (subst (EndsIn (pred v) k) e a) b) h)

  fwd_off : (k y : ℕ) → Deep v k y → (c x d : ℕ) → Deep v d x → k < d → All live (path (v nxt) c x) → Off y (path (v nxt) c x)
  fwd_off k y a zero x d b h w = tt
  fwd_off k y a (suc zero) x d b h w = (deeper k y x d a b h, tt)
  fwd_off k y a (suc (suc c)) x d b h w = (
    deeper k y x d a b h,
    fwd_off k y a (suc c) (v nxt x) (suc d) (next-deep d x w.0 (N.some (v nxt x) w.1.0) b) (omega arith) w.1,
  )

  fwd_nodup : (c x d : ℕ) → Deep v d x → All live (path (v nxt) c x) → NoDup (path (v nxt) c x)
  fwd_nodup zero x d a w = tt
  fwd_nodup (suc zero) x d a w = (tt, tt)
  fwd_nodup (suc (suc c)) x d a w =
      let b : Deep v (suc d) (v nxt x) = next-deep d x w.0 (N.some (v nxt x) w.1.0) a in
      (fwd_off d x a (suc c) (v nxt x) (suc d) b (le_refl _) w.1, fwd_nodup (suc c) (v nxt x) (suc d) b w.1)

  pub next_nodup : (c x : ℕ) → All live (path (v nxt) c x) → NoDup (path (v nxt) c x)
  next_nodup zero x w = tt
  next_nodup (suc c) x w = let (d, a) = deep x w.0 in fwd_nodup (suc c) x d a w

  -- so there are at most as many as live nodes can be
  pub lives-few : (xs : List ℕ) → All live xs → NoDup xs → length xs ≤ suc N.most
  lives-few xs w d = pigeons (suc N.most) xs (all_map live _ (λ x l. suc-le-suc (N.bound x l)) xs w) d

  pub next-ends : (x : ℕ) → (x ≡ 0) ⊎ live x → (n : ℕ) × EndsIn (v nxt) n x
  next-ends x d = go (try c x d)
    where
      c : ℕ
      c = suc (suc N.most)

      go : ((n : ℕ) × EndsIn (v nxt) n x) ⊎ All live (path (v nxt) c x) → (n : ℕ) × EndsIn (v nxt) n x
      go (inl r) = r
      go (inr w) = absurd (lt_irrefl _ (subst (λ (z : ℕ). z ≤ suc N.most) (path-length (v nxt) c x) (lives-few (path (v nxt) c x) w (next_nodup c x w))))

  -- ---- the chain from a

  pub path-lives : (n x : ℕ) → EndsIn (v nxt) n x → (x ≡ 0) ⊎ live x → All live (path (v nxt) n x)
  path-lives zero x a d = tt
  path-lives (suc n) x a (inl e) = absurd (a.0 e)
  path-lives (suc n) x a (inr l) = (l, path-lives n (v nxt x) a.1 (none_or x l nxt))

  pub path-segment : (n x o b : ℕ) → EndsIn (v nxt) n x → All live (path (v nxt) n x) → (live x → v par x ≡ o) → (live x → v prv x ≡ b)
      → Segment (v par) (v prv) (v nxt) o b (path (v nxt) n x) 0
  path-segment zero x o b a w hp hq = tt
  path-segment (suc n) x o b a w hp hq = (
    hp w.0,
    hq w.0,
    path-head (v nxt) n (v nxt x) a.1,
    path-segment n (v nxt x) o x a.1 w.1 (λ l. S.share x w.0 (N.some _ l) ∙ hp w.0) (λ l. S.after x w.0 (N.some _ l)),
  )

  pub on-path : (n a : ℕ) → a ≢ 0 → EndsIn (v nxt) n a → {y : ℕ} → OnChain v a y → In y (path (v nxt) n a)
  on-path n a h e here = head_in-path (v nxt) n a h e
  on-path n a h e (along {z = z} c q k) =
      subst (λ (w : ℕ). In w (path (v nxt) n a)) q (path-closed (v nxt) n a z e (on-path n a h e c) (λ r. k (sym q ∙ r)))
