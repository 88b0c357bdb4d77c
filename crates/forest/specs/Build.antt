-- Sound links hold a forest: from where each chain begins (a live node's first child; a live node without parent and previous),
-- the nodes along next.
use Rattle.std.specs.Prelude.{◌≡◌, ◌≢◌, ◌⊎◌, []}
use Rattle.std.proofs.Math.Path.{refl, sym, ap, subst}
use Rattle.std.proofs.Common.{◌∙◌, inl, inr}
use Rattle.std.proofs.Math.Logic.{⊎_map, ite, if_pos}
use Prim.Native.Nat.{ℕ, zero, suc}
use Rattle.std.proofs.Math.Decide.{ℕ_discrete}
use Rattle.rules.specs.Lists.{head_or, last_or, In, All}
use Rattle.rules.specs.Links.{par, prv, nxt, fst, lst, View}
use Rattle.rules.specs.Sound.{OnChain, SoundLinks}
use Rattle.rules.specs.Forest.{Key, children, roots, owner, Forest, Chain, OwnerIn, Holds}
use Rattle.follow.specs.Follow.{EndsIn, in-unique, path, path-head}
use Rattle.forest.specs.Found.{Nodes}
use Rattle.forest.specs.Local.{Local, pred, pred-previous, sound-tests}
use Rattle.forest.specs.Siblings.{Deep, deep, none_or, next-ends, next_nodup, head_in-path, path-closed, path-last, path-lives, path-segment, on-path}
use Rattle.forest.specs.Homes.{home, home-back, home-children, home-roots, home-path}

module _ (v : View) (live : ℕ → Type 0) (N : Nodes live) (S : SoundLinks v live) where
  tests : Local v live
  tests = sound-tests v live N S

  -- ---- where a chain begins

  begin_root : (j : ℕ) → Dec (live j) → Dec (v par j ≡ 0) → Dec (v prv j ≡ 0) → ℕ
  begin_root j (yes l) (yes a) (yes b) = j
  begin_root j (yes l) (yes a) (no b) = 0
  begin_root j (yes l) (no a) d = 0
  begin_root j (no l) c d = 0

  begin : Key → ℕ
  begin (children p) = ite (N.dec p) (v fst p) 0
  begin (roots j) = begin_root j (N.dec j) (ℕ_discrete (v par j) 0) (ℕ_discrete (v prv j) 0)

  -- a is the first node of the chain k
  record Begins (k : Key) (a : ℕ) : Type 0 where
    is : live a
    owned : OwnerIn live k
    parent : v par a ≡ owner k
    previous : v prv a ≡ 0
    belongs : home v live N S a ≡ k

  begins : (k : Key) → (begin k ≡ 0) ⊎ Begins k (begin k)
  unfolding begin begin_root
  begins (children p) = go (N.dec p)
    where
      child : (l : live p) → live (v fst p) → Begins (children p) (v fst p)
      child l w =
          let q = tests.first p l (N.some _ w) in
          record {
            is = w;
            owned = l;
            parent = q.0;
            previous = q.1;
            belongs = home-children v live N S (v fst p) w q.1 (λ z. N.some p l (sym q.0 ∙ z)) ∙ ap children q.0;
          }

      go : (d : Dec (live p)) → (ite d (v fst p) 0 ≡ 0) ⊎ Begins (children p) (ite d (v fst p) 0)
      go (no h) = inl refl
      go (yes l) = ⊎_map (λ e. e) (child l) (none_or v live N S p l fst)
  begins (roots j) = go (N.dec j) (ℕ_discrete (v par j) 0) (ℕ_discrete (v prv j) 0)
    where
      go : (d : Dec (live j)) (c : Dec (v par j ≡ 0)) (c' : Dec (v prv j ≡ 0)) → (begin_root j d c c' ≡ 0) ⊎ Begins (roots j) (begin_root j d c c')
      go (yes l) (yes a) (yes b) = inr (record { is = l; owned = tt; parent = a; previous = b; belongs = home-roots v live N S j l b a })
      go (yes l) (yes a) (no b) = inl refl
      go (yes l) (no a) c' = inl refl
      go (no h) c c' = inl refl

  begun : (k : Key) → live (begin k) → Begins k (begin k)
  begun k l = go (begins k)
    where
      go : (begin k ≡ 0) ⊎ Begins k (begin k) → Begins k (begin k)
      go (inl e) = absurd (N.some (begin k) l e)
      go (inr b) = b

  begin-children : (p : ℕ) → live p → begin (children p) ≡ v fst p
  unfolding begin
  begin-children p l = if_pos (N.dec p) l (v fst p) 0

  begin-roots : (j : ℕ) → live j → v par j ≡ 0 → v prv j ≡ 0 → begin (roots j) ≡ j
  unfolding begin begin_root
  begin-roots j l a b = go (N.dec j) (ℕ_discrete (v par j) 0) (ℕ_discrete (v prv j) 0)
    where
      go : (d : Dec (live j)) (c : Dec (v par j ≡ 0)) (c' : Dec (v prv j ≡ 0)) → begin_root j d c c' ≡ j
      go (no h) c c' = absurd (h l)
      go (yes _) (no h) c' = absurd (h a)
      go (yes _) (yes _) (no h) = absurd (h b)
      go (yes _) (yes _) (yes _) = refl

  -- ---- the chain from there

  none-or-live : (k : Key) → (begin k ≡ 0) ⊎ live (begin k)
  none-or-live k = ⊎_map (λ e. e) (λ (b : Begins k (begin k)). b.is) (begins k)

  steps : Key → ℕ
  steps k = (next-ends v live N S (begin k) (none-or-live k)).0

  pub built : Forest
  built k = path (v nxt) (steps k) (begin k)

  ends : (k : Key) → EndsIn (v nxt) (steps k) (begin k)
  unfolding steps
  ends k = (next-ends v live N S (begin k) (none-or-live k)).1

  lives : (k : Key) → All live (built k)
  unfolding built
  lives k = path-lives v live N S (steps k) (begin k) (ends k) (none-or-live k)

  empty : (k : Key) → begin k ≡ 0 → built k ≡ []
  unfolding built
  empty k e = ap (λ (n : ℕ). path (v nxt) n (begin k)) (in-unique (v nxt) (steps k) 0 (begin k) (ends k) e)

  -- a root chain that no live node names is empty
  pub built-free : (j : ℕ) → (live j → ⊥) → built (roots j) ≡ []
  unfolding begin begin_root
  built-free j h = empty (roots j) (go (N.dec j))
    where
      go : (d : Dec (live j)) → begin_root j d (ℕ_discrete (v par j) 0) (ℕ_discrete (v prv j) 0) ≡ 0
      go (yes l) = absurd (h l)
      go (no _) = refl

  first_in : (k : Key) (y : ℕ) → y ≢ 0 → begin k ≡ y → In y (built k)
  unfolding built
  first_in k y h e = subst (λ (z : ℕ). In z (built k)) e (head_in-path (v nxt) (steps k) (begin k) (λ z. h (sym e ∙ z)) (ends k))

  last_is : (p : ℕ) → live p → v lst p ≡ last_or 0 (built (children p))
  unfolding built
  last_is p l = go (ℕ_discrete (v fst p) 0)
    where
      k : Key
      k = children p

      go : Dec (v fst p ≡ 0) → v lst p ≡ last_or 0 (built k)
      go (yes e) = (S.both p l).0 e ∙ ap (last_or 0) (sym (empty k (begin-children p l ∙ e)))
      go (no h) =
          let K = S.kids p l h in
          let b = begin-children p l in
          sym (path-last (v nxt) (steps k) (begin k) (v lst p) 0 (ends k)
          (on-path v live N S (steps k) (begin k) (λ z. h (sym b ∙ z)) (ends k) (subst (λ (a : ℕ). OnChain v a (v lst p)) (sym b) K.reaches)) K.ends)

  -- ---- it is held

  chain : (k : Key) → OwnerIn live k → Chain v (owner k) (built k)
  unfolding built
  chain k ok = record {
    segment = path-segment v live N S (steps k) (begin k) (owner k) 0 (ends k) (lives k) (λ l. (begun k l).parent) (λ l. (begun k l).previous);
    first = first k ok;
    last = last k ok;
  }
    where
      first : (k : Key) → OwnerIn live k → owner k ≢ 0 → v fst (owner k) ≡ head_or (built k) 0
      first (children p) l z = sym (begin-children p l) ∙ path-head (v nxt) (steps (children p)) (begin (children p)) (ends (children p))
      first (roots j) l z = absurd (z refl)

      last : (k : Key) → OwnerIn live k → owner k ≢ 0 → v lst (owner k) ≡ last_or 0 (built k)
      last (children p) l z = last_is p l
      last (roots j) l z = absurd (z refl)

  member : (k : Key) (y : ℕ) → In y (built k) → live y × (k ≡ home v live N S y) × OwnerIn live k
  unfolding built
  member k y t =
      let r = home-path v live N S (steps k) (begin k) y (lives k) t in
      let b = begun k (head_live (steps k) (begin k) (lives k) t) in
      (r.0, sym (r.1 ∙ b.belongs), b.owned)
    where
      head_live : (n a : ℕ) → All live (path (v nxt) n a) → In y (path (v nxt) n a) → live a
      head_live (suc n) a w u = w.0
      head_live zero a w u = elim u [ ]

  placed : (n y : ℕ) → live y → Deep v n y → In y (built (home v live N S y))
  unfolding built
  placed zero y l d = absurd (N.some y l d)
  placed (suc n) y l d = go (λ w e. placed n (v prv y) w e) (ℕ_discrete (v prv y) 0) (ℕ_discrete (v par y) 0)
    where
      Stands : ℕ → Type 0
      Stands z = In z (built (home v live N S z))

      go : (live (v prv y) → Deep v n (v prv y) → Stands (v prv y)) → Dec (v prv y ≡ 0) → Dec (v par y ≡ 0) → Stands y
      go ih (no h) d' =
          let e : v nxt (v prv y) ≡ y = S.before y l h in
          let k = home v live N S (v prv y) in
          let t = ih (S.found y l prv h) (subst (EndsIn (pred v) n) (pred-previous v y h) d.1) in
          rw (home-back v live N S y l h)
          (subst (λ (z : ℕ). In z (built k)) e (path-closed (v nxt) (steps k) (begin k) (v prv y) (ends k) t (λ q. N.some y l (sym e ∙ q))))
      go ih (yes e) (yes e') = rw (home-roots v live N S y l e e') (first_in (roots y) y (N.some y l) (begin-roots y l e' e))
      go ih (yes e) (no h) =
          rw (home-children v live N S y l e h)
          (first_in (children (v par y)) y (N.some y l) (begin-children (v par y) (S.found y l par h) ∙ tests.leads y l e h))

  pub built-holds : Holds v live built
  unfolding built
  built-holds = record {
    members = record {
      home = home v live N S;
      member = member;
      placed = λ y l. let (n, d) = deep v live N S y l in placed n y l d;
      distinct = λ k. next_nodup v live N S (steps k) (begin k) (lives k);
      some = N.some;
    };
    chains = chain;
  }
