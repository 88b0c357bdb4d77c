-- Following a function down to 0 from each of N places, with a mark at each place met, so that none is passed twice: the scan says
-- yes exactly when every place comes to 0. From the laws of following; the marks are a function, all 0 at first.
use Rattle.std.proofs.Math.Path.{◌≡◌, refl, subst}
use Rattle.std.proofs.Common.{sym, ap, ◌∙◌, inr, le_refl, le_of_suc-le-suc, not-suc-le-zero, lt_irrefl}
use Rattle.std.specs.Prelude.{◌≢◌, ◌⊎◌, ◌↔◌}
use Rattle.std.proofs.Math.Logic.{inl, ite}
use Rattle.std.proofs.Math.Bool.{Bool, true, false}
use Prim.Native.Nat.{ℕ, zero, suc, ◌+◌, ◌≤◌, ◌<◌, suc-le-suc}
use Rattle.std.proofs.Math.Decide.{ℕ_discrete}
use native.Mathlib.Omega.{arith}
use Rattle.follow.specs.Point.{at, at_same, at_other}
use Rattle.follow.specs.Follow.{Ends, stop, step, EndsIn, in-unique, ends_in, in-bound}

module _ (f : ℕ → ℕ) where
  -- up from x with the mark i: yes at 0 or at a mark of an earlier climb, no at an own mark
  unfoldable pub climb : ℕ → (ℕ → ℕ) → ℕ → ℕ → Bool × (ℕ → ℕ)
  climb zero M i x = (false, M)
  climb (suc c) M i x =
      ite (ℕ_discrete x 0) (true, M)
      (ite (ℕ_discrete (M x) 0) (climb c (at M x i) i (f x))
      (ite (ℕ_discrete (M x) i) (false, M) (true, M)))

  -- marks that are not one's own are of places that end
  abbrev Old : (ℕ → ℕ) → ℕ → Type 0
  Old M i = (y : ℕ) → M y ≢ 0 → M y ≢ i → Ends f y

  old_at : (M : ℕ → ℕ) (i x : ℕ) → Old M i → Old (at M x i) i
  old_at M i x o y h k = go (ℕ_discrete y x)
    where
      go : Dec (y ≡ x) → Ends f y
      go (yes e) = absurd (k (ap (at M x i) e ∙ at_same M x i))
      go (no q) = o y (λ z. h (at_other M x i y q ∙ z)) (λ z. k (at_other M x i y q ∙ z))

  climb-true : (c : ℕ) (M : ℕ → ℕ) (i x : ℕ) → Old M i → (climb c M i x).0 ≡ true → Ends f x
  unfolding climb
  climb-true zero M i x o e = let z : ◌≡◌ {A = ℕ} 0 1 = cc in absurd (omega arith)
  climb-true (suc c) M i x o e = go (climb-true c (at M x i) i (f x) (old_at M i x o)) (ℕ_discrete x 0) (ℕ_discrete (M x) 0) (ℕ_discrete (M x) i) e
    where
      go : ((climb c (at M x i) i (f x)).0 ≡ true → Ends f (f x)) → (d : Dec (x ≡ 0)) (d' : Dec (M x ≡ 0)) (d'' : Dec (M x ≡ i))
          → (ite d (true, M) (ite d' (climb c (at M x i) i (f x)) (ite d'' (false, M) (true, M)))).0 ≡ true → Ends f x
      go ih (yes q) d' d'' r = subst (Ends f) (sym q) stop
      go ih (no h) (yes q) d'' r = step h (ih r)
      go ih (no h) (no h') (yes q) r = let z : ◌≡◌ {A = ℕ} 0 1 = cc in absurd (omega arith)
      go ih (no h) (no h') (no h'') r = o x h' h''

  climb_after : (c : ℕ) (M : ℕ → ℕ) (i x : ℕ) → Old M i → (y : ℕ)
      → ((climb c M i x).1 y ≡ M y) ⊎ (((climb c M i x).1 y ≡ i) × ((climb c M i x).0 ≡ true → Ends f y))
  unfolding climb
  climb_after zero M i x o y = inl refl
  climb_after (suc c) M i x o y =
      go (climb_after c (at M x i) i (f x) (old_at M i x o) y) (climb-true c (at M x i) i (f x) (old_at M i x o))
      (ℕ_discrete x 0) (ℕ_discrete (M x) 0) (ℕ_discrete (M x) i)
    where
      R : Bool × (ℕ → ℕ)
      R = climb c (at M x i) i (f x)

      Goal : Bool × (ℕ → ℕ) → Type 0
      Goal r = (r.1 y ≡ M y) ⊎ ((r.1 y ≡ i) × (r.0 ≡ true → Ends f y))

      two : (R.0 ≡ true → Ends f (f x)) → x ≢ 0 → Dec (y ≡ x) → (R.1 y ≡ at M x i y) ⊎ ((R.1 y ≡ i) × (R.0 ≡ true → Ends f y)) → Goal R
      two tr h d (inr t) = inr t
      two tr h (yes e) (inl q) = inr (q ∙ ap (at M x i) e ∙ at_same M x i, λ r. subst (Ends f) (sym e) (step h (tr r)))
      two tr h (no k) (inl q) = inl (q ∙ at_other M x i y k)

      go : (R.1 y ≡ at M x i y) ⊎ ((R.1 y ≡ i) × (R.0 ≡ true → Ends f y)) → (R.0 ≡ true → Ends f (f x))
          → (d : Dec (x ≡ 0)) (d' : Dec (M x ≡ 0)) (d'' : Dec (M x ≡ i))
          → Goal (ite d (true, M) (ite d' R (ite d'' (false, M) (true, M))))
      go ih tr (yes q) d' d'' = inl refl
      go ih tr (no h) (yes q) d'' = two tr h (ℕ_discrete y x) ih
      go ih tr (no h) (no h') (yes q) = inl refl
      go ih tr (no h) (no h') (no h'') = inl refl

  -- places with one's own mark take longer than what is left
  abbrev Own : (ℕ → ℕ) → ℕ → ℕ → Type 0
  Own M i n = (y m : ℕ) → M y ≡ i → EndsIn f m y → n < m

  climb-ends : (c : ℕ) (M : ℕ → ℕ) (i x n : ℕ) → EndsIn f n x → n < c → Own M i n → (climb c M i x).0 ≡ true
  unfolding climb
  climb-ends zero M i x n a h w = absurd (not-suc-le-zero h)
  climb-ends (suc c) M i x zero a h w = go (ℕ_discrete x 0)
    where
      go : (d : Dec (x ≡ 0))
          → (ite d (true, M) (ite (ℕ_discrete (M x) 0) (climb c (at M x i) i (f x)) (ite (ℕ_discrete (M x) i) (false, M) (true, M)))).0 ≡ true
      go (yes q) = refl
      go (no k) = absurd (k a)
  climb-ends (suc c) M i x (suc n) a h w =
      go (climb-ends c (at M x i) i (f x) n a.1 (le_of_suc-le-suc h) own) (ℕ_discrete x 0) (ℕ_discrete (M x) 0) (ℕ_discrete (M x) i)
    where
      own : Own (at M x i) i n
      own y m e b = pick (ℕ_discrete y x)
        where
          pick : Dec (y ≡ x) → n < m
          pick (yes q) = subst (λ (z : ℕ). n < z) (in-unique f (suc n) m x a (subst (EndsIn f m) q b)) (le_refl _)
          pick (no k) = let l = w y m (sym (at_other M x i y k) ∙ e) b in omega arith

      go : (climb c (at M x i) i (f x)).0 ≡ true → (d : Dec (x ≡ 0)) (d' : Dec (M x ≡ 0)) (d'' : Dec (M x ≡ i))
          → (ite d (true, M) (ite d' (climb c (at M x i) i (f x)) (ite d'' (false, M) (true, M)))).0 ≡ true
      go ih (yes q) d' d'' = refl
      go ih (no k) (yes q) d'' = ih
      go ih (no k) (no k') (yes q) = absurd (lt_irrefl _ (w x (suc n) q a))
      go ih (no k) (no k') (no k'') = refl

  -- ---- every place from i on, c of them

  unfoldable pub scan : ℕ → ℕ → ℕ → (ℕ → ℕ) → Bool
  unfolding climb
  scan N zero i M = true
  scan N (suc c) i M = elim (climb (suc (suc N)) M i i).0 [ true ↦ scan N c (suc i) (climb (suc (suc N)) M i i).1 | false ↦ false ]

  record Marks (M : ℕ → ℕ) (i : ℕ) : Type 0 where
    low : (y : ℕ) → M y < i
    good : (y : ℕ) → M y ≢ 0 → Ends f y

  module _ (N : ℕ) (inside : (x : ℕ) → x ≤ N → f x ≤ N) where
    marks-old : (M : ℕ → ℕ) (i : ℕ) → Marks M i → Old M i
    marks-old M i m y h k = m.good y h

    marks_on : (M : ℕ → ℕ) (i : ℕ) → Marks M i → (climb (suc (suc N)) M i i).0 ≡ true → Marks (climb (suc (suc N)) M i i).1 (suc i)
    marks_on M i m e = record { low = λ y. lo y (after y); good = λ y. gd y (after y) }
      where
        M' : ℕ → ℕ
        M' = (climb (suc (suc N)) M i i).1

        after : (y : ℕ) → (M' y ≡ M y) ⊎ ((M' y ≡ i) × ((climb (suc (suc N)) M i i).0 ≡ true → Ends f y))
        after = climb_after (suc (suc N)) M i i (marks-old M i m)

        lo : (y : ℕ) → (M' y ≡ M y) ⊎ ((M' y ≡ i) × ((climb (suc (suc N)) M i i).0 ≡ true → Ends f y)) → M' y < suc i
        lo y (inl q) = let l = m.low y in omega arith
        lo y (inr q) = let r = q.0 in omega arith

        gd : (y : ℕ) → (M' y ≡ M y) ⊎ ((M' y ≡ i) × ((climb (suc (suc N)) M i i).0 ≡ true → Ends f y)) → M' y ≢ 0 → Ends f y
        gd y (inl q) h = m.good y (λ z. h (q ∙ z))
        gd y (inr q) h = q.1 e

    scan-true : (c i : ℕ) (M : ℕ → ℕ) → Marks M i → scan N c i M ≡ true → (x : ℕ) → i ≤ x → x < i + c → Ends f x
    unfolding scan
    scan-true zero i M m e x h k = absurd (omega arith)
    scan-true (suc c) i M m e x h k =
        go (climb (suc (suc N)) M i i).0 refl e
        (λ m' e' h'. scan-true c (suc i) (climb (suc (suc N)) M i i).1 m' e' x h' (omega arith)) (ℕ_discrete x i)
      where
        go : (b : Bool) → (climb (suc (suc N)) M i i).0 ≡ b
            → ◌≡◌ {A = Bool} (elim b [ true ↦ scan N c (suc i) (climb (suc (suc N)) M i i).1 | false ↦ false ]) true
            → (Marks (climb (suc (suc N)) M i i).1 (suc i) → scan N c (suc i) (climb (suc (suc N)) M i i).1 ≡ true → suc i ≤ x → Ends f x)
            → Dec (x ≡ i) → Ends f x
        go false q r ih d = let z : ◌≡◌ {A = ℕ} 0 1 = cc in absurd (omega arith)
        go true q r ih (yes w) = subst (Ends f) (sym w) (climb-true (suc (suc N)) M i i (marks-old M i m) q)
        go true q r ih (no w) = ih (marks_on M i m q) r (omega arith)

    scan-ends : (c i : ℕ) (M : ℕ → ℕ) → Marks M i → i + c ≤ suc N → ((x : ℕ) → i ≤ x → x < i + c → Ends f x) → scan N c i M ≡ true
    unfolding scan
    scan-ends zero i M m h k = refl
    scan-ends (suc c) i M m h k =
        go (climb (suc (suc N)) M i i).0 refl
        (λ m'. scan-ends c (suc i) (climb (suc (suc N)) M i i).1 m' (omega arith) (λ x a b. k x (omega arith) (omega arith)))
      where
        here : (climb (suc (suc N)) M i i).0 ≡ true
        here =
            let (n, a) = ends_in f (k i (le_refl i) (omega arith)) in
            climb-ends (suc (suc N)) M i i n a (suc-le-suc (in-bound f N inside n i (omega arith) a))
            (λ y j e b. absurd (lt_irrefl i (subst (λ (z : ℕ). z < i) e (m.low y))))

        go : (b : Bool) → (climb (suc (suc N)) M i i).0 ≡ b
            → (Marks (climb (suc (suc N)) M i i).1 (suc i) → scan N c (suc i) (climb (suc (suc N)) M i i).1 ≡ true)
            → ◌≡◌ {A = Bool} (elim b [ true ↦ scan N c (suc i) (climb (suc (suc N)) M i i).1 | false ↦ false ]) true
        go false q ih = sym q ∙ here
        go true q ih = ih (marks_on M i m q)

    -- the test says yes exactly when every place from 1 to N comes to 0
    pub scan_exact : (M : ℕ → ℕ) → ((y : ℕ) → M y ≡ 0) → (scan N N 1 M ≡ true) ↔ ((x : ℕ) → 1 ≤ x → x ≤ N → Ends f x)
    scan_exact M z =
        let m : Marks M 1 = record { low = λ y. subst (λ (k : ℕ). k < 1) (sym (z y)) (le_refl 1); good = λ y h. absurd (h (z y)) } in
        (λ e x a b. scan-true N 1 M m e x a (omega arith), λ h. scan-ends N 1 M m (omega arith) (λ x a b. h x a (omega arith)))
