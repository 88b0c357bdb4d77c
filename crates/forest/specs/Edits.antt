-- After each edit of a forest each live node still stands in one chain, once: a node detached, a whole chain moved between two
-- neighbours, nodes gone with all below them. Nothing here is about links.
use Rattle.std.specs.Prelude.{◌≡◌, refl, ◌≢◌, ◌⊎◌, List, [], ◌∷◌, ◌++◌, ℕ}
use Rattle.std.proofs.Common.{sym, ap, ◌∙◌, subst, inl, inr}
use Rattle.std.proofs.Math.Logic.{ite, if_pos, if_neg}
use Rattle.std.proofs.Math.Decide.{ℕ_discrete}
use Rattle.rules.specs.Lists.{In, Off, NoDup}
use Rattle.rules.specs.Forest.{Key, children, roots, Key-Dec, Forest, OwnerIn, Members, detached, moved, dropped}
use Rattle.forest.specs.Lists.{in_left, in_right, in_cases, off-not_in, not_in_off, off-append, off-left, off-right, nodup-left, nodup-right, in-wider, in_narrower, off-before, nodup-out, Apart, apart_of, apart-sym, apart-append, nodup-apart, nodup_append}
use Rattle.forest.specs.Members.{zero_off, far_off, put_same, detached_elim, moved_elim, dropped_elim}

-- ---- x leaves the chain k and is a chain of one at roots j

module _ (live : ℕ → Type 0) (F : Forest) (M : Members live F) (k : Key) (ls : List ℕ) (x : ℕ) (rs : List ℕ) (e : F k ≡ ls ++ x ∷ rs)
    (j : ℕ) (free : F (roots j) ≡ []) where
  pub members-detach : Members live (detached F k ls x rs j)
  members-detach = record {
    home = home;
    member = λ k' y. detached_elim (λ z xs. In y xs → live y × (z ≡ home y) × OwnerIn live z) F k ls rs x j
        (alone y)
        (λ t. let m = M.member k y (rw e (in-wider y ls rs x t)) in (m.0, m.1 ∙ sym (home-other y (stayed y t)), m.2))
        (λ z h t. let m = M.member z y t in (m.0, m.1 ∙ sym (home-other y (λ q. h (m.1 ∙ ap M.home q ∙ sym (M.member k x was).1))), m.2))
        k';
    placed = λ y l. go y l (ℕ_discrete y x);
    distinct = detached_elim (λ _ xs. NoDup xs) F k ls rs x j (tt, tt) (nodup-out ls rs x nd) (λ k' _. M.distinct k');
    some = M.some;
  }
    where
      nd : NoDup (ls ++ x ∷ rs)
      nd = subst NoDup e (M.distinct k)

      out : Off x (ls ++ rs)
      out = off-append x ls rs (off-before ls rs x nd) (nodup-right ls (x ∷ rs) nd).0

      was : In x (F k)
      was = rw e (in_right x ls (x ∷ rs) (inl refl))

      stayed : (y : ℕ) → In y (ls ++ rs) → y ≢ x
      stayed y t q = off-not_in x (ls ++ rs) out (subst (λ (z : ℕ). In z (ls ++ rs)) q t)

      home : ℕ → Key
      home y = ite (ℕ_discrete y x) (roots j) (M.home y)

      home-other : (y : ℕ) → y ≢ x → home y ≡ M.home y
      home-other y h = if_neg (ℕ_discrete y x) h (roots j) (M.home y)

      alone : (y : ℕ) → In y (x ∷ []) → live y × (roots j ≡ home y) × Unit {0}
      alone y (inl q) = rw q ((M.member k x was).0, sym (if_pos (ℕ_discrete x x) refl (roots j) (M.home x)), tt)
      alone y (inr x'') = elim x'' [ ]

      keep : (y : ℕ) (k' : Key) → In y (F k') → y ≢ x → In y (detached F k ls x rs j k')
      keep y = detached_elim (λ z xs. In y (F z) → y ≢ x → In y xs) F k ls rs x j
          (λ t _. absurd (rw free at t))
          (λ t h. in_narrower y ls rs x h (rw e at t))
          (λ _ _ t _. t)

      go : (y : ℕ) (l : live y) (d : Dec (y ≡ x)) → In y (detached F k ls x rs j (ite d (roots j) (M.home y)))
      go y l (yes q) = rw put_same (inl q)
      go y l (no h) = keep y (M.home y) (M.placed y l) h

-- ---- the chain i, ms, goes between ls and rs at k

-- what there is to know of three lists that become one
pub record Three (ls ms rs : List ℕ) : Type 0 where
  pub nl : NoDup ls
  pub nm : NoDup ms
  pub nr : NoDup rs
  pub lm : Apart ls ms
  pub lr : Apart ls rs
  pub mr : Apart ms rs
  pub zl : Off 0 ls
  pub zm : Off 0 ms
  pub zr : Off 0 rs

module _ (live : ℕ → Type 0) (F : Forest) (M : Members live F) (k : Key) (ls rs : List ℕ) (e : F k ≡ ls ++ rs) (ok : OwnerIn live k)
    (i : Key) (ms : List ℕ) (ei : F i ≡ ms) (ki : k ≢ i) where
  pub three : Three ls ms rs
  three = record {
    nl = nodup-left ls rs nd;
    nm = subst NoDup ei (M.distinct i);
    nr = nodup-right ls rs nd;
    lm = apart_of ls ms (λ y t. off y (rw e (in_left y ls rs t)));
    lr = nodup-apart ls rs nd;
    mr = apart-sym ms rs (apart_of rs ms (λ y t. off y (rw e (in_right y ls rs t))));
    zl = off-left 0 ls rs nz;
    zm = subst (Off 0) ei (zero_off live F M i);
    zr = off-right 0 ls rs nz;
  }
    where
      nd : NoDup (ls ++ rs)
      nd = subst NoDup e (M.distinct k)

      nz : Off 0 (ls ++ rs)
      nz = subst (Off 0) e (zero_off live F M k)

      off : (y : ℕ) → In y (F k) → Off y ms
      off y t = subst (Off y) ei (far_off live F M k i y (λ q. ki (sym q)) t)

  pub members-move : Members live (moved F k ls ms rs i)
  members-move = record {
    home = home;
    member = λ k' y. moved_elim (λ z xs. In y xs → live y × (z ≡ home y) × OwnerIn live z) F k ls ms rs i
        (λ t. absurd t)
        (λ t. in_three y (in_cases y ls (ms ++ rs) t))
        (λ z h hi t. let w = M.member z y t in (w.0, w.1 ∙ sym (home-other y (λ q. hi (w.1 ∙ q))), w.2))
        k';
    placed = λ y l. go y (M.placed y l) (Key-Dec ℕ_discrete (M.home y) i);
    distinct = moved_elim (λ _ xs. NoDup xs) F k ls ms rs i tt
        (nodup_append ls (ms ++ rs) three.nl (nodup_append ms rs three.nm three.nr three.mr) (apart-append ls ms rs three.lm three.lr))
        (λ k' _ _. M.distinct k');
    some = M.some;
  }
    where
      home : ℕ → Key
      home y = ite (Key-Dec ℕ_discrete (M.home y) i) k (M.home y)

      home_same : (y : ℕ) → M.home y ≡ i → home y ≡ k
      home_same y h = if_pos (Key-Dec ℕ_discrete (M.home y) i) h k (M.home y)

      home-other : (y : ℕ) → M.home y ≢ i → home y ≡ M.home y
      home-other y h = if_neg (Key-Dec ℕ_discrete (M.home y) i) h k (M.home y)

      at-k : (y : ℕ) → In y (F k) → live y × (k ≡ home y) × OwnerIn live k
      at-k y t = let w = M.member k y t in (w.0, w.1 ∙ sym (home-other y (λ q. ki (w.1 ∙ q))), ok)

      in_three : (y : ℕ) → In y ls ⊎ In y (ms ++ rs) → live y × (k ≡ home y) × OwnerIn live k
      in_three y (inl t) = at-k y (rw e (in_left y ls rs t))
      in_three y (inr t) = two (in_cases y ms rs t)
        where
          two : In y ms ⊎ In y rs → live y × (k ≡ home y) × OwnerIn live k
          two (inr u) = at-k y (rw e (in_right y ls rs u))
          two (inl u) = let w = M.member i y (rw ei u) in (w.0, sym (home_same y (sym w.1)), ok)

      keep : (y : ℕ) (k' : Key) → In y (F k') → k' ≢ i → In y (moved F k ls ms rs i k')
      keep y = moved_elim (λ z xs. In y (F z) → z ≢ i → In y xs) F k ls ms rs i
          (λ t h. absurd (h refl))
          (λ t h. wide (in_cases y ls rs (rw e at t)))
          (λ _ _ _ t _. t)
        where
          wide : In y ls ⊎ In y rs → In y (ls ++ (ms ++ rs))
          wide (inl t) = in_left y ls (ms ++ rs) t
          wide (inr t) = in_right y ls (ms ++ rs) (in_right y ms rs t)

      arrived : (y : ℕ) → In y ms → (k' : Key) → k' ≡ k → In y (moved F k ls ms rs i k')
      arrived y t = moved_elim (λ z xs. z ≡ k → In y xs) F k ls ms rs i
          (λ q. absurd (ki (sym q))) (λ _. in_right y ls (ms ++ rs) (in_left y ms rs t)) (λ z h _ q. absurd (h q))

      go : (y : ℕ) → In y (F (M.home y)) → Dec (M.home y ≡ i) → In y (moved F k ls ms rs i (home y))
      go y t (yes q) = arrived y (subst (In y) (ap F q ∙ ei) t) (home y) (home_same y q)
      go y t (no h) = rw (home-other y h) (keep y (M.home y) t h)

-- ---- the nodes xs go, with all their children; those that stand under none of them are the chain i

-- those of live that are not among xs
abbrev pub Without : (ℕ → Type 0) → List ℕ → ℕ → Type 0
Without live xs y = live y × Off y xs

pub owner-within : (live : ℕ → Type 0) (xs : List ℕ) (k : Key) → OwnerIn (Without live xs) k → OwnerIn live k
owner-within live xs (roots j) o = tt
owner-within live xs (children p) o = o.0

owner-without : (live : ℕ → Type 0) (xs : List ℕ) (k : Key) → ((p : ℕ) → k ≡ children p → Off p xs) → OwnerIn live k → OwnerIn (Without live xs) k
owner-without live xs (roots j) h o = tt
owner-without live xs (children p) h o = (o, h p refl)

module _ (live : ℕ → Type 0) (F : Forest) (M : Members live F) (xs : List ℕ) (i : Key) (whole : (y : ℕ) → In y (F i) → In y xs)
    (closed : (p y : ℕ) → In p xs → In y (F (children p)) → In y xs)
    (under : (y : ℕ) → live y → In y xs → (M.home y ≡ i) ⊎ ((p : ℕ) × In p xs × (M.home y ≡ children p))) where
  -- a member of a chain that stays is not among xs
  pub stays_off : (k : Key) (y : ℕ) → k ≢ i → ((p : ℕ) → k ≡ children p → Off p xs) → In y (F k) → Off y xs
  stays_off k y hi hk t = not_in_off y xs (λ u. gone (under y (M.member k y t).0 u))
    where
      gone : (M.home y ≡ i) ⊎ ((p : ℕ) × In p xs × (M.home y ≡ children p)) → ⊥
      gone (inl q) = hi ((M.member k y t).1 ∙ q)
      gone (inr r) = off-not_in r.0 xs (hk r.0 ((M.member k y t).1 ∙ r.2)) r.1

  pub members-without : Members (Without live xs) (dropped F xs i)
  members-without = record {
    home = M.home;
    member = λ k y. dropped_elim (λ z zs. In y zs → Without live xs y × (z ≡ M.home y) × OwnerIn (Without live xs) z) F xs i
        (λ t. absurd t)
        (λ p _ t. absurd t)
        (λ z hi hk t. let m = M.member z y t in ((m.0, stays_off z y hi hk t), m.1, owner-without live xs z hk m.2))
        k;
    placed = λ y l. dropped_elim (λ z zs. In y (F z) → In y zs) F xs i
        (λ t. absurd (off-not_in y xs l.1 (whole y t)))
        (λ p u t. absurd (off-not_in y xs l.1 (closed p y u t)))
        (λ _ _ _ t. t)
        (M.home y) (M.placed y l.0);
    distinct = dropped_elim (λ _ zs. NoDup zs) F xs i tt (λ _ _. tt) (λ k _ _. M.distinct k);
    some = λ y l. M.some y l.0;
  }
