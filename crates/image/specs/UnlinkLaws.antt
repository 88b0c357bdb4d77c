-- Unlinking, one slot at a time; lengths stay. From its definition alone.
use Rattle.std.specs.Prelude.{◌≡◌, refl, Bool, true, false, List, eqb, ltb, length}
use Rattle.std.proofs.Common.{◌∙◌, sym, ap, ◌⊎◌, inl, inr, lt-ltb, le-ltb, eq-eqb, ne_eqb}
use Rattle.std.proofs.Math.Bool.{cond}
use Prim.Native.Nat.{◌-◌, ℕ, zero, suc, ◌<◌, ◌≤◌}
use native.Mathlib.Omega.{arith}
use Rattle.std.proofs.Math.Numerals.{sub-one}
use Rattle.link.specs.Ids.{stamp_of}
use Rattle.link.specs.Words.{STAMP, NUMBER, word, set_word}
use Rattle.link.specs.WordLaws.{length-set_word}
use Rattle.link.specs.declared.header.Header.{Header}
use Rattle.rules.specs.Answers.{header}
use Rattle.image.specs.Unlink.{bypassed, unlink_run}

module _ (n : ℕ) (m : List ℕ) (used first before x : ℕ) where
  pub unlink-out : n ≤ 0 → unlink_run n m used first before x ≡ (m, header used first before)
  unfolding unlink_run
  unlink-out h = let e : n ≡ 0 = omega arith in rw e

  pub unlink-step : 0 < n → unlink_run n m used first before x ≡
      cond (eqb x 0) (m, header used first before)
      (cond (ltb used x) (m, header used first before)
      (cond (eqb (stamp_of (word m x STAMP)) 32768)
      (let b = bypassed m first before x (word m x NUMBER) in unlink_run (n - 1) b.0 used b.1 before (word m x NUMBER))
      (unlink_run (n - 1) m used first x (word m x NUMBER))))
  unfolding unlink_run
  unlink-step h = by n h
    where
      by : (k : ℕ) → 0 < k → unlink_run k m used first before x ≡
          cond (eqb x 0) (m, header used first before)
          (cond (ltb used x) (m, header used first before)
          (cond (eqb (stamp_of (word m x STAMP)) 32768)
          (let b = bypassed m first before x (word m x NUMBER) in unlink_run (k - 1) b.0 used b.1 before (word m x NUMBER))
          (unlink_run (k - 1) m used first x (word m x NUMBER))))
      by zero g = absurd (omega arith)
      by (suc k) g = simp sub-one

  -- At none, or at a slot that is not in use, it ends.
  pub unlink-ends : (x ≡ 0) ⊎ ((x ≡ 0 → ⊥) × (used < x)) → unlink_run n m used first before x ≡ (m, header used first before)
  unfolding unlink_run
  unlink-ends e = by n e
    where
      by : (k : ℕ) → (x ≡ 0) ⊎ ((x ≡ 0 → ⊥) × (used < x)) → unlink_run k m used first before x ≡ (m, header used first before)
      by zero e = refl
      by (suc k) (inl z) = simp (eq-eqb x 0 z)
      by (suc k) (inr q) = simp (ne_eqb x 0 q.0, lt-ltb used x q.1)

  -- A slot in use is taken off where it is spent, and stays where it is not.
  module _ (k : ℕ) (more : n ≡ suc k) (some : x ≡ 0 → ⊥) (upto : x ≤ used) {stamp next : ℕ} (e : stamp ≡ word m x STAMP) (f : next ≡ word m x NUMBER) where
    pub unlink-off : eqb (stamp_of stamp) 32768 ≡ true → {w : List ℕ} {ahead : ℕ} → (w, ahead) ≡ bypassed m first before x next
        → unlink_run n m used first before x ≡ unlink_run k w used ahead before next
    unfolding unlink_run
    unlink-off s b =
        let spent : eqb (stamp_of (word m x STAMP)) 32768 ≡ true = rw (← e) s in
        rw (more, ne_eqb x 0 some, le-ltb used x upto, spent, ← f) (sym (ap (λ (p : List ℕ × ℕ). unlink_run k p.0 used p.1 before next) b))

    pub unlink-on : eqb (stamp_of stamp) 32768 ≡ false → unlink_run n m used first before x ≡ unlink_run k m used first x next
    unfolding unlink_run
    unlink-on s =
        let kept : eqb (stamp_of (word m x STAMP)) 32768 ≡ false = rw (← e) s in
        rw (more, ne_eqb x 0 some, le-ltb used x upto, kept, ← f)

pub length-bypassed : (m : List ℕ) (first before x next : ℕ) → length (bypassed m first before x next).0 ≡ length m
unfolding bypassed
length-bypassed m first before x next = by (eqb before 0)
  where
    by : (t : Bool) → length (cond {A = List ℕ × ℕ} t (set_word m x NUMBER 0, next) (set_word (set_word m before NUMBER next) x NUMBER 0, first)).0 ≡ length m
    by true = length-set_word m x NUMBER 0
    by false = length-set_word (set_word m before NUMBER next) x NUMBER 0 ∙ length-set_word m before NUMBER next

pub length-unlink_run : (n : ℕ) (m : List ℕ) (used first before x : ℕ) → length (unlink_run n m used first before x).0 ≡ length m
unfolding unlink_run
length-unlink_run zero m used first before x = refl
length-unlink_run (suc n) m used first before x =
    by (eqb x 0) (ltb used x) (eqb (stamp_of (word m x STAMP)) 32768)
    (length-unlink_run n b.0 used b.1 before (word m x NUMBER) ∙ length-bypassed m first before x (word m x NUMBER))
    (length-unlink_run n m used first x (word m x NUMBER))
  where
    b : List ℕ × ℕ
    b = bypassed m first before x (word m x NUMBER)

    by : (a u t : Bool) → length (unlink_run n b.0 used b.1 before (word m x NUMBER)).0 ≡ length m
        → length (unlink_run n m used first x (word m x NUMBER)).0 ≡ length m
        → length (cond {A = List ℕ × Header} a (m, header used first before) (cond u (m, header used first before) (cond t (unlink_run n b.0 used b.1 before (word m x NUMBER)) (unlink_run n m used first x (word m x NUMBER))))).0 ≡ length m
    by true u t p q = refl
    by false true t p q = refl
    by false false true p q = p
    by false false false p q = q
