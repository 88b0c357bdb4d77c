-- The guard lets a call through exactly on ready memory that fits, and the validator answers 1 exactly on sound memory that fits.
-- From the exactness of the examination; the rest is the order of tests, by cases.
use Rattle.std.specs.Prelude.{◌≡◌, ◌↔◌, Bool, not, List, eqb, length}
use Rattle.std.proofs.Math.Path.{refl, sym}
use Rattle.std.proofs.Common.{ap, ◌∙◌, arith}
use Rattle.std.proofs.Math.Bool.{true, false, cond}
use Prim.Native.Nat.{ℕ, ◌*◌, ◌/◌, ◌≤◌}
use Rattle.std.proofs.Math.Decide.{ℕ_discrete}
use Rattle.std.proofs.Math.Dec.{ltb}
use borrow.Author.Tests.{ltb-true, ltb-false, le-ltb, eq-eqb, ne_eqb, eqb-true}
use Rattle.link.specs.Words.{width, most, capacity_of}
use Rattle.link.specs.WordLaws.{capacity-whole, capacity-most}
use Rattle.link.specs.declared.header.Header.{Header}
use Rattle.rules.specs.Answers.{DONE, INVALID, refusal, reply}
use Rattle.rules.specs.declared.answer.Reply.{Reply}
use Rattle.rules.specs.Sound.{Sound, Ready}
use Rattle.examine.specs.Scratch.{zeroed}
use Rattle.examine.specs.Verdicts.{sound_b, ready_b}
use Rattle.examine.specs.Examination.{examined}
use Rattle.exact.specs.Exact.{examined-sound, examined-ready}
use Rattle.sound.specs.Guard.{fit_no, scratch_after, sound_result, ready_no, validated, guard_no}

-- Memory and scratch are long enough for the header.
pub record Fits (lent used scratch : ℕ) : Type 0 where
  pub frame : used ≤ capacity_of lent
  pub room : 2 * used ≤ scratch

-- What fits the capacity lies within the words lent.
pub capacity-fits : (lent used : ℕ) → used ≤ capacity_of lent → (used ≤ most) × (used * width ≤ lent)
capacity-fits lent used h = by (ltb (lent / width) most) refl
  where
    by : (b : Bool) → ltb (lent / width) most ≡ b → (used ≤ most) × (used * width ≤ lent)
    by true e = let l = ltb-true (lent / width) most e in let c = capacity-whole lent l in (omega arith, omega arith)
    by false e = let l = ltb-false (lent / width) most e in let c = capacity-most lent l in (omega arith, omega arith)

module _ (lent used scratch : ℕ) where
  pub fit-done : (fit_no lent used scratch ≡ DONE) ↔ Fits lent used scratch
  unfolding fit_no refusal
  fit-done = (
    λ e. by (ltb (capacity_of lent) used) (ltb scratch (2 * used)) refl refl e,
    λ f. simp (le-ltb (capacity_of lent) used f.frame, le-ltb scratch (2 * used) f.room),
  )
    where
      by : (a b : Bool) → ltb (capacity_of lent) used ≡ a → ltb scratch (2 * used) ≡ b
          → refusal a b false false false false false false ≡ DONE → Fits lent used scratch
      by true b p q e = absurd (omega arith)
      by false true p q e = absurd (omega arith)
      by false false p q e = record { frame = ltb-false (capacity_of lent) used p; room = ltb-false scratch (2 * used) q }

module _ (m : List ℕ) (h : Header) where
  -- Where memory fits, what is left is the verdict; where it does not, the number is already there.
  pub guard-fits : (n : ℕ) → Fits (length m) h.used n → guard_no m h n ≡ ready_no (examined m h)
  unfolding guard_no ready_no refusal
  guard-fits n f =
      simp (le-ltb (capacity_of (length m)) h.used f.frame, le-ltb n (2 * h.used) f.room) (by (ready_b (examined m h)))
    where
      by : (b : Bool) → refusal false false (not b) false false false false false ≡ cond b DONE INVALID
      by true = refl
      by false = refl

  pub guard-unfit : (n : ℕ) → (fit_no (length m) h.used n ≡ DONE → ⊥) → guard_no m h n ≡ fit_no (length m) h.used n
  unfolding guard_no fit_no refusal
  guard-unfit n unfit = by (ltb (capacity_of (length m)) h.used) (ltb n (2 * h.used)) unfit
    where
      by : (a b : Bool) → (refusal a b false false false false false false ≡ DONE → ⊥)
          → refusal a b (not (ready_b (examined m h))) false false false false false ≡ refusal a b false false false false false false
      by true b k = refl
      by false true k = refl
      by false false k = absurd (k refl)

  pub scratch-fits : (s : List ℕ) → Fits (length m) h.used (length s) → scratch_after m h s ≡ zeroed (2 * h.used) s
  unfolding scratch_after
  scratch-fits s f = simp (eq-eqb (fit_no (length m) h.used (length s)) DONE ((fit-done (length m) h.used (length s)).1 f))

  pub scratch-unfit : (s : List ℕ) → (fit_no (length m) h.used (length s) ≡ DONE → ⊥) → scratch_after m h s ≡ s
  unfolding scratch_after
  scratch-unfit s unfit = simp (ne_eqb (fit_no (length m) h.used (length s)) DONE unfit)

  -- The guard lets a call through exactly on ready memory that fits.
  pub guard-ready : (n : ℕ) → (guard_no m h n ≡ DONE) ↔ ((h.used ≤ capacity_of (length m)) × (2 * h.used ≤ n) × Ready m h)
  unfolding guard_no fit_no ready_no refusal
  guard-ready n = (to, from)
    where
      sure : (b : Bool) → cond b DONE INVALID ≡ DONE → b ≡ true
      sure true e = refl
      sure false e = absurd (omega arith)

      unfit : (a b : Bool) → (refusal a b false false false false false false ≡ DONE → ⊥)
          → refusal a b (not (ready_b (examined m h))) false false false false false ≡ DONE → ⊥
      unfit true b k e = k e
      unfit false true k e = k e
      unfit false false k e = k refl

      to : guard_no m h n ≡ DONE → (h.used ≤ capacity_of (length m)) × (2 * h.used ≤ n) × Ready m h
      to e = by (ℕ_discrete (fit_no (length m) h.used n) DONE)
        where
          by : Dec (fit_no (length m) h.used n ≡ DONE) → (h.used ≤ capacity_of (length m)) × (2 * h.used ≤ n) × Ready m h
          by (yes d) =
              let f = (fit-done (length m) h.used n).0 d in
              (f.frame, f.room, (examined-ready m h).0 (sure (ready_b (examined m h)) (sym (guard-fits n f) ∙ e)))
          by (no k) = absurd (unfit (ltb (capacity_of (length m)) h.used) (ltb n (2 * h.used)) k e)

      from : (h.used ≤ capacity_of (length m)) × (2 * h.used ≤ n) × Ready m h → guard_no m h n ≡ DONE
      from w =
          let f : Fits (length m) h.used n = record { frame = w.0; room = w.1 } in
          guard-fits n f ∙ simp ((examined-ready m h).1 w.2)

  -- The validator answers 1 exactly on sound memory that fits.
  pub validated-sound : (s : List ℕ)
      → ((validated m h s).1.result ≡ 1) ↔ ((h.used ≤ capacity_of (length m)) × (2 * h.used ≤ length s) × Sound m h)
  unfolding validated sound_result
  validated-sound s = (to, from)
    where
      n : ℕ
      n = fit_no (length m) h.used (length s)

      sure : (b : Bool) → ◌≡◌ {A = ℕ} (cond b 1 0) 1 → b ≡ true
      sure true e = refl
      sure false e = absurd (omega arith)

      to : ◌≡◌ {A = ℕ} (cond (eqb n DONE) (cond (sound_b (examined m h)) 1 0) 0) 1 → (h.used ≤ capacity_of (length m)) × (2 * h.used ≤ length s) × Sound m h
      to e = by (eqb n DONE) refl e
        where
          by : (b : Bool) → eqb n DONE ≡ b → ◌≡◌ {A = ℕ} (cond b (cond (sound_b (examined m h)) 1 0) 0) 1
              → (h.used ≤ capacity_of (length m)) × (2 * h.used ≤ length s) × Sound m h
          by true q r =
              let f = (fit-done (length m) h.used (length s)).0 (eqb-true n DONE q) in
              (f.frame, f.room, (examined-sound m h).0 (sure (sound_b (examined m h)) r))
          by false q r = absurd (omega arith)

      from : (h.used ≤ capacity_of (length m)) × (2 * h.used ≤ length s) × Sound m h → ◌≡◌ {A = ℕ} (cond (eqb n DONE) (cond (sound_b (examined m h)) 1 0) 0) 1
      from w =
          let f : Fits (length m) h.used (length s) = record { frame = w.0; room = w.1 } in
          simp (eq-eqb n DONE ((fit-done (length m) h.used (length s)).1 f), (examined-sound m h).1 w.2)

  -- What the validator's calls hand back, put together; and the claim on its result, read off that.
  pub validated-fits : (s : List ℕ) {s' : List ℕ} {no result : ℕ} → no ≡ fit_no (length m) h.used (length s) → no ≡ DONE
      → s' ≡ zeroed (2 * h.used) s → result ≡ sound_result (examined m h) → (s', reply no result) ≡ validated m h s
  unfolding validated
  validated-fits s {s'} {no} {result} e d f g =
      let fits = (fit-done (length m) h.used (length s)).0 (sym e ∙ d) in
      let after : s' ≡ scratch_after m h s = f ∙ sym (scratch-fits s fits) in
      simp (eq-eqb (fit_no (length m) h.used (length s)) DONE (sym e ∙ d)) (cc)

  pub validated-unfit : (s : List ℕ) {no : ℕ} → no ≡ fit_no (length m) h.used (length s) → (no ≡ DONE → ⊥)
      → (s, reply no 0) ≡ validated m h s
  unfolding validated
  validated-unfit s {no} e unfit =
      let unfit' : (fit_no (length m) h.used (length s) ≡ DONE → ⊥) = (λ q. unfit (e ∙ q)) in
      let after : s ≡ scratch_after m h s = sym (scratch-unfit s unfit') in
      simp (ne_eqb (fit_no (length m) h.used (length s)) DONE unfit') (cc)

  pub validated_exact : (s : List ℕ) {s' : List ℕ} {r : Reply} → (s', r) ≡ validated m h s
      → (r.result ≡ 1) ↔ ((h.used ≤ capacity_of (length m)) × (2 * h.used ≤ length s) × Sound m h)
  validated_exact s e = rw (ap (λ (p : List ℕ × Reply). p.1.result) e) (validated-sound s)
