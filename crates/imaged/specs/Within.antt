-- Save writes exactly on ready memory that fits, into room enough; then the bytes are the image with what lay behind it, and the answer is
-- the image's length. It never writes past its answer. Excluded: a byte changed past the image; bytes changed by a refused save.
use Rattle.std.specs.Prelude.{◌≡◌, true, false, eqb, ltb, length, take, drop}
use Rattle.std.proofs.Math.Path.{refl}
use Rattle.std.proofs.Common.{sym, ap, ◌∙◌, subst, arith, length-append, length-drop, take_at, drop_at}
use Rattle.std.proofs.Math.Bool.{Bool, cond}
use mathlib.Core.List.{List}
use Prim.Native.Nat.{ℕ, ◌*◌, ◌≤◌}
use Rattle.std.proofs.Math.Decide.{ℕ_discrete}
use borrow.Author.Tests.{eqb-true, eqb-false, eq-eqb, ltb-false, le-ltb}
use Rattle.link.specs.Words.{width, capacity_of}
use Rattle.link.specs.declared.header.Header.{Header}
use Rattle.rules.specs.Answers.{DONE, ROOM, refusal, reply}
use Rattle.rules.specs.declared.answer.Reply.{Reply}
use Rattle.rules.specs.Sound.{Ready}
use Rattle.sound.specs.Guard.{scratch_after, guard_no}
use Rattle.sound.specs.GuardLaws.{guard-ready, capacity-fits}
use Rattle.image.specs.Image.{image_length, image_of, laid}
use Rattle.image.specs.ImageLaws.{laid-over, length-image_of}
use Rattle.image.specs.Save.{written, guarded_write, saved}

module _ (m : List ℕ) (h : Header) (scratch bytes : List ℕ) where
  -- What save needs to write.
  pub record Writes : Type 0 where
    pub frame : h.used ≤ capacity_of (length m)
    pub scratch-room : 2 * h.used ≤ length scratch
    pub ready : Ready m h
    pub room : image_length h.used ≤ length bytes

  pub save-writes : Writes → saved m h scratch bytes ≡ (scratch_after m h scratch, laid (image_of m h) bytes, reply DONE (image_length h.used))
  unfolding saved guarded_write written refusal
  save-writes w =
      rw (
        eq-eqb (guard_no m h (length scratch)) DONE ((guard-ready m h (length scratch)).1 (w.frame, w.scratch-room, w.ready)),
        le-ltb (length bytes) (image_length h.used) w.room,
      )

  -- It answers DONE exactly there, and everywhere else it leaves the bytes and answers 0.
  pub save-done : ((saved m h scratch bytes).2.number ≡ DONE → Writes) × (((saved m h scratch bytes).2.number ≡ DONE → ⊥) → ((saved m h scratch bytes).1 ≡ bytes) × ((saved m h scratch bytes).2.result ≡ 0))
  unfolding saved guarded_write written refusal
  save-done = by (eqb (guard_no m h (length scratch)) DONE) (ltb (length bytes) (image_length h.used)) refl refl
    where
      R : Bool → Bool → List ℕ × List ℕ × Reply
      R a b =
          let number : ℕ = cond b ROOM DONE in
          let work : List ℕ × Reply = cond (eqb number DONE) (laid (image_of m h) bytes, reply DONE (image_length h.used)) (bytes, reply number 0) in
          cond a (scratch_after m h scratch, work.0, work.1) (scratch_after m h scratch, bytes, reply (guard_no m h (length scratch)) 0)

      by : (a b : Bool) → eqb (guard_no m h (length scratch)) DONE ≡ a → ltb (length bytes) (image_length h.used) ≡ b
          → ((R a b).2.number ≡ DONE → Writes) × (((R a b).2.number ≡ DONE → ⊥) → ((R a b).1 ≡ bytes) × ((R a b).2.result ≡ 0))
      by true false p q = (
        λ _. let (f, s, r) = (guard-ready m h (length scratch)).0 (eqb-true (guard_no m h (length scratch)) DONE p) in
            record { frame = f; scratch-room = s; ready = r; room = ltb-false (length bytes) (image_length h.used) q },
        λ n. absurd (n refl),
      )
      by true true p q = (λ e. absurd (omega arith), λ _. (refl, refl))
      by false b p q = (λ e. absurd (eqb-false (guard_no m h (length scratch)) DONE p e), λ _. (refl, refl))

  pub fits : Writes → h.used * width ≤ length m
  fits w = (capacity-fits (length m) h.used w.frame).1

  -- The first bytes, as many as the answer says, are the image;
  pub save_image : Writes → take (saved m h scratch bytes).2.result (saved m h scratch bytes).1 ≡ image_of m h
  unfolding laid
  save_image w = rw (save-writes w) (take_at (image_of m h) (drop (length (image_of m h)) bytes) (image_length h.used) (length-image_of m h (fits w)))

  -- those past the answer are as they were, and there are as many bytes as before.
  pub save-within : (drop (saved m h scratch bytes).2.result (saved m h scratch bytes).1 ≡ drop (saved m h scratch bytes).2.result bytes)
      × (length (saved m h scratch bytes).1 ≡ length bytes)
  save-within = by (ℕ_discrete (saved m h scratch bytes).2.number DONE)
    where
      Kept : List ℕ × List ℕ × Reply → Type 0
      Kept r = (drop r.2.result r.1 ≡ drop r.2.result bytes) × (length r.1 ≡ length bytes)

      over : Writes → Kept (scratch_after m h scratch, laid (image_of m h) bytes, reply DONE (image_length h.used))
      over w =
          let size = length-image_of m h (fits w) in
          let lies = laid-over (image_length h.used) (image_of m h) bytes size in
          let room = w.room in (
            ap (drop (image_length h.used)) lies ∙ drop_at (image_of m h) (drop (image_length h.used) bytes) (image_length h.used) size,
            ap length lies ∙ length-append (image_of m h) (drop (image_length h.used) bytes) ∙ simp (length-drop, size) (omega arith),
          )

      by : Dec ((saved m h scratch bytes).2.number ≡ DONE) → Kept (saved m h scratch bytes)
      by (yes d) = let w = save-done.0 d in subst Kept (sym (save-writes w)) (over w)
      by (no n) =
          let (same, zero) = save-done.1 n in
          (ap (drop (saved m h scratch bytes).2.result) same, ap length same)
