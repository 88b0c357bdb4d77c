-- Save's answers, put together from what its calls hand back.
use Rattle.std.specs.Prelude.{◌≡◌, length, take}
use Rattle.std.proofs.Common.{sym, ◌∙◌, lt-ltb, le-ltb, eq-eqb, ne_eqb}
use Rattle.std.proofs.Math.Path.{ap}
use mathlib.Core.List.{List}
use Prim.Native.Nat.{ℕ, ◌*◌, ◌≤◌, ◌<◌}
use Rattle.std.proofs.Math.Seq.{sets}
use Rattle.link.specs.Words.{width}
use Rattle.link.specs.declared.header.Header.{Header}
use Rattle.little_endian.specs.Bytes.{bytes_of_each}
use Rattle.rules.specs.Answers.{DONE, ROOM, refusal, reply}
use Rattle.rules.specs.declared.answer.Reply.{Reply}
use Rattle.sound.specs.Guard.{scratch_after, guard_no}
use Rattle.image.specs.Image.{prefix, image_length, prefix_of, image_of, laid}
use Rattle.image.specs.ImageLaws.{image-written}
use Rattle.image.specs.Save.{written, guarded_write, saved}

module _ (m : List ℕ) (h : Header) (bytes : List ℕ) where
  pub written-room : length bytes < image_length h.used → (bytes, reply ROOM 0) ≡ written m h bytes
  unfolding written refusal
  written-room l = simp (lt-ltb (length bytes) (image_length h.used) l)

  pub written-done : h.used * width ≤ length m → image_length h.used ≤ length bytes → {b₁ b₂ : List ℕ}
      → b₁ ≡ sets bytes 0 (prefix_of h) → b₂ ≡ sets b₁ prefix (bytes_of_each 4 (take (width * h.used) m))
      → (b₂, reply DONE (image_length h.used)) ≡ written m h bytes
  unfolding written refusal
  written-done fits room {b₁} {b₂} e f =
      let whole : b₂ ≡ laid (image_of m h) bytes = f ∙ ap (λ (b : List ℕ). sets b prefix (bytes_of_each 4 (take (width * h.used) m))) e ∙ image-written m h bytes fits room in
      simp (le-ltb (length bytes) (image_length h.used) room, whole)

  pub saved-done : (scratch : List ℕ) {number : ℕ} {s b : List ℕ} {r : Reply} → number ≡ guard_no m h (length scratch) → number ≡ DONE
      → s ≡ scratch_after m h scratch → (b, r) ≡ written m h bytes → (s, b, r) ≡ saved m h scratch bytes
  unfolding saved guarded_write
  saved-done scratch {number} {s} {b} {r} e d f w =
      simp (eq-eqb (guard_no m h (length scratch)) DONE (sym e ∙ d), f)
      (ap (λ (p : List ℕ × Reply). (scratch_after m h scratch, p.0, p.1)) w)

  pub saved-refused : (scratch : List ℕ) {number : ℕ} {s : List ℕ} → number ≡ guard_no m h (length scratch) → (number ≡ DONE → ⊥)
      → s ≡ scratch_after m h scratch → (s, bytes, reply number 0) ≡ saved m h scratch bytes
  unfolding saved guarded_write
  saved-refused scratch {number} {s} e n f =
      simp (ne_eqb (guard_no m h (length scratch)) DONE (λ q. n (e ∙ q)), f, e)
