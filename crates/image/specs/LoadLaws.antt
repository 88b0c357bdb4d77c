-- Load's number: it passes the tests before the words exactly where each passes, and then what is left is whether the words are sound.
-- From the order of tests, by cases.
use Rattle.std.specs.Prelude.{◌≡◌, Bool, cond, List, ℕ, ◌*◌, ◌≤◌, eqb, length}
use Rattle.std.proofs.Math.Path.{refl}
use Rattle.std.proofs.Common.{sym, arith}
use Rattle.std.proofs.Math.Bool.{true, false, not}
use Rattle.std.proofs.Math.Dec.{ltb}
use borrow.Author.Tests.{ltb-false, le-ltb, eqb-true, eq-eqb}
use Rattle.link.specs.Words.{capacity_of}
use Rattle.rules.specs.Answers.{DONE, INVALID}
use Rattle.image.specs.Image.{version, prefix, image_length, marked_b, version_in, used_in}
use Rattle.image.specs.Load.{load_refusal, load_no_with}

-- Every test before the words.
pub record Passed (bytes : List ℕ) (lent scratch : ℕ) : Type 0 where
  pub long : prefix ≤ length bytes
  pub marked : marked_b bytes ≡ true
  pub one : version_in bytes ≡ version
  pub whole : length bytes ≡ image_length (used_in bytes)
  pub frame : used_in bytes ≤ capacity_of lent
  pub room : 2 * used_in bytes ≤ scratch

not-false : (b : Bool) → not b ≡ false → b ≡ true
not-false true e = refl
not-false false e = sym e

module _ (bytes : List ℕ) (lent scratch : ℕ) where
  pub passes : load_no_with false bytes lent scratch ≡ DONE → Passed bytes lent scratch
  unfolding load_no_with load_refusal
  passes e =
      by (ltb (length bytes) prefix) (not (marked_b bytes)) (not (eqb (version_in bytes) version)) (not (eqb (length bytes) (image_length (used_in bytes))))
      (ltb (capacity_of lent) (used_in bytes)) (ltb scratch (2 * used_in bytes)) refl refl refl refl refl refl e
    where
      by : (a b c d f g : Bool) → ltb (length bytes) prefix ≡ a → not (marked_b bytes) ≡ b → not (eqb (version_in bytes) version) ≡ c
          → not (eqb (length bytes) (image_length (used_in bytes))) ≡ d → ltb (capacity_of lent) (used_in bytes) ≡ f → ltb scratch (2 * used_in bytes) ≡ g
          → load_refusal a b c d f g false ≡ DONE → Passed bytes lent scratch
      by true b c d f g p q r s t u e = absurd (omega arith)
      by false true c d f g p q r s t u e = absurd (omega arith)
      by false false true d f g p q r s t u e = absurd (omega arith)
      by false false false true f g p q r s t u e = absurd (omega arith)
      by false false false false true g p q r s t u e = absurd (omega arith)
      by false false false false false true p q r s t u e = absurd (omega arith)
      by false false false false false false p q r s t u e = record {
        long = ltb-false (length bytes) prefix p;
        marked = not-false (marked_b bytes) q;
        one = eqb-true (version_in bytes) version (not-false _ r);
        whole = eqb-true (length bytes) (image_length (used_in bytes)) (not-false _ s);
        frame = ltb-false (capacity_of lent) (used_in bytes) t;
        room = ltb-false scratch (2 * used_in bytes) u;
      }

  -- What is left is the last test.
  pub passed : (invalid : Bool) → Passed bytes lent scratch → load_no_with invalid bytes lent scratch ≡ cond invalid INVALID DONE
  unfolding load_no_with load_refusal
  passed invalid w =
      rw (
        le-ltb (length bytes) prefix w.long,
        w.marked,
        eq-eqb (version_in bytes) version w.one,
        eq-eqb (length bytes) (image_length (used_in bytes)) w.whole,
        le-ltb (capacity_of lent) (used_in bytes) w.frame,
        le-ltb scratch (2 * used_in bytes) w.room,
      )

  -- A refusal before the words is the number, whatever they are, and it is not INVALID.
  pub refuses : (invalid : Bool) → (load_no_with false bytes lent scratch ≡ DONE → ⊥)
      → (load_no_with invalid bytes lent scratch ≡ load_no_with false bytes lent scratch) × (load_no_with false bytes lent scratch ≡ INVALID → ⊥)
  unfolding load_no_with load_refusal
  refuses invalid n =
      by (ltb (length bytes) prefix) (not (marked_b bytes)) (not (eqb (version_in bytes) version)) (not (eqb (length bytes) (image_length (used_in bytes))))
      (ltb (capacity_of lent) (used_in bytes)) (ltb scratch (2 * used_in bytes)) n
    where
      by : (a b c d f g : Bool) → (load_refusal a b c d f g false ≡ DONE → ⊥)
          → (load_refusal a b c d f g invalid ≡ load_refusal a b c d f g false) × (load_refusal a b c d f g false ≡ INVALID → ⊥)
      by true b c d f g n = (refl, λ e. omega arith)
      by false true c d f g n = (refl, λ e. omega arith)
      by false false true d f g n = (refl, λ e. omega arith)
      by false false false true f g n = (refl, λ e. omega arith)
      by false false false false true g n = (refl, λ e. omega arith)
      by false false false false false true n = (refl, λ e. omega arith)
      by false false false false false false n = absurd (n refl)
