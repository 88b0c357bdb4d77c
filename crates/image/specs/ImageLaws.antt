-- The image has 11 + 28 × used bytes; its parts, written one after another, are the image laid over what was there.
-- Memory with a run laid over it, and that run alone, have the same slots in use.
use Rattle.std.specs.Prelude.{◌≡◌, refl, Bool, true, false, cond, ◌&&◌, List, [], ◌∷◌, ◌++◌, ℕ, ◌+◌, ◌*◌, ◌≤◌, ◌<◌, eqb, length, get_or, take, drop, replicate}
use Rattle.std.specs.List.{starts_with}
use Rattle.std.proofs.Common.{sym, ap, ap₂, ◌∙◌, arith, length-append, length-take-le, drop_at}
use Rattle.std.proofs.Math.ListN.{get_or-append}
use Rattle.std.proofs.lemmas.List.Edits.{sets, sets-eq}
use Rattle.std.proofs.Math.Seq.{set-append_left}
use borrow.Author.Tests.{eq-eqb}
use Rattle.link.specs.Words.{width, place, word, set_word}
use Rattle.link.specs.StampLaws.{eqb_same}
use Rattle.link.specs.declared.header.Header.{Header}
use Rattle.little_endian.specs.Bytes.{bytes_of, with_number, bytes_of_each}
use Rattle.little_endian.specs.RunLaws.{sets-append, length-each}
use Rattle.examine.specs.Scratch.{zeroed}
use Rattle.image.specs.Image.{mark, version, prefix, image_length, prefix_of, image_of, marked_b, laid}

-- ---- a run laid over a list

pub sets-laid : (l xs : List ℕ) → length xs ≤ length l → sets l 0 xs ≡ laid xs l
unfolding laid
sets-laid l xs h =
    let none : 0 + length xs ≡ length xs = omega arith in
    sets-eq xs l 0 (omega arith) ∙ ap (λ (n : ℕ). xs ++ drop n l) none

pub laid-over : (n : ℕ) (xs l : List ℕ) → length xs ≡ n → laid xs l ≡ xs ++ drop n l
unfolding laid
laid-over n xs l e = ap (λ (k : ℕ). xs ++ drop k l) e

-- Zeroing what was laid over is zeroing what was there.
pub zeroed-laid : (n : ℕ) (xs l : List ℕ) → length xs ≡ n → zeroed n (laid xs l) ≡ zeroed n l
unfolding zeroed
zeroed-laid n xs l e = ap (λ (t : List ℕ). replicate n 0 ++ drop n t) (laid-over n xs l e) ∙ ap (λ (t : List ℕ). replicate n 0 ++ t) (drop_at xs (drop n l) n e)

-- ---- the slots in use of a run, and of memory that starts with it

module _ (xs rest : List ℕ) (used : ℕ) (size : used * width ≤ length xs) (s k : ℕ) (some : 1 ≤ s) (upto : s ≤ used) (few : k < width) where
  pub word-append : word (xs ++ rest) s k ≡ word xs s k
  unfolding word
  word-append = get_or-append xs rest 0 (place s k) (omega arith)

  pub set_word-append : (v : ℕ) → set_word (xs ++ rest) s k v ≡ set_word xs s k v ++ rest
  unfolding set_word
  set_word-append v = set-append_left xs rest (place s k) v (omega arith)

-- ---- the image

pub length-prefix_of : (h : Header) → length (prefix_of h) ≡ prefix
unfolding prefix_of bytes_of
length-prefix_of h = refl

pub length-image_of : (m : List ℕ) (h : Header) → h.used * width ≤ length m → length (image_of m h) ≡ image_length h.used
unfolding image_of
length-image_of m h fits =
    let few : length (take (width * h.used) m) ≡ width * h.used = length-take-le (width * h.used) m (omega arith) in
    length-append (prefix_of h) (bytes_of_each 4 (take (width * h.used) m))
    ∙ ap₂ ◌+◌ (length-prefix_of h) (length-each 4 (take (width * h.used) m) ∙ ap (λ (n : ℕ). 4 * n) few)

prefix-written : (bytes : List ℕ) (h : Header)
    → with_number 2 (with_number 2 (with_number 2 (with_number 2 (sets bytes 0 mark) 3 version) 5 h.used) 7 h.first) 9 h.last ≡ sets bytes 0 (prefix_of h)
unfolding with_number prefix_of bytes_of
prefix-written bytes h = refl

-- one call after another
pub prefix-calls : (bytes : List ℕ) (h : Header) {b₁ b₂ b₃ b₄ b₅ : List ℕ} → b₁ ≡ sets bytes 0 mark → b₂ ≡ with_number 2 b₁ 3 version
    → b₃ ≡ with_number 2 b₂ 5 h.used → b₄ ≡ with_number 2 b₃ 7 h.first → b₅ ≡ with_number 2 b₄ 9 h.last → b₅ ≡ sets bytes 0 (prefix_of h)
prefix-calls bytes h e₁ e₂ e₃ e₄ e₅ = rw (e₅, e₄, e₃, e₂, e₁) (prefix-written bytes h)

pub image-written : (m : List ℕ) (h : Header) (bytes : List ℕ) → h.used * width ≤ length m → image_length h.used ≤ length bytes
    → sets (sets bytes 0 (prefix_of h)) prefix (bytes_of_each 4 (take (width * h.used) m)) ≡ laid (image_of m h) bytes
unfolding image_of
image-written m h bytes fits room =
    let size = length-image_of m h fits in
    let behind : 0 + length (prefix_of h) ≡ prefix = let e = length-prefix_of h in omega arith in
    ap (λ (n : ℕ). sets (sets bytes 0 (prefix_of h)) n (bytes_of_each 4 (take (width * h.used) m))) (sym behind)
    ∙ sym (sets-append bytes 0 (prefix_of h) (bytes_of_each 4 (take (width * h.used) m)))
    ∙ sets-laid bytes (image_of m h) (omega arith)

-- ---- the mark, byte by byte

module _ (bytes : List ℕ) (first : get_or bytes 0 0 ≡ 76) where
  pub marked-two : get_or bytes 1 0 ≡ 70 → eqb (get_or bytes 2 0) 84 ≡ marked_b bytes
  unfolding marked_b
  marked-two second = rw (eq-eqb (get_or bytes 0 0) 76 first, eq-eqb (get_or bytes 1 0) 70 second)

-- and as the first bytes
pub starts-marked : (bytes : List ℕ) → prefix ≤ length bytes → starts_with eqb bytes mark ≡ marked_b bytes
unfolding marked_b
starts-marked (a ∷ (b ∷ (c ∷ rest))) h = rw (eqb_same 76 a a 76 sym sym, eqb_same 70 b b 70 sym sym, eqb_same 84 c c 84 sym sym) (by (eqb a 76) (eqb b 70) (eqb c 84))
  where
    by : (x y z : Bool) → (x && (y && (z && true))) ≡ cond x (cond y z false) false
    by true true true = refl
    by true true false = refl
    by true false z = refl
    by false y z = refl
starts-marked (a ∷ (b ∷ [])) h = absurd (omega arith)
starts-marked (a ∷ []) h = absurd (omega arith)
starts-marked [] h = absurd (omega arith)
