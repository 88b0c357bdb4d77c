-- Ready memory saved and loaded comes back unchanged: the words of the slots in use, the header, and so the tree.
-- Excluded: an image that loses the last free slot; a load that shifts the words by a byte; words behind the slots in use brought along.
use Rattle.std.specs.Prelude.{◌≡◌, ◌⊎◌, true, ℕ, ◌*◌, ◌≤◌, ◌<◌}
use Rattle.std.proofs.Math.Path.{refl, ap, ap₂}
use Rattle.std.proofs.Common.{sym, ◌∙◌, inl, inr, arith}
use mathlib.Core.List.{List, [], ◌++◌, append-nil}
use Rattle.std.proofs.Math.ListN.{length, take}
use Rattle.std.proofs.Math.Seq.{length-take-le}
use Rattle.link.specs.Words.{width, most, capacity_of}
use Rattle.link.specs.declared.header.Header.{Header}
use Rattle.little_endian.specs.Bytes.{bytes_of, number_at, bytes_of_each, numbers_at}
use Rattle.little_endian.specs.RoundTrip.{Fit, fit-take, read-written, run-written}
use Rattle.rules.specs.Answers.{DONE, answer, header}
use Rattle.rules.specs.Lists.{In}
use Rattle.rules.specs.Sound.{FreeSlot, Sound, Ready}
use Rattle.rules.specs.Forest.{Forest}
use Rattle.forest.specs.Lists.{head_in, last_in, all_in}
use Rattle.forest.specs.Whole.{Forested}
use Rattle.examine.specs.Scratch.{zeroed}
use Rattle.exact.specs.Exact.{examined-ready}
use Rattle.sound.specs.GuardLaws.{capacity-fits}
use Rattle.image.specs.Image.{mark, version, prefix, image_length, prefix_of, image_of, marked_b, version_in, used_in, header_in, words_in, laid}
use Rattle.image.specs.ImageLaws.{length-prefix_of, length-image_of}
use Rattle.image.specs.Unlink.{unlinked}
use Rattle.image.specs.LoadLaws.{Passed}
use Rattle.image.specs.LoadCalls.{unlinked-ready}
use Rattle.image.specs.Load.{loaded}
use Rattle.image.specs.Save.{saved}
use Rattle.imaged.specs.Slots.{slots-back, ready-same, forest-same, laid-slots, taken-slots, laid-back}
use Rattle.imaged.specs.Accepted.{load_accepts, loaded_is}
use Rattle.imaged.specs.Within.{save-done, save_image}

-- A number in the middle of a run, with what stands before it.
number_in : (l p q : List ℕ) (at x : ℕ) → l ≡ p ++ (bytes_of 2 x ++ q) → length p ≡ at → x < 65536 → number_at 2 l at ≡ x
number_in l p q at x e size few = ap₂ (number_at 2) e (sym size) ∙ read-written 2 x p q few

module _ (m : List ℕ) (h : Header) where
  abbrev body : List ℕ
  body = bytes_of_each 4 (take (width * h.used) m)

  abbrev after_first : List ℕ
  after_first = bytes_of 2 h.last ++ body

  abbrev after-used : List ℕ
  after-used = bytes_of 2 h.first ++ after_first

  abbrev after-version : List ℕ
  after-version = bytes_of 2 h.used ++ after-used

  -- The image, part by part.
  apart : image_of m h ≡ mark ++ (bytes_of 2 version ++ after-version)
  unfolding image_of prefix_of bytes_of
  apart = refl

  marked : marked_b (image_of m h) ≡ true
  unfolding marked_b
  marked = rw apart

  version_is : version_in (image_of m h) ≡ version
  version_is = number_in (image_of m h) mark after-version 3 version apart refl (omega arith)

  used_is : h.used < 65536 → used_in (image_of m h) ≡ h.used
  unfolding bytes_of
  used_is = number_in (image_of m h) (mark ++ bytes_of 2 version) after-used 5 h.used apart refl

  first_is : h.first < 65536 → number_at 2 (image_of m h) 7 ≡ h.first
  unfolding bytes_of
  first_is = number_in (image_of m h) (mark ++ (bytes_of 2 version ++ bytes_of 2 h.used)) after_first 7 h.first apart refl

  last_is : h.last < 65536 → number_at 2 (image_of m h) 9 ≡ h.last
  unfolding bytes_of
  last_is = number_in (image_of m h) (mark ++ (bytes_of 2 version ++ (bytes_of 2 h.used ++ bytes_of 2 h.first))) body 9 h.last apart refl

  -- What the image says is what was saved.
  pub header-back : h.used < 65536 → h.first < 65536 → h.last < 65536 → header_in (image_of m h) ≡ h
  header-back a b c = λ i. header (used_is a i) (first_is b i) (last_is c i)

  pub words_back : h.used < 65536 → h.used * width ≤ length m → Fit 4 m → words_in (image_of m h) ≡ take (width * h.used) m
  unfolding image_of
  words_back a fits f =
      let xs = take (width * h.used) m in
      let few : length xs ≡ width * h.used = length-take-le (width * h.used) m (omega arith) in
      ap (λ (n : ℕ). numbers_at 4 (width * n) (image_of m h) prefix) (used_is a)
      ∙ ap (λ (n : ℕ). numbers_at 4 n (image_of m h) prefix) (sym few)
      ∙ ap₂ (numbers_at 4 (length xs)) (ap (λ (t : List ℕ). prefix_of h ++ t) (sym (append-nil body))) (sym (length-prefix_of h))
      ∙ run-written 4 xs (prefix_of h) [] (fit-take 4 (width * h.used) m f)

-- The ends of a free chain are slots in use, or none.
pub ends-within : (m : List ℕ) (h : Header) → Sound m h → (h.first ≤ h.used) × (h.last ≤ h.used)
ends-within m h S = (
  rw S.free.begins (one (head_in S.free.slots)),
  rw S.free.ends (one (last_in 0 S.free.slots)),
)
  where
    one : {x : ℕ} → (x ≡ 0) ⊎ In x S.free.slots → x ≤ h.used
    one (inl e) = omega arith
    one {x} (inr t) = (all_in (λ s. (1 ≤ s) × (s ≤ h.used) × FreeSlot m s) S.free.slots S.free.within x t).1

-- The image of ready memory, loaded into any memory that has room for it: its words are the first, those behind stay, the header is the same.
module _ (m : List ℕ) (h : Header) (R : Ready m h) (frame : h.used ≤ capacity_of (length m)) (f : Fit 4 m) where
  abbrev xs : List ℕ
  xs = take (width * h.used) m

  fits : (h.used ≤ most) × (h.used * width ≤ length m)
  fits = capacity-fits (length m) h.used frame

  same-header : header_in (image_of m h) ≡ h
  same-header =
      let u = fits.0 in
      let e = ends-within m h R.sound in
      let a = e.0 in let b = e.1 in
      header-back m h (omega arith) (omega arith) (omega arith)

  same-words : words_in (image_of m h) ≡ xs
  same-words = let u = fits.0 in words_back m h (omega arith) fits.1 f

  ready_words : Ready xs h
  ready_words = ready-same m xs h fits.0 (taken-slots h.used m fits.1) R

  pub load-back : (words scratch : List ℕ) → h.used ≤ capacity_of (length words) → 2 * h.used ≤ length scratch
      → loaded (image_of m h) words scratch ≡ (laid (take (width * h.used) m) words, zeroed (2 * h.used) scratch, answer h DONE 0)
  load-back words scratch room scratch-room =
      let same : used_in (image_of m h) ≡ h.used = ap (λ (g : Header). g.used) same-header in
      let size = length-image_of m h fits.1 in
      let passes : Passed (image_of m h) (length words) (length scratch) = record {
        long = omega arith;
        marked = marked m h;
        one = version_is m h;
        whole = size ∙ ap image_length (sym same);
        frame = rw same room;
        room = rw same scratch-room;
      } in
      let accepted = (load_accepts (image_of m h) words scratch).1 (passes, rw (same-words, same-header) ready_words.sound) in
      let as_is : unlinked (words_in (image_of m h)) (header_in (image_of m h)) ≡ (xs, h) = ap₂ unlinked same-words same-header ∙ unlinked-ready xs h ((examined-ready xs h).1 ready_words) in
      loaded_is (image_of m h) words scratch accepted
      ∙ ap₂ (λ (r : List ℕ × Header) (n : ℕ). (laid r.0 words, zeroed (2 * n) scratch, answer r.1 DONE 0)) as_is same

  -- Loaded over the memory that was saved, that memory.
  pub load_same : (scratch : List ℕ) → 2 * h.used ≤ length scratch → loaded (image_of m h) m scratch ≡ (m, zeroed (2 * h.used) scratch, answer h DONE 0)
  load_same scratch scratch-room =
      let a = fits.1 in
      load-back m scratch frame scratch-room
      ∙ ap (λ (t : List ℕ). (t, zeroed (2 * h.used) scratch, answer h DONE 0)) (laid-back (width * h.used) m (omega arith))

  -- Loaded anywhere, the same tree.
  pub load_tree : (words : List ℕ) (F : Forest) → Forested m h F → Forested (laid (take (width * h.used) m) words) h F
  load_tree words F H =
      let a = fits.1 in
      let few : length xs ≡ width * h.used = length-take-le (width * h.used) m (omega arith) in
      forest-same xs (laid xs words) h F (slots-back h.used (laid xs words) xs (laid-slots h.used xs words (omega arith)))
      (forest-same m xs h F (taken-slots h.used m a) H)

-- The two calls one after the other: whatever save wrote, cut at its answer, loads as the memory that was saved.
pub save-load : (m : List ℕ) (h : Header) (scratch bytes words scratch' : List ℕ) → Fit 4 m → (saved m h scratch bytes).2.number ≡ DONE
    → h.used ≤ capacity_of (length words) → 2 * h.used ≤ length scratch'
    → loaded (take (saved m h scratch bytes).2.result (saved m h scratch bytes).1) words scratch' ≡ (laid (take (width * h.used) m) words, zeroed (2 * h.used) scratch', answer h DONE 0)
save-load m h scratch bytes words scratch' f d room scratch-room =
    let w = (save-done m h scratch bytes).0 d in
    ap (λ (b : List ℕ). loaded b words scratch') (save_image m h scratch bytes w) ∙ load-back m h w.ready w.frame f words scratch' room scratch-room
