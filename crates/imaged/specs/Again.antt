-- An image loaded, and what was loaded saved: the same bytes exactly when the image was ready.
-- Excluded: a version or a mark that is not written back; a spent slot on the chain that comes through a load.
use Rattle.std.specs.Prelude.{◌≡◌, ◌↔◌, Bool, true, false, cond, ℕ, zero, suc, ◌+◌, ◌*◌, ◌^◌, ◌≤◌, ◌<◌, eqb, ltb, length, get_or, set, take, drop}
use Rattle.std.proofs.Common.{sym, ◌∙◌, subst, arith, take-append-drop, length-append, length-drop, take_at, take_all, take-add, length-take-le, drop-drop, eqb-true}
use Rattle.std.proofs.Math.Path.{ap, ap₂}
use mathlib.Core.List.{List, [], ◌∷◌, ◌++◌}
use Rattle.link.specs.Ids.{stamp_of}
use Rattle.link.specs.Words.{width, STAMP, NUMBER, place, word, set_word}
use Rattle.link.specs.declared.header.Header.{Header}
use Rattle.little_endian.specs.Bytes.{bytes_of, number_of, number_at, bytes_of_each, numbers_at}
use Rattle.little_endian.specs.ByteLaws.{Bytes, number-most}
use Rattle.little_endian.specs.RoundTrip.{Fit, bytes_take, bytes_drop, written_read, written-run}
use Rattle.rules.specs.Answers.{DONE, header}
use Rattle.rules.specs.declared.answer.Answer.{Answer}
use Rattle.rules.specs.Sound.{Ready}
use Rattle.examine.specs.TestLaws.{both_true}
use Rattle.exact.specs.Exact.{examined-ready}
use Rattle.sound.specs.GuardLaws.{capacity-fits}
use Rattle.image.specs.Image.{mark, prefix, image_length, prefix_of, image_of, marked_b, used_in, header_in, words_in, laid}
use Rattle.image.specs.ImageLaws.{laid-over}
use Rattle.image.specs.Unlink.{bypassed, unlink_run, unlinked}
use Rattle.image.specs.LoadLaws.{Passed}
use Rattle.image.specs.LoadCalls.{unlinked-ready}
use Rattle.image.specs.Load.{loaded}
use Rattle.imaged.specs.Accepted.{load_accepts, loaded_is, load-ready, sound_image, small, size, size_after}
use Rattle.image.specs.Save.{saved}
use Rattle.imaged.specs.Within.{Writes, save-done, save_image}
use Rattle.imaged.specs.Unlinked.{same-used, makes-ready}
use Rattle.imaged.specs.Back.{ends-within, header-back, words_back}

-- ---- words of an image fit 32 bits, and so do those that unlinking writes

fit-set : (k : ℕ) (xs : List ℕ) (i v : ℕ) → Fit k xs → v < 256 ^ k → Fit k (set xs i v)
fit-set k [] i v f l = tt
fit-set k (x ∷ xs) zero v f l = (l, f.1)
fit-set k (x ∷ xs) (suc i) v f l = (f.0, fit-set k xs i v f.1 l)

fit_at : (k : ℕ) (xs : List ℕ) (i : ℕ) → Fit k xs → 0 < 256 ^ k → get_or xs i 0 < 256 ^ k
fit_at k [] i f z = z
fit_at k (x ∷ xs) zero f z = f.0
fit_at k (x ∷ xs) (suc i) f z = fit_at k xs i f.1 z

fit-number : (bytes : List ℕ) (at n : ℕ) → Bytes bytes → at + 4 * n ≤ length bytes → Fit 4 (numbers_at 4 n bytes at)
unfolding numbers_at number_at
fit-number bytes at zero b room = tt
fit-number bytes at (suc n) b room =
    let four : length (take 4 (drop at bytes)) ≡ 4 = length-take-le 4 (drop at bytes) (rw length-drop (omega arith)) in
    let most : number_of (take 4 (drop at bytes)) < 256 ^ length (take 4 (drop at bytes)) = number-most (take 4 (drop at bytes)) (bytes_take 4 (drop at bytes) (bytes_drop at bytes b)) in
    (rw four at most, fit-number bytes (at + 4) n b (omega arith))

fit-bypassed : (m : List ℕ) (first before x next : ℕ) → Fit 4 m → next < 256 ^ 4 → Fit 4 (bypassed m first before x next).0
unfolding bypassed set_word
fit-bypassed m first before x next f l = by (eqb before 0)
  where
    by : (t : Bool) → Fit 4 (cond {A = List ℕ × ℕ} t (set m (place x NUMBER) 0, next) (set (set m (place before NUMBER) next) (place x NUMBER) 0, first)).0
    by true = fit-set 4 m (place x NUMBER) 0 f (omega arith)
    by false = fit-set 4 (set m (place before NUMBER) next) (place x NUMBER) 0 (fit-set 4 m (place before NUMBER) next f l) (omega arith)

fit-unlinked : (n : ℕ) (m : List ℕ) (used first before x : ℕ) → Fit 4 m → Fit 4 (unlink_run n m used first before x).0
unfolding unlink_run word
fit-unlinked zero m used first before x f = f
fit-unlinked (suc n) m used first before x f =
    by (eqb x 0) (ltb used x) (eqb (stamp_of (word m x STAMP)) 32768)
    (fit-unlinked n B.0 used B.1 before (word m x NUMBER) (fit-bypassed m first before x (word m x NUMBER) f (fit_at 4 m (place x NUMBER) f (omega arith))))
    (fit-unlinked n m used first x (word m x NUMBER) f)
  where
    B : List ℕ × ℕ
    B = bypassed m first before x (word m x NUMBER)

    by : (a u t : Bool) → Fit 4 (unlink_run n B.0 used B.1 before (word m x NUMBER)).0 → Fit 4 (unlink_run n m used first x (word m x NUMBER)).0
        → Fit 4 (cond {A = List ℕ × Header} a (m, header used first before)
        (cond u (m, header used first before) (cond t (unlink_run n B.0 used B.1 before (word m x NUMBER)) (unlink_run n m used first x (word m x NUMBER))))).0
    by true u t p q = f
    by false true t p q = f
    by false false true p q = p
    by false false false p q = q

-- ---- what an image says, written again, is the image

marked_is : (bytes : List ℕ) → 3 ≤ length bytes → marked_b bytes ≡ true → take 3 bytes ≡ mark
unfolding marked_b
marked_is [] l e = absurd (omega arith)
marked_is (a ∷ []) l e = absurd (omega arith)
marked_is (a ∷ b ∷ []) l e = absurd (omega arith)
marked_is (a ∷ b ∷ c ∷ bs) l e =
    let v = (both_true (eqb a 76) _).0 e in
    let w = (both_true (eqb b 70) _).0 v.1 in
    cc (eqb-true a 76 v.0, eqb-true b 70 w.0, eqb-true c 84 w.1)

-- two parts, one behind the other
join : (i k j : ℕ) (l : List ℕ) → take k (drop i l) ++ take j (drop (i + k) l) ≡ take (k + j) (drop i l)
join i k j l = ap (λ (t : List ℕ). take k (drop i l) ++ take j t) (sym (drop-drop k i l)) ∙ sym (take-add k j (drop i l))

module _ (bytes : List ℕ) (b : Bytes bytes) (lent scratch : ℕ) (p : Passed bytes lent scratch) where
  prefix-again : prefix_of (header_in bytes) ≡ take prefix bytes
  unfolding prefix_of
  prefix-again =
      let long = p.long in
      ap₂ ◌++◌ (sym (marked_is bytes (omega arith) p.marked))
      (ap₂ ◌++◌ (ap (bytes_of 2) (sym p.one) ∙ written_read 2 bytes 3 b (omega arith))
      (ap₂ ◌++◌ (written_read 2 bytes 5 b (omega arith))
      (ap₂ ◌++◌ (written_read 2 bytes 7 b (omega arith)) (written_read 2 bytes 9 b (omega arith)) ∙ join 7 2 2 bytes) ∙ join 5 2 4 bytes) ∙ join 3 2 6 bytes)
      ∙ join 0 3 8 bytes

  words-again : bytes_of_each 4 (words_in bytes) ≡ drop prefix bytes
  words-again =
      let whole = p.whole in
      written-run 4 (width * used_in bytes) bytes prefix b (omega arith)
      ∙ take_all (4 * (width * used_in bytes)) (drop prefix bytes) (rw length-drop (omega arith))

  image-again : prefix_of (header_in bytes) ++ bytes_of_each 4 (words_in bytes) ≡ bytes
  image-again = ap₂ ◌++◌ prefix-again words-again ∙ take-append-drop prefix bytes

-- ---- the two calls

-- Memory behind the slots in use is not in the image.
image-laid : (xs words : List ℕ) (h : Header) → length xs ≡ width * h.used → image_of (laid xs words) h ≡ prefix_of h ++ bytes_of_each 4 xs
unfolding image_of laid
image-laid xs words h size = ap (λ (t : List ℕ). prefix_of h ++ bytes_of_each 4 t) (take_at xs (drop (length xs) words) (width * h.used) size)

module _ (bytes words scratch : List ℕ) (b : Bytes bytes) (accepted : (loaded bytes words scratch).2.number ≡ DONE) where
  abbrev ws : List ℕ
  ws = words_in bytes

  abbrev g : Header
  g = header_in bytes

  abbrev xs : List ℕ
  xs = (unlinked ws g).0

  abbrev h : Header
  h = (unlinked ws g).1

  p : Passed bytes (length words) (length scratch)
  p = ((load_accepts bytes words scratch).0 accepted).0

  used : h.used ≡ used_in bytes
  used = same-used ws g

  size-xs : length xs ≡ width * h.used
  size-xs = size_after bytes words scratch accepted ∙ ap (λ (n : ℕ). width * n) (sym used)

  fit-xs : Fit 4 xs
  unfolding unlinked
  fit-xs = let whole = p.whole in fit-unlinked _ ws _ _ _ _ (fit-number bytes prefix (width * used_in bytes) b (omega arith))

  ready-xs : Ready xs h
  ready-xs = makes-ready ws g (sound_image bytes words scratch accepted) (let z = size bytes words scratch accepted in omega arith) (small bytes words scratch accepted)

  written-again : image_of (loaded bytes words scratch).0 (loaded bytes words scratch).2.header ≡ prefix_of h ++ bytes_of_each 4 xs
  written-again =
      ap (λ (r : List ℕ × List ℕ × Answer). image_of r.0 r.2.header) (loaded_is bytes words scratch accepted) ∙ image-laid xs words h size-xs

  image-alone : image_of xs h ≡ prefix_of h ++ bytes_of_each 4 xs
  unfolding image_of
  image-alone = let z = size-xs in ap (λ (t : List ℕ). prefix_of h ++ bytes_of_each 4 t) (take_all (width * h.used) xs (omega arith))

  -- The image of what was loaded is the image that was loaded, exactly when that was ready.
  pub image-same : (image_of (loaded bytes words scratch).0 (loaded bytes words scratch).2.header ≡ bytes) ↔ Ready (words_in bytes) (header_in bytes)
  image-same = (to, from)
    where
      from : Ready ws g → image_of (loaded bytes words scratch).0 (loaded bytes words scratch).2.header ≡ bytes
      from R =
          written-again
          ∙ ap (λ (r : List ℕ × Header). prefix_of r.1 ++ bytes_of_each 4 r.0) (unlinked-ready ws g ((examined-ready ws g).1 R))
          ∙ image-again bytes b (length words) (length scratch) p

      to : image_of (loaded bytes words scratch).0 (loaded bytes words scratch).2.header ≡ bytes → Ready ws g
      to e =
          let whole : image_of xs h ≡ bytes = image-alone ∙ sym written-again ∙ e in
          let u = used in let s = small bytes words scratch accepted in let z = size-xs in
          let ends = ends-within xs h ready-xs.sound in let i = ends.0 in let j = ends.1 in
          let same-g : g ≡ h = ap header_in (sym whole) ∙ header-back xs h (omega arith) (omega arith) (omega arith) in
          let same-ws : ws ≡ xs = ap words_in (sym whole) ∙ words_back xs h (omega arith) (omega arith) fit-xs ∙ take_all (width * h.used) xs (omega arith) in
          rw (same-ws, same-g) ready-xs

  -- Save has all it needs of what was loaded,
  pub load_saves : (scratch' out : List ℕ) → 2 * used_in bytes ≤ length scratch' → image_length (used_in bytes) ≤ length out
      → Writes (loaded bytes words scratch).0 (loaded bytes words scratch).2.header scratch' out
  load_saves scratch' out room room' =
      subst (λ (r : List ℕ × List ℕ × Answer). Writes r.0 r.2.header scratch' out) (sym (loaded_is bytes words scratch accepted))
      (record { frame = rw (used, lent) p.frame; scratch-room = rw used room; ready = ready-there; room = rw used room' })
    where
      lent : length (laid xs words) ≡ length words
      lent =
          let z = size_after bytes words scratch accepted in
          let s = (capacity-fits (length words) (used_in bytes) p.frame).1 in
          ap length (laid-over (width * used_in bytes) xs words z) ∙ length-append xs (drop (width * used_in bytes) words) ∙ simp (length-drop, z) (omega arith)

      ready-there : Ready (laid xs words) h
      ready-there = subst (λ (r : List ℕ × List ℕ × Answer). Ready r.0 r.2.header) (loaded_is bytes words scratch accepted) (load-ready bytes words scratch accepted)

  -- and the bytes it writes, cut at its answer, are those that were loaded exactly when they were an image of ready memory.
  pub load-save : (scratch' out : List ℕ) → (saved (loaded bytes words scratch).0 (loaded bytes words scratch).2.header scratch' out).2.number ≡ DONE
      → (take (saved (loaded bytes words scratch).0 (loaded bytes words scratch).2.header scratch' out).2.result
      (saved (loaded bytes words scratch).0 (loaded bytes words scratch).2.header scratch' out).1 ≡ bytes) ↔ Ready (words_in bytes) (header_in bytes)
  load-save scratch' out d =
      let m = (loaded bytes words scratch).0 in
      let k = (loaded bytes words scratch).2.header in
      let w = (save-done m k scratch' out).0 d in
      rw (save_image m k scratch' out w) image-same
