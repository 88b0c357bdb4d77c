-- Load's answers, put together from what its calls hand back: the words read lie over the destination, what is found of them is what is
-- found of the image alone, and what is made of them there is what is made of the image alone.
use Rattle.std.specs.Prelude.{◌≡◌, Bool, not, length}
use Rattle.std.proofs.Math.Path.{sym, ap}
use Rattle.std.proofs.Common.{ap₂, ◌∙◌, arith}
use Rattle.std.proofs.Math.Bool.{true, false, cond}
use Rattle.std.proofs.lemmas.Bool.{false≢true}
use mathlib.Core.List.{List, ◌++◌}
use Prim.Native.Nat.{ℕ, ◌+◌, ◌*◌, ◌≤◌}
use Rattle.std.proofs.Math.ListN.{drop}
use Rattle.std.proofs.lemmas.List.Edits.{sets}
use borrow.Author.Tests.{ne_eqb}
use Rattle.link.specs.Words.{width, most}
use Rattle.link.specs.declared.header.Header.{Header}
use Rattle.little_endian.specs.Bytes.{numbers_at}
use Rattle.little_endian.specs.RunLaws.{length-numbers_at}
use Rattle.rules.specs.Answers.{DONE, INVALID, answer}
use Rattle.rules.specs.declared.answer.Answer.{Answer}
use Rattle.examine.specs.Scratch.{zeroed}
use Rattle.examine.specs.Chain.{chain_run}
use Rattle.examine.specs.Verdicts.{sound_b, ready_b}
use Rattle.examine.specs.Examination.{links_ok, examined}
use Rattle.examine.specs.declared.chain.Verdict.{Verdict}
use Rattle.examine.specs.declared.chain.Verdict.TheVariants.{Unsound, Spent, Ready}
use Rattle.sound.specs.GuardLaws.{capacity-fits}
use Rattle.image.specs.Image.{prefix, image_length, used_in, header_in, words_in, laid}
use Rattle.image.specs.ImageLaws.{sets-laid, laid-over, zeroed-laid, word-append}
use Rattle.image.specs.Unlink.{unlinked}
use Rattle.image.specs.UnlinkLaws.{length-unlink_run}
use Rattle.image.specs.UnlinkAppend.{unlink-append}
use Rattle.image.specs.UnlinkReady.{unlink-ready}
use Rattle.image.specs.Same.{examined-same}
use Rattle.image.specs.Load.{load_no_with, load_no, refused_load, loaded, settled}
use Rattle.image.specs.LoadLaws.{Passed, passes, passed, refuses}

module _ (m : List ℕ) (h : Header) where
  pub settled_unsound : {v : Verdict} {w : List ℕ} {r : Answer} → v ≡ Unsound → w ≡ zeroed (width * h.used) m → r ≡ refused_load INVALID → (w, r) ≡ settled v m h
  settled_unsound e f g = rw (e, f, g)

  pub settled-spent : {v : Verdict} {w : List ℕ} {g : Header} → v ≡ Spent → (w, g) ≡ unlinked m h → (w, answer g DONE 0) ≡ settled v m h
  settled-spent e f = rw e (ap (λ (p : List ℕ × Header). (p.0, answer p.1 DONE 0)) f)

  pub settled-ready : {v : Verdict} → v ≡ Ready → (m, answer h DONE 0) ≡ settled v m h
  settled-ready e = rw e

  -- Ready memory has nothing to unlink.
  pub unlinked-ready : ready_b (examined m h) ≡ true → unlinked m h ≡ (m, h)
  unfolding examined unlinked
  unlinked-ready e = by (links_ok m h.used) e
    where
      by : (b : Bool) → ready_b (cond b (chain_run (h.used + 1) m h.used h.last false 0 h.first) Unsound) ≡ true → unlinked m h ≡ (m, h)
      by true q = unlink-ready m h.used h.last (h.used + 1) h.first 0 h.first q
      by false q = absurd (false≢true q)

module _ (bytes words scratch : List ℕ) where
  -- What the tests before the words leave to the calls after them.
  pub admitted : DONE ≡ load_no_with false bytes (length words) (length scratch) → {h : Header} → h ≡ header_in bytes
      → (h.used ≤ most) × (h.used * width ≤ length words) × (image_length h.used ≤ length bytes) × (2 * h.used ≤ length scratch)
  admitted e {h} f =
      let w = passes bytes (length words) (length scratch) (sym e) in
      let s = capacity-fits (length words) (used_in bytes) w.frame in
      let whole = w.whole in
      let room = w.room in
      rw f (s.0, s.1, omega arith, room)

  -- A refusal before the words.
  pub loaded-refused : {number : ℕ} → number ≡ load_no_with false bytes (length words) (length scratch) → (number ≡ DONE → ⊥)
      → (words, scratch, refused_load number) ≡ loaded bytes words scratch
  unfolding loaded load_no
  loaded-refused {number} e n =
      let w = refuses bytes (length words) (length scratch) (not (sound_b (examined (words_in bytes) (header_in bytes)))) (λ q. n (e ∙ q)) in
      let same : load_no bytes (length words) (length scratch) ≡ number = w.0 ∙ sym e in
      rw (same, ne_eqb number DONE n, ne_eqb number INVALID (λ q. w.1 (sym e ∙ q)))

  module _ (w : Passed bytes (length words) (length scratch)) where
    abbrev used : ℕ
    used = used_in bytes

    pub small : (used_in bytes ≤ most) × (used_in bytes * width ≤ length words)
    small = capacity-fits (length words) used w.frame

    size : length (words_in bytes) ≡ width * used
    size = length-numbers_at 4 (width * used) bytes prefix

    over : sets words 0 (words_in bytes) ≡ words_in bytes ++ drop (width * used) words
    over = let s = small.1 in let z = size in sets-laid words (words_in bytes) (omega arith) ∙ laid-over (width * used) (words_in bytes) words size

    -- What is found of the words read is what is found of the image.
    same-verdict : examined (sets words 0 (words_in bytes)) (header_in bytes) ≡ examined (words_in bytes) (header_in bytes)
    same-verdict =
        let z = size in
        ap (λ (t : List ℕ). examined t (header_in bytes)) over
        ∙ examined-same (words_in bytes ++ drop (width * used) words) (words_in bytes) (header_in bytes) small.0
        (λ s k a b c. word-append (words_in bytes) (drop (width * used) words) used (omega arith) s k a b c)

    -- What is made of them is what is made of the image, laid over the destination.
    same-settled : (v : Verdict) → v ≡ examined (words_in bytes) (header_in bytes)
        → ((settled v (sets words 0 (words_in bytes)) (header_in bytes)).0, zeroed (2 * used) scratch, (settled v (sets words 0 (words_in bytes)) (header_in bytes)).1)
        ≡ loaded bytes words scratch
    unfolding loaded load_no unlinked
    same-settled Unsound e =
        let z = size in
        let number : load_no bytes (length words) (length scratch) ≡ INVALID = passed bytes (length words) (length scratch) _ w ∙ ap (λ (v : Verdict). cond (not (sound_b v)) INVALID DONE) (sym e) in
        let clear : zeroed (width * used) (sets words 0 (words_in bytes)) ≡ zeroed (width * used) words =
        ap (zeroed (width * used)) (let s = small.1 in sets-laid words (words_in bytes) (omega arith)) ∙ zeroed-laid (width * used) (words_in bytes) words size in
        rw (number, clear)
    same-settled Spent e =
        let z = size in
        let number : load_no bytes (length words) (length scratch) ≡ DONE = passed bytes (length words) (length scratch) _ w ∙ ap (λ (v : Verdict). cond (not (sound_b v)) INVALID DONE) (sym e) in
        let rest = drop (width * used) words in
        let first = (header_in bytes).first in
        let off : unlinked (sets words 0 (words_in bytes)) (header_in bytes) ≡ ((unlinked (words_in bytes) (header_in bytes)).0 ++ rest, (unlinked (words_in bytes) (header_in bytes)).1) =
        ap (λ (t : List ℕ). unlinked t (header_in bytes)) over ∙ unlink-append rest used (used + 1) (words_in bytes) first 0 first (omega arith) (omega arith) in
        let lies : (unlinked (words_in bytes) (header_in bytes)).0 ++ rest ≡ laid (unlinked (words_in bytes) (header_in bytes)).0 words =
        sym (laid-over (width * used) (unlinked (words_in bytes) (header_in bytes)).0 words (length-unlink_run (used + 1) (words_in bytes) used first 0 first ∙ size)) in
        rw number
        (ap (λ (p : List ℕ × Header). (p.0, zeroed (2 * used) scratch, answer p.1 DONE 0)) off
        ∙ ap (λ (t : List ℕ). (t, zeroed (2 * used) scratch, answer (unlinked (words_in bytes) (header_in bytes)).1 DONE 0)) lies)
    same-settled Ready e =
        let z = size in
        let s = small.1 in
        let number : load_no bytes (length words) (length scratch) ≡ DONE = passed bytes (length words) (length scratch) _ w ∙ ap (λ (v : Verdict). cond (not (sound_b v)) INVALID DONE) (sym e) in
        let as_is : unlinked (words_in bytes) (header_in bytes) ≡ (words_in bytes, header_in bytes) = unlinked-ready (words_in bytes) (header_in bytes) (ap ready_b (sym e)) in
        rw number
        (ap (λ (t : List ℕ). (t, zeroed (2 * used) scratch, answer (header_in bytes) DONE 0)) (sets-laid words (words_in bytes) (omega arith))
        ∙ sym (ap (λ (p : List ℕ × Header). (laid p.0 words, zeroed (2 * used) scratch, answer p.1 DONE 0)) as_is))

    pub loaded-read : {h : Header} {w₁ s₁ w₂ : List ℕ} {v : Verdict} {r : Answer} → h ≡ header_in bytes
        → w₁ ≡ sets words 0 (numbers_at 4 (width * h.used) bytes prefix) → s₁ ≡ zeroed (2 * h.used) scratch → v ≡ examined w₁ h → (w₂, r) ≡ settled v w₁ h
        → (w₂, s₁, r) ≡ loaded bytes words scratch
    loaded-read {h} {w₁} {s₁} {w₂} {v} {r} e f g k q =
        let read : w₁ ≡ sets words 0 (words_in bytes) = f ∙ ap (λ (x : Header). sets words 0 (numbers_at 4 (width * x.used) bytes prefix)) e in
        let clean : s₁ ≡ zeroed (2 * used) scratch = g ∙ ap (λ (x : Header). zeroed (2 * x.used) scratch) e in
        let found : v ≡ examined (words_in bytes) (header_in bytes) = k ∙ ap₂ examined read e ∙ same-verdict in
        ap₂ (λ (p : List ℕ × Answer) (s : List ℕ). (p.0, s, p.1)) (q ∙ ap₂ (settled v) read e) clean ∙ same-settled v found
