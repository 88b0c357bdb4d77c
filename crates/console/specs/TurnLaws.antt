-- Bytes moved to the front, one after another; and a turn put together from its parts.
-- From the definitions, with the laws of the batch and of lines.
use Rattle.std.specs.Prelude.{◌≡◌, refl, get_or, set, take, drop}
use Rattle.std.proofs.Common.{sym, ◌∙◌, length-set, length-drop, take-suc, take-suc-set, take_at, drop-set-lt, drop-drop, get_or-drop}
use Rattle.std.proofs.Math.Path.{ap}
use mathlib.Core.List.{List, [], ◌∷◌, ◌++◌}
use Prim.Native.Nat.{ℕ, suc, ◌+◌, ◌-◌, ◌*◌, ◌/◌, ◌%◌, ◌<◌, ◌≤◌}
use Rattle.std.specs.List.{copy_within}
use Rattle.std.proofs.Math.Seq.{paste}
use Rattle.std.proofs.lemmas.List.Edits.{take-paste}
use native.Mathlib.Omega.{arith}
use Rattle.std.proofs.Math.ListN.{length}
use Rattle.std.proofs.lemmas.List.Edits.{sets, sets-eq}
use Rattle.std.proofs.Math.Seq.{length-sets}
use Rattle.link.specs.declared.header.Header.{Header}
use Rattle.walk.specs.Written.{written}
use Rattle.batch.specs.Trace.{size}
use Rattle.batch.specs.Batch.{After, performed}
use Rattle.batch.specs.Performing.{Performs}
use Rattle.batch.specs.PerformLaws.{answers-length}
use Rattle.batch.specs.declared.perform.Performed.{Performed}
use Rattle.lines.specs.Lines.{lines_of}
use Rattle.lines.specs.LineLaws.{lines-bound, lines-prefix}
use Rattle.console.specs.Turns.{Turns}

-- Where the loop stands: i bytes are moved, and those from i on are as they were.
pub record Fronting (from n : ℕ) (bytes₀ bytes : List ℕ) (i : ℕ) : Type 0 where
  pub upto : i ≤ n
  pub places : length bytes ≡ length bytes₀
  pub front : take i bytes ≡ take i (drop from bytes₀)
  pub behind : drop i bytes ≡ drop i bytes₀

pub fronting-begin : (from n : ℕ) (bytes : List ℕ) → Fronting from n bytes bytes 0
fronting-begin from n bytes = record { upto = omega arith; places = refl; front = refl; behind = refl }

pub fronting-more : (from n : ℕ) (bytes₀ bytes : List ℕ) (i : ℕ) → from + n ≤ length bytes₀ → Fronting from n bytes₀ bytes i → i < n
    → Fronting from n bytes₀ (set bytes i (get_or bytes (from + i) 0)) (i + 1)
fronting-more from n bytes₀ bytes i room F l =
    let p = F.places in
    let e : i + 1 ≡ suc i = omega arith in
    let c : i + from ≡ from + i = omega arith in
    let s = length-drop from bytes₀ in
    let same : get_or bytes (from + i) 0 ≡ get_or (drop from bytes₀) i 0
    = ap (λ (k : ℕ). get_or bytes k 0) (sym c) ∙ sym (get_or-drop i bytes from 0) ∙ ap (λ (b : List ℕ). get_or b from 0) F.behind ∙ get_or-drop i bytes₀ from 0
    ∙ ap (λ (k : ℕ). get_or bytes₀ k 0) c ∙ sym (get_or-drop from bytes₀ i 0) in
    record {
      upto = omega arith;
      places = length-set bytes i (get_or bytes (from + i) 0) ∙ p;
      front = rw e (take-suc-set bytes i (get_or bytes (from + i) 0) (omega arith) ∙ ap (λ (b : List ℕ). b ++ (get_or bytes (from + i) 0 ∷ [])) F.front
          ∙ ap (λ (x : ℕ). take i (drop from bytes₀) ++ (x ∷ [])) same ∙ sym (take-suc (drop from bytes₀) i 0 (omega arith)));
      behind = drop-set-lt (i + 1) bytes i (get_or bytes (from + i) 0) (omega arith) ∙ sym (drop-drop 1 i bytes) ∙ ap (drop 1) F.behind ∙ drop-drop 1 i bytes₀;
    }

pub fronting-end : (from n : ℕ) (bytes₀ bytes : List ℕ) (i : ℕ) → Fronting from n bytes₀ bytes i → n ≤ i → take n bytes ≡ take n (drop from bytes₀)
fronting-end from n bytes₀ bytes i F l =
    let u = F.upto in
    let e : n ≡ i = omega arith in
    rw e F.front

-- the bytes of a cut-off command, moved to the front
pub front_copied : (total : ℕ) (bytes : List ℕ) → total ≤ length bytes
    → take (total % size) (copy_within bytes (total / size * size) total 0) ≡ take (total % size) (drop (total / size * size) bytes)
front_copied total bytes h =
    let e : total - total / size * size ≡ total % size = omega arith in
    let l = length-drop (total / size * size) bytes in
    let at : 0 + total % size ≡ total % size = omega arith in
    rw e (ap (λ (k : ℕ). take k (paste bytes 0 (drop (total / size * size) bytes) (total % size))) (sym at)
    ∙ take-paste bytes 0 (drop (total / size * size) bytes) (total % size) (omega arith) (omega arith))

-- text stored from the first byte on is read back
pub text-front : (xs out : List ℕ) → length xs ≤ length out → take (length xs) (sets out 0 xs) ≡ xs
text-front xs out h =
    let e : 0 + length xs ≡ length xs = omega arith in
    ap (take (length xs)) (sets-eq xs out 0 (rw e h)) ∙ take_at xs (drop (0 + length xs) out) (length xs) refl

module _ (total : ℕ) (bytes : List ℕ) (m : List ℕ) (h : Header) (s list out : List ℕ) (room : 22 * (total / size) ≤ length out) where
  abbrev done : After
  done = performed (total / size) bytes 0 m h s

  pub turns : {m' s' list' out' bytes' : List ℕ} {p : Performed} {text : ℕ} → Performs done list m' s' list' p
      → ◌≡◌ {A = List ℕ × ℕ} (out', text) (sets out 0 (lines_of (total / size) list' 0), length (lines_of (total / size) list' 0))
      → take (total % size) bytes' ≡ take (total % size) (drop (total / size * size) bytes)
      → Turns total bytes done m' s' bytes' out' (record { header = p.header; known = p.known; text = text; left = total % size })
  unfolding written
  turns {list' = list'} {out' = out'} {text = text} P e f = record {
    words = P.words;
    scratch = P.scratch;
    header = P.header;
    fits = within;
    text = said;
    left = refl;
    rest = f;
    knows = P.knows;
  }
    where
      within : text ≤ length out'
      within =
          let o : length out' ≡ length out = ap (λ (q : List ℕ × ℕ). length q.0) e ∙ length-sets out 0 (lines_of (total / size) list' 0) in
          let t : text ≡ length (lines_of (total / size) list' 0) = ap (λ (q : List ℕ × ℕ). q.1) e in
          let b = lines-bound (total / size) list' 0 in
          omega arith

      said : take text out' ≡ lines_of (total / size) done.answers 0
      said =
          let a = answers-length (total / size) bytes 0 m h s in
          let o : out' ≡ sets out 0 (lines_of (total / size) list' 0) = ap (λ (q : List ℕ × ℕ). q.0) e in
          let t : text ≡ length (lines_of (total / size) list' 0) = ap (λ (q : List ℕ × ℕ). q.1) e in
          let b = lines-bound (total / size) list' 0 in
          rw (o, t) (text-front (lines_of (total / size) list' 0) out (omega arith))
          ∙ ap (λ (l : List ℕ). lines_of (total / size) l 0) P.answers
          ∙ lines-prefix (total / size) done.answers (drop (length done.answers) list) 0 (omega arith)
