-- The batch put together: the answers, PART after them, and the two ways out.
-- From the definitions, with the law of the loop.
use Rattle.std.specs.Prelude.{◌≡◌, refl, Bool, ℕ, ◌+◌, ◌-◌, ◌*◌, ◌/◌, ◌%◌, ◌<◌, ◌≤◌, eqb, ltb, set, take, drop}
use Rattle.std.proofs.Common.{sym, ◌∙◌, arith, take-append-drop, length-append, length-drop, take_at, drop_at, drop-drop, lt-ltb, le-ltb}
use Rattle.std.proofs.Math.Path.{ap}
use Rattle.std.proofs.Math.Bool.{true, false, cond}
use mathlib.Core.List.{List, [], ◌∷◌, ◌++◌, append-nil}
use Rattle.std.proofs.Math.ListN.{length}
use Rattle.link.specs.declared.header.Header.{Header}
use Rattle.rules.specs.Answers.{DONE, ROOM, PART, answer}
use Rattle.walk.specs.Written.{written}
use Rattle.batch.specs.Trace.{size, answers_of}
use Rattle.batch.specs.Batch.{After, performed, part_of, batched}
use Rattle.batch.specs.Performing.{Performs}
use Rattle.batch.specs.PerformLaws.{answers-length, put-take, put-drop}
use Rattle.batch.specs.declared.perform.Performed.{Performed}

unfoldable pub with_part : ℕ → ℕ → List ℕ → List ℕ
with_part n count list = cond (ltb n count) (set (set list (2 * n) PART) (2 * n + 1) 0) list

pub answers-bound : (n : ℕ) → (n / size ≤ answers_of n) × (answers_of n ≤ n / size + 1)
unfolding answers_of
answers-bound n = by (eqb (n % size) 0)
  where
    by : (b : Bool) → (n / size ≤ cond b (n / size) (n / size + 1)) × (cond b (n / size) (n / size + 1) ≤ n / size + 1)
    by true = (omega arith, omega arith)
    by false = (omega arith, omega arith)

-- two words written after a list that is written
written-more : (xs list : List ℕ) (n x y : ℕ) → length xs ≡ 2 * n → 2 * n + 2 ≤ length list
    → set (set (written xs list) (2 * n) x) (2 * n + 1) y ≡ written (xs ++ (x ∷ y ∷ [])) list
unfolding written
written-more xs list n x y e room =
    let l : List ℕ = xs ++ drop (length xs) list in
    let size' : length l ≡ length xs + length (drop (length xs) list) = length-append xs (drop (length xs) list) in
    let rest : length (drop (length xs) list) ≡ length list - length xs = length-drop (length xs) list in
    let fits : 2 * n + 2 ≤ length l = omega arith in
    let t : take (2 * n) l ≡ xs = take_at xs (drop (length xs) list) (2 * n) e in
    let two : length (xs ++ (x ∷ y ∷ [])) ≡ 2 * (n + 1) = length-append xs (x ∷ y ∷ []) ∙ omega arith in
    let d : drop (2 * (n + 1)) l ≡ drop (2 * (n + 1)) list = dropped in
    sym (take-append-drop (2 * (n + 1)) (set (set l (2 * n) x) (2 * n + 1) y))
    ∙ ap (λ (z : List ℕ). z ++ drop (2 * (n + 1)) (set (set l (2 * n) x) (2 * n + 1) y)) (put-take l n x y fits ∙ ap (λ (z : List ℕ). z ++ (x ∷ y ∷ [])) t)
    ∙ ap (λ (z : List ℕ). (xs ++ (x ∷ y ∷ [])) ++ z) (put-drop l n x y fits ∙ d ∙ ap (λ (k : ℕ). drop k list) (sym two))
  where
    dropped : drop (2 * (n + 1)) (xs ++ drop (length xs) list) ≡ drop (2 * (n + 1)) list
    dropped =
        let k : 2 * n + 2 ≡ 2 * (n + 1) = omega arith in
        let a : drop (2 * n) (xs ++ drop (length xs) list) ≡ drop (2 * n) list
        = drop_at xs (drop (length xs) list) (2 * n) e ∙ ap (λ (j : ℕ). drop j list) e in
        rw (sym k) (sym (drop-drop 2 (2 * n) (xs ++ drop (length xs) list)) ∙ ap (drop 2) a ∙ drop-drop 2 (2 * n) list)

module _ (m : List ℕ) (h : Header) (s trace list : List ℕ) where
  abbrev n : ℕ
  n = length trace / size

  abbrev done : After
  done = performed n trace 0 m h s

  part-written : 2 * answers_of (length trace) ≤ length list
      → with_part n (answers_of (length trace)) (written done.answers list) ≡ written (done.answers ++ part_of (length trace)) list
  unfolding with_part answers_of
  part-written = by (eqb (length trace % size) 0)
    where
      by : (b : Bool) → 2 * cond b n (n + 1) ≤ length list
          → cond (ltb n (cond b n (n + 1))) (set (set (written done.answers list) (2 * n) PART) (2 * n + 1) 0) (written done.answers list)
          ≡ written (done.answers ++ cond b [] (PART ∷ 0 ∷ [])) list
      by true room = simp (le-ltb n n (omega arith)) (ap (λ (z : List ℕ). written z list) (sym (append-nil done.answers)))
      by false room =
          simp (lt-ltb n (n + 1) (omega arith))
          (written-more done.answers list n PART 0 (answers-length n trace 0 m h s) (omega arith))

  pub batched-room : length list < 2 * answers_of (length trace) → (m, s, list, answer h ROOM 0) ≡ batched m h s trace list
  unfolding batched
  batched-room l = simp (lt-ltb (length list) (2 * answers_of (length trace)) l)

  pub batched-done : {m' s' l' l'' : List ℕ} {p : Performed} → 2 * answers_of (length trace) ≤ length list
      → Performs (performed n trace 0 m h s) list m' s' l' p → l'' ≡ with_part n (answers_of (length trace)) l'
      → (m', s', l'', answer p.header DONE (answers_of (length trace) % 4294967296)) ≡ batched m h s trace list
  unfolding batched
  batched-done {m'} {s'} {l'} {l''} {p} room P e =
      let w : l'' ≡ written (done.answers ++ part_of (length trace)) list = e ∙ ap (with_part n (answers_of (length trace))) P.answers ∙ part-written room in
      simp (le-ltb (length list) (2 * answers_of (length trace)) room) (rw (P.words, P.scratch, P.header, w) refl)
