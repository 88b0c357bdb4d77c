-- A stack that lies in zeroed scratch, and what a turn leaves of it. From the laws of writing to a list.
use Rattle.std.specs.Prelude.{◌≡◌, refl, ◌≢◌, Bool, true, false, cond, ◌-◌, ℕ, zero, suc, ◌+◌, ◌*◌, ◌<◌, ◌≤◌, eqb, length, set, get_or, replicate, drop}
use Rattle.std.proofs.Math.Path.{sym, ap}
use Rattle.std.proofs.Common.{◌∙◌, arith, length-append, drop_at}
use mathlib.Core.List.{List, [], ◌∷◌, ◌++◌}
use Rattle.std.proofs.lemmas.List.{length-replicate, set_at, get_or_at, set-get_or}
use borrow.Author.Tests.{eqb-true, eq-eqb, ne_eqb}
use Rattle.link.specs.Words.{NEXT, FIRST, capacity_of, link}
use Rattle.link.specs.declared.header.Header.{Header}
use Rattle.examine.specs.Scratch.{zeroed}
use Rattle.sound.specs.Guard.{scratch_after}
use Rattle.sound.specs.GuardLaws.{scratch-fits}
use Rattle.preorder.specs.Stack.{turned_to, went_down, went_on, turned}

-- Zeros, then the stack with its top first, down to the bottom, then a zero and what is not the stack's concern.
pub record Laid (bottom : ℕ) (rest s : List ℕ) (top : ℕ) (stack : List ℕ) : Type 0 where
  pub words : s ≡ replicate top 0 ++ (stack ++ 0 ∷ rest)
  pub place : top + length stack ≡ bottom

one-zero : (t : ℕ) (ys : List ℕ) → replicate t 0 ++ 0 ∷ ys ≡ replicate (suc t) 0 ++ ys
one-zero zero ys = refl
one-zero (suc t) ys = ap (λ (l : List ℕ). 0 ∷ l) (one-zero t ys)

-- ---- the three turns

module _ (m : List ℕ) (x : ℕ) (s : List ℕ) (top : ℕ) where
  pub turned_down : link m x FIRST ≢ 0
      → turned m x s top ≡ (set s (top - 1) (link m x NEXT), turned_to (link m x FIRST) (cond (eqb (link m x NEXT) 0) top (top - 1)))
  unfolding turned went_down
  turned_down h = simp (ne_eqb (link m x FIRST) 0 h)

  pub turned_on : link m x FIRST ≡ 0 → link m x NEXT ≢ 0 → turned m x s top ≡ (s, turned_to (link m x NEXT) top)
  unfolding turned went_on
  turned_on e h = simp (eq-eqb (link m x FIRST) 0 e, ne_eqb (link m x NEXT) 0 h) (ap (λ (l : List ℕ). (l, turned_to (link m x NEXT) top)) (set-get_or s top 0))

  pub turned-back : link m x FIRST ≡ 0 → link m x NEXT ≡ 0 → turned m x s top ≡ (set s top 0, turned_to (get_or s top 0) (top + 1))
  unfolding turned went_on
  turned-back e h = simp (eq-eqb (link m x FIRST) 0 e, eq-eqb (link m x NEXT) 0 h)

  -- as the code makes them
  module _ {first next : ℕ} (child : first ≡ link m x FIRST) (sibling : next ≡ link m x NEXT) where
    pub down_by : {after : ℕ} → first ≢ 0 → after ≡ cond (eqb next 0) top (top - 1) → (set s (top - 1) next, turned_to first after) ≡ turned m x s top
    down_by {after} h e =
        ap (λ (t : ℕ). (set s (top - 1) next, turned_to first t)) e
        ∙ ap (λ (n : ℕ). (set s (top - 1) n, turned_to first (cond (eqb n 0) top (top - 1)))) sibling
        ∙ ap (λ (f : ℕ). (set s (top - 1) (link m x NEXT), turned_to f (cond (eqb (link m x NEXT) 0) top (top - 1)))) child
        ∙ sym (turned_down (λ (z : link m x FIRST ≡ 0). h (child ∙ z)))

    pub on_by : {word after after' : ℕ} → first ≡ 0 → word ≡ cond (eqb next 0) 0 (get_or s top 0) → after ≡ cond (eqb next 0) (get_or s top 0) next
        → after' ≡ cond (eqb next 0) (top + 1) top → (set s top word, turned_to after after') ≡ turned m x s top
    unfolding turned went_on
    on_by {word} {after} {after'} h w a t =
        ap (λ (v : ℕ). (set s top v, turned_to after after')) w
        ∙ ap (λ (v : ℕ). (set s top (cond (eqb next 0) 0 (get_or s top 0)), turned_to v after')) a
        ∙ ap (λ (v : ℕ). (set s top (cond (eqb next 0) 0 (get_or s top 0)), turned_to (cond (eqb next 0) (get_or s top 0) next) v)) t
        ∙ ap (λ (n : ℕ). (set s top (cond (eqb n 0) 0 (get_or s top 0)), turned_to (cond (eqb n 0) (get_or s top 0) n) (cond (eqb n 0) (top + 1) top))) sibling
        ∙ sym (simp (eq-eqb (link m x FIRST) 0 (sym child ∙ h)))

-- ---- what they do to the stack

module _ (bottom : ℕ) (rest : List ℕ) where
  -- A node that waits, or none.
  pub push-laid : (s stack : List ℕ) (top v : ℕ) → 0 < top → Laid bottom rest s top stack
      → Laid bottom rest (set s (top - 1) v) (cond (eqb v 0) top (top - 1)) (cond (eqb v 0) stack (v ∷ stack))
  push-laid s stack top v h l = by (eqb v 0) refl
    where
      e : top ≡ suc (top - 1)
      e = omega arith

      wrote : set s (top - 1) v ≡ replicate (top - 1) 0 ++ v ∷ (stack ++ 0 ∷ rest)
      wrote =
          ap (λ (w : List ℕ). set w (top - 1) v) (
          l.words ∙ ap (λ (n : ℕ). replicate n 0 ++ (stack ++ 0 ∷ rest)) e ∙ sym (one-zero (top - 1) (stack ++ 0 ∷ rest)))
          ∙ set_at (replicate (top - 1) 0) 0 (stack ++ 0 ∷ rest) v (top - 1) (length-replicate (top - 1) 0)

      by : (b : Bool) → eqb v 0 ≡ b → Laid bottom rest (set s (top - 1) v) (cond b top (top - 1)) (cond b stack (v ∷ stack))
      by true z = record {
        words = wrote ∙ ap (λ (u : ℕ). replicate (top - 1) 0 ++ u ∷ (stack ++ 0 ∷ rest)) (eqb-true v 0 z) ∙ one-zero (top - 1) (stack ++ 0 ∷ rest)
            ∙ ap (λ (n : ℕ). replicate n 0 ++ (stack ++ 0 ∷ rest)) (sym e);
        place = l.place;
      }
      by false z = record { words = wrote; place = let p = l.place in omega arith }

  -- The top, which leaves it.
  pub top-laid : (s stack : List ℕ) (top v : ℕ) → Laid bottom rest s top (v ∷ stack) → get_or s top 0 ≡ v
  top-laid s stack top v l =
      ap (λ (w : List ℕ). get_or w top 0) l.words ∙ get_or_at (replicate top 0) v (stack ++ 0 ∷ rest) 0 top (length-replicate top 0)

  pub pop-laid : (s stack : List ℕ) (top v : ℕ) → Laid bottom rest s top (v ∷ stack) → Laid bottom rest (set s top 0) (top + 1) stack
  pop-laid s stack top v l =
      let one : suc top ≡ top + 1 = omega arith in record {
        words = ap (λ (w : List ℕ). set w top 0) l.words ∙ set_at (replicate top 0) v (stack ++ 0 ∷ rest) 0 top (length-replicate top 0)
            ∙ one-zero top (stack ++ 0 ∷ rest) ∙ ap (λ (n : ℕ). replicate n 0 ++ (stack ++ 0 ∷ rest)) one;
        place = let p = l.place in omega arith;
      }

  -- Below the last there is none.
  pub none-laid : (s : List ℕ) (top : ℕ) → Laid bottom rest s top [] → get_or s top 0 ≡ 0
  none-laid s top l = ap (λ (w : List ℕ). get_or w top 0) l.words ∙ get_or_at (replicate top 0) 0 rest 0 top (length-replicate top 0)

  pub inside-laid : (s stack : List ℕ) (top : ℕ) → Laid bottom rest s top stack → top < length s
  inside-laid s stack top l =
      let a = ap length l.words ∙ length-append (replicate top 0) (stack ++ 0 ∷ rest) in
      let b = length-append stack (0 ∷ rest) in
      let c = length-replicate {A = ℕ} top 0 in
      omega arith

-- ---- zeroed scratch is an empty stack, and the other way round

one_less : (n : ℕ) (ys : List ℕ) → 0 < n → replicate (n - 1) 0 ++ 0 ∷ ys ≡ replicate n 0 ++ ys
one_less n ys h = let e : suc (n - 1) ≡ n = omega arith in one-zero (n - 1) ys ∙ ap (λ (k : ℕ). replicate k 0 ++ ys) e

pub empty-laid : (n : ℕ) (s : List ℕ) → 0 < n → zeroed n s ≡ s → Laid (n - 1) (drop n s) s (n - 1) []
unfolding zeroed
empty-laid n s h e = record { words = sym e ∙ sym (one_less n (drop n s) h); place = omega arith }

pub laid-empty : (n : ℕ) (s₀ s : List ℕ) (top : ℕ) → 0 < n → zeroed n s₀ ≡ s₀ → Laid (n - 1) (drop n s₀) s top [] → s ≡ s₀
unfolding zeroed
laid-empty n s₀ s top h e l =
    let p = l.place in
    let t : top ≡ n - 1 = omega arith in
    l.words ∙ ap (λ (k : ℕ). replicate k 0 ++ 0 ∷ drop n s₀) t ∙ one_less n (drop n s₀) h ∙ e

-- Where the guard lets a call through, it leaves such scratch.
pub after-guard : (m : List ℕ) (h : Header) (s : List ℕ) {s' : List ℕ} → s' ≡ scratch_after m h s → h.used ≤ capacity_of (length m) → 2 * h.used ≤ length s
    → (2 * h.used ≤ length s') × (zeroed (2 * h.used) s' ≡ s')
unfolding zeroed
after-guard m h s e frame room =
    let z = e ∙ scratch-fits m h s (record { frame = frame; room = room }) in
    let l = ap length z ∙ length-append (replicate (2 * h.used) 0) (drop (2 * h.used) s) in
    let r = length-replicate {A = ℕ} (2 * h.used) 0 in
    (omega arith, rw z (ap (λ (l : List ℕ). replicate (2 * h.used) 0 ++ l) (drop_at (replicate (2 * h.used) 0) (drop (2 * h.used) s) (2 * h.used) r)))
