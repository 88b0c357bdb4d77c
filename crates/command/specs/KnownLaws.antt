-- Zeroing the first words of the scratch, twice and by less; and what a look leaves known.
use Rattle.std.specs.Prelude.{◌≡◌, refl, Bool, true, false, cond, Some, None, List, ◌++◌, ℕ, ◌+◌, ◌-◌, ◌*◌, ◌/◌, ◌≤◌, ltb, leb, length, replicate, take, drop}
use Rattle.std.proofs.Common.{sym, ap, ◌∙◌, subst, append_assoc, arith, drop_at, take_at, drop-drop, length-take-le, ltb-true, ltb-false, leb-true}
use Rattle.std.proofs.lemmas.Bool.{false≢true}
use Rattle.std.proofs.lemmas.List.{length-replicate, replicate-append-replicate}
use borrow.Rule.Slice.PartMut.{put_mid, post_of}
use Rattle.std.proofs.Math.Seq.{length_front}
use Rattle.link.specs.Words.{width, most, capacity_of}
use Rattle.link.specs.WordLaws.{capacity-whole, capacity-most}
use Rattle.link.specs.declared.header.Header.{Header}
use Rattle.examine.specs.Scratch.{zeroed}
use Rattle.examine.specs.Examination.{examined}
use Rattle.examine.specs.declared.chain.Verdict.{Verdict}
use Rattle.command.specs.Known.{looked, verdict_in, seen, Knows, Cleaned, Looked, settled, settled_to}
use Rattle.command.specs.declared.known.Known.{Known}

pub zeroed-length : (n : ℕ) (s : List ℕ) → n ≤ length s → length (zeroed n s) ≡ length s
unfolding zeroed
zeroed-length n s h = length_front s (replicate n 0) n (length-replicate n 0 ∙ sym (length-take-le n s h))

pub zeroed-again : (n : ℕ) (s : List ℕ) → zeroed n (zeroed n s) ≡ zeroed n s
unfolding zeroed
zeroed-again n s = ap (λ (t : List ℕ). replicate n 0 ++ t) (drop_at (replicate n 0) (drop n s) n (length-replicate n 0))

-- where more are zero already
pub zeroed-less : (n c : ℕ) (s : List ℕ) → n ≤ c → zeroed n (zeroed c s) ≡ zeroed c s
unfolding zeroed
zeroed-less n c s h =
    subst (λ (z : List ℕ). replicate n 0 ++ drop n z ≡ z) (sym parts)
    (ap (λ (z : List ℕ). replicate n 0 ++ z) (drop_at (replicate n 0) t n (length-replicate n 0)))
  where
    t : List ℕ
    t = replicate (c - n) 0 ++ drop c s

    whole : n + (c - n) ≡ c
    whole = omega arith

    parts : replicate c 0 ++ drop c s ≡ replicate n 0 ++ t
    parts =
        ap (λ (z : List ℕ). z ++ drop c s) (sym (replicate-append-replicate n (c - n) 0 ∙ ap (λ (z : ℕ). replicate z 0) whole))
        ∙ append_assoc (replicate n 0) (replicate (c - n) 0) (drop c s)

-- the words from c to n filled, where those before c are zero
pub zeroed_from : (c n : ℕ) (s ys : List ℕ) → zeroed c s ≡ s → c ≤ n → ys ≡ replicate (n - c) 0 → put_mid c (n - c) s ys ≡ zeroed n s
unfolding zeroed
zeroed_from c n s ys z h e =
    let front : take c s ≡ replicate c 0 = ap (take c) (sym z) ∙ take_at (replicate c 0) (drop c s) c (length-replicate c 0) in
    let whole : c + (n - c) ≡ n = omega arith in
    let other : (n - c) + c ≡ n = omega arith in
    rw (front, e)
    (sym (append_assoc (replicate c 0) (replicate (n - c) 0) (post_of c (n - c) s))
    ∙ ap (λ (z : List ℕ). z ++ post_of c (n - c) s) (replicate-append-replicate c (n - c) 0 ∙ ap (λ (k : ℕ). replicate k 0) whole)
    ∙ ap (λ (z : List ℕ). replicate n 0 ++ z) (post-drop c (n - c) s ∙ ap (λ (k : ℕ). drop k s) whole))
  where
    post-drop : (a k : ℕ) (xs : List ℕ) → post_of a k xs ≡ drop (a + k) xs
    post-drop a k xs = drop-drop k a xs

pub cleaned-more : (n : ℕ) (s : List ℕ) {s' : List ℕ} → n ≤ length s → s' ≡ zeroed n s → Cleaned n s s' n
cleaned-more n s room e = record { zero = e; zeros = rw e (zeroed-again n s); fits = rw (e, zeroed-length n s room) room }

pub cleaned-less : (n c : ℕ) (s : List ℕ) → n ≤ c → zeroed c s ≡ s → c ≤ length s → Cleaned n s s c
cleaned-less n c s h z room = record {
  zero = sym (ap (zeroed n) (sym z) ∙ zeroed-less n c s h ∙ z);
  zeros = z;
  fits = room;
}

-- what lies within the words lent fits the capacity
pub fits-capacity : (lent used : ℕ) → used ≤ most → used * width ≤ lent → used ≤ capacity_of lent
fits-capacity lent used a b = by (ltb (lent / width) most) refl
  where
    by : (t : Bool) → ltb (lent / width) most ≡ t → used ≤ capacity_of lent
    by true e = let c = capacity-whole lent (ltb-true (lent / width) most e) in omega arith
    by false e = let c = capacity-most lent (ltb-false (lent / width) most e) in omega arith

-- known before: only the scratch is looked after
pub looked-known : (m : List ℕ) (h : Header) (s : List ℕ) {s' : List ℕ} {k : Known} {v : Verdict} {clean : ℕ} → Knows m h s k → k.verdict ≡ Some v
    → Cleaned (2 * h.used) s s' clean → Looked m h s s' (seen v clean)
looked-known m h s {k = k} {v} K e w =
    let l : looked k ≡ true = rw e in
    let same : verdict_in k ≡ v = rw e in
    record {
      zero = w.zero;
      looked = refl;
      knows = record { frame = λ _. K.frame l; verdict = λ _. sym same ∙ K.verdict l; zeros = w.zeros; fits = w.fits };
    }

-- nothing is left to do
pub looked-still : (m : List ℕ) (h : Header) (s : List ℕ) {k : Known} → Knows m h s k → settled k h.used ≡ true → Looked m h s s k
unfolding settled
looked-still m h s {k} K e = by (looked k) refl e
  where
    by : (b : Bool) → looked k ≡ b → cond b (leb (2 * h.used) k.clean) false ≡ true → Looked m h s s k
    by true l t = record {
      zero = (cleaned-less (2 * h.used) k.clean s (leb-true (2 * h.used) k.clean t) K.zeros K.fits).zero;
      looked = l;
      knows = K;
    }
    by false l t = absurd (false≢true t)

-- told so by the verdict
pub settled_told : (k : Known) (used : ℕ) {v : Verdict} → settled_to k used ≡ Some v → (settled k used ≡ true) × (verdict_in k ≡ v)
unfolding settled settled_to
settled_told k used {v} e = by (leb (2 * used) k.clean) refl e
  where
    by : (b : Bool) → leb (2 * used) k.clean ≡ b → cond b k.verdict None ≡ Some v → (cond (looked k) (leb (2 * used) k.clean) false ≡ true) × (verdict_in k ≡ v)
    by true l t = (rw (t, l), rw t)
    by false l t = absurd (cc)

-- and there is room for the scratch words
pub settled-room : (k : Known) (s : List ℕ) (used : ℕ) → settled k used ≡ true → k.clean ≤ length s → (looked k ≡ true) × (2 * used ≤ length s)
unfolding settled
settled-room k s used e l = by (looked k) refl e
  where
    by : (b : Bool) → looked k ≡ b → cond b (leb (2 * used) k.clean) false ≡ true → (looked k ≡ true) × (2 * used ≤ length s)
    by true q t = let a = leb-true (2 * used) k.clean t in (q, omega arith)
    by false q t = absurd (false≢true t)

-- examined now
pub looked-now : (m : List ℕ) (h : Header) (s : List ℕ) {s' : List ℕ} {v : Verdict} → h.used ≤ capacity_of (length m) → 2 * h.used ≤ length s
    → s' ≡ zeroed (2 * h.used) s → v ≡ examined m h → Looked m h s s' (seen v (2 * h.used))
looked-now m h s fits room e f =
    let w = cleaned-more (2 * h.used) s room e in
    record { zero = e; looked = refl; knows = record { frame = λ _. fits; verdict = λ _. f; zeros = w.zeros; fits = w.fits } }

-- nothing is known at first
pub knows-nothing : (m : List ℕ) (h : Header) (s : List ℕ) {k : Known} → looked k ≡ false → k.clean ≡ 0 → Knows m h s k
unfolding zeroed
knows-nothing m h s e f = record {
  frame = λ q. absurd (false≢true (sym e ∙ q));
  verdict = λ q. absurd (false≢true (sym e ∙ q));
  zeros = rw f refl;
  fits = rw f (omega arith);
}
