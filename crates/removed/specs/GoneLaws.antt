-- Nothing gone, some nodes gone after others, and what a test of found says then. From the definition.
use Rattle.std.specs.Prelude.{◌≡◌, refl, ◌≢◌, ◌⊎◌, Bool, true, false, List, [], ◌∷◌, ◌++◌, ℕ, ◌+◌, length}
use Rattle.std.proofs.Common.{sym, ap, ◌∙◌, subst, inl, inr, append_assoc, arith}
use Rattle.link.specs.Ids.{slot_of, stamp_of}
use Rattle.link.specs.Stamps.{removed_bits}
use Rattle.link.specs.Words.{STAMP, word}
use Rattle.link.specs.Found.{Found, found_b}
use Rattle.link.specs.FoundLaws.{found-held, found_is, is_found}
use Rattle.link.specs.declared.header.Header.{Header}
use Rattle.rules.specs.Answers.{DONE, answer}
use Rattle.rules.specs.declared.answer.Answer.{Answer}
use Rattle.rules.specs.Lists.{In, Off}
use Rattle.rules.specs.Sound.{Ready}
use Rattle.forest.specs.Lists.{in_left, in_right, in_cases, off-left, off-right, off-append, off-not_in}
use Rattle.forest.specs.Looks.{found-kept}
use Rattle.forest.specs.Kept.{Kept}
use Rattle.removed.specs.Gone.{joins, joining, Gone, Removes}

pub joining-append : (xs ys : List ℕ) → joining (xs ++ ys) ≡ joining xs ++ joining ys
joining-append [] ys = refl
joining-append (x ∷ xs) ys = ap (λ (l : List ℕ). joins x ++ l) (joining-append xs ys) ∙ sym (append_assoc (joins x) (joining xs) (joining ys))

-- A change of links alone.
pub gone-kept : (m m' : List ℕ) (h : Header) → length m' ≡ length m → Kept m m' → Gone m h [] m' h
gone-kept m m' h e kept = record {
  used = refl;
  size = e;
  were = λ y t. absurd t;
  found = λ y. let k = found-kept m m' h.used (λ s. (kept s).0) y in (λ f. (k.1 f, tt), λ w. k.0 w.0);
  stamps = λ y t. absurd t;
  others = λ t p n. (kept t).0;
  numbers = λ y f o. (kept (slot_of y)).1;
}

module _ {m m₁ m₂ : List ℕ} {h h₁ h₂ : Header} {xs ys : List ℕ} (G : Gone m h xs m₁ h₁) (K : Gone m₁ h₁ ys m₂ h₂) where
  -- a node that goes later has another slot
  apart : (y z : ℕ) → In y xs → In z ys → slot_of z ≢ slot_of y
  apart y z t u e =
      let a = G.stamps y t in
      let b : word m₁ (slot_of y) STAMP ≡ stamp_of z = ap (λ (s : ℕ). word m₁ s STAMP) (sym e) ∙ found-held m₁ h₁.used z (K.were z u) in
      omega arith

  pub gone-then : Gone m h (xs ++ ys) m₂ h₂
  gone-then = record {
    used = K.used ∙ G.used;
    size = K.size ∙ G.size;
    were = λ y t. were y (in_cases y xs ys t);
    found = λ y. (
      λ f. let w = (K.found y).0 f in let z = (G.found y).0 w.0 in (z.0, off-append y xs ys z.1 w.1),
      λ w. (K.found y).1 ((G.found y).1 (w.0, off-left y xs ys w.1), off-right y xs ys w.1),
    );
    stamps = λ y t. stamps y (in_cases y xs ys t);
    others = λ t p n. K.others t p (λ z i. n z (in_right z xs ys i)) ∙ G.others t p (λ z i. n z (in_left z xs ys i));
    numbers = λ y f o. K.numbers y ((G.found y).1 (f, off-left y xs ys o)) (off-right y xs ys o) ∙ G.numbers y f (off-left y xs ys o);
  }
    where
      were : (y : ℕ) → In y xs ⊎ In y ys → Found m h.used y
      were y (inl t) = G.were y t
      were y (inr t) = ((G.found y).0 (K.were y t)).0

      stamps : (y : ℕ) → In y xs ⊎ In y ys → word m₂ (slot_of y) STAMP ≡ 65536 + removed_bits (stamp_of y)
      stamps y (inl t) = K.others (slot_of y) (G.were y t).from (λ z u. apart y z t u) ∙ G.stamps y t
      stamps y (inr t) = K.stamps y t

-- Every other identifier, found or not, is found as before; those that are gone are not.
module _ {m m' : List ℕ} {h h' : Header} {xs : List ℕ} (G : Gone m h xs m' h') where
  pub gone-answers : (y : ℕ) → Off y xs → found_b m' h'.used y ≡ found_b m h.used y
  gone-answers y o = by (found_b m' h'.used y) (found_b m h.used y) refl refl
    where
      by : (a b : Bool) → found_b m' h'.used y ≡ a → found_b m h.used y ≡ b → a ≡ b
      by true true p q = refl
      by false false p q = refl
      by true false p q = sym (is_found m h.used y ((G.found y).0 (found_is m' h'.used y p)).0) ∙ q
      by false true p q = sym p ∙ is_found m' h'.used y ((G.found y).1 (found_is m h.used y q, o))

  pub gone-lost : (y : ℕ) → In y xs → found_b m' h'.used y ≡ false
  gone-lost y t = by (found_b m' h'.used y) refl
    where
      by : (a : Bool) → found_b m' h'.used y ≡ a → a ≡ false
      by false p = refl
      by true p = absurd (off-not_in y xs ((G.found y).0 (found_is m' h'.used y p)).1 t)

-- The parts of what a removal leaves, put together.
pub removes_by : (m : List ℕ) (h : Header) (R : Ready m h) (xs : List ℕ) (after : List ℕ × Answer) (w : List ℕ) (head : Header)
    → after ≡ (w, answer head DONE 0) → Gone m h xs w head → ((Q : Ready w head) × (Q.sound.free.slots ≡ R.sound.free.slots ++ joining xs))
    → Removes m h R xs after
removes_by m h R xs after w head e G q =
    subst (Removes m h R xs) (sym e) (record { number = refl; result = refl; gone = G; ready = q.0; joined = q.1 })
