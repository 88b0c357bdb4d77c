-- What one change does to identifiers, stamps and the free chain, in one form for all: the nodes `made` are new, the nodes `gone` are no
-- longer found, all else that was found still is. A change of links alone, a creation, a removal; and links changed after any of them.
use Rattle.std.specs.Prelude.{◌≡◌, ◌≢◌, ◌⊎◌, ◌↔◌, List, [], ◌∷◌, ◌-◌, ℕ, suc, ◌+◌, ◌<◌, ◌≤◌}
use Rattle.std.proofs.Common.{sym, ap, ◌∙◌, subst, inl, inr, arith, eq-eqb, ne_eqb}
use Rattle.std.proofs.Math.Decide.{ℕ_discrete, dec_le}
use Rattle.link.specs.Ids.{slot_of, stamp_of}
use Rattle.link.specs.Stamps.{removed_bits}
use Rattle.link.specs.Words.{STAMP, NUMBER, word}
use Rattle.link.specs.Found.{Found}
use Rattle.link.specs.FoundLaws.{found-held, held_found}
use Rattle.link.specs.declared.header.Header.{Header}
use Rattle.rules.specs.declared.answer.Answer.{Answer}
use Rattle.rules.specs.Lists.{In, Off, NoDup}
use Rattle.rules.specs.Sound.{Ready}
use Rattle.keeps.specs.Handouts.{handouts, times_out}
use Rattle.keeps.specs.HandoutLaws.{handouts-freed, times_in_lem, times_none, times-same}
use Rattle.keeps.specs.Made.{Created}
use Rattle.removed.specs.Gone.{Gone, Removes}
use Rattle.history.specs.History.{times_of}
use Rattle.history.specs.FreeSlots.{Joined, joined_same, joined-gone, slot_among}

pub record Effect (m : List ℕ) (h : Header) (m' : List ℕ) (h' : Header) (made gone : List ℕ) : Type 0 where
  pub joined : Joined m h → Joined m' h'
  pub found : (y : ℕ) → Found m' h'.used y ↔ (In y made ⊎ (Found m h.used y × Off y gone))
  pub times : (s : ℕ) → 0 < s → times_out m' h'.used s ≡ times_of s made + times_out m h.used s
  pub stamps : (x : ℕ) → In x made → (0 < slot_of x) × (stamp_of x ≡ times_out m h.used (slot_of x))
  pub single : NoDup made

-- The stamps of all slots stay, and the next of every removed one.
pub record Still (m m' : List ℕ) : Type 0 where
  pub stamps : (s : ℕ) → 1 ≤ s → word m' s STAMP ≡ word m s STAMP
  pub nexts : (s : ℕ) → 1 ≤ s → 32768 ≤ stamp_of (word m s STAMP) → word m' s NUMBER ≡ word m s NUMBER

pub still-found : {m m' : List ℕ} → Still m m' → (used y : ℕ) → Found m' used y ↔ Found m used y
still-found {m} {m'} K used y = (
  λ f. held_found m used y f.from f.upto f.small (sym (K.stamps (slot_of y) f.from) ∙ found-held m' used y f),
  λ f. held_found m' used y f.from f.upto f.small (K.stamps (slot_of y) f.from ∙ found-held m used y f),
)

-- ---- nothing made, nothing gone

pub effect-still : (m m' : List ℕ) (h : Header) → Still m m' → Effect m h m' h [] []
effect-still m m' h K = record {
  joined = joined_same m m' h K.stamps K.nexts;
  found = λ y. (λ f. inr ((still-found K h.used y).0 f, tt), back y);
  times = λ s p. times-same m m' h.used s (K.stamps s p) ∙ omega arith;
  stamps = λ x t. absurd t;
  single = tt;
}
  where
    back : (y : ℕ) → ⊥ ⊎ (Found m h.used y × Unit {0}) → Found m' h.used y
    back y (inr w) = (still-found K h.used y).1 w.0
    back y (inl x') = elim x' [ ]

-- ---- links changed after it

pub effect-then : {m m₁ m₂ : List ℕ} {h h₁ : Header} {made gone : List ℕ} → Effect m h m₁ h₁ made gone → Still m₁ m₂ → Effect m h m₂ h₁ made gone
effect-then {m} {m₁} {m₂} {h} {h₁} E K = record {
  joined = λ all. joined_same m₁ m₂ h₁ K.stamps K.nexts (E.joined all);
  found = λ y. (λ f. (E.found y).0 ((still-found K h₁.used y).0 f), λ w. (still-found K h₁.used y).1 ((E.found y).1 w));
  times = λ s p. times-same m₁ m₂ h₁.used s (K.stamps s p) ∙ E.times s p;
  stamps = E.stamps;
  single = E.single;
}

-- ---- nodes gone

pub effect-gone : (m : List ℕ) (h : Header) (R : Ready m h) (xs : List ℕ) (after : List ℕ × Answer) → Removes m h R xs after
    → Effect m h after.0 after.1.header [] xs
effect-gone m h R xs after D = record {
  joined = joined-gone m after.0 h after.1.header xs G R.sound.free D.ready.sound.free D.joined;
  found = λ y. (λ f. inr ((G.found y).0 f), back y);
  times = λ s p. let e = same s p (slot_among s xs) (dec_le s h.used) in rw G.used (omega arith);
  stamps = λ x t. absurd t;
  single = tt;
}
  where
    G : Gone m h xs after.0 after.1.header
    G = D.gone

    back : (y : ℕ) → ⊥ ⊎ (Found m h.used y × Off y xs) → Found after.0 after.1.header.used y
    back y (inr w) = (G.found y).1 w
    back y (inl x') = elim x' [ ]

    same : (s : ℕ) → 0 < s → ((y : ℕ) × In y xs × (slot_of y ≡ s)) ⊎ ((y : ℕ) → In y xs → slot_of y ≢ s) → Dec (s ≤ h.used)
        → times_out after.0 h.used s ≡ times_out m h.used s
    same s p (inr n) d = times-same m after.0 h.used s (G.others s p n)
    same s p (inl q) (no l) = times_none after.0 h.used s (omega arith) ∙ sym (times_none m h.used s (omega arith))
    same s p (inl (y, t, e)) (yes l) =
        let f = G.were y t in
        let small = f.small in
        let w : word after.0 s STAMP ≡ 65536 + (65535 - stamp_of y) = ap (λ (z : ℕ). word after.0 z STAMP) (sym e) ∙ G.stamps y t in
        let a : stamp_of (word after.0 s STAMP) ≡ removed_bits (stamp_of y) = omega arith in
        let b : stamp_of (word m s STAMP) ≡ stamp_of y = ap (λ (z : ℕ). stamp_of (word m z STAMP)) (sym e) ∙ f.stamp in
        times_in_lem after.0 h.used s l ∙ ap handouts a ∙ handouts-freed (stamp_of y) small ∙ ap handouts (sym b) ∙ sym (times_in_lem m h.used s l)

-- ---- a node made

pub effect-made : (m m' : List ℕ) (h h' : Header) (x n : ℕ) → Created m h.used m' h'.used x n
    → (stamp_of x ≡ times_out m h.used (slot_of x)) × (times_out m' h'.used (slot_of x) ≡ suc (times_out m h.used (slot_of x)))
    → ((t : ℕ) → 0 < t → t ≢ slot_of x → times_out m' h'.used t ≡ times_out m h.used t)
    → (Joined m h → Joined m' h') → Effect m h m' h' (x ∷ []) []
effect-made m m' h h' x n C own others joined = record {
  joined = joined;
  found = λ y. (λ f. to y (C.old y f), from y);
  times = λ s p. count s p (ℕ_discrete (slot_of x) s);
  stamps = stamps;
  single = (tt, tt);
}
  where
    to : (y : ℕ) → (y ≡ x) ⊎ Found m h.used y → ((y ≡ x) ⊎ ⊥) ⊎ (Found m h.used y × Unit {0})
    to y (inl e) = inl (inl e)
    to y (inr f) = inr (f, tt)

    from : (y : ℕ) → ((y ≡ x) ⊎ ⊥) ⊎ (Found m h.used y × Unit {0}) → Found m' h'.used y
    from y (inl (inl e)) = subst (Found m' h'.used) (sym e) C.found
    from y (inr w) = C.kept y w.0
    from y (inl (inr x3)) = elim x3 [ ]

    count : (s : ℕ) → 0 < s → Dec (slot_of x ≡ s) → times_out m' h'.used s ≡ times_of s (x ∷ []) + times_out m h.used s
    count s p (yes e) =
        let q : times_out m' h'.used s ≡ suc (times_out m h.used s) =
        subst (λ (z : ℕ). times_out m' h'.used z ≡ suc (times_out m h.used z)) e own.1 in
        simp (eq-eqb (slot_of x) s e) (omega arith)
    count s p (no k) = let q = others s p (λ e. k (sym e)) in simp (ne_eqb (slot_of x) s k) (omega arith)

    stamps : (y : ℕ) → (y ≡ x) ⊎ ⊥ → (0 < slot_of y) × (stamp_of y ≡ times_out m h.used (slot_of y))
    stamps y (inl e) = rw e (C.found.from, own.0)
    stamps y (inr x'') = elim x'' [ ]
