-- Reading after writing, at the same and at another place: each law once, over the word number.
use Rattle.std.specs.Prelude.{◌≡◌, refl, Bool, true, false, List, ℕ, ◌*◌, ◌/◌, ◌<◌, ◌≤◌, eqb, length}
use Rattle.std.proofs.Common.{ap, ◌∙◌, arith, length-set, eq-eqb, ne_eqb, eqb-true, lt-ltb, le-ltb}
use Rattle.std.proofs.Math.ListN.{get_or-eq_default}
use Rattle.std.proofs.Math.Seq.{get_or-set_same, get_or-set_other, set-set, set_comm}
use Rattle.std.proofs.lemmas.List.{set-get_or}
use Rattle.std.proofs.lemmas.Bool.{eqb-false}
use Rattle.link.specs.Ids.{slot_of}
use Rattle.link.specs.Words.{width, most, place, capacity_of, word, set_word, link, set_link}

-- Words by slot.

pub length-set_word : (m : List ℕ) (s k v : ℕ) → length (set_word m s k v) ≡ length m
unfolding set_word
length-set_word m s k v = length-set m (place s k) v

module _ (m : List ℕ) (s k v : ℕ) where
  pub word_same : s * width ≤ length m → 0 < s → k < width → word (set_word m s k v) s k ≡ v
  unfolding word set_word
  word_same h p q = get_or-set_same m (place s k) v 0 (omega arith)

  -- another slot
  pub word-slot : (t j : ℕ) → 0 < s → 0 < t → k < width → j < width → (t ≡ s → ⊥) → word (set_word m s k v) t j ≡ word m t j
  unfolding word set_word
  word-slot t j p q a b n = get_or-set_other m (place s k) (place t j) v 0 (λ (e : place t j ≡ place s k). n (omega arith))

  -- another word, of any slot
  pub word-other : (t j : ℕ) → k < width → j < width → (j ≡ k → ⊥) → word (set_word m s k v) t j ≡ word m t j
  unfolding word set_word
  word-other t j a b n = get_or-set_other m (place s k) (place t j) v 0 (λ (e : place t j ≡ place s k). n (omega arith))

  pub set_word-again : (w : ℕ) → set_word (set_word m s k v) s k w ≡ set_word m s k w
  unfolding set_word
  set_word-again w = set-set m (place s k) v w

  -- two different words, of any slots, in either order
  pub set_word_comm : (t j w : ℕ) → k < width → j < width → (k ≡ j → ⊥)
      → set_word (set_word m s k v) t j w ≡ set_word (set_word m t j w) s k v
  unfolding set_word
  set_word_comm t j w a b n = set_comm m (place s k) (place t j) v w (λ (e : place s k ≡ place t j). n (omega arith))

-- writing what stands there
pub set_word-word : (m : List ℕ) (s k : ℕ) → set_word m s k (word m s k) ≡ m
unfolding word set_word
set_word-word m s k = set-get_or m (place s k) 0

-- Words by identifier: by cases on whether it names a slot.

pub either : {P : Type 0} (id : ℕ) → (slot_of id ≡ 0 → P) → (0 < slot_of id → P) → P
either {P} id f g = by (eqb (slot_of id) 0) refl
  where
    by : (t : Bool) → eqb (slot_of id) 0 ≡ t → P
    by true e = f (eqb-true (slot_of id) 0 e)
    by false e = let n : (slot_of id ≡ 0 → ⊥) = eqb-false (slot_of id) 0 e in g (omega arith)

module _ (m : List ℕ) (id k : ℕ) where
  pub link_none : slot_of id ≡ 0 → link m id k ≡ 0
  unfolding link
  link_none e = simp (eq-eqb (slot_of id) 0 e)

  pub link-some : 0 < slot_of id → link m id k ≡ word m (slot_of id) k
  unfolding link
  link-some h = simp (ne_eqb (slot_of id) 0 (λ (e : slot_of id ≡ 0). omega arith))

  pub link-past : 0 < slot_of id → length m ≤ place (slot_of id) k → link m id k ≡ 0
  unfolding link word
  link-past h l = link-some h ∙ get_or-eq_default m 0 l

  pub set_link_none : (v : ℕ) → slot_of id ≡ 0 → set_link m id k v ≡ m
  unfolding set_link
  set_link_none v e = simp (eq-eqb (slot_of id) 0 e)

  pub set_link-some : (v : ℕ) → 0 < slot_of id → set_link m id k v ≡ set_word m (slot_of id) k v
  unfolding set_link
  set_link-some v h = simp (ne_eqb (slot_of id) 0 (λ (e : slot_of id ≡ 0). omega arith))

  pub length-set_link : (v : ℕ) → length (set_link m id k v) ≡ length m
  length-set_link v =
      either id (λ e. ap length (set_link_none v e))
      (λ h. ap length (set_link-some v h) ∙ length-set_word m (slot_of id) k v)

  -- the words of a slot after a link is set: the link itself, any other word, any other slot
  pub set_link-same : (v : ℕ) → k < width → 0 < slot_of id → slot_of id * width ≤ length m → word (set_link m id k v) (slot_of id) k ≡ v
  set_link-same v a h w = ap (λ (x : List ℕ). word x (slot_of id) k) (set_link-some v h) ∙ word_same m (slot_of id) k v w h a

  pub set_link-other : (v t j : ℕ) → k < width → j < width → (j ≡ k → ⊥) → word (set_link m id k v) t j ≡ word m t j
  set_link-other v t j a b n =
      either id (λ e. ap (λ (x : List ℕ). word x t j) (set_link_none v e))
      (λ h. ap (λ (x : List ℕ). word x t j) (set_link-some v h) ∙ word-other m (slot_of id) k v t j a b n)

  pub set_link-slot : (v t j : ℕ) → k < width → j < width → 0 < t → (t ≡ slot_of id → ⊥) → word (set_link m id k v) t j ≡ word m t j
  set_link-slot v t j a b p n =
      either id (λ e. ap (λ (x : List ℕ). word x t j) (set_link_none v e))
      (λ h. ap (λ (x : List ℕ). word x t j) (set_link-some v h) ∙ word-slot m (slot_of id) k v t j h p a b n)

-- equal words by slot are equal links
pub link-ap : (m m' : List ℕ) (id k : ℕ) → (0 < slot_of id → word m' (slot_of id) k ≡ word m (slot_of id) k) → link m' id k ≡ link m id k
unfolding link
link-ap m m' id k f =
    either id (λ e. simp (eq-eqb (slot_of id) 0 e))
    (λ h. simp (ne_eqb (slot_of id) 0 (λ (e : slot_of id ≡ 0). omega arith)) (f h))

-- reading another link than the one that was set
pub link-other : (m : List ℕ) (id k v y j : ℕ) → k < width → j < width → (j ≡ k → ⊥) → link (set_link m id k v) y j ≡ link m y j
link-other m id k v y j a b n = link-ap m (set_link m id k v) y j (λ _. set_link-other m id k v (slot_of y) j a b n)

-- Capacity, by its two cases and as the smaller of two numbers.

module _ (lent : ℕ) where
  pub capacity-whole : lent / width < most → capacity_of lent ≡ lent / width
  unfolding capacity_of
  capacity-whole h = simp (lt-ltb (lent / width) most h)

  pub capacity-most : most ≤ lent / width → capacity_of lent ≡ most
  unfolding capacity_of
  capacity-most h = simp (le-ltb (lent / width) most h)
