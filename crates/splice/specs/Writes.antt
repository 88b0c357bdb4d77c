-- Laws of the writes of links: two of different words or slots go in either order, of two to one word the later stays, and writing
-- what stands there is no write. From the laws of words, on any memory and identifiers.
use Rattle.std.specs.Prelude.{◌≡◌, List, ℕ, ◌*◌, ◌<◌, ◌≤◌, length}
use Rattle.std.proofs.Common.{sym, ap, ◌∙◌, arith}
use Rattle.std.proofs.Math.Decide.{ℕ_discrete}
use Rattle.std.proofs.lemmas.List.{set_comm}
use Rattle.link.specs.Ids.{slot_of}
use Rattle.link.specs.Words.{width, place, word, set_word, link, set_link}
use Rattle.link.specs.WordLaws.{either, set_word-again, set_word-word, link-some, link-ap, set_link_none, set_link-some, set_link-same, set_link-other, set_link-slot}

words-swap : (m : List ℕ) (s k v t j w : ℕ) → 0 < s → 0 < t → k < width → j < width → (k ≡ j → s ≡ t → ⊥)
    → set_word (set_word m s k v) t j w ≡ set_word (set_word m t j w) s k v
unfolding set_word
words-swap m s k v t j w p q a b n =
    set_comm m (place s k) (place t j) v w (λ (e : place s k ≡ place t j). let k≡j : k ≡ j = omega arith in n k≡j (omega arith))

module _ (m : List ℕ) (id k : ℕ) where
  -- two writes, of different words or of different slots
  pub swap : (v y j w : ℕ) → k < width → j < width → (k ≡ j → slot_of id ≡ slot_of y → ⊥)
      → set_link (set_link m id k v) y j w ≡ set_link (set_link m y j w) id k v
  swap v y j w a b n =
      either id
      (λ e. ap (λ (z : List ℕ). set_link z y j w) (set_link_none m id k v e) ∙ sym (set_link_none (set_link m y j w) id k v e))
      (λ h. either y
      (λ e. set_link_none (set_link m id k v) y j w e ∙ ap (λ (z : List ℕ). set_link z id k v) (sym (set_link_none m y j w e)))
      (λ g. set_link-some (set_link m id k v) y j w g
      ∙ ap (λ (z : List ℕ). set_word z (slot_of y) j w) (set_link-some m id k v h)
      ∙ words-swap m (slot_of id) k v (slot_of y) j w h g a b n
      ∙ ap (λ (z : List ℕ). set_word z (slot_of id) k v) (sym (set_link-some m y j w g))
      ∙ sym (set_link-some (set_link m y j w) id k v h)))

  -- the later of two
  pub again : (v w : ℕ) → set_link (set_link m id k v) id k w ≡ set_link m id k w
  again v w =
      either id
      (λ e. ap (λ (z : List ℕ). set_link z id k w) (set_link_none m id k v e))
      (λ h. set_link-some (set_link m id k v) id k w h
      ∙ ap (λ (z : List ℕ). set_word z (slot_of id) k w) (set_link-some m id k v h)
      ∙ set_word-again m (slot_of id) k v w
      ∙ sym (set_link-some m id k w h))

  -- what stands there
  pub as_is : (v : ℕ) → v ≡ link m id k → set_link m id k v ≡ m
  as_is v e =
      either id (set_link_none m id k v)
      (λ h. set_link-some m id k v h ∙ ap (set_word m (slot_of id) k) (e ∙ link-some m id k h) ∙ set_word-word m (slot_of id) k)

  -- and what is read then
  pub reads : (v : ℕ) → k < width → 0 < slot_of id → slot_of id * width ≤ length m → link (set_link m id k v) id k ≡ v
  reads v a h w = link-some (set_link m id k v) id k h ∙ set_link-same m id k v a h w

  -- any other word, and any other slot
  pub keeps : (v y j : ℕ) → k < width → j < width → (j ≡ k → slot_of y ≡ slot_of id → ⊥) → link (set_link m id k v) y j ≡ link m y j
  keeps v y j a b n = link-ap m (set_link m id k v) y j (λ h. go h (ℕ_discrete j k))
    where
      go : 0 < slot_of y → Dec (j ≡ k) → word (set_link m id k v) (slot_of y) j ≡ word m (slot_of y) j
      go h (yes e) = set_link-slot m id k v (slot_of y) j a b h (n e)
      go h (no i) = set_link-other m id k v (slot_of y) j a b i
