-- What the calls that put a node's children to where it stood ask for and come to.
-- Assumed of the memory is only that the ends named lie within it.
use Rattle.std.specs.Prelude.{◌≡◌, refl, true, false, length, is_ok, Result, Ok, Err}
use Rattle.std.proofs.Common.{sym, ◌∙◌, ⊎_elim, arith, ne_eqb, true≢false}
use Rattle.std.proofs.lemmas.Bool.{false≢true}
use Rattle.std.proofs.Math.Path.{ap}
use mathlib.Core.List.{List}
use Prim.Native.Nat.{ℕ, ◌*◌, ◌<◌, ◌≤◌}
use Rattle.link.specs.Ids.{slot_of}
use Rattle.link.specs.Words.{width, FIRST, LAST, set_word, set_link}
use Rattle.link.specs.WordLaws.{set_link-some, length-set_link}
use Rattle.link.specs.Siblings.{rewrite_parents}
use Rattle.link.proofs.OnlyLaws.{only_rewrite}
use Rattle.link.specs.declared.siblings_range.ConsistencyError.{ConsistencyError}
use Rattle.moves.specs.Places.{between}
use Rattle.splice.specs.Splice.{Within, PlaceWithin, tied_in}
use Rattle.splice.specs.SpliceLaws.{within-stays, place-within-stays}
use Rattle.splice.specs.Hoist.{Ends, childless, tied, hoisted_in}

-- The writes of none to a node's two ends.
module _ (m : List ℕ) (x : ℕ) {s : ℕ} (e : s ≡ slot_of x) where
  pub front-asks : Within m x → (0 < s) × (s * width ≤ length m) × (FIRST < width)
  front-asks w = rw e (w.0, w.1, omega arith)

  module _ (w : Within m x) {m₁ : List ℕ} (front : m₁ ≡ set_word m s FIRST 0) where
    front-link : m₁ ≡ set_link m x FIRST 0
    front-link = front ∙ ap (λ (t : ℕ). set_word m t FIRST 0) e ∙ sym (set_link-some m x FIRST 0 w.0)

    front-within : Within m₁ x
    front-within = within-stays x (ap length front-link ∙ length-set_link m x FIRST 0) w

    pub back-asks : (0 < s) × (s * width ≤ length m₁) × (LAST < width)
    back-asks = rw e (front-within.0, front-within.1, omega arith)

    pub ends_by : {m₂ : List ℕ} → m₂ ≡ set_word m₁ s LAST 0 → m₂ ≡ childless m x
    ends_by back =
        back ∙ ap (λ (t : ℕ). set_word m₁ t LAST 0) e ∙ sym (set_link-some m₁ x LAST 0 w.0)
        ∙ ap (λ (l : List ℕ). set_link l x LAST 0) front-link

-- What is tied in, by whether the children's parents were named.
module _ (said : Result Unit ConsistencyError) (m : List ℕ) (first last parent previous next : ℕ) where
  pub tied-ok : is_ok said ≡ true → tied said m first last parent previous next ≡ tied_in m first last parent previous next
  tied-ok e = by said e
    where
      by : (r : Result Unit ConsistencyError) → is_ok r ≡ true → tied r m first last parent previous next ≡ tied_in m first last parent previous next
      by (Ok x) g = refl
      by (Err d) g = absurd (false≢true g)

  pub tied-err : is_ok said ≡ false → tied said m first last parent previous next ≡ m
  tied-err e = by said e
    where
      by : (r : Result Unit ConsistencyError) → is_ok r ≡ false → tied r m first last parent previous next ≡ m
      by (Ok x) g = absurd (true≢false g)
      by (Err d) g = refl

module _ (steps : ℕ) (m : List ℕ) (x first last parent previous next : ℕ) (n : first ≡ 0 → ⊥) {m₁ m₂ : List ℕ} {said : Result Unit ConsistencyError}
    (out : m₁ ≡ childless m x) (named : (m₂, said) ≡ rewrite_parents steps m₁ first parent) where
  size : length m₂ ≡ length m
  size =
      ap (λ (r : List ℕ × Result Unit ConsistencyError). length r.0) named ∙ (only_rewrite steps m₁ first parent).size ∙ ap length out
      ∙ length-set_link (set_link m x FIRST 0) x LAST 0 ∙ length-set_link m x FIRST 0

  -- The ends and what is around them are within the memory still.
  pub tie-asks : Ends m first last → PlaceWithin m (between parent previous next)
      → Within m₂ first × Within m₂ last × PlaceWithin m₂ (between parent previous next)
  tie-asks e around =
      let ends : Within m first × Within m last = ⊎_elim (λ z. absurd (n z)) (λ z. z) e in (
        within-stays first size ends.0,
        within-stays last size ends.1,
        place-within-stays _ _ (between parent previous next) size around,
      )

  pub hoisted_in_by : {m₃ : List ℕ} → m₃ ≡ tied said m₂ first last parent previous next
      → m₃ ≡ hoisted_in steps m x first last parent previous next
  unfolding hoisted_in
  hoisted_in_by g =
      simp (ne_eqb first 0 n)
      (g ∙ ap (λ (r : List ℕ × Result Unit ConsistencyError). tied r.1 r.0 first last parent previous next)
      (named ∙ ap (λ (w : List ℕ). rewrite_parents steps w first parent) out))
