-- An iterator over nodes, one node at a time: what it has left then, counted, and stored as it comes.
-- From the definitions and the laws over any step.
use Rattle.std.specs.Prelude.{◌≡◌, refl, Bool, true, false, cond, List, [], ◌∷◌, ◌-◌, ℕ, zero, suc, ◌+◌, ◌<◌, ◌≤◌, eqb, length, set}
use Rattle.std.specs.List.{filter}
use Rattle.std.proofs.Common.{sym, ap, ◌∙◌, arith, eq-eqb, ne_eqb, sub-one}
use Rattle.walk.specs.WrittenLaws.{sets_more}
use Rattle.lists.specs.Orders.{along, kept}
use Rattle.lists.specs.Storing.{stored_at}
use Rattle.lists.specs.OrderLaws.{from_out, from_none, from_step, stored-place}
use Rattle.lists.specs.OrderLinks.{link_else, linked}

-- By any step.
module _ (step : ℕ → ℕ) where
  pub along-out : (n x : ℕ) → n ≤ 0 → along step n x ≡ []
  unfolding along
  along-out n x h = let e : n ≡ 0 = omega arith in rw e

  pub along-none : (n x : ℕ) → x ≡ 0 → along step n x ≡ []
  unfolding along
  along-none zero x e = refl
  along-none (suc n) x e = simp (eq-eqb x 0 e)

  pub along-step : (n x : ℕ) {next : ℕ} → 0 < n → (x ≡ 0 → ⊥) → next ≡ step x → along step n x ≡ x ∷ along step (n - 1) next
  unfolding along
  along-step zero x h k e = absurd (omega arith)
  along-step (suc n) x h k e = simp (ne_eqb x 0 k, sub-one) (ap (λ (y : ℕ). x ∷ along step n y) (sym e))

  -- Behind the last that can be, whatever is next does not come.
  pub along-last : (n x next : ℕ) → 0 < n → (x ≡ 0 → ⊥) → n - 1 ≡ 0 → along step n x ≡ x ∷ along step (n - 1) next
  along-last n x next h k z =
      along-step n x h k refl
      ∙ ap (λ (xs : List ℕ). x ∷ xs) (along-out (n - 1) (step x) (omega arith) ∙ sym (along-out (n - 1) next (omega arith)))

  pub along-most : (n x : ℕ) → length (along step n x) ≤ n
  unfolding along
  along-most zero x = omega arith
  along-most (suc n) x = by (eqb x 0) (along-most n (step x))
    where
      by : (b : Bool) → length (along step n (step x)) ≤ n → length (cond b [] (x ∷ along step n (step x))) ≤ suc n
      by true h = omega arith
      by false h = omega arith

-- By links.
module _ (m : List ℕ) (near far n x : ℕ) where
  pub linked-out : n ≤ 0 → linked m near far n x ≡ []
  unfolding linked
  linked-out h = from_out (λ y. true) (λ y. link_else m y near far) n x h

  pub linked-none : x ≡ 0 → linked m near far n x ≡ []
  unfolding linked
  linked-none e = from_none (λ y. true) (λ y. link_else m y near far) n x e

  pub linked-step : {next : ℕ} → 0 < n → (x ≡ 0 → ⊥) → next ≡ link_else m x near far → linked m near far n x ≡ x ∷ linked m near far (n - 1) next
  unfolding linked
  linked-step h k e = from_step (λ y. true) (λ y. link_else m y near far) n x h k ∙ ap (λ (y : ℕ). x ∷ linked m near far (n - 1) y) (sym e)

-- Those that pass a test, in the library's word.
pub kept-filter : (keep : ℕ → Bool) (xs : List ℕ) → filter keep xs ≡ kept keep xs
unfolding kept
kept-filter keep [] = refl
kept-filter keep (x ∷ xs) = by (keep x) (kept-filter keep xs)
  where
    by : (b : Bool) → filter keep xs ≡ kept keep xs → cond b (x ∷ filter keep xs) (filter keep xs) ≡ cond b (x ∷ kept keep xs) (kept keep xs)
    by true e = ap (λ (ys : List ℕ). x ∷ ys) e
    by false e = e

-- A node that comes is stored at the next place, which is there.
pub store-next : (x : ℕ) (ys list : List ℕ) (at : ℕ) {xs : List ℕ} {whole : List ℕ × ℕ} → xs ≡ x ∷ ys → stored_at xs list at ≡ whole
    → stored_at ys (set list at x) (at + 1) ≡ whole
unfolding stored_at
store-next x ys list at {xs} {whole} e inv =
    let s = sets_more list at x ys in
    let c : at + 1 + length ys ≡ at + suc (length ys) = omega arith in
    let l : stored_at (x ∷ ys) list at ≡ whole = ap (λ (zs : List ℕ). stored_at zs list at) (sym e) ∙ inv in
    cc

pub store-room : (x : ℕ) (ys list : List ℕ) (at : ℕ) (all list₀ : List ℕ) (start : ℕ) {xs : List ℕ} → xs ≡ x ∷ ys → stored_at xs list at ≡ stored_at all list₀ start
    → start + length all ≤ length list₀ → length list ≡ length list₀ → at < length list
store-room x ys list at all list₀ start e inv fits l =
    let q = stored-place _ _ _ _ _ _ inv in
    let n = ap length e in
    omega arith

-- One that passes the test, or not.
pub kept-more : (keep : ℕ → Bool) (x : ℕ) (ys : List ℕ) {xs : List ℕ} → xs ≡ x ∷ ys → {kept_x : Bool} → kept_x ≡ keep x → kept_x ≡ true → kept keep xs ≡ x ∷ kept keep ys
unfolding kept
kept-more keep x ys e k t = ap (kept keep) e ∙ simp (sym k ∙ t)

pub kept-less : (keep : ℕ → Bool) (x : ℕ) (ys : List ℕ) {xs : List ℕ} → xs ≡ x ∷ ys → {kept_x : Bool} → kept_x ≡ keep x → kept_x ≡ false → kept keep xs ≡ kept keep ys
unfolding kept
kept-less keep x ys e k t = ap (kept keep) e ∙ simp (sym k ∙ t)

pub kept-none : (keep : ℕ → Bool) {xs : List ℕ} → xs ≡ [] → kept keep xs ≡ []
unfolding kept
kept-none keep e = ap (kept keep) e
