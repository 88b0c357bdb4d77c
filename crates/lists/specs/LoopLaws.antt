-- What a loop that counts or stores a list does in one turn, at its start and at its end.
-- From the laws over any step.
use Rattle.std.specs.Prelude.{◌≡◌, refl, Bool, true, false, cond, not, List, [], ◌-◌, ℕ, ◌+◌, ◌<◌, ◌≤◌, leb, ltb, length}
use Rattle.std.proofs.Common.{sym, ◌∙◌, arith, ltb-true, ltb-false, le-leb}
use Rattle.std.proofs.Math.Path.{ap}
use Rattle.std.proofs.lemmas.Bool.{lt-leb}
use Rattle.lists.specs.Orders.{first_of, step_of, keep_b, ordered}
use Rattle.lists.specs.Storing.{put_if, stored_at}
use Rattle.lists.specs.OrderLaws.{stored-done, stored-place, list_from, from_out, length-step, stored-step, kept-some}
use Rattle.lists.specs.declared.order.Order.{Order}

-- A list by an order, from the node that comes first.
module _ (m : List ℕ) (used : ℕ) (order : Order) (root : ℕ) where
  pub from_first : (x : ℕ) → x ≡ first_of m order root → list_from (keep_b m order) (step_of m used order root) used x ≡ ordered m used order root
  unfolding ordered list_from
  from_first x e = ap (list_from (keep_b m order) (step_of m used order root) used) e

module _ (keep : ℕ → Bool) (step : ℕ → ℕ) where
  -- Counting.
  pub count-more : (n x count : ℕ) {kept : Bool} {one next total : ℕ} → 0 < n → (x ≡ 0 → ⊥) → kept ≡ keep x → one ≡ cond kept 1 0 → next ≡ step x
      → count + length (list_from keep step n x) ≡ total → count + one + length (list_from keep step (n - 1) next) ≡ total
  count-more n x count {kept} {one} {next} h k e f g inv =
      let s = length-step keep step n x h k in
      let o : one ≡ cond (keep x) 1 0 = f ∙ ap (λ (b : Bool). cond b 1 0) e in
      let l : length (list_from keep step (n - 1) next) ≡ length (list_from keep step (n - 1) (step x)) = ap (λ (y : ℕ). length (list_from keep step (n - 1) y)) g in
      omega arith

  pub count-end : (n x count : ℕ) {total : ℕ} → list_from keep step n x ≡ [] → count + length (list_from keep step n x) ≡ total → count ≡ total
  count-end n x count e inv = let z : length (list_from keep step n x) ≡ 0 = ap length e in omega arith

  -- The last that can be: no step is asked for.
  pub count-last : (n x count : ℕ) {kept : Bool} {one total : ℕ} → 0 < n → (x ≡ 0 → ⊥) → kept ≡ keep x → one ≡ cond kept 1 0 → n - 1 ≡ 0
      → count + length (list_from keep step n x) ≡ total → count + one ≡ total
  count-last n x count {kept} {one} h k e f z inv =
      count-end (n - 1) (step x) (count + one) (from_out keep step (n - 1) (step x) (omega arith)) (count-more n x count h k e f refl inv)

  -- Storing.
  pub store-place : (n x : ℕ) (list : List ℕ) (at : ℕ) (xs list₀ : List ℕ) (start : ℕ) {kept : Bool} → 0 < n → (x ≡ 0 → ⊥) → kept ≡ keep x → kept ≡ true
      → stored_at (list_from keep step n x) list at ≡ stored_at xs list₀ start → start + length xs ≤ length list₀ → length list ≡ length list₀ → at < length list
  store-place n x list at xs list₀ start h k e t inv fits l =
      let q = stored-place _ _ _ _ _ _ inv in
      let s = kept-some keep step n x h k (sym e ∙ t) in
      omega arith

  pub store-more : (n x : ℕ) (list : List ℕ) (at : ℕ) {kept : Bool} {list' : List ℕ} {at' next : ℕ} {whole : List ℕ × ℕ} → 0 < n → (x ≡ 0 → ⊥) → kept ≡ keep x
      → (list', at') ≡ put_if kept list at x → next ≡ step x → stored_at (list_from keep step n x) list at ≡ whole
      → stored_at (list_from keep step (n - 1) next) list' at' ≡ whole
  store-more n x list at {kept} {list'} {at'} {next} h k e p g inv =
      let q : (list', at') ≡ put_if (keep x) list at x = p ∙ ap (λ (b : Bool). put_if b list at x) e in
      ap (λ (y : ℕ). stored_at (list_from keep step (n - 1) y) list' at') g
      ∙ ap (λ (w : List ℕ × ℕ). stored_at (list_from keep step (n - 1) (step x)) w.0 w.1) q
      ∙ sym (stored-step keep step n x list at h k) ∙ inv

  pub store-end : (n x : ℕ) (list : List ℕ) (at : ℕ) {whole : List ℕ × ℕ} → list_from keep step n x ≡ []
      → stored_at (list_from keep step n x) list at ≡ whole → (list, at) ≡ whole
  store-end n x list at e inv = sym (stored-done list at) ∙ ap (λ (xs : List ℕ). stored_at xs list at) (sym e) ∙ inv

  pub store-last : (n x : ℕ) (list : List ℕ) (at : ℕ) {kept : Bool} {list' : List ℕ} {at' : ℕ} {whole : List ℕ × ℕ} → 0 < n → (x ≡ 0 → ⊥) → kept ≡ keep x
      → (list', at') ≡ put_if kept list at x → n - 1 ≡ 0 → stored_at (list_from keep step n x) list at ≡ whole → (list', at') ≡ whole
  store-last n x list at {kept} {list'} {at'} h k e p z inv =
      store-end (n - 1) (step x) list' at' (from_out keep step (n - 1) (step x) (omega arith)) (store-more n x list at h k e p refl inv)

-- One test for the other.
pub leb-not : (a b : ℕ) → leb a b ≡ not (ltb b a)
leb-not a b = by (ltb b a) refl
  where
    by : (t : Bool) → ltb b a ≡ t → leb a b ≡ not t
    by true e = lt-leb a b (ltb-true b a e)
    by false e = le-leb a b (ltb-false b a e)
