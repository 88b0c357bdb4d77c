-- The loop below a node, one turn at a time; and the node itself can still be freed after any of its turns.
use Rattle.std.specs.Prelude.{◌≡◌, ◌≢◌, Bool, true, false, eqb}
use Rattle.std.proofs.Math.Path.{refl}
use Rattle.std.proofs.Common.{sym, ap, ◌∙◌}
use Rattle.std.proofs.Math.Bool.{cond}
use mathlib.Core.List.{List, [], ◌∷◌}
use Prim.Native.Nat.{◌-◌, ℕ, zero, suc, ◌<◌, ◌≤◌}
use native.Mathlib.Omega.{arith}
use Rattle.std.proofs.Math.Numerals.{sub-one}
use borrow.Author.Tests.{eqb-false, eq-eqb, ne_eqb}
use Rattle.link.specs.Words.{PARENT, NEXT, FIRST, LAST, link, set_link}
use Rattle.link.specs.Found.{Found, found_b}
use Rattle.link.specs.FoundLaws.{found_is}
use Rattle.link.specs.Only.{Only}
use Rattle.link.proofs.OnlyLaws.{only-link, only_then, only-named}
use Rattle.link.specs.declared.header.Header.{Header}
use Rattle.arena.specs.FreeList.{free_node}
use Rattle.removal.specs.declared.id.Turn.{Turn}
use Rattle.removal.specs.Descendants.{turned, front_left, onward, leaf_freed, turn, remove_descendants}
use Rattle.removal.specs.Freeable.{Freeable}
use Rattle.removal.specs.FreeableLaws.{freeable-only, freeable-freed}

module _ (n : ℕ) (m : List ℕ) (h : Header) (x cursor : ℕ) where
  pub descendants-out : n ≤ 0 → remove_descendants n m h x cursor ≡ (m, h)
  unfolding remove_descendants
  descendants-out l = let e : n ≡ 0 = omega arith in rw e

  pub descendants-step : 0 < n → remove_descendants n m h x cursor ≡
      cond (eqb cursor 0) (m, h)
      (remove_descendants (n - 1) (turn m h x cursor).0 (turn m h x cursor).1.header x (turn m h x cursor).1.cursor)
  unfolding remove_descendants
  descendants-step l = by n l
    where
      by : (k : ℕ) → 0 < k → remove_descendants k m h x cursor ≡
          cond (eqb cursor 0) (m, h)
          (remove_descendants (k - 1) (turn m h x cursor).0 (turn m h x cursor).1.header x (turn m h x cursor).1.cursor)
      by zero g = absurd (omega arith)
      by (suc k) g = simp sub-one

-- A leaf's leaving changes links of its parent alone.
pub only-front : (m : List ℕ) (parent next : ℕ) → Only (parent ∷ []) m (front_left m parent next)
unfolding front_left
only-front m parent next = by (eqb next 0)
  where
    m₁ : List ℕ
    m₁ = set_link m parent FIRST next

    first : Only (parent ∷ []) m m₁
    first = only-link m parent FIRST next (omega arith) (omega arith)

    by : (b : Bool) → Only (parent ∷ []) m (cond b (set_link m₁ parent LAST 0) m₁)
    by true = only-named (λ t o. (o.0, (o.0, tt))) (only_then first (only-link m₁ parent LAST 0 (omega arith) (omega arith)))
    by false = first

module _ (m : List ℕ) (h : Header) (x : ℕ) (f : Freeable m h x) where
  leaf_freeable : (c : ℕ) → Found m h.used c → x ≢ c → Freeable (leaf_freed m h c).0 (leaf_freed m h c).1.header x
  unfolding leaf_freed
  leaf_freeable c g n =
      let only = only-front m (link m c PARENT) (link m c NEXT) in
      let f' = freeable-only h x only f in
      freeable-freed (front_left m (link m c PARENT) (link m c NEXT)) h c x (freeable-only h c only (g, f.1, f.2)) f'.0 n

  pub turn_freeable : (c : ℕ) → Freeable (turn m h x c).0 (turn m h x c).1.header x
  unfolding turn
  turn_freeable c = by (eqb (link m c FIRST) 0) (eqb c x) (found_b m h.used c) refl refl
    where
      R : List ℕ × Turn → Type 0
      R r = Freeable r.0 r.1.header x

      by : (a b d : Bool) → eqb c x ≡ b → found_b m h.used c ≡ d
          → R (cond a (cond b (m, turned h 0) (cond d (leaf_freed m h c) (m, turned h 0))) (m, turned h (link m c FIRST)))
      by false b d p q = f
      by true true d p q = f
      by true false false p q = f
      by true false true p q = leaf_freeable c (found_is m h.used c q) (λ e. eqb-false c x p (sym e))

pub descendants_freeable : (n : ℕ) (m : List ℕ) (h : Header) (x c : ℕ) → Freeable m h x
    → Freeable (remove_descendants n m h x c).0 (remove_descendants n m h x c).1 x
unfolding remove_descendants
descendants_freeable zero m h x c f = f
descendants_freeable (suc n) m h x c f =
    by (eqb c 0) (descendants_freeable n (turn m h x c).0 (turn m h x c).1.header x (turn m h x c).1.cursor (turn_freeable m h x f c))
  where
    R : List ℕ × Header → Type 0
    R r = Freeable r.0 r.1 x

    rest : List ℕ × Header
    rest = remove_descendants n (turn m h x c).0 (turn m h x c).1.header x (turn m h x c).1.cursor

    by : (b : Bool) → R rest → R (cond b (m, h) rest)
    by true r = f
    by false r = r

-- What a turn comes to, by its cases, and what the code reads and writes on the way.
module _ (m : List ℕ) (h : Header) (x cursor : ℕ) {first : ℕ} (read : first ≡ link m cursor FIRST) where
  pub turn_down : (first ≡ 0 → ⊥) → (m, turned h first) ≡ turn m h x cursor
  unfolding turn
  turn_down n =
      simp (ne_eqb (link m cursor FIRST) 0 (λ (e : link m cursor FIRST ≡ 0). n (read ∙ e))) (ap (λ (z : ℕ). (m, turned h z)) read)

  module _ (none : first ≡ 0) where
    pub turn-home : cursor ≡ x → (m, turned h 0) ≡ turn m h x cursor
    unfolding turn
    turn-home e = simp (eq-eqb (link m cursor FIRST) 0 (sym read ∙ none), eq-eqb cursor x e)

    pub turn-lost : (cursor ≡ x → ⊥) → found_b m h.used cursor ≡ false → (m, turned h 0) ≡ turn m h x cursor
    unfolding turn
    turn-lost n e = simp (eq-eqb (link m cursor FIRST) 0 (sym read ∙ none), ne_eqb cursor x n, e)

    pub turn-leaf : (cursor ≡ x → ⊥) → found_b m h.used cursor ≡ true → turn m h x cursor ≡ leaf_freed m h cursor
    unfolding turn
    turn-leaf n e = simp (eq-eqb (link m cursor FIRST) 0 (sym read ∙ none), ne_eqb cursor x n, e)

pub leaf-freed : (m : List ℕ) (h : Header) (leaf : ℕ) {next parent cursor : ℕ} {m₁ m₂ : List ℕ} {h₂ : Header}
    → next ≡ link m leaf NEXT → parent ≡ link m leaf PARENT → m₁ ≡ front_left m parent next → (m₂, h₂) ≡ free_node m₁ h leaf
    → cursor ≡ onward next parent → (m₂, turned h₂ cursor) ≡ leaf_freed m h leaf
unfolding leaf_freed
leaf-freed m h leaf {next} {parent} {cursor} {m₁} {m₂} {h₂} a b e f g =
    ap (λ (z : ℕ). (m₂, turned h₂ z)) g
    ∙ ap (λ (r : List ℕ × Header). (r.0, turned r.1 (onward next parent))) (f ∙ ap (λ (w : List ℕ). free_node w h leaf) e)
    ∙ ap (λ (n : ℕ). let r = free_node (front_left m parent n) h leaf in (r.0, turned r.1 (onward n parent))) a
    ∙ ap (λ (p : ℕ). let r = free_node (front_left m p (link m leaf NEXT)) h leaf in (r.0, turned r.1 (onward (link m leaf NEXT) p))) b
