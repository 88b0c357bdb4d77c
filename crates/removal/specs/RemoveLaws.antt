-- Taking a node out and hoisting its children change links alone, so the node can still be freed; and what a call comes to, by its cases.
use Rattle.std.specs.Prelude.{◌≡◌, Bool, cond, eqb, length}
use Rattle.std.proofs.Common.{sym, ◌∙◌, subst}
use Rattle.std.proofs.Math.Path.{ap}
use Rattle.std.proofs.Math.Bool.{true, false}
use mathlib.Core.List.{List}
use Prim.Native.Nat.{ℕ, ◌≤◌}
use Rattle.link.specs.Words.{PARENT, PREVIOUS, NEXT, FIRST, LAST, capacity_of, link}
use Rattle.link.specs.Found.{found_b}
use Rattle.link.specs.FoundLaws.{found_is}
use Rattle.link.proofs.OnlyLaws.{only_then, only-detach, only_rewrite, only-transplant}
use Rattle.link.specs.Siblings.{detach_range, transplanted}
use Rattle.link.specs.declared.header.Header.{Header}
use Rattle.rules.specs.Answers.{DONE, REMOVED, refusal, answer}
use Rattle.sound.specs.GuardLaws.{capacity-fits}
use Rattle.arena.specs.FreeList.{free_node}
use Rattle.removal.specs.Remove.{when_found, steps_for, detached, hoisted, removed, descendants_removed, subtree_removed}
use Rattle.removal.specs.Freeable.{Freeable}
use Rattle.removal.specs.FreeableLaws.{freeable-only}
use Rattle.removal.specs.Descendants.{turns_for}
use Rattle.removal.specs.DescendantLaws.{descendants_freeable}

module _ (m : List ℕ) (h : Header) (x : ℕ) (f : Freeable m h x) where
  detached_freeable : (steps y : ℕ) → Freeable (detached steps m y) h x
  unfolding detached
  detached_freeable steps y = freeable-only h x (only_then (only-detach m y y) (only_rewrite steps (detach_range m y y) y 0)) f

  hoisted_freeable : (steps first last parent previous next : ℕ) → Freeable (hoisted steps m first last parent previous next) h x
  unfolding hoisted
  hoisted_freeable steps first last parent previous next = by (eqb first 0) (eqb last 0)
    where
      by : (a b : Bool)
          → Freeable (cond a m (cond b m (transplanted steps (detach_range m first last) first last parent previous next).0)) h x
      by true b = f
      by false true = f
      by false false = freeable-only h x (only_then (only-detach m first last) (only-transplant steps (detach_range m first last) first last parent previous next)) f

-- The node can be freed where the code comes to free it.
module _ (m : List ℕ) (h : Header) (x : ℕ) (f : Freeable m h x) {m₁ : List ℕ} where
  pub out_freeable : (steps : ℕ) → m₁ ≡ detached steps m x → Freeable m₁ h x
  out_freeable steps e = subst (λ (w : List ℕ). Freeable w h x) (sym e) (detached_freeable m h x f steps x)

  pub hoist_freeable : (steps first last parent previous next : ℕ) {m₂ : List ℕ} → m₁ ≡ detached steps m x
      → m₂ ≡ hoisted steps m₁ first last parent previous next → Freeable m₂ h x
  hoist_freeable steps first last parent previous next e g =
      subst (λ (w : List ℕ). Freeable w h x) (sym g) (hoisted_freeable m₁ h x (out_freeable steps e) steps first last parent previous next)

  pub below_freeable : (steps : ℕ) {m₂ : List ℕ} {h₂ : Header} → m₁ ≡ detached steps m x → (m₂, h₂) ≡ descendants_removed m₁ h x
      → Freeable m₂ h₂ x
  below_freeable steps e g =
      subst (λ (p : List ℕ × Header). Freeable p.0 p.1 x) (sym g) (descendants_freeable (turns_for h.used) m₁ h x x (out_freeable steps e))

-- Found, or refused.
module _ (m : List ℕ) (h : Header) (x : ℕ) where
  pub found_freeable : found_b m h.used x ≡ true → h.used ≤ capacity_of (length m) → h.last ≤ h.used → Freeable m h x
  found_freeable e l k = (found_is m h.used x e, (capacity-fits (length m) h.used l).1, k)

  pub when-found : (after : List ℕ × Header) → found_b m h.used x ≡ true → when_found m h x after ≡ (after.0, answer after.1 DONE 0)
  unfolding when_found refusal
  when-found after e = simp e

  pub when-not : (after : List ℕ × Header) → found_b m h.used x ≡ false → when_found m h x after ≡ (m, answer h REMOVED 0)
  unfolding when_found refusal
  when-not after e = simp e

-- What the code reads and writes on the way.
module _ (m : List ℕ) (h : Header) (x : ℕ) {m₁ : List ℕ} (out : m₁ ≡ detached (steps_for h.used) m x) where
  pub removed_by : {parent previous next first last : ℕ} {m₂ : List ℕ} {r : List ℕ × Header}
      → parent ≡ link m x PARENT → previous ≡ link m x PREVIOUS → next ≡ link m x NEXT → first ≡ link m x FIRST → last ≡ link m x LAST
      → m₂ ≡ hoisted (steps_for h.used) m₁ first last parent previous next → r ≡ free_node m₂ h x → r ≡ removed m h x
  unfolding removed
  removed_by a b c d e f g = cc

  pub subtree_by : {m₂ : List ℕ} {h₂ : Header} {r : List ℕ × Header} → (m₂, h₂) ≡ descendants_removed m₁ h x → r ≡ free_node m₂ h₂ x
      → r ≡ subtree_removed m h x
  unfolding subtree_removed
  subtree_by f g =
      g ∙ ap (λ (p : List ℕ × Header). free_node p.0 p.1 x) (f ∙ ap (λ (w : List ℕ). descendants_removed w h x) out)
