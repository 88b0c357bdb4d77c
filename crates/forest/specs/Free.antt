-- The free chain, as it is defined and as a loop of at most used + 1 steps decides it, each from the other: distinctness and the
-- count follow from the chain's coming to none, and first and last being both none or both present from its ending at last.
use Rattle.std.specs.Prelude.{◌≡◌, refl, ◌↔◌, List, [], ◌∷◌, ℕ, zero, suc, ◌≤◌, length}
use Rattle.std.proofs.Common.{sym, ap, ap₂, ◌∙◌, subst, suc-le-suc, arith}
use Rattle.rules.specs.Lists.{head_or, last_or, Off, NoDup, All}
use Rattle.rules.specs.Sound.{Linked, FreeChain}
use Rattle.forest.specs.Lists.{all_map, last_some}
use Rattle.follow.specs.Pigeons.{Below, pigeons}
use Rattle.follow.specs.Follow.{EndsIn, path, path-head, path_nodup}

-- what the loop finds: after few steps from first there is none, and each slot met is in order
pub record Followed (next : ℕ → ℕ) (ok : ℕ → Type 0) (used first last : ℕ) : Type 0 where
  pub steps : ℕ
  pub few : steps ≤ used
  pub comes : EndsIn next steps first
  pub fine : All (λ s. (s ≤ used) × ok s) (path next steps first)
  pub at_last : last ≡ last_or 0 (path next steps first)

-- a slot is not 0
pub slots-some : (ok : ℕ → Type 0) (used : ℕ) (fs : List ℕ) → All (λ s. (1 ≤ s) × (s ≤ used) × ok s) fs → Off 0 fs
slots-some ok used [] h = tt
slots-some ok used (s ∷ fs) h = ((λ z. let k = h.0.0 in omega arith), slots-some ok used fs h.1)

-- one chain only, from one first slot
pub linked-only : (next : ℕ → ℕ) (xs ys : List ℕ) → Linked next xs → Linked next ys → Off 0 xs → Off 0 ys → head_or xs 0 ≡ head_or ys 0 → xs ≡ ys
linked-only f [] [] l k z w e = refl
linked-only f [] (y ∷ ys) l k z w e = absurd (w.0 e)
linked-only f (x ∷ xs) [] l k z w e = absurd (z.0 (sym e))
linked-only f (x ∷ xs) (y ∷ ys) l k z w e = ap₂ ◌∷◌ e (linked-only f xs ys l.1 k.1 z.1 w.1 (sym l.0 ∙ ap f e ∙ k.0))

path-linked : (f : ℕ → ℕ) (n x : ℕ) → EndsIn f n x → Linked f (path f n x)
path-linked f zero x a = tt
path-linked f (suc n) x a = (path-head f n (f x) a.1, path-linked f n (f x) a.1)

linked-comes : (f : ℕ → ℕ) (fs : List ℕ) → Linked f fs → Off 0 fs → EndsIn f (length fs) (head_or fs 0) × (path f (length fs) (head_or fs 0) ≡ fs)
linked-comes f [] l h = (refl, refl)
linked-comes f (s ∷ fs) l h =
    let (a, e) = linked-comes f fs l.1 h.1 in
    ((λ z. h.0 (sym z), subst (EndsIn f (length fs)) (sym l.0) a), ap (λ (zs : List ℕ). s ∷ zs) (ap (path f (length fs)) l.0 ∙ e))

module _ (next : ℕ → ℕ) (ok : ℕ → Type 0) (used first last : ℕ) where
  abbrev Inside : List ℕ → Type 0
  Inside fs = All (λ s. (1 ≤ s) × (s ≤ used) × ok s) fs

  pub both_ends : (fs : List ℕ) → first ≡ head_or fs 0 → last ≡ last_or 0 fs → Off 0 fs → (first ≡ 0) ↔ (last ≡ 0)
  both_ends [] a b z = (λ _. b, λ _. a)
  both_ends (s ∷ fs) a b z = (λ e. absurd (z.0 (sym e ∙ a)), λ e. absurd (last_some s fs z (sym b ∙ e)))

  -- what is left to say of a list of slots to be the free chain
  abbrev pub free_chain : (fs : List ℕ) → first ≡ head_or fs 0 → Linked next fs → NoDup fs → Inside fs → last ≡ last_or 0 fs
      → FreeChain next ok used first last
  free_chain fs a l d w b = record { both = both_ends fs a b (slots-some ok used fs w); slots = fs; begins = a; linked = l; distinct = d; within = w; ends = b }

  pub free-only : (c d : FreeChain next ok used first last) → c.slots ≡ d.slots
  free-only c d =
      linked-only next c.slots d.slots c.linked d.linked
      (slots-some ok used c.slots c.within) (slots-some ok used d.slots d.within) (sym c.begins ∙ d.begins)

  pub followed-chain : Followed next ok used first last → FreeChain next ok used first last
  followed-chain w = free_chain (path next w.steps first) (path-head next w.steps first w.comes) (path-linked next w.steps first w.comes)
      (path_nodup next w.steps first w.comes) (inside w.steps first w.comes w.fine) w.at_last
    where
      inside : (m y : ℕ) → EndsIn next m y → All (λ s. (s ≤ used) × ok s) (path next m y) → Inside (path next m y)
      inside zero y b h = tt
      inside (suc m) y b h = ((let z = b.0 in omega arith, h.0.0, h.0.1), inside m (next y) b.1 h.1)

  pub chain-followed : FreeChain next ok used first last → Followed next ok used first last
  chain-followed c =
      let off : Off 0 c.slots = slots-some ok used c.slots c.within in
      let (a, e) = linked-comes next c.slots c.linked off in
      record {
        steps = length c.slots;
        few = few off;
        comes = subst (EndsIn next (length c.slots)) (sym c.begins) a;
        fine = rw (c.begins, e) (all_map _ _ (λ s h. (h.1, h.2)) c.slots c.within);
        at_last = c.ends ∙ ap (last_or 0) (sym (ap (path next (length c.slots)) c.begins ∙ e));
      }
    where
      -- with 0 they are distinct numbers up to used
      few : Off 0 c.slots → length c.slots ≤ used
      few off =
          let b : Below (suc used) (0 ∷ c.slots) = (omega arith, all_map _ _ (λ s h. suc-le-suc h.1) c.slots c.within) in
          let p = pigeons (suc used) (0 ∷ c.slots) b (off, c.distinct) in omega arith
