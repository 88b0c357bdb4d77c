-- What a creation comes to, by its three cases; and what ready memory says of the slot that it takes.
use Rattle.std.specs.Prelude.{◌≡◌, List, [], ◌∷◌, ℕ, ◌+◌, ◌<◌, ◌≤◌, length, Some}
use Rattle.std.proofs.Common.{sym, ap, ◌∙◌, arith}
use Rattle.std.proofs.Math.Decide.{ℕ_discrete}
use borrow.Author.Tests.{eq-eqb, ne_eqb}
use Rattle.link.specs.Ids.{id_of, stamp_of}
use Rattle.link.specs.Stamps.{reused_bits}
use Rattle.link.specs.Words.{STAMP, capacity_of, word}
use Rattle.link.specs.declared.header.Header.{Header}
use Rattle.rules.specs.Lists.{head_or, All}
use Rattle.rules.specs.Sound.{FreeSlot, Unspent, Ready}
use Rattle.rules.specs.Answers.{DONE, FULL, refusal, answer, header}
use Rattle.arena.specs.declared.arena.Popped.{Popped}
use Rattle.arena.specs.Nodes.{slot_at}
use Rattle.arena.specs.FreeList.{pop_front, pop_free}
use Rattle.arena.specs.FreeListLaws.{taken-first, none-first}
use Rattle.arena.specs.Create.{full_b, made, fresh, reused, new_node}

-- The first free slot is in use, removed and not spent.
pub first-free : (m : List ℕ) (h : Header) → Ready m h → 0 < h.first → (h.first ≤ h.used) × (32769 ≤ stamp_of (word m h.first STAMP))
first-free m h R p = by R.sound.free.slots R.sound.free.begins R.sound.free.within R.unspent
  where
    by : (fs : List ℕ) → h.first ≡ head_or fs 0 → All (λ s. (1 ≤ s) × (s ≤ h.used) × FreeSlot m s) fs → All (Unspent m) fs
        → (h.first ≤ h.used) × (32769 ≤ stamp_of (word m h.first STAMP))
    by [] e a b = absurd (omega arith)
    by (s ∷ fs) e a b = rw e (a.0.1, (let n = b.0 in let k = a.0.2.0 in omega arith))

-- Where there is none, first is 0.
pub first-within : (m : List ℕ) (h : Header) → Ready m h → h.first ≤ h.used
first-within m h R = by (ℕ_discrete h.first 0)
  where
    by : Dec (h.first ≡ 0) → h.first ≤ h.used
    by (yes z) = omega arith
    by (no n) = (first-free m h R (omega arith)).0

module _ (m : List ℕ) (h : Header) (number : ℕ) where
  -- What was written and answered for a fresh slot, and for one from the chain.
  pub fresh-made : {stamp id : ℕ} {m₁ : List ℕ} → stamp ≡ 0 → m₁ ≡ slot_at m (h.used + 1) stamp number → id ≡ id_of (h.used + 1) stamp
      → (m₁, answer (header (h.used + 1) h.first h.last) DONE id) ≡ fresh m h number
  unfolding fresh
  fresh-made e f g = cc

  pub reused-made : {taken : Popped} {stamp id : ℕ} {m₁ : List ℕ} → taken ≡ pop_front m h → stamp ≡ reused_bits (stamp_of (word m taken.slot STAMP))
      → m₁ ≡ slot_at m taken.slot stamp number → id ≡ id_of taken.slot stamp → (m₁, answer taken.header DONE id) ≡ reused m h number
  unfolding reused
  reused-made e f g k = cc

  pub new-reused : 0 < h.first → new_node m h number ≡ reused m h number
  unfolding new_node refusal full_b
  new-reused p = simp (ne_eqb h.first 0 (λ (e : h.first ≡ 0). omega arith))

  pub new-taken : (taken : Popped) → pop_free m h ≡ Some taken
      → made m taken.header taken.slot (reused_bits (stamp_of (word m taken.slot STAMP))) number ≡ new_node m h number
  unfolding reused
  new-taken taken e =
      let t = taken-first m h taken e in
      ap (λ (p : Popped). made m p.header p.slot (reused_bits (stamp_of (word m p.slot STAMP))) number) t.1 ∙ sym (new-reused t.0)

  pub new-fresh : h.first ≡ 0 → h.used < capacity_of (length m) → new_node m h number ≡ fresh m h number
  unfolding new_node refusal full_b
  new-fresh e l = simp (eq-eqb h.first 0 e, ne_eqb h.used (capacity_of (length m)) (λ (q : h.used ≡ capacity_of (length m)). omega arith))

  pub new-full : h.first ≡ 0 → h.used ≡ capacity_of (length m) → new_node m h number ≡ (m, answer h FULL 0)
  unfolding new_node refusal full_b
  new-full e q = simp (eq-eqb h.first 0 e, eq-eqb h.used (capacity_of (length m)) q)

-- For the choice between the chain, a fresh slot and none.
pub ruleset creation = (taken-first, none-first, new-taken, new-fresh, new-full)
