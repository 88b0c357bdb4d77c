-- Every removed slot in use that is not spent is on the free chain. Ready memory need not be so; memory made by calls is, since each
-- call keeps it: one that leaves stamps and the next of removed slots alone, a removal, a creation.
use Rattle.std.specs.Prelude.{◌≡◌, refl, ◌≢◌, ◌⊎◌, List, [], ◌∷◌, ◌++◌, ◌-◌, ℕ, ◌+◌, ◌*◌, ◌<◌, ◌≤◌, length}
use Rattle.std.proofs.Common.{sym, ap, ◌∙◌, subst, inl, inr, arith, ne_eqb}
use Rattle.std.proofs.Math.Decide.{ℕ_discrete}
use Rattle.link.specs.Ids.{slot_of, stamp_of}
use Rattle.link.specs.Words.{width, STAMP, NUMBER, word}
use Rattle.link.specs.declared.header.Header.{Header}
use Rattle.rules.specs.Lists.{head_or, Off, NoDup, All, In}
use Rattle.rules.specs.Sound.{FreeSlot, Linked, FreeChain}
use Rattle.forest.specs.Lists.{in_left, in_right}
use Rattle.forest.specs.Free.{slots-some, linked-only, free-only}
use Rattle.keeps.specs.Slots.{slot-other, slot-stamp}
use Rattle.keeps.specs.Made.{made-linked}
use Rattle.arena.specs.Nodes.{slot_at}
use Rattle.removed.specs.Gone.{joins, joining, Gone}

abbrev pub FreeOf : List ℕ → Header → Type 0
FreeOf m h = FreeChain (λ s. word m s NUMBER) (FreeSlot m) h.used h.first h.last

abbrev pub Joined : List ℕ → Header → Type 0
Joined m h = (chain : FreeOf m h) (s : ℕ) → 1 ≤ s → s ≤ h.used → 32769 ≤ stamp_of (word m s STAMP) → In s chain.slots

-- ---- stamps and nexts stay

module _ (m m' : List ℕ) (h : Header) (stamps : (s : ℕ) → 1 ≤ s → word m' s STAMP ≡ word m s STAMP)
    (nexts : (s : ℕ) → 1 ≤ s → 32768 ≤ stamp_of (word m s STAMP) → word m' s NUMBER ≡ word m s NUMBER) where
  abbrev Inside : List ℕ → ℕ → Type 0
  Inside w s = (1 ≤ s) × (s ≤ h.used) × FreeSlot w s

  within-back : (fs : List ℕ) → All (Inside m') fs → All (Inside m) fs
  within-back [] a = tt
  within-back (s ∷ fs) a = ((a.0.0, a.0.1, rw (stamps s a.0.0) at a.0.2), within-back fs a.1)

  linked-back : (fs : List ℕ) → All (Inside m) fs → Linked (λ s. word m' s NUMBER) fs → Linked (λ s. word m s NUMBER) fs
  linked-back [] a l = tt
  linked-back (s ∷ fs) a l = (sym (nexts s a.0.0 a.0.2.0) ∙ l.0, linked-back fs a.1 l.1)

  pub joined_same : Joined m h → Joined m' h
  joined_same all chain s a b k =
      all (record {
        both = chain.both;
        slots = chain.slots;
        begins = chain.begins;
        linked = linked-back chain.slots (within-back chain.slots chain.within) chain.linked;
        distinct = chain.distinct;
        within = within-back chain.slots chain.within;
        ends = chain.ends;
      }) s a b (rw (stamps s a) at k)

-- ---- nodes gone

-- a node of these has the slot, or none has
pub slot_among : (s : ℕ) (xs : List ℕ) → ((y : ℕ) × In y xs × (slot_of y ≡ s)) ⊎ ((y : ℕ) → In y xs → slot_of y ≢ s)
slot_among s [] = inr (λ y t. absurd t)
slot_among s (x ∷ xs) = go (ℕ_discrete (slot_of x) s) (slot_among s xs)
  where
    go : Dec (slot_of x ≡ s) → ((y : ℕ) × In y xs × (slot_of y ≡ s)) ⊎ ((y : ℕ) → In y xs → slot_of y ≢ s)
        → ((y : ℕ) × In y (x ∷ xs) × (slot_of y ≡ s)) ⊎ ((y : ℕ) → In y (x ∷ xs) → slot_of y ≢ s)
    go (yes e) r = inl (x, inl refl, e)
    go (no n) (inl (y, t, e)) = inl (y, inr t, e)
    go (no n) (inr f) = inr none
      where
        none : (y : ℕ) → In y (x ∷ xs) → slot_of y ≢ s
        none y (inl e) q = n (ap slot_of (sym e) ∙ q)
        none y (inr t) q = f y t q

joins_in : (y : ℕ) (xs : List ℕ) → In y xs → stamp_of y ≢ 32767 → In (slot_of y) (joining xs)
joins_in y (x ∷ xs) (inl e) n =
    in_left (slot_of y) (joins x) (joining xs) (simp (ne_eqb (stamp_of x) 32767 (λ q. n (ap stamp_of e ∙ q))) (inl (ap slot_of e)))
joins_in y (x ∷ xs) (inr t) n = in_right (slot_of y) (joins x) (joining xs) (joins_in y xs t n)
joins_in y [] x'' n = elim x'' [ ]

module _ (m m' : List ℕ) (h h' : Header) (xs : List ℕ) (G : Gone m h xs m' h') (chain : FreeOf m h) (left : FreeOf m' h')
    (behind : left.slots ≡ chain.slots ++ joining xs) where
  pub joined-gone : Joined m h → Joined m' h'
  joined-gone all c s a b k = subst (In s) (sym (free-only _ _ _ _ _ c left ∙ behind)) (by (slot_among s xs))
    where
      by : ((y : ℕ) × In y xs × (slot_of y ≡ s)) ⊎ ((y : ℕ) → In y xs → slot_of y ≢ s) → In s (chain.slots ++ joining xs)
      by (inl (y, t, e)) =
          let f = (G.were y t).small in
          let w : word m' s STAMP ≡ 65536 + (65535 - stamp_of y) = ap (λ (z : ℕ). word m' z STAMP) (sym e) ∙ G.stamps y t in
          in_right s chain.slots (joining xs) (subst (λ (z : ℕ). In z (joining xs)) e (joins_in y xs t (λ (q : stamp_of y ≡ 32767). omega arith)))
      by (inr n) =
          let u = G.used in
          in_left s chain.slots (joining xs) (all chain s a (omega arith) (rw (G.others s a n) at k))

-- ---- a node made

module _ (m : List ℕ) (h : Header) (chain : FreeOf m h) (v : ℕ) where
  -- in the first slot of the chain
  pub joined-taken : (h' : Header) (k : ℕ) → 0 < h.first → h.first * width ≤ length m → k ≤ 32767 → h'.used ≡ h.used
      → h'.first ≡ word m h.first NUMBER → Joined m h → Joined (slot_at m h.first k v) h'
  joined-taken h' k p room small eu ef all c s a b g =
      by chain.slots chain.begins chain.linked chain.within chain.distinct (all chain s a (omega arith) (rw same at g))
    where
      m' : List ℕ
      m' = slot_at m h.first k v

      other : s ≢ h.first
      other e =
          let w : word m' s STAMP ≡ k = ap (λ (z : ℕ). word m' z STAMP) e ∙ slot-stamp m h.first k v p room in
          let g' : 32769 ≤ stamp_of (word m' s STAMP) = g in omega arith

      same : word m' s STAMP ≡ word m s STAMP
      same = slot-other m h.first k v s STAMP p a (omega arith) other

      by : (fs : List ℕ) → h.first ≡ head_or fs 0 → Linked (λ t. word m t NUMBER) fs → All (λ t. (1 ≤ t) × (t ≤ h.used) × FreeSlot m t) fs
          → NoDup fs → In s fs → In s c.slots
      by (t ∷ fs) b l w d (inl e) = absurd (other (e ∙ sym b))
      by (t ∷ fs) b l w d (inr i) = subst (In s) (sym rest) i
        where
          away : Off h.first fs
          away = subst (λ (z : ℕ). Off z fs) (sym b) d.0

          rest : c.slots ≡ fs
          rest =
              linked-only (λ z. word m' z NUMBER) c.slots fs c.linked
              (made-linked m h.used h.used h.first k v p (omega arith) fs away w.1 l.1)
              (slots-some (FreeSlot m') h'.used c.slots c.within) (slots-some (FreeSlot m) h.used fs w.1)
              (sym c.begins ∙ ef ∙ ap (λ (z : ℕ). word m z NUMBER) b ∙ l.0)
      by [] b l w d x5 = elim x5 [ ]

  -- in the next fresh slot, where the chain is empty
  pub joined-fresh : (h' : Header) (k : ℕ) → h.first ≡ 0 → (h.used + 1) * width ≤ length m → k ≤ 32767 → h'.used ≡ h.used + 1
      → Joined m h → Joined (slot_at m (h.used + 1) k v) h'
  joined-fresh h' k e room small eu all c s a b g =
      absurd (empty chain.slots (sym chain.begins ∙ e) chain.within (all chain s a (let n = other in omega arith) (rw same at g)))
    where
      m' : List ℕ
      m' = slot_at m (h.used + 1) k v

      other : s ≢ h.used + 1
      other q =
          let w : word m' s STAMP ≡ k = ap (λ (z : ℕ). word m' z STAMP) q ∙ slot-stamp m (h.used + 1) k v (omega arith) room in
          let g' : 32769 ≤ stamp_of (word m' s STAMP) = g in omega arith

      same : word m' s STAMP ≡ word m s STAMP
      same = slot-other m (h.used + 1) k v s STAMP (omega arith) a (omega arith) other

      empty : (fs : List ℕ) → head_or fs 0 ≡ 0 → All (λ t. (1 ≤ t) × (t ≤ h.used) × FreeSlot m t) fs → In s fs → ⊥
      empty (t ∷ fs) q w i = let p = w.0.0 in omega arith
      empty [] q w i = elim i [ ]
