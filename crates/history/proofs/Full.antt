-- A creation that nothing else refuses answers FULL exactly when each slot is live or was handed out 32,768 times and is removed; else DONE.
-- The free chain is empty then: every slot that can be reused would be on it, and the stamp says how often a slot was handed out.
use Rattle.std.specs.Prelude.{◌≡◌, ◌⊎◌, ◌↔◌, length}
use Rattle.std.proofs.Math.Path.{sym, ap}
use Rattle.std.proofs.Common.{◌∙◌, subst, inl, inr, arith, ne_eqb}
use mathlib.Core.List.{List, ◌∷◌}
use Prim.Native.Nat.{◌-◌, ℕ, ◌+◌, ◌≤◌}
use Rattle.std.proofs.Math.Decide.{ℕ_discrete, dec_le}
use Rattle.link.specs.Ids.{stamp_of}
use Rattle.link.specs.Words.{STAMP, capacity_of, word}
use Rattle.link.specs.FoundLaws.{is_found}
use Rattle.link.specs.declared.header.Header.{Header}
use Rattle.rules.specs.Answers.{DONE, FULL}
use Rattle.rules.specs.declared.answer.Answer.{Answer}
use Rattle.rules.specs.Lists.{head_or, All, In}
use Rattle.rules.specs.Sound.{FreeSlot}
use Rattle.forest.specs.Found.{live-found}
use Rattle.arena.specs.Create.{new_node}
use Rattle.arena.specs.CreateLaws.{first-free}
use Rattle.keeps.specs.Handouts.{handouts}
use Rattle.keeps.specs.HandoutLaws.{handouts-removed, times_in_lem, times_none}
use Rattle.keeps.specs.New.{new-number, new-refused}
use Rattle.moves.specs.Values.{value_no, value_node}
use Rattle.moves.specs.declared.place.Place.{Place}
use Rattle.keeps_moves.proofs.Value.{value-done_exact, value_is-move}
use Rattle.command.specs.Commands.{changed}
use Rattle.command.specs.declared.call.Change.{Change}
use Rattle.command.specs.declared.call.Change.TheVariants.{New, Value}
use Rattle.history.specs.Calls.{Memory, change, number_of, called}
use Rattle.history.specs.History.{Event, handed, times_of, LiveIn, NoneLeft, Acceptable}
use Rattle.history.specs.Steps.{Fine}
use Rattle.history.proofs.ChangeSteps.{passes}
use Rattle.history.specs.Invariant.{Good}
use Rattle.moves.specs.ValueLaws as value

module _ (size : ℕ) (w : Memory) (es : List Event) (G : Good size w es) where
  abbrev m : List ℕ
  m = w.words

  abbrev h : Header
  h = w.header

  F : Fine w
  F = G.fine

  abbrev bits : ℕ → ℕ
  bits s = stamp_of (word m s STAMP)

  -- a live slot has the stamp of its node
  live-bits : (s : ℕ) → LiveIn w s → bits s ≤ 32767
  live-bits s (x, e, f) =
      let a : bits s ≡ stamp_of x = ap bits (sym e) ∙ f.stamp in
      let b = f.small in omega arith

  -- no slot left: no free chain, and no fresh slot
  none-full : NoneLeft w es → (h.first ≡ 0) × (h.used ≡ capacity_of (length m))
  none-full none = (first (ℕ_discrete h.first 0), used (dec_le (capacity_of (length m)) h.used))
    where
      first : Dec (h.first ≡ 0) → h.first ≡ 0
      first (yes e) = e
      first (no n) =
          let q = first-free m h F.ready (omega arith) in
          let a = q.0 in
          let b = q.1 in
          let f = F.fits in absurd (go b a (none h.first (omega arith) (omega arith)))
        where
          go : 32769 ≤ bits h.first → h.first ≤ h.used → LiveIn w h.first ⊎ ((times_of h.first (handed es) ≡ 32768) × (LiveIn w h.first → ⊥)) → ⊥
          go b a (inl l) = let c = live-bits h.first l in omega arith
          go b a (inr t) =
              let c : 65536 - bits h.first ≡ 32768 = sym (handouts-removed (bits h.first) (omega arith)) ∙ sym (times_in_lem m h.used h.first a)
              ∙ sym (G.times h.first (omega arith)) ∙ t.0 in omega arith

      used : Dec (capacity_of (length m) ≤ h.used) → h.used ≡ capacity_of (length m)
      used (yes l) = let f = F.fits in omega arith
      used (no l) = absurd (go (none (h.used + 1) (omega arith) (omega arith)))
        where
          go : LiveIn w (h.used + 1) ⊎ ((times_of (h.used + 1) (handed es) ≡ 32768) × (LiveIn w (h.used + 1) → ⊥)) → ⊥
          go (inl (x, e, f)) = let b = f.upto in omega arith
          go (inr t) =
              let c : ◌≡◌ {A = ℕ} 0 32768 = sym (times_none m h.used (h.used + 1) (omega arith)) ∙ sym (G.times (h.used + 1) (omega arith)) ∙ t.0 in
              omega arith

  full_none : h.first ≡ 0 → h.used ≡ capacity_of (length m) → NoneLeft w es
  full_none first used s a b = by (dec_le (bits s) 32767) (ℕ_discrete (bits s) 32768)
    where
      l : s ≤ h.used
      l = omega arith

      by : Dec (bits s ≤ 32767) → Dec (bits s ≡ 32768) → LiveIn w s ⊎ ((times_of s (handed es) ≡ 32768) × (LiveIn w s → ⊥))
      by (yes k) d = let r = live-found m h.used s a l k (F.ready.sound.kind s a l k) in inl (r.0, r.1, r.2)
      by (no k) (yes e) = inr (
        G.times s a ∙ times_in_lem m h.used s l ∙ ap handouts e ∙ handouts-removed 32768 (omega arith),
        λ q. k (live-bits s q),
      )
      by (no k) (no n) =
          let q = F.ready.sound.free in
          absurd (empty q.slots (sym q.begins ∙ first) q.within (F.joined q s a l (omega arith)))
        where
          empty : (fs : List ℕ) → head_or fs 0 ≡ 0 → All (λ t. (1 ≤ t) × (t ≤ h.used) × FreeSlot m t) fs → In s fs → ⊥
          empty (t ∷ fs) e v i = let p = v.0.0 in omega arith
          empty mathlib.Core.List.[] e v i = elim i [ ]

  -- what a creation answers, by the free chain and the fresh slots
  told : (c : Change) (a b : ℕ) → number_of (called (change c a b) w).1 ≡ (changed c a b m h).1.number
  told c a b = ap (λ (r : List ℕ × List ℕ × Answer). r.2.number) (passes w F (changed c a b m h))

  abbrev Exactly : ℕ → Type 0
  Exactly n = ((n ≡ FULL) ↔ NoneLeft w es) × ((n ≡ DONE) ↔ (NoneLeft w es → ⊥))

  new_exactly : (v : ℕ) → Exactly (new_node m h v).1.number
  new_exactly v = (
    (λ e. let q = full.0 e in full_none q.0 q.1, λ n. full.1 (none-full n)),
    (λ e n. let q = full.1 (none-full n) in let z : DONE ≡ FULL = sym e ∙ q in absurd (omega arith), λ k. done k (ℕ_discrete number DONE)),
  )
    where
      number : ℕ
      number = (new_node m h v).1.number

      full : ((new_node m h v).1.number ≡ FULL) ↔ ((h.first ≡ 0) × (h.used ≡ capacity_of (length m)))
      full = new-number m h v F.fits

      done : (NoneLeft w es → ⊥) → Dec ((new_node m h v).1.number ≡ DONE) → (new_node m h v).1.number ≡ DONE
      done k (yes e) = e
      done k (no n) =
          let q = full.0 (ap (λ (r : List ℕ × Answer). r.1.number) (new-refused m h v F.fits n)) in absurd (k (full_none q.0 q.1))

  value-number : (place : Place) (a b : ℕ) → (value_node place m h a b).1.number ≡ value_no m h a
  unfolding value_node
  value-number place a b = by (ℕ_discrete (value_no m h a) DONE)
    where
      by : Dec (value_no m h a ≡ DONE) → (value_node place m h a b).1.number ≡ value_no m h a
      by (yes e) =
          ap (λ (r : List ℕ × Answer). r.1.number) (value_is-move m h F.fits F.ready place a b e)
          ∙ ((value-done_exact m h F.fits F.ready place a b).0 e).1 ∙ sym e
      by (no n) = simp (ne_eqb (value_no m h a) DONE n)

  pub creation_exactly : (c : Change) (a b : ℕ) → Acceptable w c a → Exactly (number_of (called (change c a b) w).1)
  creation_exactly New a b ok = subst Exactly (sym (told New a b)) (new_exactly a)
  creation_exactly (Value place) a b ok =
      subst Exactly (sym (told (Value place) a b ∙ value-number place a b ∙ value.value_found m h a (is_found m h.used a ok) ∙ sym (value.new-number m h b)))
      (new_exactly b)
  creation_exactly (Rattle.command.specs.declared.call.Change.TheVariants.Move _) a b ok = elim ok [ ]
  creation_exactly Rattle.command.specs.declared.call.Change.TheVariants.Detach a b ok = elim ok [ ]
  creation_exactly Rattle.command.specs.declared.call.Change.TheVariants.DetachChildren a b ok = elim ok [ ]
  creation_exactly Rattle.command.specs.declared.call.Change.TheVariants.Remove a b ok = elim ok [ ]
  creation_exactly Rattle.command.specs.declared.call.Change.TheVariants.RemoveChildren a b ok = elim ok [ ]
  creation_exactly Rattle.command.specs.declared.call.Change.TheVariants.RemoveSubtree a b ok = elim ok [ ]
