-- What leads to a found node's slot is the slot of its predecessor, and nothing leads to a removed slot: so every slot comes to none
-- along leading slots exactly when every node does along predecessors. From the tests of the first pass, and the scan's own theorem.
use Rattle.std.specs.Prelude.{◌≡◌, refl, ◌≢◌, ◌⊎◌, ◌↔◌, Bool, true, false, List, ℕ, zero, suc, ◌≤◌, ltb}
use Rattle.std.proofs.Common.{sym, ap, ◌∙◌, subst, inl, inr, lt_irrefl, suc-ne-zero, arith, ltb-true, ltb-false, ne_eqb}
use Rattle.link.specs.Ids.{id_of, slot_of, stamp_of}
use Rattle.link.specs.Words.{STAMP, PARENT, PREVIOUS, word}
use Rattle.link.specs.Found.{Found}
use Rattle.rules.specs.Links.{par, prv, view}
use Rattle.follow.specs.Follow.{Ends, stop, step}
use Rattle.follow.specs.Marks.{scan, scan_exact}
use Rattle.forest.specs.Found.{found_some}
use Rattle.forest.specs.View.{or_else}
use Rattle.forest.specs.Local.{Local, pred, pred-live}
use Rattle.examine.specs.Slots.{prior_slot, kin_ok, look}
use Rattle.examine.specs.SlotLaws.{kin-most}
use Rattle.examine.specs.Examination.{leading}
use Rattle.examine.specs.LeadingLaws.{leading-most, leading-look}
use Rattle.exact.specs.Kin.{local-each, view-word, kin-true}
use Rattle.exact.specs.FirstPass.{Kinds, id-found, found-id, found-live, look-removed, look-passed}

prior-pred : (parent previous : ℕ) → prior_slot parent previous ≡ slot_of (or_else previous parent)
unfolding prior_slot
prior-pred parent zero = refl
prior-pred parent (suc q) = simp (ne_eqb (suc q) 0 (suc-ne-zero q))

module _ (m : List ℕ) (used : ℕ) (K : Kinds m used) (T : Local (view m) (Found m used)) where
  abbrev back : ℕ → ℕ
  back = pred (view m)

  leading-pred : (x : ℕ) → Found m used x → leading m used (slot_of x) ≡ slot_of (back x)
  leading-pred x f =
      let k : kin_ok m used (slot_of x) (id_of (slot_of x) (word m (slot_of x) STAMP)) ≡ true =
      rw (found-id m used x f) ((kin-true m used x f).1 ((local-each (view m) (Found m used)).0 T x f)) in
      let e : look m used (slot_of x) ≡ prior_slot (word m (slot_of x) PARENT) (word m (slot_of x) PREVIOUS) =
      look-passed m used (slot_of x) (found-live m used x f) f.kind k in
      let l = kin-most m used (slot_of x) _ k in
      leading-look m used (slot_of x) (omega arith) ∙ e ∙ rw (sym (view-word m used par x f), sym (view-word m used prv x f)) (prior-pred (view m par x) (view m prv x))

  leading_none : (s : ℕ) → 32768 ≤ stamp_of (word m s STAMP) → leading m used s ≡ 0
  leading_none s h = let e = look-removed m used s h in leading-look m used s (omega arith) ∙ e

  slot-some : (x : ℕ) → Found m used x → slot_of x ≢ 0
  slot-some x f e = let a = f.from in lt_irrefl 0 (omega arith)

  nodes-end : {s : ℕ} → Ends (leading m used) s → (x : ℕ) → Found m used x → slot_of x ≡ s → Ends back x
  nodes-end stop x f e = absurd (slot-some x f e)
  nodes-end (step {x = s} h r) x f e = step (found_some m used x f) (go (pred-live (view m) (Found m used) T x f) (λ g w. nodes-end r (back x) g w))
    where
      go : (back x ≡ 0) ⊎ Found m used (back x) → (Found m used (back x) → slot_of (back x) ≡ leading m used s → Ends back (back x)) → Ends back (back x)
      go (inl q) ih = rw q stop
      go (inr g) ih = ih g (sym (leading-pred x f) ∙ ap (leading m used) e)

  slots_end : {x : ℕ} → Ends back x → Found m used x → Ends (leading m used) (slot_of x)
  slots_end stop f = absurd (found_some m used 0 f refl)
  slots_end (step {x = x} h r) f = step (slot-some x f) (rw (leading-pred x f) (go (pred-live (view m) (Found m used) T x f) (slots_end r)))
    where
      go : (back x ≡ 0) ⊎ Found m used (back x) → (Found m used (back x) → Ends (leading m used) (slot_of (back x))) → Ends (leading m used) (slot_of (back x))
      go (inl q) ih = rw q stop
      go (inr g) ih = ih g

  every-slot : ((x : ℕ) → Found m used x → Ends back x) → (s : ℕ) → 1 ≤ s → s ≤ used → Ends (leading m used) s
  every-slot h s a b = go (ltb 32767 (stamp_of (word m s STAMP))) refl
    where
      go : (t : Bool) → ltb 32767 (stamp_of (word m s STAMP)) ≡ t → Ends (leading m used) s
      go true e = step (λ (z : s ≡ 0). lt_irrefl 0 (omega arith)) (rw (leading_none s (ltb-true 32767 (stamp_of (word m s STAMP)) e)) stop)
      go false e =
          let l = ltb-false 32767 (stamp_of (word m s STAMP)) e in
          let (q, f) = id-found m used s a b l (K s a b l) in
          subst (Ends (leading m used)) q (slots_end (h _ f) f)

  pub no_cycle : (scan (leading m used) used used 1 (λ _. 0) ≡ true) ↔ ((x : ℕ) → Found m used x → Ends (pred (view m)) x)
  no_cycle =
      let s = scan_exact (leading m used) used (λ y _. leading-most m used y) (λ _. 0) (λ _. refl) in
      (λ e x f. nodes-end (s.0 e (slot_of x) f.from f.upto) x f refl, λ h. s.1 (every-slot h))
