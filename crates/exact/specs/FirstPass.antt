-- Every slot passes exactly when every live slot has kind 0 and its node passes the tests of `Local`: each live slot of kind 0 has its
-- one found identifier. From the tests of one node.
use Rattle.std.specs.Prelude.{◌≡◌, ◌↔◌, Bool, cond, List, ℕ, ◌≤◌}
use Rattle.std.proofs.Math.Path.{refl}
use Rattle.std.proofs.Common.{sym, ap, ◌∙◌, lt_irrefl}
use Rattle.std.proofs.Math.Bool.{true, false}
use Rattle.std.proofs.lemmas.Bool.{false≢true}
use native.Mathlib.Omega.{arith}
use Rattle.std.proofs.Math.Dec.{ltb}
use borrow.Author.Tests.{ltb-true, ltb-false, lt-ltb, le-ltb}
use Rattle.link.specs.Ids.{id_of, slot_of, stamp_of, kind_of}
use Rattle.link.specs.Words.{STAMP, PARENT, PREVIOUS, word}
use Rattle.link.specs.Found.{Found}
use Rattle.link.specs.FoundLaws.{found-held, held_found}
use Rattle.rules.specs.Links.{view}
use Rattle.rules.specs.Sound.{LiveSlot}
use Rattle.forest.specs.Local.{Local}
use Rattle.examine.specs.Slots.{prior_slot, kin_ok, kin_of, look}
use Rattle.examine.specs.Examination.{passes, all_pass}
use Rattle.examine.specs.LeadingLaws.{all_pass_lem}
use Rattle.exact.specs.Kin.{local-each, kin-true}

module _ (m : List ℕ) (used : ℕ) where
  abbrev pub Kinds : Type 0
  Kinds = (s : ℕ) → 1 ≤ s → s ≤ used → LiveSlot m s → kind_of (word m s STAMP) ≡ 0

  -- The identifier of a live slot of kind 0 is found, and a found identifier is that of its slot.
  pub id-found : (s : ℕ) → 1 ≤ s → s ≤ used → LiveSlot m s → kind_of (word m s STAMP) ≡ 0
      → (slot_of (id_of s (word m s STAMP)) ≡ s) × Found m used (id_of s (word m s STAMP))
  id-found s a b l k =
      let e : slot_of (id_of s (word m s STAMP)) ≡ s = omega arith in
      let w : stamp_of (id_of s (word m s STAMP)) ≡ word m s STAMP = omega arith in
      (e, held_found m used _ (rw e a) (rw e b) (omega arith) (ap (λ (t : ℕ). word m t STAMP) e ∙ sym w))

  pub found-id : (x : ℕ) → Found m used x → id_of (slot_of x) (word m (slot_of x) STAMP) ≡ x
  found-id x f = let e = found-held m used x f in omega arith

  pub found-live : (x : ℕ) → Found m used x → LiveSlot m (slot_of x)
  found-live x f = let e = f.stamp in let l = f.small in omega arith

  -- What is looked up at a slot, by its cases.
  pub look-removed : (s : ℕ) → 32768 ≤ stamp_of (word m s STAMP) → look m used s ≡ 0
  unfolding look
  look-removed s h = simp (lt-ltb 32767 (stamp_of (word m s STAMP)) h)

  pub look-passed : (s : ℕ) → LiveSlot m s → kind_of (word m s STAMP) ≡ 0 → kin_ok m used s (id_of s (word m s STAMP)) ≡ true
      → look m used s ≡ prior_slot (word m s PARENT) (word m s PREVIOUS)
  unfolding look kin_of
  look-passed s l k e = simp (le-ltb 32767 (stamp_of (word m s STAMP)) l, le-ltb 65535 (word m s STAMP) (omega arith), e)

  passes-live : (s : ℕ) → (passes m used s ≡ true) ↔ (LiveSlot m s → (kind_of (word m s STAMP) ≡ 0) × (kin_ok m used s (id_of s (word m s STAMP)) ≡ true))
  unfolding passes
  passes-live s = by (ltb 32767 (stamp_of (word m s STAMP))) (ltb 65535 (word m s STAMP)) refl refl
    where
      by : (a b : Bool) → ltb 32767 (stamp_of (word m s STAMP)) ≡ a → ltb 65535 (word m s STAMP) ≡ b
          → (cond a true (cond b false (kin_ok m used s (id_of s (word m s STAMP)))) ≡ true)
          ↔ (LiveSlot m s → (kind_of (word m s STAMP) ≡ 0) × (kin_ok m used s (id_of s (word m s STAMP)) ≡ true))
      by true b p q = (λ _ l. let k = ltb-true 32767 (stamp_of (word m s STAMP)) p in absurd (lt_irrefl 0 (omega arith)), λ _. refl)
      by false true p q = (
        λ e. absurd (false≢true e),
        λ w.
            let z = (w (ltb-false 32767 (stamp_of (word m s STAMP)) p)).0 in let k = ltb-true 65535 (word m s STAMP) q in absurd (lt_irrefl 0 (omega arith)),
      )
      by false false p q = (
        λ e _. let k = ltb-false 65535 (word m s STAMP) q in (omega arith, e),
        λ w. (w (ltb-false 32767 (stamp_of (word m s STAMP)) p)).1,
      )

  pub first-pass : (all_pass used m used 1 ≡ true) ↔ (Kinds × Local (view m) (Found m used))
  first-pass = (to, from)
    where
      to : all_pass used m used 1 ≡ true → Kinds × Local (view m) (Found m used)
      to e =
          let each : ((s : ℕ) → 1 ≤ s → s ≤ used → LiveSlot m s → (kind_of (word m s STAMP) ≡ 0) × (kin_ok m used s (id_of s (word m s STAMP)) ≡ true)) =
          λ s a b. (passes-live s).0 ((all_pass_lem m used used 1).0 e s a (omega arith)) in (
            λ s a b l. (each s a b l).0,
            (local-each (view m) (Found m used)).1 (λ x f. (kin-true m used x f).0 (rw (found-id x f) at (each (slot_of x) f.from f.upto (found-live x f)).1)),
          )

      from : Kinds × Local (view m) (Found m used) → all_pass used m used 1 ≡ true
      from (k, T) = (all_pass_lem m used used 1).1 (λ s a b. (passes-live s).1 (λ l. (k s a (omega arith) l, kin s a (omega arith) l)))
        where
          kin : (s : ℕ) → 1 ≤ s → s ≤ used → LiveSlot m s → kin_ok m used s (id_of s (word m s STAMP)) ≡ true
          kin s a b l =
              let i = id-found s a b l (k s a b l) in
              rw i.0 at ((kin-true m used (id_of s (word m s STAMP)) i.1).1 ((local-each (view m) (Found m used)).0 T _ i.1))
