-- The test and the definition of found agree; word 0 of a found identifier's slot is its low half.
use Rattle.std.proofs.Math.Path.{◌≡◌, refl}
use Rattle.std.proofs.Common.{sym, ◌∙◌, arith}
use Rattle.std.specs.Prelude.{Bool, List, ℕ, ◌<◌, ◌≤◌}
use Rattle.std.proofs.Math.Bool.{true, false, cond}
use Rattle.std.proofs.Math.Dec.{eqb, ltb}
use borrow.Author.Tests.{eqb-true, eqb-false, ltb-false, eq-eqb, ne_eqb, le-ltb}
use Rattle.link.specs.Ids.{slot_of, stamp_of}
use Rattle.link.specs.Words.{STAMP, word, link}
use Rattle.link.specs.WordLaws.{link-some}
use Rattle.link.specs.Found.{Found, found_b}

module _ (m : List ℕ) (used id : ℕ) where
  -- kind 0 and the stamp, in one equation
  pub found-held : Found m used id → word m (slot_of id) STAMP ≡ stamp_of id
  found-held f = let s = f.stamp in let k = f.kind in omega arith

  pub held_found : 1 ≤ slot_of id → slot_of id ≤ used → stamp_of id ≤ 32767 → word m (slot_of id) STAMP ≡ stamp_of id → Found m used id
  held_found a b c e = record { from = a; upto = b; small = c; stamp = omega arith; kind = omega arith }

  pub found_is : found_b m used id ≡ true → Found m used id
  unfolding found_b
  found_is e = by (eqb (slot_of id) 0) (ltb used (slot_of id)) (ltb 32767 (stamp_of id)) (eqb (link m id STAMP) (stamp_of id)) refl refl refl refl e
    where
      by : (a b c d : Bool) → eqb (slot_of id) 0 ≡ a → ltb used (slot_of id) ≡ b → ltb 32767 (stamp_of id) ≡ c → eqb (link m id STAMP) (stamp_of id) ≡ d
          → cond a false (cond b false (cond c false d)) ≡ true → Found m used id
      by true b c d p q r s t = let z : ◌≡◌ {A = ℕ} 0 1 = cc in absurd (omega arith)
      by false true c d p q r s t = let z : ◌≡◌ {A = ℕ} 0 1 = cc in absurd (omega arith)
      by false false true d p q r s t = let z : ◌≡◌ {A = ℕ} 0 1 = cc in absurd (omega arith)
      by false false false d p q r s t =
          let n : (slot_of id ≡ 0 → ⊥) = eqb-false (slot_of id) 0 p in
          held_found (omega arith) (ltb-false used (slot_of id) q) (ltb-false 32767 (stamp_of id) r)
          (sym (link-some m id STAMP (omega arith)) ∙ eqb-true (link m id STAMP) (stamp_of id) (s ∙ t))

  pub is_found : Found m used id → found_b m used id ≡ true
  unfolding found_b
  is_found f =
      let some : 0 < slot_of id = f.from in
      simp (
        ne_eqb (slot_of id) 0 (λ (e : slot_of id ≡ 0). omega arith),
        le-ltb used (slot_of id) f.upto,
        le-ltb 32767 (stamp_of id) f.small,
        eq-eqb (link m id STAMP) (stamp_of id) (link-some m id STAMP some ∙ found-held f),
      )
