-- Found identifiers: a slot has at most one, a live slot of kind 0 exactly one; they are finitely many, and being found is decidable.
-- From the definition of found: word 0 of its slot is the identifier's low half.
use Rattle.std.specs.Prelude.{◌≡◌, ◌≢◌, List, ℕ, ◌+◌, ◌*◌, ◌≤◌}
use Rattle.std.proofs.Common.{sym, ap, ◌∙◌, arith}
use Rattle.std.proofs.Math.Decide.{ℕ_discrete, dec_le}
use Rattle.std.proofs.Math.Bridge.{le_prop}
use Rattle.std.proofs.Math.Nat.{ℕ_set}
use Rattle.link.specs.Ids.{id_of, slot_of, stamp_of, kind_of}
use Rattle.link.specs.Words.{STAMP, word}
use Rattle.link.specs.Found.{Found}
use Rattle.link.specs.FoundLaws.{found-held, held_found}
use Rattle.rules.specs.Sound.{LiveSlot}

-- A set of identifiers that theorems over views are about: finite, decidable, without none, and a proof of membership says no more than that.
pub record Nodes (live : ℕ → Type 0) : Type 0 where
  pub some : (x : ℕ) → live x → x ≢ 0
  pub most : ℕ
  pub bound : (x : ℕ) → live x → x ≤ most
  pub dec : (x : ℕ) → Dec (live x)
  pub prop : (x : ℕ) → IsProp (live x)

module _ (m : List ℕ) (used : ℕ) where
  pub found_one : (x y : ℕ) → Found m used x → Found m used y → slot_of x ≡ slot_of y → x ≡ y
  found_one x y f g e =
      let l : stamp_of x ≡ stamp_of y = sym f.stamp ∙ ap (λ (s : ℕ). stamp_of (word m s STAMP)) e ∙ g.stamp in
      omega arith

  -- the found identifier of a live slot of kind 0, and the only one
  pub live-found : (s : ℕ) → 1 ≤ s → s ≤ used → LiveSlot m s → kind_of (word m s STAMP) ≡ 0
      → (x : ℕ) × (slot_of x ≡ s) × Found m used x × ((y : ℕ) → Found m used y → slot_of y ≡ s → y ≡ x)
  live-found s a b l k = (
    id_of s (stamp_of (word m s STAMP)),
    e,
    f,
    λ y g q. found_one y _ g f (q ∙ sym e),
  )
    where
      e : slot_of (id_of s (stamp_of (word m s STAMP))) ≡ s
      e = omega arith

      w : word m (slot_of (id_of s (stamp_of (word m s STAMP)))) STAMP ≡ word m s STAMP
      w = ap (λ (t : ℕ). word m t STAMP) e

      f : Found m used (id_of s (stamp_of (word m s STAMP)))
      f = held_found m used _ (rw e a) (rw e b) (omega arith) (w ∙ omega arith)

  pub found_some : (x : ℕ) → Found m used x → x ≢ 0
  found_some x f e = let a = f.from in omega arith

  found-dec : (x : ℕ) → Dec (Found m used x)
  found-dec x = go (dec_le 1 (slot_of x)) (dec_le (slot_of x) used) (dec_le (stamp_of x) 32767) (ℕ_discrete (word m (slot_of x) STAMP) (stamp_of x))
    where
      go : Dec (1 ≤ slot_of x) → Dec (slot_of x ≤ used) → Dec (stamp_of x ≤ 32767) → Dec (word m (slot_of x) STAMP ≡ stamp_of x) → Dec (Found m used x)
      go (no h) b c d = no (λ f. h f.from)
      go (yes a) (no h) c d = no (λ f. h f.upto)
      go (yes a) (yes b) (no h) d = no (λ f. h f.small)
      go (yes a) (yes b) (yes c) (no h) = no (λ f. h (found-held m used x f))
      go (yes a) (yes b) (yes c) (yes d) = yes (held_found m used x a b c d)

  found-prop : (x : ℕ) → IsProp (Found m used x)
  found-prop x f g = λ i. record {
    from = le_prop f.from g.from i;
    upto = le_prop f.upto g.upto i;
    small = le_prop f.small g.small i;
    stamp = ℕ_set _ _ f.stamp g.stamp i;
    kind = ℕ_set _ _ f.kind g.kind i;
  }

  pub found-nodes : Nodes (Found m used)
  found-nodes = record {
    some = found_some;
    most = (used + 1) * 65536;
    bound = λ x f. let b = f.upto in omega arith;
    dec = found-dec;
    prop = found-prop;
  }
