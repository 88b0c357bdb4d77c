-- What the examination answers depends on the words of the slots in use alone: not on what lies behind them in the memory lent.
-- From the models of its passes, test by test; no slot past used is ever read.
use Rattle.std.specs.Prelude.{◌≡◌, ◌≢◌, Bool, set}
use Rattle.std.proofs.Math.Path.{refl, sym, ap}
use Rattle.std.proofs.Common.{◌∙◌, arith}
use Rattle.std.proofs.Math.Bool.{true, false, cond}
use mathlib.Core.List.{List}
use Prim.Native.Nat.{ℕ, zero, suc, ◌+◌, ◌*◌, ◌≤◌, ◌<◌}
use Rattle.std.proofs.Math.Dec.{eqb, ltb}
use Rattle.std.proofs.Math.ListN.{length, replicate, length-replicate}
use borrow.Author.Tests.{eqb-false, ltb-false}
use Rattle.link.specs.Ids.{slot_of, stamp_of, id_of}
use Rattle.link.specs.Words.{width, STAMP, NUMBER, PARENT, PREVIOUS, NEXT, FIRST, LAST, word, link}
use Rattle.link.specs.WordLaws.{link-some}
use Rattle.link.specs.Found.{found_b}
use Rattle.link.specs.FoundLaws.{found_is}
use Rattle.link.specs.declared.header.Header.{Header}
use Rattle.examine.specs.Slots.{has_b, children_ok, next_ok, lead_ok, none_or_found_b, previous_ok, kin_ok, kin_of, look, look_run}
use Rattle.examine.specs.Marks.{climbs_run}
use Rattle.examine.specs.Chain.{free_word, met_spent, at_end, chain_run}
use Rattle.examine.specs.Examination.{links_run, links_ok, examined}
use Rattle.examine.specs.PassLaws.{links_is}
use Rattle.examine.specs.declared.chain.Verdict.TheVariants.{Unsound}

-- The slots in use have the same words.
abbrev pub SameSlots : ℕ → List ℕ → List ℕ → Type 0
SameSlots used m m' = (s k : ℕ) → 1 ≤ s → s ≤ used → k < width → word m s k ≡ word m' s k

-- All but the number, which of a free slot is the next on the chain: the passes over links do not read it.
abbrev pub SameLinks : ℕ → List ℕ → List ℕ → Type 0
SameLinks used m m' = (s k : ℕ) → 1 ≤ s → s ≤ used → k < width → k ≢ NUMBER → word m s k ≡ word m' s k

module _ (m m' : List ℕ) (used : ℕ) (same : SameLinks used m m') where
  found-same : (id : ℕ) → found_b m used id ≡ found_b m' used id
  unfolding found_b
  found-same id = by (eqb (slot_of id) 0) (ltb used (slot_of id)) refl refl
    where
      by : (a b : Bool) → eqb (slot_of id) 0 ≡ a → ltb used (slot_of id) ≡ b
          → cond a false (cond b false (cond (ltb 32767 (stamp_of id)) false (eqb (link m id STAMP) (stamp_of id))))
          ≡ cond a false (cond b false (cond (ltb 32767 (stamp_of id)) false (eqb (link m' id STAMP) (stamp_of id))))
      by true b p q = refl
      by false true p q = refl
      by false false p q =
          let n = eqb-false (slot_of id) 0 p in
          let u = ltb-false used (slot_of id) q in
          ap (λ (w : ℕ). cond (ltb 32767 (stamp_of id)) false (eqb w (stamp_of id)))
          (link-some m id STAMP (omega arith) ∙ same (slot_of id) STAMP (omega arith) u (omega arith) (λ (e : STAMP ≡ NUMBER). omega arith) ∙ sym (link-some m' id STAMP (omega arith)))

  has_same : (y j a k b : ℕ) → j < width → j ≢ NUMBER → k < width → k ≢ NUMBER → has_b m used y j a k b ≡ has_b m' used y j a k b
  unfolding has_b
  has_same y j a k b hj nj hk nk = by (found_b m used y) refl ∙ ap (λ (t : Bool). cond t (cond (eqb (word m' (slot_of y) j) a) (eqb (word m' (slot_of y) k) b) false) false) (found-same y)
    where
      by : (t : Bool) → found_b m used y ≡ t
          → cond t (cond (eqb (word m (slot_of y) j) a) (eqb (word m (slot_of y) k) b) false) false
          ≡ cond t (cond (eqb (word m' (slot_of y) j) a) (eqb (word m' (slot_of y) k) b) false) false
      by false e = refl
      by true e =
          let f = found_is m used y e in
          rw (same (slot_of y) j f.from f.upto hj nj, same (slot_of y) k f.from f.upto hk nk)

  children-same : (x first last : ℕ) → children_ok m used x first last ≡ children_ok m' used x first last
  unfolding children_ok
  children-same x first last = rw (has_same first PARENT x PREVIOUS 0 (omega arith) (λ (e : PARENT ≡ NUMBER). omega arith) (omega arith) (λ (e : PREVIOUS ≡ NUMBER). omega arith), has_same last PARENT x NEXT 0 (omega arith) (λ (e : PARENT ≡ NUMBER). omega arith) (omega arith) (λ (e : NEXT ≡ NUMBER). omega arith))

  next-same : (x parent next : ℕ) → next_ok m used x parent next ≡ next_ok m' used x parent next
  unfolding next_ok
  next-same x parent next = rw (has_same next PREVIOUS x PARENT parent (omega arith) (λ (e : PREVIOUS ≡ NUMBER). omega arith) (omega arith) (λ (e : PARENT ≡ NUMBER). omega arith))

  previous-same : (x parent previous : ℕ) → previous_ok m used x parent previous ≡ previous_ok m' used x parent previous
  unfolding previous_ok lead_ok none_or_found_b
  previous-same x parent previous =
      rw (has_same parent FIRST x FIRST x (omega arith) (λ (e : FIRST ≡ NUMBER). omega arith) (omega arith) (λ (e : FIRST ≡ NUMBER). omega arith), has_same previous NEXT x NEXT x (omega arith) (λ (e : NEXT ≡ NUMBER). omega arith) (omega arith) (λ (e : NEXT ≡ NUMBER). omega arith), found-same parent)

  kin-same : (s x : ℕ) → 1 ≤ s → s ≤ used → kin_of m used s x ≡ kin_of m' used s x
  unfolding kin_of kin_ok
  kin-same s x a b =
      rw (
        same s PARENT a b (omega arith) (λ (e : PARENT ≡ NUMBER). omega arith),
        same s PREVIOUS a b (omega arith) (λ (e : PREVIOUS ≡ NUMBER). omega arith),
        same s NEXT a b (omega arith) (λ (e : NEXT ≡ NUMBER). omega arith),
        same s FIRST a b (omega arith) (λ (e : FIRST ≡ NUMBER). omega arith),
        same s LAST a b (omega arith) (λ (e : LAST ≡ NUMBER). omega arith),
        previous-same x (word m' s PARENT) (word m' s PREVIOUS),
        next-same x (word m' s PARENT) (word m' s NEXT),
        children-same x (word m' s FIRST) (word m' s LAST),
      )

  look-same : (s : ℕ) → 1 ≤ s → s ≤ used → look m used s ≡ look m' used s
  unfolding look
  look-same s a b = rw (same s STAMP a b (omega arith) (λ (e : STAMP ≡ NUMBER). omega arith), kin-same s (id_of s (word m' s STAMP)) a b)

  run-same : (n s : ℕ) (scratch : List ℕ) → 1 ≤ s → s + n ≤ used + 1 → look_run n m used s scratch ≡ look_run n m' used s scratch
  unfolding look_run
  run-same zero s scratch a b = refl
  run-same (suc n) s scratch a b =
      rw (look-same s a (omega arith), run-same n (s + 1) (set scratch s (look m' used s)) (omega arith) (omega arith))

  pub links-same : used ≤ 65535 → links_ok m used ≡ links_ok m' used
  unfolding links_run
  links-same small =
      let scratch : List ℕ = replicate (2 * used) 0 in
      let room : 2 * used ≤ length scratch = simp length-replicate (omega arith) in
      sym (links_is m used scratch small room)
      ∙ ap (λ (r : List ℕ × Bool). (cond (eqb used 0) (scratch, true) (cond r.1 (climbs_run used used 1 r.0) r)).1)
      (run-same used 1 (set scratch 0 65536) (omega arith) (omega arith))
      ∙ links_is m' used scratch small room

module _ (m m' : List ℕ) (used : ℕ) (same : SameSlots used m m') where
  chain_same : (n last : ℕ) (spent : Bool) (before x : ℕ) → chain_run n m used last spent before x ≡ chain_run n m' used last spent before x
  unfolding chain_run
  chain_same zero last spent before x = refl
  chain_same (suc n) last spent before x =
      by (eqb x 0) (ltb used x) refl refl (λ t b y. chain_same n last t b y)
    where
      by : (a u : Bool) → eqb x 0 ≡ a → ltb used x ≡ u → ((t : Bool) (b y : ℕ) → chain_run n m used last t b y ≡ chain_run n m' used last t b y)
          → cond a (at_end last before spent) (cond u Unsound (cond (free_word (word m x STAMP)) (chain_run n m used last (met_spent spent (word m x STAMP)) x (word m x NUMBER)) Unsound))
          ≡ cond a (at_end last before spent) (cond u Unsound (cond (free_word (word m' x STAMP)) (chain_run n m' used last (met_spent spent (word m' x STAMP)) x (word m' x NUMBER)) Unsound))
      by true u p q ih = refl
      by false true p q ih = refl
      by false false p q ih =
          let z = eqb-false x 0 p in
          let l = ltb-false used x q in
          rw (
            same x STAMP (omega arith) l (omega arith),
            same x NUMBER (omega arith) l (omega arith),
            ih (met_spent spent (word m' x STAMP)) x (word m' x NUMBER),
          )

pub examined-same : (m m' : List ℕ) (h : Header) → h.used ≤ 65535 → SameSlots h.used m m' → examined m h ≡ examined m' h
unfolding examined
examined-same m m' h small same =
    rw (links-same m m' h.used (λ s k a b c _. same s k a b c) small, chain_same m m' h.used same (h.used + 1) h.last false 0 h.first)
