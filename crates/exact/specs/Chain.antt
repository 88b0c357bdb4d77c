-- The third pass says sound exactly when the free chain can be followed, and ready exactly when, besides, no slot on it is spent.
-- The chain followed is the chain defined, by the theorems of the crate `forest`; its slots are those that the pass meets.
use Rattle.std.specs.Prelude.{◌≡◌, ◌↔◌, Bool, cond, ltb}
use Rattle.std.proofs.Math.Path.{refl}
use Rattle.std.proofs.Common.{sym, ap, ap₂, ◌∙◌, true≢false, lt_irrefl, arith}
use mathlib.Core.Logic.Iff
use Rattle.std.proofs.Math.Bool.{true, false}
use Rattle.std.proofs.lemmas.Bool.{false≢true}
use mathlib.Core.List.{List, [], ◌∷◌}
use Prim.Native.Nat.{ℕ, zero, suc, ◌+◌, ◌≤◌, ◌<◌}
use Rattle.std.proofs.Math.Dec.{eqb}
use borrow.Author.Tests.{eqb-true, eqb-false, eq-eqb, ne_eqb, ltb-true, ltb-false, lt-ltb, le-ltb}
use Rattle.link.specs.Ids.{stamp_of}
use Rattle.link.specs.Words.{STAMP, NUMBER, word}
use Rattle.rules.specs.Lists.{head_or, last_or, Off, All}
use Rattle.rules.specs.Sound.{FreeSlot, Unspent, Linked, FreeChain}
use Rattle.follow.specs.Follow.{EndsIn, path}
use Rattle.forest.specs.Free.{Followed, slots-some, followed-chain, chain-followed}
use Rattle.examine.specs.Chain.{free_word, met_spent, at_end, chain_run}
use Rattle.examine.specs.Verdicts.{sound_b, ready_b}
use Rattle.examine.specs.declared.chain.Verdict.{Verdict}
use Rattle.examine.specs.declared.chain.Verdict.TheVariants.{Unsound, Spent, Ready}

free-true : (m : List ℕ) (s : ℕ) → (free_word (word m s STAMP) ≡ true) ↔ FreeSlot m s
unfolding free_word
free-true m s = by (ltb (word m s STAMP) 98304) refl
  where
    by : (t : Bool) → ltb (word m s STAMP) 98304 ≡ t → (cond t false (ltb (word m s STAMP) 131072) ≡ true) ↔ FreeSlot m s
    by true e = (
      λ q. absurd (false≢true q),
      λ f. let l = ltb-true (word m s STAMP) 98304 e in let a = f.0 in let k = f.1 in absurd (lt_irrefl 0 (omega arith)),
    )
    by false e = (
      λ q. let l = ltb-false (word m s STAMP) 98304 e in let u = ltb-true (word m s STAMP) 131072 q in (omega arith, omega arith),
      λ f. let k = f.1 in lt-ltb (word m s STAMP) 131072 (omega arith),
    )

-- The slots that are met are those of any list so linked.
path-slots : (next : ℕ → ℕ) (n x : ℕ) (fs : List ℕ) → EndsIn next n x → Linked next fs → Off 0 fs → x ≡ head_or fs 0 → path next n x ≡ fs
path-slots next zero x [] a l z e = refl
path-slots next zero x (s ∷ fs) a l z e = absurd (z.0 (sym a ∙ e))
path-slots next (suc n) x [] a l z e = absurd (a.0 e)
path-slots next (suc n) x (s ∷ fs) a l z e = ap₂ ◌∷◌ e (path-slots next n (next x) fs a.1 l.1 z.1 (ap next e ∙ l.0))

module _ (m : List ℕ) where
  -- Whether a spent slot was met, where before it was or not.
  unfoldable spent_on : Bool → List ℕ → Bool
  spent_on spent [] = spent
  spent_on spent (s ∷ fs) = spent_on (met_spent spent (word m s STAMP)) fs

  spent-stays : (fs : List ℕ) → spent_on true fs ≡ true
  unfolding spent_on met_spent
  spent-stays [] = refl
  spent-stays (s ∷ fs) = by (eqb (word m s STAMP) 98304) (spent-stays fs)
    where
      by : (t : Bool) → spent_on true fs ≡ true → spent_on (cond t true true) fs ≡ true
      by true ih = ih
      by false ih = ih

  none-spent : (used : ℕ) (fs : List ℕ) → All (λ s. (s ≤ used) × FreeSlot m s) fs → (spent_on false fs ≡ false) ↔ All (Unspent m) fs
  unfolding spent_on met_spent
  none-spent used [] a = (λ _. tt, λ _. refl)
  none-spent used (s ∷ fs) a = by (eqb (word m s STAMP) 98304) refl (none-spent used fs a.1)
    where
      by : (t : Bool) → eqb (word m s STAMP) 98304 ≡ t → (spent_on false fs ≡ false) ↔ All (Unspent m) fs
          → (spent_on (cond t true false) fs ≡ false) ↔ (Unspent m s × All (Unspent m) fs)
      by true e ih = (
        λ q. absurd (true≢false (sym (spent-stays fs) ∙ q)),
        λ w. let z = eqb-true (word m s STAMP) 98304 e in absurd (w.0 (omega arith)),
      )
      by false e ih = (
        λ q. ((λ (z : stamp_of (word m s STAMP) ≡ 32768). let k = a.0.1.1 in eqb-false (word m s STAMP) 98304 e (omega arith)), ih.0 q),
        λ w. ih.1 w.1,
      )

  module _ (used last : ℕ) where
    abbrev next : ℕ → ℕ
    next s = word m s NUMBER

    -- In n steps from x on, behind `before`, the chain comes to none, at last.
    record Comes (n before x : ℕ) : Type 0 where
      ends : EndsIn next n x
      fine : All (λ s. (s ≤ used) × FreeSlot m s) (path next n x)
      at_last : last ≡ last_or before (path next n x)

    chain-comes : (c : ℕ) (spent : Bool) (before x : ℕ) → sound_b (chain_run c m used last spent before x) ≡ true → (n : ℕ) × (n < c) × Comes n before x
    unfolding chain_run at_end
    chain-comes zero spent before x e = absurd (false≢true e)
    chain-comes (suc c) spent before x e =
        by (eqb x 0) (eqb last before) (ltb used x) (free_word (word m x STAMP)) refl refl refl refl (chain-comes c (met_spent spent (word m x STAMP)) x (next x)) e
      where
        rest : Verdict
        rest = chain_run c m used last (met_spent spent (word m x STAMP)) x (next x)

        by : (a b u f : Bool) → eqb x 0 ≡ a → eqb last before ≡ b → ltb used x ≡ u → free_word (word m x STAMP) ≡ f
            → (sound_b rest ≡ true → (n : ℕ) × (n < c) × Comes n x (next x))
            → sound_b (cond a (cond b (cond spent Spent Ready) Unsound) (cond u Unsound (cond f rest Unsound))) ≡ true
            → (n : ℕ) × (n < suc c) × Comes n before x
        by true true u f p q r s ih w = (0, omega arith, record { ends = eqb-true x 0 p; fine = tt; at_last = eqb-true last before q })
        by true false u f p q r s ih w = absurd (false≢true w)
        by false b true f p q r s ih w = absurd (false≢true w)
        by false b false false p q r s ih w = absurd (false≢true w)
        by false b false true p q r s ih w =
            let (n, l, k) = ih w in
            (suc n, omega arith, record { ends = (eqb-false x 0 p, k.ends); fine = ((ltb-false used x r, (free-true m x).0 s), k.fine); at_last = k.at_last })

    comes-chain : (c n : ℕ) (spent : Bool) (before x : ℕ) → n < c → Comes n before x
        → chain_run c m used last spent before x ≡ cond (spent_on spent (path next n x)) Spent Ready
    unfolding chain_run at_end spent_on
    comes-chain zero n spent before x l k = absurd (lt_irrefl 0 (omega arith))
    comes-chain (suc c) zero spent before x l k = simp (eq-eqb x 0 k.ends, eq-eqb last before k.at_last)
    comes-chain (suc c) (suc n) spent before x l k =
        simp (ne_eqb x 0 k.ends.0, le-ltb used x k.fine.0.0, (free-true m x).1 k.fine.0.1)
        (comes-chain c n (met_spent spent (word m x STAMP)) x (next x) (omega arith) (record { ends = k.ends.1; fine = k.fine.1; at_last = k.at_last }))

    module _ (first : ℕ) where
      abbrev verdict : Verdict
      verdict = chain_run (used + 1) m used last false 0 first

      abbrev Free : Type 0
      Free = FreeChain next (FreeSlot m) used first last

      met : sound_b verdict ≡ true → Followed next (FreeSlot m) used first last
      met e = let (n, l, k) = chain-comes (used + 1) false 0 first e in record { steps = n; few = omega arith; comes = k.ends; fine = k.fine; at_last = k.at_last }

      followed : (w : Followed next (FreeSlot m) used first last) → verdict ≡ cond (spent_on false (path next w.steps first)) Spent Ready
      followed w =
          let l = w.few in
          comes-chain (used + 1) w.steps false 0 first (omega arith) (record { ends = w.comes; fine = w.fine; at_last = w.at_last })

      unspent : (w : Followed next (FreeSlot m) used first last) (c : Free) → (spent_on false (path next w.steps first) ≡ false) ↔ All (Unspent m) c.slots
      unspent w c =
          rw (sym (path-slots next w.steps first c.slots w.comes c.linked (slots-some (FreeSlot m) used c.slots c.within) c.begins))
          (none-spent used (path next w.steps first) w.fine)

      pub chain-sound : (sound_b (chain_run (used + 1) m used last false 0 first) ≡ true) ↔ FreeChain (λ s. word m s NUMBER) (FreeSlot m) used first last
      chain-sound = (
        λ e. followed-chain next (FreeSlot m) used first last (met e),
        λ c. let w = chain-followed next (FreeSlot m) used first last c in ap sound_b (followed w) ∙ yes_both (spent_on false (path next w.steps first)),
      )
        where
          yes_both : (b : Bool) → sound_b (cond b Spent Ready) ≡ true
          yes_both true = refl
          yes_both false = refl

      -- Of whatever chain the header has.
      pub chain-ready : (c : FreeChain (λ s. word m s NUMBER) (FreeSlot m) used first last)
          → (ready_b (chain_run (used + 1) m used last false 0 first) ≡ true) ↔ All (Unspent m) c.slots
      chain-ready c =
          let w = chain-followed next (FreeSlot m) used first last c in
          Iff.trans (by (spent_on false (path next w.steps first)) (followed w)) (unspent w c)
        where
          by : (b : Bool) → verdict ≡ cond b Spent Ready → (ready_b verdict ≡ true) ↔ (b ≡ false)
          by true e = (λ q. absurd (false≢true (ap ready_b (sym e) ∙ q)), λ z. absurd (true≢false z))
          by false e = (λ _. refl, λ _. ap ready_b e)
