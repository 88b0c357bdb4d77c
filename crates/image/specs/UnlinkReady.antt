-- Where the examination of the chain finds no spent slot, unlinking changes nothing.
-- From one step of each.
use Rattle.std.specs.Prelude.{◌≡◌, Bool, List}
use Rattle.std.proofs.Math.Path.{refl}
use Rattle.std.proofs.Common.{sym, ap, ◌∙◌, true≢false, arith}
use Rattle.std.proofs.Math.Bool.{true, false, cond}
use Rattle.std.proofs.lemmas.Bool.{false≢true}
use Prim.Native.Nat.{ℕ, zero, suc}
use Rattle.std.proofs.Math.Dec.{eqb, ltb}
use borrow.Author.Tests.{eqb-true, ltb-true, ltb-false}
use Rattle.link.specs.Ids.{stamp_of}
use Rattle.link.specs.Words.{STAMP, NUMBER, word}
use Rattle.link.specs.StampLaws.{eqb_same}
use Rattle.rules.specs.Answers.{header}
use Rattle.examine.specs.Chain.{free_word, met_spent, at_end, chain_run}
use Rattle.examine.specs.Verdicts.{ready_b}
use Rattle.examine.specs.declared.chain.Verdict.TheVariants.{Unsound, Spent, Ready}
use Rattle.image.specs.Unlink.{bypassed, unlink_run}

module _ (m : List ℕ) (used last : ℕ) where
  spent-stays : (n before x : ℕ) → ready_b (chain_run n m used last true before x) ≡ false
  unfolding chain_run at_end met_spent
  spent-stays zero before x = refl
  spent-stays (suc n) before x =
      by (eqb x 0) (eqb last before) (ltb used x) (free_word (word m x STAMP)) (eqb (word m x STAMP) 98304) (spent-stays n x (word m x NUMBER))
    where
      by : (a l u f s : Bool) → ready_b (chain_run n m used last true x (word m x NUMBER)) ≡ false
          → ready_b (cond a (cond l (cond true Spent Ready) Unsound) (cond u Unsound (cond f (chain_run n m used last (cond s true true) x (word m x NUMBER)) Unsound))) ≡ false
      by true true u f s ih = refl
      by true false u f s ih = refl
      by false l true f s ih = refl
      by false l false false s ih = refl
      by false l false true true ih = ih
      by false l false true false ih = ih

  -- Of a free slot, spent is one word.
  spent-word : (w : ℕ) → free_word w ≡ true → eqb (stamp_of w) 32768 ≡ eqb w 98304
  unfolding free_word
  spent-word w e = by (ltb w 98304) refl e
    where
      by : (t : Bool) → ltb w 98304 ≡ t → cond t false (ltb w 131072) ≡ true → eqb (stamp_of w) 32768 ≡ eqb w 98304
      by true p q = absurd (false≢true q)
      by false p q =
          let a = ltb-false w 98304 p in
          let b = ltb-true w 131072 q in
          eqb_same (stamp_of w) 32768 w 98304 (λ (r : stamp_of w ≡ 32768). omega arith) (λ (r : w ≡ 98304). omega arith)

  pub unlink-ready : (n first before x : ℕ) → ready_b (chain_run n m used last false before x) ≡ true
      → unlink_run n m used first before x ≡ (m, header used first last)
  unfolding chain_run at_end met_spent unlink_run
  unlink-ready zero first before x e = absurd (false≢true e)
  unlink-ready (suc n) first before x e =
      by (eqb x 0) (eqb last before) (ltb used x) (free_word (word m x STAMP)) (eqb (word m x STAMP) 98304) refl refl refl (spent-word (word m x STAMP))
      (spent-stays n x next) (unlink-ready n first x next) e
    where
      next : ℕ
      next = word m x NUMBER

      b : List ℕ × ℕ
      b = bypassed m first before x next

      by : (a l u f s : Bool) → eqb last before ≡ l → free_word (word m x STAMP) ≡ f → eqb (word m x STAMP) 98304 ≡ s
          → (free_word (word m x STAMP) ≡ true → eqb (stamp_of (word m x STAMP)) 32768 ≡ eqb (word m x STAMP) 98304)
          → ready_b (chain_run n m used last true x next) ≡ false
          → (ready_b (chain_run n m used last false x next) ≡ true → unlink_run n m used first x next ≡ (m, header used first last))
          → ready_b (cond a (cond l (cond false Spent Ready) Unsound) (cond u Unsound (cond f (chain_run n m used last (cond s true false) x next) Unsound))) ≡ true
          → cond a (m, header used first before)
          (cond u (m, header used first before)
          (cond (eqb (stamp_of (word m x STAMP)) 32768) (unlink_run n b.0 used b.1 before next) (unlink_run n m used first x next)))
          ≡ (m, header used first last)
      by true true u f s p q r same stays ih w = ap (λ (z : ℕ). (m, header used first z)) (sym (eqb-true last before p))
      by true false u f s p q r same stays ih w = absurd (false≢true w)
      by false l true f s p q r same stays ih w = absurd (false≢true w)
      by false l false false s p q r same stays ih w = absurd (false≢true w)
      by false l false true true p q r same stays ih w = absurd (true≢false (sym w ∙ stays))
      by false l false true false p q r same stays ih w = rw (same q ∙ r) (ih w)
