-- The model of the third pass: the free chain, followed for at most n slots.
use Rattle.std.specs.Prelude.{Bool, true, false, cond, List, ℕ, zero, suc, eqb, ltb}
use Rattle.link.specs.Words.{STAMP, NUMBER, word}
use Rattle.examine.specs.declared.chain.Verdict.{Verdict}
use Rattle.examine.specs.declared.chain.Verdict.TheVariants.{Unsound, Spent, Ready}

-- Kind 1 and a negative stamp: 65,536 + 32,768 to 65,536 + 65,535.
unfoldable pub free_word : ℕ → Bool
free_word word0 = cond (ltb word0 98304) false (ltb word0 131072)

-- The stamp −32,768 is spent.
unfoldable pub met_spent : Bool → ℕ → Bool
met_spent spent word0 = cond (eqb word0 98304) true spent

unfoldable pub at_end : ℕ → ℕ → Bool → Verdict
at_end last before spent = cond (eqb last before) (cond spent Spent Ready) Unsound

-- From x on, behind `before`.
unfoldable pub chain_run : ℕ → List ℕ → ℕ → ℕ → Bool → ℕ → ℕ → Verdict
chain_run zero m used last spent before x = Unsound
chain_run (suc n) m used last spent before x =
    cond (eqb x 0) (at_end last before spent)
    (cond (ltb used x) Unsound
    (cond (free_word (word m x STAMP))
    (chain_run n m used last (met_spent spent (word m x STAMP)) x (word m x NUMBER))
    Unsound))
