-- What a removal takes away: nodes that are no longer found, each with its stamp removed, and the slots that join the free chain.
-- Excluded: a removed node that is still found; another node that is lost or has another number; a slot joined at the chain's front.
use Rattle.std.specs.Prelude.{◌≡◌, ◌≢◌, ◌↔◌, cond, List, [], ◌∷◌, ◌++◌, ℕ, ◌+◌, ◌<◌, eqb, length}
use Rattle.link.specs.Ids.{slot_of, stamp_of}
use Rattle.link.specs.Stamps.{removed_bits}
use Rattle.link.specs.Words.{STAMP, NUMBER, word}
use Rattle.link.specs.Found.{Found}
use Rattle.link.specs.declared.header.Header.{Header}
use Rattle.rules.specs.Answers.{DONE}
use Rattle.rules.specs.declared.answer.Answer.{Answer}
use Rattle.rules.specs.Lists.{In, Off}
use Rattle.rules.specs.Sound.{Ready}

-- The slot of a freed node joins the chain, unless its stamp was the last one: then it is spent.
abbrev pub joins : ℕ → List ℕ
joins x = cond {A = List ℕ} (eqb (stamp_of x) 32767) [] (slot_of x ∷ [])

-- The slots that join behind the chain, where these nodes are freed in this order.
abbrev pub joining : List ℕ → List ℕ
joining [] = []
joining (x ∷ xs) = joins x ++ joining xs

-- From words m and header h to m' and h' the nodes xs are gone, and of all else that is found only links may have changed.
pub record Gone (m : List ℕ) (h : Header) (xs : List ℕ) (m' : List ℕ) (h' : Header) : Type 0 where
  pub used : h'.used ≡ h.used
  pub size : length m' ≡ length m
  -- they were found;
  pub were : (y : ℕ) → In y xs → Found m h.used y
  -- what is found is what was, without them;
  pub found : (y : ℕ) → Found m' h'.used y ↔ (Found m h.used y × Off y xs)
  -- each has kind 1 and its stamp removed; every other slot has the stamp it had;
  pub stamps : (y : ℕ) → In y xs → word m' (slot_of y) STAMP ≡ 65536 + removed_bits (stamp_of y)
  pub others : (t : ℕ) → 0 < t → ((y : ℕ) → In y xs → slot_of y ≢ t) → word m' t STAMP ≡ word m t STAMP
  -- and every other node the number it had.
  pub numbers : (y : ℕ) → Found m h.used y → Off y xs → word m' (slot_of y) NUMBER ≡ word m (slot_of y) NUMBER

-- What a removal leaves of ready memory where the node is found: DONE, the nodes xs gone in this order, memory ready again, and their
-- slots behind the free chain, in this order.
pub record Removes (m : List ℕ) (h : Header) (R : Ready m h) (xs : List ℕ) (after : List ℕ × Answer) : Type 0 where
  pub number : after.1.number ≡ DONE
  pub result : after.1.result ≡ 0
  pub gone : Gone m h xs after.0 after.1.header
  pub ready : Ready after.0 after.1.header
  pub joined : ready.sound.free.slots ≡ R.sound.free.slots ++ joining xs
