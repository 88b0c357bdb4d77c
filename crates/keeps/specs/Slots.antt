-- The words of a slot that was written whole, of every other slot, and past it. From the laws of one write.
use Rattle.std.specs.Prelude.{◌≡◌, ◌≢◌, ℕ, ◌*◌, ◌<◌, ◌≤◌, length}
use Rattle.std.proofs.Common.{◌∙◌, arith, get_or-set_other}
use mathlib.Core.List.{List}
use Rattle.std.proofs.Math.ListN.{get_or}
use Rattle.link.specs.Words.{width, STAMP, NUMBER, PARENT, PREVIOUS, NEXT, FIRST, LAST, place, word, set_word}
use Rattle.link.specs.WordLaws.{length-set_word, word_same, word-slot, word-other}
use Rattle.rules.specs.Links.{Link, par, prv, nxt, fst, lst, word_of}
use Rattle.arena.specs.Nodes.{slot_at}

-- One write is not seen in an earlier word of the slot, in another slot, past the slot.
before : (m : List ℕ) (s k v j : ℕ) → k < width → j < k → word (set_word m s k v) s j ≡ word m s j
before m s k v j a b = word-other m s k v s j a (omega arith) (λ (e : j ≡ k). omega arith)

past : (m : List ℕ) (s k v i : ℕ) → k < width → 0 < s → s * width ≤ i → get_or (set_word m s k v) i 0 ≡ get_or m i 0
unfolding set_word
past m s k v i a p h = get_or-set_other m (place s k) i v 0 (λ (e : i ≡ place s k). omega arith)

module _ (m : List ℕ) (s a b : ℕ) where
  pub slot-other : (t j : ℕ) → 0 < s → 0 < t → j < width → t ≢ s → word (slot_at m s a b) t j ≡ word m t j
  unfolding slot_at
  slot-other t j p q c n =
      by _ LAST _ (omega arith) ∙ by _ FIRST _ (omega arith) ∙ by _ NEXT _ (omega arith) ∙ by _ PREVIOUS _ (omega arith)
      ∙ by _ PARENT _ (omega arith) ∙ by _ NUMBER _ (omega arith) ∙ by _ STAMP _ (omega arith)
    where
      by : (w : List ℕ) (k v : ℕ) → k < width → word (set_word w s k v) t j ≡ word w t j
      by w k v d = word-slot w s k v t j p q d c n

  pub slot-past : (i : ℕ) → 0 < s → s * width ≤ i → get_or (slot_at m s a b) i 0 ≡ get_or m i 0
  unfolding slot_at
  slot-past i p h =
      by _ LAST _ (omega arith) ∙ by _ FIRST _ (omega arith) ∙ by _ NEXT _ (omega arith) ∙ by _ PREVIOUS _ (omega arith)
      ∙ by _ PARENT _ (omega arith) ∙ by _ NUMBER _ (omega arith) ∙ by _ STAMP _ (omega arith)
    where
      by : (w : List ℕ) (k v : ℕ) → k < width → get_or (set_word w s k v) i 0 ≡ get_or w i 0
      by w k v d = past w s k v i d p h

  module _ (p : 0 < s) (room : s * width ≤ length m) where
    pub slot-stamp : word (slot_at m s a b) s STAMP ≡ a
    unfolding slot_at
    slot-stamp =
        by _ LAST _ (omega arith) (omega arith) ∙ by _ FIRST _ (omega arith) (omega arith) ∙ by _ NEXT _ (omega arith) (omega arith)
        ∙ by _ PREVIOUS _ (omega arith) (omega arith) ∙ by _ PARENT _ (omega arith) (omega arith) ∙ by _ NUMBER _ (omega arith) (omega arith)
        ∙ word_same m s STAMP a room p (omega arith)
      where
        by : (w : List ℕ) (k v : ℕ) → k < width → STAMP < k → word (set_word w s k v) s STAMP ≡ word w s STAMP
        by w k v = before w s k v STAMP

    pub slot-number : word (slot_at m s a b) s NUMBER ≡ b
    unfolding slot_at
    slot-number =
        by _ LAST _ (omega arith) (omega arith) ∙ by _ FIRST _ (omega arith) (omega arith) ∙ by _ NEXT _ (omega arith) (omega arith)
        ∙ by _ PREVIOUS _ (omega arith) (omega arith) ∙ by _ PARENT _ (omega arith) (omega arith)
        ∙ word_same _ s NUMBER b (simp length-set_word room) p (omega arith)
      where
        by : (w : List ℕ) (k v : ℕ) → k < width → NUMBER < k → word (set_word w s k v) s NUMBER ≡ word w s NUMBER
        by w k v = before w s k v NUMBER

    pub slot-link : (k : Link) → word (slot_at m s a b) s (word_of k) ≡ 0
    unfolding slot_at
    slot-link lst = word_same _ s LAST 0 (simp length-set_word room) p (omega arith)
    slot-link fst = before _ s LAST 0 FIRST (omega arith) (omega arith) ∙ word_same _ s FIRST 0 (simp length-set_word room) p (omega arith)
    slot-link nxt =
        before _ s LAST 0 NEXT (omega arith) (omega arith) ∙ before _ s FIRST 0 NEXT (omega arith) (omega arith)
        ∙ word_same _ s NEXT 0 (simp length-set_word room) p (omega arith)
    slot-link prv =
        before _ s LAST 0 PREVIOUS (omega arith) (omega arith) ∙ before _ s FIRST 0 PREVIOUS (omega arith) (omega arith)
        ∙ before _ s NEXT 0 PREVIOUS (omega arith) (omega arith) ∙ word_same _ s PREVIOUS 0 (simp length-set_word room) p (omega arith)
    slot-link par =
        before _ s LAST 0 PARENT (omega arith) (omega arith) ∙ before _ s FIRST 0 PARENT (omega arith) (omega arith)
        ∙ before _ s NEXT 0 PARENT (omega arith) (omega arith) ∙ before _ s PREVIOUS 0 PARENT (omega arith) (omega arith)
        ∙ word_same _ s PARENT 0 (simp length-set_word room) p (omega arith)
