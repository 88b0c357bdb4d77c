-- Memories with the same slots in use: sound or ready alike, with the same forest. A run laid over memory has the slots of the run.
use Rattle.std.specs.Prelude.{◌≡◌, List, ℕ, ◌*◌, ◌≤◌, length, take, drop}
use Rattle.std.proofs.Common.{sym, ap, ◌∙◌, arith, take-append-drop, length-take-le}
use Rattle.link.specs.Ids.{slot_of, stamp_of, kind_of}
use Rattle.link.specs.Words.{width, STAMP, word}
use Rattle.link.specs.WordLaws.{link-some}
use Rattle.link.specs.Found.{Found}
use Rattle.link.specs.declared.header.Header.{Header}
use Rattle.rules.specs.Links.{word_of, view}
use Rattle.rules.specs.Sound.{Sound, Ready}
use Rattle.rules.specs.Forest.{Forest}
use Rattle.forest.specs.Looks.{word-inside}
use Rattle.forest.specs.After.{holds_see, holds-live}
use Rattle.forest.specs.Whole.{Forested}
use Rattle.examine.specs.Verdicts.{sound_b, ready_b}
use Rattle.exact.specs.Exact.{examined-sound, examined-ready}
use Rattle.image.specs.Image.{laid}
use Rattle.image.specs.ImageLaws.{word-append, laid-over}
use Rattle.image.specs.Same.{SameSlots, examined-same}

pub slots-back : (used : ℕ) (m m' : List ℕ) → SameSlots used m m' → SameSlots used m' m
slots-back used m m' same s k a b c = sym (same s k a b c)

module _ (m m' : List ℕ) (h : Header) (small : h.used ≤ 65535) (same : SameSlots h.used m m') where
  pub sound-same : Sound m h → Sound m' h
  sound-same S = (examined-sound m' h).0 (ap sound_b (sym (examined-same m m' h small same)) ∙ (examined-sound m h).1 S)

  pub ready-same : Ready m h → Ready m' h
  ready-same R = (examined-ready m' h).0 (ap ready_b (sym (examined-same m m' h small same)) ∙ (examined-ready m h).1 R)

-- the same nodes with the same links: the same tree
found-over : (m m' : List ℕ) (used : ℕ) → SameSlots used m m' → (y : ℕ) → Found m used y → Found m' used y
found-over m m' used same y f =
    let e = same (slot_of y) STAMP f.from f.upto (omega arith) in
    record { from = f.from; upto = f.upto; small = f.small; stamp = ap stamp_of (sym e) ∙ f.stamp; kind = ap kind_of (sym e) ∙ f.kind }

pub forest-same : (m m' : List ℕ) (h : Header) (F : Forest) → SameSlots h.used m m' → Forested m h F → Forested m' h F
forest-same m m' h F same H =
    holds-live (view m') (Found m h.used) (Found m' h.used) F
    (λ y. (found-over m m' h.used same y, found-over m' m h.used (slots-back h.used m m' same) y))
    (holds_see (view m) (view m') (Found m h.used) F
    (λ k y f.
    link-some m' y (word_of k) f.from ∙ sym (same (slot_of y) (word_of k) f.from f.upto (word-inside k)) ∙ sym (link-some m y (word_of k) f.from)) H)

module _ (used : ℕ) where
  pub laid-slots : (xs l : List ℕ) → used * width ≤ length xs → SameSlots used (laid xs l) xs
  unfolding laid
  laid-slots xs l size s k a b c = word-append xs (drop (length xs) l) used size s k a b c

  pub taken-slots : (m : List ℕ) → used * width ≤ length m → SameSlots used m (take (width * used) m)
  taken-slots m size s k a b c =
      let few : length (take (width * used) m) ≡ width * used = length-take-le (width * used) m (omega arith) in
      ap (λ (t : List ℕ). word t s k) (sym (take-append-drop (width * used) m))
      ∙ word-append (take (width * used) m) (drop (width * used) m) used (omega arith) s k a b c

-- The first words of a memory, laid over it, are that memory.
pub laid-back : (n : ℕ) (m : List ℕ) → n ≤ length m → laid (take n m) m ≡ m
laid-back n m size = laid-over n (take n m) m (length-take-le n m size) ∙ take-append-drop n m
