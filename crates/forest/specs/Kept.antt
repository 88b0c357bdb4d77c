-- A change of links alone: stamps and numbers stay, so the same identifiers are found and the free chain is the same; memory
-- that was sound or ready is so again when its links are.
use Rattle.std.specs.Prelude.{◌≡◌, List, [], ◌∷◌, ℕ, ◌≤◌}
use Rattle.std.proofs.Common.{ap, ◌∙◌, arith}
use Rattle.link.specs.Ids.{kind_of}
use Rattle.link.specs.Words.{STAMP, NUMBER, PARENT, word}
use Rattle.link.specs.Found.{Found}
use Rattle.link.specs.Only.{Only}
use Rattle.link.specs.declared.header.Header.{Header}
use Rattle.rules.specs.Links.{view}
use Rattle.rules.specs.Sound.{SoundLinks, Linked, FreeChain, Sound, Ready, FreeSlot, Unspent}
use Rattle.forest.specs.Lists.{all_map}

-- stamps and numbers of every slot are as before
abbrev pub Kept : List ℕ → List ℕ → Type 0
Kept m m' = (s : ℕ) → (word m' s STAMP ≡ word m s STAMP) × (word m' s NUMBER ≡ word m s NUMBER)

pub only_kept : {ids m m' : List ℕ} → Only ids m m' → Kept m m'
only_kept only s = (
  only.stays s STAMP (omega arith) (λ (a : PARENT ≤ STAMP) _. omega arith),
  only.stays s NUMBER (omega arith) (λ (a : PARENT ≤ NUMBER) _. omega arith),
)

pub linked-kept : (f g : ℕ → ℕ) → ((s : ℕ) → g s ≡ f s) → (fs : List ℕ) → Linked f fs → Linked g fs
linked-kept f g same [] l = tt
linked-kept f g same (s ∷ fs) l = (same s ∙ l.0, linked-kept f g same fs l.1)

module _ (m m' : List ℕ) (kept : Kept m m') (h : Header) where
  abbrev Chain : List ℕ → Type 0
  Chain w = FreeChain (λ s. word w s NUMBER) (FreeSlot w) h.used h.first h.last

  unfoldable pub free-kept : Chain m → Chain m'
  free-kept c = record {
    both = c.both;
    slots = c.slots;
    begins = c.begins;
    linked = linked-kept _ _ (λ s. (kept s).1) c.slots c.linked;
    distinct = c.distinct;
    within = all_map _ _ (λ s w. (w.0, w.1, rw (kept s).0 w.2)) c.slots c.within;
    ends = c.ends;
  }

  unfoldable pub sound-kept : SoundLinks (view m') (Found m' h.used) → Sound m h → Sound m' h
  sound-kept L S = record {
    kind = λ s a b l. ap kind_of (kept s).0 ∙ S.kind s a b (rw (kept s).0 at l);
    links = L;
    free = free-kept S.free;
  }

  pub ready-kept : SoundLinks (view m') (Found m' h.used) → Ready m h → Ready m' h
  unfolding free-kept sound-kept
  ready-kept L R = record {
    sound = sound-kept L R.sound;
    unspent = all_map (Unspent m) (Unspent m') (λ s u. rw (kept s).0 u) R.sound.free.slots R.unspent;
  }
