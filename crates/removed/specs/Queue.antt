-- The free chain of ready memory as a list of slots, apart from the links: kept by a change of links, and put back together with
-- sound links into ready memory.
use Rattle.std.specs.Prelude.{◌≡◌, refl, List, [], ◌∷◌, ℕ, ◌≤◌}
use Rattle.std.proofs.Common.{ap, ◌∙◌, arith}
use Rattle.link.specs.Ids.{kind_of}
use Rattle.link.specs.Words.{STAMP, NUMBER, word}
use Rattle.link.specs.Found.{Found}
use Rattle.link.specs.declared.header.Header.{Header}
use Rattle.rules.specs.Lists.{head_or, last_or, NoDup, All}
use Rattle.rules.specs.Links.{view}
use Rattle.rules.specs.Sound.{LiveSlot, FreeSlot, Unspent, SoundLinks, Linked, Ready}
use Rattle.forest.specs.Lists.{all_map}
use Rattle.forest.specs.Free.{free_chain}
use Rattle.forest.specs.Kept.{Kept, linked-kept}

-- every live slot has kind 0
abbrev pub Kinds : List ℕ → ℕ → Type 0
Kinds m used = (s : ℕ) → 1 ≤ s → s ≤ used → LiveSlot m s → kind_of (word m s STAMP) ≡ 0

-- the free chain is fs, and none of it is spent
pub record Queue (m : List ℕ) (h : Header) (fs : List ℕ) : Type 0 where
  pub begins : h.first ≡ head_or fs 0
  pub linked : Linked (λ s. word m s NUMBER) fs
  pub distinct : NoDup fs
  pub within : All (λ s. (1 ≤ s) × (s ≤ h.used) × FreeSlot m s) fs
  pub unspent : All (Unspent m) fs
  pub ends : h.last ≡ last_or 0 fs

pub queue_of : (m : List ℕ) (h : Header) (R : Ready m h) → Queue m h R.sound.free.slots
queue_of m h R =
    let c = R.sound.free in
    record { begins = c.begins; linked = c.linked; distinct = c.distinct; within = c.within; unspent = R.unspent; ends = c.ends }

pub ready_of : (m : List ℕ) (h : Header) (fs : List ℕ) → Kinds m h.used → SoundLinks (view m) (Found m h.used) → Queue m h fs
    → (R : Ready m h) × (R.sound.free.slots ≡ fs)
ready_of m h fs kinds links q = (
  record {
    sound = record {
      kind = kinds;
      links = links;
      free = free_chain (λ s. word m s NUMBER) (FreeSlot m) h.used h.first h.last fs q.begins q.linked q.distinct q.within q.ends;
    };
    unspent = q.unspent;
  },
  refl,
)

module _ (m m' : List ℕ) (kept : Kept m m') where
  pub queue-kept : (h : Header) (fs : List ℕ) → Queue m h fs → Queue m' h fs
  queue-kept h fs q = record {
    begins = q.begins;
    linked = linked-kept _ _ (λ s. (kept s).1) fs q.linked;
    distinct = q.distinct;
    within = all_map _ _ (λ s w. (w.0, w.1, rw (kept s).0 w.2)) fs q.within;
    unspent = all_map (Unspent m) (Unspent m') (λ s u. rw (kept s).0 u) fs q.unspent;
    ends = q.ends;
  }

  pub kinds_kept : (used : ℕ) → Kinds m used → Kinds m' used
  kinds_kept used k s a b l = ap kind_of (kept s).0 ∙ k s a b (rw (kept s).0 at l)

-- the last of the chain is in use, or none
pub last_within : (m : List ℕ) (h : Header) (fs : List ℕ) → Queue m h fs → h.last ≤ h.used
last_within m h fs q = by 0 fs q.ends (omega arith) q.within
  where
    by : (b : ℕ) (fs : List ℕ) → h.last ≡ last_or b fs → b ≤ h.used → All (λ s. (1 ≤ s) × (s ≤ h.used) × FreeSlot m s) fs → h.last ≤ h.used
    by b [] e l a = omega arith
    by b (s ∷ fs) e l a = by s fs e a.0.1 a.1
