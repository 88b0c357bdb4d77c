-- Sound and ready memory, sentence by sentence as document 01 lists them, over any words and any header.
-- Excluded: two nodes that are each other's next and that no root leads to; a free chain that comes back to its own first slot.
use Rattle.std.specs.Prelude.{◌≡◌, ◌≢◌, ◌↔◌, List, [], ◌∷◌, ℕ, ◌≤◌}
use Rattle.link.specs.Ids.{stamp_of, kind_of}
use Rattle.link.specs.Words.{STAMP, NUMBER, word}
use Rattle.link.specs.Found.{Found}
use Rattle.link.specs.declared.header.Header.{Header}
use Rattle.rules.specs.Lists.{head_or, last_or, NoDup, All}
use Rattle.rules.specs.Links.{Link, par, prv, nxt, fst, lst, View, view}

-- A slot is live when its stamp is not negative: its 16 bits are at most 32,767.
abbrev pub LiveSlot : List ℕ → ℕ → Type 0
LiveSlot m s = stamp_of (word m s STAMP) ≤ 32767

-- Removed, and of kind 1.
abbrev pub FreeSlot : List ℕ → ℕ → Type 0
FreeSlot m s = (32768 ≤ stamp_of (word m s STAMP)) × (kind_of (word m s STAMP) ≡ 1)

-- Spent is the stamp −32,768.
abbrev pub Unspent : List ℕ → ℕ → Type 0
Unspent m s = stamp_of (word m s STAMP) ≢ 32768

-- A route to x, along first child and next, from the start of a parentless chain: a live node, no parent, no previous.
pub data Reach (v : View) (live : ℕ → Type 0) : ℕ → Type 0 where
  start : {x : ℕ} → live x → v par x ≡ 0 → v prv x ≡ 0 → Reach v live x
  to-child : {p x : ℕ} → Reach v live p → v fst p ≡ x → x ≢ 0 → Reach v live x
  to-next : {q x : ℕ} → Reach v live q → v nxt q ≡ x → x ≢ 0 → Reach v live x

-- There is one, and any two are the same.
abbrev pub ExactlyOne : Type 0 → Type 0
ExactlyOne A = A × ((r s : A) → r ≡ s)

-- y is on the chain that starts at a and goes along next.
pub data OnChain (v : View) (a : ℕ) : ℕ → Type 0 where
  here : OnChain v a a
  along : {z y : ℕ} → OnChain v a z → v nxt z ≡ y → y ≢ 0 → OnChain v a y

pub record ChildChain (v : View) (x : ℕ) : Type 0 where
  -- The child chain starts at the first, has no previous there,
  pub no-previous : v prv (v fst x) ≡ 0
  -- ends at the last,
  pub reaches : OnChain v (v fst x) (v lst x)
  pub ends : v nxt (v lst x) ≡ 0
  -- and all on it name this parent.
  pub named : (y : ℕ) → OnChain v (v fst x) y → v par y ≡ x

-- The links of live nodes. A live slot of kind 0 is named by exactly one found identifier, so `live` is being found.
pub record SoundLinks (v : View) (live : ℕ → Type 0) : Type 0 where
  -- Each link it holds is none or found.
  pub found : (x : ℕ) → live x → (k : Link) → v k x ≢ 0 → live (v k x)
  -- First and last child are both none or both present.
  pub both : (x : ℕ) → live x → (v fst x ≡ 0) ↔ (v lst x ≡ 0)
  -- The child chain starts at the first, has no previous there, ends at the last, and all on it name this parent.
  pub kids : (x : ℕ) → live x → v fst x ≢ 0 → ChildChain v x
  -- Next and previous agree mutually;
  pub after : (x : ℕ) → live x → v nxt x ≢ 0 → v prv (v nxt x) ≡ x
  pub before : (x : ℕ) → live x → v prv x ≢ 0 → v nxt (v prv x) ≡ x
  -- siblings share a parent or have none.
  pub share : (x : ℕ) → live x → v nxt x ≢ 0 → v par (v nxt x) ≡ v par x
  -- From the starts of parentless chains, along first child and next, each live slot is reached exactly once.
  pub once : (x : ℕ) → live x → ExactlyOne (Reach v live x)

-- From each member next leads to the one behind it, from the last to none.
abbrev pub Linked : (ℕ → ℕ) → List ℕ → Type 0
Linked next [] = Unit {0}
Linked next (s ∷ fs) = (next s ≡ head_or fs 0) × Linked next fs

-- The free chain: `next` leads from free slot to free slot, `ok` is removed and of kind 1.
pub record FreeChain (next : ℕ → ℕ) (ok : ℕ → Type 0) (used first last : ℕ) : Type 0 where
  -- First and last free are both none or both present.
  pub both : (first ≡ 0) ↔ (last ≡ 0)
  -- The chain (its slots, from first free along next)
  pub slots : List ℕ
  pub begins : first ≡ head_or slots 0
  pub linked : Linked next slots
  -- visits distinct slots
  pub distinct : NoDup slots
  -- within used, each removed and of kind 1,
  pub within : All (λ s. (1 ≤ s) × (s ≤ used) × ok s) slots
  -- and ends at last free.
  pub ends : last ≡ last_or 0 slots

-- Of a removed slot off the chain nothing is asked.
pub record Sound (m : List ℕ) (h : Header) : Type 0 where
  -- Every live slot has kind 0,
  pub kind : (s : ℕ) → 1 ≤ s → s ≤ h.used → LiveSlot m s → kind_of (word m s STAMP) ≡ 0
  -- and its links are as above;
  pub links : SoundLinks (view m) (Found m h.used)
  -- so is the free chain.
  pub free : FreeChain (λ s. word m s NUMBER) (FreeSlot m) h.used h.first h.last

-- Ready means sound, with no spent slot on the chain.
pub record Ready (m : List ℕ) (h : Header) : Type 0 where
  pub sound : Sound m h
  pub unspent : All (Unspent m) sound.free.slots
