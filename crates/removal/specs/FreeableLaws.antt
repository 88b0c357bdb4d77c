-- A node can still be freed after a change of links, and after another node was freed; on ready memory every found node can be.
use Rattle.std.specs.Prelude.{◌≡◌, ◌≢◌, Bool, true, false, cond, List, [], ◌∷◌, ℕ, ◌+◌, ◌*◌, ◌<◌, ◌≤◌, eqb, length}
use Rattle.std.proofs.Common.{ap, ◌∙◌, arith}
use Rattle.link.specs.Ids.{slot_of, stamp_of, kind_of}
use Rattle.link.specs.Stamps.{removed_bits}
use Rattle.link.specs.Words.{width, STAMP, NUMBER, PARENT, PREVIOUS, NEXT, FIRST, LAST, word, set_word}
use Rattle.link.specs.WordLaws.{length-set_word, word-slot, word-other}
use Rattle.link.specs.Found.{Found}
use Rattle.link.specs.Only.{Only}
use Rattle.link.specs.declared.header.Header.{Header}
use Rattle.rules.specs.Answers.{header}
use Rattle.rules.specs.Lists.{last_or, All}
use Rattle.rules.specs.Sound.{FreeSlot, Ready}
use Rattle.arena.specs.Nodes.{slot_at}
use Rattle.arena.specs.FreeList.{join_last, free_node}
use Rattle.arena.specs.FreeListLaws.{length-slot_at}
use Rattle.removal.specs.Freeable.{Freeable}

-- Where the stamp stays, so does the node.
found-stays : (m m' : List ℕ) (used x : ℕ) → word m' (slot_of x) STAMP ≡ word m (slot_of x) STAMP → Found m used x → Found m' used x
found-stays m m' used x e f =
    record { from = f.from; upto = f.upto; small = f.small; stamp = ap stamp_of e ∙ f.stamp; kind = ap kind_of e ∙ f.kind }

pub freeable-only : (h : Header) (x : ℕ) {ids m m' : List ℕ} → Only ids m m' → Freeable m h x → Freeable m' h x
freeable-only h x {m = m} {m' = m'} only f = (
  found-stays m m' h.used x (only.stays (slot_of x) STAMP (omega arith) (λ (a : PARENT ≤ STAMP) _. omega arith)) f.0,
  rw only.size f.1,
  f.2,
)

-- Two found identifiers of one slot are one.
one-slot : (m : List ℕ) (used x y : ℕ) → Found m used x → Found m used y → x ≢ y → slot_of x ≢ slot_of y
one-slot m used x y f g n e =
    let a : stamp_of (word m (slot_of x) STAMP) ≡ stamp_of (word m (slot_of y) STAMP) = ap (λ (s : ℕ). stamp_of (word m s STAMP)) e in
    let b = f.stamp in let c = g.stamp in n (omega arith)

-- Another slot's stamp, where a slot is written whole.
stamp-other : (m : List ℕ) (s a b t : ℕ) → 0 < s → 0 < t → t ≢ s → word (slot_at m s a b) t STAMP ≡ word m t STAMP
unfolding slot_at
stamp-other m s a b t p q n =
    by _ LAST _ (omega arith) (omega arith) ∙ by _ FIRST _ (omega arith) (omega arith) ∙ by _ NEXT _ (omega arith) (omega arith)
    ∙ by _ PREVIOUS _ (omega arith) (omega arith) ∙ by _ PARENT _ (omega arith) (omega arith) ∙ by _ NUMBER _ (omega arith) (omega arith)
    ∙ word-slot m s STAMP a t STAMP p q (omega arith) (omega arith) n
  where
    by : (w : List ℕ) (k v : ℕ) → k < width → STAMP < k → word (set_word w s k v) t STAMP ≡ word w t STAMP
    by w k v c d = word-other w s k v t STAMP c (omega arith) (λ (e : STAMP ≡ k). omega arith)

-- Another node was freed.
pub freeable-freed : (m : List ℕ) (h : Header) (c x : ℕ) → Freeable m h c → Found m h.used x → x ≢ c
    → Freeable (free_node m h c).0 (free_node m h c).1 x
unfolding free_node join_last
freeable-freed m h c x f g n = by (eqb bits 32768) (eqb h.last 0)
  where
    s : ℕ
    s = slot_of c

    bits : ℕ
    bits = removed_bits (stamp_of (word m s STAMP))

    m₁ : List ℕ
    m₁ = slot_at m s (65536 + bits) 0

    m₂ : List ℕ
    m₂ = set_word m₁ h.last NUMBER s

    kept : word m₁ (slot_of x) STAMP ≡ word m (slot_of x) STAMP
    kept = stamp-other m s (65536 + bits) 0 (slot_of x) f.0.from g.from (one-slot m h.used x c g f.0 n)

    kept₂ : word m₂ (slot_of x) STAMP ≡ word m (slot_of x) STAMP
    kept₂ = word-other m₁ h.last NUMBER s (slot_of x) STAMP (omega arith) (omega arith) (λ (e : STAMP ≡ NUMBER). omega arith) ∙ kept

    room : h.used * width ≤ length m₁
    room = rw (length-slot_at m s (65536 + bits) 0) f.1

    R : List ℕ × Header → Type 0
    R r = Freeable r.0 r.1 x

    by : (a b : Bool) → R (cond a (m₁, h) (cond b (m₁, header h.used s s) (m₂, header h.used h.first s)))
    by true b = (found-stays m m₁ h.used x kept g, room, f.2)
    by false true = (found-stays m m₁ h.used x kept g, room, f.0.upto)
    by false false = (found-stays m m₂ h.used x kept₂ g, rw (length-set_word m₁ h.last NUMBER s) room, f.0.upto)

-- The last free slot of ready memory is in use.
pub last-used : (m : List ℕ) (h : Header) → Ready m h → h.last ≤ h.used
last-used m h R = by 0 R.sound.free.slots R.sound.free.ends (omega arith) R.sound.free.within
  where
    by : (b : ℕ) (fs : List ℕ) → h.last ≡ last_or b fs → b ≤ h.used → All (λ s. (1 ≤ s) × (s ≤ h.used) × FreeSlot m s) fs → h.last ≤ h.used
    by b [] e l a = omega arith
    by b (s ∷ fs) e l a = by s fs e a.0.1 a.1
