-- One node freed, on words: its slot has kind 1 and the removed stamp, every other word but the next of the chain's last stays.
-- So exactly that node is no longer found, and every live slot still has kind 0.
use Rattle.std.specs.Prelude.{◌≡◌, refl, ◌≢◌, ◌↔◌, cond, List, ℕ, ◌+◌, ◌*◌, ◌<◌, ◌≤◌, eqb, length}
use Rattle.std.proofs.Common.{sym, ap, ◌∙◌, subst, arith, eq-eqb, ne_eqb}
use Rattle.std.proofs.Math.Decide.{ℕ_discrete}
use Rattle.link.specs.Ids.{slot_of, stamp_of, kind_of}
use Rattle.link.specs.Stamps.{removed_bits}
use Rattle.link.specs.Words.{width, STAMP, NUMBER, word, set_word}
use Rattle.link.specs.WordLaws.{length-set_word, word-slot, word-other}
use Rattle.link.specs.Found.{Found}
use Rattle.link.specs.FoundLaws.{found-held, held_found}
use Rattle.link.specs.declared.header.Header.{Header}
use Rattle.rules.specs.Answers.{header}
use Rattle.forest.specs.Found.{found_one}
use Rattle.arena.specs.Nodes.{freed_at}
use Rattle.arena.specs.FreeList.{join_last, free_node}
use Rattle.arena.specs.FreeListLaws.{length-slot_at}
use Rattle.keeps.specs.Slots.{slot-other, slot-stamp}
use Rattle.removal.specs.Freeable.{Freeable}
use Rattle.removed.specs.Queue.{Kinds}

module _ (m : List ℕ) (h : Header) (c : ℕ) (f : Freeable m h c) where
  abbrev s : ℕ
  s = slot_of c

  abbrev bits : ℕ
  bits = removed_bits (stamp_of c)

  abbrev m₁ : List ℕ
  m₁ = freed_at m s bits

  abbrev m₂ : List ℕ
  m₂ = set_word m₁ h.last NUMBER s

  abbrev m' : List ℕ
  m' = (free_node m h c).0

  abbrev h' : Header
  h' = (free_node m h c).1

  -- spent; the first of the chain; behind its last
  pub free_elim : (P : List ℕ × Header → Type 0) → (stamp_of c ≡ 32767 → P (m₁, h)) → (stamp_of c ≢ 32767 → h.last ≡ 0 → P (m₁, header h.used s s))
      → (stamp_of c ≢ 32767 → h.last ≢ 0 → P (m₂, header h.used h.first s)) → P (free_node m h c)
  unfolding free_node join_last
  free_elim P spent one more = rw f.0.stamp (by (ℕ_discrete (stamp_of c) 32767) (ℕ_discrete h.last 0))
    where
      small : stamp_of c ≤ 32767
      small = f.0.small

      by : Dec (stamp_of c ≡ 32767) → Dec (h.last ≡ 0)
          → P (cond (eqb bits 32768) (m₁, h) (cond (eqb h.last 0) (m₁, header h.used s s) (m₂, header h.used h.first s)))
      by (yes e) d = let q : bits ≡ 32768 = omega arith in simp (eq-eqb bits 32768 q) (spent e)
      by (no n) (yes e) = simp (ne_eqb bits 32768 (λ (q : bits ≡ 32768). n (omega arith)), eq-eqb h.last 0 e) (one n e)
      by (no n) (no k) = simp (ne_eqb bits 32768 (λ (q : bits ≡ 32768). n (omega arith)), ne_eqb h.last 0 k) (more n k)

  some : 0 < s
  some = f.0.from

  room : s * width ≤ length m
  room = let a = f.0.upto in let b = f.1 in omega arith

  pub free-used : h'.used ≡ h.used
  free-used = free_elim (λ r. r.1.used ≡ h.used) (λ _. refl) (λ _ _. refl) (λ _ _. refl)

  pub free-length : length m' ≡ length m
  free-length = free_elim (λ r. length r.0 ≡ length m) (λ _. length-slot_at m s _ 0) (λ _ _. length-slot_at m s _ 0)
      (λ _ _. length-set_word m₁ h.last NUMBER s ∙ length-slot_at m s _ 0)

  -- every word of another slot, but for the next of the last
  pub free-word : (t j : ℕ) → 0 < t → j < width → t ≢ s → (t ≡ h.last → j ≡ NUMBER → ⊥) → word m' t j ≡ word m t j
  free-word t j p a n k = free_elim (λ r. word r.0 t j ≡ word m t j) (λ _. whole) (λ _ _. whole) (λ _ l. next l (ℕ_discrete j NUMBER) ∙ whole)
    where
      whole : word m₁ t j ≡ word m t j
      whole = slot-other m s (65536 + bits) 0 t j some p a n

      next : h.last ≢ 0 → Dec (j ≡ NUMBER) → word m₂ t j ≡ word m₁ t j
      next l (yes e) = word-slot m₁ h.last NUMBER s t j (omega arith) p (omega arith) a (λ q. k q e)
      next l (no e) = word-other m₁ h.last NUMBER s t j (omega arith) a e

  pub free-stamp : word m' s STAMP ≡ 65536 + bits
  free-stamp = free_elim (λ r. word r.0 s STAMP ≡ 65536 + bits) (λ _. whole) (λ _ _. whole)
      (λ _ _. word-other m₁ h.last NUMBER s s STAMP (omega arith) (omega arith) (λ (e : STAMP ≡ NUMBER). omega arith) ∙ whole)
    where
      whole : word m₁ s STAMP ≡ 65536 + bits
      whole = slot-stamp m s (65536 + bits) 0 some room

  pub stamp-same : (t : ℕ) → 0 < t → t ≢ s → word m' t STAMP ≡ word m t STAMP
  stamp-same t p n = free-word t STAMP p (omega arith) n (λ _ (e : STAMP ≡ NUMBER). omega arith)

  -- another found node has another slot
  pub other-slot : (y : ℕ) → Found m h.used y → y ≢ c → slot_of y ≢ s
  other-slot y g n e = n (found_one m h.used y c g f.0 e)

  pub found-freed : (y : ℕ) → Found m' h'.used y ↔ (Found m h.used y × (y ≢ c))
  found-freed y = (λ g. to (rw free-used at g), λ w. rw free-used (from w.0 w.1))
    where
      from : Found m h.used y → y ≢ c → Found m' h.used y
      from g n = held_found m' h.used y g.from g.upto g.small (stamp-same (slot_of y) g.from (other-slot y g n) ∙ found-held m h.used y g)

      to : Found m' h.used y → Found m h.used y × (y ≢ c)
      to g = (
        held_found m h.used y g.from g.upto g.small (sym (stamp-same (slot_of y) g.from elsewhere) ∙ found-held m' h.used y g),
        λ e. elsewhere (ap slot_of e),
      )
        where
          elsewhere : slot_of y ≢ s
          elsewhere e =
              let a = free-stamp in
              let b : word m' s STAMP ≡ stamp_of y = ap (λ (t : ℕ). word m' t STAMP) (sym e) ∙ found-held m' h.used y g in
              omega arith

  pub kinds-freed : Kinds m h.used → Kinds m' h'.used
  kinds-freed k t a b l = by (ℕ_discrete t s)
    where
      by : Dec (t ≡ s) → kind_of (word m' t STAMP) ≡ 0
      by (yes e) =
          let w : word m' t STAMP ≡ 65536 + bits = ap (λ (z : ℕ). word m' z STAMP) e ∙ free-stamp in
          let small = f.0.small in let l' : stamp_of (word m' t STAMP) ≤ 32767 = l in absurd (omega arith)
      by (no n) =
          let w = stamp-same t a n in
          let u = free-used in
          ap kind_of w ∙ k t a (omega arith) (subst (λ (z : ℕ). stamp_of z ≤ 32767) w l)
