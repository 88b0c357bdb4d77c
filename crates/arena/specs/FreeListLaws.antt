-- Stamps stepped through their bits, as the code does it; and what taking and freeing a slot come to, by their cases.
use Rattle.std.specs.Prelude.{◌≡◌, refl, Bool, true, false, ◌-◌, ℕ, ◌+◌, ◌<◌, ◌≤◌, eqb, ℤ, length, Some, None}
use Rattle.std.proofs.Common.{sym, ◌∙◌, arith, le-leb, eq-eqb, ne_eqb}
use Rattle.std.proofs.Math.Path.{ap}
use Rattle.std.proofs.Math.Decide.{ℕ_discrete}
use mathlib.Core.List.{List}
use Rattle.std.proofs.lemmas.Bool.Decides.{nat_tests}
use Rattle.std.proofs.lemmas.Bool.{lt-leb}
use Rattle.link.specs.Ids.{slot_of, stamp_of}
use Rattle.link.specs.Stamps.{Live, Reusable, removed_stamp, reused_stamp, is_spent, bits_of, stamp_of_bits, removed_bits, reused_bits}
use Rattle.link.specs.StampLaws.{stamp-bits, removed_bits_lem, reused_bits_lem, spent-of_bits}
use Rattle.link.specs.Words.{STAMP, NUMBER, word, set_word}
use Rattle.link.specs.WordLaws.{length-set_word}
use Rattle.link.specs.declared.header.Header.{Header}
use Rattle.rules.specs.Answers.{header}
use Rattle.arena.specs.Nodes.{slot_at}
use Rattle.arena.specs.FreeList.{popped, popped_of, last_left, pop_front, pop_free, join_last, free_node}
use Rattle.arena.specs.declared.arena.Popped.{Popped}

module _ (b : ℕ) where
  pub live-of_bits : b ≤ 32767 → Live (stamp_of_bits b)
  live-of_bits h = rw (le-leb b 32767 h) h

  pub reusable-of_bits : 32769 ≤ b → b ≤ 65535 → Reusable (stamp_of_bits b)
  reusable-of_bits h k = rw (lt-leb b 32767 (omega arith)) (let q : 65535 - b ≤ 32766 = omega arith in q)

  pub stepped-removed : b ≤ 32767 → bits_of (removed_stamp (stamp_of_bits b)) ≡ removed_bits b
  stepped-removed h = removed_bits_lem (stamp_of_bits b) (live-of_bits h) ∙ ap removed_bits (stamp-bits b (omega arith))

  pub stepped-reused : 32769 ≤ b → b ≤ 65535 → bits_of (reused_stamp (stamp_of_bits b)) ≡ reused_bits b
  stepped-reused h k = reused_bits_lem (stamp_of_bits b) (reusable-of_bits h k) ∙ ap reused_bits (stamp-bits b (omega arith))

-- For a step of a stamp on its bits, and for the test whether it is spent.
pub ruleset stamp_steps = (live-of_bits, reusable-of_bits, stepped-removed, stepped-reused)

pub ruleset freed = (nat_tests, spent-of_bits)

pub length-slot_at : (m : List ℕ) (s a b : ℕ) → length (slot_at m s a b) ≡ length m
unfolding slot_at
length-slot_at m s a b = simp length-set_word

module _ (m : List ℕ) (h : Header) where
  pub pop_none : h.first ≡ 0 → pop_front m h ≡ popped 0 h
  unfolding pop_front
  pop_none e = simp (eq-eqb h.first 0 e)

  pub pop-some : 0 < h.first → pop_front m h
      ≡ popped h.first (header h.used (word m h.first NUMBER) (last_left (word m h.first NUMBER) h.last))
  unfolding pop_front
  pop-some p = simp (ne_eqb h.first 0 (λ (e : h.first ≡ 0). omega arith))

  pub join_none : {s : ℕ} {g : Header} → h.last ≡ 0 → g ≡ header h.used s s → (m, g) ≡ join_last m h s
  unfolding join_last
  join_none e f = simp (eq-eqb h.last 0 e) (ap (λ (x : Header). (m, x)) f)

  pub join-some : {s : ℕ} {m₁ : List ℕ} {g : Header} → (h.last ≡ 0 → ⊥) → m₁ ≡ set_word m h.last NUMBER s → g ≡ header h.used h.first s
      → (m₁, g) ≡ join_last m h s
  unfolding join_last
  join-some {s} {m₁} {g} n e f =
      simp (ne_eqb h.last 0 n)
      (ap (λ (x : List ℕ). (x, g)) e ∙ ap (λ (x : Header). (set_word m h.last NUMBER s, x)) f)

  -- What the code reads and writes on the way: the slot, its word 0 and stamp, the stamp removed, and whether that is spent.
  module _ (id : ℕ) {s w b bits : ℕ} {m₁ : List ℕ} {z : ℤ} {t : Bool}
      (slot : s ≡ slot_of id) (read : w ≡ word m s STAMP) (low : b ≡ stamp_of w) (step : bits ≡ removed_bits b)
      (wrote : m₁ ≡ slot_at m s (65536 + bits) 0) (is : z ≡ stamp_of_bits bits) (test : t ≡ is_spent z) where
    bits_are : bits ≡ removed_bits (stamp_of (word m (slot_of id) STAMP))
    bits_are = step ∙ ap removed_bits (low ∙ ap stamp_of (read ∙ ap (λ (x : ℕ). word m x STAMP) slot))

    words_are : m₁ ≡ slot_at m (slot_of id) (65536 + bits) 0
    words_are = wrote ∙ ap (λ (x : ℕ). slot_at m x (65536 + bits) 0) slot

    test_is : eqb bits 32768 ≡ t
    test_is = sym (test ∙ ap is_spent is ∙ spent-of_bits bits (omega arith))

    pub free-spent : t ≡ true → (m₁, h) ≡ free_node m h id
    unfolding free_node
    free-spent e = simp (sym bits_are, test_is ∙ e) (ap (λ (x : List ℕ). (x, h)) words_are)

    pub free-joined : {r : List ℕ × Header} → t ≡ false → r ≡ join_last m₁ h s → r ≡ free_node m h id
    unfolding free_node
    free-joined e g =
        simp (sym bits_are, test_is ∙ e) (g ∙ ap (join_last m₁ h) slot ∙ ap (λ (x : List ℕ). join_last x h (slot_of id)) words_are)

  pub free-none : h.first ≡ 0 → pop_free m h ≡ None
  unfolding pop_free
  free-none e = simp (eq-eqb h.first 0 e)

  pub free-some : 0 < h.first → pop_free m h ≡ Some (pop_front m h)
  unfolding pop_free
  free-some p = simp (ne_eqb h.first 0 (λ (e : h.first ≡ 0). omega arith))

  -- What was taken, or that nothing was, says whether the chain was empty.
  pub taken-first : (taken : Popped) → pop_free m h ≡ Some taken → (0 < h.first) × (taken ≡ pop_front m h) × (taken.slot ≡ h.first)
  taken-first taken e = by (ℕ_discrete h.first 0)
    where
      by : Dec (h.first ≡ 0) → (0 < h.first) × (taken ≡ pop_front m h) × (taken.slot ≡ h.first)
      by (yes z) = let q = free-none z in absurd (cc)
      by (no n) =
          let p : 0 < h.first = omega arith in
          let q = free-some p in
          let t : taken ≡ pop_front m h = cc in
          (p, t, ap (λ (x : Popped). x.slot) (t ∙ pop-some p))

  pub none-first : pop_free m h ≡ None → h.first ≡ 0
  none-first e = by (ℕ_discrete h.first 0)
    where
      by : Dec (h.first ≡ 0) → h.first ≡ 0
      by (yes z) = z
      by (no n) = let p : 0 < h.first = omega arith in let q = free-some p in absurd (cc)

  -- One with none and the other with 0 say the same.
  pub popped-free : popped_of h (pop_free m h) ≡ pop_front m h
  popped-free = by (ℕ_discrete h.first 0)
    where
      by : Dec (h.first ≡ 0) → popped_of h (pop_free m h) ≡ pop_front m h
      by (yes z) = rw (free-none z) (sym (pop_none z))
      by (no n) = rw (free-some (omega arith)) refl
