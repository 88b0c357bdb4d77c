-- Sound memory, once its spent slots are unlinked, is ready; its free chain is the one before without its spent slots, in order; each
-- of these then has no next, and every other word is as it was. From unlinking a chain, and the examination's exactness for links.
use Rattle.std.specs.Prelude.{◌≡◌, refl, ◌≢◌, Bool, true, false, cond, ℕ, zero, suc, ◌+◌, ◌*◌, ◌≤◌, ◌<◌, eqb, ltb, length}
use Rattle.std.proofs.Math.Path.{sym, subst}
use Rattle.std.proofs.Common.{◌∙◌, suc-le-suc, arith}
use mathlib.Core.List.{List, [], ◌∷◌}
use Rattle.link.specs.Ids.{stamp_of}
use Rattle.link.specs.Words.{width, STAMP, NUMBER, word}
use Rattle.link.specs.declared.header.Header.{Header}
use Rattle.rules.specs.Answers.{header}
use Rattle.rules.specs.Lists.{In, Off}
use Rattle.rules.specs.Sound.{FreeSlot, Unspent, FreeChain, Sound, Ready}
use Rattle.follow.specs.Pigeons.{Below, pigeons}
use Rattle.forest.specs.Lists.{off-not_in, not_in_off, all_map, all_of, all_in}
use Rattle.forest.specs.Free.{slots-some, free_chain, free-only}
use Rattle.examine.specs.Examination.{links_ok}
use Rattle.exact.specs.Exact.{links-sound}
use Rattle.image.specs.Unlink.{bypassed, unlink_run, unlinked}
use Rattle.image.specs.Same.{links-same}
use Rattle.imaged.specs.Chains.{unspent_of, unspent_in, unspent_nodup}
use Rattle.imaged.specs.UnlinkChain.{Unlinks, unlinks}

-- Used stays.
unlink-used : (n : ℕ) (m : List ℕ) (used first before x : ℕ) → (unlink_run n m used first before x).1.used ≡ used
unfolding unlink_run
unlink-used zero m used first before x = refl
unlink-used (suc n) m used first before x =
    by (eqb x 0) (ltb used x) (eqb (stamp_of (word m x STAMP)) 32768)
    (unlink-used n B.0 used B.1 before (word m x NUMBER)) (unlink-used n m used first x (word m x NUMBER))
  where
    B : List ℕ × ℕ
    B = bypassed m first before x (word m x NUMBER)

    by : (a u t : Bool) → (unlink_run n B.0 used B.1 before (word m x NUMBER)).1.used ≡ used → (unlink_run n m used first x (word m x NUMBER)).1.used ≡ used
        → (cond {A = List ℕ × Header} a (m, header used first before)
        (cond u (m, header used first before) (cond t (unlink_run n B.0 used B.1 before (word m x NUMBER)) (unlink_run n m used first x (word m x NUMBER))))).1.used ≡ used
    by true u t p q = refl
    by false true t p q = refl
    by false false true p q = p
    by false false false p q = q

pub same-used : (m : List ℕ) (h : Header) → (unlinked m h).1.used ≡ h.used
unfolding unlinked
same-used m h = unlink-used (h.used + 1) m h.used h.first 0 h.first

module _ (m : List ℕ) (h : Header) (S : Sound m h) (room : h.used * width ≤ length m) where
  -- A chain has no more slots than are in use.
  few : length S.free.slots ≤ h.used
  few =
      let c = S.free in
      let off : Off 0 c.slots = slots-some (FreeSlot m) h.used c.slots c.within in
      let b : Below (suc h.used) (0 ∷ c.slots) = (omega arith, all_map _ _ (λ s w. suc-le-suc w.1) c.slots c.within) in
      let p = pigeons (suc h.used) (0 ∷ c.slots) b (off, c.distinct) in omega arith

  pub unlinked_is : Unlinks m (unlinked m h).0 [] S.free.slots (unlinked m h).1
  unfolding unlinked
  unlinked_is =
      let c = S.free in
      let f = few in
      rw c.begins
      (unlinks (h.used + 1) m h.used [] c.slots (omega arith) room
      (record { leads = c.linked; distinct = c.distinct; within = all_map _ _ (λ s w. (w.0, w.1)) c.slots c.within }))

  -- Each spent slot of the chain has no next.
  pub spent_none : (s : ℕ) → In s S.free.slots → stamp_of (word m s STAMP) ≡ 32768 → word (unlinked m h).0 s NUMBER ≡ 0
  spent_none = unlinked_is.none

  -- Every word but the nexts of the chain is as it was.
  pub words-kept : (s k : ℕ) → k < width → k ≢ NUMBER → word (unlinked m h).0 s k ≡ word m s k
  words-kept = unlinked_is.words

  pub numbers-kept : (s : ℕ) → 1 ≤ s → Off s S.free.slots → word (unlinked m h).0 s NUMBER ≡ word m s NUMBER
  numbers-kept = unlinked_is.others

  stamps : (s : ℕ) → word (unlinked m h).0 s STAMP ≡ word m s STAMP
  stamps s = words-kept s STAMP (omega arith) (λ (e : STAMP ≡ NUMBER). omega arith)

  pub unspent-some : Off 0 (unspent_of m S.free.slots)
  unspent-some =
      not_in_off 0 (unspent_of m S.free.slots)
      (λ t. off-not_in 0 S.free.slots (slots-some (FreeSlot m) h.used S.free.slots S.free.within) (unspent_in m S.free.slots 0 t).0)

  -- The free chain is the one before without its spent slots, the others in their order.
  chain_after : FreeChain (λ s. word (unlinked m h).0 s NUMBER) (FreeSlot (unlinked m h).0) h.used (unlinked m h).1.first (unlinked m h).1.last
  chain_after =
      let U = unlinked_is in
      let c = S.free in
      free_chain _ _ h.used _ _ (unspent_of m c.slots) U.begins U.linked (unspent_nodup m c.slots c.distinct)
      (all_of _ (unspent_of m c.slots)
      (λ y t.
      let w = all_in (λ s. (1 ≤ s) × (s ≤ h.used) × FreeSlot m s) c.slots c.within y (unspent_in m c.slots y t).0 in
      (w.0, w.1, rw (stamps y) w.2))) U.ends

  pub free-order : (c : FreeChain (λ s. word (unlinked m h).0 s NUMBER) (FreeSlot (unlinked m h).0) h.used (unlinked m h).1.first (unlinked m h).1.last)
      → c.slots ≡ unspent_of m S.free.slots
  unfolding chain_after
  free-order c = free-only _ _ h.used _ _ c chain_after

  -- Once spent slots are unlinked, memory is ready.
  pub makes-ready : h.used ≤ 65535 → Ready (unlinked m h).0 (unlinked m h).1
  unfolding chain_after
  makes-ready small =
      let same : links_ok m h.used ≡ links_ok (unlinked m h).0 h.used = links-same m (unlinked m h).0 h.used (λ s k a b c n. sym (words-kept s k c n)) small in
      let (K, L) = (links-sound (unlinked m h).0 h.used).0 (sym same ∙ (links-sound m h.used).1 (S.kind, S.links)) in
      let R : Ready (unlinked m h).0 (header h.used (unlinked m h).1.first (unlinked m h).1.last) = record {
        sound = record { kind = K; links = L; free = chain_after };
        unspent = all_of (Unspent (unlinked m h).0) (unspent_of m S.free.slots) (λ y t. rw (stamps y) (unspent_in m S.free.slots y t).1);
      } in
      subst (λ (u : ℕ). Ready (unlinked m h).0 (header u (unlinked m h).1.first (unlinked m h).1.last)) (sym (same-used m h)) R
