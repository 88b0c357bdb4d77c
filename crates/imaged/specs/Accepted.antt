-- What load accepts: a whole image of version 1 that fits, whose own words and header are sound. Memory is then ready, and its free chain
-- is the image's without its spent slots, in order. Excluded: an unsound image accepted; a sound one refused; a chain turned round.
use Rattle.std.specs.Prelude.{◌≡◌, ◌↔◌, Bool, not, List, eqb, length}
use Rattle.std.proofs.Math.Path.{refl, ap}
use Rattle.std.proofs.Common.{sym, ◌∙◌, subst, arith, eqb-true, eq-eqb}
use Rattle.std.proofs.Math.Bool.{true, false, cond}
use Prim.Native.Nat.{ℕ, ◌*◌, ◌≤◌}
use Rattle.std.proofs.Math.Decide.{ℕ_discrete}
use Rattle.link.specs.Words.{width, most, word, NUMBER}
use Rattle.link.specs.declared.header.Header.{Header}
use Rattle.little_endian.specs.RunLaws.{length-numbers_at}
use Rattle.rules.specs.Answers.{DONE, INVALID, answer}
use Rattle.rules.specs.declared.answer.Answer.{Answer}
use Rattle.rules.specs.Sound.{FreeSlot, Sound, Ready}
use Rattle.forest.specs.Lists.{all_in}
use Rattle.forest.specs.Free.{slots-some, linked-only}
use Rattle.examine.specs.Scratch.{zeroed}
use Rattle.examine.specs.Verdicts.{sound_b}
use Rattle.examine.specs.Examination.{examined}
use Rattle.exact.specs.Exact.{examined-sound}
use Rattle.sound.specs.GuardLaws.{capacity-fits}
use Rattle.image.specs.Image.{prefix, used_in, header_in, words_in, laid}
use Rattle.image.specs.Unlink.{unlinked}
use Rattle.image.specs.UnlinkLaws.{length-unlink_run}
use Rattle.image.specs.Load.{load_no_with, load_no, refused_load, loaded}
use Rattle.image.specs.LoadLaws.{Passed, passes, passed, refuses}
use Rattle.imaged.specs.Chains.{linked-same, unspent_of}
use Rattle.imaged.specs.Unlinked.{same-used, unlinked_is, unspent-some, makes-ready}
use Rattle.imaged.specs.Slots.{slots-back, ready-same, laid-slots}

module _ (bytes words scratch : List ℕ) where
  abbrev ws : List ℕ
  ws = words_in bytes

  abbrev h : Header
  h = header_in bytes

  abbrev answered : List ℕ × List ℕ × Answer
  answered = loaded bytes words scratch

  -- The number answered is that of the order of tests.
  pub load_number : (loaded bytes words scratch).2.number ≡ load_no bytes (length words) (length scratch)
  unfolding loaded
  load_number = by (eqb number DONE) (eqb number INVALID) refl refl
    where
      number : ℕ
      number = load_no bytes (length words) (length scratch)

      after : List ℕ × Header
      after = unlinked ws h

      by : (a b : Bool) → eqb number DONE ≡ a → eqb number INVALID ≡ b
          → (cond {A = List ℕ × List ℕ × Answer} a (laid after.0 words, zeroed (2 * used_in bytes) scratch, answer after.1 DONE 0)
          (cond b (zeroed (width * used_in bytes) words, zeroed (2 * used_in bytes) scratch, refused_load INVALID) (words, scratch, refused_load number))).2.number ≡ number
      by true b p q = sym (eqb-true number DONE p)
      by false true p q = sym (eqb-true number INVALID q)
      by false false p q = refl

  -- An image is accepted exactly where every test before its words passes and they are sound.
  pub load_accepts : ((loaded bytes words scratch).2.number ≡ DONE) ↔ (Passed bytes (length words) (length scratch) × Sound (words_in bytes) (header_in bytes))
  unfolding load_no
  load_accepts = (
    λ e. to (sym load_number ∙ e),
    λ (p, S). load_number ∙ passed bytes (length words) (length scratch) _ p ∙ ap (λ (b : Bool). cond (not b) INVALID DONE) ((examined-sound ws h).1 S),
  )
    where
      sure : (b : Bool) → cond (not b) INVALID DONE ≡ DONE → b ≡ true
      sure true e = refl
      sure false e = absurd (omega arith)

      to : load_no bytes (length words) (length scratch) ≡ DONE → Passed bytes (length words) (length scratch) × Sound (words_in bytes) (header_in bytes)
      to e = by (ℕ_discrete (load_no_with false bytes (length words) (length scratch)) DONE)
        where
          by : Dec (load_no_with false bytes (length words) (length scratch) ≡ DONE) → Passed bytes (length words) (length scratch) × Sound (words_in bytes) (header_in bytes)
          by (yes d) =
              let p = passes bytes (length words) (length scratch) d in
              (p, (examined-sound ws h).0 (sure (sound_b (examined ws h)) (sym (passed bytes (length words) (length scratch) _ p) ∙ e)))
          by (no n) = absurd (n (sym (refuses bytes (length words) (length scratch) _ n).0 ∙ e))

  module _ (accepted : (loaded bytes words scratch).2.number ≡ DONE) where
    pub sound_image : Sound (words_in bytes) (header_in bytes)
    sound_image = (load_accepts.0 accepted).1

    -- What is left then.
    pub loaded_is : loaded bytes words scratch ≡ (laid (unlinked (words_in bytes) (header_in bytes)).0 words, zeroed (2 * used_in bytes) scratch, answer (unlinked (words_in bytes) (header_in bytes)).1 DONE 0)
    unfolding loaded
    loaded_is = rw (eq-eqb (load_no bytes (length words) (length scratch)) DONE (sym load_number ∙ accepted))

    pub small : used_in bytes ≤ most
    small = (capacity-fits (length words) (used_in bytes) (load_accepts.0 accepted).0.frame).0

    pub size : length (words_in bytes) ≡ width * used_in bytes
    size = length-numbers_at 4 (width * used_in bytes) bytes prefix

    pub size_after : length (unlinked (words_in bytes) (header_in bytes)).0 ≡ width * used_in bytes
    unfolding unlinked
    size_after = length-unlink_run _ ws _ _ _ _ ∙ size

    room : used_in bytes * width ≤ length ws
    room = let z = size in omega arith

    room_after : (unlinked ws h).1.used * width ≤ length (unlinked ws h).0
    room_after = let z = size_after in let u = same-used ws h in omega arith

    ready_after : Ready (laid (unlinked ws h).0 words) (unlinked ws h).1
    ready_after =
        let u : (unlinked ws h).1.used ≤ 65535 = let e = same-used ws h in let l = small in omega arith in
        ready-same (unlinked ws h).0 (laid (unlinked ws h).0 words) (unlinked ws h).1 u
        (slots-back _ _ _ (laid-slots _ (unlinked ws h).0 words room_after)) (makes-ready ws h sound_image room small)

    -- What load accepts is ready once it is there.
    pub load-ready : Ready (loaded bytes words scratch).0 (loaded bytes words scratch).2.header
    load-ready = subst (λ (r : List ℕ × List ℕ × Answer). Ready r.0 r.2.header) (sym loaded_is) ready_after

    -- The free order is kept.
    pub load-order : (S : Sound (loaded bytes words scratch).0 (loaded bytes words scratch).2.header) → S.free.slots ≡ unspent_of (words_in bytes) sound_image.free.slots
    load-order = subst (λ (r : List ℕ × List ℕ × Answer). (S : Sound r.0 r.2.header) → S.free.slots ≡ unspent_of ws sound_image.free.slots) (sym loaded_is) order
      where
        order : (S : Sound (laid (unlinked ws h).0 words) (unlinked ws h).1) → S.free.slots ≡ unspent_of ws sound_image.free.slots
        order S =
            let c = S.free in
            let A = unlinked_is ws h sound_image room in
            linked-only (λ s. word (unlinked ws h).0 s NUMBER) c.slots (unspent_of ws sound_image.free.slots)
            (linked-same _ _ c.slots
            (λ s t.
            let w = all_in (λ s. (1 ≤ s) × (s ≤ (unlinked ws h).1.used) × FreeSlot (laid (unlinked ws h).0 words) s) c.slots c.within s t in
            sym (laid-slots _ (unlinked ws h).0 words room_after s NUMBER w.0 w.1 (omega arith))) c.linked)
            A.linked (slots-some _ _ c.slots c.within) (unspent-some ws h sound_image room) (sym c.begins ∙ A.begins)
