-- What a batch may carry from one command to the next: ready memory stays ready, whatever the change and whatever it answers; a call
-- that is refused by the guard changes nothing; set keeps the verdict, whichever it is.
use Rattle.std.specs.Prelude.{◌≡◌, refl, ◌≢◌, ◌↔◌, Bool, true, false, List, ℕ, ◌*◌, ◌≤◌, length}
use Rattle.std.proofs.lemmas.Bool.{false≢true}
use Rattle.std.proofs.Common.{ne_eqb}
use Rattle.link.specs.Words.{width, capacity_of}
use Rattle.link.specs.Found.{found_b}
use Rattle.link.specs.FoundLaws.{found_is}
use Rattle.link.specs.declared.header.Header.{Header}
use Rattle.rules.specs.Answers.{DONE, REMOVED, answer}
use Rattle.rules.specs.declared.answer.Answer.{Answer}
use Rattle.rules.specs.Sound.{Ready}
use Rattle.examine.specs.Verdicts.{sound_b, ready_b}
use Rattle.examine.specs.Examination.{examined}
use Rattle.examine.specs.declared.chain.Verdict.{Verdict}
use Rattle.exact.specs.Exact.{examined-sound, examined-ready}
use Rattle.sound.specs.Guard.{scratch_after, guard_no, guarded}
use Rattle.sound.specs.GuardLaws.{capacity-fits}
use Rattle.arena.specs.Reads.{set_number}
use Rattle.keeps.specs.New.{new-length, new-fits, new-ready}
use Rattle.keeps.specs.Set.{set-sound, set-ready}
use Rattle.keeps_moves.proofs.Move.{moved_ready, moved-header, moved_length}
use Rattle.keeps_moves.proofs.Value.{value_ready, value-length, value-fits}
use Rattle.keeps_moves.proofs.Detach.{detached-ready, detached-header, detached-length, children-stay-ready, children-header, children-length}
use Rattle.removed.specs.Gone.{Removes}
use Rattle.removed.proofs.Calls.{node-goes, subtree-goes, children-go, node-refused, subtree-refused, children-refused}
use Rattle.command.specs.declared.call.Change.{Change}
use Rattle.command.specs.declared.call.Change.TheVariants.{New, Move, Detach, DetachChildren, Remove, RemoveSubtree, RemoveChildren, Value}
use Rattle.command.specs.Commands.{changed}
use Rattle.examine.specs.declared.chain.Verdict.TheVariants as Is

-- After a change: memory is ready, as long as before, and the slots in use fit it.
pub record Stays (m : List ℕ) (after : List ℕ × Answer) : Type 0 where
  pub ready : Ready after.0 after.1.header
  pub size : length after.0 ≡ length m
  pub fits : after.1.header.used ≤ capacity_of (length after.0)

module _ (m : List ℕ) (h : Header) (R : Ready m h) (fits : h.used ≤ capacity_of (length m)) where
  room : h.used * width ≤ length m
  room = (capacity-fits (length m) h.used fits).1

  -- the header stays
  same-header : (after : List ℕ × Answer) → Ready after.0 after.1.header → after.1.header ≡ h → length after.0 ≡ length m → Stays m after
  same-header after r e l = record { ready = r; size = l; fits = rw (e, l) fits }

  -- a removal, or a refusal
  removal-stays : (x : ℕ) (after : List ℕ × Answer) (xs : found_b m h.used x ≡ true → List ℕ)
      → ((e : found_b m h.used x ≡ true) → Removes m h R (xs e) after)
      → (found_b m h.used x ≡ false → after ≡ (m, answer h REMOVED 0)) → Stays m after
  removal-stays x after xs f g = by (found_b m h.used x) refl
    where
      by : (b : Bool) → found_b m h.used x ≡ b → Stays m after
      by true e = let r = f e in record { ready = r.ready; size = r.gone.size; fits = rw (r.gone.used, r.gone.size) fits }
      by false e = rw (g e) (record { ready = R; size = refl; fits = fits })

  pub changed-stays : (change : Change) (a b : ℕ) → Stays m (changed change a b m h)
  changed-stays New a b = record { ready = new-ready m h a fits R; size = new-length m h a fits; fits = new-fits m h a fits }
  changed-stays (Move place) a b =
      same-header _ (moved_ready m h room R place a b) (moved-header m h room R place a b) (moved_length m h room R place a b)
  changed-stays Detach a b = same-header _ (detached-ready m h room R a) (detached-header m h room R a) (detached-length m h room R a)
  changed-stays DetachChildren a b =
      same-header _ (children-stay-ready m h room R a) (children-header m h room R a) (children-length m h room R a)
  changed-stays Remove a b = removal-stays a _ _ (λ e. node-goes m h room R a (found_is m h.used a e)) (node-refused m h a)
  changed-stays RemoveSubtree a b = removal-stays a _ _ (λ e. subtree-goes m h room R a (found_is m h.used a e)) (subtree-refused m h a)
  changed-stays RemoveChildren a b = removal-stays a _ _ (λ e. children-go m h room R a (found_is m h.used a e)) (children-refused m h a)
  changed-stays (Value place) a b = record {
    ready = value_ready m h fits R place a b;
    size = value-length m h fits R place a b;
    fits = value-fits m h fits R place a b;
  }

-- Ready memory stays ready.
pub changed-ready : (change : Change) (a b : ℕ) (m : List ℕ) (h : Header) → Ready m h → h.used ≤ capacity_of (length m)
    → Ready (changed change a b m h).0 (changed change a b m h).1.header
changed-ready change a b m h R fits = (changed-stays m h R fits change a b).ready

-- Memory that is not ready stays so: a call that the guard refuses leaves words and header, so also the verdict.
pub guarded_unready : (m : List ℕ) (h : Header) (s : List ℕ) (work : List ℕ × Answer) → guard_no m h (length s) ≢ DONE
    → guarded m h s work ≡ (m, scratch_after m h s, answer h (guard_no m h (length s)) 0)
unfolding guarded
guarded_unready m h s work n = simp (ne_eqb (guard_no m h (length s)) DONE n)

-- Set keeps the verdict.
pub set-examined : (m : List ℕ) (h : Header) (id v : ℕ) → examined (set_number m h id v).0 h ≡ examined m h
set-examined m h id v =
    same (examined (set_number m h id v).0 h) (examined m h) (
      λ e. (examined-sound m h).1 ((set-sound m h id v).1 ((examined-sound (set_number m h id v).0 h).0 e)),
      λ e. (examined-sound (set_number m h id v).0 h).1 ((set-sound m h id v).0 ((examined-sound m h).0 e)),
    ) (
      λ e. (examined-ready m h).1 ((set-ready m h id v).1 ((examined-ready (set_number m h id v).0 h).0 e)),
      λ e. (examined-ready (set_number m h id v).0 h).1 ((set-ready m h id v).0 ((examined-ready m h).0 e)),
    )
  where
    -- a verdict is told by its two answers
    same : (u v : Verdict) → (sound_b u ≡ true) ↔ (sound_b v ≡ true) → (ready_b u ≡ true) ↔ (ready_b v ≡ true) → u ≡ v
    same Is.Unsound Is.Unsound s r = refl
    same Is.Unsound Is.Spent s r = absurd (false≢true (s.1 refl))
    same Is.Unsound Is.Ready s r = absurd (false≢true (s.1 refl))
    same Is.Spent Is.Unsound s r = absurd (false≢true (s.0 refl))
    same Is.Spent Is.Spent s r = refl
    same Is.Spent Is.Ready s r = absurd (false≢true (r.1 refl))
    same Is.Ready Is.Unsound s r = absurd (false≢true (s.0 refl))
    same Is.Ready Is.Spent s r = absurd (false≢true (r.0 refl))
    same Is.Ready Is.Ready s r = refl
