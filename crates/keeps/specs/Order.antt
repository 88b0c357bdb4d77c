-- The number of a whole guarded call is the first test that refuses, in the one order of tests: the guard's tests come before the work's.
use Rattle.std.specs.Prelude.{◌≡◌, refl, Bool, true, false, cond, not, List, ℕ, eqb, length}
use Rattle.link.specs.declared.header.Header.{Header}
use Rattle.rules.specs.Answers.{DONE, refusal, answer}
use Rattle.rules.specs.declared.answer.Answer.{Answer}
use Rattle.examine.specs.Verdicts.{ready_b}
use Rattle.examine.specs.Examination.{examined}
use Rattle.sound.specs.Guard.{frame_b, scratch_b, scratch_after, guard_no, guarded}
use Rattle.arena.specs.Create.{full_b, fresh, reused, new_node, new_call}

-- A call whose work makes the tests self, removed, ancestor, full and room, in that order.
pub guarded-order : (m : List ℕ) (h : Header) (s : List ℕ) (work : List ℕ × Answer) (self removed ancestor full room : Bool)
    → work.1.number ≡ refusal false false false self removed ancestor full room
    → (guarded m h s work).2.number
    ≡ refusal (frame_b (length m) h.used) (scratch_b h.used (length s)) (not (ready_b (examined m h))) self removed ancestor full room
unfolding guarded guard_no refusal
guarded-order m h s work self removed ancestor full room e =
    by (frame_b (length m) h.used) (scratch_b h.used (length s)) (not (ready_b (examined m h)))
  where
    by : (a b c : Bool)
        → (cond {A = List ℕ × List ℕ × Answer} (eqb (refusal a b c false false false false false) DONE)
        (work.0, scratch_after m h s, work.1) (m, scratch_after m h s, answer h (refusal a b c false false false false false) 0)).2.number
        ≡ refusal a b c self removed ancestor full room
    by true b c = refl
    by false true c = refl
    by false false true = refl
    by false false false = e

-- New: FRAME, SCRATCH, INVALID, FULL.
pub new-order : (m : List ℕ) (h : Header) (s : List ℕ) (v : ℕ) → (new_call m h s v).2.number
    ≡ refusal (frame_b (length m) h.used) (scratch_b h.used (length s)) (not (ready_b (examined m h))) false false false (full_b m h) false
unfolding new_call new_node refusal fresh reused
new-order m h s v = guarded-order m h s (new_node m h v) false false false (full_b m h) false (by (full_b m h) (eqb h.first 0))
  where
    by : (f c : Bool) → (cond {A = List ℕ × Answer} (eqb (refusal false false false false false false f false) DONE)
        (cond c (fresh m h v) (reused m h v)) (m, answer h (refusal false false false false false false f false) 0)).1.number
        ≡ refusal false false false false false false f false
    by true c = refl
    by false true = refl
    by false false = refl
