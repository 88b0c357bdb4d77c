-- What a read, a list and a walk answer where no test refuses them.
use Rattle.std.specs.Prelude.{◌≡◌, Bool, true, false, cond, List, ◌++◌, ℕ, ◌*◌, ◌/◌, ◌%◌, ◌≤◌, ltb}
use Rattle.std.proofs.Math.Path.{refl}
use Rattle.std.proofs.Common.{ap, ◌∙◌, arith}
use Rattle.std.proofs.Math.ListN.{length}
use borrow.Author.Tests.{eq-eqb, le-ltb}
use Rattle.link.specs.Words.{NUMBER, capacity_of, link}
use Rattle.link.specs.Found.{Found}
use Rattle.link.specs.FoundLaws.{is_found}
use Rattle.link.specs.declared.header.Header.{Header}
use Rattle.rules.specs.Answers.{DONE, ROOM, refusal, reply, answer}
use Rattle.rules.specs.declared.answer.Answer.{Answer}
use Rattle.rules.specs.declared.answer.Reply.{Reply}
use Rattle.sound.specs.Guard.{scratch_after, guard_no, guarded_read}
use Rattle.sound.specs.GuardLaws.{scratch-fits}
use Rattle.arena.specs.Reads.{named_no, read_word, set_number}
use Rattle.arena.specs.Census.{counted, census_of, census_call, live_call}
use Rattle.keeps.specs.Set.{set-get}
use Rattle.walk.specs.Written.{written}
use Rattle.walk.specs.Walks.{standing, walk_no, yielded, codes, traversal, yielded_to, walked}
use Rattle.walk.specs.declared.edge.Edge.TheVariants.{Start}
use Rattle.lists.specs.Orders.{ordered}
use Rattle.lists.specs.Levels.{level_order}
use Rattle.lists.specs.Listing as listing
use Rattle.lists.specs.Listing.{list_no, listing, listed, levels_listed, guarded_list}
use Rattle.lists.specs.declared.order.Order.{Order}
use Rattle.lists.specs.declared.order.Order.TheVariants.{Descendants}
use Rattle.subtree.specs.Compare.{compared, subtrees_compared}
use Rattle.command.specs.KnownLaws.{zeroed-length}
use Rattle.batch.specs.Trace.{size, answers_of}
use Rattle.batch.specs.Batch.{After, performed, part_of, batched}
use Rattle.history.specs.Calls.{Memory, number_of}
use Rattle.first_demands.specs.Every.{batch, done}
use Rattle.walk.specs.declared.edge.Step.TheVariants as S

pub read_done : (m : List ℕ) (h : Header) (k x : ℕ) → h.used ≤ capacity_of (length m) → Found m h.used x
    → read_word k m h x ≡ reply DONE (link m x k)
unfolding read_word named_no refusal
read_done m h k x fits f = simp (le-ltb (capacity_of (length m)) h.used fits, is_found m h.used x f)

module _ (m : List ℕ) (h : Header) where
  listing-done : (x n : ℕ) (xs places : List ℕ) → Found m h.used x → n ≤ length places
      → listing m h.used x n xs places ≡ (written xs places, reply DONE (length xs))
  unfolding listing list_no refusal
  listing-done x n xs places f room = simp (is_found m h.used x f, le-ltb (length places) n room)

  pub list_done : (s : List ℕ) (order : Order) (x : ℕ) (places : List ℕ) → guard_no m h (length s) ≡ DONE → Found m h.used x
      → let xs = ordered m h.used order x in length xs ≤ length places
      → guarded_list m h s places (listed m h.used order x places) ≡ (scratch_after m h s, written xs places, reply DONE (length xs))
  unfolding guarded_list listed
  list_done s order x places g f room =
      rw (
        eq-eqb (guard_no m h (length s)) DONE g,
        listing-done x (length (ordered m h.used order x)) (ordered m h.used order x) places f room,
      ) refl

  pub levels-done : (s : List ℕ) (x : ℕ) (places : List ℕ) → guard_no m h (length s) ≡ DONE → Found m h.used x
      → let n = length (ordered m h.used Descendants x) in n ≤ length places
      → let xs = level_order m n x in
      guarded_list m h s places (levels_listed m h.used x places) ≡ (scratch_after m h s, written xs places, reply DONE (length xs))
  unfolding guarded_list levels_listed
  levels-done s x places g f room =
      let n = length (ordered m h.used Descendants x) in
      rw (eq-eqb (guard_no m h (length s)) DONE g, listing-done x n (level_order m n x) places f room) refl

  -- A walk's first steps.
  pub walk-done : (x k : ℕ) (places : List ℕ) → h.used ≤ capacity_of (length m) → k ≤ length places
      → let t = traversal k m h.used x (S.Edge (Start x)) in
      walked m h (standing x (S.Edge (Start x))) k places ≡ (written (codes t.0) places, yielded_to x (length t.0) t.1)
  unfolding walked walk_no refusal yielded
  walk-done x k places fits room = simp (le-ltb (capacity_of (length m)) h.used fits, le-ltb (length places) k room)

-- ---- set, counts, the comparison

named-done : (m : List ℕ) (h : Header) (x : ℕ) → h.used ≤ capacity_of (length m) → Found m h.used x → named_no m h x ≡ DONE
unfolding named_no refusal
named-done m h x fits f = simp (le-ltb (capacity_of (length m)) h.used fits, is_found m h.used x f)

pub set-done : (m : List ℕ) (h : Header) (x n : ℕ) → h.used ≤ capacity_of (length m) → Found m h.used x
    → ((set_number m h x n).1 ≡ reply DONE 0) × (read_word NUMBER (set_number m h x n).0 h x ≡ reply DONE n)
unfolding set_number
set-done m h x n fits f =
    let e = named-done m h x fits f in
    (simp (eq-eqb (named_no m h x) DONE e), set-get m h x n e)

module _ (m : List ℕ) (h : Header) (s : List ℕ) (g : guard_no m h (length s) ≡ DONE) where
  pub passed-read : (work : Reply) → guarded_read m h s work ≡ (scratch_after m h s, work)
  unfolding guarded_read
  passed-read work = simp (eq-eqb (guard_no m h (length s)) DONE g)

  pub census-done : census_call m h s ≡ (scratch_after m h s, counted DONE (census_of m h))
  unfolding census_call
  census-done = simp (eq-eqb (guard_no m h (length s)) DONE g)

  pub live-done : live_call m h s ≡ (scratch_after m h s, reply DONE (census_of m h).live)
  unfolding live_call
  live-done = passed-read (reply DONE (census_of m h).live)

pub count-done : (m : List ℕ) (used x : ℕ) → Found m used x → listing.counted m used x ≡ reply DONE (length (ordered m used Descendants x))
unfolding listing.counted refusal
count-done m used x f = simp (is_found m used x f)

-- Scratch is as long after an examination as before it.
scratch-long : (m : List ℕ) (h : Header) (s : List ℕ) → h.used ≤ capacity_of (length m) → 2 * h.used ≤ length s → length (scratch_after m h s) ≡ length s
scratch-long m h s fits room =
    ap length (scratch-fits m h s (record { frame = fits; room = room })) ∙ zeroed-length (2 * h.used) s room

pub compare-done : (m : List ℕ) (h : Header) (x : ℕ) (m' : List ℕ) (h' : Header) (y : ℕ) (s : List ℕ)
    → h.used ≤ capacity_of (length m) → 2 * h.used ≤ length s → guard_no m h (length s) ≡ DONE → guard_no m' h' (length s) ≡ DONE
    → (subtrees_compared m h x m' h' y s).1 ≡ compared m h.used x m' h'.used y
unfolding subtrees_compared
compare-done m h x m' h' y s fits room g g' =
    let n = scratch-long m h s fits room in
    let second = passed-read m' h' (scratch_after m h s) (ap (λ (k : ℕ). guard_no m' h' k) n ∙ g') (compared m h.used x m' h'.used y) in
    simp (eq-eqb (guard_no m h (length s)) DONE g) (ap (λ (r : List ℕ × Reply). r.1) second)

-- A batch that is done has done its commands.
pub batch-done : (trace places : List ℕ) (w : Memory) → number_of (done (batch trace places) w).1 ≡ DONE
    → let d = performed (length trace / size) trace 0 w.words w.header w.scratch in
    batched w.words w.header w.scratch trace places
    ≡ (d.words, d.scratch, written (d.answers ++ part_of (length trace)) places, answer d.header DONE (answers_of (length trace) % 4294967296))
unfolding batched
batch-done trace places w e = by (ltb (length places) (2 * answers_of (length trace))) e
  where
    d : After
    d = performed (length trace / size) trace 0 w.words w.header w.scratch

    by : (b : Bool)
        → (cond {A = List ℕ × List ℕ × List ℕ × Answer} b (w.words, w.scratch, places, answer w.header ROOM 0)
        (d.words, d.scratch, written (d.answers ++ part_of (length trace)) places, answer d.header DONE (answers_of (length trace) % 4294967296))).3.number ≡ DONE
        → cond {A = List ℕ × List ℕ × List ℕ × Answer} b (w.words, w.scratch, places, answer w.header ROOM 0)
        (d.words, d.scratch, written (d.answers ++ part_of (length trace)) places, answer d.header DONE (answers_of (length trace) % 4294967296))
        ≡ (d.words, d.scratch, written (d.answers ++ part_of (length trace)) places, answer d.header DONE (answers_of (length trace) % 4294967296))
    by true e = absurd (omega arith)
    by false e = refl
