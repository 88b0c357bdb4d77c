-- Wrong programs, and of each a statement that is false of it: those that document 01 lists under "What the statements have to exclude", and others.
-- One identifier for all, and what else fails demand 3, stands in demands.
use Rattle.std.specs.Prelude.{◌≡◌, refl, List, [], ◌∷◌, ℕ, suc, ◌≤◌, replicate, get_or, set as put_at}
use Rattle.std.proofs.Common.{sym, ap, ◌∙◌, subst, inl, arith}
use Rattle.link.specs.Words.{capacity_of, word, set_word, link, set_link}
use Rattle.link.specs.Found.{Found, found_b}
use Rattle.link.specs.FoundLaws.{found_is}
use Rattle.link.specs.declared.header.Header.{Header}
use Rattle.rules.specs.Answers.{DONE, FULL, refusal, reply, answer, header}
use Rattle.rules.specs.Lists.{In}
use Rattle.rules.specs.Sound.{Ready}
use Rattle.rules.specs.Forest.{roots, Forest}
use Rattle.rules.specs.declared.answer.Answer.{Answer}
use Rattle.forest.specs.Members.{put_same}
use Rattle.examine.specs.Scratch.{zeroed}
use Rattle.sound.specs.Guard.{fit_no, scratch_after}
use Rattle.arena.specs.Nodes.{slot_at}
use Rattle.arena.specs.Create.{full_b, fresh, new_node}
use Rattle.arena.specs.Reads.{cleared, named_no, set_number}
use Rattle.keeps.specs.Clear.{clear-ready, clear_none}
use Rattle.image.specs.Load.{load_refusal, load_no_with, load_no, loaded}
use Rattle.command.specs.Codes.{acceptable}
use Rattle.command.specs.Commands.{changed, commanded}
use Rattle.command.specs.declared.call.Change.{Change}
use Rattle.command.specs.declared.call.Change.TheVariants.{New}
use Rattle.batch.specs.Trace.{command_at, answers_of}
use Rattle.batch.specs.Batch.{batched}
use Rattle.history.specs.Calls.{Memory, memory, change, set, read, validate, Told, answers, replies, counts, starts, walks, writes, number_of, result_of}
use Rattle.first_demands.specs.Every.{Every, one, clear, load, command, batch, done, Program}
use Rattle.first_demands.specs.Refusals.{Answers, RefusalKeeps, ScratchHolds}
use Rattle.first_demands.specs.Statements.{Works, DoneExactly, ChangesRightly, ValidatorExact, WalkYields, BatchDoes}
use Rattle.first_demands.specs.ForestLaws.{work-ready}
use Rattle.first_demands.proofs.Demand2.{done_exactly, walk-yields-edges}
use Rattle.little_endian.specs.Bytes as bytes

-- ---- two memories of one slot: nothing in use, and one node with the number 5

abbrev blank : List ℕ
blank = replicate 7 9

abbrev five : List ℕ
five = 0 ∷ 5 ∷ 0 ∷ 0 ∷ 0 ∷ 0 ∷ 0 ∷ []

abbrev spare : List ℕ
spare = replicate 2 9

abbrev none : Memory
none = memory blank cleared spare

abbrev node : Memory
node = memory five (header 1 0 0) spare

one-slot : capacity_of 7 ≡ 1
unfolding capacity_of
one-slot = refl

works : Works none
works = let e = one-slot in record { frame = omega arith; scratch = omega arith; ready = clear-ready blank }

left : ◌≡◌ {A = ℕ} 0 0 → 0 ≡ capacity_of 7 → ⊥
left _ q = let e = one-slot in omega arith

makes : number_of (done (one (change New 5 0)) none).1 ≡ DONE
makes = (done_exactly New 5 0 none).1 (works, left)

new-five : changed New 5 0 blank cleared ≡ (five, answer (header 1 0 0) DONE 65536)
unfolding new_node refusal full_b fresh slot_at word set_word capacity_of
new-five = refl

node-ready : Ready five (header 1 0 0)
node-ready =
    subst (λ (r : List ℕ × Answer). Ready r.0 r.1.header) new-five
    (work-ready blank cleared works.frame works.ready New 5 0 (ap (λ (r : List ℕ × Answer). r.1.number) new-five))

node-found : Found five 1 65536
unfolding found_b link word
node-found = found_is five 1 65536 refl

-- ---- "Refusing everything fails demand 2"

abbrev pub refuse_all : Program
refuse_all c w = (w, answers (answer w.header FULL 0))

pub refuse-all_fails : ((c : Change) (a b : ℕ) (w : Memory) → DoneExactly refuse_all c a b w) → ⊥
refuse-all_fails says = let e : FULL ≡ DONE = (says New 5 0 none).1 (works, left) in omega arith

-- ---- "Untouched memory fails demand 2's forest"

-- The answers of ours, and nothing done.
abbrev pub untouched : Program
untouched c w = (w, (done c w).1)

pub untouched_fails : ((c : Change) (a b : ℕ) (w : Memory) → ChangesRightly untouched c a b w) → ⊥
untouched_fails says =
    let R = says New 5 0 none makes in
    let (F, F', H, (j, free, e)) = R.some in
    let H' = R.forest F F' H (j, free, e) in
    let x = result_of (done (one (change New 5 0)) none).1 in
    let inside : In x (F' (roots j)) = subst (In x) (sym (ap (λ (G : Forest). G (roots j)) e ∙ put_same F (roots j) (x ∷ []))) (inl refl) in
    clear_none blank x (H'.members.member (roots j) x inside).0

-- ---- "A batch that does its first command and only answers the rest fails it at the second"

abbrev pub first_only : Program
first_only (one c) w = done (one c) w
first_only clear w = done clear w
first_only (load bytes) w = done (load bytes) w
first_only (command c) w = done (command c) w
first_only (batch trace places) w = ((done (command (command_at trace 0)) w).0, (done (batch trace places) w).1)

-- An unknown code, then set 65536 to 6.
abbrev trace : List ℕ
trace = 0 ∷ 0 ∷ 0 ∷ 0 ∷ 0 ∷ 0 ∷ 0 ∷ 0 ∷ 0 ∷ 0 ∷ 0 ∷ 0 ∷ 3 ∷ 0 ∷ 0 ∷ 0 ∷ 0 ∷ 0 ∷ 1 ∷ 0 ∷ 6 ∷ 0 ∷ 0 ∷ 0 ∷ []

pub first-only_fails : ((trace places : List ℕ) (w : Memory) → BatchDoes first_only trace places w) → ⊥
unfolding batched answers_of commanded command_at bytes.number_at bytes.number_of acceptable set_number named_no refusal found_b link set_link word set_word capacity_of
first-only_fails says =
    let e : ◌≡◌ {A = ℕ} 5 6 = ap (λ (w : Memory). get_or w.words 1 0) (says trace (replicate 4 0) node refl).0 in
    omega arith

-- ---- "A made-up edge count fails demand 2 by the walk's rule"

-- One edge more than there are.
abbrev counting : Told → Told
counting (answers r) = answers r
counting (replies r) = replies r
counting (counts r) = counts r
counting (starts r) = starts r
counting (walks places r) = walks places (record { number = r.number; result = suc r.result; walk = r.walk })
counting (writes places r) = writes places r

abbrev pub over_count : Program
over_count c w = ((done c w).0, counting (done c w).1)

pub over-count_fails : ((x k : ℕ) (places : List ℕ) (w : Memory) → WalkYields over_count x k places w) → ⊥
over-count_fails says =
    let fits : 1 ≤ capacity_of 7 = (let e = one-slot in omega arith) in
    let a = (says 65536 2 (replicate 2 0) node node-ready.sound node-found fits (omega arith)).2 in
    let b = (walk-yields-edges 65536 2 (replicate 2 0) node node-ready.sound node-found fits (omega arith)).2 in
    omega arith

-- ---- others

-- A number that is not in the table.
abbrev pub fourteen : Program
fourteen c w = (w, answers (answer w.header 14 0))

pub fourteen_fails : ((c : Every) (w : Memory) → Answers fourteen c w) → ⊥
fourteen_fails says = by (says clear none)
  where
    by : In 14 (DONE ∷ []) → ⊥
    by (inl e) = let z : ◌≡◌ {A = ℕ} 14 0 = e in omega arith
    by (mathlib.Core.Logic.inr x') = elim x' [ ]

-- A call that writes before it tests: a refused set leaves its number.
abbrev pub writes_first : Program
writes_first c w = let r = done c w in (memory (put_at w.words 1 6) r.0.header r.0.scratch, r.1)

pub writes-first_fails : ((c : Every) (w : Memory) → RefusalKeeps writes_first c w) → ⊥
unfolding set_number named_no refusal capacity_of found_b
writes-first_fails says =
    let e : ◌≡◌ {A = ℕ} 6 9 = ap (λ (m : List ℕ). get_or m 1 0) (says (one (set 65536 6)) none (λ (n : ◌≡◌ {A = ℕ} 4 0). omega arith)).0 in
    omega arith

-- A refused load that leaves the header it found.
abbrev pub header_kept : Program
header_kept c w = (memory (done c w).0.words w.header (done c w).0.scratch, (done c w).1)

pub header-kept_fails : ((c : Every) (w : Memory) → RefusalKeeps header_kept c w) → ⊥
unfolding loaded load_no load_no_with load_refusal
header-kept_fails says =
    let e : ◌≡◌ {A = ℕ} 1 0 = ap (λ (h : Header). h.used) (says (load []) node (λ (n : ◌≡◌ {A = ℕ} 13 0). omega arith)).1 in
    omega arith

-- An examination that leaves its scratch as it was.
abbrev pub scratch_kept : Program
scratch_kept c w = (memory (done c w).0.words (done c w).0.header w.scratch, (done c w).1)

pub scratch-kept_fails : ((c : Every) (w : Memory) → ScratchHolds scratch_kept c w) → ⊥
unfolding scratch_after fit_no refusal capacity_of zeroed
scratch-kept_fails says =
    let e : ◌≡◌ {A = ℕ} 9 0 = ap (λ (s : List ℕ). get_or s 0 0) (says (one (read validate)) node) in
    omega arith

-- A validator that says yes to everything that it is asked, or no.
abbrev answering : ℕ → Told → Told
answering n (answers r) = answers r
answering n (replies r) = replies (reply r.number n)
answering n (counts r) = counts r
answering n (starts r) = starts r
answering n (walks places r) = walks places r
answering n (writes places r) = writes places r

abbrev pub always : ℕ → Program
always n c w = ((done c w).0, answering n (done c w).1)

-- First free without a last.
abbrev torn : Memory
torn = memory blank (header 0 1 0) spare

pub always-yes_fails : ((w : Memory) → ValidatorExact (always 1) w) → ⊥
always-yes_fails says =
    let S = ((says torn).0 refl).2 in
    let e : ◌≡◌ {A = ℕ} 1 0 = S.free.both.1 refl in
    omega arith

pub always_no_fails : ((w : Memory) → ValidatorExact (always 0) w) → ⊥
always_no_fails says =
    let e : ◌≡◌ {A = ℕ} 0 1 = (says none).1 (works.frame, works.scratch, works.ready.sound) in
    omega arith
