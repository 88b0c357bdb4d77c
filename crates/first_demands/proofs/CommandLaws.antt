-- Demand 1 of a command, which is its call or refused COMMAND, and of a batch, which is refused ROOM or does each command.
use Rattle.std.specs.Prelude.{◌≡◌, Bool, true, false, cond, List, [], ◌∷◌, ◌++◌, ℕ, zero, suc, ◌+◌, ◌*◌, ◌/◌, ◌%◌, eqb, ltb, length}
use Rattle.std.proofs.Math.Path.{refl, ap}
use Rattle.std.proofs.Common.{sym, subst, ◌∙◌, inl, inr}
use Rattle.link.specs.declared.header.Header.{Header}
use Rattle.rules.specs.Answers.{DONE, FRAME, SCRATCH, INVALID, REMOVED, SELF, ANCESTOR, FULL, ROOM, COMMAND, PART, reply, answer}
use Rattle.rules.specs.Lists.{In, All}
use Rattle.rules.specs.declared.answer.Answer.{Answer}
use Rattle.command.specs.Calls.{call_of}
use Rattle.command.specs.Commands.{Outcome, commanded}
use Rattle.command.specs.declared.call.Call.TheVariants.{Make, Read, Set, LiveCount, DescendantCount, Validate}
use Rattle.command.specs.declared.call.Change.{Change}
use Rattle.command.specs.declared.call.Change.TheVariants.{New, Move, Detach, DetachChildren, Remove, RemoveSubtree, RemoveChildren, Value}
use Rattle.command.specs.declared.command.Command.{Command}
use Rattle.batch.specs.Trace.{size, command_at, answers_of}
use Rattle.batch.specs.Batch.{After, performed, part_of, batched}
use Rattle.history.specs.Calls.{Memory, memory, answers, writes, number_of, result_of, called}
use Rattle.history.specs.History.{after}
use Rattle.demands.specs.Batches.{call_by, acceptable_b, calls_in, outcome, command-called, command-refused, performed-calls}
use Rattle.first_demands.specs.Every.{command, batch, done}
use Rattle.first_demands.specs.Refusals.{guards, numbers_of_change, numbers_of_call, call_refused, scratch_of, Pairs, Tabled, BatchAnswers, Answers, RefusalKeeps, ScratchHolds}
use Rattle.first_demands.specs.RefusalLaws.{by_cond}
use Rattle.first_demands.specs.ReadLaws.{batch-done}
use Rattle.first_demands.proofs.CallLaws.{call-both, call-scratch}
use Rattle.command.specs.declared.call.Call as coded

-- ---- a command

abbrev command_numbers : List ℕ
command_numbers = guards (SELF ∷ REMOVED ∷ ANCESTOR ∷ FULL ∷ COMMAND ∷ [])

widen : (k : ℕ) (few many : List ℕ) → All (λ n. In n many) few → In k few → In k many
widen k [] many a i = absurd i
widen k (n ∷ few) many a (inl e) = subst (λ (j : ℕ). In j many) (sym e) a.0
widen k (n ∷ few) many a (inr i) = widen k few many a.1 i

done_in : In DONE command_numbers
done_in = inl refl

frame_in : In FRAME command_numbers
frame_in = inr (inl refl)

scratch_in : In SCRATCH command_numbers
scratch_in = inr (inr (inl refl))

invalid_in : In INVALID command_numbers
invalid_in = inr (inr (inr (inl refl)))

self_in : In SELF command_numbers
self_in = inr (inr (inr (inr (inl refl))))

removed_in : In REMOVED command_numbers
removed_in = inr (inr (inr (inr (inr (inl refl)))))

ancestor_in : In ANCESTOR command_numbers
ancestor_in = inr (inr (inr (inr (inr (inr (inl refl))))))

full_in : In FULL command_numbers
full_in = inr (inr (inr (inr (inr (inr (inr (inl refl)))))))

guards_in : (more : List ℕ) → All (λ n. In n command_numbers) more → All (λ n. In n command_numbers) (guards more)
guards_in more a = (done_in, (frame_in, (scratch_in, (invalid_in, a))))

change-numbers : (c : Change) → All (λ n. In n command_numbers) (numbers_of_change c)
change-numbers New = guards_in (FULL ∷ []) (full_in, tt)
change-numbers (Move place) = guards_in (SELF ∷ REMOVED ∷ ANCESTOR ∷ []) (self_in, (removed_in, (ancestor_in, tt)))
change-numbers Detach = guards_in (REMOVED ∷ []) (removed_in, tt)
change-numbers DetachChildren = guards_in (REMOVED ∷ []) (removed_in, tt)
change-numbers Remove = guards_in (REMOVED ∷ []) (removed_in, tt)
change-numbers RemoveSubtree = guards_in (REMOVED ∷ []) (removed_in, tt)
change-numbers RemoveChildren = guards_in (REMOVED ∷ []) (removed_in, tt)
change-numbers (Value place) = guards_in (REMOVED ∷ FULL ∷ []) (removed_in, (full_in, tt))

call-numbers : (c : coded.Call) (a b : ℕ) → All (λ n. In n command_numbers) (numbers_of_call (call_by c a b))
call-numbers (Make c) a b = change-numbers c
call-numbers (Read k) a b = (done_in, (frame_in, (removed_in, tt)))
call-numbers Set a b = (done_in, (frame_in, (removed_in, tt)))
call-numbers LiveCount a b = guards_in [] tt
call-numbers DescendantCount a b = guards_in (REMOVED ∷ []) (removed_in, tt)
call-numbers Validate a b = (done_in, (frame_in, (scratch_in, tt)))

-- The result of a refused call of a command is 0.
no_result : (c : coded.Call) (a b : ℕ) (h : Header) (n : ℕ) → result_of (call_refused (call_by c a b) h n) ≡ 0
no_result (Make c) a b h n = refl
no_result (Read k) a b h n = refl
no_result Set a b h n = refl
no_result LiveCount a b h n = refl
no_result DescendantCount a b h n = refl
no_result Validate a b h n = refl

-- Words, scratch and answer of a command: its number, and a refusal.
abbrev FairOutcome : Memory → Outcome → Type 0
FairOutcome w r =
    In r.2.number command_numbers × ((r.2.number ≡ DONE → ⊥) → (r.0 ≡ w.words) × (r.2 ≡ answer w.header r.2.number 0))

fair-call : (c : coded.Call) (a b : ℕ) (w : Memory) → FairOutcome w (outcome (called (call_by c a b) w))
fair-call c a b w =
    let k = call_by c a b in
    let f = call-both w k in (
      widen (number_of (called k w).1) (numbers_of_call k) command_numbers (call-numbers c a b) f.0,
      λ n. let e = f.1 n in
          (e.0, λ i. answer (e.1 i) (number_of (called k w).1) ((ap result_of e.2 ∙ no_result c a b w.header (number_of (called k w).1)) i)),
    )

fair-commanded : (c : Command) (w : Memory) → FairOutcome w (commanded c w.words w.header w.scratch)
fair-commanded c w = by (acceptable_b c) refl
  where
    by : (b : Bool) → acceptable_b c ≡ b → FairOutcome w (commanded c w.words w.header w.scratch)
    by true e = subst (FairOutcome w) (sym (command-called c w e)) (fair-call (call_of c.code) c.a c.b w)
    by false e =
        subst (FairOutcome w) (sym (command-refused c w e)) (inr (inr (inr (inr (inr (inr (inr (inr (inl refl)))))))), λ _. (refl, refl))

pub command-both : (c : Command) (w : Memory) → Answers done (command c) w × RefusalKeeps done (command c) w
command-both c w =
    let f = fair-commanded c w in
    (f.0, λ n. let e = f.1 n in (e.0, ap (λ (r : Answer). r.header) e.1, ap answers e.1))

pub command-scratch : (c : Command) (w : Memory) → ScratchHolds done (command c) w
command-scratch c w = by (acceptable_b c) refl
  where
    by : (b : Bool) → acceptable_b c ≡ b → ScratchHolds done (command c) w
    by true e =
        ap (λ (r : Outcome). r.1) (command-called c w e) ∙ call-scratch (call_by (call_of c.code) c.a c.b) w
        ∙ sym (ap (λ (t : Bool). cond t (scratch_of (call_by (call_of c.code) c.a c.b) w.words w.header w.scratch) w.scratch) e)
    by false e =
        ap (λ (r : Outcome). r.1) (command-refused c w e)
        ∙ sym (ap (λ (t : Bool). cond t (scratch_of (call_by (call_of c.code) c.a c.b) w.words w.header w.scratch) w.scratch) e)

-- ---- a batch

answer_in : (n : ℕ) → In n command_numbers → In n (guards (SELF ∷ REMOVED ∷ ANCESTOR ∷ FULL ∷ COMMAND ∷ PART ∷ []))
answer_in n (inl e) = inl e
answer_in n (inr (inl e)) = inr (inl e)
answer_in n (inr (inr (inl e))) = inr (inr (inl e))
answer_in n (inr (inr (inr (inl e)))) = inr (inr (inr (inl e)))
answer_in n (inr (inr (inr (inr (inl e))))) = inr (inr (inr (inr (inl e))))
answer_in n (inr (inr (inr (inr (inr (inl e)))))) = inr (inr (inr (inr (inr (inl e)))))
answer_in n (inr (inr (inr (inr (inr (inr (inl e))))))) = inr (inr (inr (inr (inr (inr (inl e))))))
answer_in n (inr (inr (inr (inr (inr (inr (inr (inl e)))))))) = inr (inr (inr (inr (inr (inr (inr (inl e)))))))
answer_in n (inr (inr (inr (inr (inr (inr (inr (inr (inl e))))))))) = inr (inr (inr (inr (inr (inr (inr (inr (inl e))))))))
answer_in n (inr (inr (inr (inr (inr (inr (inr (inr (inr x9))))))))) = elim x9 [ ]

pairs-then : (xs ys : List ℕ) → Pairs Tabled xs → Pairs Tabled ys → Pairs Tabled (xs ++ ys)
pairs-then [] ys p q = q
pairs-then (n ∷ r ∷ xs) ys p q = (p.0, pairs-then xs ys p.1 q)
pairs-then (n ∷ []) ys p q = elim p [ ]

performed_pairs : (n : ℕ) (trace : List ℕ) (at : ℕ) (w : Memory) → Pairs Tabled (performed n trace at w.words w.header w.scratch).answers
unfolding performed
performed_pairs zero trace at w = tt
performed_pairs (suc n) trace at w =
    let c = commanded (command_at trace at) w.words w.header w.scratch in
    let f = fair-commanded (command_at trace at) w in
    ((answer_in c.2.number f.0, λ d. ap (λ (a : Answer). a.result) (f.1 d).1), performed_pairs n trace (at + size) (memory c.0 c.2.header c.1))

part_pairs : (length : ℕ) → Pairs Tabled (part_of length)
part_pairs length = by_cond (Pairs Tabled) (eqb (length % size) 0) (λ _. tt) (λ _. ((inr (inr (inr (inr (inr (inr (inr (inr (inr (inl refl))))))))), λ _. refl), tt))

pub batch-answers : (trace places : List ℕ) (w : Memory) → BatchAnswers done trace places w
batch-answers trace places w d =
    let xs = (performed (length trace / size) trace 0 w.words w.header w.scratch).answers in (
      xs ++ part_of (length trace),
      ap (λ (r : List ℕ × List ℕ × List ℕ × Answer). r.2) (batch-done trace places w d),
      pairs-then xs (part_of (length trace)) (performed_pairs (length trace / size) trace 0 w) (part_pairs (length trace)),
    )

module _ (trace places : List ℕ) (w : Memory) where
  abbrev Left : Type 0
  Left = List ℕ × List ℕ × List ℕ × Answer

  abbrev FairBatch : Left → Type 0
  FairBatch r =
      In r.3.number (DONE ∷ ROOM ∷ [])
      × ((r.3.number ≡ DONE → ⊥) → (r.0 ≡ w.words) × (r.2 ≡ places) × (r.3 ≡ answer w.header r.3.number 0))
      × (r.1 ≡ cond (eqb r.3.number DONE) (after called w (calls_in (length trace / size) trace 0)).scratch w.scratch)

  fair-batched : FairBatch (batched w.words w.header w.scratch trace places)
  unfolding batched
  fair-batched =
      by_cond FairBatch (ltb (length places) (2 * answers_of (length trace)))
      (λ _. (inr (inl refl), (λ _. (refl, refl, refl)), refl))
      (λ _. (inl refl, (λ n. absurd (n refl)), ap (λ (d : After). d.scratch) (performed-calls (length trace / size) trace 0 w)))

  pub batch-both : Answers done (batch trace places) w × RefusalKeeps done (batch trace places) w
  batch-both =
      let f = fair-batched in (
        f.0,
        λ n. let e = f.1 n in
            (e.0, ap (λ (r : Answer). r.header) e.2, λ i. writes (e.1 i) (reply (e.2 i).number (e.2 i).result)),
      )

  pub batch-scratch : ScratchHolds done (batch trace places) w
  batch-scratch = fair-batched.2
