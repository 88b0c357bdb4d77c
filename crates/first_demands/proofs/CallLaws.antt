-- Demand 1 of the calls of a history, by their kinds: a number of the table, what a refusal keeps, the scratch.
use Rattle.std.specs.Prelude.{◌≡◌, Bool, eqb}
use Rattle.std.proofs.Math.Path.{refl, ap}
use Rattle.std.proofs.Math.Bool.{true, false, cond}
use mathlib.Core.List.{List, [], ◌∷◌}
use Prim.Native.Nat.{ℕ}
use Rattle.std.proofs.Math.ListN.{length}
use Rattle.rules.specs.Answers.{DONE, REMOVED, ROOM, reply}
use Rattle.rules.specs.declared.answer.Answer.{Answer}
use Rattle.rules.specs.declared.answer.Reply.{Reply}
use Rattle.link.specs.declared.header.Header.{Header}
use Rattle.sound.specs.Guard.{scratch_after, guard_no, guarded, guarded_read, validated}
use Rattle.arena.specs.Census.{census_call, live_call}
use Rattle.lists.specs.Levels.{level_order}
use Rattle.lists.specs.Orders.{ordered}
use Rattle.lists.specs.Listing.{listed, levels_listed, guarded_list}
use Rattle.lists.specs.declared.order.Order.TheVariants.{Descendants}
use Rattle.subtree.specs.Compare.{compared, subtrees_compared}
use Rattle.image.specs.Save.{guarded_write, saved}
use Rattle.command.specs.Commands.{changed}
use Rattle.command.specs.declared.call.Change.{Change}
use Rattle.history.specs.Calls.{Memory, Call, change, set, read, Reading, single, validate, census, counts_live, counts_descendants, list, levels, compare, compare_with, compare_from, start, walk, save, answers, replies, counts, starts, walks, writes}
use Rattle.first_demands.specs.Every.{one, done}
use Rattle.first_demands.specs.Refusals.{refusals_of, numbers_of_change, Answers, RefusalKeeps, ScratchHolds, scratch_after_both}
use Rattle.first_demands.specs.RefusalLaws.{by_cond, Fair, fair-work, fair-guarded, fair-read, fair-set, fair-validated, fair-live, fair-counted, fair-census, fair-listing, fair-guarded_list, fair-saved, fair-started, fair-walked, fair-compared}

module _ (w : Memory) where
  abbrev m : List ℕ
  m = w.words

  abbrev h : Header
  h = w.header

  abbrev s : List ℕ
  s = w.scratch

  fair-change : (c : Change) (a b : ℕ) → let r = guarded m h s (changed c a b m h) in Fair (numbers_of_change c) m h (r.0, r.2)
  fair-change c a b = fair-guarded (refusals_of c) m h s (changed c a b m h) (fair-work m h c a b)

  -- ---- the answer, and a refusal

  abbrev Both : Call → Type 0
  Both c = Answers done (one c) w × RefusalKeeps done (one c) w

  reading-both : (c : Reading) → Both (read c)
  unfolding listed levels_listed
  reading-both (single k x) = let f = fair-read m h k x in (f.0, λ n. (refl, refl, ap replies (f.1 n)))
  reading-both validate = let f = fair-validated m h s in (f.0, λ n. (refl, refl, ap replies (f.1 n)))
  reading-both census = let f = fair-census m h s in (f.0, λ n. (refl, refl, ap counts (f.1 n)))
  reading-both counts_live = let f = fair-live m h s in (f.0, λ n. (refl, refl, ap replies (f.1 n)))
  reading-both (counts_descendants x) = let f = fair-counted m h s x in (f.0, λ n. (refl, refl, ap replies (f.1 n)))
  reading-both (list order x places) =
      let f = fair-guarded_list m h (REMOVED ∷ ROOM ∷ []) s places (listed m h.used order x places)
      (fair-listing m h x (length (ordered m h.used order x)) (ordered m h.used order x) places) in
      (f.0, λ n. (refl, refl, λ i. writes ((f.1 n).0 i) ((f.1 n).1 i)))
  reading-both (levels x places) =
      let n = length (ordered m h.used Descendants x) in
      let f = fair-guarded_list m h (REMOVED ∷ ROOM ∷ []) s places (levels_listed m h.used x places) (fair-listing m h x n (level_order m n x) places) in
      (f.0, λ n. (refl, refl, λ i. writes ((f.1 n).0 i) ((f.1 n).1 i)))
  reading-both (compare x y) = let f = fair-compared m h x m h y s in (f.0, λ n. (refl, refl, ap replies (f.1 n)))
  reading-both (compare_with x m' h' y) = let f = fair-compared m h x m' h' y s in (f.0, λ n. (refl, refl, ap replies (f.1 n)))
  reading-both (compare_from m' h' x y) = let f = fair-compared m' h' x m h y s in (f.0, λ n. (refl, refl, ap replies (f.1 n)))
  reading-both (start x) = let f = fair-started m h x in (f.0, λ n. (refl, refl, ap starts (f.1 n)))
  reading-both (walk from k places) =
      let f = fair-walked m h from k places in
      (f.0, λ n. (refl, refl, λ i. walks ((f.1 n).0 i) ((f.1 n).1 i)))
  reading-both (save bytes) =
      let f = fair-saved m h s bytes in
      (f.0, λ n. (refl, refl, λ i. writes ((f.1 n).0 i) ((f.1 n).1 i)))

  pub call-both : (c : Call) → Both c
  call-both (change c a b) =
      let f = fair-change c a b in
      (f.0, λ n. ((f.1 n).0, ap (λ (r : Answer). r.header) (f.1 n).1, ap answers (f.1 n).1))
  call-both (set x k) =
      let f = fair-set m h x k in
      (f.0, λ n. ((f.1 n).0, refl, ap replies (f.1 n).1))
  call-both (read c) = reading-both c

-- ---- the scratch

module _ (m : List ℕ) (h : Header) (s : List ℕ) where
  scratch-guarded : (work : List ℕ × Answer) → (guarded m h s work).1 ≡ scratch_after m h s
  unfolding guarded
  scratch-guarded work = by_cond (λ (r : List ℕ × List ℕ × Answer). r.1 ≡ scratch_after m h s) (eqb (guard_no m h (length s)) DONE) (λ _. refl) (λ _. refl)

  scratch-list : (places : List ℕ) (work : List ℕ × Reply) → (guarded_list m h s places work).0 ≡ scratch_after m h s
  unfolding guarded_list
  scratch-list places work = by_cond (λ (r : List ℕ × List ℕ × Reply). r.0 ≡ scratch_after m h s) (eqb (guard_no m h (length s)) DONE) (λ _. refl) (λ _. refl)

  scratch-saved : (bytes : List ℕ) → (saved m h s bytes).0 ≡ scratch_after m h s
  unfolding saved guarded_write
  scratch-saved bytes = by_cond (λ (r : List ℕ × List ℕ × Reply). r.0 ≡ scratch_after m h s) (eqb (guard_no m h (length s)) DONE) (λ _. refl) (λ _. refl)

  scratch-compared : (x : ℕ) (m' : List ℕ) (h' : Header) (y : ℕ) → (subtrees_compared m h x m' h' y s).0 ≡ scratch_after_both m h m' h' s
  unfolding subtrees_compared guarded_read
  scratch-compared x m' h' y =
      by (eqb (guard_no m h (length s)) DONE) (guarded_read m' h' (scratch_after m h s) (compared m h.used x m' h'.used y)) (reply (guard_no m h (length s)) 0)
    where
      by : (b : Bool) (t : List ℕ × Reply) (q : Reply) → (cond {A = List ℕ × Reply} b t (scratch_after m h s, q)).0 ≡ cond b t.0 (scratch_after m h s)
      by true t q = refl
      by false t q = refl

reading-scratch : (c : Reading) (w : Memory) → ScratchHolds done (one (read c)) w
unfolding validated census_call live_call guarded_read
reading-scratch (single k x) w = refl
reading-scratch validate w = refl
reading-scratch census w = refl
reading-scratch counts_live w = refl
reading-scratch (counts_descendants x) w = refl
reading-scratch (list order x places) w = scratch-list w.words w.header w.scratch places _
reading-scratch (levels x places) w = scratch-list w.words w.header w.scratch places _
reading-scratch (compare x y) w = scratch-compared w.words w.header w.scratch x w.words w.header y
reading-scratch (compare_with x m' h' y) w = scratch-compared w.words w.header w.scratch x m' h' y
reading-scratch (compare_from m' h' x y) w = scratch-compared m' h' w.scratch x w.words w.header y
reading-scratch (start x) w = refl
reading-scratch (walk from k places) w = refl
reading-scratch (save bytes) w = scratch-saved w.words w.header w.scratch bytes

pub call-scratch : (c : Call) (w : Memory) → ScratchHolds done (one c) w
call-scratch (change c a b) w = scratch-guarded w.words w.header w.scratch (changed c a b w.words w.header)
call-scratch (set x n) w = refl
call-scratch (read c) w = reading-scratch c w
