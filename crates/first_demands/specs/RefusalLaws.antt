-- What the models of the calls answer where they refuse, from the order of tests and each model's own cases.
use Rattle.std.proofs.Math.Path.{◌≡◌, refl}
use Rattle.std.proofs.Common.{sym, subst, inl, arith, eqb-true, eq-eqb}
use Rattle.std.specs.Prelude.{Bool, true, cond, not, ◌&&◌, eqb, ltb, length}
use Rattle.std.proofs.Math.Bool.{false}
use Rattle.std.proofs.lemmas.Bool.{false≢true}
use Rattle.std.proofs.Math.Logic.{inr}
use mathlib.Core.List.{List, [], ◌∷◌}
use Prim.Native.Nat.{ℕ, ◌+◌, ◌*◌}
use Rattle.link.specs.Words.{NUMBER, link, set_link}
use Rattle.link.specs.Found.{found_b}
use Rattle.link.specs.declared.header.Header.{Header}
use Rattle.rules.specs.Answers.{DONE, FRAME, SCRATCH, INVALID, REMOVED, SELF, ANCESTOR, FULL, ROOM, refusal, reply, answer}
use Rattle.rules.specs.Lists.{In}
use Rattle.rules.specs.declared.answer.Answer.{Answer}
use Rattle.rules.specs.declared.answer.Reply.{Reply}
use Rattle.examine.specs.Verdicts.{ready_b}
use Rattle.examine.specs.Examination.{examined}
use Rattle.sound.specs.Guard.{frame_b, scratch_b, scratch_after, sound_result, fit_no, guard_no, validated, guarded, guarded_read}
use Rattle.arena.specs.Create.{full_b, create_no, fresh, reused, new_node}
use Rattle.arena.specs.Reads.{named_no, read_word, set_number}
use Rattle.arena.specs.Census.{Counted, no_census, census_of, census_call, live_call}
use Rattle.moves.specs.Moves.{ancestor_b, move_no, move_words, move_node}
use Rattle.moves.specs.Values.{put_new, value_no, value_node}
use Rattle.moves.specs.Detach.{detach, detach_children, name_no, detach_node, detach_children_node}
use Rattle.removal.specs.Remove.{removal_no, when_found, removed, descendants_removed, subtree_removed, remove_node, remove_subtree, remove_children}
use Rattle.walk.specs.Written.{written}
use Rattle.walk.specs.Walks.{Started, Walked, standing, started, walk_no, yielded, walked}
use Rattle.walk.specs.declared.edge.Edge.TheVariants.{Start}
use Rattle.walk.specs.declared.edge.Step.{Step}
use Rattle.walk.specs.declared.walk.Traverse.{Traverse}
use Rattle.lists.specs.Orders.{ordered}
use Rattle.lists.specs.Listing.{list_no, listing, counted, guarded_list}
use Rattle.lists.specs.declared.order.Order.TheVariants.{Descendants}
use Rattle.subtree.specs.Compare.{compare_run, compared, subtrees_compared}
use Rattle.image.specs.Image.{image_length, image_of, laid}
use Rattle.image.specs.Save.{guarded_write, saved}
use Rattle.command.specs.Commands.{changed}
use Rattle.command.specs.declared.call.Change.{Change}
use Rattle.command.specs.declared.call.Change.TheVariants.{New, Move, Detach, DetachChildren, Remove, RemoveSubtree, RemoveChildren, Value}
use Rattle.first_demands.specs.Refusals.{guards, numbers_of_change}
use Rattle.arena.specs.Census as census
use Rattle.walk.specs.declared.edge.Step.TheVariants as S
use Rattle.image.specs.Save as save

-- ---- cases

pub by_cond : {A : Type 0} (P : A → Type 0) (b : Bool) {x y : A} → (b ≡ true → P x) → (b ≡ false → P y) → P (cond b x y)
by_cond P true f g = f refl
by_cond P false f g = g refl

pub off : {A : Type 0} → false ≡ true → A
off e = absurd (false≢true e)

-- The order of tests: what holds of each number that a test gives holds of the number answered.
pub by-refusal : (P : ℕ → Type 0) (frame scratch invalid self removed ancestor full room : Bool)
    → (frame ≡ true → P FRAME) → (scratch ≡ true → P SCRATCH) → (invalid ≡ true → P INVALID) → (self ≡ true → P SELF)
    → (removed ≡ true → P REMOVED) → (ancestor ≡ true → P ANCESTOR) → (full ≡ true → P FULL) → (room ≡ true → P ROOM) → P DONE
    → P (refusal frame scratch invalid self removed ancestor full room)
unfolding refusal
by-refusal P true b c d e f g h p q r s t u v w z = p refl
by-refusal P false true c d e f g h p q r s t u v w z = q refl
by-refusal P false false true d e f g h p q r s t u v w z = r refl
by-refusal P false false false true e f g h p q r s t u v w z = s refl
by-refusal P false false false false true f g h p q r s t u v w z = t refl
by-refusal P false false false false false true g h p q r s t u v w z = u refl
by-refusal P false false false false false false true h p q r s t u v w z = v refl
by-refusal P false false false false false false false true p q r s t u v w z = w refl
by-refusal P false false false false false false false false p q r s t u v w z = z

pub by-guard : (P : ℕ → Type 0) (m : List ℕ) (h : Header) (n : ℕ) → P FRAME → P SCRATCH → P INVALID → P DONE → P (guard_no m h n)
unfolding guard_no
by-guard P m h n f s i d =
    by-refusal P (frame_b (length m) h.used) (scratch_b h.used n) (not (ready_b (examined m h))) false false false false false
    (λ _. f) (λ _. s) (λ _. i) off off off off off d

pub by-fit : (P : ℕ → Type 0) (lent used scratch : ℕ) → P FRAME → P SCRATCH → P DONE → P (fit_no lent used scratch)
unfolding fit_no
by-fit P lent used scratch f s d =
    by-refusal P (frame_b lent used) (scratch_b used scratch) false false false false false false (λ _. f) (λ _. s) off off off off off off d

-- Only REMOVED.
pub by-found : (P : ℕ → Type 0) (b : Bool) → P REMOVED → P DONE → P (refusal false false false false b false false false)
by-found P b r d = by-refusal P false false false false b false false false off off off off (λ _. r) off off off d

-- ---- the work of a change

-- A number among these; where it is not DONE, words and header stay and the result is 0.
abbrev pub Fair : List ℕ → List ℕ → Header → List ℕ × Answer → Type 0
Fair numbers m h t =
    In t.1.number numbers × ((t.1.number ≡ DONE → ⊥) → (t.0 ≡ m) × (t.1 ≡ answer h t.1.number 0))

-- Done where the number k is DONE; else refused with it.
fair_by : (numbers : List ℕ) (m : List ℕ) (h : Header) (k : ℕ) → In DONE numbers → In k numbers → (t : List ℕ × Answer) → (k ≡ DONE → t.1.number ≡ DONE)
    → Fair numbers m h (cond (eqb k DONE) t (m, answer h k 0))
fair_by numbers m h k d i t e =
    by_cond (Fair numbers m h) (eqb k DONE)
    (λ b. let f = e (eqb-true k DONE b) in (subst (λ (n : ℕ). In n numbers) (sym f) d, λ n. absurd (n f)))
    (λ _. (i, λ _. (refl, refl)))

-- A creation that is not FULL is done.
made-done : (m : List ℕ) (h : Header) (n : ℕ) → create_no m h ≡ DONE → (new_node m h n).1.number ≡ DONE
unfolding new_node fresh reused
made-done m h n e =
    simp (eq-eqb (create_no m h) DONE e)
    (by_cond (λ (t : List ℕ × Answer). t.1.number ≡ DONE) (eqb h.first 0) {x = fresh m h n} {y = reused m h n} (λ _. refl) (λ _. refl))

-- A value form that is done creates.
value-creates : (m : List ℕ) (h : Header) (x : ℕ) → value_no m h x ≡ DONE → create_no m h ≡ DONE
unfolding value_no refusal
value-creates m h x e = by (not (found_b m h.used x)) (full_b m h) e
  where
    by : (r f : Bool) → refusal false false false false r false f false ≡ DONE → refusal false false false false false false f false ≡ DONE
    by true f e = absurd (omega arith)
    by false true e = absurd (omega arith)
    by false false e = refl

module _ (m : List ℕ) (h : Header) where
  fair-named : (x : ℕ) (t : List ℕ × Answer) → t.1.number ≡ DONE
      → Fair (numbers_of_change Detach) m h (cond (eqb (removal_no m h x) DONE) t (m, answer h (removal_no m h x) 0))
  fair-named x t e =
      fair_by (numbers_of_change Detach) m h (removal_no m h x) (inl refl)
      (by-found (λ k. In k (numbers_of_change Detach)) (not (found_b m h.used x)) (inr (inr (inr (inr (inl refl))))) (inl refl)) t (λ _. e)

  pub fair-work : (c : Change) (a b : ℕ) → Fair (numbers_of_change c) m h (changed c a b m h)
  unfolding new_node move_node move_no value_node value_no detach_node detach_children_node name_no remove_node remove_subtree remove_children when_found fresh reused
  fair-work New a b =
      fair_by (numbers_of_change New) m h (create_no m h) (inl refl)
      (by-refusal (λ k. In k (numbers_of_change New)) false false false false false false (full_b m h) false
      off off off off off off (λ _. inr (inr (inr (inr (inl refl))))) off (inl refl))
      (cond (eqb h.first 0) (fresh m h a) (reused m h a))
      (λ _. by_cond (λ (t : List ℕ × Answer). t.1.number ≡ DONE) (eqb h.first 0) {x = fresh m h a} {y = reused m h a} (λ _. refl) (λ _. refl))
  fair-work (Move place) a b =
      fair_by (numbers_of_change (Move place)) m h (move_no m h a b) (inl refl)
      (by-refusal (λ k. In k (numbers_of_change (Move place))) false false false (eqb a b) (not (found_b m h.used a && found_b m h.used b)) (ancestor_b m h a b) false false
      off off off (λ _. inr (inr (inr (inr (inl refl))))) (λ _. inr (inr (inr (inr (inr (inl refl)))))) (λ _. inr (inr (inr (inr (inr (inr (inl refl))))))) off off (inl refl))
      (move_words place (h.used + 1) m a b, answer h DONE 0) (λ _. refl)
  fair-work Detach a b = fair-named a (detach m a, answer h DONE 0) refl
  fair-work DetachChildren a b = fair-named a (detach_children (h.used + 1) m a, answer h DONE 0) refl
  fair-work Remove a b = fair-named a ((removed m h a).0, answer (removed m h a).1 DONE 0) refl
  fair-work RemoveSubtree a b = fair-named a ((subtree_removed m h a).0, answer (subtree_removed m h a).1 DONE 0) refl
  fair-work RemoveChildren a b = fair-named a ((descendants_removed m h a).0, answer (descendants_removed m h a).1 DONE 0) refl
  fair-work (Value place) a b =
      fair_by (numbers_of_change (Value place)) m h (value_no m h a) (inl refl)
      (by-refusal (λ k. In k (numbers_of_change (Value place))) false false false false (not (found_b m h.used a)) false (full_b m h) false
      off off off off (λ _. inr (inr (inr (inr (inl refl))))) off (λ _. inr (inr (inr (inr (inr (inl refl)))))) off (inl refl))
      (let made = new_node m h b in ((put_new place (h.used + 1) made.0 a made.1.result).0, made.1))
      (λ e. made-done m h b (value-creates m h a e))

-- The guard before it.
module _ (more : List ℕ) (m : List ℕ) (h : Header) where
  guard_in : (n : ℕ) → In (guard_no m h n) (guards more)
  guard_in n = by-guard (λ k. In k (guards more)) m h n (inr (inl refl)) (inr (inr (inl refl))) (inr (inr (inr (inl refl)))) (inl refl)

  pub fair-guarded : (s : List ℕ) (work : List ℕ × Answer) → Fair (guards more) m h work
      → let r = guarded m h s work in Fair (guards more) m h (r.0, r.2)
  unfolding guarded
  fair-guarded s work f =
      by_cond (λ (r : List ℕ × List ℕ × Answer). Fair (guards more) m h (r.0, r.2)) (eqb (guard_no m h (length s)) DONE)
      (λ _. f) (λ _. (guard_in (length s), λ _. (refl, refl)))

-- ---- replies

-- A number among these; where it is not DONE, the result is 0.
abbrev pub FairReply : List ℕ → Reply → Type 0
FairReply numbers r = In r.number numbers × ((r.number ≡ DONE → ⊥) → r ≡ reply r.number 0)

-- The same, and a lent list stays.
abbrev pub FairList : List ℕ → List ℕ → List ℕ × Reply → Type 0
FairList numbers places t = In t.1.number numbers × ((t.1.number ≡ DONE → ⊥) → (t.0 ≡ places) × (t.1 ≡ reply t.1.number 0))

-- A reply whose result stands under the number.
pub fair-under : (numbers : List ℕ) (k v : ℕ) → In k numbers → FairReply numbers (reply k (cond (eqb k DONE) v 0))
fair-under numbers k v i =
    (i, λ n. by_cond (λ (x : ℕ). reply k x ≡ reply k 0) (eqb k DONE) (λ e. absurd (n (eqb-true k DONE e))) (λ _. refl))

fair-reply : (numbers : List ℕ) (k v : ℕ) → In DONE numbers → In k numbers → FairReply numbers (cond (eqb k DONE) (reply DONE v) (reply k 0))
fair-reply numbers k v d i = by_cond (FairReply numbers) (eqb k DONE) (λ _. (d, λ n. absurd (n refl))) (λ _. (i, λ _. refl))

fair-list : (numbers : List ℕ) (k : ℕ) (written places : List ℕ) (v : ℕ) → In DONE numbers → In k numbers
    → FairList numbers places (cond (eqb k DONE) (written, reply DONE v) (places, reply k 0))
fair-list numbers k written places v d i = by_cond (FairList numbers places) (eqb k DONE) (λ _. (d, λ n. absurd (n refl))) (λ _. (i, λ _. (refl, refl)))

module _ (m : List ℕ) (h : Header) where
  named_in : (x : ℕ) → In (named_no m h x) (DONE ∷ FRAME ∷ REMOVED ∷ [])
  unfolding named_no
  named_in x =
      by-refusal (λ k. In k (DONE ∷ FRAME ∷ REMOVED ∷ [])) (frame_b (length m) h.used) false false false (not (found_b m h.used x)) false false false
      (λ _. inr (inl refl)) off off off (λ _. inr (inr (inl refl))) off off off (inl refl)

  pub fair-read : (k x : ℕ) → FairReply (DONE ∷ FRAME ∷ REMOVED ∷ []) (read_word k m h x)
  unfolding read_word
  fair-read k x = fair-reply (DONE ∷ FRAME ∷ REMOVED ∷ []) (named_no m h x) (link m x k) (inl refl) (named_in x)

  pub fair-set : (x n : ℕ) → FairList (DONE ∷ FRAME ∷ REMOVED ∷ []) m (set_number m h x n)
  unfolding set_number
  fair-set x n = fair-list (DONE ∷ FRAME ∷ REMOVED ∷ []) (named_no m h x) (set_link m x NUMBER n) m 0 (inl refl) (named_in x)

  pub fair-validated : (s : List ℕ) → FairReply (DONE ∷ FRAME ∷ SCRATCH ∷ []) (validated m h s).1
  unfolding validated
  fair-validated s =
      fair-under (DONE ∷ FRAME ∷ SCRATCH ∷ []) (fit_no (length m) h.used (length s)) (sound_result (examined m h))
      (by-fit (λ k. In k (DONE ∷ FRAME ∷ SCRATCH ∷ [])) (length m) h.used (length s) (inr (inl refl)) (inr (inr (inl refl))) (inl refl))

  pub fair-guarded-read : (more s : List ℕ) (work : Reply) → FairReply (guards more) work → FairReply (guards more) (guarded_read m h s work).1
  unfolding guarded_read
  fair-guarded-read more s work f =
      by_cond (FairReply (guards more)) (eqb (guard_no m h (length s)) DONE) (λ _. f) (λ _. (guard_in more m h (length s), λ _. refl))

  pub fair-live : (s : List ℕ) → FairReply (guards []) (live_call m h s).1
  unfolding live_call
  fair-live s = fair-guarded-read [] s (reply DONE (census_of m h).live) (inl refl, λ n. absurd (n refl))

  pub fair-counted : (s : List ℕ) (x : ℕ) → FairReply (guards (REMOVED ∷ [])) (guarded_read m h s (counted m h.used x)).1
  unfolding counted
  fair-counted s x =
      fair-guarded-read (REMOVED ∷ []) s (counted m h.used x)
      (fair-under (guards (REMOVED ∷ [])) (refusal false false false false (not (found_b m h.used x)) false false false) (length (ordered m h.used Descendants x))
      (by-found (λ k. In k (guards (REMOVED ∷ []))) (not (found_b m h.used x)) (inr (inr (inr (inr (inl refl))))) (inl refl)))

  pub fair-census : (s : List ℕ)
      → let r = (census_call m h s).1 in In r.number (guards []) × ((r.number ≡ DONE → ⊥) → r ≡ census.counted r.number no_census)
  unfolding census_call
  fair-census s =
      by_cond (λ (r : Counted). In r.number (guards []) × ((r.number ≡ DONE → ⊥) → r ≡ census.counted r.number no_census)) (eqb (guard_no m h (length s)) DONE)
      (λ _. (inl refl, λ n. absurd (n refl))) (λ _. (guard_in [] m h (length s), λ _. refl))

  pub fair-listing : (x n : ℕ) (xs places : List ℕ) → FairList (guards (REMOVED ∷ ROOM ∷ [])) places (listing m h.used x n xs places)
  unfolding listing list_no
  fair-listing x n xs places =
      fair-list (guards (REMOVED ∷ ROOM ∷ [])) (list_no m h.used x n places) (written xs places) places (length xs) (inl refl)
      (by-refusal (λ k. In k (guards (REMOVED ∷ ROOM ∷ []))) false false false false (not (found_b m h.used x)) false false (ltb (length places) n)
      off off off off (λ _. inr (inr (inr (inr (inl refl))))) off off (λ _. inr (inr (inr (inr (inr (inl refl)))))) (inl refl))

  pub fair-guarded_list : (more s places : List ℕ) (work : List ℕ × Reply) → FairList (guards more) places work
      → let r = guarded_list m h s places work in FairList (guards more) places (r.1, r.2)
  unfolding guarded_list
  fair-guarded_list more s places work f =
      by_cond (λ (r : List ℕ × List ℕ × Reply). FairList (guards more) places (r.1, r.2)) (eqb (guard_no m h (length s)) DONE)
      (λ _. f) (λ _. (guard_in more m h (length s), λ _. (refl, refl)))

  pub fair-saved : (s bytes : List ℕ) → let r = saved m h s bytes in FairList (guards (ROOM ∷ [])) bytes (r.1, r.2)
  unfolding saved guarded_write save.written
  fair-saved s bytes =
      by_cond (λ (r : List ℕ × List ℕ × Reply). FairList (guards (ROOM ∷ [])) bytes (r.1, r.2)) (eqb (guard_no m h (length s)) DONE)
      (λ _. fair-list (guards (ROOM ∷ [])) (refusal false false false false false false false (ltb (length bytes) (image_length h.used))) (laid (image_of m h) bytes) bytes
      (image_length h.used) (inl refl)
      (by-refusal (λ k. In k (guards (ROOM ∷ []))) false false false false false false false (ltb (length bytes) (image_length h.used))
      off off off off off off off (λ _. inr (inr (inr (inr (inl refl))))) (inl refl)))
      (λ _. (guard_in (ROOM ∷ []) m h (length s), λ _. (refl, refl)))

  pub fair-started : (x : ℕ)
      → let r = started m h x in
      In r.number (DONE ∷ FRAME ∷ REMOVED ∷ []) × ((r.number ≡ DONE → ⊥) → r ≡ record { number = r.number; walk = standing x S.Over })
  unfolding started named_no
  fair-started x = (
    named_in x,
    λ n. by_cond (λ (e : Step). ◌≡◌ {A = Started} (record { number = named_no m h x; walk = standing x e }) (record { number = named_no m h x; walk = standing x S.Over }))
        (eqb (named_no m h x) DONE) (λ e. absurd (n (eqb-true (named_no m h x) DONE e))) (λ _. refl),
  )

  pub fair-walked : (from : Traverse) (k : ℕ) (places : List ℕ)
      → let r = walked m h from k places in
      In r.1.number (DONE ∷ FRAME ∷ ROOM ∷ [])
      × ((r.1.number ≡ DONE → ⊥) → (r.0 ≡ places) × (r.1 ≡ record { number = r.1.number; result = 0; walk = from }))
  unfolding walked walk_no yielded
  fair-walked from k places =
      by_cond
      (λ (r : List ℕ × Walked). In r.1.number (DONE ∷ FRAME ∷ ROOM ∷ [])
      × ((r.1.number ≡ DONE → ⊥) → (r.0 ≡ places) × (r.1 ≡ record { number = r.1.number; result = 0; walk = from })))
      (eqb (walk_no m h k places) DONE) (λ _. (inl refl, λ n. absurd (n refl)))
      (λ _. (
        by-refusal (λ k. In k (DONE ∷ FRAME ∷ ROOM ∷ [])) (frame_b (length m) h.used) false false false false false false (ltb (length places) k)
            (λ _. inr (inl refl)) off off off off off off (λ _. inr (inr (inl refl))) (inl refl),
        λ _. (refl, refl),
      ))

-- Two memories.
pub fair-compared : (m : List ℕ) (h : Header) (x : ℕ) (m' : List ℕ) (h' : Header) (y : ℕ) (s : List ℕ)
    → FairReply (guards (REMOVED ∷ [])) (subtrees_compared m h x m' h' y s).1
unfolding subtrees_compared compared
fair-compared m h x m' h' y s =
    by_cond (λ (r : List ℕ × Reply). FairReply (guards (REMOVED ∷ [])) r.1) (eqb (guard_no m h (length s)) DONE)
    (λ _. fair-guarded-read m' h' (REMOVED ∷ []) (scratch_after m h s) (compared m h.used x m' h'.used y)
    (fair-under (guards (REMOVED ∷ [])) (refusal false false false false (not (cond (found_b m h.used x) (found_b m' h'.used y) false)) false false false)
    (cond (compare_run (2 * h.used + 1) m x (Start x) m' y (Start y)) 1 0)
    (by-found (λ k. In k (guards (REMOVED ∷ []))) (not (cond (found_b m h.used x) (found_b m' h'.used y) false)) (inr (inr (inr (inr (inl refl))))) (inl refl))))
    (λ _. (guard_in (REMOVED ∷ []) m h (length s), λ _. refl))
