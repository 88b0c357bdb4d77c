-- The forest after the work of each change, on ready memory that fits: the theorems of keeps, keeps_moves and removed, by the kind of change.
use Rattle.std.specs.Prelude.{◌≡◌, Bool, true, false, cond, ◌↔◌, eqb, length}
use Rattle.std.proofs.Math.Path.{refl, subst}
use Rattle.std.proofs.Common.{sym, ap, ◌∙◌, arith, eqb-true, eq-eqb}
use Rattle.std.proofs.lemmas.Bool.{false≢true}
use mathlib.Core.List.{List, [], ◌∷◌, ◌++◌}
use Prim.Native.Nat.{ℕ, ◌+◌, ◌*◌, ◌≤◌}
use Rattle.std.proofs.Math.Decide.{ℕ_discrete}
use Rattle.link.specs.Words.{width, capacity_of}
use Rattle.link.specs.Found.{Found}
use Rattle.link.specs.declared.header.Header.{Header}
use Rattle.rules.specs.Answers.{DONE, FULL, answer}
use Rattle.rules.specs.Sound.{Ready}
use Rattle.rules.specs.Links.{view}
use Rattle.rules.specs.Forest.{children, roots, Forest, put, detached, moved, dropped}
use Rattle.rules.specs.declared.answer.Answer.{Answer}
use Rattle.forest.specs.Places.{place}
use Rattle.forest.specs.Whole.{Forested, forest_of, sound_forested, sound-free}
use Rattle.sound.specs.Guard.{scratch_after, guard_no, guarded}
use Rattle.sound.specs.GuardLaws.{capacity-fits}
use Rattle.arena.specs.Create.{new_node}
use Rattle.moves.specs.Moves.{move_no, move_words, move_node}
use Rattle.moves.specs.Values.{value_no, value_node, put_new}
use Rattle.moves.specs.Detach.{name_no, detach, detach_children, detach_node, detach_children_node}
use Rattle.removal.specs.Remove.{removal_no, when_found, removed, descendants_removed, subtree_removed, remove_node, remove_subtree, remove_children}
use Rattle.keeps.specs.New.{new-number, new-refused, new-ready, new-forest}
use Rattle.keeps_moves.specs.Rule.{MakesAt}
use Rattle.keeps_moves.specs.Move.{move-done_exact}
use Rattle.keeps_moves.proofs.Move.{move-rule, moved-forest, moved_ready, moved-header}
use Rattle.keeps_moves.proofs.Value.{value-done_exact, value-rule, value_is-move, value-forest, value_ready}
use Rattle.keeps_moves.proofs.Detach.{name-done_exact, detached-forest, detached-ready, detached-header, children-rule, children-forest, children-stay-ready, children-header}
use Rattle.removed.proofs.Calls.{node-goes, children-take_its-place, subtree-goes, chain_closes, children-go, node_stays}
use Rattle.command.specs.Commands.{changed}
use Rattle.command.specs.declared.call.Change.{Change}
use Rattle.command.specs.declared.call.Change.TheVariants.{New, Move, Detach, DetachChildren, Remove, RemoveSubtree, RemoveChildren, Value}
use Rattle.first_demands.specs.Rules.{below, SlotLeft, Rule, Accepts}

-- Done means that the number of the tests was DONE.
tests-done : (m : List ℕ) (h : Header) (k : ℕ) (t : List ℕ × Answer) → (cond (eqb k DONE) t (m, answer h k 0)).1.number ≡ DONE → k ≡ DONE
tests-done m h k t = by (eqb k DONE) refl
  where
    by : (b : Bool) → eqb k DONE ≡ b → (cond b t (m, answer h k 0)).1.number ≡ DONE → k ≡ DONE
    by true e d = eqb-true k DONE e
    by false e d = d

-- A guarded call that is done passed the guard, and did its work.
pub guard_passed : (m : List ℕ) (h : Header) (s : List ℕ) (work : List ℕ × Answer) → (guarded m h s work).2.number ≡ DONE
    → (guard_no m h (length s) ≡ DONE) × (guarded m h s work ≡ (work.0, scratch_after m h s, work.1))
unfolding guarded
guard_passed m h s work = by (eqb (guard_no m h (length s)) DONE) refl
  where
    by : (b : Bool) → eqb (guard_no m h (length s)) DONE ≡ b
        → (cond {A = List ℕ × List ℕ × Answer} b (work.0, scratch_after m h s, work.1) (m, scratch_after m h s, answer h (guard_no m h (length s)) 0)).2.number ≡ DONE
        → (guard_no m h (length s) ≡ DONE)
        × (cond {A = List ℕ × List ℕ × Answer} b (work.0, scratch_after m h s, work.1) (m, scratch_after m h s, answer h (guard_no m h (length s)) 0)
        ≡ (work.0, scratch_after m h s, work.1))
    by true e d = (eqb-true (guard_no m h (length s)) DONE e, refl)
    by false e d = (d, absurd (false≢true (sym e ∙ eq-eqb (guard_no m h (length s)) DONE d)))

module _ (m : List ℕ) (h : Header) (fits : h.used ≤ capacity_of (length m)) (R : Ready m h) where
  room : h.used * width ≤ length m
  room = (capacity-fits (length m) h.used fits).1

  found : (x : ℕ) → removal_no m h x ≡ DONE → Found m h.used x
  unfolding name_no
  found x e = (name-done_exact m h x).0 e

  -- What each change leaves.
  abbrev Left : Change → ℕ → ℕ → List ℕ × Answer
  Left c a b = changed c a b m h

  abbrev Done : Change → ℕ → ℕ → Type 0
  Done c a b = (Left c a b).1.number ≡ DONE

  pub work-ready : (c : Change) (a b : ℕ) → Done c a b → Ready (Left c a b).0 (Left c a b).1.header
  unfolding remove_node remove_subtree remove_children when_found
  work-ready New a b d = new-ready m h a fits R
  work-ready (Move place) a b d = moved_ready m h room R place a b
  work-ready Detach a b d = detached-ready m h room R a
  work-ready DetachChildren a b d = children-stay-ready m h room R a
  work-ready Remove a b d = (node-goes m h room R a (found a (tests-done m h (removal_no m h a) _ d))).ready
  work-ready RemoveSubtree a b d = (subtree-goes m h room R a (found a (tests-done m h (removal_no m h a) _ d))).ready
  work-ready RemoveChildren a b d = (children-go m h room R a (found a (tests-done m h (removal_no m h a) _ d))).ready
  work-ready (Value place) a b d = value_ready m h fits R place a b

  -- The forest after it is the rule's.
  pub work-forest : (c : Change) (a b : ℕ) → Done c a b → (F F' : Forest) → Forested m h F → Rule m h R.sound c a b (Left c a b).1.result F F'
      → Forested (Left c a b).0 (Left c a b).1.header F'
  unfolding move_node value_node detach_node detach_children_node remove_node remove_subtree remove_children when_found
  work-forest New a b d F F' H (j, free, e) = subst (Forested (Left New a b).0 (Left New a b).1.header) (sym e) (new-forest m h a fits R d F H j free)
  work-forest (Move place) a b d F F' H M =
      subst (λ (g : Header). Forested (move_node place m h a b).0 g F') (sym (moved-header m h room R place a b))
      (moved-forest m h room R place a b (tests-done m h (move_no m h a b) _ d) F F' H M)
  work-forest Detach a b d F F' H (j, D) =
      subst (λ (g : Header). Forested (detach_node m h a).0 g F') (sym (detached-header m h room R a))
      (detached-forest m h room R a (tests-done m h (name_no m h a) _ d) F F' j H D)
  work-forest DetachChildren a b d F F' H D =
      subst (λ (g : Header). Forested (detach_children_node m h a).0 g F') (sym (children-header m h room R a))
      (children-forest m h room R a (tests-done m h (name_no m h a) _ d) F F' H D)
  work-forest Remove a b d F F' H (k, ls, rs, s, e) =
      subst (Forested (Left Remove a b).0 (Left Remove a b).1.header) (sym e) (children-take_its-place m h room R a (found a (tests-done m h (removal_no m h a) _ d)) F H k ls rs s)
  work-forest RemoveSubtree a b d F F' H (f, k, ls, rs, s, e) = subst (Forested (Left RemoveSubtree a b).0 (Left RemoveSubtree a b).1.header) (sym e) (chain_closes m h room R a f F H k ls rs s)
  work-forest RemoveChildren a b d F F' H (f, e) = subst (Forested (Left RemoveChildren a b).0 (Left RemoveChildren a b).1.header) (sym e) (node_stays m h room R a f F H)
  work-forest (Value place) a b d F F' H M =
      let v = tests-done m h (value_no m h a) _ d in
      value-forest m h fits R place a b v F F' H
      (subst (λ (x : ℕ). MakesAt place F a x F') (ap (λ (r : List ℕ × Answer). r.1.result) (value_is-move m h fits R place a b v)) M)

  -- There is a forest before the call, and one that the rule makes of it.
  pub work-rule : (c : Change) (a b : ℕ) → Done c a b → (F : Forest) × (F' : Forest) × Forested m h F × Rule m h R.sound c a b (Left c a b).1.result F F'
  unfolding move_node value_node detach_node detach_children_node remove_node remove_subtree remove_children when_found
  work-rule New a b d =
      let F = forest_of m h R.sound in
      (F, put F (roots 0) ((new_node m h a).1.result ∷ []), sound_forested m h R.sound, (0, sound-free m h R.sound, refl))
  work-rule (Move place) a b d = move-rule m h room R place a b ((move-done_exact m h R.sound a b).0 (tests-done m h (move_no m h a b) _ d))
  work-rule Detach a b d =
      let F = forest_of m h R.sound in
      let H = sound_forested m h R.sound in
      let P = place (view m) (Found m h.used) F H a ((name-done_exact m h a).0 (tests-done m h (name_no m h a) _ d)) in (
        F,
        detached F P.key P.left a P.right 0,
        H,
        (0, record { key = P.key; left = P.left; right = P.right; stood = P.is; free = sound-free m h R.sound; is = refl }),
      )
  work-rule DetachChildren a b d = children-rule m h room R a
  work-rule Remove a b d =
      let F = forest_of m h R.sound in
      let H = sound_forested m h R.sound in
      let P = place (view m) (Found m h.used) F H a (found a (tests-done m h (removal_no m h a) _ d)) in
      (F, moved F P.key P.left (F (children a)) P.right (children a), H, (P.key, P.left, P.right, P.is, refl))
  work-rule RemoveSubtree a b d =
      let F = forest_of m h R.sound in
      let H = sound_forested m h R.sound in
      let f = found a (tests-done m h (removal_no m h a) _ d) in
      let P = place (view m) (Found m h.used) F H a f in
      (F, dropped (put F P.key (P.left ++ P.right)) (a ∷ below m h R.sound a f) (children a), H, (f, P.key, P.left, P.right, P.is, refl))
  work-rule RemoveChildren a b d =
      let F = forest_of m h R.sound in
      let f = found a (tests-done m h (removal_no m h a) _ d) in
      (F, dropped F (below m h R.sound a f) (children a), sound_forested m h R.sound, (f, refl))
  work-rule (Value place) a b d =
      let v = tests-done m h (value_no m h a) _ d in
      let (F, F', H, M) = value-rule m h fits R place a b v in
      (F, F', H, subst (λ (x : ℕ). MakesAt place F a x F') (sym (ap (λ (r : List ℕ × Answer). r.1.result) (value_is-move m h fits R place a b v))) M)

  -- ---- done exactly where it may be

  done-tests : (k : ℕ) (t : List ℕ × Answer) → k ≡ DONE → t.1.number ≡ DONE → (cond (eqb k DONE) t (m, answer h k 0)).1.number ≡ DONE
  done-tests k t e d = simp (eq-eqb k DONE e) d

  made_exactly : (v : ℕ) → ((new_node m h v).1.number ≡ DONE) ↔ SlotLeft m h R.sound
  made_exactly v = (
    λ d e q. let z : DONE ≡ FULL = sym d ∙ (new-number m h v fits).1 (e, q) in absurd (omega arith),
    λ left. by left (ℕ_discrete (new_node m h v).1.number DONE),
  )
    where
      by : SlotLeft m h R.sound → Dec ((new_node m h v).1.number ≡ DONE) → (new_node m h v).1.number ≡ DONE
      by left (yes d) = d
      by left (no n) =
          let e = (new-number m h v fits).0 (ap (λ (r : List ℕ × Answer). r.1.number) (new-refused m h v fits n)) in
          absurd (left e.0 e.1)

  found_exactly : (x : ℕ) (t : List ℕ × Answer) → t.1.number ≡ DONE
      → ((cond (eqb (removal_no m h x) DONE) t (m, answer h (removal_no m h x) 0)).1.number ≡ DONE) ↔ Found m h.used x
  unfolding name_no
  found_exactly x t d =
      (λ e. found x (tests-done m h (removal_no m h x) t e), λ f. done-tests (removal_no m h x) t ((name-done_exact m h x).1 f) d)

  pub work_exactly : (c : Change) (a b : ℕ) → Done c a b ↔ Accepts m h R.sound c a b
  unfolding move_node value_node detach_node detach_children_node remove_node remove_subtree remove_children when_found name_no
  work_exactly New a b = made_exactly a
  work_exactly (Move place) a b = (
    λ e. (move-done_exact m h R.sound a b).0 (tests-done m h (move_no m h a b) _ e),
    λ M. done-tests (move_no m h a b) (move_words place (h.used + 1) m a b, answer h DONE 0) ((move-done_exact m h R.sound a b).1 M) refl,
  )
  work_exactly Detach a b = found_exactly a (detach m a, answer h DONE 0) refl
  work_exactly DetachChildren a b = found_exactly a (detach_children (h.used + 1) m a, answer h DONE 0) refl
  work_exactly Remove a b = found_exactly a ((removed m h a).0, answer (removed m h a).1 DONE 0) refl
  work_exactly RemoveSubtree a b = found_exactly a ((subtree_removed m h a).0, answer (subtree_removed m h a).1 DONE 0) refl
  work_exactly RemoveChildren a b = found_exactly a ((descendants_removed m h a).0, answer (descendants_removed m h a).1 DONE 0) refl
  work_exactly (Value place) a b = (
    λ e. let w = (value-done_exact m h fits R place a b).0 (tests-done m h (value_no m h a) _ e) in (w.0, (made_exactly b).0 w.1),
    λ w. let d = (made_exactly b).1 w.1 in
        done-tests (value_no m h a) (let made = new_node m h b in ((put_new place (h.used + 1) made.0 a made.1.result).0, made.1))
        ((value-done_exact m h fits R place a b).1 (w.0, d)) d,
  )

-- Before the guard: the call is done exactly on ready memory that fits, with scratch enough, where its work is done.
pub guard-done : (m : List ℕ) (h : Header) (s : List ℕ) (work : List ℕ × Answer) → guard_no m h (length s) ≡ DONE
    → guarded m h s work ≡ (work.0, scratch_after m h s, work.1)
unfolding guarded
guard-done m h s work e = simp (eq-eqb (guard_no m h (length s)) DONE e)
