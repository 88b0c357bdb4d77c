-- The changes, as a history sees them: links alone, a creation, a value form, a removal, or a refusal, which changes nothing.
-- From the theorems of each call.
use Rattle.std.specs.Prelude.{◌≡◌, ◌≢◌, ◌⊎◌, ◌↔◌, Bool, true, false, cond, ◌&&◌, eqb, length}
use Rattle.std.proofs.Math.Path.{refl, ap}
use Rattle.std.proofs.Common.{sym, ◌∙◌, subst, inl, inr, arith, eq-eqb, ne_eqb}
use mathlib.Core.List.{List, [], ◌∷◌, ◌++◌}
use Prim.Native.Nat.{ℕ, ◌+◌, ◌*◌, ◌≤◌}
use Rattle.std.proofs.Math.Decide.{ℕ_discrete}
use Rattle.link.specs.Ids.{slot_of}
use Rattle.link.specs.Words.{width, STAMP, NUMBER, capacity_of, word}
use Rattle.link.specs.Found.{Found, found_b}
use Rattle.link.specs.FoundLaws.{found_is}
use Rattle.link.specs.declared.header.Header.{Header}
use Rattle.rules.specs.Answers.{DONE, REMOVED, FULL, answer}
use Rattle.rules.specs.declared.answer.Answer.{Answer}
use Rattle.rules.specs.Lists.{In, Off}
use Rattle.rules.specs.Tree.{Tree, post}
use Rattle.forest.specs.Lists.{in_left, in_right, in_cases}
use Rattle.forest.specs.Kept.{Kept}
use Rattle.forest.specs.Whole.{tree_of_lem}
use Rattle.sound.specs.Guard.{scratch_after, guard_no, guarded}
use Rattle.sound.specs.GuardLaws.{capacity-fits, guard-ready}
use Rattle.arena.specs.Create.{reused, fresh, new_node, new_call}
use Rattle.arena.specs.CreateLaws.{first-free, new-reused, new-fresh, new-full}
use Rattle.arena.specs.FreeListLaws.{pop-some}
use Rattle.keeps.specs.New.{new-refused, new-created, new-stamp, new-times}
use Rattle.moves.specs.Values.{value_no, value_node}
use Rattle.moves.specs.declared.place.Place.{Place}
use Rattle.keeps_moves.proofs.Move.{moved-header, moved-kept}
use Rattle.keeps_moves.proofs.Value.{value-done_exact, value_is-move, value-kept}
use Rattle.keeps_moves.proofs.Detach.{detached-header, detached-kept, children-header, children-kept}
use Rattle.removed.specs.Gone.{Removes}
use Rattle.removed.proofs.Calls.{node-goes, subtree-goes, children-go, node-refused, subtree-refused, children-refused}
use Rattle.command.specs.Commands.{changed}
use Rattle.command.specs.Ready.{Stays, changed-stays}
use Rattle.command.specs.declared.call.Change.{Change}
use Rattle.command.specs.declared.call.Change.TheVariants.{New, Move, Detach, DetachChildren, Remove, RemoveSubtree, RemoveChildren, Value}
use Rattle.history.specs.Calls.{Memory, memory, change, Told, answers, called}
use Rattle.history.specs.History.{FoundIn, creates, handed_by, Descendant, TakenWith, TakenBy, Given}
use Rattle.history.specs.FreeSlots.{Joined, joined-taken, joined-fresh}
use Rattle.history.specs.Descendants.{in-post, below_exactly}
use Rattle.history.specs.Effect.{Effect, Still, still-found, effect-still, effect-then, effect-gone, effect-made}
use Rattle.history.specs.Steps.{Fine, StoredNow, KeptNow, Step}
use Rattle.history.specs.StepLaws.{scratch-length, step_by}

kept-still : {m m' : List ℕ} → Kept m m' → Still m m'
kept-still kept = record { stamps = λ s p. (kept s).0; nexts = λ s p q. (kept s).1 }

and-false : (b : Bool) → (b && false) ≡ false
and-false true = refl
and-false false = refl

-- The statement of new has its own name for the guarded creation.
pub new-called : (m : List ℕ) (h : Header) (s : List ℕ) (v b : ℕ) → guarded m h s (changed New v b m h) ≡ new_call m h s v
unfolding new_call
new-called m h s v b = refl

-- ---- a change passes the guard

module _ (w : Memory) (F : Fine w) where
  abbrev m : List ℕ
  m = w.words

  abbrev h : Header
  h = w.header

  pub passes : (work : List ℕ × Answer) → guarded m h w.scratch work ≡ (work.0, scratch_after m h w.scratch, work.1)
  unfolding guarded
  passes work = simp (eq-eqb (guard_no m h (length w.scratch)) DONE
      ((guard-ready m h (length w.scratch)).1 (F.fits, (let a = F.fits in let b = F.room in omega arith), F.ready)))

  room : h.used * width ≤ length m
  room = (capacity-fits (length m) h.used F.fits).1

  module _ (c : Change) (a b : ℕ) where
    abbrev work : List ℕ × Answer
    work = changed c a b m h

    abbrev told : Told
    told = answers work.1

    abbrev w' : Memory
    w' = memory work.0 work.1.header (scratch_after m h w.scratch)

    by_effect : (made gone : List ℕ) → Effect m h work.0 work.1.header made gone → handed_by (change c a b) told ≡ made
        → ((y : ℕ) → FoundIn w y → In y gone ↔ TakenBy w (change c a b) told y)
        → ((y : ℕ) → FoundIn w' y → StoredNow w (change c a b) told w' y ⊎ KeptNow w (change c a b) told w' y)
        → Step w (change c a b) (called (change c a b) w)
    by_effect made gone E hands takes number =
        subst (Step w (change c a b)) (sym (ap (λ (r : List ℕ × List ℕ × Answer). (memory r.0 r.2.header r.1, answers r.2)) (passes work)))
        (step_by w F (change c a b) (w', told) made gone E stays.ready stays.fits stays.size (scratch-length m h w.scratch) hands takes number)
      where
        stays : Stays m work
        stays = changed-stays m h F.ready F.fits c a b

    -- links alone
    quiet : Kept m work.0 → work.1.header ≡ h → handed_by (change c a b) told ≡ [] → ((y : ℕ) → TakenBy w (change c a b) told y → ⊥)
        → Step w (change c a b) (called (change c a b) w)
    quiet kept e hands takes =
        by_effect [] [] (subst (λ (z : Header). Effect m h work.0 z [] []) (sym e) (effect-still m work.0 h (kept-still kept))) hands
        (λ y f. (λ i. absurd i, λ t. absurd (takes y t)))
        (λ y f. inr (record {
          was = (still-found (kept-still kept) h.used y).0 (subst (λ (z : Header). Found work.0 z.used y) e f);
          same = (kept (slot_of y)).1;
          none = λ n s. rw hands at s.0;
        }))

    -- a refusal
    refused : (n : ℕ) → n ≢ DONE → work ≡ (m, answer h n 0) → Step w (change c a b) (called (change c a b) w)
    refused n d e =
        quiet (λ s. (ap (λ (r : List ℕ × Answer). word r.0 s STAMP) e, ap (λ (r : List ℕ × Answer). word r.0 s NUMBER) e))
        (ap (λ (r : List ℕ × Answer). r.1.header) e) none (λ y t. lost t.0)
      where
        lost : work.1.number ≢ DONE
        lost q = d (sym (ap (λ (r : List ℕ × Answer). r.1.number) e) ∙ q)

        none : cond (creates c && eqb work.1.number DONE) (work.1.result ∷ []) [] ≡ []
        none = simp (ne_eqb work.1.number DONE lost, and-false (creates c))

    -- a removal
    removal : (x : ℕ) (gone : Found m h.used x → List ℕ) → ((f : Found m h.used x) → Removes m h F.ready (gone f) work)
        → (found_b m h.used x ≡ false → work ≡ (m, answer h REMOVED 0)) → creates c ≡ false
        → ((f : Found m h.used x) (y : ℕ) → FoundIn w y → In y (gone f) ↔ TakenWith c w a y)
        → Step w (change c a b) (called (change c a b) w)
    removal x gone goes lost plain named = by (found_b m h.used x) refl
      where
        by : (s : Bool) → found_b m h.used x ≡ s → Step w (change c a b) (called (change c a b) w)
        by false e = refused REMOVED (λ (q : REMOVED ≡ DONE). omega arith) (lost e)
        by true e =
            let f = found_is m h.used x e in
            let D = goes f in
            let E = effect-gone m h F.ready (gone f) work D in
            by_effect [] (gone f) E none (λ y g. (λ i. (D.number, (named f y g).0 i), λ t. (named f y g).1 t.1))
            (λ y g. inr (kept f y ((E.found y).0 g)))
          where
            none : cond (creates c && eqb work.1.number DONE) (work.1.result ∷ []) [] ≡ []
            none = simp plain

            kept : (f : Found m h.used x) (y : ℕ) → ⊥ ⊎ (Found m h.used y × Off y (gone f)) → KeptNow w (change c a b) told w' y
            kept f y (inr q) = record { was = q.0; same = (goes f).gone.numbers y q.0 q.1; none = λ n s. rw none at s.0 }
            kept f y (inl x3) = elim x3 [ ]

    -- a node made, and links changed after it
    creation : (x n : ℕ) (m₁ : List ℕ) → Effect m h m₁ work.1.header (x ∷ []) [] → Kept m₁ work.0 → word m₁ (slot_of x) NUMBER ≡ n
        → ((y : ℕ) → Found m h.used y → word m₁ (slot_of y) NUMBER ≡ word m (slot_of y) NUMBER)
        → (Found m h.used x → ⊥) → creates c ≡ true → work.1.number ≡ DONE → work.1.result ≡ x
        → ((k : ℕ) → Given c a b k ↔ (n ≡ k)) → ((y : ℕ) → TakenWith c w a y → ⊥)
        → Step w (change c a b) (called (change c a b) w)
    creation x n m₁ E kept holds same new is done result given named =
        by_effect (x ∷ []) [] E₂ hands (λ y f. (λ i. absurd i, λ t. absurd (named y t.1))) (λ y f. number y ((E₂.found y).0 f))
      where
        E₂ : Effect m h work.0 work.1.header (x ∷ []) []
        E₂ = effect-then E (kept-still kept)

        hands : cond (creates c && eqb work.1.number DONE) (work.1.result ∷ []) [] ≡ x ∷ []
        hands = simp (is, eq-eqb work.1.number DONE done) (ap (λ (z : ℕ). z ∷ []) result)

        number : (y : ℕ) → ((y ≡ x) ⊎ ⊥) ⊎ (Found m h.used y × Unit {0})
            → StoredNow w (change c a b) told w' y ⊎ KeptNow w (change c a b) told w' y
        number y (inl (inl e)) =
            let q : word work.0 (slot_of y) NUMBER ≡ n = ap (λ (z : ℕ). word work.0 (slot_of z) NUMBER) e ∙ (kept (slot_of x)).1 ∙ holds in
            inl (record { is = (subst (In y) (sym hands) (inl e), (given (word work.0 (slot_of y) NUMBER)).1 (sym q)); only = λ k s. q ∙ (given k).0 s.1 })
        number y (inr g) = inr (record { was = g.0; same = (kept (slot_of y)).1 ∙ same y g.0; none = λ k s. other (rw hands at s.0) })
          where
            other : (y ≡ x) ⊎ ⊥ → ⊥
            other (inl e) = new (subst (Found m h.used) e g.0)
            other (inr x3) = elim x3 [ ]
        number y (inl (inr x3)) = elim x3 [ ]

  -- ---- each change

  new-joined : (v : ℕ) → Joined m h → Joined (new_node m h v).0 (new_node m h v).1.header
  unfolding reused fresh
  new-joined v = by (ℕ_discrete h.first 0) (ℕ_discrete h.used (capacity_of (length m)))
    where
      P : List ℕ × Answer → Type 0
      P r = Joined m h → Joined r.0 r.1.header

      by : Dec (h.first ≡ 0) → Dec (h.used ≡ capacity_of (length m)) → P (new_node m h v)
      by (no n) d =
          let q = first-free m h F.ready (omega arith) in
          let u = q.0 in let s = q.1 in let l = room in
          subst P (sym (new-reused m h v (omega arith))) (rw (pop-some m h (omega arith))
          (joined-taken m h F.ready.sound.free v _ _ (omega arith) (omega arith) (omega arith) refl refl))
      by (yes e) (no n) =
          let f = F.fits in
          subst P (sym (new-fresh m h v e (omega arith)))
          (joined-fresh m h F.ready.sound.free v _ 0 e (capacity-fits (length m) (h.used + 1) (omega arith)).1 (omega arith) refl)
      by (yes e) (yes q) = subst P (sym (new-full m h v e q)) (λ all. all)

  new_effect : (v : ℕ) → (new_node m h v).1.number ≡ DONE
      → Effect m h (new_node m h v).0 (new_node m h v).1.header ((new_node m h v).1.result ∷ []) []
  new_effect v done =
      effect-made m (new_node m h v).0 h (new_node m h v).1.header (new_node m h v).1.result v (new-created m h v F.fits F.ready done)
      (new-stamp m h v F.fits F.ready done) (new-times m h v F.fits F.ready done) (new-joined v)

  new-step : (a b : ℕ) → Step w (change New a b) (called (change New a b) w)
  new-step a b = by (ℕ_discrete (new_node m h a).1.number DONE)
    where
      by : Dec ((new_node m h a).1.number ≡ DONE) → Step w (change New a b) (called (change New a b) w)
      by (no n) = refused New a b FULL (λ (q : FULL ≡ DONE). omega arith) (new-refused m h a F.fits n)
      by (yes d) =
          let C = new-created m h a F.fits F.ready d in
          creation New a b (new_node m h a).1.result a (new_node m h a).0 (new_effect a d) (λ s. (refl, refl)) C.holds
          (λ y f. C.same y NUMBER f (omega arith)) C.new refl d refl (λ k. (λ e. e, λ e. e)) (λ y t. t)

  value-step : (place : Place) (a b : ℕ) → Step w (change (Value place) a b) (called (change (Value place) a b) w)
  unfolding value_node
  value-step place a b = by (ℕ_discrete (value_no m h a) DONE)
    where
      by : Dec (value_no m h a ≡ DONE) → Step w (change (Value place) a b) (called (change (Value place) a b) w)
      by (no n) = refused (Value place) a b (value_no m h a) n (simp (ne_eqb (value_no m h a) DONE n))
      by (yes e) =
          let d = ((value-done_exact m h F.fits F.ready place a b).0 e).1 in
          let C = new-created m h b F.fits F.ready d in
          let q : (value_node place m h a b).1 ≡ (new_node m h b).1 = ap (λ (r : List ℕ × Answer). r.1) (value_is-move m h F.fits F.ready place a b e) in
          creation (Value place) a b (new_node m h b).1.result b (new_node m h b).0
          (subst (λ (r : Answer). Effect m h (new_node m h b).0 r.header ((new_node m h b).1.result ∷ []) []) (sym q) (new_effect b d))
          (value-kept m h F.fits F.ready place a b e) C.holds (λ y f. C.same y NUMBER f (omega arith)) C.new refl
          (ap (λ (r : Answer). r.number) q ∙ d) (ap (λ (r : Answer). r.result) q) (λ k. (λ e. e, λ e. e)) (λ y t. t)

  below : (x : ℕ) → Found m h.used x → Tree
  below x f = (tree_of_lem m h F.ready.sound x f).tree

  in-below : (x : ℕ) (f : Found m h.used x) (y : ℕ) → In y (post (below x f)) ↔ Descendant w x y
  unfolding below
  in-below x f y =
      let p = in-post (below x f) y in
      let q = below_exactly m h F.ready.sound x f y in
      (λ i. q.0 (p.0 i), λ d. p.1 (q.1 d))

  one-or-below : (x : ℕ) (f : Found m h.used x) (y : ℕ) → In y (post (below x f) ++ x ∷ []) ↔ ((y ≡ x) ⊎ Descendant w x y)
  one-or-below x f y = (λ i. to (in_cases y (post (below x f)) (x ∷ []) i), from)
    where
      to : In y (post (below x f)) ⊎ In y (x ∷ []) → (y ≡ x) ⊎ Descendant w x y
      to (inl i) = inr ((in-below x f y).0 i)
      to (inr (inl e)) = inl e
      to (inr (inr x3)) = elim x3 [ ]

      from : (y ≡ x) ⊎ Descendant w x y → In y (post (below x f) ++ x ∷ [])
      from (inl e) = in_right y (post (below x f)) (x ∷ []) (inl e)
      from (inr d) = in_left y (post (below x f)) (x ∷ []) ((in-below x f y).1 d)

  just_one : (x y : ℕ) → In y (x ∷ []) ↔ (y ≡ x)
  just_one x y = (to, λ e. inl e)
    where
      to : (y ≡ x) ⊎ ⊥ → y ≡ x
      to (inl e) = e
      to (inr x'') = elim x'' [ ]

  pub change-step : (c : Change) (a b : ℕ) → Step w (change c a b) (called (change c a b) w)
  unfolding below
  change-step New a b = new-step a b
  change-step (Value place) a b = value-step place a b
  change-step (Move place) a b =
      quiet (Move place) a b (moved-kept m h room F.ready place a b) (moved-header m h room F.ready place a b) refl (λ y t. t.1)
  change-step Detach a b = quiet Detach a b (detached-kept m h room F.ready a) (detached-header m h room F.ready a) refl (λ y t. t.1)
  change-step DetachChildren a b =
      quiet DetachChildren a b (children-kept m h room F.ready a) (children-header m h room F.ready a) refl (λ y t. t.1)
  change-step Remove a b =
      removal Remove a b a (λ f. a ∷ []) (node-goes m h room F.ready a) (node-refused m h a) refl (λ f y g. just_one a y)
  change-step RemoveSubtree a b =
      removal RemoveSubtree a b a (λ f. post (below a f) ++ a ∷ []) (subtree-goes m h room F.ready a) (subtree-refused m h a) refl (λ f y g. one-or-below a f y)
  change-step RemoveChildren a b =
      removal RemoveChildren a b a (λ f. post (below a f)) (children-go m h room F.ready a) (children-refused m h a) refl (λ f y g. in-below a f y)
