-- The four value forms as calls, once over the place. DONE exactly where the target is found and a creation is not FULL; then the call
-- is a creation and the move of the new node, the forest after it is the rule's; and ready memory stays ready, whatever is answered.
use Rattle.std.specs.Prelude.{◌≡◌, ◌≢◌, ◌⊎◌, ◌↔◌, Bool, cond, not, get_or, Result}
use Rattle.std.proofs.Math.Path.{refl, sym, ap}
use Rattle.std.proofs.Common.{◌∙◌, subst, inl, inr, arith}
use Rattle.std.proofs.Math.Bool.{true, false}
use mathlib.Core.List.{List, [], ◌∷◌}
use Prim.Native.Nat.{ℕ, ◌+◌, ◌*◌, ◌≤◌}
use Rattle.std.proofs.Math.Dec.{eqb}
use Rattle.std.proofs.Math.ListN.{length}
use borrow.Author.Tests.{eqb-true, eq-eqb}
use Rattle.link.specs.Ids.{slot_of}
use Rattle.link.specs.Words.{width, PARENT, capacity_of, set_link, set_word}
use Rattle.link.specs.WordLaws.{link-some, set_link-some, set_word-word}
use Rattle.link.specs.Siblings.{insert_with_neighbors}
use Rattle.link.proofs.OnlyLaws.{only-link, only_then, only-connect}
use Rattle.link.specs.Found.{Found, found_b}
use Rattle.link.specs.FoundLaws.{found_is, is_found}
use Rattle.link.specs.declared.header.Header.{Header}
use Rattle.link.specs.declared.siblings_range.ConsistencyError.{ConsistencyError}
use Rattle.rules.specs.Answers.{DONE, refusal, answer}
use Rattle.rules.specs.declared.answer.Answer.{Answer}
use Rattle.rules.specs.Links.{par, prv, nxt, fst, view}
use Rattle.rules.specs.Sound.{Ready}
use Rattle.rules.specs.Forest.{roots, Forest, put, moved}
use Rattle.rules.specs.Tree.{Above}
use Rattle.forest.specs.Members.{put_same}
use Rattle.forest.specs.Surgery.{place_words}
use Rattle.forest.specs.Kept.{Kept}
use Rattle.forest.specs.PlaceWords.{kept-place}
use Rattle.forest.specs.Transplant.{detach-nothing}
use Rattle.forest.specs.Whole.{Forested, forest_of, sound_forested, sound-free}
use Rattle.sound.specs.GuardLaws.{capacity-fits}
use Rattle.arena.specs.Create.{full_b, new_node}
use Rattle.keeps.specs.Made.{Created}
use Rattle.keeps.specs.New.{new-length, new-fits, new-ready, new-created, new-forest, new-past}
use Rattle.moves.specs.Places.{spot}
use Rattle.moves.specs.Detach.{detach}
use Rattle.moves.specs.Moves.{move_no, move_words, move_node}
use Rattle.moves.specs.Values.{put_new, value_no, value_node}
use Rattle.moves.specs.ValueLaws.{new-number, value_found}
use Rattle.moves.specs.declared.place.Place.{Place}
use Rattle.keeps_moves.specs.Rule.{Ancestor, Puts, MakesAt}
use Rattle.keeps_moves.specs.Ancestors.{above-or, above-first}
use Rattle.keeps_moves.proofs.PutIn.{put_words, put_in, put_new_lem, put_forested, put-ready, put-past}
use Rattle.keeps_moves.specs.Past.{Past, past_at}
use Rattle.keeps_moves.specs.Move.{goes_some, puts_of, Movable, move-done_exact}

-- Detaching a node that stands alone changes nothing.
detach-alone : (m : List ℕ) (used y : ℕ) → Found m used y → view m par y ≡ 0 → view m prv y ≡ 0 → view m nxt y ≡ 0 → detach m y ≡ m
unfolding detach
detach-alone m used y f a b c =
    ap (λ (w : List ℕ). set_link w y PARENT 0) (detach-nothing m y a b c) ∙ set_link-some m y PARENT 0 f.from
    ∙ ap (set_word m (slot_of y) PARENT) (sym a ∙ link-some m y PARENT f.from) ∙ set_word-word m (slot_of y) PARENT

module _ (m : List ℕ) (h : Header) (fits : h.used ≤ capacity_of (length m)) (R : Ready m h) (place : Place) (t number : ℕ) where
  -- What a creation makes.
  abbrev made : List ℕ × Answer
  made = new_node m h number

  abbrev x : ℕ
  x = made.1.result

  pub value-done_exact : (value_no m h t ≡ DONE) ↔ (Found m h.used t × (made.1.number ≡ DONE))
  unfolding value_no refusal
  value-done_exact = (
    λ e. to (found_b m h.used t) (full_b m h) refl refl e,
    λ w. value_found m h t (is_found m h.used t w.0) ∙ sym (new-number m h number) ∙ w.1,
  )
    where
      to : (a b : Bool) → found_b m h.used t ≡ a → full_b m h ≡ b → refusal false false false false (not a) false b false ≡ DONE
          → Found m h.used t × (made.1.number ≡ DONE)
      to false b p q e = absurd (omega arith)
      to true true p q e = absurd (omega arith)
      to true false p q e = (found_is m h.used t p, new-number m h number ∙ simp q)

  module _ (ft : Found m h.used t) (done : made.1.number ≡ DONE) where
    C : Created m h.used made.0 made.1.header.used x number
    C = new-created m h number fits R done

    ready : Ready made.0 made.1.header
    ready = new-ready m h number fits R

    room : made.1.header.used * width ≤ length made.0
    room = (capacity-fits (length made.0) made.1.header.used (new-fits m h number fits)).1

    target : Found made.0 made.1.header.used t
    target = C.kept t ft

    other : t ≢ x
    other e = C.new (subst (Found m h.used) e ft)

    enough : 2 ≤ h.used + 1
    enough = let a = ft.from in let b = ft.upto in omega arith

    enough_after : 2 ≤ made.1.header.used + 1
    enough_after = let a = target.from in let b = target.upto in omega arith

    module _ (F : Forest) (H : Forested m h F) (j : ℕ) (free : F (roots j) ≡ []) where
      held : Forested made.0 made.1.header (put F (roots j) (x ∷ []))
      held = new-forest m h number fits R done F H j free

      alone : put F (roots j) (x ∷ []) (roots j) ≡ x ∷ []
      alone = put_same F (roots j) (x ∷ [])

      -- the new node has no children, so it is above no other
      not-above : Ancestor (view made.0) x t → ⊥
      not-above a =
          above-first (view made.0) (Found made.0 made.1.header.used) (put F (roots j) (x ∷ [])) held (λ y l. ready.sound.links.found y l par)
          a t target refl (C.alone fst)

      below : Above (view made.0 par) x t → ⊥
      below a = go (above-or a)
        where
          go : (t ≡ x) ⊎ Ancestor (view made.0) x t → ⊥
          go (inl e) = other e
          go (inr b) = not-above b

      module _ (F' : Forest) (P : Puts place (put F (roots j) (x ∷ [])) t x j F') where
        abbrev words : List ℕ
        words = put_words made.0 x P.key P.left P.right

        new-words : (put_new place (h.used + 1) made.0 t x).0 ≡ words
        new-words = ap (λ (p : List ℕ × Result Unit ConsistencyError). p.0)
            (put_new_lem made.0 made.1.header (put F (roots j) (x ∷ [])) held t x j alone target other below place F' P (h.used + 1) enough)

        held_after : Forested (put_new place (h.used + 1) made.0 t x).0 made.1.header F'
        held_after = rw new-words (put_forested made.0 made.1.header (put F (roots j) (x ∷ [])) held t x j alone target other below place F' P room)

        ready_after : Ready (put_new place (h.used + 1) made.0 t x).0 made.1.header
        ready_after = rw new-words (put-ready made.0 made.1.header (put F (roots j) (x ∷ [])) held t x j alone target other below place F' P room ready)

        kept_after : Kept made.0 (put_new place (h.used + 1) made.0 t x).0
        kept_after = rw new-words (kept-place made.0 x _ _ _)

        size_after : length (put_new place (h.used + 1) made.0 t x).0 ≡ length made.0
        unfolding place_words
        size_after = ap length new-words ∙ (only_then (only_then (only-link _ x PARENT _ (omega arith) (omega arith)) (only-connect _ _ _ _)) (only-connect _ _ _ _)).size

        past_after : Past made.1.header.used made.0 (put_new place (h.used + 1) made.0 t x).0
        past_after = rw new-words (put-past made.0 made.1.header (put F (roots j) (x ∷ [])) held t x j alone target other below place F' P room)

        -- the move of the new node writes the same
        move_words_lem : move_words place (made.1.header.used + 1) made.0 t x ≡ words
        unfolding move_words
        move_words_lem =
            ap (λ (w : List ℕ). (insert_with_neighbors n w x (spot place w t).parent (spot place w t).previous (spot place w t).next).0)
            (detach-alone made.0 made.1.header.used x C.found (C.alone par) (C.alone prv) (C.alone nxt))
            ∙ ap (λ (p : List ℕ × Result Unit ConsistencyError). p.0)
            (put_in made.0 made.1.header (put F (roots j) (x ∷ [])) held t x j alone target other below place F' P n enough_after)
          where
            n : ℕ
            n = made.1.header.used + 1

        same-words : value_node place m h t number ≡ ((move_node place made.0 made.1.header t x).0, made.1)
        unfolding value_node move_node
        same-words =
            let movable : Movable made.0 made.1.header ready.sound t x = record { other = other; target = target; node = C.found; below = not-above } in
            simp (
              eq-eqb (value_no m h t) DONE (value-done_exact.1 (ft, done)),
              eq-eqb (move_no made.0 made.1.header t x) DONE ((move-done_exact made.0 made.1.header ready.sound t x).1 movable),
            )
            (ap (λ (w : List ℕ). (w, made.1)) (new-words ∙ sym move_words_lem))

  -- There is a forest before the call, and one that the rule makes of it.
  pub value-rule : value_no m h t ≡ DONE → (F : Forest) × (F' : Forest) × Forested m h F × MakesAt place F t x F'
  value-rule e =
      let (ft, done) = value-done_exact.0 e in
      let F = forest_of m h R.sound in
      let H = sound_forested m h R.sound in
      let free = sound-free m h R.sound in
      let (k, ls, rs, g) = goes_some made.0 made.1.header (put F (roots 0) (x ∷ [])) (held ft done F H 0 free) place t (target ft done) in (
        F,
        moved (put F (roots 0) (x ∷ [])) k ls (x ∷ []) rs (roots 0),
        H,
        record { number = 0; free = free; into = puts_of place _ t x 0 k ls rs g },
      )

  -- A value form is a creation, then the move of the new node.
  pub value_is-move : value_no m h t ≡ DONE → value_node place m h t number ≡ ((move_node place made.0 made.1.header t x).0, made.1)
  value_is-move e =
      let (ft, done) = value-done_exact.0 e in
      let (F, F', H, M) = value-rule e in
      same-words ft done F H M.number M.free F' M.into

  -- The forest after the call is the rule's.
  pub value-forest : value_no m h t ≡ DONE → (F F' : Forest) → Forested m h F → MakesAt place F t x F'
      → Forested (value_node place m h t number).0 (value_node place m h t number).1.header F'
  unfolding value_node
  value-forest e F F' H M =
      let (ft, done) = value-done_exact.0 e in
      simp (eq-eqb (value_no m h t) DONE e) (held_after ft done F H M.number M.free F' M.into)

  -- Whatever is answered: a refusal changes nothing.
  either : (P : List ℕ × Answer → Type 0) → (value_no m h t ≡ DONE → P ((put_new place (h.used + 1) made.0 t x).0, made.1))
      → ((n : ℕ) → P (m, answer h n 0)) → P (value_node place m h t number)
  unfolding value_node
  either P f g = by (eqb (value_no m h t) DONE) refl
    where
      by : (b : Bool) → eqb (value_no m h t) DONE ≡ b
          → P (cond b ((put_new place (h.used + 1) made.0 t x).0, made.1) (m, answer h (value_no m h t) 0))
      by true e = f (eqb-true (value_no m h t) DONE e)
      by false e = g (value_no m h t)

  pub value_ready : Ready (value_node place m h t number).0 (value_node place m h t number).1.header
  value_ready = either (λ r. Ready r.0 r.1.header)
      (λ e. let (ft, done) = value-done_exact.0 e in
      let (F, F', H, M) = value-rule e in ready_after ft done F H M.number M.free F' M.into) (λ _. R)

  pub value-length : length (value_node place m h t number).0 ≡ length m
  value-length = either (λ r. length r.0 ≡ length m)
      (λ e. let (ft, done) = value-done_exact.0 e in
      let (F, F', H, M) = value-rule e in size_after ft done F H M.number M.free F' M.into ∙ new-length m h number fits) (λ _. refl)

  pub value-fits : (value_node place m h t number).1.header.used ≤ capacity_of (length (value_node place m h t number).0)
  value-fits = rw value-length (either (λ r. r.1.header.used ≤ capacity_of (length m))
      (λ _. rw (new-length m h number fits) at (new-fits m h number fits)) (λ _. fits))

  -- Beside the creation only links change, and no word beyond the slots used after the call is written.
  pub value-kept : value_no m h t ≡ DONE → Kept made.0 (value_node place m h t number).0
  unfolding value_node
  value-kept e =
      let (ft, done) = value-done_exact.0 e in
      let (F, F', H, M) = value-rule e in
      simp (eq-eqb (value_no m h t) DONE e) (kept_after ft done F H M.number M.free F' M.into)

  pub value-past : (i : ℕ) → (value_node place m h t number).1.header.used * width ≤ i → get_or (value_node place m h t number).0 i 0 ≡ get_or m i 0
  value-past i = either (λ r. r.1.header.used * width ≤ i → get_or r.0 i 0 ≡ get_or m i 0)
      (λ e l. let (ft, done) = value-done_exact.0 e in
      let (F, F', H, M) = value-rule e in
      past_at made.1.header.used made.0 _ (past_after ft done F H M.number M.free F' M.into) i l ∙ new-past m h number fits R i l)
      (λ _ _. refl)
