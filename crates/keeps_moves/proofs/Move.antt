-- The four moves as calls, once over the place: where one answers DONE the forest after it is the rule's; and ready memory stays ready,
-- whatever is answered.
use Rattle.std.proofs.Math.Path.{◌≡◌, refl}
use Rattle.std.specs.Prelude.{Bool, cond, List, [], ◌∷◌, ℕ, ◌+◌, ◌*◌, ◌≤◌, length, get_or}
use Rattle.std.proofs.Math.Bool.{true, false}
use native.Mathlib.Omega.{arith}
use Rattle.std.proofs.Math.Dec.{eqb}
use Rattle.std.proofs.Common.{eqb-true, eq-eqb}
use Rattle.link.specs.Words.{width}
use Rattle.link.specs.Found.{Found}
use Rattle.link.specs.declared.header.Header.{Header}
use Rattle.rules.specs.Answers.{DONE, answer}
use Rattle.rules.specs.declared.answer.Answer.{Answer}
use Rattle.rules.specs.Links.{view}
use Rattle.rules.specs.Sound.{Ready}
use Rattle.rules.specs.Forest.{roots, Forest, detached, moved}
use Rattle.forest.specs.Places as places
use Rattle.forest.specs.Kept.{Kept}
use Rattle.forest.specs.Surgery.{detach_words}
use Rattle.forest.specs.DetachWords.{detach-looks, detach_forested}
use Rattle.forest.specs.Whole.{Forested, forest_of, sound_forested, sound-free}
use Rattle.moves.specs.Moves.{move_no, move_words, move_node}
use Rattle.moves.specs.declared.place.Place.{Place}
use Rattle.keeps_moves.specs.Rule.{Moves}
use Rattle.keeps_moves.proofs.Moved.{move-kept, move-length, move_forested, move_ready, move-past}
use Rattle.keeps_moves.specs.Past.{past_at}
use Rattle.keeps_moves.specs.Move.{detaches_of, puts_of, goes_some, Movable, move-done_exact}

module _ (m : List ℕ) (h : Header) (room : h.used * width ≤ length m) (R : Ready m h) (place : Place) (t x : ℕ) where
  -- There is a forest before the move, and one that the rule makes of it.
  pub move-rule : Movable m h R.sound t x → (F : Forest) × (F' : Forest) × Forested m h F × Moves place F t x F'
  move-rule w =
      let S = R.sound in
      let F = forest_of m h S in
      let H = sound_forested m h S in
      let P = places.place (view m) (Found m h.used) F H x w.node in
      let D = detached F P.key P.left x P.right 0 in
      let K = detach_forested m h room S x w.node F H P.key P.left P.right P.is 0 (sound-free m h S) in
      let (k, ls, rs, g) = goes_some (detach_words m x) h D K place t (((detach-looks m h room S x w.node).alive t).0 w.target) in (
        F,
        moved D k ls (x ∷ []) rs (roots 0),
        H,
        record {
          number = 0;
          middle = D;
          out = detaches_of F x 0 P.key P.left P.right P.is (sound-free m h S);
          into = puts_of place D t x 0 k ls rs g;
        },
      )

  enough : Found m h.used t → 2 ≤ h.used + 1
  enough f = let a = f.from in let b = f.upto in omega arith

  -- The forest after the call is the rule's.
  pub moved-forest : move_no m h t x ≡ DONE → (F F' : Forest) → Forested m h F → Moves place F t x F' → Forested (move_node place m h t x).0 h F'
  unfolding move_node
  moved-forest e F F' H M =
      let w = (move-done_exact m h R.sound t x).0 e in
      simp (eq-eqb (move_no m h t x) DONE e)
      (move_forested m h room R t x w.target w.node w.other w.below place F F' H M (h.used + 1) (enough w.target))

  -- Whatever is answered: a refusal changes nothing.
  either : (P : List ℕ × Answer → Type 0) → (Movable m h R.sound t x → P (move_words place (h.used + 1) m t x, answer h DONE 0))
      → ((n : ℕ) → P (m, answer h n 0)) → P (move_node place m h t x)
  unfolding move_node
  either P f g = by (eqb (move_no m h t x) DONE) refl
    where
      by : (b : Bool) → eqb (move_no m h t x) DONE ≡ b → P (cond b (move_words place (h.used + 1) m t x, answer h DONE 0) (m, answer h (move_no m h t x) 0))
      by true e = f ((move-done_exact m h R.sound t x).0 (eqb-true (move_no m h t x) DONE e))
      by false e = g (move_no m h t x)

  pub moved_ready : Ready (move_node place m h t x).0 (move_node place m h t x).1.header
  moved_ready = either (λ r. Ready r.0 r.1.header)
      (λ w. let (F, F', H, M) = move-rule w in
      move_ready m h room R t x w.target w.node w.other w.below place F F' H M (h.used + 1) (enough w.target)) (λ _. R)

  -- The header stays, stamps and numbers stay, and no word beyond the slots in use is written.
  pub moved-header : (move_node place m h t x).1.header ≡ h
  moved-header = either (λ r. r.1.header ≡ h) (λ _. refl) (λ _. refl)

  pub moved_length : length (move_node place m h t x).0 ≡ length m
  moved_length = either (λ r. length r.0 ≡ length m) (λ _. move-length place (h.used + 1) m t x) (λ _. refl)

  pub moved-kept : Kept m (move_node place m h t x).0
  moved-kept = either (λ r. Kept m r.0) (λ _. move-kept place (h.used + 1) m t x) (λ _ s. (refl, refl))

  pub moved-past : (i : ℕ) → h.used * width ≤ i → get_or (move_node place m h t x).0 i 0 ≡ get_or m i 0
  moved-past i l = either (λ r. get_or r.0 i 0 ≡ get_or m i 0)
      (λ w. let (F, F', H, M) = move-rule w in
      past_at h.used m (move_words place (h.used + 1) m t x)
      (move-past m h room R t x w.target w.node w.other w.below place F F' H M (h.used + 1) (enough w.target)) i l) (λ _. refl)
