-- The four moves on words, once over the place: memory after the move holds the forest of the rule, and ready memory stays ready.
-- The node is detached (forest's DetachWords), then put in (PutIn); what is above it is the same before and after the detach.
use Rattle.std.specs.Prelude.{◌≡◌, ◌≢◌, ◌⊎◌, length, Result}
use Rattle.std.proofs.Common.{sym, ◌∙◌, subst, inl, inr, arith}
use Rattle.std.proofs.Math.Path.{ap}
use mathlib.Core.List.{List, [], ◌∷◌}
use Prim.Native.Nat.{ℕ, ◌*◌, ◌≤◌}
use Rattle.std.proofs.Math.Decide.{ℕ_discrete}
use Rattle.link.specs.Words.{width, PARENT}
use Rattle.link.proofs.OnlyLaws.{only-link, only_then, only-detach, only_insert}
use Rattle.link.specs.Found.{Found}
use Rattle.link.specs.declared.header.Header.{Header}
use Rattle.link.specs.declared.siblings_range.ConsistencyError.{ConsistencyError}
use Rattle.rules.specs.Links.{par, view}
use Rattle.rules.specs.Sound.{Ready}
use Rattle.rules.specs.Forest.{roots, Forest}
use Rattle.rules.specs.Tree.{Above, self, higher}
use Rattle.follow.specs.Point.{at_other}
use Rattle.forest.specs.View.{detach_par}
use Rattle.forest.specs.View as views
use Rattle.forest.specs.Members.{put_same}
use Rattle.forest.specs.Looks.{Looks}
use Rattle.forest.specs.Kept.{Kept, only_kept}
use Rattle.forest.specs.Surgery.{detach_words}
use Rattle.forest.specs.DetachWords.{detach-looks, detach_forested, detach_ready}
use Rattle.forest.specs.Whole.{Forested}
use Rattle.moves.specs.Detach.{detach}
use Rattle.moves.specs.Moves.{move_words}
use Rattle.moves.specs.declared.place.Place.{Place}
use Rattle.keeps_moves.specs.Rule.{Ancestor, Moves}
use Rattle.keeps_moves.specs.Ancestors.{above-some, above-or}
use Rattle.keeps_moves.proofs.PutIn.{put_words, put_in, put_forested, put-ready, put-past}
use Rattle.keeps_moves.specs.Past.{Past, past-then, detach-past}

-- Two parent functions that agree at live nodes but x: what x is above by one it is above by the other.
above_map : (f g : ℕ → ℕ) (live : ℕ → Type 0) (x : ℕ) → ((z : ℕ) → live z → z ≢ x → g z ≡ f z) → ((z : ℕ) → live z → f z ≢ 0 → live (f z))
    → {y : ℕ} → live y → Above g x y → Above f x y
above_map f g live x same closed l (self n) = self n
above_map f g live x same closed {y} l (higher n a) = go (λ w. above_map f g live x same closed w a) (ℕ_discrete y x)
  where
    go : (live (g y) → Above f x (g y)) → Dec (y ≡ x) → Above f x y
    go ih (yes e) = subst (Above f x) (sym e) (self (λ z. n (e ∙ z)))
    go ih (no d) =
        let q = same y l d in
        higher n (subst (Above f x) q (ih (subst live (sym q) (closed y l (λ z. above-some a (q ∙ z))))))

-- On any memory, only links change.
module _ (place : Place) (n : ℕ) (m : List ℕ) (t x : ℕ) where
  pub move-kept : Kept m (move_words place n m t x)
  unfolding move_words detach
  move-kept = only_kept (only_then (only_then (only-detach m x x) (only-link _ x PARENT 0 (omega arith) (omega arith))) (only_insert n _ x _ _ _))

  pub move-length : length (move_words place n m t x) ≡ length m
  unfolding move_words detach
  move-length = (only_then (only_then (only-detach m x x) (only-link _ x PARENT 0 (omega arith) (omega arith))) (only_insert n _ x _ _ _)).size

module _ (m : List ℕ) (h : Header) (room : h.used * width ≤ length m) (R : Ready m h) (t x : ℕ)
    (ft : Found m h.used t) (fx : Found m h.used x) (ne : t ≢ x) (no : Ancestor (view m) x t → ⊥) where
  looks : Looks (detach_words m x) (Found m h.used) h.used (views.detach (view m) x)
  looks = detach-looks m h room R.sound x fx

  below : Above (view (detach_words m x) par) x t → ⊥
  below a =
      go (above-or (above_map (view m par) (view (detach_words m x) par) (Found m h.used) x
      (λ z l d. looks.sees par z l ∙ detach_par (view m) x z ∙ at_other (view m par) x 0 z d) (λ z l. R.sound.links.found z l par) ft a))
    where
      go : (t ≡ x) ⊎ Above (view m par) x (view m par t) → ⊥
      go (inl e) = ne e
      go (inr b) = no b

  found_after : Found (detach_words m x) h.used t
  found_after = (looks.alive t).0 ft

  module _ (place : Place) (F F' : Forest) (H : Forested m h F) (M : Moves place F t x F') where
    held : Forested (detach_words m x) h M.middle
    held = rw M.out.is (detach_forested m h room R.sound x fx F H M.out.key M.out.left M.out.right M.out.stood M.number M.out.free)

    alone : M.middle (roots M.number) ≡ x ∷ []
    alone = ap (λ (G : Forest). G (roots M.number)) M.out.is ∙ put_same _ (roots M.number) (x ∷ [])

    words_are : (n : ℕ) → 2 ≤ n → move_words place n m t x ≡ put_words (detach_words m x) x M.into.key M.into.left M.into.right
    unfolding move_words detach detach_words
    words_are n l =
        ap (λ (p : List ℕ × Result Unit ConsistencyError). p.0)
        (put_in (detach_words m x) h M.middle held t x M.number alone found_after ne below place F' M.into n l)

    pub move_forested : (n : ℕ) → 2 ≤ n → Forested (move_words place n m t x) h F'
    move_forested n l =
        rw (words_are n l) (put_forested (detach_words m x) h M.middle held t x M.number alone found_after ne below place F' M.into looks.room)

    pub move_ready : (n : ℕ) → 2 ≤ n → Ready (move_words place n m t x) h
    move_ready n l =
        rw (words_are n l)
        (put-ready (detach_words m x) h M.middle held t x M.number alone found_after ne below place F' M.into looks.room
        (detach_ready m h room R x fx))

    pub move-past : (n : ℕ) → 2 ≤ n → Past h.used m (move_words place n m t x)
    move-past n l =
        rw (words_are n l)
        (past-then h.used m (detach_words m x) _ (detach-past m h R.sound x fx)
        (λ s j a b. put-past (detach_words m x) h M.middle held t x M.number alone found_after ne below place F' M.into looks.room s j a b))
