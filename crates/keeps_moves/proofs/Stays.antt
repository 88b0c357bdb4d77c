-- Moving a node to where it stands succeeds and changes no order: the call answers DONE, and memory holds the same forest after it.
use Rattle.std.specs.Prelude.{◌≡◌, ◌≢◌, List, [], ◌∷◌, ◌++◌, ℕ, zero, suc, ◌*◌, ◌≤◌, length}
use Rattle.std.proofs.Math.Path.{refl, sym}
use Rattle.std.proofs.Common.{ap, ◌∙◌, subst, append-nil, append_assoc, le_refl, arith}
use Rattle.std.proofs.Math.Logic.{if_neg}
use Rattle.std.proofs.Math.Decide.{ℕ_discrete}
use Rattle.link.specs.Words.{width}
use Rattle.link.specs.Found.{Found}
use Rattle.link.specs.declared.header.Header.{Header}
use Rattle.rules.specs.Answers.{DONE}
use Rattle.rules.specs.Lists.{NoDup}
use Rattle.rules.specs.Links.{par, view}
use Rattle.rules.specs.Sound.{Ready}
use Rattle.rules.specs.Forest.{Key, children, roots, Key-Dec, Forest, put, detached, moved}
use Rattle.rules.specs.Tree.{Above, self, higher}
use Rattle.follow.specs.Follow.{Ends, EndsIn, in-unique, ends_in}
use Rattle.forest.specs.Lists.{nodup-right}
use Rattle.forest.specs.Members.{put_same, moved_elim}
use Rattle.forest.specs.Found.{found_some}
use Rattle.forest.specs.Whole.{Forested, no_cycle}
use Rattle.moves.specs.Moves.{move_no, move_node}
use Rattle.moves.specs.declared.place.Place.{Place}
use Rattle.moves.specs.declared.place.Place.TheVariants.{Append, Prepend, After, Before}
use Rattle.keeps_moves.specs.Rule.{Goes, StandsAt, Moves}
use Rattle.keeps_moves.proofs.PutIn.{here, from-here}
use Rattle.keeps_moves.specs.Move.{Movable, move-done_exact}
use Rattle.keeps_moves.proofs.Move.{moved-forest}

put_other : (F : Forest) (k : Key) (xs : List ℕ) (k' : Key) → k' ≢ k → put F k xs k' ≡ F k'
unfolding put
put_other F k xs k' h = if_neg (Key-Dec ℕ_discrete k' k) h xs (F k')

-- ---- no node is its own proper ancestor

above-deep : {f : ℕ → ℕ} {x y : ℕ} → Above f x y → (k n : ℕ) → EndsIn f k y → EndsIn f n x → n ≤ k
above-deep {f} {x} (self _) k n a b = rw (in-unique f n k x b a) (le_refl k)
above-deep (higher z a) zero n b c = absurd (z b)
above-deep (higher z a) (suc k) n b c = let w = above-deep a k n b.1 c in omega arith

not_own : {f : ℕ → ℕ} {x : ℕ} → x ≢ 0 → Ends f x → Above f x (f x) → ⊥
not_own {f} {x} z e a = let (n, w) = ends_in f e in go n w
  where
    go : (n : ℕ) → EndsIn f n x → ⊥
    go zero w = z w
    go (suc n) w = let q = above-deep a n (suc n) w.1 w in omega arith

-- ---- where it stands, as a place in the chains

record Same (place : Place) (F : Forest) (t x : ℕ) : Type 0 where
  key : Key
  left : List ℕ
  right : List ℕ
  stood : F key ≡ left ++ x ∷ right
  goes : (D : Forest) → D key ≡ left ++ right → Goes place D t key left right

same : (place : Place) (F : Forest) (t x : ℕ) → StandsAt place F t x → Same place F t x
same Append F t x (ls, e) = record { key = children t; left = ls; right = []; stood = e; goes = λ D q. (refl, q ∙ append-nil ls, refl) }
same Prepend F t x (rs, e) = record { key = children t; left = []; right = rs; stood = e; goes = λ D q. (refl, refl, q) }
same After F t x (k, ls, rs, e) = record {
  key = k;
  left = ls ++ t ∷ [];
  right = rs;
  stood = e ∙ sym (append_assoc ls (t ∷ []) (x ∷ rs));
  goes = λ D q. (ls, refl, q ∙ append_assoc ls (t ∷ []) rs);
}
same Before F t x (k, ls, rs, e) = record { key = k; left = ls; right = t ∷ rs; stood = e; goes = λ D q. (rs, refl, q) }

module _ (m : List ℕ) (h : Header) (room : h.used * width ≤ length m) (R : Ready m h) (place : Place) (t x : ℕ)
    (ft : Found m h.used t) (fx : Found m h.used x) (F : Forest) (H : Forested m h F) (s : StandsAt place F t x) where
  own : Above (view m par) x (view m par x) → ⊥
  own = not_own (found_some m h.used x fx) (no_cycle m h R.sound x fx)

  -- x is a child of t
  child : view m par x ≡ t → Movable m h R.sound t x
  child e = record {
    other = λ q. own (rw (e ∙ q) (self (found_some m h.used x fx)));
    target = ft;
    node = fx;
    below = λ a. own (rw e (higher (found_some m h.used t ft) a));
  }

  -- x is a sibling of t
  sibling : t ≢ x → view m par x ≡ view m par t → Movable m h R.sound t x
  sibling n e = record { other = n; target = ft; node = fx; below = λ a. own (rw e a) }

  movable : Movable m h R.sound t x
  movable = go place s
    where
      go : (place : Place) → StandsAt place F t x → Movable m h R.sound t x
      go Append (ls, e) = child (from-here m h F H (children t) ls x [] e).0
      go Prepend (rs, e) = child (from-here m h F H (children t) [] x rs e).0
      go After (k, ls, rs, e) =
          let w = from-here m h F H k ls t (x ∷ rs) e in
          sibling (nodup-right ls (t ∷ x ∷ rs) (subst NoDup e (H.members.distinct k))).0.0 (w.3.0 ∙ sym w.0)
      go Before (k, ls, rs, e) =
          let w = from-here m h F H k ls x (t ∷ rs) e in
          sibling (λ q. (nodup-right ls (x ∷ t ∷ rs) (subst NoDup e (H.members.distinct k))).0.0 (sym q)) (w.0 ∙ sym w.3.0)

  pub stays-done : move_no m h t x ≡ DONE
  stays-done = (move-done_exact m h R.sound t x).1 movable

  -- out and in again at the same place
  module _ (j : ℕ) (free : F (roots j) ≡ []) where
    P : Same place F t x
    P = same place F t x s

    D : Forest
    D = detached F P.key P.left x P.right j

    apart : P.key ≢ roots j
    apart q = rw (ap F q ∙ free) at (here m h F H P.key P.left x P.right P.stood)

    cut : D P.key ≡ P.left ++ P.right
    unfolding D
    cut = put_other _ (roots j) (x ∷ []) P.key apart ∙ put_same F P.key (P.left ++ P.right)

    again : (k : Key) → moved D P.key P.left (x ∷ []) P.right (roots j) k ≡ F k
    unfolding D
    again = moved_elim (λ k xs. xs ≡ F k) D P.key P.left (x ∷ []) P.right (roots j)
        (sym free) (sym P.stood) (λ k a b. put_other _ (roots j) (x ∷ []) k b ∙ put_other F P.key (P.left ++ P.right) k a)

    moves : Moves place F t x F
    unfolding D
    moves = record {
      number = j;
      middle = D;
      out = record { key = P.key; left = P.left; right = P.right; stood = P.stood; free = free; is = refl };
      into = record { key = P.key; left = P.left; right = P.right; goes = P.goes D cut; is = λ i k. sym (again k) i };
    }

    pub stays-forest : Forested (move_node place m h t x).0 h F
    stays-forest = moved-forest m h room R place t x stays-done F F H moves
