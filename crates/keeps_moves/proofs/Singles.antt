-- A node's children become chains of one: each live node still stands in one chain, once, and links that lost parent, previous and
-- next at each child, first and last child at the node, hold that forest. Over views.
use Rattle.std.specs.Prelude.{◌≡◌, ◌≢◌, ◌⊎◌, List, [], ◌∷◌, ℕ}
use Rattle.std.proofs.Math.Path.{refl, sym, ap}
use Rattle.std.proofs.Common.{◌∙◌, subst, inl, inr, arith}
use Rattle.rules.specs.Lists.{In, Off, NoDup}
use Rattle.rules.specs.Links.{par, prv, nxt, fst, lst, View}
use Rattle.rules.specs.Forest.{Key, children, roots, owner, Forest, Chain, OwnerIn, Members, Holds, put}
use Rattle.follow.specs.Point.{at_same, at_other}
use Rattle.forest.specs.Lists.{in-dec, off-not_in}
use Rattle.forest.specs.Members.{far_off, own-apart, put_elim}
use Rattle.forest.specs.Insert.{all_off}
use Rattle.forest.specs.After.{segment_see}
use Rattle.keeps_moves.specs.Rule.{singles}
use Rattle.keeps_moves.specs.Singles.{all_none, cut, singles_elim}

root-number : {i j : ℕ} → roots i ≡ roots j → i ≡ j
root-number e = cc

children-not : {p j : ℕ} → children p ≡ roots j → ⊥
children-not e = let z : ◌≡◌ {A = ℕ} 0 1 = cc in absurd (omega arith)

module _ (live : ℕ → Type 0) (F : Forest) (M : Members live F) (x : ℕ) (lx : live x) (number : ℕ → ℕ) (apart : (c d : ℕ) → number c ≡ number d → c ≡ d)
    (free : (c : ℕ) → In c (F (children x)) → F (roots (number c)) ≡ []) where
  abbrev cs : List ℕ
  cs = F (children x)

  abbrev G : Forest
  G = singles (put F (children x) []) number cs

  edit_elim : (P : Key → List ℕ → Type 0) → ((c : ℕ) → In c cs → P (roots (number c)) (c ∷ [])) → P (children x) []
      → ((k : Key) → k ≢ children x → ((c : ℕ) → In c cs → k ≢ roots (number c)) → P k (F k)) → (k : Key) → P k (G k)
  edit_elim P a b c =
      singles_elim P (put F (children x) []) number cs a
      (λ k h. put_elim (λ z xs. ((d : ℕ) → In d cs → z ≢ roots (number d)) → P z xs) F (children x) [] (λ _. b) c k h)

  pick_home : (y : ℕ) → Off y cs ⊎ In y cs → Key
  pick_home y (inl o) = M.home y
  pick_home y (inr t) = roots (number y)

  home_of : ℕ → Key
  home_of y = pick_home y (in-dec y cs)

  home_in_lem : (y : ℕ) → In y cs → home_of y ≡ roots (number y)
  unfolding home_of pick_home
  home_in_lem y t = go (in-dec y cs)
    where
      go : (d : Off y cs ⊎ In y cs) → pick_home y d ≡ roots (number y)
      go (inl o) = absurd (off-not_in y cs o t)
      go (inr _) = refl

  home_off : (y : ℕ) → Off y cs → home_of y ≡ M.home y
  unfolding home_of pick_home
  home_off y o = go (in-dec y cs)
    where
      go : (d : Off y cs ⊎ In y cs) → pick_home y d ≡ M.home y
      go (inl _) = refl
      go (inr t) = absurd (off-not_in y cs o t)

  pub members-singles : Members live G
  unfolding home_of pick_home
  members-singles = record {
    home = home_of;
    member = λ k y. edit_elim (λ z xs. In y xs → live y × (z ≡ home_of y) × OwnerIn live z)
        (λ c t. one y c t) (λ t. absurd t)
        (λ z h _ t. let w = M.member z y t in (w.0, w.1 ∙ sym (home_off y (far_off live F M z (children x) y (λ q. h (sym q)) t)), w.2)) k;
    placed = λ y l. placed y l (in-dec y cs);
    distinct = edit_elim (λ _ xs. NoDup xs) (λ c t. (tt, tt)) tt (λ k _ _. M.distinct k);
    some = M.some;
  }
    where
      one : (y c : ℕ) → In c cs → In y (c ∷ []) → live y × (roots (number c) ≡ home_of y) × Unit {0}
      one y c t (inl e) = (subst live (sym e) (M.member (children x) c t).0, sym (home_in_lem c t) ∙ ap home_of (sym e), tt)
      one y c t (inr x'') = elim x'' [ ]

      alone : (y : ℕ) → In y cs → (k : Key) → k ≡ roots (number y) → In y (G k)
      alone y i = edit_elim (λ z xs. z ≡ roots (number y) → In y xs)
          (λ c t e. inl (apart y c (root-number (sym e)))) (λ e. absurd (children-not e)) (λ z _ h e. absurd (h y i e))

      stays : (y : ℕ) → Off y cs → (k : Key) → In y (F k) → In y (G k)
      stays y o = edit_elim (λ z xs. In y (F z) → In y xs)
          (λ c t i. absurd (rw (free c t) at i)) (λ i. absurd (off-not_in y cs o i)) (λ _ _ _ i. i)

      placed : (y : ℕ) → live y → (d : Off y cs ⊎ In y cs) → In y (G (pick_home y d))
      placed y l (inl o) = stays y o (M.home y) (M.placed y l)
      placed y l (inr t) = alone y t (roots (number y)) refl

  module _ (v : View) (chains : (k : Key) → OwnerIn live k → Chain v (owner k) (F k)) where
    pub holds-singles : Holds (cut v x cs) live G
    holds-singles = record {
      members = members-singles;
      chains = edit_elim (λ k xs. OwnerIn live k → Chain (cut v x cs) (owner k) xs)
          (λ c t _. record {
            segment = (all_none (v par) cs c t, all_none (v prv) cs c t, all_none (v nxt) cs c t, tt);
            first = λ h. absurd (h refl);
            last = λ h. absurd (h refl);
          })
          (λ _. record { segment = tt; first = λ _. at_same (v fst) x 0; last = λ _. at_same (v lst) x 0 })
          (λ k h _ ok. record {
            segment = segment_see v (cut v x cs) (owner k) 0 (F k) 0
                (λ y t. let o = far_off live F M k (children x) y (λ q. h (sym q)) t in
                (all_off (v par) cs 0 y o, all_off (v prv) cs 0 y o, all_off (v nxt) cs 0 y o)) (chains k ok).segment;
            first = λ z. at_other (v fst) x 0 (owner k) (own-apart k (children x) h z) ∙ (chains k ok).first z;
            last = λ z. at_other (v lst) x 0 (owner k) (own-apart k (children x) h z) ∙ (chains k ok).last z;
          });
    }
