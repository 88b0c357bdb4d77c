-- One more node, without links: links that were sound are sound with it, and a forest that they held has one more root chain, of
-- that node. Over views; nothing is said about words.
use Rattle.std.specs.Prelude.{◌≡◌, refl, ◌≢◌, ◌⊎◌, ◌↔◌, [], ◌∷◌, ℕ}
use Rattle.std.proofs.Common.{sym, ap, ◌∙◌, subst, inl, inr}
use Rattle.std.proofs.Math.Logic.{ite, if_pos, if_neg}
use Rattle.std.proofs.Math.Decide.{ℕ_discrete}
use Rattle.rules.specs.Lists.{In, NoDup}
use Rattle.rules.specs.Links.{Link, par, prv, nxt, fst, lst, View}
use Rattle.rules.specs.Sound.{SoundLinks}
use Rattle.rules.specs.Forest.{Key, children, roots, owner, Forest, Chain, OwnerIn, Members, Holds, put}
use Rattle.forest.specs.Lists.{empty_of}
use Rattle.forest.specs.View.{SameOn, or_else}
use Rattle.follow.specs.Follow.{Ends, stop, step, ends_see}
use Rattle.forest.specs.Found.{Nodes}
use Rattle.forest.specs.Local.{Local, pred, pred-parent, pred-live, tests-sound, sound-tests, sound-ends}
use Rattle.forest.specs.Members.{put_same, put_elim}
use Rattle.forest.specs.After.{holds_see}

module _ (v w : View) (live more : ℕ → Type 0) (x : ℕ) (old : (y : ℕ) → more y → (y ≡ x) ⊎ live y) (kept : (y : ℕ) → live y → more y)
    (same : SameOn live w v) (alone : (k : Link) → w k x ≡ 0) where
  -- a link of a live node, and a link of that
  module _ (T : Local v live) (y : ℕ) (l : live y) (k : Link) (h : w k y ≢ 0) where
    near : live (v k y)
    near = T.found y l k (λ z. h (same k y l ∙ z))

    twice : (j : Link) → w j (w k y) ≡ v j (v k y)
    twice j = ap (w j) (same k y l) ∙ same j (v k y) near

  local-grow : Local v live → Local w more
  local-grow T = record {
    found = λ y m k h. found y k h (old y m);
    both = λ y m. both y (old y m);
    first = λ y m h. first y h (old y m);
    last = λ y m h. last y h (old y m);
    after = λ y m h. after y h (old y m);
    before = λ y m h. before y h (old y m);
    leads = λ y m e h. leads y e h (old y m);
  }
    where
      none : {P : Type 0} (y : ℕ) (k : Link) → y ≡ x → w k y ≢ 0 → P
      none y k e h = absurd (h (ap (w k) e ∙ alone k))

      on : (y : ℕ) → live y → (k : Link) → w k y ≢ 0 → v k y ≢ 0
      on y l k h z = h (same k y l ∙ z)

      found : (y : ℕ) (k : Link) → w k y ≢ 0 → (y ≡ x) ⊎ live y → more (w k y)
      found y k h (inl e) = none y k e h
      found y k h (inr l) = subst more (sym (same k y l)) (kept _ (near T y l k h))

      both : (y : ℕ) → (y ≡ x) ⊎ live y → (w fst y ≡ 0) ↔ (w lst y ≡ 0)
      both y (inl e) = (λ _. ap (w lst) e ∙ alone lst, λ _. ap (w fst) e ∙ alone fst)
      both y (inr l) = (λ z. same lst y l ∙ (T.both y l).0 (sym (same fst y l) ∙ z), λ z. same fst y l ∙ (T.both y l).1 (sym (same lst y l) ∙ z))

      first : (y : ℕ) → w fst y ≢ 0 → (y ≡ x) ⊎ live y → (w par (w fst y) ≡ y) × (w prv (w fst y) ≡ 0)
      first y h (inl e) = none y fst e h
      first y h (inr l) = (twice T y l fst h par ∙ (T.first y l (on y l fst h)).0, twice T y l fst h prv ∙ (T.first y l (on y l fst h)).1)

      last : (y : ℕ) → w lst y ≢ 0 → (y ≡ x) ⊎ live y → (w par (w lst y) ≡ y) × (w nxt (w lst y) ≡ 0)
      last y h (inl e) = none y lst e h
      last y h (inr l) = (twice T y l lst h par ∙ (T.last y l (on y l lst h)).0, twice T y l lst h nxt ∙ (T.last y l (on y l lst h)).1)

      after : (y : ℕ) → w nxt y ≢ 0 → (y ≡ x) ⊎ live y → (w prv (w nxt y) ≡ y) × (w par (w nxt y) ≡ w par y)
      after y h (inl e) = none y nxt e h
      after y h (inr l) = (twice T y l nxt h prv ∙ (T.after y l (on y l nxt h)).0, twice T y l nxt h par ∙ (T.after y l (on y l nxt h)).1 ∙ sym (same par y l))

      before : (y : ℕ) → w prv y ≢ 0 → (y ≡ x) ⊎ live y → w nxt (w prv y) ≡ y
      before y h (inl e) = none y prv e h
      before y h (inr l) = twice T y l prv h nxt ∙ T.before y l (on y l prv h)

      leads : (y : ℕ) → w prv y ≡ 0 → w par y ≢ 0 → (y ≡ x) ⊎ live y → w fst (w par y) ≡ y
      leads y z h (inl e) = none y par e h
      leads y z h (inr l) = twice T y l par h fst ∙ T.leads y l (sym (same prv y l) ∙ z) (on y l par h)

  pred-same : (y : ℕ) → live y → pred w y ≡ pred v y
  pred-same y l = ap (λ (a : ℕ). or_else a (w par y)) (same prv y l) ∙ ap (or_else (v prv y)) (same par y l)

  pub sound-grow : Nodes live → Nodes more → SoundLinks v live → SoundLinks w more
  sound-grow N N' S = tests-sound w more N' (local-grow T) (λ y m. go y (N'.some y m) (old y m))
    where
      T : Local v live
      T = sound-tests v live N S

      closed : (y : ℕ) → live y → pred v y ≢ 0 → live (pred v y)
      closed y l h = near-pred (pred-live v live T y l) h
        where
          near-pred : (pred v y ≡ 0) ⊎ live (pred v y) → pred v y ≢ 0 → live (pred v y)
          near-pred (inl e) n = absurd (n e)
          near-pred (inr p) n = p

      go : (y : ℕ) → y ≢ 0 → (y ≡ x) ⊎ live y → Ends (pred w) y
      go y n (inl e) = step n (rw (ap (pred w) e ∙ pred-parent w x (alone prv) ∙ alone par) stop)
      go y n (inr l) = ends_see live (pred v) (pred w) pred-same closed y l (sound-ends v live N S y l)

  pub holds-grow : more x → x ≢ 0 → (live x → ⊥) → (F : Forest) → Holds v live F → (j : ℕ) → F (roots j) ≡ []
      → Holds w more (put F (roots j) (x ∷ []))
  holds-grow is some new F H j free = record {
    members = record {
      home = home;
      member = λ k y. put_elim (λ z xs. In y xs → more y × (z ≡ home y) × OwnerIn more z) F (roots j) (x ∷ [])
          (one y)
          (λ z _ t. let q = M.member z y t in (kept y q.0, q.1 ∙ sym (home-old y (other y q.0)), owned z q.2))
          k;
      placed = λ y m. placed y (old y m) (ℕ_discrete y x);
      distinct = put_elim (λ _ xs. NoDup xs) F (roots j) (x ∷ []) (tt, tt) (λ k _. M.distinct k);
      some = λ y m e. not_none y (old y m) e;
    };
    chains = put_elim (λ k xs. OwnerIn more k → Chain w (owner k) xs) F (roots j) (x ∷ [])
        (λ _. record { segment = (alone par, alone prv, alone nxt, tt); first = λ h. absurd (h refl); last = λ h. absurd (h refl) })
        (λ k _. chain k);
  }
    where
      M : Members live F
      M = H.members

      home : ℕ → Key
      home y = ite (ℕ_discrete y x) (roots j) (M.home y)

      home-old : (y : ℕ) → y ≢ x → home y ≡ M.home y
      home-old y h = if_neg (ℕ_discrete y x) h (roots j) (M.home y)

      other : (y : ℕ) → live y → y ≢ x
      other y l e = new (subst live e l)

      owned : (k : Key) → OwnerIn live k → OwnerIn more k
      owned (children p) l = kept p l
      owned (roots i) l = tt

      one : (y : ℕ) → In y (x ∷ []) → more y × (roots j ≡ home y) × Unit {0}
      one y (inl e) = rw e (is, sym (if_pos (ℕ_discrete x x) refl (roots j) (M.home x)), tt)
      one y (inr x'') = elim x'' [ ]

      stays : (y : ℕ) (k : Key) → In y (F k) → In y (put F (roots j) (x ∷ []) k)
      stays y = put_elim (λ z xs. In y (F z) → In y xs) F (roots j) (x ∷ []) (λ t. absurd (rw free at t)) (λ _ _ t. t)

      placed : (y : ℕ) → (y ≡ x) ⊎ live y → (d : Dec (y ≡ x)) → In y (put F (roots j) (x ∷ []) (ite d (roots j) (M.home y)))
      placed y o (yes e) = rw put_same (inl e)
      placed y (inl e) (no h) = absurd (h e)
      placed y (inr l) (no h) = stays y (M.home y) (M.placed y l)

      not_none : (y : ℕ) → (y ≡ x) ⊎ live y → y ≢ 0
      not_none y (inl e) z = some (sym e ∙ z)
      not_none y (inr l) z = M.some y l z

      chain : (k : Key) → OwnerIn more k → Chain w (owner k) (F k)
      chain (roots i) m = (holds_see v w live F same H).chains (roots i) tt
      chain (children p) m = go (old p m)
        where
          go : (p ≡ x) ⊎ live p → Chain w p (F (children p))
          go (inr l) = (holds_see v w live F same H).chains (children p) l
          go (inl e) = rw (empty_of (F (children p)) (λ y t. new (subst live e (M.member (children p) y t).2)))
              (record { segment = tt; first = λ _. ap (w fst) e ∙ alone fst; last = λ _. ap (w lst) e ∙ alone lst })
