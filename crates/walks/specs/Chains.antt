-- On sound memory: ancestors are the parents up to none, predecessors what leads to the node up to none; children are the chain of
-- the node's children, and following and preceding siblings the two parts of the chain that the node stands in.
use Rattle.std.specs.Prelude.{◌≡◌, refl, ◌≢◌, ◌⊎◌, Bool, true, false, cond, List, [], ◌∷◌, ◌++◌, ℕ, ◌≤◌, eqb, length}
use Rattle.std.proofs.Common.{sym, ◌∙◌, subst, inl, inr, arith, eqb-true}
use Rattle.std.proofs.Math.Path.{ap}
use Rattle.std.proofs.Math.ListN.{length-append}
use Rattle.std.proofs.lemmas.Bool.{eqb-false}
use Rattle.link.specs.Words.{PARENT, PREVIOUS, link}
use Rattle.link.specs.Found.{Found}
use Rattle.link.specs.declared.header.Header.{Header}
use Rattle.rules.specs.Lists.{head_or, last_or, In, Off}
use Rattle.rules.specs.Links.{par, prv, nxt, view}
use Rattle.rules.specs.Sound.{Sound}
use Rattle.rules.specs.Forest.{Key, children, owner, Forest, Segment}
use Rattle.follow.specs.Follow.{EndsIn, ends_in, path, path-length}
use Rattle.forest.specs.Lists.{all_of, in_right, off-left, off-right}
use Rattle.forest.specs.Found.{found_some, found-nodes}
use Rattle.forest.specs.Segments.{seg-left, seg-right}
use Rattle.forest.specs.Local.{pred, pred-parent, pred-previous, pred-live, sound-tests, sound-ends}
use Rattle.forest.specs.Members.{zero_off}
use Rattle.forest.specs.Bound.{found-few, steps-few}
use Rattle.forest.specs.Whole.{Forested, no_cycle}
use Rattle.lists.specs.Orders.{along, kept, predecessor, first_of, step_of, keep_b, ordered}
use Rattle.lists.specs.declared.order.Order.TheVariants.{Ancestors, Predecessors, PrecedingSiblings, FollowingSiblings, Children}
use Rattle.walks.specs.Orders.{reversed}
use Rattle.walks.specs.Steps.{Steps, here, on, steps_then, steps-from, steps-along, path-steps, along-same}
use Rattle.walks.specs.Preorder.{kept-all}

-- A list that keeps all, by its steps.
plain : (f : ℕ → ℕ) (n y : ℕ) {ys : List ℕ} → Steps f y ys 0 → length ys ≤ n → kept (λ _. true) (along f n y) ≡ ys
plain f n y s h = kept-all (λ _. true) (λ _. refl) (along f n y) ∙ steps-along n s h

-- ---- along a chain

module _ (p q n : ℕ → ℕ) where
  forwards : (o b : ℕ) (xs : List ℕ) → Segment p q n o b xs 0 → Off 0 xs → Steps n (head_or xs 0) xs 0
  forwards o b [] s z = here
  forwards o b (x ∷ xs) s z = on (λ e. z.0 (sym e)) (steps-from s.2 (forwards o x xs s.3 z.1))

  backwards : (o b e : ℕ) (xs : List ℕ) → Segment p q n o b xs e → Off 0 xs → Steps q (last_or b xs) (reversed xs) b
  backwards o b e [] s z = here
  backwards o b e (x ∷ xs) s z =
      steps_then (backwards o x e xs s.3 z.1) (on (λ w. z.0 (sym w)) (steps-from s.1 here))

length-reversed : (xs : List ℕ) → length (reversed xs) ≡ length xs
length-reversed [] = refl
length-reversed (x ∷ xs) = let e = length-reversed xs in let c = length-append (reversed xs) (x ∷ []) in omega arith

pred_is : (m : List ℕ) (y : ℕ) → predecessor m y ≡ pred (view m) y
unfolding predecessor
pred_is m y = by (eqb (link m y PREVIOUS) 0) refl
  where
    by : (b : Bool) → eqb (link m y PREVIOUS) 0 ≡ b → cond b (link m y PARENT) (link m y PREVIOUS) ≡ pred (view m) y
    by true e = sym (pred-parent (view m) y (eqb-true (link m y PREVIOUS) 0 e))
    by false e = sym (pred-previous (view m) y (eqb-false (link m y PREVIOUS) 0 e))

-- ---- up

module _ (m : List ℕ) (h : Header) (sound : Sound m h) (x : ℕ) (f : Found m h.used x) where
  -- Ancestors: the node, its parent, and so on to none.
  pub ancestors-up : (n : ℕ) × EndsIn (view m par) n x × (ordered m h.used Ancestors x ≡ path (view m par) n x)
  unfolding ordered first_of step_of keep_b
  ancestors-up =
      let (n, e) = ends_in (view m par) (no_cycle m h sound x f) in
      let b = steps-few m h.used (view m par) (λ z w. sound.links.found z w par) n x (λ _. f) e in
      let l = path-length (view m par) n x in
      (n, e, plain (view m par) h.used x (path-steps n x e) (omega arith))

  -- Predecessors: the node, the previous sibling, else the parent, and so on to none.
  pub predecessors-up : (n : ℕ) × EndsIn (pred (view m)) n x × (ordered m h.used Predecessors x ≡ path (pred (view m)) n x)
  unfolding ordered first_of step_of keep_b
  predecessors-up =
      let N = found-nodes m h.used in
      let (n, e) = ends_in (pred (view m)) (sound-ends (view m) (Found m h.used) N sound.links x f) in
      let b = steps-few m h.used (pred (view m)) closed n x (λ _. f) e in
      let l = path-length (pred (view m)) n x in
      (n, e, ap (kept (λ _. true)) (along-same (predecessor m) (pred (view m)) (pred_is m) h.used x) ∙ plain (pred (view m)) h.used x (path-steps n x e) (omega arith))
    where
      closed : (y : ℕ) → Found m h.used y → pred (view m) y ≢ 0 → Found m h.used (pred (view m) y)
      closed y w k = by (pred-live (view m) (Found m h.used) (sound-tests (view m) (Found m h.used) (found-nodes m h.used) sound.links) y w)
        where
          by : (pred (view m) y ≡ 0) ⊎ Found m h.used (pred (view m) y) → Found m h.used (pred (view m) y)
          by (inl e) = absurd (k e)
          by (inr l) = l

-- ---- along the chains of the forest that memory holds

module _ (m : List ℕ) (h : Header) (F : Forest) (H : Forested m h F) where
  chain-few : (k : Key) → length (F k) ≤ h.used
  chain-few k = found-few m h.used (F k) (all_of (Found m h.used) (F k) (λ y i. (H.members.member k y i).0)) (H.members.distinct k)

  -- Children: the chain of the node's children.
  pub children-chain : (x : ℕ) → Found m h.used x → ordered m h.used Children x ≡ F (children x)
  unfolding ordered first_of step_of keep_b
  children-chain x f =
      let c = H.chains (children x) f in
      ap (λ (y : ℕ). kept (λ _. true) (along (view m nxt) h.used y)) (c.first (found_some m h.used x f))
      ∙ plain (view m nxt) h.used (head_or (F (children x)) 0)
      (forwards (view m par) (view m prv) (view m nxt) x 0 (F (children x)) c.segment (zero_off (Found m h.used) F H.members (children x))) (chain-few (children x))

  module _ (x : ℕ) (k : Key) (ls rs : List ℕ) (stands : F k ≡ ls ++ x ∷ rs) where
    inside : In x (F k)
    inside = subst (In x) (sym stands) (in_right x ls (x ∷ rs) (inl refl))

    segment : Segment (view m par) (view m prv) (view m nxt) (owner k) 0 (ls ++ x ∷ rs) 0
    segment = subst (λ (xs : List ℕ). Segment (view m par) (view m prv) (view m nxt) (owner k) 0 xs 0) stands (H.chains k (H.members.member k x inside).2).segment

    none_off : Off 0 (ls ++ x ∷ rs)
    none_off = subst (Off 0) stands (zero_off (Found m h.used) F H.members k)

    few : length (ls ++ x ∷ rs) ≤ h.used
    few = subst (λ (xs : List ℕ). length xs ≤ h.used) stands (chain-few k)

    -- Following siblings: the node and what stands behind it in its chain.
    pub following-chain : ordered m h.used FollowingSiblings x ≡ x ∷ rs
    unfolding ordered first_of step_of keep_b
    following-chain =
        let n = length-append ls (x ∷ rs) in
        let b = few in
        plain (view m nxt) h.used x
        (forwards (view m par) (view m prv) (view m nxt) (owner k) (last_or 0 ls) (x ∷ rs)
        (seg-right (view m par) (view m prv) (view m nxt) (owner k) 0 ls (x ∷ rs) 0 segment) (off-right 0 ls (x ∷ rs) none_off)) (omega arith)

    -- Preceding siblings: the node and what stands before it, the nearest first.
    pub preceding-chain : ordered m h.used PrecedingSiblings x ≡ x ∷ reversed ls
    unfolding ordered first_of step_of keep_b
    preceding-chain =
        let n = length-append ls (x ∷ rs) in
        let b = few in
        let l = length-reversed ls in
        let s = seg-right (view m par) (view m prv) (view m nxt) (owner k) 0 ls (x ∷ rs) 0 segment in
        plain (view m prv) h.used x
        (on (λ (e : x ≡ 0). (off-right 0 ls (x ∷ rs) none_off).0 (sym e)) (steps-from s.1
        (backwards (view m par) (view m prv) (view m nxt) (owner k) 0 x ls
        (seg-left (view m par) (view m prv) (view m nxt) (owner k) 0 ls (x ∷ rs) 0 segment) (off-left 0 ls (x ∷ rs) none_off)))) (omega arith)
