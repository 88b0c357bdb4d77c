-- On sound memory the descendants' list is the tree of the node in preorder, its count the number of its nodes, and leaves lists
-- those of its nodes that have no children. `used` steps are enough, for the list and for each climb.
use Rattle.std.specs.Prelude.{◌≡◌, ◌≢◌, Bool, true, false, cond, List, [], ◌∷◌, ◌++◌, length}
use Rattle.std.proofs.Math.Path.{refl, ap}
use Rattle.std.proofs.Common.{sym, ◌∙◌, subst, inl, inr, append-nil, arith, length-append}
use Prim.Native.Nat.{◌-◌, ℕ, zero, suc, ◌<◌, ◌≤◌}
use Rattle.std.proofs.Math.Dec.{eqb}
use borrow.Author.Tests.{eq-eqb, ne_eqb}
use Rattle.link.specs.Words.{PARENT, NEXT, FIRST, link}
use Rattle.link.specs.WordLaws.{link_none}
use Rattle.link.specs.Found.{Found}
use Rattle.link.specs.declared.header.Header.{Header}
use Rattle.rules.specs.Lists.{In, All}
use Rattle.rules.specs.Links.{par, nxt, fst, view}
use Rattle.rules.specs.Sound.{Sound}
use Rattle.rules.specs.Tree.{Tree, none, node, top, pre, Hang}
use Rattle.follow.specs.Follow.{EndsIn, ends_in}
use Rattle.forest.specs.Lists.{in_left, in_right, off-not_in, all_in}
use Rattle.forest.specs.Found.{found_some}
use Rattle.forest.specs.Bound.{found-few, steps-few}
use Rattle.forest.specs.Whole.{tree_of_lem, no_cycle}
use Rattle.lists.specs.Orders.{along, kept, after_subtree, next_descendant, first_of, step_of, keep_b, ordered}
use Rattle.lists.specs.OrderLaws.{after-step}
use Rattle.lists.specs.declared.order.Order.TheVariants.{Descendants, Leaves}
use Rattle.walks.specs.Orders.{leaves, size}
use Rattle.walks.specs.Steps.{Steps, here, on, steps_then, steps-from, steps-along}
use Rattle.walks.specs.Stepped.{tree_of, tree-once}

-- all are kept where the test always says yes
pub kept-all : (keep : ℕ → Bool) → ((y : ℕ) → keep y ≡ true) → (xs : List ℕ) → kept keep xs ≡ xs
unfolding kept
kept-all keep h [] = refl
kept-all keep h (x ∷ xs) = simp (h x) (ap (λ (l : List ℕ). x ∷ l) (kept-all keep h xs))

pub kept_append : (keep : ℕ → Bool) (xs ys : List ℕ) → kept keep (xs ++ ys) ≡ kept keep xs ++ kept keep ys
unfolding kept
kept_append keep [] ys = refl
kept_append keep (x ∷ xs) ys = by (keep x) (kept_append keep xs ys)
  where
    by : (b : Bool) → kept keep (xs ++ ys) ≡ kept keep xs ++ kept keep ys
        → cond b (x ∷ kept keep (xs ++ ys)) (kept keep (xs ++ ys)) ≡ cond b (x ∷ kept keep xs) (kept keep xs) ++ kept keep ys
    by true e = ap (λ (l : List ℕ). x ∷ l) e
    by false e = e

-- where a step into a tree leads: to its top, or past it
abbrev top_or : Tree → ℕ → ℕ
top_or none z = z
top_or (node x k n) z = x

-- ---- what comes behind a subtree, with fuel for the ancestors

module _ (m : List ℕ) (root : ℕ) (some : root ≢ 0) where
  none-behind : (j : ℕ) → after_subtree j m root 0 ≡ 0
  unfolding after_subtree
  none-behind zero = refl
  none-behind (suc j) =
      simp (ne_eqb 0 root (λ e. some (sym e)), link_none m 0 NEXT refl, link_none m 0 PARENT refl) (none-behind j)

  -- any fuel that reaches the end of the parents gives the same
  same_fuel : (n y j k : ℕ) → EndsIn (view m par) n y → n ≤ j → n ≤ k → after_subtree j m root y ≡ after_subtree k m root y
  same_fuel zero y j k e a b = rw e (none-behind j ∙ sym (none-behind k))
  same_fuel (suc n) y j k e a b =
      let ih = same_fuel n (link m y PARENT) (j - 1) (k - 1) e.1 (omega arith) (omega arith) in
      after-step j m root y (omega arith)
      ∙ ap (λ (z : ℕ). cond (eqb y root) 0 (cond (eqb (link m y NEXT) 0) z (link m y NEXT))) ih
      ∙ sym (after-step k m root y (omega arith))

-- ---- preorder by steps

module _ (m : List ℕ) (h : Header) (sound : Sound m h) (root : ℕ) (f : Found m h.used root) where
  behind : ℕ → ℕ
  behind y = after_subtree h.used m root y

  some : root ≢ 0
  some = found_some m h.used root f

  -- a found node has parents to the end, at most used with itself
  parents : (y : ℕ) → Found m h.used y → (n : ℕ) × EndsIn (view m par) n y × (n ≤ h.used)
  parents y l =
      let (n, e) = ends_in (view m par) (no_cycle m h sound y l) in
      (n, e, steps-few m h.used (view m par) (λ z w. sound.links.found z w par) n y (λ _. l) e)

  used-some : 0 < h.used
  used-some = let a = f.from in let b = f.upto in omega arith

  behind-root : behind root ≡ 0
  unfolding behind
  behind-root = after-step h.used m root root used-some ∙ simp (eq-eqb root root refl)

  behind-next : (y : ℕ) → y ≢ root → view m nxt y ≢ 0 → behind y ≡ view m nxt y
  unfolding behind
  behind-next y k n = after-step h.used m root y used-some ∙ simp (ne_eqb y root k, ne_eqb (link m y NEXT) 0 n)

  behind-up : (y : ℕ) → Found m h.used y → y ≢ root → view m nxt y ≡ 0 → behind y ≡ behind (view m par y)
  unfolding behind
  behind-up y l k e = by (parents y l)
    where
      by : (n : ℕ) × EndsIn (view m par) n y × (n ≤ h.used) → after_subtree h.used m root y ≡ after_subtree h.used m root (link m y PARENT)
      by (zero, a, b) = absurd (found_some m h.used y l a)
      by (suc n, a, b) =
          after-step h.used m root y used-some
          ∙ simp (ne_eqb y root k, eq-eqb (link m y NEXT) 0 e) (same_fuel m root some n (link m y PARENT) (h.used - 1) h.used a.1 (omega arith) (omega arith))

  down : ℕ → ℕ
  down = next_descendant m h.used root

  down_step : (y : ℕ) (t : Tree) → view m fst y ≡ top t → Hang (view m) y t → down y ≡ top_or t (behind y)
  unfolding down next_descendant behind
  down_step y none e w = simp (eq-eqb (link m y FIRST) 0 e)
  down_step y (node x k n) e w = simp (ne_eqb (link m y FIRST) 0 (λ q. w.0 (sym e ∙ q))) e

  behind-step : (y o : ℕ) (t : Tree) → Found m h.used y → y ≢ root → view m par y ≡ o → view m nxt y ≡ top t → Hang (view m) o t → behind y ≡ top_or t (behind o)
  behind-step y o none l k p e w = behind-up y l k e ∙ ap behind p
  behind-step y o (node x a b) l k p e w = behind-next y k (λ q. w.0 (sym e ∙ q)) ∙ e

  pre-steps : (o : ℕ) (t : Tree) → Hang (view m) o t → ((y : ℕ) → In y (pre t) → Found m h.used y × (y ≢ root))
      → Steps down (top_or t (behind o)) (pre t) (behind o)
  pre-steps o none w l = here
  pre-steps o (node x k n) w l =
      on w.0 (steps-from (down_step x k w.3 w.4) (steps_then
      (pre-steps x k w.4 (λ y i. l y (inr (in_left y (pre k) (pre n) i))))
      (steps-from (behind-step x o n (l x (inl refl)).0 (l x (inl refl)).1 w.1 w.2 w.5)
      (pre-steps o n w.5 (λ y i. l y (inr (in_right y (pre k) (pre n) i)))))))

  -- the whole tree: from the root through its preorder to none
  whole-steps : Steps down root (pre (tree_of m h sound root f)) 0
  whole-steps =
      let b = tree_of_lem m h sound root f in
      let inside = pre-steps root b.tree b.hangs (λ y i. (
        all_in (Found m h.used) (pre b.tree) b.lives y i,
        λ (e : y ≡ root). off-not_in root (pre b.tree) b.once.0 (subst (λ (z : ℕ). In z (pre b.tree)) e i),
      )) in
      on some (steps-from (down_step root b.tree b.tops b.hangs)
      (subst (λ (z : ℕ). Steps down (top_or b.tree (behind root)) (pre b.tree ++ []) z) behind-root (steps_then inside here)))

  tree-found : All (Found m h.used) (pre (tree_of m h sound root f))
  tree-found = (f, subst (All (Found m h.used)) (sym (append-nil (pre (tree_of_lem m h sound root f).tree))) (tree_of_lem m h sound root f).lives)

  pub tree-few : length (pre (tree_of m h sound root f)) ≤ h.used
  tree-few = found-few m h.used (pre (tree_of m h sound root f)) tree-found (tree-once m h sound root f)

  -- Descendants are the tree in preorder.
  pub descendants-tree : ordered m h.used Descendants root ≡ pre (tree_of m h sound root f)
  unfolding ordered first_of step_of keep_b down
  descendants-tree = kept-all (λ _. true) (λ _. refl) (along (next_descendant m h.used root) h.used root) ∙ steps-along h.used whole-steps tree-few

pub size-pre : (t : Tree) → length (pre t) ≡ size t
size-pre none = refl
size-pre (node x k n) =
    let a = size-pre k in
    let b = size-pre n in
    let c = length-append (pre k) (pre n) in
    omega arith

-- ---- leaves

leaf-kept : (m : List ℕ) (o : ℕ) (t : Tree) → Hang (view m) o t → kept (λ y. eqb (link m y FIRST) 0) (pre t) ≡ leaves t
unfolding kept
leaf-kept m o none w = refl
leaf-kept m o (node x none n) w = simp (eq-eqb (link m x FIRST) 0 w.3) (ap (λ (l : List ℕ). x ∷ l) (leaf-kept m o n w.5))
leaf-kept m o (node x (node y k l) n) w =
    simp (ne_eqb (link m x FIRST) 0 (λ (e : link m x FIRST ≡ 0). w.4.0 (sym w.3 ∙ e)))
    (kept_append (λ z. eqb (link m z FIRST) 0) (pre (node y k l)) (pre n)
    ∙ ap (λ (a : List ℕ). a ++ kept (λ z. eqb (link m z FIRST) 0) (pre n)) (leaf-kept m x (node y k l) w.4)
    ∙ ap (λ (a : List ℕ). leaves (node y k l) ++ a) (leaf-kept m o n w.5))

-- the node itself, whose siblings do not count
leaf-root : (m : List ℕ) (x : ℕ) (t : Tree) → view m fst x ≡ top t → Hang (view m) x t → kept (λ y. eqb (link m y FIRST) 0) (pre (node x t none)) ≡ leaves (node x t none)
unfolding kept
leaf-root m x none e w = simp (eq-eqb (link m x FIRST) 0 e)
leaf-root m x (node y k l) e w =
    simp (ne_eqb (link m x FIRST) 0 (λ (q : link m x FIRST ≡ 0). w.0 (sym e ∙ q)))
    (kept_append (λ z. eqb (link m z FIRST) 0) (pre (node y k l)) [] ∙ ap (λ (a : List ℕ). a ++ []) (leaf-kept m x (node y k l) w))

module _ (m : List ℕ) (h : Header) (sound : Sound m h) (root : ℕ) (f : Found m h.used root) where
  -- Their number, the node with them.
  pub count-tree : length (ordered m h.used Descendants root) ≡ size (tree_of m h sound root f)
  count-tree = ap length (descendants-tree m h sound root f) ∙ size-pre (tree_of m h sound root f)

  -- Leaves are the tree's leaves.
  pub leaves-tree : ordered m h.used Leaves root ≡ leaves (tree_of m h sound root f)
  unfolding ordered first_of step_of keep_b down
  leaves-tree =
      let b = tree_of_lem m h sound root f in
      ap (kept (λ y. eqb (link m y FIRST) 0)) (steps-along h.used (whole-steps m h sound root f) (tree-few m h sound root f))
      ∙ leaf-root m root b.tree b.tops b.hangs
