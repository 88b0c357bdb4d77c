-- On sound memory level order is the tree's rows from the top down: each node listed brings its children to the end of the list,
-- nothing is cut, and there is fuel for every node.
use Rattle.std.specs.Prelude.{◌≡◌, refl, true, cond, List, [], ◌∷◌, ◌++◌, ◌-◌, ℕ, zero, suc, ◌+◌, ◌<◌, ◌≤◌, eqb, length, get_or, drop}
use Rattle.std.proofs.Common.{sym, ◌∙◌, subst, append-nil, append_assoc, add-one, arith, length-append, length-drop, drop-cons, get_or-drop, ne_eqb}
use Rattle.std.proofs.Math.Path.{ap}
use Rattle.std.proofs.lemmas.List.{drop-append-le}
use Rattle.link.specs.Found.{Found}
use Rattle.link.specs.declared.header.Header.{Header}
use Rattle.rules.specs.Links.{nxt, fst, view}
use Rattle.rules.specs.Sound.{Sound}
use Rattle.rules.specs.Tree.{Tree, none, node, top, Hang}
use Rattle.forest.specs.Whole.{tree_of_lem}
use Rattle.lists.specs.Orders.{along, kept, first_of, step_of, keep_b, ordered}
use Rattle.lists.specs.Levels.{level_run, level_order}
use Rattle.lists.specs.LevelLaws.{level_out, level-step}
use Rattle.lists.specs.declared.order.Order.TheVariants.{Children, Descendants}
use Rattle.walks.specs.Orders.{row, below, rows, belows, levels, size}
use Rattle.walks.specs.Rows.{sizes, sizes-append, row-size, levels-turn, levels-length}
use Rattle.walks.specs.Steps.{Steps, here, on, steps-from, steps-along}
use Rattle.walks.specs.Stepped.{tree_of}
use Rattle.walks.specs.Preorder.{kept-all, count-tree}

module _ (m : List ℕ) where
  -- the trees ks are those of the children of ys, one each
  abbrev Under : List ℕ → List Tree → Type 0
  Under [] [] = Unit {0}
  Under [] (k ∷ ks) = ⊥
  Under (y ∷ ys) [] = ⊥
  Under (y ∷ ys) (k ∷ ks) = (view m fst y ≡ top k) × Hang (view m) y k × Under ys ks

  under-append : (ys : List ℕ) (ks : List Tree) (zs : List ℕ) (ls : List Tree) → Under ys ks → Under zs ls → Under (ys ++ zs) (ks ++ ls)
  under-append [] [] zs ls a b = b
  under-append (y ∷ ys) (k ∷ ks) zs ls a b = (a.0, a.1, under-append ys ks zs ls a.2 b)
  under-append (y ∷ ys) [] zs ls a b = elim a [ ]
  under-append [] (k ∷ ks) zs ls a b = elim a [ ]

  under-row : (o : ℕ) (t : Tree) → Hang (view m) o t → Under (row t) (below t)
  under-row o none w = tt
  under-row o (node x k n) w = (w.3, w.4, under-row o n w.5)

  row-steps : (o : ℕ) (t : Tree) → Hang (view m) o t → Steps (view m nxt) (top t) (row t) 0
  row-steps o none w = here
  row-steps o (node x k n) w = on w.0 (steps-from w.2 (row-steps o n w.5))

  -- the children of a node are the row below it
  children-row : (n y : ℕ) (k : Tree) → view m fst y ≡ top k → Hang (view m) y k → length (row k) ≤ n → ordered m n Children y ≡ row k
  unfolding ordered first_of step_of keep_b
  children-row n y k e w h =
      ap (λ (z : ℕ). kept (λ _. true) (along (view m nxt) n z)) e
      ∙ kept-all (λ _. true) (λ _. refl) (along (view m nxt) n (top k)) ∙ steps-along n (row-steps y k w) h

  module _ (places : ℕ) where
    -- what is still to come of a row q whose nodes are listed last, with r already below it
    abbrev rest : List Tree → List Tree → List ℕ
    rest q r = rows q ++ levels (sizes (r ++ belows q)) (r ++ belows q)

    -- n turns are enough to list all that is below the nodes ys, which stand at the end of xs
    abbrev Lists : ℕ → Type 0
    Lists n = (xs : List ℕ) (asked : ℕ) (ys : List ℕ) (q r : List Tree) → asked ≤ length xs → drop asked xs ≡ ys → Under ys (q ++ r)
        → length xs + sizes (q ++ r) ≡ places → length ys + sizes (q ++ r) ≤ n → level_run n m places xs asked ≡ xs ++ rest q r

    pop : (n : ℕ) → Lists n → (xs : List ℕ) (asked y : ℕ) (ys : List ℕ) (k : Tree) (q r : List Tree) → asked ≤ length xs → drop asked xs ≡ y ∷ ys
        → Under (y ∷ ys) (k ∷ (q ++ r)) → length xs + sizes (k ∷ (q ++ r)) ≡ places → length (y ∷ ys) + sizes (k ∷ (q ++ r)) ≤ suc n
        → level_run (suc n) m places xs asked ≡ xs ++ rest (k ∷ q) r
    pop n ih xs asked y ys k q r a d u s f =
        let L : suc (length ys) ≡ length xs - asked = sym (ap length d) ∙ length-drop asked xs in
        let before : asked < length xs = omega arith in
        let z : asked ≡ asked + 0 = omega arith in
        let g : get_or xs asked 0 ≡ y = ap (λ (i : ℕ). get_or xs i 0) z ∙ sym (get_or-drop asked xs 0 0) ∙ ap (λ (l : List ℕ). get_or l 0 0) d in
        let size-k = row-size k in
        let c : ordered m (places - length xs) Children (get_or xs asked 0) ≡ row k = ap (ordered m (places - length xs) Children) g ∙ children-row (places - length xs) y k u.0 u.1 (omega arith) in
        let one : suc n - 1 ≡ n = omega arith in
        let cut : drop asked xs ≡ get_or xs asked 0 ∷ drop (suc asked) xs = drop-cons xs asked 0 before in
        let tail : drop (suc asked) xs ≡ ys = cc in
        let after : drop (asked + 1) (xs ++ row k) ≡ ys ++ row k = drop-append-le (asked + 1) xs (row k) (omega arith) ∙ ap (λ (l : List ℕ). l ++ row k) (ap (λ (i : ℕ). drop i xs) (add-one asked) ∙ tail) in
        let below-k = sizes-append q r in
        let all-k = sizes-append q (r ++ below k) in
        let some-k = sizes-append r (below k) in
        let long = length-append xs (row k) in
        let long' = length-append ys (row k) in
        level-step (suc n) m places xs asked (omega arith) before
        ∙ ap (λ (i : ℕ). level_run i m places (xs ++ ordered m (places - length xs) Children (get_or xs asked 0)) (asked + 1)) one
        ∙ ap (λ (l : List ℕ). level_run n m places (xs ++ l) (asked + 1)) c
        ∙ ih (xs ++ row k) (asked + 1) (ys ++ row k) q (r ++ below k) (omega arith) after
        (subst (Under (ys ++ row k)) (append_assoc q r (below k)) (under-append ys (q ++ r) (row k) (below k) u.2 (under-row y k u.1))) (omega arith) (omega arith)
        ∙ append_assoc xs (row k) (rest q (r ++ below k))
        ∙ ap (λ (l : List ℕ). xs ++ l) (sym (append_assoc (row k) (rows q) (levels (sizes ((r ++ below k) ++ belows q)) ((r ++ below k) ++ belows q)))
        ∙ ap (λ (ts : List Tree). (row k ++ rows q) ++ levels (sizes ts) ts) (append_assoc r (below k) (belows q)))

    over : (n : ℕ) (xs : List ℕ) (asked : ℕ) → asked ≤ length xs → drop asked xs ≡ [] → level_run n m places xs asked ≡ xs ++ rest [] []
    over n xs asked a d =
        let L : 0 ≡ length xs - asked = sym (ap length d) ∙ length-drop asked xs in
        level_out n m places xs asked (omega arith) ∙ sym (append-nil xs)

    lists : (n : ℕ) → Lists n
    lists zero xs asked [] [] [] a d u s f = over zero xs asked a d
    lists (suc n) xs asked [] [] [] a d u s f = over (suc n) xs asked a d
    lists zero xs asked (y ∷ ys) q r a d u s f = absurd (omega arith)
    lists (suc n) xs asked (y ∷ ys) [] (k ∷ r) a d u s f =
        let e : r ++ [] ≡ r = append-nil r in
        pop n (lists n) xs asked y ys k r [] a d (subst (λ (ts : List Tree). Under (y ∷ ys) (k ∷ ts)) (sym e) u)
        (subst (λ (ts : List Tree). length xs + sizes (k ∷ ts) ≡ places) (sym e) s) (subst (λ (ts : List Tree). length (y ∷ ys) + sizes (k ∷ ts) ≤ suc n) (sym e) f)
        ∙ ap (λ (l : List ℕ). xs ++ l) (sym (levels-turn (k ∷ r)) ∙ ap (λ (ts : List Tree). levels (sizes ts) ts) (sym (append-nil (k ∷ r))))
    lists (suc n) xs asked (y ∷ ys) (k ∷ q) r a d u s f = pop n (lists n) xs asked y ys k q r a d u s f
    lists (suc n) xs asked (y ∷ ys) [] [] a d u s f = elim u [ ]
    lists (suc n) xs asked [] (k ∷ q) r a d u s f = elim u [ ]
    lists (suc n) xs asked [] [] (k ∷ r) a d u s f = elim u [ ]
    lists zero xs asked [] (k ∷ q) r a d u s f = elim u [ ]
    lists zero xs asked [] [] (k ∷ r) a d u s f = elim u [ ]

module _ (m : List ℕ) (h : Header) (sound : Sound m h) (x : ℕ) (f : Found m h.used x) where
  -- Level order: the tree's rows, from the top down.
  pub breadth-tree : level_order m (length (ordered m h.used Descendants x)) x ≡ levels (size (tree_of m h sound x f)) (tree_of m h sound x f ∷ [])
  unfolding level_order
  breadth-tree = rw (count-tree m h sound x f) whole
    where
      t : Tree
      t = (tree_of_lem m h sound x f).tree

      n : ℕ
      n = size (node x t none)

      whole : cond (eqb n 0) [] (level_run n m n (x ∷ []) 0) ≡ levels n (node x t none ∷ [])
      whole =
          let b = tree_of_lem m h sound x f in
          simp (ne_eqb n 0 (λ (e : n ≡ 0). omega arith))
          (lists m n n (x ∷ []) 0 (x ∷ []) (t ∷ []) [] (omega arith) refl (b.tops, b.hangs, tt) (omega arith) (omega arith) ∙ ap (λ (l : List ℕ). x ∷ l) (sym (levels-turn (t ∷ []))))

  -- So it has as many members as the places that it asks for.
  pub breadth-length : length (level_order m (length (ordered m h.used Descendants x)) x) ≡ length (ordered m h.used Descendants x)
  breadth-length =
      let e = levels-length (size (tree_of m h sound x f)) (tree_of m h sound x f ∷ []) (omega arith) in
      let n = count-tree m h sound x f in
      let b = ap length breadth-tree in
      omega arith
