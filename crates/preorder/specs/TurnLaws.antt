-- The loop as it goes on: its node is the top of the first tree that is still to be written, the tops of the others wait on the stack,
-- and the list ends with their nodes. From the tree of a found node and the laws of the stack.
use Rattle.std.specs.Prelude.{◌≡◌, refl, ◌≢◌, eqb, length, set, drop}
use Rattle.std.proofs.Math.Path.{sym, ap, subst}
use Rattle.std.proofs.Common.{◌∙◌, inr, arith, set-set}
use Rattle.std.proofs.Math.Bool.{cond}
use mathlib.Core.List.{List, [], ◌∷◌, ◌++◌, append_assoc}
use Prim.Native.Nat.{◌-◌, ℕ, suc, ◌+◌, ◌*◌, ◌<◌}
use Rattle.std.proofs.lemmas.List.Edits.{sets}
use Rattle.std.proofs.Math.Seq.{set-get_or}
use Rattle.link.specs.Words.{NEXT, FIRST, link}
use Rattle.link.specs.Found.{Found}
use Rattle.link.specs.declared.header.Header.{Header}
use Rattle.rules.specs.Links.{view}
use Rattle.rules.specs.Sound.{Sound}
use Rattle.rules.specs.Tree.{Tree, none, node, top, pre, Hang}
use Rattle.forest.specs.Lists.{in_left, in_right, all_of, all_in}
use Rattle.forest.specs.Whole.{tree_of_lem}
use Rattle.examine.specs.Scratch.{zeroed}
use Rattle.walk.specs.WrittenLaws.{sets_more}
use Rattle.lists.specs.Orders.{ordered}
use Rattle.lists.specs.Storing.{stored_at}
use Rattle.lists.specs.OrderLaws.{stored-done, stored-place}
use Rattle.lists.specs.declared.order.Order.TheVariants.{Descendants}
use Rattle.walks.specs.Preorder.{tree-few, descendants-tree}
use Rattle.preorder.specs.Stack.{turned_to, turned}
use Rattle.preorder.specs.Pending.{tops, pres, Pending, onto, onto-pres, onto-tops, onto-pending, tops-few}
use Rattle.preorder.specs.StackLaws.{Laid, turned_down, turned_on, turned-back, push-laid, top-laid, pop-laid, none-laid, inside-laid, empty-laid, laid-empty}
use Rattle.preorder.specs.declared.preorder.Turned.{Turned}

-- The node and the stack of trees still to be written; s₀ is scratch at first, zero in its first 2 × used words.
abbrev pub Held : ℕ → List ℕ → List ℕ → ℕ → ℕ → List Tree → Type 0
Held used s₀ s place x [] = (x ≡ 0) × (s ≡ s₀)
Held used s₀ s place x (t ∷ ts) = (x ≡ top t) × Laid (2 * used - 1) (drop (2 * used) s₀) s place (tops ts)

-- What the loop keeps, of scratch, list, top, node and the list's next place; list₀ is the list at first.
pub record Turning (m : List ℕ) (used : ℕ) (whole s₀ list₀ s list : List ℕ) (place x at : ℕ) : Type 0 where
  pub trees : List Tree
  pub pending : Pending m used trees
  pub held : Held used s₀ s place x trees
  pub stored : stored_at (pres trees) list at ≡ stored_at whole list₀ 0
  pub few : length (pres trees) < used

stored_one : (x : ℕ) (xs list : List ℕ) (at : ℕ) → stored_at xs (set list at x) (at + 1) ≡ stored_at (x ∷ xs) list at
unfolding stored_at
stored_one x xs list at =
    let s = sets_more list at x xs in
    let c : at + 1 + length xs ≡ at + suc (length xs) = omega arith in
    cc

-- A turn from the top of a tree: to its children, else its siblings, else the next tree.
module _ (m : List ℕ) (used : ℕ) (s₀ : List ℕ) (zero : zeroed (2 * used) s₀ ≡ s₀) (some : 0 < used) (s : List ℕ) (place : ℕ) (high : 0 < place) (x o : ℕ) where
  held_after : (k n : Tree) (ts : List Tree) → Hang (view m) o (node x k n) → Laid (2 * used - 1) (drop (2 * used) s₀) s place (tops ts)
      → Held used s₀ (turned m x s place).0 (turned m x s place).1.top (turned m x s place).1.node (onto k (onto n ts))
  unfolding turned_to
  held_after (node y a b) n ts w l =
      rw (turned_down m x s place (λ (e : link m x FIRST ≡ 0). w.4.0 (sym w.3 ∙ e))) (
        w.3,
        subst (Laid (2 * used - 1) (drop (2 * used) s₀) (set s (place - 1) (link m x NEXT)) (cond (eqb (link m x NEXT) 0) place (place - 1)))
            (ap (λ (u : ℕ). cond (eqb u 0) (tops ts) (u ∷ tops ts)) w.2 ∙ sym (onto-tops m o n ts w.5))
            (push-laid (2 * used - 1) (drop (2 * used) s₀) s (tops ts) place (link m x NEXT) high l),
      )
  held_after none (node y a b) ts w l = rw (turned_on m x s place w.3 (λ (e : link m x NEXT ≡ 0). w.5.0 (sym w.2 ∙ e))) (w.2, l)
  held_after none none [] w l =
      let e = none-laid (2 * used - 1) (drop (2 * used) s₀) s place l in
      rw (turned-back m x s place w.3 w.2) (
        e,
        ap (set s place) (sym e) ∙ set-get_or s place 0 ∙ laid-empty (2 * used) s₀ s place (omega arith) zero l,
      )
  held_after none none (t ∷ ts) w l = rw (turned-back m x s place w.3 w.2) (
    top-laid (2 * used - 1) (drop (2 * used) s₀) s (tops ts) place (top t) l,
    pop-laid (2 * used - 1) (drop (2 * used) s₀) s (tops ts) place (top t) l,
  )

module _ {m : List ℕ} {used : ℕ} {whole s₀ list₀ s list : List ℕ} {place x at : ℕ} (T : Turning m used whole s₀ list₀ s list place x at) where
  -- The end: no node is left, scratch is as it was, and all is written.
  pub ends : x ≡ 0 → (s ≡ s₀) × ((list, at) ≡ stored_at whole list₀ 0)
  ends z = by T.trees T.pending T.held T.stored
    where
      by : (ts : List Tree) → Pending m used ts → Held used s₀ s place x ts → stored_at (pres ts) list at ≡ stored_at whole list₀ 0
          → (s ≡ s₀) × ((list, at) ≡ stored_at whole list₀ 0)
      by [] p h e = (h.1, sym (stored-done list at) ∙ e)
      by (none ∷ ts) p h e = absurd p.0
      by (node y k n ∷ ts) ((o, w, lives), p) h e = absurd (w.0 (sym h.0 ∙ z))

  -- A turn: there is room on the stack and in the list, and what is left goes on.
  pub record Turn : Type 0 where
    pub above : 0 < place
    pub inside : place < length s
    pub room : at < length whole
    pub on : {s' : List ℕ} {r : Turned} → (s', r) ≡ turned m x s place → Turning m used whole s₀ list₀ s' (set list at x) r.top r.node (at + 1)

  turn_of : zeroed (2 * used) s₀ ≡ s₀ → (ts : List Tree) → Pending m used ts → Held used s₀ s place x ts
      → stored_at (pres ts) list at ≡ stored_at whole list₀ 0 → length (pres ts) < used → x ≢ 0 → Turn
  turn_of zero [] p h e few some = absurd (some h.0)
  turn_of zero (none ∷ ts) p h e few some = absurd p.0
  turn_of zero (node y k n ∷ ts) ((o, w, lives), p) h e few some = record {
    above = high;
    inside = inside-laid (2 * used - 1) (drop (2 * used) s₀) s (tops ts) place h.1;
    room = let q = stored-place _ _ _ _ _ _ e in omega arith;
    on = go;
  }
    where
      high : 0 < place
      high = let q = h.1.place in let t = tops-few m used (node y k n ∷ ts) ((o, w, lives), p) in omega arith

      shape : pres (node x k n ∷ ts) ≡ x ∷ pres (onto k (onto n ts))
      shape = ap (λ (l : List ℕ). x ∷ l) (
          append_assoc (pre k) (pre n) (pres ts)
          ∙ ap (λ (l : List ℕ). pre k ++ l) (sym (onto-pres n ts)) ∙ sym (onto-pres k (onto n ts)))

      same : pres (node y k n ∷ ts) ≡ x ∷ pres (onto k (onto n ts))
      same = ap (λ (z : ℕ). pres (node z k n ∷ ts)) (sym h.0) ∙ shape

      hangs : Hang (view m) o (node x k n)
      hangs = subst (λ (z : ℕ). Hang (view m) o (node z k n)) (sym h.0) w

      go : {s' : List ℕ} {r : Turned} → (s', r) ≡ turned m x s place → Turning m used whole s₀ list₀ s' (set list at x) r.top r.node (at + 1)
      go {s'} {r} g = record {
        trees = onto k (onto n ts);
        pending = onto-pending m used y k (onto n ts) w.4 (all_of (Found m used) (pre k) (λ z i. all_in (Found m used) (pre (node y k n)) lives z (inr (in_left z (pre k) (pre n) i))))
            (onto-pending m used o n ts w.5 (all_of (Found m used) (pre n) (λ z i. all_in (Found m used) (pre (node y k n)) lives z (inr (in_right z (pre k) (pre n) i)))) p);
        held = subst (λ (q : List ℕ × Turned). Held used s₀ q.0 q.1.top q.1.node (onto k (onto n ts))) (sym g)
            (held_after m used s₀ zero (omega arith) s place high x o k n ts hangs h.1);
        stored = stored_one x (pres (onto k (onto n ts))) list at ∙ ap (λ (xs : List ℕ). stored_at xs list at) (sym same) ∙ e;
        few = let q = ap length same in omega arith;
      }

  pub turns : zeroed (2 * used) s₀ ≡ s₀ → x ≢ 0 → Turn
  turns zero some = turn_of zero T.trees T.pending T.held T.stored T.few some

-- The node itself is listed.
pub ordered-some : (m : List ℕ) (h : Header) (sound : Sound m h) (root : ℕ) → Found m h.used root → 0 < length (ordered m h.used Descendants root)
ordered-some m h sound root f = rw (descendants-tree m h sound root f) (omega arith)

-- The start, where the root is written and its first child is next, and the end.
module _ (m : List ℕ) (h : Header) (sound : Sound m h) (root : ℕ) (f : Found m h.used root) (s₀ list₀ : List ℕ) (zero : zeroed (2 * h.used) s₀ ≡ s₀) where
  pub begins : {x : ℕ} → x ≡ link m root FIRST
      → Turning m h.used (ordered m h.used Descendants root) s₀ (set list₀ 0 root) s₀ (set list₀ 0 root) (2 * h.used - 1) x 1
  begins {x} e =
      let b = tree_of_lem m h sound root f in
      let few = tree-few m h sound root f in record {
        trees = onto b.tree [];
        pending = onto-pending m h.used root b.tree [] b.hangs b.lives tt;
        held = first b.tree (e ∙ b.tops);
        stored =
            ap (λ (xs : List ℕ). stored_at xs (set list₀ 0 root) 1) (onto-pres b.tree [])
            ∙ ap (λ (l : List ℕ). stored_at (pre b.tree ++ []) l 1) (sym (set-set list₀ 0 root root))
            ∙ stored_one root (pre b.tree ++ []) (set list₀ 0 root) 0
            ∙ ap (λ (xs : List ℕ). stored_at xs (set list₀ 0 root) 0) (sym (descendants-tree m h sound root f));
        few = let q = ap length (onto-pres b.tree []) in omega arith;
      }
    where
      first : (t : Tree) → x ≡ top t → Held h.used s₀ s₀ (2 * h.used - 1) x (onto t [])
      first none q = (q, refl)
      first (node y k n) q = (q, empty-laid (2 * h.used) s₀ (let a = f.from in let u = f.upto in omega arith) zero)

  -- the root's place is written once or twice
  stored-again : stored_at (ordered m h.used Descendants root) (set list₀ 0 root) 0 ≡ stored_at (ordered m h.used Descendants root) list₀ 0
  unfolding stored_at
  stored-again =
      rw (descendants-tree m h sound root f)
      (ap (λ (l : List ℕ). (sets l 1 (pre (tree_of_lem m h sound root f).tree ++ []), 0 + suc (length (pre (tree_of_lem m h sound root f).tree ++ [])))) (set-set list₀ 0 root root))

  pub finishes : {s list : List ℕ} {place x at : ℕ} → Turning m h.used (ordered m h.used Descendants root) s₀ (set list₀ 0 root) s list place x at → x ≡ 0
      → (s ≡ s₀) × ((list, at) ≡ stored_at (ordered m h.used Descendants root) list₀ 0)
  finishes T z = let e = ends T z in (e.0, e.1 ∙ stored-again)
