-- The walk, step by step: from Start of a node it meets the edges of the tree below it, in order, and comes to End of that node.
-- By recursion on the tree that the links hold.
use Rattle.std.specs.Prelude.{◌≡◌, refl, ◌≢◌, List, [], ◌∷◌, ◌++◌, ℕ, zero, suc}
use Rattle.std.proofs.Common.{sym, ap, ◌∙◌}
use Rattle.rules.specs.Links.{par, nxt, fst, View}
use Rattle.rules.specs.Tree.{Tree, none, node, top, Hang, Edge, start_of, end_of, edges, Following, edge, over, when_node, following}
use Rattle.forest.specs.Frees.{not_none}

-- e leads along es to e'
pub data Tour (v : View) : Edge → List Edge → Edge → Type 0 where
  here : {e : Edge} → Tour v e [] e
  on : {e f e' : Edge} {es : List Edge} → following v e ≡ edge f → Tour v f es e' → Tour v e (e ∷ es) e'

tour-then : {v : View} {a b c : Edge} {es fs : List Edge} → Tour v a es b → Tour v b fs c → Tour v a (es ++ fs) c
tour-then here t = t
tour-then (on q s) t = on q (tour-then s t)

node-yes : (x : ℕ) (a b : Following) → x ≢ 0 → when_node x a b ≡ a
node-yes zero a b h = absurd (h refl)
node-yes (suc x) a b h = refl

-- ---- one step

start_none : (v : View) (x : ℕ) → v fst x ≡ 0 → following v (start_of x) ≡ edge (end_of x)
start_none v x e = ap (λ (z : ℕ). when_node z (edge (start_of (v fst x))) (edge (end_of x))) e

start-child : (v : View) (x y : ℕ) → v fst x ≡ y → y ≢ 0 → following v (start_of x) ≡ edge (start_of y)
start-child v x y e h = node-yes (v fst x) _ _ (λ q. h (sym e ∙ q)) ∙ ap (λ (z : ℕ). edge (start_of z)) e

end-next : (v : View) (x y : ℕ) → v nxt x ≡ y → y ≢ 0 → following v (end_of x) ≡ edge (start_of y)
end-next v x y e h = node-yes (v nxt x) _ _ (λ q. h (sym e ∙ q)) ∙ ap (λ (z : ℕ). edge (start_of z)) e

end-parent : (v : View) (x o : ℕ) → v nxt x ≡ 0 → v par x ≡ o → o ≢ 0 → following v (end_of x) ≡ edge (end_of o)
end-parent v x o e up h =
    ap (λ (z : ℕ). when_node z (edge (start_of (v nxt x))) (when_node (v par x) (edge (end_of (v par x))) over)) e
    ∙ node-yes (v par x) _ _ (λ q. h (sym up ∙ q)) ∙ ap (λ (z : ℕ). edge (end_of z)) up

-- ---- from the start of a tree under o: its edges, then End of o

module _ (v : View) (o x : ℕ) (oz : o ≢ 0) (up : v par x ≡ o) where
  tail : (b : Tree) → v nxt x ≡ top b → Hang v o b → (b ≢ none → Tour v (start_of (top b)) (edges b) (end_of o))
      → Tour v (end_of x) (end_of x ∷ edges b) (end_of o)
  tail none e w ih = on (end-parent v x o e up oz) here
  tail (node y a b) e w ih = on (end-next v x y e w.0) (ih (not_none y a b))

  kids : (n : Tree) → Tour v (end_of x) (end_of x ∷ edges n) (end_of o) → (b : Tree) → v fst x ≡ top b → Hang v x b
      → (b ≢ none → Tour v (start_of (top b)) (edges b) (end_of x)) → Tour v (start_of x) (start_of x ∷ (edges b ++ (end_of x ∷ edges n))) (end_of o)
  kids n t none e w ih = on (start_none v x e) t
  kids n t (node y a b) e w ih = on (start-child v x y e w.0) (tour-then (ih (not_none y a b)) t)

tour : (v : View) (o : ℕ) (t : Tree) → o ≢ 0 → Hang v o t → t ≢ none → Tour v (start_of (top t)) (edges t) (end_of o)
tour v o none oz s h = absurd (h refl)
tour v o (node x k n) oz s h =
    kids v o x oz s.1 n (tail v o x oz s.1 n s.2 s.5 (tour v o n oz s.5)) k s.3 s.4 (tour v x k s.0 s.4)

-- the walk of x: Start, what is below, and then End
pub walk : (v : View) (x : ℕ) (t : Tree) → x ≢ 0 → v fst x ≡ top t → Hang v x t → Tour v (start_of x) (start_of x ∷ edges t) (end_of x)
walk v x none h e s = on (start_none v x e) here
walk v x (node y k n) h e s = on (start-child v x y e s.0) (tour v x (node y k n) h s (not_none y k n))
