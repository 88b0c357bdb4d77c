-- Document 01's rules of change in one place: F is the forest before the call, F' the one after it, x what the call answered.
-- Excluded: a change that only one of the calls makes right; a rule that the memory before the call does not fix.
use Rattle.std.specs.Prelude.{◌≡◌, List, [], ◌∷◌, ◌++◌, ℕ, length}
use Rattle.link.specs.Words.{capacity_of}
use Rattle.link.specs.Found.{Found}
use Rattle.link.specs.declared.header.Header.{Header}
use Rattle.rules.specs.Sound.{Sound}
use Rattle.rules.specs.Forest.{Key, children, roots, Forest, put, moved, dropped}
use Rattle.rules.specs.Tree.{pre}
use Rattle.forest.specs.Whole.{tree_of_lem}
use Rattle.keeps_moves.specs.Rule.{Detaches, Moves, MakesAt, DetachesChildren}
use Rattle.keeps_moves.specs.Move.{Movable}
use Rattle.command.specs.declared.call.Change.{Change}
use Rattle.command.specs.declared.call.Change.TheVariants.{New, Move, Detach, DetachChildren, Remove, RemoveSubtree, RemoveChildren, Value}

module _ (m : List ℕ) (h : Header) (S : Sound m h) where
  -- All that is below a found node, in preorder.
  abbrev pub below : (x : ℕ) → Found m h.used x → List ℕ
  below x f = pre (tree_of_lem m h S x f).tree

  abbrev pub SlotLeft : Type 0
  SlotLeft = h.first ≡ 0 → h.used ≡ capacity_of (length m) → ⊥

  -- a and b are the call's arguments.
  abbrev pub Rule : Change → ℕ → ℕ → ℕ → Forest → Forest → Type 0
  -- "New makes a chain of one."
  Rule New a b x F F' = (j : ℕ) × (F (roots j) ≡ []) × (F' ≡ put F (roots j) (x ∷ []))
  -- "the moved node, with its subtree, is detached first, and neighbours are read after that"
  Rule (Move place) a b x F F' = Moves place F a b F'
  -- "the node with its subtree becomes a chain of one"
  Rule Detach a b x F F' = (j : ℕ) × Detaches F a j F'
  -- "so does each child"
  Rule DetachChildren a b x F F' = DetachesChildren F a F'
  -- "the children, in order, take the node's place between its neighbours under its parent"; of a parentless node, in its root chain
  Rule Remove a b x F F' =
      (k : Key) × (ls : List ℕ) × (rs : List ℕ) × (F k ≡ ls ++ a ∷ rs) × (F' ≡ moved F k ls (F (children a)) rs (children a))
  -- the node's chain closes, and it is gone with all below it
  Rule RemoveSubtree a b x F F' =
      (f : Found m h.used a) × (k : Key) × (ls : List ℕ) × (rs : List ℕ) × (F k ≡ ls ++ a ∷ rs)
      × (F' ≡ dropped (put F k (ls ++ rs)) (a ∷ below a f) (children a))
  -- "without the node"
  Rule RemoveChildren a b x F F' = (f : Found m h.used a) × (F' ≡ dropped F (below a f) (children a))
  -- the new node, a chain of one, goes to its place
  Rule (Value place) a b x F F' = MakesAt place F a x F'

  -- What a change asks of its identifiers and of the memory, beside ready memory: a slot on the free chain or a fresh one, for a creation; of a
  -- move, two nodes of which the moved one is no ancestor of the target.
  abbrev pub Accepts : Change → ℕ → ℕ → Type 0
  Accepts New a b = SlotLeft
  Accepts (Move place) a b = Movable m h S a b
  Accepts Detach a b = Found m h.used a
  Accepts DetachChildren a b = Found m h.used a
  Accepts Remove a b = Found m h.used a
  Accepts RemoveSubtree a b = Found m h.used a
  Accepts RemoveChildren a b = Found m h.used a
  Accepts (Value place) a b = Found m h.used a × SlotLeft
