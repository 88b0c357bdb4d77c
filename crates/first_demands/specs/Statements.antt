-- Demand 2 in definitions, each a statement on a program: what a change, a set, the validator, a read, a list, a walk, a batch leave and answer.
-- Excluded: what stands above each of them.
use Rattle.std.specs.Prelude.{◌≡◌, ◌↔◌, List, ◌++◌, ℕ, ◌*◌, ◌/◌, ◌≤◌, length, take}
use Rattle.link.specs.Words.{NUMBER, capacity_of, link}
use Rattle.link.specs.Found.{Found}
use Rattle.link.specs.declared.header.Header.{Header}
use Rattle.rules.specs.Answers.{DONE, reply}
use Rattle.rules.specs.Sound.{Sound, Ready}
use Rattle.rules.specs.Forest.{Forest}
use Rattle.rules.specs.Tree.{edges}
use Rattle.forest.specs.Whole.{Forested}
use Rattle.arena.specs.Census.{counted, census_of}
use Rattle.walk.specs.Written.{written}
use Rattle.walk.specs.Walks.{codes, standing}
use Rattle.walk.specs.declared.edge.Edge.TheVariants.{Start}
use Rattle.lists.specs.Orders.{ordered}
use Rattle.lists.specs.Levels.{level_order}
use Rattle.lists.specs.declared.order.Order.{Order}
use Rattle.lists.specs.declared.order.Order.TheVariants.{Descendants}
use Rattle.image.specs.Image.{image_length, image_of, laid}
use Rattle.walks.specs.Orders as orders
use Rattle.walks.specs.Orders.{numbered}
use Rattle.walks.specs.Stepped.{tree_of, edges_of}
use Rattle.command.specs.declared.call.Change.{Change}
use Rattle.batch.specs.Trace.{size}
use Rattle.batch.specs.Batch.{part_of}
use Rattle.history.specs.Calls.{Memory, memory, change, set, read, single, validate, census, counts_live, counts_descendants, list, levels, compare_with, walk, save, replies, counts, writes, number_of, result_of}
use Rattle.history.specs.History.{after}
use Rattle.demands.specs.Batches.{calls_in, told_in}
use Rattle.first_demands.specs.Every.{one, batch, list_of, Program}
use Rattle.first_demands.specs.Rules.{Rule, Accepts}
use Rattle.walk.specs.declared.edge.Step.TheVariants as S

-- The memory and the scratch are long enough for the header, and memory is ready.
pub record Works (w : Memory) : Type 0 where
  pub frame : w.header.used ≤ capacity_of (length w.words)
  pub scratch : 2 * w.header.used ≤ length w.scratch
  pub ready : Ready w.words w.header

module _ (p : Program) where
  -- ---- the changes: new, the moves, the value forms, detach, detach children, remove, remove subtree, remove children

  -- Done exactly where memory is ready and fits, and the change may be made. Excluded: refusing everything; a move of an ancestor that is done.
  abbrev pub DoneExactly : Change → ℕ → ℕ → Memory → Type 0
  DoneExactly c a b w =
      (number_of (p (one (change c a b)) w).1 ≡ DONE) ↔ ((W : Works w) × Accepts w.words w.header W.ready.sound c a b)

  -- What a change that is done leaves. Excluded: memory untouched; the forest of another rule; memory that the next call refuses.
  pub record Right (c : Change) (a b : ℕ) (w : Memory) : Type 0 where
    -- memory was ready
    pub works : Works w
    -- and is ready
    pub ready : Ready (p (one (change c a b)) w).0.words (p (one (change c a b)) w).0.header
    -- every forest that the rule makes of the one before is the one after
    pub forest : (F F' : Forest) → Forested w.words w.header F
        → Rule w.words w.header works.ready.sound c a b (result_of (p (one (change c a b)) w).1) F F'
        → Forested (p (one (change c a b)) w).0.words (p (one (change c a b)) w).0.header F'
    -- and the rule makes one
    pub some : (F : Forest) × (F' : Forest) × Forested w.words w.header F
        × Rule w.words w.header works.ready.sound c a b (result_of (p (one (change c a b)) w).1) F F'

  abbrev pub ChangesRightly : Change → ℕ → ℕ → Memory → Type 0
  ChangesRightly c a b w = number_of (p (one (change c a b)) w).1 ≡ DONE → Right c a b w

  -- Set changes no link: memory holds a forest after it exactly where it did before. Excluded: a set that unlinks the node.
  abbrev pub SetKeepsForest : ℕ → ℕ → Memory → Type 0
  SetKeepsForest x n w =
      (F : Forest) → Forested w.words w.header F ↔ Forested (p (one (set x n)) w).0.words (p (one (set x n)) w).0.header F

  -- On a found node it is done, and get then answers the number. Excluded: a set that is answered and not done.
  abbrev pub SetStores : ℕ → ℕ → Memory → Type 0
  SetStores x n w =
      w.header.used ≤ capacity_of (length w.words) → Found w.words w.header.used x
      → ((p (one (set x n)) w).1 ≡ replies (reply DONE 0)) × ((p (one (read (single NUMBER x))) (p (one (set x n)) w).0).1 ≡ replies (reply DONE n))

  -- ---- the validator

  -- 1 exactly for sound memory that fits. Excluded: yes to everything; a ring that no root leads to, accepted; a removed slot off the chain, refused.
  abbrev pub ValidatorExact : Memory → Type 0
  ValidatorExact w =
      (result_of (p (one (read validate)) w).1 ≡ 1)
      ↔ ((w.header.used ≤ capacity_of (length w.words)) × (2 * w.header.used ≤ length w.scratch) × Sound w.words w.header)

  -- ---- reads, lists, walks

  -- A found node's word as it stands. Excluded: a read through the slot that ignores the stamp; 0 answered for every number.
  abbrev pub ReadFound : ℕ → ℕ → Memory → Type 0
  ReadFound k x w =
      w.header.used ≤ capacity_of (length w.words) → Found w.words w.header.used x
      → (p (one (read (single k x))) w).1 ≡ replies (reply DONE (link w.words x k))

  -- A list is written whole, places past it unchanged. Excluded: a list cut short; a place behind it written.
  abbrev pub ListWritten : Order → ℕ → List ℕ → Memory → Type 0
  ListWritten order x places w =
      Works w → Found w.words w.header.used x
      → let xs = ordered w.words w.header.used order x in length xs ≤ length places
      → (p (one (read (list order x places))) w).1 ≡ writes (written xs places) (reply DONE (length xs))

  abbrev pub LevelsWritten : ℕ → List ℕ → Memory → Type 0
  LevelsWritten x places w =
      Works w → Found w.words w.header.used x
      → let n = length (ordered w.words w.header.used Descendants x) in n ≤ length places
      → let xs = level_order w.words n x in
      (p (one (read (levels x places))) w).1 ≡ writes (written xs places) (reply DONE (length xs))

  -- A walk begun at a found node yields the tree's edges in order, the smaller of the budget and what is left, and reports that count.
  -- Excluded: a made-up edge count; an edge left out or met twice.
  abbrev pub WalkYields : ℕ → ℕ → List ℕ → Memory → Type 0
  WalkYields x k places w =
      (sound : Sound w.words w.header) (f : Found w.words w.header.used x)
      → w.header.used ≤ capacity_of (length w.words) → k ≤ length places
      → let es = take k (edges_of (edges (tree_of w.words w.header sound x f))) in
      let told = (p (one (read (walk (standing x (S.Edge (Start x))) k places))) w).1 in
      (list_of told ≡ written (codes es) places) × (number_of told ≡ DONE) × (result_of told ≡ length es)

  -- ---- counts, the comparison, save

  -- Each slot counted by its stamp. Excluded: a free count that is the length of the free chain.
  abbrev pub CensusIs : Memory → Type 0
  CensusIs w = Works w → (p (one (read census)) w).1 ≡ counts (counted DONE (census_of w.words w.header))

  abbrev pub LiveIs : Memory → Type 0
  LiveIs w = Works w → (p (one (read counts_live)) w).1 ≡ replies (reply DONE (census_of w.words w.header).live)

  -- The nodes of the tree, the node with them. Excluded: the node not counted.
  abbrev pub CountIs : ℕ → Memory → Type 0
  CountIs x w =
      (W : Works w) (f : Found w.words w.header.used x)
      → (p (one (read (counts_descendants x))) w).1 ≡ replies (reply DONE (orders.size (tree_of w.words w.header W.ready.sound x f)))

  -- 1 exactly when the two trees with their numbers are one. Excluded: numbers ignored; one shape taken for another.
  abbrev pub ComparesExactly : ℕ → List ℕ → Header → ℕ → Memory → Type 0
  ComparesExactly x m h y w =
      (W : Works w) (U : Works (memory m h w.scratch)) (f : Found w.words w.header.used x) (g : Found m h.used y)
      → (result_of (p (one (read (compare_with x m h y))) w).1 ≡ 1)
      ↔ (numbered (λ z. link w.words z NUMBER) (tree_of w.words w.header W.ready.sound x f)
      ≡ numbered (λ z. link m z NUMBER) (tree_of m h U.ready.sound y g))

  -- Bytes enough: the image from the first on, the others as they were, and how many it has. Excluded: a byte written past the answer.
  abbrev pub SavesImage : List ℕ → Memory → Type 0
  SavesImage bytes w =
      Works w → image_length w.header.used ≤ length bytes
      → (p (one (read (save bytes))) w).1 ≡ writes (laid (image_of w.words w.header) bytes) (reply DONE (image_length w.header.used))

  -- ---- commands

  -- A batch that is done leaves and answers what its commands, each as its own call, leave and answer. Excluded: a batch that only does its
  -- first command and answers for the rest; one that stops at a refusal.
  abbrev pub BatchDoes : List ℕ → List ℕ → Memory → Type 0
  BatchDoes trace places w =
      let r = p (batch trace places) w in
      let n = length trace / size in
      number_of r.1 ≡ DONE
      → (r.0 ≡ after (λ c. p (one c)) w (calls_in n trace 0)) × (list_of r.1 ≡ written (told_in n trace 0 w ++ part_of (length trace)) places)
