-- Demand 2: "The forest after each call is the one 01's rules give, and the validator says yes exactly for 01's sound memory. Saving and loading
-- give back the same tree." For each call of document 01, of the memory that it leaves and of what it answers.
use Rattle.std.specs.Prelude.{◌≡◌, ◌↔◌, List, [], ◌∷◌, ◌++◌, ℕ, ◌+◌, ◌*◌, ◌/◌, ◌≤◌, length, take}
use Rattle.std.proofs.Common.{sym, ap, subst, ◌∙◌}
use Rattle.link.specs.Words.{NUMBER, width, capacity_of, link}
use Rattle.link.specs.Found.{Found}
use Rattle.link.specs.declared.header.Header.{Header}
use Rattle.rules.specs.Answers.{DONE, reply, answer}
use Rattle.rules.specs.Links.{par, view}
use Rattle.rules.specs.Sound.{Sound, Ready}
use Rattle.rules.specs.Forest.{Key, children, Forest}
use Rattle.rules.specs.Tree.{pre, post, edges}
use Rattle.rules.specs.declared.answer.Answer.{Answer}
use Rattle.rules.specs.declared.answer.Reply.{Reply}
use Rattle.follow.specs.Follow.{EndsIn, path}
use Rattle.forest.specs.Local.{pred}
use Rattle.forest.specs.Whole.{Forested, tree_of_lem}
use Rattle.examine.specs.Scratch.{zeroed}
use Rattle.sound.specs.Guard.{guard_no}
use Rattle.sound.specs.GuardLaws.{guard-ready, validated-sound}
use Rattle.arena.specs.Census.{Counted, census_of}
use Rattle.keeps.specs.Set.{set-forest}
use Rattle.keeps.specs.Census.{census_adds}
use Rattle.removal.specs.Remove.{remove_node, remove_subtree, remove_children}
use Rattle.removed.specs.Gone.{Removes}
use Rattle.removed.proofs.Calls.{node-goes, subtree-goes, children-go}
use Rattle.walk.specs.Written.{written}
use Rattle.walk.specs.Walks.{Walked, codes}
use Rattle.walk.specs.declared.edge.Edge.{Edge}
use Rattle.walk.specs.declared.edge.Edge.TheVariants.{Start}
use Rattle.lists.specs.Orders.{ordered}
use Rattle.lists.specs.Levels.{level_order}
use Rattle.lists.specs.Listing.{counted}
use Rattle.lists.specs.declared.order.Order.{Order}
use Rattle.lists.specs.declared.order.Order.TheVariants.{Descendants, Leaves, Ancestors, Children, FollowingSiblings, PrecedingSiblings, Predecessors}
use Rattle.walks.specs.Orders.{leaves, size, numbered, reversed}
use Rattle.walks.specs.Trails.{divided, sum, trail-takes}
use Rattle.walks.specs.Stepped.{tree_of, edges_of, walk-trail, walk-yields, walk_ends}
use Rattle.walks.specs.Preorder.{descendants-tree, count-tree, leaves-tree}
use Rattle.walks.specs.Breadth.{breadth-tree}
use Rattle.walks.specs.Chains.{ancestors-up, predecessors-up, children-chain, following-chain, preceding-chain}
use Rattle.walks.specs.Equal.{compared_exact}
use Rattle.little_endian.specs.RoundTrip.{Fit}
use Rattle.image.specs.Image.{image_of, laid, words_in, header_in}
use Rattle.image.specs.Save.{saved}
use Rattle.image.specs.Load.{loaded}
use Rattle.image.specs.LoadLaws.{Passed}
use Rattle.imaged.specs.Within.{save-writes}
use Rattle.imaged.specs.Back.{save-load, load_same, load_tree}
use Rattle.imaged.specs.Accepted.{load_accepts, load-ready}
use Rattle.command.specs.Commands.{changed}
use Rattle.command.specs.declared.call.Change.{Change}
use Rattle.batch.specs.Batch.{After, part_of}
use Rattle.history.specs.Calls.{Memory, memory, replies, counts, writes}
use Rattle.demands.specs.Batches.{performed-calls}
use Rattle.first_demands.specs.Every.{done}
use Rattle.first_demands.specs.Rules.{Rule}
use Rattle.first_demands.specs.Statements.{Works, DoneExactly, ChangesRightly, SetKeepsForest, SetStores, CensusIs, LiveIs, CountIs, ComparesExactly, SavesImage, ValidatorExact, ReadFound, ListWritten, LevelsWritten, WalkYields, BatchDoes}
use Rattle.first_demands.specs.ForestLaws.{guard_passed, guard-done, work-ready, work-forest, work-rule, work_exactly}
use Rattle.first_demands.specs.ReadLaws.{passed-read, set-done, census-done, live-done, count-done, compare-done, read_done, list_done, levels-done, walk-done, batch-done}
use Rattle.walk.specs.declared.edge.Step.TheVariants as S
use Rattle.walks.specs.Orders as orders
use Rattle.batch.specs.Trace as trace

-- ---- the changes

pub done_exactly : (c : Change) (a b : ℕ) (w : Memory) → DoneExactly done c a b w
done_exactly c a b w = (
  λ d.
      let (g, e) = guard_passed w.words w.header w.scratch (changed c a b w.words w.header) d in
      let (f, s, R) = (guard-ready w.words w.header (length w.scratch)).0 g in
      (record { frame = f; scratch = s; ready = R }, (work_exactly w.words w.header f R c a b).0 (sym (ap (λ (r : List ℕ × List ℕ × Answer). r.2.number) e) ∙ d)),
  λ (W, ok).
      let g = (guard-ready w.words w.header (length w.scratch)).1 (W.frame, W.scratch, W.ready) in
      ap (λ (r : List ℕ × List ℕ × Answer). r.2.number) (guard-done w.words w.header w.scratch (changed c a b w.words w.header) g)
      ∙ (work_exactly w.words w.header W.frame W.ready c a b).1 ok,
)

pub change-right : (c : Change) (a b : ℕ) (w : Memory) → ChangesRightly done c a b w
change-right c a b w d =
    let m = w.words in
    let h = w.header in
    let (g, e) = guard_passed m h w.scratch (changed c a b m h) d in
    let (f, s, R) = (guard-ready m h (length w.scratch)).0 g in
    let n : (changed c a b m h).1.number ≡ DONE = sym (ap (λ (r : List ℕ × List ℕ × Answer). r.2.number) e) ∙ d in
    record {
      works = record { frame = f; scratch = s; ready = R };
      ready = subst (λ (r : List ℕ × List ℕ × Answer). Ready r.0 r.2.header) (sym e) (work-ready m h f R c a b n);
      forest = subst
          (λ (r : List ℕ × List ℕ × Answer). (F F' : Forest) → Forested m h F → Rule m h R.sound c a b r.2.result F F' → Forested r.0 r.2.header F')
          (sym e) (work-forest m h f R c a b n);
      some = subst
          (λ (r : List ℕ × List ℕ × Answer). (F : Forest) × (F' : Forest) × Forested m h F × Rule m h R.sound c a b r.2.result F F')
          (sym e) (work-rule m h f R c a b n);
    }

pub set-keeps-forest : (x n : ℕ) (w : Memory) → SetKeepsForest done x n w
set-keeps-forest x n w F = set-forest w.words w.header x n F

pub set-stores : (x n : ℕ) (w : Memory) → SetStores done x n w
set-stores x n w fits f =
    let e = set-done w.words w.header x n fits f in
    (ap replies e.0, ap replies e.1)

-- What is gone after a removal, in what order its slots join the free chain, and that memory is ready: of the node alone,
-- of all below it and the node, of all below it. Excluded: a parent freed before its child; another node lost.
module _ (m : List ℕ) (h : Header) (room : h.used * width ≤ length m) (R : Ready m h) (x : ℕ) (f : Found m h.used x) where
  pub remove-takes : Removes m h R (x ∷ []) (remove_node m h x)
  remove-takes = node-goes m h room R x f

  pub remove_subtree-takes : Removes m h R (post (tree_of_lem m h R.sound x f).tree ++ x ∷ []) (remove_subtree m h x)
  remove_subtree-takes = subtree-goes m h room R x f

  pub remove_children-takes : Removes m h R (post (tree_of_lem m h R.sound x f).tree) (remove_children m h x)
  remove_children-takes = children-go m h room R x f

-- ---- the validator

pub validator_exact : (w : Memory) → ValidatorExact done w
validator_exact w = validated-sound w.words w.header w.scratch

-- ---- reads and lists

pub read_found : (k x : ℕ) (w : Memory) → ReadFound done k x w
read_found k x w fits f = ap replies (read_done w.words w.header k x fits f)

guarded_by : (w : Memory) → Works w → guard_no w.words w.header (length w.scratch) ≡ DONE
guarded_by w W = (guard-ready w.words w.header (length w.scratch)).1 (W.frame, W.scratch, W.ready)

pub list_written : (order : Order) (x : ℕ) (places : List ℕ) (w : Memory) → ListWritten done order x places w
list_written order x places w W f room =
    ap (λ (r : List ℕ × List ℕ × Reply). writes r.1 r.2) (list_done w.words w.header w.scratch order x places (guarded_by w W) f room)

pub levels-written : (x : ℕ) (places : List ℕ) (w : Memory) → LevelsWritten done x places w
levels-written x places w W f room =
    ap (λ (r : List ℕ × List ℕ × Reply). writes r.1 r.2) (levels-done w.words w.header w.scratch x places (guarded_by w W) f room)

-- What each list is. Excluded: leaves with inner nodes; a row before the one above it; siblings in another order.
module _ (m : List ℕ) (h : Header) (sound : Sound m h) (x : ℕ) (f : Found m h.used x) where
  -- the tree in preorder
  pub descendants_are : ordered m h.used Descendants x ≡ pre (tree_of m h sound x f)
  descendants_are = descendants-tree m h sound x f

  pub count_is : length (ordered m h.used Descendants x) ≡ size (tree_of m h sound x f)
  count_is = count-tree m h sound x f

  pub leaves_are : ordered m h.used Leaves x ≡ leaves (tree_of m h sound x f)
  leaves_are = leaves-tree m h sound x f

  -- its rows from the top down
  pub levels_are : level_order m (length (ordered m h.used Descendants x)) x ≡ orders.levels (size (tree_of m h sound x f)) (tree_of m h sound x f ∷ [])
  levels_are = breadth-tree m h sound x f

  -- the node, its parent, and so on to none
  pub ancestors_are : (n : ℕ) × EndsIn (view m par) n x × (ordered m h.used Ancestors x ≡ path (view m par) n x)
  ancestors_are = ancestors-up m h sound x f

  -- previous sibling, else parent
  pub predecessors_are : (n : ℕ) × EndsIn (pred (view m)) n x × (ordered m h.used Predecessors x ≡ path (pred (view m)) n x)
  predecessors_are = predecessors-up m h sound x f

module _ (m : List ℕ) (h : Header) (F : Forest) (H : Forested m h F) where
  pub children_are : (x : ℕ) → Found m h.used x → ordered m h.used Children x ≡ F (children x)
  children_are = children-chain m h F H

  pub following_are : (x : ℕ) (k : Key) (ls rs : List ℕ) → F k ≡ ls ++ x ∷ rs → ordered m h.used FollowingSiblings x ≡ x ∷ rs
  following_are = following-chain m h F H

  pub preceding_are : (x : ℕ) (k : Key) (ls rs : List ℕ) → F k ≡ ls ++ x ∷ rs → ordered m h.used PrecedingSiblings x ≡ x ∷ reversed ls
  preceding_are = preceding-chain m h F H

-- ---- the walk

pub walk-yields-edges : (x k : ℕ) (places : List ℕ) (w : Memory) → WalkYields done x k places w
walk-yields-edges x k places w sound f fits room =
    let e = walk-done w.words w.header x k places fits room in
    let t = trail-takes w.words w.header.used x k (walk-trail w.words w.header sound x f) in (
      ap (λ (r : List ℕ × Walked). r.0) e ∙ ap (λ (es : List Edge). written (codes es) places) t,
      ap (λ (r : List ℕ × Walked). r.1.number) e,
      ap (λ (r : List ℕ × Walked). r.1.result) e ∙ ap length t,
    )

-- In any division into budgets; and it is over once they reach the number of edges.
pub walk-divided : (m : List ℕ) (h : Header) (sound : Sound m h) (x : ℕ) (f : Found m h.used x) (ks : List ℕ)
    → ((divided ks m h.used x (S.Edge (Start x))).0 ≡ take (sum ks) (edges_of (edges (tree_of m h sound x f))))
    × (length (edges_of (edges (tree_of m h sound x f))) ≤ sum ks → (divided ks m h.used x (S.Edge (Start x))).1 ≡ S.Over)
walk-divided m h sound x f ks = (walk-yields m h sound x f ks, walk_ends m h sound x f ks)

-- ---- counts, the comparison

pub census_is : (w : Memory) → CensusIs done w
census_is w W = ap (λ (r : List ℕ × Counted). counts r.1) (census-done w.words w.header w.scratch (guarded_by w W))

pub live_is : (w : Memory) → LiveIs done w
live_is w W = ap (λ (r : List ℕ × Reply). replies r.1) (live-done w.words w.header w.scratch (guarded_by w W))

-- The census's four numbers add up to the capacity.
pub census_sums : (m : List ℕ) (h : Header) → h.used ≤ capacity_of (length m)
    → (census_of m h).live + (census_of m h).free + (census_of m h).spent + (census_of m h).fresh ≡ capacity_of (length m)
census_sums = census_adds

pub descendant_count_is : (x : ℕ) (w : Memory) → CountIs done x w
descendant_count_is x w W f =
    ap (λ (r : List ℕ × Reply). replies r.1) (passed-read w.words w.header w.scratch (guarded_by w W) (counted w.words w.header.used x))
    ∙ ap replies (count-done w.words w.header.used x f ∙ ap (reply DONE) (count-tree w.words w.header W.ready.sound x f))

pub compares_exactly : (x : ℕ) (m : List ℕ) (h : Header) (y : ℕ) (w : Memory) → ComparesExactly done x m h y w
compares_exactly x m h y w W U f g =
    subst
    (λ (r : Reply). (r.result ≡ 1) ↔ (numbered (λ z. link w.words z NUMBER) (tree_of w.words w.header W.ready.sound x f) ≡ numbered (λ z. link m z NUMBER) (tree_of m h U.ready.sound y g)))
    (sym (compare-done w.words w.header x m h y w.scratch W.frame W.scratch (guarded_by w W) (guarded_by (memory m h w.scratch) U)))
    (compared_exact w.words w.header W.ready.sound x f m h U.ready.sound y g)

-- ---- save and load

pub saves_image : (bytes : List ℕ) (w : Memory) → SavesImage done bytes w
saves_image bytes w W room =
    ap (λ (r : List ℕ × List ℕ × Reply). writes r.1 r.2)
    (save-writes w.words w.header w.scratch bytes (record { frame = W.frame; scratch-room = W.scratch; ready = W.ready; room = room }))

-- What was saved loads as the same header, the same words of the slots in use, and so the same forest. Excluded: an image that loses a node.
pub saved_loads : (m : List ℕ) (h : Header) (scratch bytes words scratch' : List ℕ) → Fit 4 m → (saved m h scratch bytes).2.number ≡ DONE
    → h.used ≤ capacity_of (length words) → 2 * h.used ≤ length scratch'
    → let image = take (saved m h scratch bytes).2.result (saved m h scratch bytes).1 in
    loaded image words scratch' ≡ (laid (take (width * h.used) m) words, zeroed (2 * h.used) scratch', answer h DONE 0)
saved_loads = save-load

-- Over the memory it came from, memory comes back unchanged.
pub loads-same : (m : List ℕ) (h : Header) → Ready m h → h.used ≤ capacity_of (length m) → Fit 4 m → (scratch : List ℕ) → 2 * h.used ≤ length scratch
    → loaded (image_of m h) m scratch ≡ (m, zeroed (2 * h.used) scratch, answer h DONE 0)
loads-same m h R frame fit = load_same m h R frame fit

pub loads-tree : (m : List ℕ) (h : Header) → Ready m h → h.used ≤ capacity_of (length m) → Fit 4 m → (words : List ℕ) (F : Forest)
    → Forested m h F → Forested (laid (take (width * h.used) m) words) h F
loads-tree m h R frame fit = load_tree m h R frame fit

-- Load accepts exactly whole images of version 1 that fit and are sound, and what it accepts is ready.
pub loads_exactly : (bytes words scratch : List ℕ)
    → ((loaded bytes words scratch).2.number ≡ DONE) ↔ (Passed bytes (length words) (length scratch) × Sound (words_in bytes) (header_in bytes))
loads_exactly = load_accepts

pub loads-ready : (bytes words scratch : List ℕ) → (loaded bytes words scratch).2.number ≡ DONE
    → Ready (loaded bytes words scratch).0 (loaded bytes words scratch).2.header
loads-ready = load-ready

-- ---- commands

pub batch-does : (bytes places : List ℕ) (w : Memory) → BatchDoes done bytes places w
batch-does bytes places w d =
    let e = batch-done bytes places w d in
    let t = performed-calls (length bytes / trace.size) bytes 0 w in (
      ap (λ (r : List ℕ × List ℕ × List ℕ × Answer). memory r.0 r.3.header r.1) e ∙ ap (λ (a : After). memory a.words a.header a.scratch) t,
      ap (λ (r : List ℕ × List ℕ × List ℕ × Answer). r.2) e ∙ ap (λ (a : After). written (a.answers ++ part_of (length bytes)) places) t,
    )
