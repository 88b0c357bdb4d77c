-- Theorems about the definitions of `rules`. On words:
--   Whole.sound_forested    sound memory holds a forest
--   Whole.only-children     that forest is the only one: the children of each node,
--   Whole.only-chain        and the chain that each node stands in
--   Whole.no_cycle          sound memory has no cycle
--   Whole.tree_of_lem       the tree below a found node exists, its nodes are found, and none stands in it twice
--   Whole.walk_of           the walk from a found node meets the edges of its tree, in order
--   Found.live-found        a live slot of kind 0 is named by exactly one found identifier
--   Free.free-only          the free chain is the only one
--   DetachWords, PlaceWords a node detached, or put in a place: the forest after it, and ready stays ready
--   Transplant              the models of the siblings range do just that, with fuel for the range
--   Vectors.P6, Vectors.P7  document 01's examples
-- Over views, with `live` for the nodes:
--   Local.tests-sound, Local.sound-tests, Local.sound-ends   sound is: each node passes its tests, and predecessors end
--   follow: Marks.scan_exact   the marking scan says yes exactly when every place comes to none
--   Build.built-holds, HoldSound.holds-sound   sound links hold a forest; a forest without cycles is sound
--   Detach, Insert, Hoist, Grow, Subtree       the forest after each edit is held by the links after it
--   Frees.frees             the freeing loop goes children first, left to right
pub mod Lists
pub mod View
pub mod Free
pub mod Found
pub mod Segments
pub mod Local
pub mod Members
pub mod Places
pub mod Acyclic
pub mod HoldSound
pub mod Only
pub mod Siblings
pub mod Homes
pub mod Build
pub mod Trees
pub mod Walk
pub mod Whole
pub mod Edits
pub mod Detach
pub mod Insert
pub mod Hoist
pub mod Frees
pub mod Looks
pub mod Surgery
pub mod Kept
pub mod After
pub mod Grow
pub mod Subtree
pub mod DetachWords
pub mod PlaceWords
pub mod Bound
pub mod Transplant
pub mod Vectors
