-- Theorems on sound memory, each for a node that is found; `Stepped.tree_of` is its tree (`forest`), `Orders` what is listed of a tree:
--   Trails.divided-whole    on any memory: any division into budgets is the walk with their sum
--   Coded.coded-walk        a walk continued from its two numbers, as callers from outside hold it, goes on as it would have
--   Stepped.walk-yields     which yields the tree's edges, in order, as far as the budgets go,
--   Stepped.walk_ends       and is over once they reach the number of edges
--   Stepped.walk-once       each node starts once, in preorder, and ends once, in postorder
--   Preorder.descendants-tree, count-tree, leaves-tree    the tree in preorder, the number of its nodes, its leaves
--   Breadth.breadth-tree, breadth-length                  level order: its rows from the top down, as many as there are places asked for
--   Chains.ancestors-up, predecessors-up                  parents, or predecessors, up to none
--   Chains.children-chain, following-chain, preceding-chain   the chains of the forest that memory holds
--   Equal.compared_exact    subtree_eq: 1 exactly when the trees with their numbers are one
pub mod Orders
pub mod Trails
pub mod Coded
pub mod Stepped
pub mod Steps
pub mod Preorder
pub mod Chains
pub mod Equal
pub mod Rows
pub mod Breadth
