-- For each linking call: the forest after it is the one that document 01's rule gives, and ready memory stays ready.
--   Rule                        the rules, as edits of chains (definitions)
--   Ancestors.ancestor_exact    the test says yes exactly where the node to move is a proper ancestor of the target
-- The four moves, once over the place:
--   Move.move-self_exact, move-removed_exact, move_ancestor_exact, move-done_exact   each number, exactly
--   Move.moved-forest           the forest after it is the rule's; Move.move-rule: the rule always gives one
--   Move.moved_ready            ready stays ready
--   Stays.stays-done, stays-forest   moving a node to where it stands succeeds and changes no order
-- The four value forms, once over the place:
--   Value.value-done_exact, value_is-move, value-forest, value_ready   a creation, then the move of the new node
-- Detach and detach children:
--   Detach.name-done_exact, detached-forest, detached-ready, children-forest, children-stay-ready
-- What each leaves alone: -header, -length, -kept (stamps and numbers), -past (no word beyond the slots in use).
-- Stays, Value, Detach, PutIn, Moved, and of Move all from `move-rule` on, stand in proofs/.
pub mod Rule
pub mod Ancestors
pub mod Past
pub mod Move
pub mod Singles
pub mod Scatter
