-- What each call of `arena` keeps and changes, on its models. New, on ready memory that fits its capacity:
--   New.new-ready       ready memory stays ready
--   New.full_exactly    FULL exactly when the free chain is empty and used is the capacity; New.new-refused: then nothing changes
--   New.new-created     else one node more: it was not found and is, with its number; all that was found stays as it was
--   New.new-forest      the forest after it is the old one with one more root chain, of that node
--   New.new-stamp       its stamp is one more than any that the slot had; New.new-times: no other slot was handed out
--   New.new-past        no word beyond the slots used after it is written
--   Order.new-order     FRAME, SCRATCH, INVALID, FULL, in the one order of tests
-- Set, on any memory and header:
--   Set.set_other, Set.set-number            every word but the number of the node named stays
--   Set.set_found, Set.set_view              the same identifiers are found, the same links are read
--   Set.set-sound, Set.set-ready, Set.set-forest   memory is sound, ready, holds a forest exactly as before
--   Set.set-get, Set.set_reads               what reads say afterwards
-- Clear.clear-ready, Clear.clear_none: ready, and nothing found. Census.census_adds: the four numbers add up to the capacity.
pub mod Slots
pub mod Made
pub mod Handouts
pub mod HandoutLaws
pub mod New
pub mod Order
pub mod Set
pub mod Clear
pub mod Census
