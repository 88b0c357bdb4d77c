-- Demands 1 and 2, as statements on a program over every call of document 01, and theorems that ours meets them.
-- Definitions: Every (the calls, and what each leaves and answers), Refusals (demand 1), Rules and Statements (demand 2)
--   Demand1.from_the_table, batch-from_the_table, refusal-keeps, scratch-holds
--   Demand2.done_exactly, change-right   the changes: accepted exactly where they may be, and the forest after them is the rule's
--   Demand2.set-stores, validator_exact, read_found, list_written, walk-yields-edges, .. , saved_loads, batch-does   the other calls
--   Code.does-NAME, FaceCode.does-NAME   the public functions, and those of the face, do these very calls, by their own statements
--   Refuted.NAME_fails      wrong programs, of each a statement that is false of it
-- The files named Laws have the proofs below them.
-- CallLaws, CommandLaws, Demand1, Demand2 and Refuted stand in proofs/.
pub mod Every
pub mod Refusals
pub mod Rules
pub mod Statements
pub mod Code
pub mod FaceCode
pub mod RefusalLaws
pub mod LoadLaws
pub mod ReadLaws
pub mod ForestLaws
