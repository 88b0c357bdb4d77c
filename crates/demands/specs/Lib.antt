-- The user's demands. Demand3: five statements on a program, and that ours meets them, over any list of calls; a call, its answer and a
-- history are in history: Calls, History, Walked.
--   Demand3.never-twice, found_exactly, number-last-stored, met-once, full_exactly; stays-ready, same_length
--   Bites               wrong programs, each with the statement that it fails
--   Batches.performed-calls   a batch is its commands' calls, one after the other
-- Runs: three short runs of our program, for Bites.
pub mod Demand3
pub mod Runs
pub mod Bites
pub mod Batches
