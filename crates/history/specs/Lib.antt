-- Definitions: Calls (what each call does and answers), History (calls one after the other, and what happened), Walked (all root chains).
-- Theorems, from those of each call:
--   Run.step            every call, as a history sees it, on memory that calls made: Steps.Step
--   Run.good            what then holds after any calls on a fresh arena: Invariant.Good
--   Numbers.get_exactly, Full.creation_exactly, RootChains.walked_once   what demand 3 says of a read, of FULL, of the root chains
-- Below them: identifiers made and gone (Effect), the free chain (FreeSlots), the tree below a node (Descendants), the calls by their
-- kinds (StepLaws, ChangeSteps), one event more (EventLaws), lists one after the other (WalkedLaws).
-- ChangeSteps, Run, RootChains and Full stand in proofs/.
pub mod Calls
pub mod History
pub mod Walked
pub mod EventLaws
pub mod FreeSlots
pub mod Descendants
pub mod Effect
pub mod Steps
pub mod StepLaws
pub mod Invariant
pub mod WalkedLaws
pub mod Numbers
