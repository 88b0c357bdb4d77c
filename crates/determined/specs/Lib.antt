-- For each public function: any two outcomes that its statement allows are equal. The statement is cited itself, as the toolchain reads it
-- off the code (`NAME.Reads`), and no copy of it.
--   Outcome.OneOutcome     what that says
--   one-NAME               of the function NAME; a file for each crate of code, in the order of its sources; Face is lift_c
--   one-TYPE_NAME          of a type's own method of a trait (`value`, `after`, `from`)
--   seen-NAME              what is one where the statement leaves something open: docs/EXCEPTIONS.md
--   Refuted.NAME_fails     statements that leave an outcome open are caught
pub mod Outcome
pub mod Refuted
pub mod Link
pub mod Rules
pub mod Examine
pub mod Sound
pub mod Arena
pub mod Moves
pub mod Removal
pub mod Splice
pub mod Walk
pub mod Lists
pub mod Preorder
pub mod Subtree
pub mod Walker
pub mod LittleEndian
pub mod Image
pub mod Command
pub mod Lines
pub mod Batch
pub mod FaceLaws
pub mod Face
pub mod Console
