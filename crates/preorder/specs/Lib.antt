-- Theorems: TurnLaws.begins, turns, finishes: the loop over a stack writes the definition's list and leaves scratch as it was.
pub mod Stack
pub mod Pending
pub mod StackLaws
pub mod TurnLaws
