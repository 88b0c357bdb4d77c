-- What a reader has to believe: document 01's sound and ready memory, its forest, its rules of change, its orders. No lemma.
pub mod Lists
pub mod Links
pub mod Sound
pub mod Forest
pub mod Tree
pub mod Answers
