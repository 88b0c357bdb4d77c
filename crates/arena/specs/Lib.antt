-- What the calls do to words and header, as definitions; then the laws that the proofs of the code cite.
pub mod Nodes
pub mod FreeList
pub mod Create
pub mod Reads
pub mod Census
pub mod ReadLaws
pub mod FreeListLaws
pub mod CreateLaws
pub mod CensusLaws
pub mod CensusCallLaws
