-- What removing does to words and header, as definitions; then the laws that the proofs of the code cite.
pub mod Descendants
pub mod Remove
pub mod Freeable
pub mod FreeableLaws
pub mod DescendantLaws
pub mod RemoveLaws
