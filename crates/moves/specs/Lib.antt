-- What the linking calls do to words and header, as definitions; then the laws that the proofs of the code cite.
pub mod Places
pub mod Detach
pub mod Moves
pub mod Values
pub mod LoopLaws
pub mod MoveLaws
pub mod ValueLaws
pub mod Vectors
