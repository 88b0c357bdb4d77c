pub mod Guard
pub mod GuardLaws
pub mod GuardedLaws
