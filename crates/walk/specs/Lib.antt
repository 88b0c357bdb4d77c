pub mod Written
pub mod WrittenLaws
pub mod Edges
pub mod Walks
pub mod Runs
pub mod WalkLaws
pub mod RunLaws
pub mod Codes
