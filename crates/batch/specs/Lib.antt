pub mod Trace
pub mod Batch
pub mod Performing
pub mod PerformLaws
pub mod BatchLaws
pub mod Answered
