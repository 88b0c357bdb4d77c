pub mod Below
pub mod Children
pub mod SubtreeGone
pub mod NodeGone
pub mod Calls
