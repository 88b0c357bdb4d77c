pub mod PutIn
pub mod Moved
pub mod Move
pub mod Stays
pub mod Singles
pub mod Detach
pub mod Value
