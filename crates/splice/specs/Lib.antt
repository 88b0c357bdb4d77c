-- What the changes on ready memory write, as definitions; then that this is what the calls of `moves` and `removal` write.
pub mod Splice
pub mod Hoist
pub mod SpliceLaws
pub mod HoistLaws
pub mod Writes
pub mod Connects
pub mod Around
pub mod Landing
pub mod Taken
pub mod HoistWords
pub mod ReadyLaws
pub mod WorkLaws
