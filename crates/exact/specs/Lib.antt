-- The examination says yes exactly for sound memory: the tests of a node, then each pass, then all three.
pub mod Kin
pub mod FirstPass
pub mod Climbs
pub mod Chain
pub mod Exact
