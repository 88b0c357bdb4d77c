pub mod Bytes
pub mod ByteLaws
pub mod RunLaws
pub mod RoundTrip
