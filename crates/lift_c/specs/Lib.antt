pub mod Face
pub mod FaceLaws
pub mod State
pub mod StateLaws
