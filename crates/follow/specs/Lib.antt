-- Following a function from place to place until it comes to none, and the marks that make it linear. No tree is spoken of here.
pub mod Point
pub mod Pigeons
pub mod Follow
pub mod Marks
