pub mod CallLaws
pub mod CommandLaws
pub mod Demand1
pub mod Demand2
pub mod Refuted
