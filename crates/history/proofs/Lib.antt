pub mod ChangeSteps
pub mod Run
pub mod RootChains
pub mod Full
