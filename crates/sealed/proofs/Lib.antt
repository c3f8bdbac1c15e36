pub mod Depends
pub mod SealedStep
pub mod SealedRun
pub mod TwoRuns
pub mod Mornings
pub mod Tested
pub mod SealedCases
