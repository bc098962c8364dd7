pub mod VisitNoted
mod ExitTips
mod ExitReading
mod Regrouped
pub mod PathSums
mod UpperMarks
mod LowerMarks
mod PathSteps
mod MarkFacts
pub mod DeathStems
mod DeathCache
