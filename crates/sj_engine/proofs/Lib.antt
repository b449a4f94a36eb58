mod Answering
mod BeginTurns
mod BoardTurns
mod ClaimTurns
mod DeskTurns
mod Dropping
mod FoundBoards
mod KernelFacts
mod Looking
mod MoveTurns
mod Numbers
mod OperandLists
mod OtherRows
mod OwnRows
mod Passing
mod ResultLists
mod Sleeping
mod Sources
mod StepFacts
mod StepTurns
mod Taken
mod Turning
mod UnitTurns
pub mod Minding
pub mod Outcomes
pub mod Posting
pub mod Seating
pub mod Crossings
