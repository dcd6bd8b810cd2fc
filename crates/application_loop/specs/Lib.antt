-- What this crate states: its definitions, by module.
pub mod Occurring
pub mod Writing
pub mod StackSteps
pub mod LinkGoing
pub mod Standing
pub mod ServingParts
pub mod Staying
pub mod Living
pub mod KeysFetching
pub mod Starting
pub mod Turning
pub mod Telling
