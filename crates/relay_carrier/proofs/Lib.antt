mod Turns
mod Counted
mod FirstFound
mod SoFar
mod Takings
mod Takes
pub mod Prompts
