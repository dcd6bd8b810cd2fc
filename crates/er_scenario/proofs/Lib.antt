pub mod KeptLines
pub mod BodyLines
pub mod SaidSteps
pub mod LineTexts
pub mod PrintedArguments
pub mod PrintedSteps
pub mod PrintedChoices
pub mod PrintedTexts
