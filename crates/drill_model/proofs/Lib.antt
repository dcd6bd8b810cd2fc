mod Growing
mod StackReporting
