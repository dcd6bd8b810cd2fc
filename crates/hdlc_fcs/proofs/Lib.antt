pub mod DivisionLaws
pub mod TableLaws
pub mod SlicingLaws
pub mod ContentLaws
