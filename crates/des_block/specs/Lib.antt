-- What this crate states: its definitions, by module.
pub mod Tables
pub mod Boxes
pub mod Des
pub mod Triple
pub mod Laws
pub mod TableLaws
pub mod Representation
