pub mod Told
pub mod Items
pub mod Formats
pub mod FieldLaws
pub mod ActorLaws
pub mod LineLaws
pub mod Found
