pub mod Told
pub mod WordLaws
pub mod PathLaws
pub mod RuleLaws
pub mod LineLaws
pub mod Items
pub mod Forms
pub mod PlainWords
