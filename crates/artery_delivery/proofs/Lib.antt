pub mod Histories
pub mod Origins
