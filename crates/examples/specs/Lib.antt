pub mod Cap
pub mod Links
