pub mod Composes
pub mod Endings
pub mod Law
pub mod Lawful
pub mod Quiet
pub mod RestsByParts
pub mod Shape
