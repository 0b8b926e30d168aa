pub mod GoesOn
