pub mod CountsBeginAnywhere
pub mod ExamplesDecided
pub mod FaultsComeInOrder
pub mod KeptAtRest
pub mod KeptInMidMove
pub mod LawfulByTests
pub mod WrongPartsRefused
