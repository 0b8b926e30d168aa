pub mod DigitsParsed
pub mod PlainFilled
pub mod PlainGrows
pub mod ResultsGrow
pub mod RowsDiffer
pub mod SeenAgain
pub mod WordsGrow
pub mod WrittenOneWay
