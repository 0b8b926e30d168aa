pub mod DigitsAlone
pub mod ReportBehindCut
