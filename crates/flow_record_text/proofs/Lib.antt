pub mod LinesRead
pub mod NamesDiffer
pub mod PlacesFound
pub mod PlainLines
pub mod RecordsPost
pub mod RestRead
pub mod RowsRead
