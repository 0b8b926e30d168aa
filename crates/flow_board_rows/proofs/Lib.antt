pub mod PartsOf
pub mod SentBack
pub mod TasksAt
