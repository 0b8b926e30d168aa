pub mod TasksOf
