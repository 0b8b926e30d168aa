pub mod CallsRun
pub mod ExecutionRuns
pub mod OnlyResult
pub mod OwnResult
