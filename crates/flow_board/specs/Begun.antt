-- What a network was when it was scattered, and what became of its parts since then.
pub use Rattle.flow_task.specs.Begun.{ClosedInputsStay, JournalsExtend, JournalsGoOn, begun_in, begun_input, begun_journal}
