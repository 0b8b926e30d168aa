use Rattle.std.proofs.Common.{sym, ◌∙◌, Err}
use Rattle.flow_task.proofs.InputTells.{next_goes}
use Rattle.std.proofs.lemmas.Grind.{merely}
use Rattle.std.proofs.lemmas.Result.{err_from_is_err_and}
use Rattle.flow_task.specs.Events.{InputHappens, InputLooks}
use Rattle.flow_task.proofs.TurnsHappen.{stays, stays_so, steps_so}
use Rattle.flow_task.proofs.input_task.InputTask.step.Goals as goal

pub go-requires-clause-next : goal.go-requires-clause-next
go-requires-clause-next g c = (next_goes c.args.self.now.input c.in-Some.next (sym c.next_move.ensures ∙ c.in-Some.is)).peek_is

pub go-requires-clause-id : goal.go-requires-clause-id
go-requires-clause-id g c = (next_goes c.args.self.now.input c.in-Some.next (sym c.next_move.ensures ∙ c.in-Some.is)).id

pub returns-in_err-go-in-Some-clause-steps : goal.returns-in_err-go-in-Some-clause-steps
returns-in_err-go-in-Some-clause-steps g c =
    let first = c.args.self.now.input in
    let new = c.go.new.self.input in
    let failed = err_from_is_err_and c.from_residual.result c.from_residual.ensures.1 in
    steps_so InputLooks InputHappens (Err failed.0) c.from_residual.result first new (sym failed.1)
    (merely (stays_so InputLooks first new c.in_err-go-in-Some.ensures.kept))

pub returns-in_ok-go-in-Some-clause-steps : goal.returns-in_ok-go-in-Some-clause-steps
returns-in_ok-go-in-Some-clause-steps g c =
    let first = c.args.self.now.input in
    let next = next_goes first c.in-Some.next (sym c.next_move.ensures ∙ c.in-Some.is) in
    merely (first, (stays InputLooks first, record { next = c.in-Some.next; comes = next.peek_is; id = next.id; leaves = c.in_ok-go-in-Some.ensures.done }))

pub returns-in-None-clause-steps : goal.returns-in-None-clause-steps
returns-in-None-clause-steps g c = merely (stays InputLooks c.args.self.now.input)
