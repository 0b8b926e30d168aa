use Rattle.std.proofs.Common.{◌≡◌, ℕ, sym, ◌∙◌}
use Rattle.flow_task.specs.declared.turn.Station.TheVariants.{In}
use Rattle.flow_task.proofs.Spends.{spends_by, where_well}
use Rattle.flow_task.proofs.task.BlockTask.go_on.Goals as goal

ports_same : {p k p' k' : ℕ} → In p k ≡ In p' k' → p ≡ p'
ports_same e = cc

places_same : {p k p' k' : ℕ} → In p k ≡ In p' k' → k ≡ k'
places_same e = cc

pub returns-in-In-clause-still : goal.returns-in-In-clause-still
returns-in-In-clause-still g c =
    where_well c.go_on_in.result
    (λ said some as_many at. said some as_many (ports_same (sym c.in-In.is ∙ at)) (places_same (sym c.in-In.is ∙ at)))
    c.go_on_in.ensures.still

pub returns-in-Out-clause-spends : goal.returns-in-Out-clause-spends
returns-in-Out-clause-spends g c =
    spends_by c.args.policy.now.in_place c.args.left.now c.go_on_out.new.left c.args.self.now.node c.go_on_out.new.self.node
    c.go_on_out.ensures.spends
