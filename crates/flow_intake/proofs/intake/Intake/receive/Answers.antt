use Rattle.std.proofs.Common.{◌≡◌, None, refl, ◌∙◌, sym}
use Rattle.flow_intake.specs.Port.{hand_in}
use Rattle.flow_intake.proofs.ReceivesAtOnce.{received}
use Rattle.flow_intake.proofs.intake.Intake.receive.Goals as goal

pub returns-clause-received : goal.returns-clause-received
returns-clause-received c = λ i.
    let value = c.into_parts-value.result.1 in
    let parts = c.into_parts-value.ensures in
    let same : c.into_parts-value.result.0 ≡ value = parts.first ∙ sym parts.second in
    let none : hand_in c.args.place c.args.self.now.ends ≡ None =
    rw (← c.self.view_is) (c.if-prove.ensures.hand refl) in
    let now = received c.args.place i value c.args.self.now c.requires.place c.requires.takes none in
    rw (now, ← c.self.view_is, c.push_back_reserved.ensures.items, same, c.with_one_more-self-inside.ensures) refl
