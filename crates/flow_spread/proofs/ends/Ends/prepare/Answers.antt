use Rattle.std.proofs.Common.{◌<◌, ◌∙◌, length, refl}
use Rattle.std.proofs.lemmas.List.{get_or_read}
use Rattle.flow_spread.specs.End.{no_end}
use Rattle.flow_spread.proofs.CountsOfEnds.{counts_same}
use Rattle.flow_spread.proofs.ends.Ends.prepare.Goals as goal

pub invariant_of-self : goal.invariant_of-self
invariant_of-self c =
    let ends = c.self.inside.ends.items in
    let here : c.args.place < length ends = rw (← c.self.view_is) at c.requires in
    let was = get_or_read ends c.args.place c.index_mut.result.now here c.index_mut.ensures.value no_end in
    let all = counts_same ends c.args.place here c.index_mut.result.now was c.put_share.new.self
    (rw c.put_share.ensures refl) (rw c.put_share.ensures refl) in
    (c.self.invariant.0 ∙ all.0, c.self.invariant.1 ∙ all.1, c.self.invariant.2 ∙ all.2, c.self.invariant.3 ∙ all.3)
