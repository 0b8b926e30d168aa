use Rattle.std.proofs.Common.{◌≡◌, ◌<◌, length, refl, subst, sym, ap, ◌∙◌, arith, get_or, List, [], ◌∷◌, ◌++◌, Option}
use Rattle.std.proofs.lemmas.List.{get_or_default}
use Rattle.flow_value.specs.declared.value.Value.{Value}
use Rattle.flow_link.specs.declared.stage.SourceStage.TheVariants.{Out}
use Rattle.flow_spread.specs.End.{no_end}
use Rattle.flow_spread.specs.Sends.{sends}
use Rattle.flow_link.specs.declared.trace.Mark.TheVariants.{Gave}
use Rattle.flow_spread.specs.Spread.{SpreadState, end_at, link_at, stage_at}
use Rattle.flow_spread.specs.declared.end.CopyEnd.{CopyEnd}
use Rattle.flow_block.specs.Block.{with_copies}
use Rattle.flow_block.specs.Node.{NodeState, marks_copied}
use Rattle.flow_block.specs.Passes.{sends_copy}
use Rattle.flow_block.specs.contracts.node.Node.{the_view}
use Rattle.flow_block.proofs.CopiesSent.{sends_copy_is, due_send_copy}
use Rattle.flow_block.proofs.node.Node.send_copy.Goals as goal

pub push_reserved-requires : goal.push_reserved-requires
push_reserved-requires c =
    let here = subst (λ (node : NodeState). c.args.place < length node.block.copies.ends) (sym c.self.view_is) c.requires.there in
    let out = subst (λ (node : NodeState). stage_at node.block.copies c.args.place ≡ Out node.block.copies.id) (sym c.self.view_is) c.requires.offered in
    omega (arith, c.self.invariant, due_send_copy c.self.inside.block.copies c.args.place here c.self.inside.block refl out)

pub invariant_of-self : goal.invariant_of-self
invariant_of-self c =
    let here = subst (λ (node : NodeState). c.args.place < length node.block.copies.ends) (sym c.self.view_is) c.requires.there in
    let out = subst (λ (node : NodeState). stage_at node.block.copies c.args.place ≡ Out node.block.copies.id) (sym c.self.view_is) c.requires.offered in
    rw c.send_copy-value.ensures.sent
    (omega (
      arith,
      c.self.invariant,
      c.push_reserved.ensures.len,
      c.push_reserved.ensures.capacity,
      due_send_copy c.self.inside.block.copies c.args.place here c.self.inside.block refl out,
    ))

pub returns-clause-sent : goal.returns-clause-sent
returns-clause-sent c =
    let old = the_view c.self.inside in
    let k = c.args.place in
    let here = subst (λ (node : NodeState). k < length node.block.copies.ends) (sym c.self.view_is) c.requires.there in
    let found : get_or c.ends.result.now k c.index-ends-place.result ≡ end_at old.block.copies k =
    ap (λ (ends : List CopyEnd). get_or ends k c.index-ends-place.result)
    (c.ends.ensures ∙ ap (λ (copies : SpreadState). copies.ends) c.copies.ensures)
    ∙ get_or_default old.block.copies.ends k c.index-ends-place.result no_end here in
    rw (c.send_copy-value.ensures.sent, c.push_reserved.ensures.items, c.new.ensures)
    (ap (λ (end : CopyEnd). record old {
      block = with_copies (sends k old.block.copies) old.block;
      journal = old.journal ++ Gave end.link.rule.id c.send_copy-value.result.0 ∷ [];
    }) found
    ∙ ap (λ (element : Option Value). record old {
      block = with_copies (sends k old.block.copies) old.block;
      journal = marks_copied (link_at old.block.copies k).rule.id element old.journal;
    }) (sym c.send_copy-value.ensures.own)
    ∙ sym (sends_copy_is k old.block.copies.id old here)
    ∙ ap (λ (node : NodeState). sends_copy k node.block.copies.id node) c.self.view_is)
