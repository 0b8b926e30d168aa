use Rattle.std.proofs.Common.{◌≡◌, ℕ, ◌<◌, Option, None, true, slice_index_or, vec_len, ap, sym, ◌∙◌, subst, arith, rules}
use Rattle.flow_link.specs.declared.phase.Move.TheVariants.{Consume}
use Rattle.flow_link.specs.Facts.{facts_in}
use Rattle.flow_link.specs.Planned.{layout_of}
use Rattle.flow_exit.specs.Exit.{ExitState, exit_view}
use Rattle.flow_exit.specs.ExitKeeps.{ExitLaw}
use Rattle.flow_exit.proofs.ExitsKeep.{exits_keep}
use Rattle.flow_task.specs.Exits.{exit_due}
use Rattle.flow_task.specs.Known.{InKnown, in_known}
use Rattle.flow_task.specs.Words.{MayMoveIn, header_of, moved_in}
use Rattle.flow_task.specs.declared.board.Board.{Board}
use Rattle.flow_task.proofs.ExitSteps.{move_knows, move_law, move_may}
use Rattle.flow_task.proofs.Places.{found_low, found_there}
use Rattle.flow_task.proofs.TaskSteps.{in_knows}
use Rattle.flow_task.proofs.numbered.Exit.consume.Goals as goal

pub index-wire-requires : goal.index-wire-requires
index-wire-requires g c =
    let s = c.args.self.now in
    let wires = s.of.value.wires.items in
    let low = found_low wires s.link s.end.table (sym (ap (λ (known : InKnown). known.table) s.knows)) in
    subst (λ (board : Board _). s.link < vec_len board.wires) c.requires.of (omega (arith, low, s.of.value.wires.ok.0))

pub take_up-won-requires-clause-table : goal.take_up-won-requires-clause-table
take_up-won-requires-clause-table g c =
    let s = c.args.self.now in
    let wires = s.of.value.wires.items in
    let wire = c.index-wire.result.now in
    let is = subst (λ (board : Board _). wire ≡ slice_index_or board.wires.items s.link wire) (sym c.requires.of) c.index-wire.ensures in
    sym (is ∙ found_there wires s.link s.end.table wire (sym (ap (λ (known : InKnown). known.table) s.knows)))

pub take_up-won-requires-clause-may : goal.take_up-won-requires-clause-may
take_up-won-requires-clause-may g c =
    let s = c.args.self.now in
    let layout = layout_of s.of.value.rest.plan in
    let wires = s.of.value.wires.items in
    let header : c.header_in-header.result ≡ header_of s.exit.stage = c.header_in-header.ensures ∙ ap header_of c.stage.ensures in
    let may = move_may layout wires s.link s.leads s.exit s.law Consume c.requires.next in
    subst (λ (known : InKnown). MayMoveIn Consume c.header_in-header.result None known.facts known.view) (sym s.knows)
    (subst (λ (id : Option ℕ). MayMoveIn Consume id None (facts_in layout s.link) (exit_view s.exit)) (sym header) may)

pub consume-requires : goal.consume-requires
consume-requires g c =
    let may = exits_keep.next c.args.self.now.exit Consume c.requires.next in
    record { postponed = may.there; none_kept = may.none_kept }

pub invariant_of-self : goal.invariant_of-self
invariant_of-self g c =
    let s = c.args.self.now in
    let layout = layout_of s.of.value.rest.plan in
    let wires = s.of.value.wires.items in
    let won : c.take_up-won.result ≡ true = search rules in
    let is = c.consume.ensures in
    record {
      there = s.there;
      leads = s.leads;
      law = subst (λ (exit : ExitState). ∥ ExitLaw exit ∥₁) (sym is) (move_law layout wires s.link s.leads s.exit s.law Consume c.requires.next None);
      knows = move_knows layout wires s.link s.leads s.exit s.law Consume c.requires.next None (λ opens. absurd (cc)) (in_known c.take_up-won.new.end)
          (c.take_up-won.ensures.done won ∙ ap (λ (known : InKnown). in_knows (moved_in Consume None None known.view) known) s.knows)
          ∙ ap (exit_due layout wires s.link) (sym is);
      numbered = s.numbered;
    }
