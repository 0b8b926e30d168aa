use Rattle.std.proofs.Common.{◌≡◌, ℕ, ◌<◌, Option, Some, None, refl, slice_index_or, vec_len, ap, sym, ◌∙◌, subst, arith}
use Rattle.flow_link.specs.declared.stage.Refusal.TheVariants.{PortEnded}
use Rattle.flow_link.specs.Facts.{facts_in}
use Rattle.flow_link.specs.Planned.{layout_of}
use Rattle.flow_exit.specs.Exit.{ExitState, exit_view}
use Rattle.flow_exit.specs.ExitKeeps.{ExitLaw}
use Rattle.flow_exit.proofs.ExitsKeep.{exits_keep}
use Rattle.flow_task.specs.Exits.{exit_due}
use Rattle.flow_task.specs.Known.{InKnown, in_known}
use Rattle.flow_task.specs.Words.{MayMoveIn, header_of, moved_in}
use Rattle.flow_task.specs.declared.board.Board.{Board}
use Rattle.flow_task.proofs.ExitSteps.{move_knows, move_law, move_may, none_refuses, plain_is_kept, plain_is_own}
use Rattle.flow_task.proofs.Places.{found_low, found_there}
use Rattle.flow_task.proofs.Reasons.{reason_may, reason_moved}
use Rattle.flow_task.proofs.TaskSteps.{in_knows}
use Rattle.flow_task.proofs.numbered.Exit.answer.Goals as goal

pub index-wire-requires : goal.index-wire-requires
index-wire-requires g c =
    let s = c.args.self.now in
    let wires = s.of.value.wires.items in
    let low = found_low wires s.link s.end.table (sym (ap (λ (known : InKnown). known.table) s.knows)) in
    subst (λ (board : Board _). s.link < vec_len board.wires) c.requires.of (omega (arith, low, s.of.value.wires.ok.0))

pub write_target-requires-clause-table : goal.write_target-requires-clause-table
write_target-requires-clause-table g c =
    let s = c.args.self.now in
    let wires = s.of.value.wires.items in
    let wire = c.index-wire.result.now in
    let is = subst (λ (board : Board _). wire ≡ slice_index_or board.wires.items s.link wire) (sym c.requires.of) c.index-wire.ensures in
    sym (is ∙ found_there wires s.link s.end.table wire (sym (ap (λ (known : InKnown). known.table) s.knows)))

pub write_target-requires-clause-own : goal.write_target-requires-clause-own
write_target-requires-clause-own g c = plain_is_own c.args.next c.args.self.now.end.side.view.stage c.requires.plain

pub write_target-requires-clause-kept : goal.write_target-requires-clause-kept
write_target-requires-clause-kept g c = plain_is_kept c.args.next c.requires.plain

pub write_target-requires-clause-may : goal.write_target-requires-clause-may
write_target-requires-clause-may g c =
    let s = c.args.self.now in
    let layout = layout_of s.of.value.rest.plan in
    let wires = s.of.value.wires.items in
    let next = c.args.next in
    let header : c.header_in-header.result ≡ header_of s.exit.stage = c.header_in-header.ensures ∙ ap header_of c.stage.ensures in
    let facts = facts_in layout s.link in
    let view = exit_view s.exit in
    let may = reason_may None PortEnded (header_of s.exit.stage) facts view next (move_may layout wires s.link s.leads s.exit s.law next c.requires.next) in
    subst (λ (known : InKnown). MayMoveIn next c.header_in-header.result (Some PortEnded) known.facts known.view) (sym s.knows)
    (subst (λ (id : Option ℕ). MayMoveIn next id (Some PortEnded) facts view) (sym header) may)

pub answer_at-requires-clause-may : goal.answer_at-requires-clause-may
answer_at-requires-clause-may g c = exits_keep.next c.args.self.now.exit c.args.next c.requires.next

pub invariant_of-self : goal.invariant_of-self
invariant_of-self g c =
    let s = c.args.self.now in
    let layout = layout_of s.of.value.rest.plan in
    let wires = s.of.value.wires.items in
    let next = c.args.next in
    let is = c.answer_at.ensures in
    let facts = facts_in layout s.link in
    let view = exit_view s.exit in
    let may = move_may layout wires s.link s.leads s.exit s.law next c.requires.next in
    let same = reason_moved None PortEnded (header_of s.exit.stage) facts view next may (none_refuses PortEnded None refl) None in
    record {
      there = s.there;
      leads = s.leads;
      law = subst (λ (exit : ExitState). ∥ ExitLaw exit ∥₁) (sym is) (move_law layout wires s.link s.leads s.exit s.law next c.requires.next None);
      knows = move_knows layout wires s.link s.leads s.exit s.law next c.requires.next None
          (λ opened. absurd (let kept = plain_is_kept next c.requires.plain in cc)) (in_known c.write_target.new.end)
          (c.write_target.ensures ∙ ap (λ (known : InKnown). in_knows (moved_in next (Some PortEnded) None known.view) known) s.knows
          ∙ ap (λ view. in_knows view (exit_due layout wires s.link s.exit)) same)
          ∙ ap (exit_due layout wires s.link) (sym is);
      numbered = s.numbered;
    }
