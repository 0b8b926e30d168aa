use Rattle.std.proofs.Common.{◌≡◌, ℕ, ◌<◌, Option, Some, None, refl, slice_index_or, vec_len, ap, sym, ◌∙◌, subst, arith}
use Rattle.flow_link.specs.declared.phase.Move.TheVariants.{Open}
use Rattle.flow_link.specs.Facts.{facts_in}
use Rattle.flow_link.specs.Planned.{layout_of}
use Rattle.flow_exit.specs.Exit.{ExitState, exit_view}
use Rattle.flow_exit.specs.ExitKeeps.{ExitLaw}
use Rattle.flow_exit.proofs.ExitsKeep.{exits_keep}
use Rattle.flow_task.specs.Exits.{exit_due}
use Rattle.flow_task.specs.Known.{InKnown, in_known}
use Rattle.flow_task.specs.Words.{MayMoveIn, header_of, opened_so}
use Rattle.flow_task.specs.declared.board.Board.{Board}
use Rattle.flow_task.proofs.ExitSteps.{move_knows, move_law, move_may}
use Rattle.flow_task.proofs.Places.{found_low, found_there}
use Rattle.flow_task.proofs.TaskSteps.{in_knows}
use Rattle.flow_task.proofs.numbered.Exit.open.Goals as goal

pub index-wire-requires : goal.index-wire-requires
index-wire-requires g c =
    let s = c.args.self.now in
    let wires = s.of.value.wires.items in
    let low = found_low wires s.link s.end.table (sym (ap (λ (known : InKnown). known.table) s.knows)) in
    subst (λ (board : Board _). s.link < vec_len board.wires) c.requires.of (omega (arith, low, s.of.value.wires.ok.0))

pub open-parcel-requires-clause-table : goal.open-parcel-requires-clause-table
open-parcel-requires-clause-table g c =
    let s = c.args.self.now in
    let wires = s.of.value.wires.items in
    let wire = c.index-wire.result.now in
    let is = subst (λ (board : Board _). wire ≡ slice_index_or board.wires.items s.link wire) (sym c.requires.of) c.index-wire.ensures in
    sym (is ∙ found_there wires s.link s.end.table wire (sym (ap (λ (known : InKnown). known.table) s.knows)))

pub open-parcel-requires-clause-may : goal.open-parcel-requires-clause-may
open-parcel-requires-clause-may g c =
    let s = c.args.self.now in
    let layout = layout_of s.of.value.rest.plan in
    let wires = s.of.value.wires.items in
    let header : c.header_in-header.result ≡ header_of s.exit.stage = c.header_in-header.ensures ∙ ap header_of c.stage.ensures in
    let may = move_may layout wires s.link s.leads s.exit s.law Open c.requires.next in
    subst (λ (known : InKnown). MayMoveIn Open c.header_in-header.result None known.facts known.view) (sym s.knows)
    (subst (λ (id : Option ℕ). MayMoveIn Open id None (facts_in layout s.link) (exit_view s.exit)) (sym header) may)

pub open-requires : goal.open-requires
open-requires g c = record { arrived = exits_keep.next c.args.self.now.exit Open c.requires.next c.open-parcel.result }

pub invariant_of-self : goal.invariant_of-self
invariant_of-self g c =
    let s = c.args.self.now in
    let layout = layout_of s.of.value.rest.plan in
    let wires = s.of.value.wires.items in
    let found = Some c.open-parcel.result in
    let is = c.open.ensures in
    record {
      there = s.there;
      leads = s.leads;
      law = subst (λ (exit : ExitState). ∥ ExitLaw exit ∥₁) (sym is) (move_law layout wires s.link s.leads s.exit s.law Open c.requires.next found);
      knows = move_knows layout wires s.link s.leads s.exit s.law Open c.requires.next found (λ opens. refl) (in_known c.open-parcel.new.end)
          (c.open-parcel.ensures ∙ ap (λ (known : InKnown). in_knows (opened_so found known.view) known) s.knows)
          ∙ ap (exit_due layout wires s.link) (sym is);
      numbered = s.numbered;
    }
