use Rattle.std.proofs.Common.{ℕ, ◌-◌, ◌<◌, false, Ok, ap, ap₂, sym, subst, arith}
use Rattle.flow_link.specs.Planned.{layout_of}
use Rattle.flow_exec.specs.Works.{works_of}
use Rattle.flow_task.specs.declared.board.Board.{Board}
use Rattle.std.proofs.lemmas.Grind.{merely}
use Rattle.flow_link.specs.declared.phase.Move.TheVariants.{Open}
use Rattle.flow_task.specs.Events.{BlockEvent, HasEvent}
use Rattle.flow_block.specs.Planned.{block_makes}
use Rattle.flow_task.proofs.Counts.{ins_alike, ports_alike}
use Rattle.flow_task.proofs.Spends.{does_so, spends_did, spends_more, spends_none, spends_not, spends_one}
use Rattle.flow_task.proofs.task.BlockTask.take.Goals as goal

pub try_in-requires-clause-port : goal.try_in-requires-clause-port
try_in-requires-clause-port g c =
    let s = c.args.self.now in
    let t = c.open.new.self in
    let old = layout_of s.of.value.rest.plan in
    let new = layout_of t.of.value.rest.plan in
    let meaning = g.W.Runs.meaning in
    let alike = ports_alike new old (works_of meaning new) (works_of meaning old) t.number s.number t.node s.node t.law s.law
    (ap (λ (board : Board _). layout_of board.rest.plan) c.open.ensures.of) c.open.ensures.number in
    subst (λ (n : ℕ). c.args.port < n) (sym alike) c.requires.port

pub try_in-requires-clause-there : goal.try_in-requires-clause-there
try_in-requires-clause-there g c =
    let s = c.args.self.now in
    let t = c.open.new.self in
    let old = layout_of s.of.value.rest.plan in
    let new = layout_of t.of.value.rest.plan in
    let meaning = g.W.Runs.meaning in
    let alike = ins_alike new old (works_of meaning new) (works_of meaning old) t.number s.number t.node s.node t.law s.law
    (ap (λ (board : Board _). layout_of board.rest.plan) c.open.ensures.of) c.open.ensures.number c.args.port c.requires.port in
    subst (λ (n : ℕ). c.args.place < n) (sym alike) c.requires.there

pub returns-then-left-eq0-clause-spends : goal.returns-then-left-eq0-clause-spends
returns-then-left-eq0-clause-spends g c =
    let s = c.args.self.now in
    let t = c.open.new.self in
    let makes = (λ (board : Board _) (n : ℕ). block_makes (layout_of board.rest.plan) (works_of g.W.Runs.meaning (layout_of board.rest.plan)) n) in
    let here = makes s.of.value s.number in
    let opens : ∥ HasEvent false here s.node t.node ∥₁ =
    merely (
      BlockEvent.move_in c.args.port c.args.place Open,
      record {
        comes = record { is_there = (c.requires.port, c.requires.there); found_is = c.requires.next };
        leaves = c.open.ensures.opened;
      },
    ) in
    spends_one here c.args.left.now s.node t.node c.requires.left opens

pub returns-in_err-try_in-clause-spends : goal.returns-in_err-try_in-clause-spends
returns-in_err-try_in-clause-spends g c =
    let s = c.args.self.now in
    let t = c.open.new.self in
    let makes = (λ (board : Board _) (n : ℕ). block_makes (layout_of board.rest.plan) (works_of g.W.Runs.meaning (layout_of board.rest.plan)) n) in
    let here = makes s.of.value s.number in
    let opens : ∥ HasEvent false here s.node t.node ∥₁ =
    merely (
      BlockEvent.move_in c.args.port c.args.place Open,
      record {
        comes = record { is_there = (c.requires.port, c.requires.there); found_is = c.requires.next };
        leaves = c.open.ensures.opened;
      },
    ) in
    let left = c.args.left.now in
    let new = c.try_in.new.self.node in
    let one = spends_one here left s.node t.node c.requires.left opens in
    spends_more here left (left - 1) (left - 1) s.node t.node new one (spends_none here (left - 1) t.node new c.in_err-try_in.ensures.does)

pub returns-then-branch-clause-spends : goal.returns-then-branch-clause-spends
returns-then-branch-clause-spends g c =
    let s = c.args.self.now in
    let t = c.open.new.self in
    let makes = (λ (board : Board _) (n : ℕ). block_makes (layout_of board.rest.plan) (works_of g.W.Runs.meaning (layout_of board.rest.plan)) n) in
    let here = makes s.of.value s.number in
    let opens : ∥ HasEvent false here s.node t.node ∥₁ =
    merely (
      BlockEvent.move_in c.args.port c.args.place Open,
      record {
        comes = record { is_there = (c.requires.port, c.requires.there); found_is = c.requires.next };
        leaves = c.open.ensures.opened;
      },
    ) in
    let left = c.args.left.now in
    let new = c.try_in.new.self.node in
    let one = spends_one here left s.node t.node c.requires.left opens in
    let same = ap₂ makes c.open.ensures.of c.open.ensures.number in
    spends_more here left (left - 1) (left - 1 - 1) s.node t.node new one
    (spends_did here (left - 1) c.in_ok-try_in.field-0 t.node new (omega (arith, c.if-left-eq0.false)) c.if-branch.true
    (does_so false (Ok c.in_ok-try_in.field-0) t.node new same c.in_ok-try_in.ensures.does))

pub returns-else-branch-clause-spends : goal.returns-else-branch-clause-spends
returns-else-branch-clause-spends g c =
    let s = c.args.self.now in
    let t = c.open.new.self in
    let makes = (λ (board : Board _) (n : ℕ). block_makes (layout_of board.rest.plan) (works_of g.W.Runs.meaning (layout_of board.rest.plan)) n) in
    let here = makes s.of.value s.number in
    let opens : ∥ HasEvent false here s.node t.node ∥₁ =
    merely (
      BlockEvent.move_in c.args.port c.args.place Open,
      record {
        comes = record { is_there = (c.requires.port, c.requires.there); found_is = c.requires.next };
        leaves = c.open.ensures.opened;
      },
    ) in
    let left = c.args.left.now in
    let new = c.try_in.new.self.node in
    let one = spends_one here left s.node t.node c.requires.left opens in
    let same = ap₂ makes c.open.ensures.of c.open.ensures.number in
    spends_more here left (left - 1) (left - 1) s.node t.node new one
    (spends_not here (left - 1) c.in_ok-try_in.field-0 t.node new c.if-branch.false
    (does_so false (Ok c.in_ok-try_in.field-0) t.node new same c.in_ok-try_in.ensures.does))
