use Rattle.std.proofs.Common.{◌<◌, arith, length}
use Rattle.flow_report.specs.Report.{is_output, run_in}
use Rattle.flow_report.proofs.ReportGrows.{count-next}
use Rattle.flow_report.proofs.report.exits_before.Goals as goal
use Rattle.flow_report.proofs.report.exits_before.Goals.{then-block_at, else-block_at}

pub loop-number-preserved : goal.loop-number-preserved
loop-number-preserved c =
    let blocks = (run_in c.args.net.now).layout.blocks in
    let within : c.loop-number.number < length blocks = omega (arith, c.requires) in
    let grown = count-next is_output blocks c.loop-number.number c.block_at.result.now within (c.block_at.ensures c.block_at.result.now) in
    elim c.if-block_at.branch [
      | then-block_at w ↦
          let one = rw w.if-block_at.true at grown in
          record { counted = omega (arith, one, w.count-is, c.loop-number.invariant.counted); few = omega arith }
      | else-block_at w ↦
          let none = rw w.if-block_at.false at grown in
          record { counted = omega (arith, none, w.count-is, c.loop-number.invariant.counted); few = omega arith }
    ]
