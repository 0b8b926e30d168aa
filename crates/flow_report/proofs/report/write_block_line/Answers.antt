use Rattle.std.proofs.Common.{[], ◌∷◌}
use Rattle.std.specs.Prelude.{codes}
use Rattle.std.proofs.lemmas.Result.{on_ok_weaker}
use Rattle.flow_report.proofs.PrintedGrows.{appends-both}
use Rattle.flow_report.proofs.report.write_block_line.Goals as goal

pub returns-clause-written : goal.returns-clause-written
returns-clause-written g c =
    let name = rw c.as_bytes.ensures.value at c.in_ok-write_bytes-2.ensures.written in
    let named = appends-both _ _ _ (codes "block ") c.args.name.now c.in_ok-write_bytes.ensures.written name in
    on_ok_weaker c.write_bytes-4.result
    (λ end. appends-both _ _ _ _ (10 ∷ [])
    (appends-both _ _ _ _ _ (appends-both _ _ _ _ (32 ∷ []) named c.in_ok-write_bytes-3.ensures.written) c.in_ok-write_state.ensures.written) end)
    c.write_bytes-4.ensures.written
