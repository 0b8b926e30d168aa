use Rattle.std.proofs.Common.{sym}
use Rattle.flow_exec.proofs.OnlyResult.{only_result}
use Rattle.flow_exec.proofs.result.JobResult.new.Goals as goal

pub returns-clause-only : goal.returns-clause-only
returns-clause-only g c other same = only_result _ other (sym same)
