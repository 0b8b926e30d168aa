-- How the program ends: its status, and what standard error gets.
use Rattle.std.specs.Prelude.{ℕ, List, [], ◌∷◌, ◌++◌, codes, Ok, Err}
use Rattle.flow_run.specs.Refusal.{refusal_line}
use Rattle.flow_run.specs.Status.{status_of}
use Rattle.flow_cli.specs.declared.conclusion.Conclusion.{Conclusion}
use Rattle.flow_cli.specs.declared.conclusion.Conclusion.TheVariants.{Usage, Run}

-- refused arguments have the status of refused texts
abbrev pub conclusion_status : Conclusion → ℕ
conclusion_status Usage = 2
conclusion_status (Run outcome) = status_of outcome

-- where there is a report, standard error gets nothing
abbrev pub conclusion_line : Conclusion → List ℕ
conclusion_line Usage = codes "usage: flow_run [NET WORKERS [LIMIT]]" ++ 10 ∷ []
conclusion_line (Run (Ok ran)) = []
conclusion_line (Run (Err refusal)) = refusal_line refusal
