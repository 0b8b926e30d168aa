use Rattle.bevelrose_c.proofs.run.run_plan.Goals as goal

pub returns-in-Err-clause-ran : goal.returns-in-Err-clause-ran
returns-in-Err-clause-ran c = c.in-Err.ensures.refused c.args.limit
