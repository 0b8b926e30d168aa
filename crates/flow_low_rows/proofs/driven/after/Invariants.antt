use Rattle.flow_low_rows.proofs.driven.after.Given as goal

abbrev pub invariant-loop-poll : goal.invariant-loop-poll
invariant-loop-poll g l = g.F.Future.can_poll l.future
