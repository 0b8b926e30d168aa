use Rattle.flow_turn_rows.proofs.sends.ready.Given as goal

-- the future gives no more than it might have given at first
abbrev pub invariant-loop : goal.invariant-loop
invariant-loop g l = g.F.Future.can_poll l.future × ((x : _) → g.F.Future.gives l.future x → g.F.Future.gives l.fn.future x)
