-- What a contract sees of an exit with the network that it owns.
use Rattle.std.proofs.Common.{◌≡◌, ℕ, List, Result, refl, subst, ◌∙◌}
use Rattle.flow_value.specs.declared.value.Value.{Value}
use Rattle.flow_value.specs.declared.work.WorkFault.{WorkFault}
use Rattle.flow_link.specs.Layout.{Layout}
use Rattle.flow_link.specs.Planned.{layout_of}
use Rattle.flow_link.specs.Trace.{Run}
use Rattle.flow_poll.specs.Receives.{Sight, StaysOver}
use Rattle.flow_exit.specs.Exit.{ExitState}
use Rattle.flow_core.specs.State.{NetState, exit_at}
use Rattle.flow_net.specs.Net.{run_with}
use Rattle.flow_moves.specs.Sights.{sight_of}
use Rattle.flow_net.specs.declared.exit.NetExit.{NetExit}

-- what is over stays over: from call to call, and over several
over_stays : (sight : Sight) → StaysOver sight sight
over_stays Sight.nothing = tt
over_stays Sight.message = tt
over_stays (Sight.over how) = refl

over_goes_further : (first mid last : Sight) → StaysOver first mid → StaysOver mid last → StaysOver first last
over_goes_further Sight.nothing mid last head tail = tt
over_goes_further Sight.message mid last head tail = tt
over_goes_further (Sight.over how) mid last head tail = subst (λ (sight : Sight). StaysOver sight last) head tail

module _ {W : Type 0} {w : _} {e : _} where
  abbrev pub exit_layout : NetExit W w e → Layout W
  exit_layout port = layout_of port.engine.plan

  abbrev pub exit_parts : NetExit W w e → NetState
  exit_parts port = port.engine.parts

  abbrev pub exit_run : (W → Value → Result (List Value) WorkFault) → NetExit W w e → Run W
  exit_run meaning port = run_with meaning (exit_layout port) (exit_parts port)

  -- the block from which it leads out
  abbrev pub exit_block : NetExit W w e → ℕ
  exit_block port = port.block

  -- the link that leads out there
  abbrev pub exit_link : NetExit W w e → ℕ
  exit_link port = port.link

  -- its end
  abbrev pub exit_of : NetExit W w e → ExitState
  exit_of port = exit_at (exit_layout port) (exit_parts port) port.link

  -- the same exit, later
  pub record ExitGoesOn (old new : NetExit W w e) : Type 0 where
    pub same_layout : exit_layout new ≡ exit_layout old
    pub same_block : exit_block new ≡ exit_block old
    pub same_link : exit_link new ≡ exit_link old
    pub over : StaysOver (sight_of (exit_of old)) (sight_of (exit_of new))

  pub exit_stays : (port : NetExit W w e) → ExitGoesOn port port
  exit_stays port = record {
    same_layout = refl;
    same_block = refl;
    same_link = refl;
    over = over_stays (sight_of (exit_of port));
  }

  pub exit_goes_further : (first mid last : NetExit W w e) → ExitGoesOn first mid → ExitGoesOn mid last → ExitGoesOn first last
  exit_goes_further first mid last head tail = record {
    same_layout = tail.same_layout ∙ head.same_layout;
    same_block = tail.same_block ∙ head.same_block;
    same_link = tail.same_link ∙ head.same_link;
    over = over_goes_further (sight_of (exit_of first)) (sight_of (exit_of mid)) (sight_of (exit_of last)) head.over tail.over;
  }
