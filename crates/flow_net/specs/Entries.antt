-- What a contract sees of an input with the network that it owns.
use Rattle.std.proofs.Common.{◌≡◌, ℕ, List, Result, refl, ◌∙◌}
use Rattle.flow_value.specs.declared.value.Value.{Value}
use Rattle.flow_value.specs.declared.work.WorkFault.{WorkFault}
use Rattle.flow_link.specs.Layout.{Layout}
use Rattle.flow_link.specs.Planned.{layout_of}
use Rattle.flow_link.specs.Trace.{Run}
use Rattle.flow_input.specs.Input.{InputState}
use Rattle.flow_core.specs.State.{NetState, input_at}
use Rattle.flow_net.specs.Net.{run_with}
use Rattle.flow_net.specs.declared.entry.NetEntry.{NetEntry}

module _ {W : Type 0} {w : _} {e : _} where
  abbrev pub entry_layout : NetEntry W w e → Layout W
  entry_layout port = layout_of port.engine.plan

  abbrev pub entry_parts : NetEntry W w e → NetState
  entry_parts port = port.engine.parts

  abbrev pub entry_run : (W → Value → Result (List Value) WorkFault) → NetEntry W w e → Run W
  entry_run meaning port = run_with meaning (entry_layout port) (entry_parts port)

  -- the block into which it leads, and the link
  abbrev pub entry_block : NetEntry W w e → ℕ
  entry_block port = port.block

  abbrev pub entry_link : NetEntry W w e → ℕ
  entry_link port = port.link

  -- its end of the link
  abbrev pub entry_of : NetEntry W w e → InputState
  entry_of port = input_at (entry_layout port) (entry_parts port) port.block

  -- the same input, later
  pub record EntryGoesOn (old new : NetEntry W w e) : Type 0 where
    pub same_layout : entry_layout new ≡ entry_layout old
    pub same_block : entry_block new ≡ entry_block old
    pub same_link : entry_link new ≡ entry_link old

  pub entry_stays : (port : NetEntry W w e) → EntryGoesOn port port
  entry_stays port = record { same_layout = refl; same_block = refl; same_link = refl }

  pub entry_goes_further : (first mid last : NetEntry W w e) → EntryGoesOn first mid → EntryGoesOn mid last → EntryGoesOn first last
  entry_goes_further first mid last head tail = record {
    same_layout = tail.same_layout ∙ head.same_layout;
    same_block = tail.same_block ∙ head.same_block;
    same_link = tail.same_link ∙ head.same_link;
  }
