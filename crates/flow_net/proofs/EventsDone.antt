-- What an event that is done leaves: a link's move is one along the link's way, and a block makes what its work does.
use Rattle.std.proofs.Common.{rules, ◌≡◌, ℕ, ◌<◌, Bool, true, false, List, length, Option, Some, option_map, Result, Ok, Err}
use Rattle.std.proofs.Common.{[], refl, sym, ap, ap₂, subst, ◌∙◌}
use Rattle.std.proofs.lemmas.Bool.{true≢false}
use Rattle.std.specs.List.{HoldsAt}
use Rattle.std.specs.Result.{IsErrAnd}
use Rattle.flow_value.specs.declared.value.Value.{Value}
use Rattle.flow_value.specs.declared.work.WorkFault.{WorkFault}
use Rattle.flow_link.specs.declared.draft.BlockDef.{BlockDef}
use Rattle.flow_link.specs.declared.draft.BlockKind.{BlockKind}
use Rattle.flow_link.specs.declared.phase.Move.{Move}
use Rattle.flow_link.specs.declared.phase.Phase.{Phase}
use Rattle.flow_link.specs.Layout.{Layout}
use Rattle.flow_link.specs.Phase.{phase_after}
use Rattle.flow_link.specs.Plan.{no_block}
use Rattle.flow_outlet.specs.declared.fault.OutletFault.{OutletFault}
use Rattle.flow_outlet.specs.declared.fault.OutletFault.TheVariants as outlet
use Rattle.flow_outlet.specs.Outlet.{lacks_ids}
use Rattle.flow_block.specs.declared.planned.Route.{Route}
use Rattle.flow_block_law.specs.JobsEnd.{after_job, put_at_end}
use Rattle.flow_block.specs.Node.{NodeCall, after as after_call}
use Rattle.flow_block.specs.Peeks.{lacks_next, next_fault}
use Rattle.flow_block.specs.Planned.{block_makes}
use Rattle.flow_block.specs.Routes.{route_of}
use Rattle.flow_core.specs.Events.{NetEvent, Enabled, MayHappen, with_node, node_after, is_of_source, after}
use Rattle.flow_core.specs.Keeps.{NetKeeps}
use Rattle.flow_core.specs.State.{NetState, node_at, line_at}
use Rattle.flow_moves.specs.Statements.{IsPlanned, MovesGoAlong}
use Rattle.flow_moves.specs.Ways.{moved_along}
use Rattle.flow_exec.specs.Works.{results_by, works_of}
use Rattle.flow_moves.specs.AtOnce.{works_at_once, put_at_once}
use Rattle.flow_moves.proofs.MerelyKept.{blocks_planned, node_count_is}
use Rattle.flow_net.specs.declared.fault.NetFault.{NetFault}
use Rattle.flow_net.specs.declared.fault.NetFault.TheVariants.{Ids, Memory}
use Rattle.flow_net.specs.Happened.{Happened}
use Rattle.flow_net.specs.Told.{fault_of}
use Rattle.flow_net.proofs.WorksHappen.{worked_happened}

-- a move along the link's way is the event
pub along_is_after : {W : Type 0} → MovesGoAlong W
along_is_after layout meaning net l next phase leads = search rules

module _ {W : Type 0} (layout : Layout W) (meaning : ℕ → Value → Result (List Value) ℕ) (old new : NetState) (l : ℕ)
    (next : Move) (phase : Phase) (route : Route) where
  -- a move along a way is the event, where that is the link's way
  pub moved_is_after : route ≡ route_of layout l → phase_after (line_at old l).phase next ≡ Some phase
      → ((makes : ℕ → Value → Result (List Value) ℕ) → new ≡ moved_along makes (is_of_source next) l next phase route old)
      → new ≡ after layout meaning (NetEvent.at_link l next) old
  moved_is_after way leads moved =
      let makes = block_makes layout meaning in
      moved makes
      ∙ ap (λ (r : Route). moved_along makes (is_of_source next) l next phase r old) way
      ∙ sym (along_is_after layout meaning old l next phase leads)

module _ {W : Type 0} (layout : Layout W) (meaning : ℕ → Value → Result (List Value) ℕ) (old new : NetState) (b : ℕ) where
  -- a block stops by the fault that it would
  pub faulted_is_after : (number : ℕ) → next_fault (node_at old b).block ≡ Some number
      → new ≡ with_node b (after_call (block_makes layout meaning b) (NodeCall.fault number)) old
      → new ≡ after layout meaning (NetEvent.fault b) old
  faulted_is_after number would done =
      done
      ∙ ap (λ (fault : Option ℕ). with_node b (node_after layout meaning b (option_map NodeCall.fault fault)) old) (sym would)

-- a message that is handed on
module _ {W : Type 0} (layout : Layout W) (meaning : ℕ → Value → Result (List Value) ℕ) (old : NetState) (b : ℕ) where
  abbrev lacks_made : (Value → Result (List Value) ℕ) → Bool
  lacks_made makes = lacks_next makes (node_at old b)

  pub unmade_may_not : ((makes : Value → Result (List Value) ℕ) → lacks_made makes ≡ true)
      → MayHappen layout meaning (NetEvent.make b) old → ⊥
  unmade_may_not lacks may = true≢false (sym (lacks (block_makes layout meaning b)) ∙ may.ids)

-- a job whose message is worked on by the block's work
module _ {W : Type 0} (meaning : W → Value → Result (List Value) WorkFault) (layout : Layout W) (old : NetState)
    (kept : ∥ NetKeeps layout (works_of meaning layout) old ∥₁) (b : ℕ) (there : b < length layout.blocks) (work : Option W)
    (def : BlockDef W) (defined : HoldsAt (λ block. def ≡ block) layout.blocks b) (work_is : work ≡ def.work) where
  planned : IsPlanned layout b (node_at old b).block
  planned = blocks_planned layout (works_of meaning layout) old kept b there

  -- what the block's work does of a message is what the block makes of it
  abbrev pub makes_by : Value → Result (List Value) ℕ
  makes_by = results_by work (node_at old b).block.kind meaning

  makes_is : makes_by ≡ block_makes layout (works_of meaning layout) b
  makes_is =
      ap₂ (λ (w : Option W) (k : BlockKind). results_by w k meaning)
      (work_is ∙ ap (λ (d : BlockDef W). d.work) (defined no_block)) planned.kind_is

  abbrev works : ℕ → Value → Result (List Value) ℕ
  works = works_of meaning layout

  pub ended_is_after : (ticket : ℕ) (new : NetState) → new ≡ with_node b (after_job makes_by ticket) old
      → new ≡ after layout works (NetEvent.end_job b ticket) old
  ended_is_after ticket new done =
      done ∙ ap (λ (m : Value → Result (List Value) ℕ). with_node b (after_job m ticket) old) makes_is

  abbrev pub lacks_with : ℕ → (Value → Result (List Value) ℕ) → Bool
  lacks_with ticket makes = lacks_ids (put_at_end makes ticket (node_at old b).block) (node_at old b).block.exits

  pub ended_may : (ticket : ℕ) → Enabled layout old (NetEvent.end_job b ticket) → lacks_with ticket makes_by ≡ false
      → MayHappen layout works (NetEvent.end_job b ticket) old
  ended_may ticket enabled has = record { enabled = enabled; ids = ap (lacks_with ticket) (sym makes_is) ∙ has }

  pub unended_may_not : (ticket : ℕ) → lacks_with ticket makes_by ≡ true
      → MayHappen layout works (NetEvent.end_job b ticket) old → ⊥
  unended_may_not ticket lacks may = true≢false (sym lacks ∙ ap (lacks_with ticket) makes_is ∙ may.ids)

  -- a job that begins and ends at once
  pub worked_so : Enabled layout old (NetEvent.begin b) → (node_at old b).block.jobs.slots ≡ [] → (new : NetState)
      → new ≡ with_node b (works_at_once makes_by) old
      → lacks_ids (put_at_once makes_by (node_at old b)) (node_at old b).block.exits ≡ false
      → Happened layout works 2 old new
  worked_so enabled idle new done has =
      let low : b < length old.nodes = subst (λ (n : ℕ). b < n) (sym (node_count_is layout works old kept)) there in
      worked_happened layout works old b low enabled idle new
      (done ∙ ap (λ (m : Value → Result (List Value) ℕ). with_node b (works_at_once m) old) makes_is)
      (ap (λ (m : Value → Result (List Value) ℕ). lacks_ids (put_at_once m (node_at old b))
      (node_at old b).block.exits) (sym makes_is) ∙ has)

-- a fault that tells that ids are used up is of an outlet that says so
pub ids_told : {T : Type 0} (result : Result T NetFault) (fault : OutletFault)
    → IsErrAnd result (λ told. told ≡ fault_of fault) → result ≡ Err Ids → fault ≡ outlet.Ids
ids_told (Err told) outlet.Ids tells is = refl
ids_told (Err told) outlet.Memory tells is = absurd (cc)
ids_told (Ok x) fault tells is = absurd (cc)

-- and one that tells that memory is out is of one that says that
pub memory_told : {T : Type 0} (result : Result T NetFault) (fault : OutletFault)
    → IsErrAnd result (λ told. told ≡ fault_of fault) → result ≡ Err Memory → fault ≡ outlet.Memory
memory_told (Err told) outlet.Memory tells is = refl
memory_told (Err told) outlet.Ids tells is = absurd (cc)
memory_told (Ok x) fault tells is = absurd (cc)
