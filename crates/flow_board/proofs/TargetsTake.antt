-- A target to which a message was given opens it next, and closes then: in a network in order that event may happen, and it changes
-- the phase of its own link alone.
use Rattle.std.proofs.Common.{◌≡◌, ℕ, zero, suc, arith, ◌+◌, ◌<◌, Bool, true, false, length, List, set, get_or, Option, Some, None, is_some, Result, refl, sym, ap, ◌∙◌, subst, ◌⊎◌, ⊎_elim}
use Rattle.std.proofs.lemmas.List.{get_or-set_other}
use Rattle.std.proofs.Math.Logic.{∥∥₁_elim, ∥∥₁_prop}
use Rattle.flow_value.specs.declared.value.Value.{Value}
use Rattle.flow_value.specs.declared.work.WorkFault.{WorkFault}
use Rattle.flow_link.specs.declared.phase.LinkEnd.{LinkEnd}
use Rattle.flow_link.specs.declared.phase.Move.{Move}
use Rattle.flow_link.specs.declared.phase.Move.TheVariants.{Open, Close}
use Rattle.flow_link.specs.declared.phase.Phase.{Phase}
use Rattle.flow_link.specs.declared.phase.Phase.TheVariants.{Idle, Posted, Offered, Postponed, Wanted, Given, Opened, Asked, Held, Refused, Ended}
use Rattle.flow_link.specs.declared.plan.LinkSource.{LinkSource}
use Rattle.flow_link.specs.declared.plan.LinkSource.TheVariants.{Block, Input}
use Rattle.flow_link.specs.declared.plan.LinkTarget.{LinkTarget}
use Rattle.flow_link.specs.declared.plan.LinkTarget.TheVariants.{Port, Exit}
use Rattle.flow_link.specs.declared.stage.TargetStage.{TargetStage}
use Rattle.flow_link.specs.declared.stage.TargetStage.TheVariants.{Arrived, Hand}
use Rattle.flow_link.specs.declared.trace.LinkState.{LinkState}
use Rattle.flow_link.specs.Layout.{Layout}
use Rattle.flow_link.specs.Phase.{phase_after}
use Rattle.flow_link.specs.Plan.{link_in}
use Rattle.flow_link.specs.Stage.{target_stage_of}
use Rattle.flow_link.specs.Views.{TargetStage as Seen}
use Rattle.flow_link.proofs.LooksKeepOrder.{looks_keep}
use Rattle.flow_intake.specs.Port.{PortState, stage_at, hand_in}
use Rattle.flow_intake.specs.Calls.{move_at}
use Rattle.flow_block.specs.Block.{port_at}
use Rattle.flow_block.specs.Node.{or_else}
use Rattle.flow_block.specs.Planned.{in_place}
use Rattle.flow_group.specs.Round.{round_move}
use Rattle.flow_exit.specs.Exit.{exit_move_at, wants_one}
use Rattle.flow_core.specs.Events.{NetEvent, LinkMay, MayHappen, after, after_move, moved_by, is_of_source, peek_by, target_peek, with_line}
use Rattle.flow_core.specs.Events.{source_moves, target_moves, source_sees, target_sees, line_after}
use Rattle.flow_core.specs.Keeps.{NetKeeps}
use Rattle.flow_core.specs.State.{NetState, node_at, line_at, exit_at, ends_of, target_from, fresh_line}
use Rattle.flow_core.proofs.StagesShow.{target_shows, target_shown}
use Rattle.flow_exec.specs.Works.{works_of}
use Rattle.flow_moves.proofs.MerelyKept.{line_count_is}
use Rattle.flow_moves.proofs.PassesHappen.{phase_then}
use Rattle.flow_wire.specs.Ends.{is_crossing}
use Rattle.flow_net.specs.There.{IsWhyNot}
use Rattle.flow_net.specs.declared.fault.NetFault.{NetFault}
use Rattle.flow_net.specs.declared.fault.NetFault.TheVariants.{NotEnabled}
use Rattle.flow_board.specs.Home.{HasComeHome, TakenHome, next_home}

-- what a target's stage tells of its next move
abbrev takes_next : Seen Value → Option Move
takes_next (Seen.arrived i) = Some Open
takes_next (Seen.hand i value) = Some Close
takes_next _ = None

shows_next : (t : Seen Value) → takes_next t ≡ next_home (target_shows t)
shows_next (Seen.arrived i) = refl
shows_next (Seen.hand i value) = refl
shows_next Seen.free = refl
shows_next (Seen.offered i) = refl
shows_next (Seen.posted i) = refl
shows_next (Seen.postponed i) = refl
shows_next (Seen.accepted i) = refl
shows_next (Seen.consuming i) = refl
shows_next (Seen.asking i) = refl
shows_next (Seen.holding i) = refl
shows_next (Seen.claiming i) = refl
shows_next (Seen.refused why) = refl
shows_next (Seen.ended how) = refl

module _ (next : Move) where
  port_takes : (k : ℕ) (port : PortState) (stage : TargetStage) (hand : Option Value)
      → takes_next (target_stage_of stage hand) ≡ Some next → move_at k port stage ≡ Some next
  port_takes k port (Arrived i) hand is = is
  port_takes k port (Hand i) hand is = is
  port_takes k port _ hand is = absurd (cc)

  exit_takes : (wants : Bool) (stage : TargetStage) (hand : Option Value)
      → takes_next (target_stage_of stage hand) ≡ Some next → exit_move_at wants stage ≡ Some next
  exit_takes wants (Arrived i) hand is = is
  exit_takes wants (Hand i) hand is = is
  exit_takes wants _ hand is = absurd (cc)

  allows : (phase : Phase) → next_home phase ≡ Some next → is_some (phase_after phase next) ≡ true
  allows (Given i) is = let same : Open ≡ next = cc in subst (λ (move : Move). is_some (phase_after (Given i) move) ≡ true) same refl
  allows (Opened i) is = let same : Close ≡ next = cc in subst (λ (move : Move). is_some (phase_after (Opened i) move) ≡ true) same refl
  allows _ is = absurd (cc)

  targets_own : (phase : Phase) → next_home phase ≡ Some next → is_of_source next ≡ false
  targets_own (Given i) is = let same : Open ≡ next = cc in subst (λ (move : Move). is_of_source move ≡ false) same refl
  targets_own (Opened i) is = let same : Close ≡ next = cc in subst (λ (move : Move). is_of_source move ≡ false) same refl
  targets_own _ is = absurd (cc)

module _ {W : Type 0} (layout : Layout W) (net : NetState) (l : ℕ) (next : Move) where
  target_takes : (into : LinkTarget) → takes_next (target_from layout net l into).stage ≡ Some next
      → target_peek layout net l into ≡ Some next
  target_takes (Port t p) is =
      let node = node_at net t in
      let port = port_at p node.block in
      let k = in_place layout t p l in
      ap (λ (own : Option Move). or_else own (round_move p k node.round node.block.ports))
      (port_takes next k port (stage_at k port) (hand_in k port.ends) is)
  target_takes Exit is =
      let exit = exit_at layout net l in
      exit_takes next (wants_one exit) exit.stage exit.hand is

  -- it may happen
  pub may_take : (meaning : ℕ → Value → Result (List Value) ℕ) → NetKeeps layout meaning net → l < length layout.links
      → next_home (line_at net l).phase ≡ Some next → LinkMay layout net l next
  may_take meaning keeps there is =
      let ends = ends_of layout net l in
      let line = keeps.lines l there in
      let seen = (looks_keep Value).seen_tells _ _ _ _ _ line.in_order line.seen in
      let stage = shows_next ends.target.stage ∙ ap next_home (target_shown ends.phase ends.source.stage ends.target.stage seen) ∙ is in
      record {
        there = there;
        allowed = allows next (line_at net l).phase is;
        peek = subst (λ (owner : Bool). peek_by layout owner net l (link_in layout.links l) ≡ Some next)
            (sym (targets_own next (line_at net l).phase is)) (target_takes (link_in layout.links l).target stage);
      }

  -- so it is not refused for that it is not enabled
  pub not_refused : (meaning : ℕ → Value → Result (List Value) ℕ) → ∥ NetKeeps layout meaning net ∥₁ → l < length layout.links
      → next_home (line_at net l).phase ≡ Some next → (fault : NetFault) → fault ≡ NotEnabled
      → IsWhyNot layout meaning net (NetEvent.at_link l next) fault → ⊥
  not_refused meaning kept there is fault not_enabled why =
      let never : LinkMay layout net l next → ⊥ = subst (IsWhyNot layout meaning net (NetEvent.at_link l next)) not_enabled why in
      ∥∥₁_elim kept (λ x y. absurd x) (λ keeps. never (may_take meaning keeps there is))

  -- the phase that it leads to
  pub phase_is : (meaning : ℕ → Value → Result (List Value) ℕ) → ∥ NetKeeps layout meaning net ∥₁ → l < length layout.links
      → next_home (line_at net l).phase ≡ Some next → (new : NetState) → new ≡ after layout meaning (NetEvent.at_link l next) net
      → phase_after (line_at net l).phase next ≡ Some (line_at new l).phase
  phase_is meaning kept there is new moved =
      by_step (phase_after (line_at net l).phase next) refl (allows next (line_at net l).phase is)
    where
      low : l < length net.lines
      low = subst (λ (count : ℕ). l < count) (sym (line_count_is layout meaning net kept)) there

      by_step : (to : Option Phase) → phase_after (line_at net l).phase next ≡ to → is_some to ≡ true
          → phase_after (line_at net l).phase next ≡ Some (line_at new l).phase
      by_step (Some phase) step e =
          step
          ∙ ap Some (sym (ap (λ (now : NetState). (line_at now l).phase) moved ∙ phase_then layout meaning l net low next phase step))
      by_step None step e = absurd (cc)

-- nothing crosses at any other phase
pub at_rest : (phase : Phase) → (phase ≡ Idle) ⊎ ((i : ℕ) × (phase ≡ Posted i)) ⊎ ((i : ℕ) × (phase ≡ Offered i))
    ⊎ ((i : ℕ) × (phase ≡ Postponed i)) ⊎ ((i : ℕ) × (phase ≡ Wanted i)) ⊎ ((i : ℕ) × (phase ≡ Asked i))
    ⊎ ((i : ℕ) × (phase ≡ Held i)) ⊎ (phase ≡ Refused) ⊎ ((how : LinkEnd) × (phase ≡ Ended how)) → is_crossing phase ≡ false
at_rest phase is =
    ⊎_elim (λ at. ap is_crossing at)
    (λ rest. ⊎_elim (λ at. ap is_crossing at.1)
    (λ rest. ⊎_elim (λ at. ap is_crossing at.1)
    (λ rest. ⊎_elim (λ at. ap is_crossing at.1)
    (λ rest. ⊎_elim (λ at. ap is_crossing at.1)
    (λ rest. ⊎_elim (λ at. ap is_crossing at.1)
    (λ rest. ⊎_elim (λ at. ap is_crossing at.1)
    (λ rest. ⊎_elim (λ at. ap is_crossing at) (λ at. ap is_crossing at.1) rest) rest) rest) rest) rest) rest) rest) is

-- The lines of other links stay

module _ {W : Type 0} (layout : Layout W) (meaning : ℕ → Value → Result (List Value) ℕ) (l : ℕ) (next : Move) (k : ℕ)
    (other : k ≡ l → ⊥) where
  sources_lines : (from : LinkSource) (net : NetState) → (source_moves layout meaning l next from net).lines ≡ net.lines
  sources_lines (Block s) net = refl
  sources_lines (Input b) net = refl

  targets_lines : (into : LinkTarget) (net : NetState) → (target_moves layout meaning l next into net).lines ≡ net.lines
  targets_lines (Port t p) net = refl
  targets_lines Exit net = refl

  source_sees_lines : (phase : Phase) (from : LinkSource) (net : NetState)
      → (source_sees layout meaning l phase from net).lines ≡ net.lines
  source_sees_lines phase (Block s) net = refl
  source_sees_lines phase (Input b) net = refl

  target_sees_lines : (phase : Phase) (into : LinkTarget) (net : NetState)
      → (target_sees layout meaning l phase into net).lines ≡ net.lines
  target_sees_lines phase (Port t p) net = refl
  target_sees_lines phase Exit net = refl

  line_set : (line : LinkState) (mid net : NetState) → mid.lines ≡ net.lines → line_at (with_line l line mid) k ≡ line_at net k
  line_set line mid net same =
      ap (λ (lines : List LinkState). get_or (set lines l line) k fresh_line) same ∙ get_or-set_other net.lines l k line fresh_line other

  moved_others : (owner : Bool) (phase : Phase) (net : NetState)
      → line_at (moved_by layout meaning owner l next phase (link_in layout.links l) net) k ≡ line_at net k
  moved_others true phase net =
      let link = link_in layout.links l in
      let line = line_after layout meaning l next phase link.source net in
      let mid = source_moves layout meaning l next link.source net in
      ap (λ (lines : List LinkState). get_or lines k fresh_line) (target_sees_lines phase link.target (with_line l line mid))
      ∙ line_set line mid net (sources_lines link.source net)
  moved_others false phase net =
      let link = link_in layout.links l in
      let line = line_after layout meaning l next phase link.source net in
      let mid = target_moves layout meaning l next link.target net in
      ap (λ (lines : List LinkState). get_or lines k fresh_line) (source_sees_lines phase link.source (with_line l line mid))
      ∙ line_set line mid net (targets_lines link.target net)

  by_phase : (to : Option Phase) (net : NetState) → line_at (after_move layout meaning l next to net) k ≡ line_at net k
  by_phase None net = refl
  by_phase (Some phase) net = moved_others (is_of_source next) phase net

  pub others_stay : (net : NetState) → line_at (after layout meaning (NetEvent.at_link l next) net) k ≡ line_at net k
  others_stay net = by_phase (phase_after (line_at net l).phase next) net

-- Moves and then more moves

module _ {W : Type 0} (layout : Layout W) (meaning : ℕ → Value → Result (List Value) ℕ) where
  home_further : (first more : ℕ) (old mid new : NetState) → TakenHome layout meaning first old mid → TakenHome layout meaning more mid new
      → TakenHome layout meaning (first + more) old new
  home_further first zero old mid new before same =
      let none : first ≡ first + 0 = omega arith in
      subst (λ (n : ℕ). TakenHome layout meaning n old new) none
      (subst (λ (net : NetState). TakenHome layout meaning first old net) (sym same) before)
  home_further first (suc more) old mid new before (last, (then_on, takes)) =
      let one : suc (first + more) ≡ first + suc more = omega arith in
      subst (λ (n : ℕ). TakenHome layout meaning n old new) one (last, (home_further first more old mid last before then_on, takes))

module _ {W : Type 0} (works : W → Value → Result (List Value) WorkFault) (layout : Layout W) where
  pub one_taken : (old new : NetState) (l : ℕ) (next : Move) → next_home (line_at old l).phase ≡ Some next
      → MayHappen layout (works_of works layout) (NetEvent.at_link l next) old
      → new ≡ after layout (works_of works layout) (NetEvent.at_link l next) old → HasComeHome works layout old new
  one_taken old new l next home may is =
      ∣ (suc 0, (old, (refl, record { link = l; next = next; is_home = home; may = may; new_is = is }))) ∣₁

  pub none_taken : (old new : NetState) → new ≡ old → HasComeHome works layout old new
  none_taken old new same = ∣ (0, same) ∣₁

  pub taken_further : (same : Layout W) (old mid new : NetState) → same ≡ layout → HasComeHome works layout old mid
      → HasComeHome works same mid new → HasComeHome works layout old new
  taken_further same old mid new is first then_on =
      ∥∥₁_elim first ∥∥₁_prop (λ before.
      ∥∥₁_elim (subst (λ (it : Layout W). HasComeHome works it mid new) is then_on) ∥∥₁_prop (λ more.
      ∣ (before.0 + more.0, home_further layout (works_of works layout) before.0 more.0 old mid new before.1 more.1) ∣₁))
