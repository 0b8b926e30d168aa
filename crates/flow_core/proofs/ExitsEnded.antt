-- Where the link of an exit has ended, no event changes the exit any more.
use Rattle.std.proofs.Common.{◌≡◌, ℕ, ◌<◌, Bool, true, false, List, length, Option, Some, None, is_some, Result, refl, ap, sym, ◌∙◌, subst, ⊎_elim}
use Rattle.std.proofs.lemmas.Bool.Decides.{eqb_tells}
use Rattle.flow_value.specs.declared.value.Value.{Value}
use Rattle.flow_link.specs.declared.phase.LinkEnd.{LinkEnd}
use Rattle.flow_link.specs.declared.phase.Move.{Move}
use Rattle.flow_link.specs.declared.phase.Phase.{Phase}
use Rattle.flow_link.specs.declared.phase.Phase.TheVariants.{Ended}
use Rattle.flow_link.specs.declared.plan.LinkSource.{LinkSource}
use Rattle.flow_link.specs.declared.plan.LinkSource.TheVariants.{Block, Input}
use Rattle.flow_link.specs.declared.plan.LinkTarget.{LinkTarget}
use Rattle.flow_link.specs.declared.plan.LinkTarget.TheVariants.{Port, Exit}
use Rattle.flow_link.specs.declared.stage.TargetStage.{TargetStage}
use Rattle.flow_link.specs.declared.stage.TargetStage.TheVariants as target
use Rattle.flow_link.specs.Layout.{Layout}
use Rattle.flow_link.specs.Phase.{phase_after}
use Rattle.flow_link.specs.Plan.{link_in}
use Rattle.flow_link.specs.Stage.{target_stage_of}
use Rattle.flow_link.proofs.LooksKeepOrder.{looks_keep}
use Rattle.flow_block.specs.Planned.{exit_place, leads_out}
use Rattle.flow_exit.specs.Exit.{ExitState, ExitCall, exit_call, exit_after, fresh_exit}
use Rattle.flow_core.specs.Events.{NetEvent, Enabled, LinkMay, after, after_move, is_of_source, line_after, moved_by, source_moves, source_sees, target_moves, target_sees, with_exit, with_line}
use Rattle.flow_core.specs.Keeps.{NetKeeps}
use Rattle.flow_core.specs.State.{NetState, exit_at, line_at, ends_of, target_from}
use Rattle.flow_core.specs.Statements.{EndedExitsStay}
use Rattle.flow_core.proofs.PlacesOfLinks.{leads_there}
use Rattle.flow_core.proofs.StagesShow.{target_shows, target_shown}
use Rattle.flow_link.proofs.PlacesTell.{element_set, places_differ}

-- a link that has ended allows no move
none_after : (how : LinkEnd) (next : Move) → phase_after (Ended how) next ≡ None
none_after how _ = refl

module _ {W : Type 0} (layout : Layout W) (meaning : ℕ → Value → Result (List Value) ℕ) (l : ℕ)
    (to : (link_in layout.links l).target ≡ Exit) where
  abbrev mine : NetState → ExitState
  mine net = exit_at layout net l

  -- what happens over another link is nothing to this exit
  source_leaves : (k : ℕ) (next : Move) (source : LinkSource) (net : NetState)
      → mine (source_moves layout meaning k next source net) ≡ mine net
  source_leaves k next (Block s) net = refl
  source_leaves k next (Input b) net = refl

  look_leaves : (k : ℕ) (phase : Phase) (source : LinkSource) (net : NetState)
      → mine (source_sees layout meaning k phase source net) ≡ mine net
  look_leaves k phase (Block s) net = refl
  look_leaves k phase (Input b) net = refl

  module _ (k : ℕ) (apart : k ≡ l → ⊥) where
    exit_beside : (link_in layout.links k).target ≡ Exit → (change : ExitState → ExitState) (net : NetState)
        → mine (with_exit layout k change net) ≡ mine net
    exit_beside leads change net =
        element_set (λ _ exit. exit ≡ mine net) net.exits (exit_place layout k) (exit_place layout l)
        (change (exit_at layout net k)) fresh_exit
        (λ same. absurd (apart (sym (places_differ (leads_out layout) l k (leads_there layout l to) (leads_there layout k leads) same))))
        refl

    target_leaves : (next : Move) (into : LinkTarget) → (link_in layout.links k).target ≡ into → (net : NetState)
        → mine (target_moves layout meaning k next into net) ≡ mine net
    target_leaves next (Port t p) leads net = refl
    target_leaves next Exit leads net = exit_beside leads (exit_after (exit_call (line_at net k).slot next)) net

    sight_leaves : (phase : Phase) (into : LinkTarget) → (link_in layout.links k).target ≡ into → (net : NetState)
        → mine (target_sees layout meaning k phase into net) ≡ mine net
    sight_leaves phase (Port t p) leads net = refl
    sight_leaves phase Exit leads net = exit_beside leads (exit_after (Some (ExitCall.look phase))) net

    moved_leaves : (by_source : Bool) (next : Move) (phase : Phase) (net : NetState)
        → mine (moved_by layout meaning by_source k next phase (link_in layout.links k) net) ≡ mine net
    moved_leaves true next phase net =
        let link = link_in layout.links k in
        let line = line_after layout meaning k next phase link.source net in
        sight_leaves phase link.target refl (with_line k line (source_moves layout meaning k next link.source net))
        ∙ source_leaves k next link.source net
    moved_leaves false next phase net =
        let link = link_in layout.links k in
        let line = line_after layout meaning k next phase link.source net in
        look_leaves k phase link.source (with_line k line (target_moves layout meaning k next link.target net))
        ∙ target_leaves next link.target refl net

    move_leaves : (next : Move) (found : Option Phase) (net : NetState)
        → mine (after_move layout meaning k next found net) ≡ mine net
    move_leaves next None net = refl
    move_leaves next (Some phase) net = moved_leaves (is_of_source next) next phase net

  module _ (net : NetState) (keeps : NetKeeps layout meaning net) (there : l < length layout.links) (how : LinkEnd)
      (ended : (mine net).stage ≡ target.Ended how) where
    has_ended : (line_at net l).phase ≡ Ended how
    has_ended =
        let line = keeps.lines l there in
        let ends = ends_of layout net l in
        let seen = (looks_keep Value).seen_tells _ _ _ _ _ line.in_order line.seen in
        sym (target_shown ends.phase ends.source.stage ends.target.stage seen)
        ∙ ap (λ (into : LinkTarget). target_shows (target_from layout net l into).stage) to
        ∙ ap (λ (stage : TargetStage). target_shows (target_stage_of stage (mine net).hand)) ended

    not_over_it : (next : Move) → LinkMay layout net l next → ⊥
    not_over_it next may =
        let none = ap (λ (phase : Phase). is_some (phase_after phase next)) has_ended ∙ ap is_some (none_after how next) in
        absurd (cc (sym none ∙ may.allowed))

    stays : (event : NetEvent) → Enabled layout net event → mine (after layout meaning event net) ≡ mine net
    stays (NetEvent.at_link k next) may =
        ⊎_elim
        (λ same. absurd (not_over_it next (subst (λ (i : ℕ). LinkMay layout net i next) same.1 may)))
        (λ apart. move_leaves k apart.1 next (phase_after (line_at net k).phase next) net)
        (eqb_tells k l)
    stays (NetEvent.make b) may = refl
    stays (NetEvent.begin b) may = refl
    stays (NetEvent.end_job b ticket) may = refl
    stays (NetEvent.complete b p) may = refl
    stays (NetEvent.fault b) may = refl
    stays (NetEvent.finish b) may = refl

pub ended_exits_stay : {W : Type 0} → EndedExitsStay W
ended_exits_stay layout meaning runs net event l how keeps may there to ended =
    stays layout meaning l to net keeps there how ended event may
