-- Where nothing may happen any more in a network in order, its run is quiet.
use Rattle.std.proofs.Common.{◌≡◌, ℕ, ◌<◌, Bool, true, false, List, length, Option, Some, None, is_some, Result, refl, ap, sym, ◌∙◌}
use Rattle.std.proofs.lemmas.Bool.{OnTrue_at, false_from_ne_true, or_left, or_right}
use Rattle.flow_value.specs.declared.value.Value.{Value}
use Rattle.flow_link.specs.declared.phase.Move.{Move}
use Rattle.flow_link.specs.declared.plan.Link.{Link}
use Rattle.flow_link.specs.declared.plan.LinkSource.{LinkSource}
use Rattle.flow_link.specs.declared.plan.LinkSource.TheVariants.{Input}
use Rattle.flow_link.specs.declared.plan.LinkTarget.{LinkTarget}
use Rattle.flow_link.specs.declared.plan.LinkTarget.TheVariants.{Exit}
use Rattle.flow_link.specs.declared.stage.SourceStage.{SourceStage as SourceKept}
use Rattle.flow_link.specs.declared.stage.SourceStage.TheVariants as source
use Rattle.flow_link.specs.declared.stage.TargetStage.{TargetStage as TargetKept}
use Rattle.flow_link.specs.declared.stage.TargetStage.TheVariants as target
use Rattle.flow_lawful.specs.Composes.{Ends, PartsKeep}
use Rattle.flow_link.specs.Facts.{facts_in, reserves_in}
use Rattle.flow_link.specs.Layout.{Layout}
use Rattle.flow_link.specs.LinkOk.{source_reserves, target_reserves}
use Rattle.flow_link.specs.LooksKeep.{SeenAt}
use Rattle.flow_link.specs.Plan.{link_in}
use Rattle.flow_lawful.specs.Quiet.{Quiet}
use Rattle.flow_lawful.specs.RestsByParts.{EndsAreStill, PartsRest, is_at_rest, is_holding, is_to_receive}
use Rattle.flow_link.specs.Stage.{source_stage_of, target_stage_of}
use Rattle.flow_link.specs.Trace.{Run}
use Rattle.flow_link.specs.Views.{SourceStage, SourceView, TargetStage}
use Rattle.flow_lawful.proofs.LinksAtRest.{links_rest}
use Rattle.flow_link.proofs.LooksKeepOrder.{looks_keep}
use Rattle.flow_lawful.proofs.QuietByParts.{rests_compose}
use Rattle.flow_link.proofs.ListTests.{never_both}
use Rattle.flow_intake.specs.Port.{end_in}
use Rattle.flow_outlet.specs.Outlet.{end_at, stage_at}
use Rattle.flow_block.specs.Block.{port_at}
use Rattle.flow_input.specs.Input.{input_move}
use Rattle.flow_input.specs.InputKeeps.{InputsAreParts}
use Rattle.flow_block_law.specs.NextCopies.{next_copy}
use Rattle.flow_block_law.specs.NextMoves.{next_in, next_out, next_source}
use Rattle.flow_block.specs.Node.{NodeState, in_view, source_view}
use Rattle.flow_block_law.specs.NodeRests.{NodesAreStill, NodesRest, HasNothingToDo, EndsRest, HoldsByPlan, rests_in}
use Rattle.flow_link.specs.Stage.{rests_out, is_asked}
use Rattle.flow_block_law.specs.NodeSeen.{NodesAreLawful}
use Rattle.flow_block.specs.Peeks.{may_make, may_begin, may_end, may_complete, next_fault, may_finish}
use Rattle.flow_spread.specs.Spread.{link_at, stage_at as copy_stage}
use Rattle.flow_block_law.proofs.CopiesIdle.{copies_at}
use Rattle.flow_block_law.proofs.PlacesOfCopies.{copy_out_is}
use Rattle.flow_block_law.proofs.PlacesOfLinks.{end_in_is, end_out_is, shares_at}
use Rattle.flow_core.proofs.SourcesByKind.{shared_view, copied_view, shared_next, copied_next}
use Rattle.flow_core.specs.Events.{NetEvent, is_of_source, peek_by, source_peek, target_peek}
use Rattle.flow_exit.specs.Exit.{exit_move, exit_move_at, wants_one}
use Rattle.flow_exit.specs.ExitKeeps.{is_plain}
use Rattle.flow_core.specs.Keeps.{IsRun, NetKeeps}
use Rattle.flow_core.specs.State.{NetState, node_at, input_at, exit_at, ends_of, source_from, target_from, run_of_net}
use Rattle.flow_core.specs.Statements.{IsStill, StillIsQuiet}
use Rattle.flow_core.proofs.KeptIsLawful.{input_law, is_input, is_node, kept_in_order, may_carry, parts_keep, port_of_link}
use Rattle.flow_core.proofs.InputsTakeFreely.{input_takes_freely}
use Rattle.flow_core.proofs.NextIsAllowed.{of_source, of_target, next_is_allowed}
use Rattle.flow_core.proofs.StagesShow.{source_shows, source_shown, target_shows, target_shown}

-- where no element can be there, there is none
none_where : {A : Type 0} (x : Option A) → ((a : A) → x ≡ Some a → ⊥) → x ≡ None
none_where None h = refl
none_where (Some a) h = absurd (h a refl)

-- No end asks for a message or keeps one where nothing reserves

not_asked : (stage : SourceKept) → source_reserves (source_stage_of stage) ≡ false → is_asked stage ≡ false
not_asked (source.AskedBy i) e = absurd (cc)
not_asked _ e = refl

held_reserves : (stage : TargetStage Value) → is_holding stage ≡ true → target_reserves stage ≡ true
held_reserves (TargetStage.holding i) e = refl
held_reserves _ e = absurd (cc)

-- An exit that has no move has answered and taken what came to it, and it keeps nothing for later

has_received : (wants : Bool) (stage : TargetKept) (hand : Option Value) → exit_move_at wants stage ≡ None
    → is_to_receive (target_stage_of stage hand) ≡ false
has_received wants (target.Offered i) hand e = absurd (cc)
has_received wants (target.Posted i) hand e = absurd (cc)
has_received wants (target.Arrived i) hand e = absurd (cc)
has_received wants (target.Hand i) hand e = absurd (cc)
has_received wants _ hand e = refl

never_holds : (stage : TargetKept) (hand : Option Value) → is_plain stage ≡ true → is_holding (target_stage_of stage hand) ≡ false
never_holds (target.Holding i) hand e = absurd (cc)
never_holds _ hand e = refl

-- The ends of a link that is at rest are at rest

abbrev source_rests : SourceStage → Bool
source_rests s = is_at_rest (source_shows s)

abbrev target_rests : TargetStage Value → Bool
target_rests t = is_at_rest (target_shows t)

source_rests_kept : (stage : SourceKept) → rests_out stage ≡ source_rests (source_stage_of stage)
source_rests_kept source.Free = refl
source_rests_kept _ = refl

target_rests_kept : (stage : TargetKept) (hand : Option Value)
    → rests_in stage ≡ target_rests (target_stage_of stage hand)
target_rests_kept target.Free hand = refl
target_rests_kept _ hand = refl

module _ {W : Type 0} (layout : Layout W) (meaning : ℕ → Value → Result (List Value) ℕ) (net : NetState) where
  -- the run, and its parts
  abbrev run : Run W
  run = run_of_net layout meaning net

  abbrev ends : ℕ → Ends
  ends = ends_of layout net

  abbrev node : ℕ → NodeState
  node = node_at net

  abbrev link : ℕ → Link
  link = link_in layout.links

  module _ (runs : IsRun layout) (keeps : NetKeeps layout meaning net) where
    -- nothing that an input posts is reserved
    none_reserved : (l b : ℕ) → l < length layout.links → (link l).source ≡ Input b → source_reserves (ends l).source.stage ≡ false
    none_reserved l b there from =
        false_from_ne_true (source_reserves (ends l).source.stage) (λ reserves.
        never_both (facts_in layout l).reserving
        (OnTrue_at (or_left (source_reserves (ends l).source.stage) (target_reserves (ends l).target.stage) reserves)
        (keeps.lines l there).in_order.plan.reserved)
        (input_takes_freely layout runs l b there from))

    -- each end of a block is that of a link, which tells where it stands and what it would do next
    record IsOutOf (b k l : ℕ) : Type 0 where
      there : l < length layout.links
      stage : (ends l).source.stage ≡ source_stage_of (stage_at (node b).block.exits k)
      peek : source_peek layout net l (link l).source ≡ next_out k (node b)

    out_end : (b k : ℕ) → b < length layout.blocks → k < length (node b).block.exits.ends
        → IsOutOf b k (end_at (node b).block.exits k).rule.id
    out_end b k low small =
        let is = end_out_is layout meaning b (node b).block (keeps.nodes b low).shape k small in
        let shares = shares_at layout meaning b (node b).block (keeps.nodes b low).shape k small in
        let l = (end_at (node b).block.exits k).rule.id in
        record {
          there = is.there;
          stage = ap (λ (from : LinkSource). (source_from layout net l from).stage) is.begins
              ∙ ap (λ (place : ℕ). (source_view place (node b)).stage) is.place
              ∙ ap (λ (view : SourceView Value). view.stage) (shared_view k (node b) shares);
          peek = ap (source_peek layout net l) is.begins ∙ ap (λ (place : ℕ). next_source place (node b)) is.place
              ∙ shared_next k (node b) shares;
        }

    -- the same of an end over which copies go
    record IsCopyOf (b k l : ℕ) : Type 0 where
      there : l < length layout.links
      stage : (ends l).source.stage ≡ source_stage_of (copy_stage (node b).block.copies k)
      peek : source_peek layout net l (link l).source ≡ next_copy k (node b)

    copy_end : (b k : ℕ) → b < length layout.blocks → k < length (node b).block.copies.ends
        → IsCopyOf b k (link_at (node b).block.copies k).rule.id
    copy_end b k low small =
        let law = keeps.nodes b low in
        let copying = copies_at layout meaning b (node b) law k small in
        let is = copy_out_is layout b (node b).block.copies (law.copies.copier copying).rules k small in
        let l = (link_at (node b).block.copies k).rule.id in
        record {
          there = is.there;
          stage = ap (λ (from : LinkSource). (source_from layout net l from).stage) is.begins
              ∙ ap (λ (place : ℕ). (source_view place (node b)).stage) is.place
              ∙ ap (λ (view : SourceView Value). view.stage) (copied_view k (node b) copying);
          peek = ap (source_peek layout net l) is.begins ∙ ap (λ (place : ℕ). next_source place (node b)) is.place
              ∙ copied_next k (node b) copying;
        }

    abbrev stage_in : ℕ → ℕ → ℕ → TargetStage Value
    stage_in p k b = (in_view p k (node b)).stage

    record IsInto (b p k l : ℕ) : Type 0 where
      there : l < length layout.links
      stage : (ends l).target.stage ≡ stage_in p k b
      peek : target_peek layout net l (link l).target ≡ next_in p k (node b)

    in_end : (b p k : ℕ) → b < length layout.blocks → p < length (node b).block.ports
        → k < length (port_at p (node b).block).ends
        → IsInto b p k (end_in k (port_at p (node b).block).ends).link
    in_end b p k low known small =
        let is = end_in_is layout meaning b (node b).block (keeps.nodes b low).shape p k known small in
        let l = (end_in k (port_at p (node b).block).ends).link in
        record {
          there = is.there;
          stage = ap (λ (into : LinkTarget). (target_from layout net l into).stage) is.leads
              ∙ ap (λ (place : ℕ). stage_in p place b) is.place;
          peek = ap (target_peek layout net l) is.leads ∙ ap (λ (place : ℕ). next_in p place (node b)) is.place;
        }

    input_stage : (l b : ℕ) → (link l).source ≡ Input b
        → (ends l).source.stage ≡ source_stage_of (input_at layout net b).stage
    input_stage l b from = ap (λ (from : LinkSource). (source_from layout net l from).stage) from

    seen_at : (l : ℕ) → l < length layout.links → SeenAt (ends l).phase (ends l).source.stage (ends l).target.stage
    seen_at l there =
        (looks_keep Value).seen_tells (facts_in layout l) (ends l).phase (ends l).slot
        (ends l).source (ends l).target (keeps.lines l there).in_order (keeps.lines l there).seen

    -- a message is kept only where the plan has a join that reserves
    holds_by_plan : (b : ℕ) → HoldsByPlan run ends b
    holds_by_plan b l p there into holds =
        sym (ap (reserves_in layout) into)
        ∙ OnTrue_at (or_right (source_reserves (ends l).source.stage) (target_reserves (ends l).target.stage)
        (held_reserves (ends l).target.stage holds)) (keeps.lines l there).in_order.plan.reserved

    -- where the links rest, so do the ends of blocks and inputs
    module _ (rest : (l : ℕ) → l < length layout.links → is_at_rest (ends l).phase ≡ true) where
      source_end_rests : (l : ℕ) → l < length layout.links → source_rests (ends l).source.stage ≡ true
      source_end_rests l there =
          source_shown is_at_rest (λ i. refl) (λ i. refl)
          (ends l).phase (ends l).source.stage (ends l).target.stage (seen_at l there)
          ∙ rest l there

      target_end_rests : (l : ℕ) → l < length layout.links → target_rests (ends l).target.stage ≡ true
      target_end_rests l there =
          ap is_at_rest (target_shown (ends l).phase (ends l).source.stage (ends l).target.stage (seen_at l there))
          ∙ rest l there

      ends_rest : (b : ℕ) → b < length layout.blocks → EndsRest (node b)
      ends_rest b low = record {
        ins = λ p k known small.
            let is = in_end b p k low known small in
            let end = end_in k (port_at p (node b).block).ends in
            target_rests_kept end.stage end.hand ∙ sym (ap target_rests is.stage) ∙ target_end_rests end.link is.there;
        outs = λ k small.
            let is = out_end b k low small in
            let end = end_at (node b).block.exits k in
            source_rests_kept end.stage ∙ sym (ap source_rests is.stage) ∙ source_end_rests end.rule.id is.there;
        copies = λ k small.
            let is = copy_end b k low small in
            let end = link_at (node b).block.copies k in
            source_rests_kept end.stage ∙ sym (ap source_rests is.stage) ∙ source_end_rests end.rule.id is.there;
      }

      input_end_rests : (l b : ℕ) → l < length layout.links → (link l).source ≡ Input b
          → rests_out (input_at layout net b).stage ≡ true
      input_end_rests l b there from =
          source_rests_kept (input_at layout net b).stage ∙ sym (ap source_rests (input_stage l b from))
          ∙ source_end_rests l there

    -- Where nothing may happen, no part has anything to do
    module _ (still : IsStill layout meaning net) where
      no_peek : (mine : Bool) (l : ℕ) (next : Move) → l < length layout.links → is_of_source next ≡ mine
          → peek_by layout mine net l (link l) ≡ Some next → ⊥
      no_peek mine l next there is peek =
          let own : peek_by layout (is_of_source next) net l (link l) ≡ Some next =
          ap (λ (b : Bool). peek_by layout b net l (link l)) is ∙ peek in
          let allowed = next_is_allowed layout meaning runs net l next keeps there own in
          still (NetEvent.at_link l next) (record { there = there; allowed = allowed; peek = own })

      source_done : (l : ℕ) → l < length layout.links → source_peek layout net l (link l).source ≡ None
      source_done l there =
          none_where (source_peek layout net l (link l).source)
          (λ next peek. no_peek true l next there (of_source layout net l next peek) peek)

      target_done : (l : ℕ) → l < length layout.links → target_peek layout net l (link l).target ≡ None
      target_done l there =
          none_where (target_peek layout net l (link l).target)
          (λ next peek. no_peek false l next there (of_target layout net l next peek) peek)

      nothing_to_do : (b : ℕ) → b < length layout.blocks → HasNothingToDo (node b)
      nothing_to_do b low = record {
        ins = λ p k known small.
            let is = in_end b p k low known small in
            sym is.peek ∙ target_done (end_in k (port_at p (node b).block).ends).link is.there;
        outs = λ k small.
            let is = out_end b k low small in
            sym is.peek ∙ source_done (end_at (node b).block.exits k).rule.id is.there;
        copies = λ k small.
            let is = copy_end b k low small in
            sym is.peek ∙ source_done (link_at (node b).block.copies k).rule.id is.there;
        makes = false_from_ne_true (may_make (node b).block)
            (λ would. still (NetEvent.make b) (record { there = low; would = would }));
        begins = false_from_ne_true (may_begin (node b).block)
            (λ would. still (NetEvent.begin b) (record { there = low; would = would }));
        ends = λ ticket.
            false_from_ne_true (may_end ticket (node b).block)
            (λ would. still (NetEvent.end_job b ticket) (record { there = low; would = would }));
        completes = λ p known.
            false_from_ne_true (may_complete p (node b).block)
            (λ would. still (NetEvent.complete b p) (record { there = low; port = known; would = would }));
        faults = none_where (next_fault (node b).block)
            (λ number is. still (NetEvent.fault b) (record { there = low; would = ap is_some is }));
        finishes = false_from_ne_true (may_finish (node b).block)
            (λ would. still (NetEvent.finish b) (record { there = low; would = would }));
      }

      input_done : (l b : ℕ) → l < length layout.links → (link l).source ≡ Input b
          → input_move (input_at layout net b) ≡ None
      input_done l b there from = sym (ap (source_peek layout net l) from) ∙ source_done l there

      exit_done : (l : ℕ) → l < length layout.links → (link l).target ≡ Exit → exit_move (exit_at layout net l) ≡ None
      exit_done l there into = sym (ap (target_peek layout net l) into) ∙ target_done l there

      input_not_asked : (l b : ℕ) → l < length layout.links → (link l).source ≡ Input b
          → is_asked (input_at layout net b).stage ≡ false
      input_not_asked l b there from =
          not_asked (input_at layout net b).stage
          (sym (ap source_reserves (input_stage l b from)) ∙ none_reserved l b there from)

      -- so all rests
      module _ (nodes_are_still : NodesAreStill W) (nodes_rest : NodesRest W) (inputs_are_parts : InputsAreParts W)
          (parts : PartsKeep run ends) where
        ends_are_still : EndsAreStill run ends
        ends_are_still = record {
          seen = λ l there. (keeps.lines l there).seen;
          nodes = λ b low.
              nodes_are_still run ends b (node b) low (keeps.nodes b low) (is_node layout meaning runs net (kept_in_order keeps) b)
              (λ l p there into. port_of_link layout meaning runs net (kept_in_order keeps) b l p low there into)
              (nothing_to_do b low) (holds_by_plan b);
          inputs = λ l b there from.
              inputs_are_parts.still run ends l b (input_at layout net b)
              (input_law layout meaning runs net (kept_in_order keeps) l b there from)
              (is_input layout meaning runs net (kept_in_order keeps) l b from) (input_not_asked l b there from)
              (input_done l b there from);
          exits = λ l there into.
              let exit = exit_at layout net l in
              let stage = ap (λ (target : LinkTarget). (target_from layout net l target).stage) into in
              record {
                receives = ap is_to_receive stage ∙ has_received (wants_one exit) exit.stage exit.hand (exit_done l there into);
                claims = ap is_holding stage ∙ never_holds exit.stage exit.hand (keeps.exits l there into).plain;
              };
        }

        pub links_are_at_rest : (l : ℕ) → l < length layout.links → is_at_rest (ends l).phase ≡ true
        links_are_at_rest = links_rest W run ends parts ends_are_still

        parts_rest : PartsRest run ends
        parts_rest = record {
          seen = λ l there. (keeps.lines l there).seen;
          links = links_are_at_rest;
          nodes = λ b low.
              nodes_rest run ends b (node b) low (keeps.nodes b low) (is_node layout meaning runs net (kept_in_order keeps) b)
              (λ l p there into. port_of_link layout meaning runs net (kept_in_order keeps) b l p low there into) (nothing_to_do b low)
              (ends_rest links_are_at_rest b low) (λ l there from. may_carry (link l).max (runs.well_formed.max l there));
          inputs = λ l b there from.
              inputs_are_parts.rests run ends l b (input_at layout net b)
              (input_law layout meaning runs net (kept_in_order keeps) l b there from)
              (is_input layout meaning runs net (kept_in_order keeps) l b from) (input_end_rests links_are_at_rest l b there from)
              (input_done l b there from);
        }

        is_quiet : Quiet run
        is_quiet = rests_compose W run ends parts parts_rest

pub still_is_quiet : {W : Type 0} → NodesAreStill W → NodesRest W → NodesAreLawful W → InputsAreParts W → StillIsQuiet W
still_is_quiet nodes_are_still nodes_rest nodes inputs layout meaning runs net keeps still =
    is_quiet layout meaning net runs keeps still nodes_are_still nodes_rest inputs
    (parts_keep layout meaning runs net (kept_in_order keeps) nodes inputs)
