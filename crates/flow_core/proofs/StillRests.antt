-- Where nothing may happen any more in a network in order, it is at rest. That has one proof at most, so it follows too where
-- the network merely is in order.
use Rattle.std.proofs.Common.{◌≡◌, ℕ, ◌<◌, true, List, length, Option, Result}
use Rattle.std.proofs.Math.Bool.{Bool-set}
use Rattle.std.proofs.Math.Logic.{∥∥₁_elim}
use Rattle.std.specs.Coded.{Coded-set, coded_list, coded_option}
use Rattle.flow_value.specs.contracts.value.Value as content
use Rattle.flow_value.specs.declared.value.Value.{Value}
use Rattle.flow_link.specs.declared.phase.Phase.{Phase}
use Rattle.flow_link.specs.declared.phase.Phase.TheVariants.{Idle, Postponed, Refused, Ended}
use Rattle.flow_link.specs.Layout.{Layout}
use Rattle.flow_link.specs.LinkOk.{CrossedAt, IsHome}
use Rattle.flow_lawful.specs.RestsByParts.{is_at_rest}
use Rattle.flow_link.specs.Views.{TargetStage}
use Rattle.flow_input.proofs.InputsAreParts.{inputs_are_parts}
use Rattle.flow_block_law.proofs.NodesAreLawful.{nodes_are_lawful}
use Rattle.flow_block_law.proofs.NodesAreStill.{nodes_are_still}
use Rattle.flow_block_law.proofs.NodesRest.{nodes_rest}
use Rattle.flow_core.specs.AtRest.{AtRest, LinkRests}
use Rattle.flow_core.specs.Keeps.{IsRun, NetKeeps}
use Rattle.flow_core.specs.State.{NetState, ends_of}
use Rattle.flow_core.specs.Statements.{IsStill, StillRests}
use Rattle.flow_core.proofs.KeptIsLawful.{kept_in_order, parts_keep}
use Rattle.flow_core.proofs.StillIsQuiet.{links_are_at_rest}

-- and what is known of the values then: the slot is empty, and all that was given was taken
home_at : (phase : Phase) (t : TargetStage Value) (slot : Option Value) (given taken : List Value)
    → is_at_rest phase ≡ true → CrossedAt phase t slot given taken → IsHome slot given taken
home_at Idle t slot given taken e h = h
home_at (Postponed i) t slot given taken e h = h
home_at Refused t slot given taken e h = h
home_at (Ended how) t slot given taken e h = h
home_at _ t slot given taken e h = absurd (cc)

module _ {W : Type 0} (layout : Layout W) (meaning : ℕ → Value → Result (List Value) ℕ) (runs : IsRun layout)
    (net : NetState) (keeps : NetKeeps layout meaning net) (still : IsStill layout meaning net) where
  link_rests : (l : ℕ) → l < length layout.links → LinkRests layout net l
  link_rests l there =
      let ends = ends_of layout net l in
      let rest = links_are_at_rest layout meaning net runs keeps still (nodes_are_still W) (nodes_rest W) (inputs_are_parts W)
      (parts_keep layout meaning runs net (kept_in_order keeps) (nodes_are_lawful W) (inputs_are_parts W)) l there in
      let home = home_at ends.phase ends.target.stage ends.slot ends.source.given ends.target.taken rest
      (keeps.lines l there).in_order.values in
      record { rest = rest; empty = home.empty; all_taken = home.all }

pub still_nets_rest : (W : Type 0) → StillRests W
still_nets_rest W layout meaning runs net keeps still = record { links = link_rests layout meaning runs net keeps still }

pub at_rest_prop : {W : Type 0} (layout : Layout W) (net : NetState) → IsProp (AtRest layout net)
at_rest_prop layout net =
    hlevel (Bool-set, Coded-set (coded_option content.the_row.coded), Coded-set (coded_list content.the_row.coded))

pub at_rest_merely : {W : Type 0} (layout : Layout W) (meaning : ℕ → Value → Result (List Value) ℕ) (net : NetState)
    → IsRun layout → ∥ NetKeeps layout meaning net ∥₁ → IsStill layout meaning net → AtRest layout net
at_rest_merely {W} layout meaning net runs kept still =
    ∥∥₁_elim kept (at_rest_prop layout net) (λ keeps. still_nets_rest W layout meaning runs net keeps still)
