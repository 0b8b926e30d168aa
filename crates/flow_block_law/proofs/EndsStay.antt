-- What a block makes, and how its ports fail or close, moves no end of a link.
use Rattle.std.proofs.Common.{◌≡◌, ℕ, ◌-◌, ◌<◌, true, List, [], ◌∷◌, length, Option, Some, None, Result, Ok, Err, refl, ap}
use Rattle.flow_value.specs.declared.value.Value.{Value}
use Rattle.flow_link.specs.declared.draft.BlockKind.{BlockKind}
use Rattle.flow_link.specs.declared.draft.BlockKind.TheVariants.{Action}
use Rattle.flow_link.specs.declared.trace.Outcome.{Outcome}
use Rattle.flow_intake.specs.Port.{PortState}
use Rattle.flow_intake.specs.Calls.{first_of, takes_next, gives_room, port_closes, port_fails}
use Rattle.flow_link.specs.Plan.{is_broadcast}
use Rattle.flow_spread.specs.Spread.{link_at as link_over, puts}
use Rattle.flow_block.specs.Copies.{copies_weight, none_waits}
use Rattle.flow_block_law.proofs.CopiesMove.{puts_move_none}
use Rattle.flow_group.specs.Round.{no_round}
use Rattle.flow_block.specs.Block.{BlockState, port_at, with_port, with_jobs, made_of, keeps_results, yields, makes_of, makes, makes_row, takes_group, copies_next, held_by, stops_by}
use Rattle.flow_block.specs.Jobs.{JobsState}
use Rattle.flow_block_law.proofs.KindsBuilt.{makes_by}
use Rattle.flow_block.proofs.PortsChange.{kept_at_one, port_of_map, kept_at_all}
use Rattle.flow_block_law.proofs.GroupPorts.{kept_by_group}
use Rattle.flow_block.specs.Groups.{makes_group}

-- what a block makes, and how its ports fail or close, moves no end
pub record EndsStay (block new : BlockState) : Type 0 where
  pub ins : (p : ℕ) → p < length block.ports → (port_at p new).ends ≡ (port_at p block).ends
  pub outs : new.exits.ends ≡ block.exits.ends
  pub copies : (k : ℕ) → k < length block.copies.ends → link_over new.copies k ≡ link_over block.copies k

pub keeping_stays : (kind : BlockKind) (values : List Value) (block : BlockState)
    → EndsStay block (keeps_results kind values block)
keeping_stays Action values block =
    record {
      ins = λ p below.
          kept_at_one (λ (port : PortState). port.ends) block.ports 0 p
          (gives_room 1 (takes_next (port_at 0 block))) refl;
      outs = refl;
      copies = λ k there. refl;
    }
keeping_stays _ [] block =
    record {
      ins = λ p below.
          kept_at_one (λ (port : PortState). port.ends) block.ports 0 p
          (gives_room 1 (takes_next (port_at 0 block))) refl;
      outs = refl;
      copies = λ k there. refl;
    }
keeping_stays _ (value ∷ values) block = record {
  ins = λ p below. kept_at_one (λ (port : PortState). port.ends) block.ports 0 p (takes_next (port_at 0 block)) refl;
  outs = refl;
  copies = λ k there. refl;
}

pub yielding_stays : (result : Result (List Value) ℕ) (block : BlockState) → EndsStay block (yields result block)
yielding_stays (Ok values) block = keeping_stays block.kind values block
yielding_stays (Err number) block =
    record {
      ins = λ p below. ap (λ (port : PortState). port.ends) (port_of_map port_fails block.ports p below);
      outs = refl;
      copies = λ k there. refl;
    }

first_stays : (result : Value → Result (List Value) ℕ) (message : Option Value) (block : BlockState)
    → EndsStay block (makes_of result message block)
first_stays result None block = record { ins = λ p below. refl; outs = refl; copies = λ k there. refl }
first_stays result (Some value) block = yielding_stays (made_of block.kind result value) block

row_stays : (block : BlockState) → EndsStay block (makes_row block)
row_stays block = record {
  ins = λ p below.
      kept_at_one (λ (port : PortState). port.ends) block.ports 0 p (takes_group block.size (port_at 0 block)) refl;
  outs = refl;
  copies = λ k there. refl;
}

-- the message that waits longest is copied from now on
pub copied_stays : (first : Option Value) (block : BlockState) → none_waits block.copies ≡ true → EndsStay block (copies_next first block)
copied_stays None block none = record { ins = λ p below. refl; outs = refl; copies = λ k there. refl }
copied_stays (Some value) block none =
    let room = 1 - copies_weight (puts value block.copies) in
    record {
      ins = λ p below.
          kept_at_one (λ (port : PortState). port.ends) block.ports 0 p (gives_room room (takes_next (port_at 0 block))) refl;
      outs = refl;
      copies = λ k there. puts_move_none value (record { block = block; journal = []; grouped = 0; round = no_round }) k there none;
    }

pub group_stays : (size weight : ℕ) (order : List ℕ) (block : BlockState) → EndsStay block (makes_group size weight order block)
group_stays size weight order block = record {
  ins = λ p below. kept_by_group size order (λ (port : PortState). port.ends) block.ports p (λ count port. refl);
  outs = refl;
  copies = λ k there. refl;
}

pub making_stays : (result : Value → Result (List Value) ℕ) (block : BlockState)
    → (is_broadcast block.kind ≡ true → none_waits block.copies ≡ true) → EndsStay block (makes result block)
making_stays result block none =
    makes_by (EndsStay block) result block (λ batch. row_stays block)
    (λ join. record {
      ins = λ p below. kept_at_all (λ (port : PortState). port.ends) takes_next block.ports p (λ port. refl);
      outs = refl;
      copies = λ k there. refl;
    })
    (λ broadcast. copied_stays (first_of (held_by block)) block (none broadcast))
    (λ other alone single. first_stays result (first_of (held_by block)) block)

pub jobs_stay : (block : BlockState) (change : JobsState → JobsState) → EndsStay block (with_jobs change block)
jobs_stay block change = record { ins = λ p below. refl; outs = refl; copies = λ k there. refl }

pub closing_stays : (block : BlockState) (p : ℕ) → EndsStay block (with_port p port_closes block)
closing_stays block p = record {
  ins = λ q below. kept_at_one (λ (port : PortState). port.ends) block.ports p q (port_closes (port_at p block)) refl;
  outs = refl;
  copies = λ k there. refl;
}

pub stopping_stays : (block : BlockState) (how : Outcome) → EndsStay block (stops_by how block)
stopping_stays block how =
    record {
      ins = λ p below. ap (λ (port : PortState). port.ends) (port_of_map port_closes block.ports p below);
      outs = refl;
      copies = λ k there. refl;
    }
