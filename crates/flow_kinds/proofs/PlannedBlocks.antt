-- A block of a plan is of its kind; and a batched join or one that reserves is in order, before anything has come.
use Rattle.std.proofs.Common.{◌≡◌, ℕ, Bool, true, false, List, [], ◌∷◌, length, map, Option, Some, refl, ap, sym, subst, ◌∙◌, zero, suc, arith}
use Rattle.flow_link.specs.declared.draft.BlockKind.{BlockKind}
use Rattle.flow_link.specs.declared.draft.BlockKind.TheVariants as kinds
use Rattle.flow_link.specs.Layout.{Layout}
use Rattle.flow_link.specs.Lists.{below}
use Rattle.flow_link.specs.Plan.{port_count, is_write_once, is_reserving, reserves_by_kind}
use Rattle.flow_intake.specs.Port.{PortState}
use Rattle.flow_group.proofs.RoundGoes.{pass_at}
use Rattle.flow_block.specs.Block.{port_in, has_ports}
use Rattle.flow_block.specs.JournalFits.{ports_due}
use Rattle.flow_block.specs.Planned.{room_by, port_of_plan, sources_of, fresh_node, planned_block}
use Rattle.flow_block.proofs.PlannedBlocks.{def, ports_in, one_port, none_waits, none_due}
use Rattle.flow_kinds.specs.BatchedJoin.{JoinFits}
use Rattle.flow_kinds.specs.Kinds.{IsOf}
use Rattle.flow_kinds.specs.ReservingJoin.{ReservingFits, all_reserve, none_queued}
use Rattle.flow_kinds.proofs.FreshRound.{round_fresh}
use Rattle.flow_kinds.proofs.OrderTells.{tells_fresh}

pub once_alone : (kind : BlockKind) → is_write_once kind ≡ true → has_ports kind ≡ false
once_alone kinds.WriteOnce e = refl
once_alone _ e = absurd (cc)

pub one_room : (kind : BlockKind) (capacity : Option ℕ) → is_write_once kind ≡ true → room_by kind capacity ≡ Some 1
one_room kinds.WriteOnce capacity e = refl
one_room _ capacity e = absurd (cc)

-- only a join reserves
joins : (kind : BlockKind) (greedy : Option Bool) → reserves_by_kind kind greedy ≡ true → kind ≡ kinds.Join
joins kinds.Join greedy e = refl
joins _ greedy e = absurd (cc)

module _ {W : Type 0} (layout : Layout W) (b : ℕ) where
  freely_at : (numbers : List ℕ) (p : ℕ) → is_reserving (def layout b) ≡ false
      → (port_in (map (port_of_plan layout b) numbers) p).reserves ≡ false
  freely_at [] p greedy = refl
  freely_at (q ∷ numbers) zero greedy = greedy
  freely_at (q ∷ numbers) (suc p) greedy = freely_at numbers p greedy

  none_queued_at : (numbers : List ℕ) → none_queued (map (port_of_plan layout b) numbers) ≡ true
  none_queued_at [] = refl
  none_queued_at (p ∷ numbers) = none_queued_at numbers

  each_reserves : (numbers : List ℕ) → is_reserving (def layout b) ≡ true → all_reserve (map (port_of_plan layout b) numbers) ≡ true
  each_reserves [] reserving = refl
  each_reserves (p ∷ numbers) reserving = rw reserving (each_reserves numbers reserving)

  pub group_fits : (def layout b).kind ≡ kinds.BatchedJoin → JoinFits (planned_block layout b) (record { ports = []; room = 0 })
  group_fits same = record {
    kind_is = same;
    tells = tells_fresh (planned_block layout b).ports (none_waits layout b);
    room = let due : ports_due (planned_block layout b).ports ≡ 0 = none_due layout b in omega (arith, due);
  }

  pub round_fits : is_reserving (def layout b) ≡ true → ReservingFits (planned_block layout b) (fresh_node layout b).round
  round_fits reserving =
      let ports = (planned_block layout b).ports in
      let numbers = below (port_count (def layout b)) in
      record {
        kind_is = joins (def layout b).kind (def layout b).greedy reserving;
        reserves = λ p l. pass_at (λ (port : PortState). port.reserves) ports p l (each_reserves numbers reserving);
        rounds = round_fresh (sources_of layout b) ports (none_waits layout b) (none_due layout b) (none_queued_at numbers);
      }

  pub planned_is : (kind : BlockKind) → (def layout b).kind ≡ kind → is_reserving (def layout b) ≡ false → IsOf kind (planned_block layout b)
  planned_is kind same greedy = record {
    kind_is = same;
    alone = λ e.
        subst (λ (n : ℕ). length (ports_in layout b n) ≡ 1)
        (sym (one_port layout b (subst (λ (k : BlockKind). has_ports k ≡ false) (sym same) e))) refl;
    once = λ e.
        let here : is_write_once (def layout b).kind ≡ true = ap is_write_once same ∙ e in
        subst (λ (n : ℕ). (port_in (ports_in layout b n) 0).capacity ≡ Some 1) (sym (one_port layout b (once_alone (def layout b).kind here)))
        (one_room (def layout b).kind (def layout b).capacity here);
    freely = λ p. freely_at (below (port_count (def layout b))) p greedy;
  }
