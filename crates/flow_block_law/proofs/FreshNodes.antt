-- A node in which nothing has happened is in order.
use Rattle.std.proofs.Common.{◌≡◌, ℕ, zero, suc, ◌+◌, ◌<◌, cond, Bool, true, false, List, [], ◌∷◌, length, map, Option, Some, None, is_some, Result, refl, ap, sym, ◌∙◌, subst, arith, ◌&&◌}
use Rattle.std.proofs.lemmas.Bool.{or_right}
use Rattle.std.proofs.lemmas.List.{length-map}
use Rattle.flow_value.specs.declared.value.Value.{Value}
use Rattle.flow_link.specs.declared.draft.BlockKind.{BlockKind}
use Rattle.flow_link.specs.declared.draft.BlockKind.TheVariants.{Buffer, Broadcast, WriteOnce, Action, Transform, TransformMany, Batch}
use Rattle.flow_link.specs.declared.stage.Refusal.TheVariants.{OwnFault}
use Rattle.flow_link.specs.declared.stage.TargetStage.TheVariants.{Refused}
use Rattle.flow_link.specs.Facts.{facts_in}
use Rattle.flow_link.specs.Layout.{Layout}
use Rattle.flow_link.specs.LinkOk.{IsWithin}
use Rattle.flow_link.specs.Lists.{numbers_from, below}
use Rattle.flow_link.specs.Plan.{block_in, port_count, is_one_taker, is_write_once}
use Rattle.flow_link.specs.Trace.{has_ended}
use Rattle.flow_link.proofs.ListTests.{length_numbers}
use Rattle.flow_intake.specs.Port.{EndState, PortState, fresh_end, end_in, stage_at as port_stage, is_coming, coming}
use Rattle.flow_intake.specs.PortLaw.{InLaw, PortLaw, has_ended as has_port_ended}
use Rattle.flow_intake.specs.Ended.{fault_seen}
use Rattle.flow_outlet.specs.declared.ends.LinkRule.{LinkRule}
use Rattle.flow_outlet.specs.declared.ends.OutEnd.{OutEnd}
use Rattle.flow_outlet.specs.End.{fresh_end as fresh_out, end_in as out_in}
use Rattle.flow_outlet.proofs.LawKept.{calls_keep_law}
use Rattle.flow_outlet.specs.Outlet.{is_empty, fresh_outlet}
use Rattle.flow_spread.specs.Copied.{Course}
use Rattle.flow_spread.specs.End.{fresh_end as fresh_copy, end_in as copy_in}
use Rattle.flow_spread.specs.Spread.{fresh_spread}
use Rattle.flow_group.specs.declared.round.RoundStep.TheVariants as steps
use Rattle.flow_group.specs.declared.round.Source.{Source}
use Rattle.flow_group.specs.Round.{none_comes, is_asked, is_taken, front_stage}
use Rattle.flow_group.specs.RoundLaw.{PortInRound, takes_freely}
use Rattle.flow_block.specs.Block.{port_in, held_by}
use Rattle.flow_block.proofs.RoomFits.{weighs_fresh}
use Rattle.flow_block_law.specs.Copier.{Copier, CopiedOver}
use Rattle.flow_block.specs.Copies.{shared_rules, copied_rules, fresh_copies, copies_weight}
use Rattle.flow_block_law.specs.Fresh.{FreshInOrder}
use Rattle.flow_block_law.specs.NodeLaw.{InRound, MakesAs, WeighsAs, PortAsPlanned, GaveOver, weighed, rows_weighed, partly_weighed, places_out}
use Rattle.flow_block.specs.Peeks.{is_pending}
use Rattle.flow_block.specs.Planned.{block_makes, links_to, links_from, sources_of, rule_of, port_of_plan, fresh_node, room_of}
use Rattle.flow_block_law.proofs.FreshGroups.{fresh_tuples}
use Rattle.flow_block_law.proofs.PlacesOfCopies.{rule_at_end}
use Rattle.flow_block_law.proofs.EndsTell.{none_come}
use Rattle.flow_block_law.proofs.GroupsRest.{groups_begin}

-- each end is a fresh one
in_ends_fresh : (links : List ℕ) (P : EndState → Type 0) → ((l : ℕ) → P (fresh_end l)) → (k : ℕ)
    → P (end_in k (map fresh_end links))
in_ends_fresh [] P each k = each 0
in_ends_fresh (l ∷ links) P each zero = each l
in_ends_fresh (l ∷ links) P each (suc k) = in_ends_fresh links P each k

out_ends_fresh : (rules : List LinkRule) (P : OutEnd → Type 0) → ((rule : LinkRule) → P (fresh_out rule))
    → (k : ℕ) → k < length (map fresh_out rules) → P (out_in (map fresh_out rules) k)
out_ends_fresh [] P each k there = absurd (omega arith)
out_ends_fresh (rule ∷ rules) P each zero there = each rule
out_ends_fresh (rule ∷ rules) P each (suc k) there = out_ends_fresh rules P each k (omega arith)

-- they have the links and the rules that they were made with
links_kept : (links : List ℕ) → map (λ (end : EndState). end.link) (map fresh_end links) ≡ links
links_kept [] = refl
links_kept (l ∷ links) = ap (λ (ls : List ℕ). l ∷ ls) (links_kept links)

rules_kept : (rules : List LinkRule) → map (λ (end : OutEnd). end.rule) (map fresh_out rules) ≡ rules
rules_kept [] = refl
rules_kept (rule ∷ rules) = ap (λ (rs : List LinkRule). rule ∷ rs) (rules_kept rules)

within_none : (capacity : Option ℕ) → IsWithin capacity 0
within_none None = tt
within_none (Some c) = omega arith

nothing_weighed : (capacity : Option ℕ) (next : ℕ) → [] ≡ weighed capacity next []
nothing_weighed None next = refl
nothing_weighed (Some c) next = refl

no_rows_weighed : (capacity : Option ℕ) (next : ℕ) → [] ≡ rows_weighed capacity next []
no_rows_weighed None next = refl
no_rows_weighed (Some c) next = refl

nothing_partly_given : (capacity : Option ℕ) → [] ≡ partly_weighed capacity 0 []
nothing_partly_given None = refl
nothing_partly_given (Some c) = refl

nothing_made : (result : Value → Result (List Value) ℕ) (kind : BlockKind) → MakesAs result kind [] [] [] [] []
nothing_made result Buffer = refl
nothing_made result Action = (record { done = []; results = []; taken_is = refl; worked = refl; all = refl }, refl)
nothing_made result Transform = record { done = []; results = []; taken_is = refl; worked = refl; all = refl }
nothing_made result TransformMany = record { done = []; results = []; taken_is = refl; worked = refl; all = refl }
nothing_made result Batch = refl
nothing_made result _ = tt

weighs_nothing : (result : Value → Result (List Value) ℕ) (kind : BlockKind) (capacity : Option ℕ) (next : ℕ)
    → WeighsAs result kind capacity [] [] [] [] next []
weighs_nothing result TransformMany capacity next = record {
  works = record { done = []; results = []; taken_is = refl; worked = refl; all = refl };
  groups_are = nothing_partly_given capacity;
}
weighs_nothing result Batch capacity next = no_rows_weighed capacity next
weighs_nothing result _ capacity next = nothing_weighed capacity next

module _ {W : Type 0} (layout : Layout W) (b : ℕ) where
  -- each port is a fresh one of the plan
  abbrev ports : List PortState
  ports = map (port_of_plan layout b) (below (port_count (block_in layout.blocks b)))

  port_from : (first count p : ℕ) → p < count
      → port_in (map (port_of_plan layout b) (numbers_from first count)) p ≡ port_of_plan layout b (first + p)
  port_from first zero p small = absurd (omega arith)
  port_from first (suc count) zero small = ap (port_of_plan layout b) (omega arith)
  port_from first (suc count) (suc p) small =
      let next : suc first + p ≡ first + suc p = omega arith in
      port_from (suc first) count p (omega arith) ∙ ap (port_of_plan layout b) next

  count_is : length ports ≡ port_count (block_in layout.blocks b)
  count_is =
      length-map (below (port_count (block_in layout.blocks b))) (port_of_plan layout b)
      ∙ length_numbers 0 (port_count (block_in layout.blocks b))

  port_is : (p : ℕ) → p < length ports → port_in ports p ≡ port_of_plan layout b p
  port_is p small =
      let there : p < port_count (block_in layout.blocks b) = omega (arith, small, count_is) in
      let same : 0 + p ≡ p = omega arith in
      port_from 0 (port_count (block_in layout.blocks b)) p there ∙ ap (port_of_plan layout b) same

  -- what holds of each fresh port
  each_port : (P : ℕ → PortState → Type 0) → ((p : ℕ) → P p (port_of_plan layout b p)) → (p : ℕ) → p < length ports
      → P p (port_in ports p)
  each_port P each p small = subst (P p) (sym (port_is p small)) (each p)

  nothing_held : (ps : List ℕ) → (port_in (map (port_of_plan layout b) ps) 0).waiting ≡ []
  nothing_held [] = refl
  nothing_held (p ∷ ps) = refl

  port_in_order : (p : ℕ) → PortLaw (facts_in layout) 0 (port_of_plan layout b p)
  port_in_order p = record {
    each = λ k there. in_ends_fresh (links_to layout b p)
        (λ (end : EndState). InLaw (facts_in layout end.link) 0 None [] k end)
        (λ l. record {
          queued = refl;
          hand = refl;
          refused = λ e. absurd (cc);
          coming = λ e. absurd (cc);
          put_off = λ e. absurd (cc);
        }) k;
    distinct = tt;
    known = tt;
    room =
        let none =
        none_come (map fresh_end (links_to layout b p))
        (λ k small. in_ends_fresh (links_to layout b p) (λ (end : EndState). is_coming end.stage ≡ false)
        (λ l. refl) k) in
        rw none (within_none (room_of (block_in layout.blocks b)));
    waits = λ some. omega arith;
    took = omega arith;
  }

  -- nothing comes, and nothing waits
  none_coming : (p : ℕ) → coming (port_of_plan layout b p) ≡ 0
  none_coming p =
      none_come (map fresh_end (links_to layout b p))
      (λ k small. in_ends_fresh (links_to layout b p) (λ (end : EndState). is_coming end.stage ≡ false) (λ l. refl) k)

  none_comes_yet : (ps : List ℕ) → none_comes (map (port_of_plan layout b) ps) ≡ true
  none_comes_yet [] = refl
  none_comes_yet (p ∷ ps) = rw (none_coming p, none_comes_yet ps) refl

  port_in_round : (p : ℕ) → PortInRound steps.Asks (port_of_plan layout b p)
  port_in_round p = record {
    freely = λ k there. in_ends_fresh (links_to layout b p) (λ (end : EndState). takes_freely end.stage ≡ false) (λ l. refl) k;
    front = λ k there asked. absurd (in_ends_fresh (links_to layout b p) (λ (end : EndState). is_asked end.stage ≡ true → ⊥) (λ l e. cc) k asked);
    one = let none = none_coming p in omega (arith, none);
    taken = λ k there taken. absurd (in_ends_fresh (links_to layout b p) (λ (end : EndState). is_taken end.stage ≡ true → ⊥) (λ l e. cc) k taken);
    none_asked = λ is. absurd (let no : steps.Asks ≡ steps.Claims = is in cc);
  }

  round_in_order : (sources : List Source) → InRound (record { sources = sources; step = steps.Asks }) ports []
  round_in_order sources = record {
    law = record {
      each = each_port (λ p port. PortInRound steps.Asks port) port_in_round;
      under_way = λ not_asks. absurd (not_asks refl);
      there = λ _ comes.
          absurd (let wrong : true ≡ false = sym (none_comes_yet (below (port_count (block_in layout.blocks b)))) ∙ comes in cc);
      level = λ p q low_p low_q. refl;
    };
    turns = λ _ p q low_p low_q asked waits. absurd (each_port (λ r port. is_asked (front_stage port) ≡ true → ⊥) (λ r e. cc) p low_p asked);
  }

-- a block that shares its messages out copies none
fresh_shared : (kind : BlockKind) (rules : List LinkRule) → is_one_taker kind ≡ true → fresh_copies kind rules ≡ fresh_spread false [] 1
fresh_shared Broadcast rules e = absurd (cc)
fresh_shared WriteOnce rules e = absurd (cc)
fresh_shared _ rules e = refl

-- each end over which copies go is a fresh one
copy_ends_fresh : (rules : List LinkRule) (P : OutEnd → Type 0) → ((rule : LinkRule) → P (fresh_out rule)) → (k : ℕ)
    → k < length (map fresh_copy rules) → P (copy_in (map fresh_copy rules) k).link
copy_ends_fresh [] P each k there = absurd (omega (arith, there))
copy_ends_fresh (rule ∷ rules) P each zero there = each rule
copy_ends_fresh (rule ∷ rules) P each (suc k) there = copy_ends_fresh rules P each k (omega (arith, there))

copy_rules_kept : (rules : List LinkRule) → map rule_at_end (map fresh_copy rules) ≡ rules
copy_rules_kept [] = refl
copy_rules_kept (rule ∷ rules) = ap (λ (rs : List LinkRule). rule ∷ rs) (copy_rules_kept rules)

fresh_copier : {W : Type 0} (layout : Layout W) (b : ℕ) → is_one_taker (block_in layout.blocks b).kind ≡ false
    → Copier layout b (fresh_node layout b).block []
fresh_copier layout b copying =
    let rules = map (rule_of layout) (links_from layout b) in
    let kind = (block_in layout.blocks b).kind in
    let node = fresh_node layout b in
    record {
      idle_exits = ap (λ (sharing : Bool). fresh_outlet (cond sharing rules []) 1) copying;
      rules = copy_rules_kept (copied_rules kind rules) ∙ ap (λ (sharing : Bool). cond sharing [] rules) copying;
      calls = [];
      allowed = tt;
      pending = false;
      faults = λ e. absurd (cc);
      leads_here = ap
          (λ (sharing : Bool). let run : Course = record {
            spread = fresh_spread (is_write_once kind) (cond sharing [] rules) 1;
            pending = false;
            stopped = None;
          } in run) (sym copying);
      took_is = sym (nothing_held layout b (below (port_count (block_in layout.blocks b))));
      gave_is = λ k there. refl;
      each = copy_ends_fresh (copied_rules kind rules) (CopiedOver [])
          (λ rule. record { admitted = refl; counted = λ some. refl; some = λ more. absurd (omega (arith, more)) });
    }

pub fresh_in_order : (W : Type 0) → FreshInOrder W
fresh_in_order W layout meaning b never some lane size group unlimited =
    let block = block_in layout.blocks b in
    let rules = map (rule_of layout) (links_from layout b) in
    let shared = shared_rules block.kind rules in
    let node = fresh_node layout b in
    let none_copied : copies_weight node.block.copies ≡ 0 = weighs_fresh block.kind rules in
    record {
      by_number = never;
      shape = record {
        kind_is = refl;
        size_is = refl;
        some_size = size;
        some_group = group;
        no_capacity = unlimited;
        port_count_is = count_is layout b;
        some_port = subst (λ (count : ℕ). 0 < count) (sym (count_is layout b)) some;
        ports = each_port layout b (PortAsPlanned layout meaning b)
            (λ p. record { links = links_kept (links_to layout b p); capacity = refl; reserves_is = refl });
        rules = rules_kept shared;
      };
      ports = each_port layout b (λ p port. PortLaw (facts_in layout) 0 port) (port_in_order layout b);
      exits = record {
        law = calls_keep_law.fresh (is_pending node.block) None shared 1 (omega arith) (omega arith);
      };
      copies = record {
        idle = fresh_shared block.kind rules;
        copier = fresh_copier layout b;
      };
      none_held = λ once. nothing_held layout b (below (port_count block));
      gave = λ shares. record {
        each = out_ends_fresh shared (GaveOver layout meaning b [])
            (λ rule. record { admitted = refl; counted = λ some. refl });
        next_is = refl;
        in_order = refl;
      };
      makes = record {
        makes = subst (λ (held : List Value). MakesAs (block_makes layout meaning b) block.kind [] held [] [] [])
            (sym (nothing_held layout b (below (port_count block))))
            (nothing_made (block_makes layout meaning b) block.kind);
        fault_is = λ number e. absurd (cc);
      };
      rows = λ batch. record { groups = refl; whole_before = refl; whole = or_right (false && is_empty (held_by node.block)) true refl };
      tuples = λ join. fresh_tuples layout b;
      round = record { sources_are = refl; in_round = λ reserving. round_in_order layout b (sources_of layout b) };
      jobs = record {
        lanes_are = refl;
        some_lane = lane;
        within = omega arith;
        only_works = λ idle. refl;
        results = tt;
        drained = λ well. refl;
        counted = λ works.
            ap (λ (held : List Value). 0 + length held) (nothing_held layout b (below (port_count block)));
      };
      load = λ grouped. record {
        groups = subst (λ (held : List Value). WeighsAs (block_makes layout meaning b) block.kind (room_of block) [] held
            [] [] 1 []) (sym (nothing_held layout b (below (port_count block))))
            (weighs_nothing (block_makes layout meaning b) block.kind (room_of block) 1);
        no_room = refl;
        load = each_port layout b
            (λ p port. is_some (room_of block) ≡ true → port.load ≡ length port.waiting + places_out node.block)
            (λ p some. omega (arith, none_copied));
      };
      groups = λ batched. (groups_begin W layout b).groups;
      group_load = λ batched. (groups_begin W layout b).load;
      marks = record { own = refl; last = refl; once = refl };
      ends = record {
        stopped_is = refl;
        ended_is = each_port layout b (λ p port. has_port_ended port.refusing ≡ has_ended p []) (λ p. refl);
        failed = λ e p small. absurd (cc);
        own_fault = each_port layout b (λ p port. port.refusing ≡ Some OwnFault → is_some node.block.fault ≡ true)
            (λ p e. absurd (cc));
        refused = λ p k small there why e. absurd (each_port layout b (λ p port. port_stage k port ≡ Refused why → ⊥)
            (λ q. in_ends_fresh (links_to layout b q) (λ (end : EndState). end.stage ≡ Refused why → ⊥) (λ l f. cc) k)
            p small e);
        numbered = λ p k small there number e. absurd (each_port layout b (λ p port. fault_seen (port_stage k port) ≡ Some number → ⊥)
            (λ q. in_ends_fresh (links_to layout b q) (λ (end : EndState). fault_seen end.stage ≡ Some number → ⊥) (λ l f. cc) k)
            p small e);
        at_rest = λ e. absurd (cc);
        done_empty = λ e. absurd (cc);
        done_complete = λ e. absurd (cc);
        complete_cause = λ p small e none. absurd (cc);
        fault_cause = λ number e. absurd (cc);
        faulted_by = λ number e. absurd (cc);
      };
    }
