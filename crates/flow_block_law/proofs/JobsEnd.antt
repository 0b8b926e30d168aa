-- A job that ends keeps its node in order. Where its result is the next one, the block makes its outputs of that message and of those
-- behind it whose results are there, one after another, as if nothing had come back of them before.
use Rattle.std.proofs.Common.{◌<◌, ◌≡◌, ℕ, ◌+◌, ◌≤◌, ◌^◌, leb, cond, Bool, true, false, List, [], ◌∷◌, ◌++◌, length, drop, set, get_or, Option, Some, None, is_none, Result, Ok, Err, refl, ap, sym, subst, ◌∙◌, arith, length-append}
use Rattle.std.proofs.lemmas.Bool.{and_parts, ltb-false, le-ltb}
use Rattle.flow_value.specs.declared.value.Value.{Value}
use Rattle.flow_link.specs.declared.draft.BlockKind.{BlockKind}
use Rattle.flow_link.specs.declared.draft.BlockKind.TheVariants.{Buffer, Action}
use Rattle.flow_link.specs.declared.trace.Mark.{Mark}
use Rattle.flow_link.specs.Layout.{Layout}
use Rattle.flow_link.specs.Plan.{has_work, is_broadcast}
use Rattle.flow_link.specs.declared.kinds.BlockUnit.{BlockUnit}
use Rattle.flow_link.proofs.KindsTell.{kind_tells, works_on_messages}
use Rattle.flow_link.proofs.ListTests.{never_both}
use Rattle.flow_intake.specs.Port.{PortState, end_in}
use Rattle.flow_intake.specs.Calls.{first_of, port_fails}
use Rattle.flow_outlet.specs.End.{end_in as out_end}
use Rattle.flow_outlet.specs.Outlet.{OutletState, lacks_ids, puts}
use Rattle.flow_block.specs.Block.{BlockState, port_at, unit_weight, with_jobs, job_message, held_by, put_by_kind, values_of_result, put_of, fails, keeps_results, yields, makes_of, makes, yields_all, yields_where, put_where, put_next, has_ports, is_batched_join, makes_by_unit, puts_by_unit}
use Rattle.flow_block.specs.Jobs.{Slot, JobsState, no_slot, out_count, place_of, is_out, is_front_back, brings, comes_out, AreOf}
use Rattle.flow_block_law.specs.JobsEnd.{JobsEndWell, MayEndJob, EndsWell, ViewsStay, after_job, job_result}
use Rattle.flow_group.specs.Round.{RoundState}
use Rattle.flow_block.specs.Node.{NodeState, NodeCall, with_block, view_of_in, view_of_out, makes_next_group, next_group_in}
use Rattle.flow_block_law.specs.NodeKeeps.{NodesKept, MayMake}
use Rattle.flow_block_law.specs.NodeLaw.{NodeLaw}
use Rattle.flow_block.specs.Planned.{block_makes}
use Rattle.flow_block_law.proofs.EndsHold.{jobs_change as ends_stay}
use Rattle.flow_block_law.proofs.JobsHold.{back_at, makes_by_work}
use Rattle.flow_block_law.proofs.CopierHolds.{jobs_change}
use Rattle.flow_block.proofs.LanesBusy.{out_set}
use Rattle.flow_block_law.proofs.KindsBuilt.{has_one_port}
use Rattle.flow_block_law.proofs.LoadHolds.{jobs_change as load_stays}
use Rattle.flow_block_law.proofs.MakesHold.{jobs_change as makes_stay}
use Rattle.flow_block_law.proofs.NodesKept.{nodes_kept}
use Rattle.flow_block.proofs.PortsChange.{kept_at_all}
use Rattle.flow_block_law.proofs.ShapeHolds.{exits_move as shape_stays}
use Rattle.flow_link.proofs.TestsTell.{none_is}
use Rattle.flow_block.proofs.ResultsKept.{keeps_goes, ports_stay, held_then}
use Rattle.flow_block_law.proofs.EndsStay.{EndsStay, keeping_stays, yielding_stays}

-- Other slots

abbrev pub with_slots : List Slot → BlockState → BlockState
with_slots slots block = with_jobs (λ jobs. record jobs { slots = slots }) block

-- What a block with a function makes is the same whatever its slots are

pub keeps_slots : (kind : BlockKind) (values : List Value) (slots : List Slot) (block : BlockState) → has_work kind ≡ true
    → keeps_results kind values (with_slots slots block) ≡ with_slots (drop 1 slots) (keeps_results kind values block)
keeps_slots Action values slots block works = refl
keeps_slots Buffer values slots block works = absurd (cc)
keeps_slots _ [] slots block works = refl
keeps_slots _ (value ∷ values) slots block works = refl

-- and it has its lanes still
keeps_lanes : (kind : BlockKind) (values : List Value) (block : BlockState)
    → (keeps_results kind values block).jobs.lanes ≡ block.jobs.lanes
keeps_lanes Action values block = refl
keeps_lanes Buffer [] block = refl
keeps_lanes Buffer (value ∷ values) block = refl
keeps_lanes _ [] block = refl
keeps_lanes _ (value ∷ values) block = refl

-- Ids for all that comes out are ids for what comes out first, and for the rest behind it

lacks_front : (values more : List Value) (o : OutletState) → lacks_ids (values ++ more) o ≡ false
    → lacks_ids values o ≡ false
lacks_front [] more o has = refl
lacks_front (value ∷ values) more o has =
    let fits = ltb-false (2 ^ 59) (o.next + length o.left + o.spare + length (value ∷ values ++ more)) has in
    le-ltb (2 ^ 59) (o.next + length o.left + o.spare + length (value ∷ values))
    (omega (arith, fits, length-append (value ∷ values) more))

lacks_rest : (values more : List Value) (weight : ℕ) (o : OutletState) → lacks_ids (values ++ more) o ≡ false
    → lacks_ids more (puts values weight o) ≡ false
lacks_rest values [] weight o has = refl
lacks_rest [] (next ∷ more) weight o has =
    let fits = ltb-false (2 ^ 59) (o.next + length o.left + o.spare + length (next ∷ more)) has in
    le-ltb (2 ^ 59) (o.next + length (o.left ++ []) + o.spare + length (next ∷ more))
    (omega (arith, fits, length-append o.left []))
lacks_rest (value ∷ values) (next ∷ more) weight o has =
    let fits = ltb-false (2 ^ 59) (o.next + length o.left + o.spare + length (value ∷ values ++ next ∷ more)) has in
    le-ltb (2 ^ 59) (o.next + length (o.left ++ value ∷ values) + o.spare + length (next ∷ more))
    (omega (arith, fits, length-append o.left (value ∷ values), length-append (value ∷ values) (next ∷ more)))

pub put_nothing : (kind : BlockKind) → put_by_kind kind [] ≡ []
put_nothing Action = refl
put_nothing _ = refl

ids_first : (kind : BlockKind) (values more : List Value) (o : OutletState)
    → lacks_ids (put_by_kind kind (values ++ more)) o ≡ false → lacks_ids (put_by_kind kind values) o ≡ false
ids_first Action values more o has = refl
ids_first _ values more o has = lacks_front values more o has

ids_rest : (kind : BlockKind) (values more : List Value) (block : BlockState)
    → lacks_ids (put_by_kind kind (values ++ more)) block.exits ≡ false
    → lacks_ids (put_by_kind kind more) (keeps_results kind values block).exits ≡ false
ids_rest Action values more block has = refl
ids_rest _ [] more block has = has
ids_rest _ (value ∷ values) more block has =
    lacks_rest (value ∷ values) more (unit_weight (port_at 0 block).capacity) block.exits has

-- only a block with a function works on anything
pub none_out : (ticket : ℕ) (jobs : JobsState) → jobs.slots ≡ [] → is_out ticket jobs ≡ true → ⊥
none_out ticket jobs none out =
    let both = and_parts (leb jobs.first ticket) (is_none (get_or jobs.slots (place_of ticket jobs) no_slot)) out in
    let never : is_none no_slot ≡ true =
    subst (λ (slots : List Slot). is_none (get_or slots (place_of ticket jobs) no_slot) ≡ true) none both.1 in
    absurd (cc)

-- No end of a link moves

stays_then : (block mid new : BlockState) → length mid.ports ≡ length block.ports
    → length mid.copies.ends ≡ length block.copies.ends → EndsStay block mid
    → EndsStay mid new → EndsStay block new
stays_then block mid new same count first then = record {
  ins = λ p small. then.ins p (omega (arith, same, small)) ∙ first.ins p small;
  outs = then.outs ∙ first.outs;
  copies = λ k small. then.copies k (subst (λ (n : ℕ). k < n) (sym count) small) ∙ first.copies k small;
}

pub copies_stay : (kind : BlockKind) (values : List Value) (block : BlockState)
    → length (keeps_results kind values block).copies.ends ≡ length block.copies.ends
copies_stay Action values block = refl
copies_stay _ [] block = refl
copies_stay _ (value ∷ values) block = refl

all_stay : (slots : List Slot) (block : BlockState) → EndsStay block (yields_all slots block)
all_stay [] block = record { ins = λ p small. refl; outs = refl; copies = λ k small. refl }
all_stay (None ∷ slots) block = record { ins = λ p small. refl; outs = refl; copies = λ k small. refl }
all_stay (Some (Err number) ∷ slots) block = yielding_stays (Err number) block
all_stay (Some (Ok values) ∷ slots) block =
    let mid = keeps_results block.kind values block in
    stays_then block mid (yields_all slots mid) (ports_stay block.kind values block) (copies_stay block.kind values block)
    (keeping_stays block.kind values block) (all_stay slots mid)

where_stays : (well : Bool) (block : BlockState) → EndsStay block (yields_where well block)
where_stays true block = all_stay block.jobs.slots block
where_stays false block = record { ins = λ p small. refl; outs = refl; copies = λ k small. refl }

views_stay : (node : NodeState) (block : BlockState) → EndsStay node.block block
    → ViewsStay node (with_block block node)
views_stay node block stay = record {
  ins = λ p k small near. ap (λ ends. view_of_in node.journal (end_in k ends)) (stay.ins p small);
  outs = λ k near. ap (λ ends. view_of_out node.journal (out_end ends k)) stay.outs;
  copies = λ k near. ap (view_of_out node.journal) (stay.copies k near);
}

module _ {W : Type 0} (kept : NodesKept W) (layout : Layout W) (meaning : ℕ → Value → Result (List Value) ℕ) (b grouped : ℕ)
    (round : RoundState) where
  abbrev result : Value → Result (List Value) ℕ
  result = block_makes layout meaning b

  abbrev InOrder : BlockState → List Mark → Type 0
  InOrder block journal = NodeLaw layout meaning b (record { block = block; journal = journal; grouped = grouped; round = round })

  -- other slots, of which the law of jobs holds
  slots_stand : (block : BlockState) (journal : List Mark) (slots : List Slot) → InOrder block journal
      → out_count slots ≤ block.jobs.lanes → (has_work block.kind ≡ false → slots ≡ [])
      → AreOf result (held_by block) slots → (block.fault ≡ None → is_front_back slots ≡ false)
      → InOrder (with_slots slots block) journal
  slots_stand block journal slots law within only_works results drained =
      let change : JobsState → JobsState = λ jobs. record jobs { slots = slots } in
      let new = with_jobs change block in
      record {
        by_number = law.by_number;
        shape = shape_stays layout meaning b block new refl refl refl refl law.shape;
        ports = law.ports;
        exits = record { law = law.exits.law };
        copies = record {
          idle = law.copies.idle;
          copier = λ copying. jobs_change layout b block journal (law.copies.copier copying) (change block.jobs);
        };
        none_held = law.none_held;
        gave = law.gave;
        makes = makes_stay layout meaning b (record { block = block; journal = journal; grouped = grouped; round = round }) law.makes change;
        rows = law.rows;
        tuples = law.tuples;
        jobs = record {
          lanes_are = law.jobs.lanes_are;
          some_lane = law.jobs.some_lane;
          within = within;
          only_works = only_works;
          results = results;
          drained = drained;
          counted = law.jobs.counted;
        };
        load = λ grouped. load_stays layout meaning b block journal change (law.load grouped);
        groups = λ batched. let old = law.groups batched in record {
          within = old.within;
          groups = old.groups;
          whole = old.whole;
        };
        group_load = λ batched. let old = law.group_load batched in record {
          no_groups = old.no_groups;
          no_room = old.no_room;
          no_copies = old.no_copies;
          load = old.load;
        };
        round = record { sources_are = law.round.sources_are; in_round = law.round.in_round };
        marks = law.marks;
        ends = ends_stay layout meaning b block journal law.ends change;
      }

  -- it makes what came back of the message that it holds first
  makes_so : (block : BlockState) (made : Result (List Value) ℕ) (value : Value) (rest : List Value)
      → has_work block.kind ≡ true → held_by block ≡ value ∷ rest → result value ≡ made
      → makes result block ≡ yields made block
  makes_so block made value rest works held is =
      ap (λ (u : BlockUnit). makes_by_unit u result block) (works_on_messages block.kind works)
      ∙ ap (λ (first : Option Value). makes_of result first block) (ap first_of held)
      ∙ ap (λ (r : Result (List Value) ℕ). yields r block) (sym (makes_by_work result block.kind value works) ∙ is)

  made_next : (block : BlockState) (journal : List Mark) (made : Result (List Value) ℕ) (value : Value)
      (rest : List Value)
      → has_work block.kind ≡ true → block.stopped ≡ None → block.fault ≡ None
      → held_by block ≡ value ∷ rest → result value ≡ made
      → lacks_ids (put_by_kind block.kind (values_of_result made)) block.exits ≡ false
      → InOrder (with_slots [] block) journal
      → InOrder (yields made (with_slots [] block)) journal
  made_next block journal made value rest works going well held is ids law =
      let old = with_slots [] block in
      let node : NodeState = record { block = old; journal = journal; grouped = grouped; round = round } in
      let may : MayMake result node = record {
        waits = rw (
          going,
          well,
          works_on_messages block.kind works,
          held,
          kind_tells has_work true is_broadcast false refl block.kind works,
        ) refl;
        all_out = refl;
        copy_id = λ broadcast. absurd (never_both (is_broadcast block.kind) broadcast (kind_tells has_work true is_broadcast false refl block.kind works));
        ids = ap (λ (batched : Bool). lacks_ids (cond batched (next_group_in node ∷ []) (put_next result old)) block.exits)
            (kind_tells has_work true is_batched_join false refl block.kind works)
            ∙ ap (λ (u : BlockUnit). lacks_ids (puts_by_unit u result old) block.exits) (works_on_messages block.kind works)
            ∙ ap (λ (first : Option Value). lacks_ids (put_of block.kind result first) block.exits) (ap first_of held)
            ∙ ap (λ (r : Result (List Value) ℕ). lacks_ids (put_by_kind block.kind (values_of_result r)) block.exits)
            (sym (makes_by_work result block.kind value works) ∙ is)
            ∙ ids;
      } in
      subst (λ (new : BlockState). InOrder new journal) (makes_so old made value rest works held is)
      (subst (λ (new : NodeState). NodeLaw layout meaning b new)
      (ap (λ (batched : Bool). cond batched (makes_next_group node) (with_block (makes result old) node))
      (kind_tells has_work true is_batched_join false refl block.kind works))
      (kept layout meaning b node NodeCall.make law may))

  -- all that is there comes out in order
  out_keeps : (slots : List Slot) (block : BlockState) (journal : List Mark) (held : List Value)
      → held_by block ≡ held → has_work block.kind ≡ true → block.stopped ≡ None → block.fault ≡ None
      → out_count slots ≤ block.jobs.lanes → AreOf result held slots
      → lacks_ids (put_by_kind block.kind (comes_out slots)) block.exits ≡ false
      → InOrder (with_slots [] block) journal
      → InOrder (yields_all slots (with_slots slots block)) journal
  out_keeps [] block journal held same works going well within are ids law = law
  out_keeps (None ∷ slots) block journal held same works going well within are ids law =
      slots_stand (with_slots [] block) journal (None ∷ slots) law within
      (λ idle. absurd (never_both (has_work block.kind) works idle))
      (subst (λ (vs : List Value). AreOf result vs (None ∷ slots)) (sym same) are)
      (λ none. refl)
  out_keeps (Some made ∷ slots) block journal [] same works going well within are ids law = absurd are
  out_keeps (Some (Err number) ∷ slots) block journal (value ∷ rest) same works going well within are ids law =
      let all = Some (Err number) ∷ slots in
      let none = ap (λ (vs : List Value). lacks_ids vs block.exits) (put_nothing block.kind) in
      let failed =
      made_next block journal (Err number) value rest works going well same are.0 none law in
      let held = kept_at_all (λ (port : PortState). port.waiting) port_fails block.ports 0 (λ port. refl) in
      slots_stand (fails number (with_slots [] block)) journal all failed within
      (λ idle. absurd (never_both (has_work block.kind) works idle))
      (subst (λ (vs : List Value). AreOf result vs all) (sym (held ∙ same)) are)
      (λ none_stands. absurd (cc))
  out_keeps (Some (Ok values) ∷ slots) block journal (value ∷ rest) same works going well within are ids law =
      let all = Some (Ok values) ∷ slots in
      let kind = block.kind in
      let new = keeps_results kind values block in
      let goes = keeps_goes kind values block in
      let made =
      made_next block journal (Ok values) value rest works going well same are.0
      (ids_first kind values (comes_out slots) block.exits ids) law in
      let mid : InOrder (with_slots [] new) journal =
      subst (λ (block : BlockState). InOrder block journal) (keeps_slots kind values [] block works) made in
      let one = has_one_port layout meaning b (with_slots [] block) law.shape (kind_tells has_work true has_ports false refl block.kind works) in
      subst (λ (block : BlockState). InOrder (yields_all slots block) journal) (sym (keeps_slots kind values all block works))
      (out_keeps slots new journal rest (held_then kind values block value rest one same)
      (ap has_work goes.kind ∙ works) (goes.stopped ∙ going) (goes.fault ∙ well)
      (let lanes = keeps_lanes kind values block in omega (arith, within, lanes)) are.1
      (ap (λ (kind : BlockKind). lacks_ids (put_by_kind kind (comes_out slots)) new.exits) goes.kind
      ∙ ids_rest kind values (comes_out slots) block ids)
      mid)

  -- nothing comes out behind a fault of its own
  where_keeps : (block : BlockState) (journal : List Mark) (slots : List Slot) (well : Bool)
      → is_none block.fault ≡ well → has_work block.kind ≡ true → block.stopped ≡ None
      → out_count slots ≤ block.jobs.lanes → AreOf result (held_by block) slots
      → lacks_ids (put_where well block.kind slots) block.exits ≡ false
      → InOrder block journal → InOrder (yields_where well (with_slots slots block)) journal
  where_keeps block journal slots true well works going within are ids law =
      out_keeps slots block journal (held_by block) refl works going (none_is block.fault well) within are ids
      (slots_stand block journal [] law (omega arith) (λ idle. refl) tt (λ none. refl))
  where_keeps block journal slots false fails works going within are ids law =
      slots_stand block journal slots law within
      (λ idle. absurd (never_both (has_work block.kind) works idle)) are
      (λ none. absurd (never_both (is_none block.fault) (ap is_none none) fails))

module _ {W : Type 0} (kept : NodesKept W) (layout : Layout W) (meaning : ℕ → Value → Result (List Value) ℕ) (b : ℕ) where
  -- the result of a message comes back
  end_keeps : (node : NodeState) (ticket : ℕ) → NodeLaw layout meaning b node → MayEndJob (block_makes layout meaning b) ticket node
      → (works : Bool) → has_work node.block.kind ≡ works
      → NodeLaw layout meaning b (after_job (block_makes layout meaning b) ticket node)
  end_keeps node ticket law may false idle =
      let out = (and_parts (is_none node.block.stopped) (is_out ticket node.block.jobs) may.out).1 in
      absurd (none_out ticket node.block.jobs (law.jobs.only_works idle) out)
  end_keeps node ticket law may true works =
      let block = node.block in
      let made = job_result (block_makes layout meaning b) ticket block in
      let k = place_of ticket block.jobs in
      let both = and_parts (is_none block.stopped) (is_out ticket block.jobs) may.out in
      where_keeps kept layout meaning b node.grouped node.round block node.journal (set block.jobs.slots k (Some made)) (is_none block.fault) refl works
      (none_is block.stopped both.0)
      (omega (arith, out_set block.jobs.slots k made, law.jobs.within))
      (back_at (block_makes layout meaning b) (held_by block) block.jobs.slots k made
      (λ small. makes_by_work (block_makes layout meaning b) block.kind (job_message ticket block) works) law.jobs.results)
      may.ids law

  pub job_ends_well : (node : NodeState) (ticket : ℕ) → NodeLaw layout meaning b node → MayEndJob (block_makes layout meaning b) ticket node
      → EndsWell layout meaning b ticket node
  job_ends_well node ticket law may =
      let block = node.block in
      let made = job_result (block_makes layout meaning b) ticket block in
      let back = with_jobs (brings ticket made) block in
      let stay = where_stays (is_none block.fault) back in
      record {
        law = end_keeps node ticket law may (has_work node.block.kind) refl;
        views = views_stay node (yields_where (is_none block.fault) back) (record { ins = stay.ins; outs = stay.outs; copies = stay.copies });
      }

pub jobs_end_well : (W : Type 0) → JobsEndWell W
jobs_end_well W layout meaning b node ticket law may = job_ends_well (nodes_kept W) layout meaning b node ticket law may
