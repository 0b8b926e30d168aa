-- Each call keeps what a block counts of its places: one is taken by each message that it holds or has not wholly given.
use Rattle.std.proofs.Common.{◌≡◌, ℕ, ◌+◌, ◌<◌, leb, Bool, true, false, List, [], ◌∷◌, ◌++◌, length, map, drop, Option, Some, None, is_some, Result, Ok, Err, refl, ap, sym, ◌∙◌, subst, append-nil, arith, length-append, ◌-◌}
use Rattle.std.proofs.lemmas.List.{get_or-set_same, take-append-drop}
use Rattle.flow_value.specs.View.{values_of-items_from}
use Rattle.flow_value.specs.declared.value.Value.{Value}
use Rattle.flow_link.specs.declared.draft.BlockKind.{BlockKind}
use Rattle.flow_link.specs.declared.draft.BlockKind.TheVariants.{Buffer, Action, TransformMany, Batch}
use Rattle.flow_link.specs.declared.trace.Mark.{Mark}
use Rattle.flow_link.specs.declared.trace.Mark.TheVariants.{Complete, Fault, Done}
use Rattle.flow_link.specs.declared.trace.Outcome.{Outcome}
use Rattle.flow_link.specs.declared.trace.Outcome.TheVariants as outcome
use Rattle.flow_link.specs.JournalGrows.{taken_by_mark, given_by_mark}
use Rattle.flow_link.specs.Layout.{Layout}
use Rattle.flow_link.specs.Making.{row_weight}
use Rattle.flow_link.specs.Plan.{block_in, is_one_taker, is_write_once, is_broadcast}
use Rattle.flow_link.specs.Trace.{took, gave}
use Rattle.flow_link.proofs.KindsTell.{kind_tells}
use Rattle.flow_link.proofs.OneMoreMark.{took_no_more, gave_no_more, took_by_took, gave_by_took, took_by_gave, gave_by_gave}
use Rattle.flow_intake.specs.Port.{PortState, fresh_port}
use Rattle.flow_intake.specs.Calls.{first_of, wants, turns_down, postpones, refuses, consumes, asks, claims, releases, opens, closes, looks as port_looks, takes_next, gives_room, port_closes, port_fails}
use Rattle.flow_intake.specs.PortLaw.{has_ended as has_port_ended}
use Rattle.flow_outlet.specs.declared.group.Group.{Group}
use Rattle.flow_outlet.specs.Fits.{weight_of}
use Rattle.flow_outlet.specs.Outlet.{OutletState, head_of, groups_with, groups_after, gives, prepares, offers, holds, denies, withdraws, ends_link, looks as exit_looks}
use Rattle.flow_outlet.proofs.OutletFits.{weight_stays}
use Rattle.flow_block.specs.Copies.{copy_place, CopyCall, after_copy, copies_weight}
use Rattle.flow_block_law.proofs.CopiesIdle.{copies_at}
use Rattle.flow_block.proofs.RoomBack.{back_plain, kept_back, each_after_back}
use Rattle.flow_block.specs.Block.{BlockState, port_in, port_at, with_port, with_jobs, held_by, unit_weight, made_of, puts_out, fails, yields, keeps_results, makes_of, is_batch, row_of, next_group, group_weight, takes_group, makes_row, stops_by, is_join, makes_tuple, copies_next, is_batched_join, has_ports}
use Rattle.flow_block.proofs.CopiesTaken.{taken_in_keeps}
use Rattle.flow_block_law.proofs.OnceMakesNone.{makes_many}
use Rattle.flow_spread.specs.Spread.{puts}
use Rattle.flow_block_law.proofs.CopiesLeave.{at_most_one, free_is_given, left_by_copy}
use Rattle.flow_block.specs.Jobs.{JobsState, begins, works_off}
use Rattle.flow_block.specs.Node.{NodeState, NodeCall, hand_at, in_link_at, out_link_at, holds_in, gives_from, copies_by}
use Rattle.flow_block_law.specs.NodeLaw.{NodeLaw, ShapeLaw, LoadLaw, WeighsAs, places_out, rows_weighed}
use Rattle.flow_block_law.specs.NodeKeeps.{MayCall, after_call, LoadKept}
use Rattle.flow_block.specs.Planned.{block_makes, room_of}
use Rattle.flow_block_law.proofs.GroupsOfRows.{group_there, group_tells}
use Rattle.flow_block_law.proofs.GoingOn.{may_work_tells}
use Rattle.flow_block_law.proofs.KindsBuilt.{is_of_one, of_one, has_one_port, makes_by, next_by}
use Rattle.flow_block_law.proofs.PlacesOfLinks.{shares_at}
use Rattle.flow_block.proofs.PortsChange.{kept_at_one, kept_at_all, each_after_one, each_after_all}
use Rattle.flow_block_law.proofs.WeightsOfResults.{is_many, weighs_taken, weighs_given, weighs_many, weighs_one, rows_put}
use Rattle.flow_block_law.proofs.Joins.{join_weighs, others_at_one}
use Rattle.flow_block_law.proofs.ShapeHolds.{same_kind}
use Rattle.flow_block_law.proofs.PlacesCounted.{weighs_copied, none_copied_yet, is_action, made_is_one, none_back, more_weight, one_place, many_places, gone_at, IsLeftSo, left_so, Counts, EachCounts, one_as_before, each_as_before, one_taken, one_goes}
use Rattle.flow_group.specs.Tuple.{has_tuple, tuple_of}
use Rattle.flow_link.proofs.ListTests.{never_both}

module _ {W : Type 0} (layout : Layout W) (meaning : ℕ → Value → Result (List Value) ℕ) (b : ℕ) where
  abbrev limit : Option ℕ
  limit = room_of (block_in layout.blocks b)

  -- what is counted at a port, where so many messages are left
  abbrev Loads : ℕ → ℕ → PortState → Type 0
  Loads left p port = Counts (is_some limit) left port

  abbrev Counted : ℕ → List PortState → Type 0
  Counted left ports = EachCounts (is_some limit) left ports

  -- the law, where what it reads is as it was
  stays : (before after : BlockState) (journal later : List Mark) → LoadLaw layout meaning b before journal
      → after.kind ≡ before.kind → held_by after ≡ held_by before → IsLeftSo before.exits after.exits → after.copies ≡ before.copies
      → took later ≡ took journal → gave later ≡ gave journal
      → Counted (places_out before) after.ports
      → LoadLaw layout meaning b after later
  stays before after journal later law kind held exits copies taken given counts = record {
    groups = rw (kind, taken, held, given, exits.left, exits.next, exits.groups) law.groups;
    no_room = exits.room ∙ law.no_room;
    load = rw (exits.groups, copies) counts;
  }

  -- its exits change, and have the same left to give
  exits_move : (node : NodeState) (exits : OutletState) → exits.left ≡ node.block.exits.left
      → exits.next ≡ node.block.exits.next → exits.groups ≡ node.block.exits.groups
      → exits.room ≡ node.block.exits.room → LoadLaw layout meaning b node.block node.journal
      → LoadLaw layout meaning b (record node.block { exits = exits }) node.journal
  exits_move node exits left next groups room law =
      stays node.block (record node.block { exits = exits }) node.journal node.journal law refl refl
      (record { left = left; next = next; groups = groups; room = room }) refl refl refl law.load

  -- its jobs change
  pub jobs_change : (block : BlockState) (journal : List Mark) (change : JobsState → JobsState)
      → LoadLaw layout meaning b block journal → LoadLaw layout meaning b (with_jobs change block) journal
  jobs_change block journal change law =
      stays block (with_jobs change block) journal journal law refl refl (left_so block.exits) refl refl refl law.load

  -- one port changes, and holds as much as before
  one_moves : (block : BlockState) (journal later : List Mark) (p : ℕ) (change : PortState → PortState)
      → (change (port_at p block)).load ≡ (port_at p block).load
      → (change (port_at p block)).waiting ≡ (port_at p block).waiting
      → took later ≡ took journal → gave later ≡ gave journal
      → LoadLaw layout meaning b block journal → LoadLaw layout meaning b (with_port p change block) later
  one_moves block journal later p change load waiting taken given law =
      let port = change (port_at p block) in
      stays block (with_port p change block) journal later law refl
      (kept_at_one (λ q. q.waiting) block.ports p 0 port waiting) (left_so block.exits) refl taken given
      (one_as_before (is_some limit) (places_out block) block.ports p port load waiting law.load)

  -- all ports change, and hold as much as before
  all_move : (block after : BlockState) (journal later : List Mark) (change : PortState → PortState)
      → after.kind ≡ block.kind → after.exits ≡ block.exits → after.copies ≡ block.copies → after.ports ≡ map change block.ports
      → ((port : PortState) → (change port).load ≡ port.load) → ((port : PortState) → (change port).waiting ≡ port.waiting)
      → took later ≡ took journal → gave later ≡ gave journal
      → LoadLaw layout meaning b block journal → LoadLaw layout meaning b after later
  all_move block after journal later change kind exits copies ports load waiting taken given law =
      stays block after journal later law kind
      (ap (λ (ports : List PortState). (port_in ports 0).waiting) ports
      ∙ kept_at_all (λ q. q.waiting) change block.ports 0 waiting)
      (subst (IsLeftSo block.exits) (sym exits) (left_so block.exits)) copies taken given
      (rw ports (each_as_before (is_some limit) (places_out block) block.ports change
      (λ port old there. load port ∙ old there
      ∙ ap (λ (vs : List Value). length vs + places_out block) (sym (waiting port))) law.load))

  -- what it makes of a message

  held_next : (block : BlockState) (change : PortState → PortState) → length block.ports ≡ 1
      → (change (port_at 0 block)).waiting ≡ drop 1 (held_by block)
      → held_by (with_port 0 change block) ≡ drop 1 (held_by block)
  held_next block change one changes = ap (λ (port : PortState). port.waiting)
      (get_or-set_same block.ports 0 (change (port_at 0 block)) (fresh_port None) (omega arith))
      ∙ changes

  -- the message is done with, and its room is back
  done_counts : (value : Value) (block : BlockState) (left : ℕ) → first_of (held_by block) ≡ Some value
      → Counted left block.ports → Counted left (with_port 0 (λ port. gives_room 1 (takes_next port)) block).ports
  done_counts value block left first counts =
      let port = port_at 0 block in
      each_after_one (Loads left) block.ports 0 (gives_room 1 (takes_next port))
      (λ below there. let all = counts 0 below there in let goes = one_goes port.waiting value first in omega arith)
      (λ q there other. counts q there)

  abbrev weighs : BlockKind → (taken held given left : List Value) → ℕ → List Group → Type 0
  weighs kind taken held given left next groups =
      WeighsAs (block_makes layout meaning b) kind limit taken held given left next groups

  -- what is kept for what it has left, when these values are put
  abbrev put_groups : List Value → BlockState → List Group
  put_groups values block =
      groups_with (block.exits.next + length block.exits.left) (length values) (unit_weight limit) block.exits.groups

  put_keeps : (kind : BlockKind) (values : List Value) (value : Value) (block : BlockState) (journal : List Mark)
      → block.kind ≡ kind → first_of (held_by block) ≡ Some value → length block.ports ≡ 1
      → ShapeLaw layout meaning b block → LoadLaw layout meaning b block journal
      → weighs kind (took journal) (drop 1 (held_by block)) (gave journal) (block.exits.left ++ values)
      block.exits.next (put_groups values block)
      → LoadLaw layout meaning b (puts_out values block) journal
  put_keeps kind [] value block journal same first one shape law put =
      let change : PortState → PortState = λ port. gives_room 1 (takes_next port) in
      record {
        groups = rw (same, held_next block change one refl)
            (subst (λ (left : List Value). weighs kind (took journal) (drop 1 (held_by block)) (gave journal) left
            block.exits.next block.exits.groups) (append-nil block.exits.left) put);
        no_room = law.no_room;
        load = done_counts value block (places_out block) first law.load;
      }
  put_keeps kind (made ∷ values) value block journal same first alone shape law put =
      let port = port_at 0 block in
      let below : 0 < length block.ports = omega (arith, alone) in
      let capacity : port.capacity ≡ limit = (shape.ports 0 below).capacity in
      record {
        groups = rw (same, held_next block takes_next alone refl, capacity) put;
        no_room = none_back (length (made ∷ values)) (unit_weight port.capacity) block.exits.room (omega arith) law.no_room;
        load = each_after_one (Loads (places_out (puts_out (made ∷ values) block))) block.ports 0 (takes_next port)
            (λ below there.
            let all = law.load 0 below there in
            let goes = one_goes port.waiting value first in
            let more = more_weight (block.exits.next + length block.exits.left) (length (made ∷ values))
            (unit_weight port.capacity) block.exits.groups (omega arith) in
            let one = one_place port.capacity (ap is_some capacity ∙ there) in
            omega (arith, all, goes, more, one))
            (λ q there other. absurd (other (omega (arith, alone, there))));
      }

  held_first : (held : List Value) (value : Value) → first_of held ≡ Some value → held ≡ value ∷ drop 1 held
  held_first [] value first = absurd (cc)
  held_first (message ∷ rest) value first = let same : message ≡ value = cc in ap (λ (v : Value). v ∷ rest) same

  -- a block that makes one value of a message weighs it
  weighs_put : (kind : BlockKind) (values : List Value) (block : BlockState) (journal : List Mark) → block.kind ≡ kind
      → is_many kind ≡ false → is_batch kind ≡ false → length values ≡ 1 → LoadLaw layout meaning b block journal
      → weighs kind (took journal) (drop 1 (held_by block)) (gave journal) (block.exits.left ++ values)
      block.exits.next (put_groups values block)
  weighs_put kind values block journal same other single one law =
      let exits = block.exits in
      weighs_one (block_makes layout meaning b) kind limit (took journal) (held_by block) (drop 1 (held_by block))
      (gave journal) exits.left exits.next exits.groups values other single one
      (subst (λ (k : BlockKind). weighs k (took journal) (held_by block) (gave journal) exits.left exits.next
      exits.groups) same law.groups)

  results_kept : (kind : BlockKind) (values : List Value) (value : Value) (block : BlockState) (journal : List Mark)
      → block.kind ≡ kind → first_of (held_by block) ≡ Some value → (is_many kind ≡ true → block.exits.next ≡ 1 + length (gave journal))
      → length block.ports ≡ 1 → ShapeLaw layout meaning b block → LoadLaw layout meaning b block journal
      → made_of kind (block_makes layout meaning b) value ≡ Ok values
      → is_batch kind ≡ false → (is_action kind ≡ false → is_many kind ≡ false → length values ≡ 1)
      → LoadLaw layout meaning b (keeps_results kind values block) journal
  results_kept Action values value block journal same first next one shape law made other single = record {
    groups = rw same (subst (λ (kind : BlockKind). weighs kind (took journal) (held_by block) (gave journal)
        block.exits.left block.exits.next block.exits.groups) same law.groups);
    no_room = law.no_room;
    load = done_counts value block (places_out block) first law.load;
  }
  results_kept TransformMany values value block journal same first next one shape law made other single =
      let exits = block.exits in
      jobs_change (puts_out values block) journal works_off
      (put_keeps TransformMany values value block journal same first one shape law
      (weighs_many (block_makes layout meaning b) limit (took journal) (drop 1 (held_by block)) (gave journal)
      exits.left exits.next exits.groups value values made (next refl)
      (subst (λ (held : List Value). weighs TransformMany (took journal) held (gave journal) exits.left exits.next
      exits.groups) (held_first (held_by block) value first)
      (subst (λ (kind : BlockKind). weighs kind (took journal) (held_by block) (gave journal) exits.left exits.next
      exits.groups) same law.groups))))
  results_kept Buffer values value block journal same first next one shape law made other single =
      put_keeps Buffer values value block journal same first one shape law
      (weighs_put Buffer values block journal same refl refl (single refl refl) law)
  results_kept Batch values value block journal same first next one shape law made other single = absurd (cc)
  results_kept kind values value block journal same first next one shape law made other single =
      jobs_change (puts_out values block) journal works_off
      (put_keeps kind values value block journal same first one shape law
      (weighs_put kind values block journal same refl refl (single refl refl) law))

  yield_keeps : (result : Result (List Value) ℕ) (value : Value) (block : BlockState) (journal : List Mark)
      → first_of (held_by block) ≡ Some value → (is_many block.kind ≡ true → block.exits.next ≡ 1 + length (gave journal))
      → length block.ports ≡ 1 → ShapeLaw layout meaning b block → LoadLaw layout meaning b block journal
      → is_of_one block.kind ≡ true → is_batch block.kind ≡ false → made_of block.kind (block_makes layout meaning b) value ≡ result
      → LoadLaw layout meaning b (yields result block) journal
  yield_keeps (Ok values) value block journal first next one shape law simple other made =
      results_kept block.kind values value block journal refl first next one shape law made other
      (λ acts single. made_is_one block.kind (block_in layout.blocks b).kind (meaning b) value values shape.kind_is
      simple made acts single other)
  yield_keeps (Err number) value block journal first next one shape law simple other made =
      all_move block (fails number block) journal journal port_fails refl refl refl refl (λ port. refl) (λ port. refl)
      refl refl law

  make_keeps : (held : Option Value) (block : BlockState) (journal : List Mark) → first_of (held_by block) ≡ held
      → (is_many block.kind ≡ true → block.exits.next ≡ 1 + length (gave journal)) → length block.ports ≡ 1
      → ShapeLaw layout meaning b block → LoadLaw layout meaning b block journal
      → is_of_one block.kind ≡ true → is_batch block.kind ≡ false
      → LoadLaw layout meaning b (makes_of (block_makes layout meaning b) held block) journal
  make_keeps None block journal first next one shape law simple other = law
  make_keeps (Some value) block journal first next one shape law simple other =
      yield_keeps (made_of block.kind (block_makes layout meaning b) value) value block journal first next one shape law
      simple other refl

  -- a row is made of messages that it holds
  row_keeps : (block : BlockState) (journal : List Mark) (kind : BlockKind) → block.kind ≡ kind → is_batch kind ≡ true
      → 0 < length (next_group block)
      → ShapeLaw layout meaning b block → LoadLaw layout meaning b block journal
      → LoadLaw layout meaning b (makes_row block) journal
  row_keeps block journal Batch same batch some shape law =
      let port = port_at 0 block in
      let exits = block.exits in
      let group = next_group block in
      let count = length group in
      let row = row_of group in
      let alone = has_one_port layout meaning b block shape (kind_tells is_batch true has_ports false refl block.kind (ap is_batch same ∙ batch)) in
      let below : 0 < length block.ports = omega (arith, alone) in
      let capacity : port.capacity ≡ limit = (shape.ports 0 below).capacity in
      let weighs_row : row_weight row ≡ count = ap (λ (vs : List Value). length vs) (values_of-items_from group) in
      let kept : exits.groups ≡ rows_weighed limit exits.next exits.left =
      subst (λ (k : BlockKind). weighs k (took journal) (held_by block) (gave journal) exits.left exits.next exits.groups)
      same law.groups in
      record {
        groups = rw (same, capacity)
            (ap (λ (groups : List Group). groups_with (exits.next + length exits.left) 1 (group_weight limit count) groups) kept
            ∙ rows_put limit exits.next count exits.left row weighs_row some);
        no_room = none_back 1 (group_weight port.capacity count) exits.room (omega arith) law.no_room;
        load = each_after_one (Loads (places_out (makes_row block))) block.ports 0 (takes_group block.size port)
            (λ at there.
            let all = law.load 0 at there in
            let parts = length-append group (drop block.size port.waiting) in
            let whole = ap (λ (vs : List Value). length vs) (take-append-drop block.size port.waiting) in
            let more = more_weight (exits.next + length exits.left) 1 (group_weight port.capacity count) exits.groups (omega arith) in
            let places = many_places port.capacity count (ap is_some capacity ∙ there) in
            omega (arith, all, parts, whole, more, places))
            (λ q there other. absurd (other (omega (arith, alone, there))));
      }
  row_keeps block journal _ same batch some shape law = absurd (cc)

  -- a tuple is made of a message of each port
  tuple_keeps : (block : BlockState) (journal : List Mark) → is_join block.kind ≡ true → has_tuple block.ports ≡ true
      → ShapeLaw layout meaning b block → LoadLaw layout meaning b block journal
      → LoadLaw layout meaning b (makes_tuple block) journal
  tuple_keeps block journal join waits shape law =
      let port = port_at 0 block in
      let exits = block.exits in
      let made = tuple_of block.ports ∷ [] in
      let capacity : port.capacity ≡ limit = (shape.ports 0 shape.some_port).capacity in
      record {
        groups = rw capacity
            (weighs_one (block_makes layout meaning b) block.kind limit (took journal) (held_by block)
            (held_by (makes_tuple block)) (gave journal) exits.left exits.next exits.groups made
            (kind_tells is_join true is_many false refl block.kind join) (kind_tells is_join true is_batch false refl block.kind join) refl law.groups);
        no_room = none_back 1 (unit_weight port.capacity) exits.room (omega arith) law.no_room;
        load = each_after_all (Loads (places_out (makes_tuple block))) takes_next block.ports
            (λ q below there.
            let all = law.load q below there in
            let goes = gone_at block.ports q below waits in
            let more = more_weight (exits.next + length exits.left) 1 (unit_weight port.capacity) exits.groups (omega arith) in
            let one = one_place port.capacity (ap is_some capacity ∙ there) in
            omega (arith, all, goes, more, one));
      }

  -- what is kept for what it has left, when it takes a message
  taken_weighs : (p k : ℕ) (value : Value) (node : NodeState) → p < length node.block.ports
      → ShapeLaw layout meaning b node.block → is_batched_join node.block.kind ≡ false
      → LoadLaw layout meaning b node.block node.journal
      → (join : Bool) → is_join node.block.kind ≡ join
      → let new = holds_in p k (Some value) node in
      weighs node.block.kind (took new.journal) (held_by new.block) (gave new.journal) node.block.exits.left
      node.block.exits.next node.block.exits.groups
  taken_weighs p k value node below shape grouped law true join =
      join_weighs (block_makes layout meaning b) node.block.kind limit _ _ _ _ _ _ node.block.exits.left node.block.exits.next
      node.block.exits.groups join law.groups
  taken_weighs p k value node below shape grouped law false alone =
      let block = node.block in
      let exits = block.exits in
      let change = closes k value in
      let one = has_one_port layout meaning b block shape (others_at_one block.kind grouped alone) in
      let first : p ≡ 0 = omega (arith, one, below) in
      let held : held_by (with_port p change block) ≡ held_by block ++ value ∷ [] =
      rw first (ap (λ (port : PortState). port.waiting)
      (get_or-set_same block.ports 0 (change (port_at 0 block)) (fresh_port None) (omega (arith, one)))) in
      let taken = took_by_took node.journal p (in_link_at p k node) value in
      let given = gave_by_took node.journal p (in_link_at p k node) value in
      rw (held, taken, given)
      (weighs_taken (block_makes layout meaning b) block.kind limit (took node.journal) (held_by block)
      (gave node.journal) exits.left exits.next exits.groups value law.groups)

  take_keeps : (p k : ℕ) (hand : Option Value) (node : NodeState) → p < length node.block.ports
      → ShapeLaw layout meaning b node.block → is_batched_join node.block.kind ≡ false
      → LoadLaw layout meaning b node.block node.journal
      → LoadLaw layout meaning b (holds_in p k hand node).block (holds_in p k hand node).journal
  take_keeps p k None node below shape grouped law = law
  take_keeps p k (Some value) node below shape grouped law =
      let block = node.block in
      let exits = block.exits in
      let port = port_in block.ports p in
      record {
        groups = taken_weighs p k value node below shape grouped law (is_join block.kind) refl;
        no_room = law.no_room;
        load = each_after_one (Loads (places_out block)) block.ports p (closes k value port)
            (λ below there.
            one_taken limit port.capacity port.load (places_out block) port.waiting value
            (shape.ports p below).capacity there (law.load p below there))
            (λ q there other. law.load q there);
      }

  give_keeps : (k : ℕ) (head : Option Value) (node : NodeState) → is_batched_join node.block.kind ≡ false
      → head_of node.block.exits ≡ head
      → node.block.exits.next ≡ 1 + length (gave node.journal)
      → LoadLaw layout meaning b node.block node.journal
      → LoadLaw layout meaning b (gives_from k head node).block (gives_from k head node).journal
  give_keeps k None node other head next law = law
  give_keeps k (Some value) node other head next law =
      let block = node.block in
      let exits = block.exits in
      let held =
      kept_back (gives k exits) block.copies block.kind (head_of exits) (λ port. port.waiting) block.ports 0
      (λ back port. refl) in
      let taken = took_by_gave node.journal (out_link_at k node) value in
      let given = gave_by_gave node.journal (out_link_at k node) value in
      let back = weight_stays exits.next exits.groups in
      record {
        groups = rw (held, taken, given)
            (weighs_given (block_makes layout meaning b) block.kind limit (took node.journal) (held_by block)
            (gave node.journal) exits.left exits.next exits.groups value next head law.groups);
        no_room = refl;
        load = each_after_back (gives k exits) block.copies block.kind (head_of exits)
            (Loads (weight_of (groups_after exits.next exits.groups) + copies_weight block.copies)) block.ports
            (λ q below there.
            let all = law.load q below there in
            let none = law.no_room in
            let room = back_plain (gives k exits) block.copies block.kind (head_of exits) other q (port_in block.ports q) in
            omega (arith, all, none, back, room));
      }

  -- what it copies goes over a link, and the room that it takes no more comes back
  copied_out : (call : CopyCall) (node : NodeState) → copy_place call < length node.block.copies.ends
      → is_one_taker node.block.kind ≡ false → LoadLaw layout meaning b node.block node.journal
      → LoadLaw layout meaning b (copies_by call node).block (copies_by call node).journal
  copied_out call node there copying law =
      let block = node.block in
      let exits = block.exits in
      let now = copies_weight (after_copy call block.copies) in
      let back = copies_weight block.copies - now in
      let less = left_by_copy call block.copies there in
      record {
        groups = weighs_copied (block_makes layout meaning b) block.kind limit _ _ _ _ _ _ exits.left exits.next exits.groups copying law.groups;
        no_room = law.no_room;
        load = each_after_all (Loads (weight_of exits.groups + now)) (gives_room back) block.ports
            (λ q below there. let all = law.load q below there in omega (arith, all, less));
      }

  -- the message that waits longest is copied from now on
  copied_next : (first : Option Value) (block : BlockState) (journal : List Mark) → first_of (held_by block) ≡ first
      → length block.ports ≡ 1 → is_one_taker block.kind ≡ false → copies_weight block.copies ≡ 0
      → LoadLaw layout meaning b block journal → LoadLaw layout meaning b (copies_next first block) journal
  copied_next None block journal first alone copying none law = law
  copied_next (Some value) block journal first alone copying none law =
      let port = port_at 0 block in
      let exits = block.exits in
      let now = copies_weight (puts value block.copies) in
      let few = at_most_one (puts value block.copies) in
      record {
        groups = weighs_copied (block_makes layout meaning b) block.kind limit _ _ _ _ _ _ exits.left exits.next exits.groups copying law.groups;
        no_room = law.no_room;
        load = each_after_one (Loads (weight_of exits.groups + now)) block.ports 0 (gives_room (1 - now) (takes_next port))
            (λ below there.
            let all = law.load 0 below there in
            let goes = one_goes port.waiting value first in
            omega (arith, all, goes, few, none))
            (λ q there other. absurd (other (omega (arith, there, alone))));
      }

  stop_keeps : (node : NodeState) (how : Outcome) (mark : Mark)
      → taken_by_mark (λ port link. true) mark ≡ [] → given_by_mark (λ link. true) mark ≡ []
      → LoadLaw layout meaning b node.block node.journal
      → LoadLaw layout meaning b (stops_by how node.block) (node.journal ++ mark ∷ [])
  stop_keeps node how mark takes gives law =
      all_move node.block (stops_by how node.block) node.journal (node.journal ++ mark ∷ []) port_closes refl refl refl refl
      (λ port. refl) (λ port. refl) (took_no_more node.journal mark takes) (gave_no_more node.journal mark gives) law

  call_keeps : (node : NodeState) (call : NodeCall) → NodeLaw layout meaning b node → is_batched_join node.block.kind ≡ false
      → MayCall layout meaning b call node
      → LoadLaw layout meaning b (after_call layout meaning b call node).block
      (after_call layout meaning b call node).journal
  call_keeps node (NodeCall.want p k) law grouped may =
      one_moves node.block node.journal node.journal p (wants k) refl refl refl refl (law.load grouped)
  call_keeps node (NodeCall.turn_down p k) law grouped may =
      one_moves node.block node.journal node.journal p (turns_down k) refl refl refl refl (law.load grouped)
  call_keeps node (NodeCall.postpone p k) law grouped may =
      one_moves node.block node.journal node.journal p (postpones k) refl refl refl refl (law.load grouped)
  call_keeps node (NodeCall.refuse p k) law grouped may =
      one_moves node.block node.journal node.journal p (refuses k) refl refl refl refl (law.load grouped)
  call_keeps node (NodeCall.consume p k) law grouped may =
      one_moves node.block node.journal node.journal p (consumes k) refl refl refl refl (law.load grouped)
  call_keeps node (NodeCall.ask p k) law grouped may =
      one_moves node.block node.journal node.journal p (asks k) refl refl refl refl (law.load grouped)
  call_keeps node (NodeCall.claim p k) law grouped may =
      one_moves node.block node.journal node.journal p (claims k) refl refl refl refl (law.load grouped)
  call_keeps node (NodeCall.release p k) law grouped may =
      one_moves node.block node.journal node.journal p (releases k) refl refl refl refl (law.load grouped)
  call_keeps node (NodeCall.open_with p k value) law grouped may =
      one_moves node.block node.journal node.journal p (opens k value) refl refl refl refl (law.load grouped)
  call_keeps node (NodeCall.close p k) law grouped may =
      let held = holds_in p k (hand_at p k node) node in
      let kept = take_keeps p k (hand_at p k node) node may.port law.shape grouped (law.load grouped) in
      taken_in_keeps (LoadLaw layout meaning b) p k (hand_at p k node) node kept
      (λ at_once. copied_next (first_of (held_by held.block)) held.block held.journal refl at_once.alone
      (kind_tells is_write_once true is_one_taker false refl held.block.kind at_once.once) (free_is_given held.block.copies at_once.free) kept)
  call_keeps node (NodeCall.offer k) law grouped may =
      exits_move node (offers k (prepares node.block.exits)) refl refl refl refl (law.load grouped)
  call_keeps node (NodeCall.give k) law grouped may = give_keeps k (head_of node.block.exits) node grouped refl
      (law.gave (shares_at layout meaning b node.block law.shape k may.place)).next_is (law.load grouped)
  call_keeps node (NodeCall.hold k) law grouped may =
      exits_move node (holds k node.block.exits) refl refl refl refl (law.load grouped)
  call_keeps node (NodeCall.deny k) law grouped may =
      exits_move node (denies k node.block.exits) refl refl refl refl (law.load grouped)
  call_keeps node (NodeCall.withdraw k) law grouped may =
      exits_move node (withdraws k node.block.exits) refl refl refl refl (law.load grouped)
  call_keeps node (NodeCall.end_link k how) law grouped may =
      exits_move node (ends_link k how node.block.exits) refl refl refl refl (law.load grouped)
  call_keeps node (NodeCall.look_in p k phase) law grouped may =
      one_moves node.block node.journal node.journal p (port_looks k phase) refl refl refl refl (law.load grouped)
  call_keeps node (NodeCall.look_out k phase) law grouped may =
      exits_move node (exit_looks k phase node.block.exits) refl refl refl refl (law.load grouped)
  call_keeps node (NodeCall.copy call) law grouped may =
      copied_out call node may.place (copies_at layout meaning b node law (copy_place call) may.place) (law.load grouped)
  call_keeps node NodeCall.begin law grouped may = jobs_change node.block node.journal begins (law.load grouped)
  call_keeps node NodeCall.make law grouped may =
      let block = node.block in
      next_by (λ (new : NodeState). LoadLaw layout meaning b new.block new.journal) (block_makes layout meaning b) node
      (λ batched. never_both (is_batched_join block.kind) batched grouped)
      (λ _.
      makes_by (λ new. LoadLaw layout meaning b new node.journal) (block_makes layout meaning b) block
      (λ batch.
      let group = group_tells (held_by block) (leb block.size (length (held_by block)))
      (has_port_ended (port_at 0 block).refusing) ((may_work_tells block may.waits).group batch) in
      row_keeps block node.journal block.kind refl batch
      (group_there block.size (held_by block) (law.shape.some_size batch) group.0) law.shape (law.load grouped))
      (λ join. tuple_keeps block node.journal join ((may_work_tells block may.waits).tuple join) law.shape (law.load grouped))
      (λ broadcast. copied_next (first_of (held_by block)) block node.journal refl
      (has_one_port layout meaning b block law.shape (kind_tells is_broadcast true has_ports false refl block.kind broadcast))
      (kind_tells is_broadcast true is_one_taker false refl block.kind broadcast) (none_copied_yet block broadcast may.waits) (law.load grouped))
      (λ other alone single. make_keeps (first_of (held_by block)) block node.journal refl
      (λ many. (law.gave (kind_tells is_many true is_one_taker true refl block.kind many)).next_is)
      (has_one_port layout meaning b block law.shape (others_at_one block.kind grouped alone)) law.shape (law.load grouped)
      (of_one block.kind grouped other alone single (makes_many layout meaning b node law may.waits)) other))
  call_keeps node (NodeCall.complete p) law grouped may =
      one_moves node.block node.journal (node.journal ++ Complete p ∷ []) p port_closes refl refl
      (took_no_more node.journal (Complete p) refl) (gave_no_more node.journal (Complete p) refl) (law.load grouped)
  call_keeps node (NodeCall.fault number) law grouped may =
      stop_keeps node (outcome.Faulted number) (Fault number) refl refl (law.load grouped)
  call_keeps node NodeCall.finish law grouped may = stop_keeps node outcome.Done Done refl refl (law.load grouped)

pub load_kept : (W : Type 0) → LoadKept W
load_kept W layout meaning b node call law may grouped =
    call_keeps layout meaning b node call law (ap is_batched_join (same_kind layout meaning b node call law may) ∙ grouped) may
