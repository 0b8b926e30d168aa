-- Each call keeps what a block makes of what it took.
use Rattle.std.proofs.Common.{◌≡◌, ℕ, ◌<◌, true, false, List, [], ◌∷◌, ◌++◌, length, take, drop, Option, Some, None, Result, Ok, Err, refl, ap, sym, ◌∙◌, subst, append-nil, append_assoc, arith, Bool}
use Rattle.std.proofs.lemmas.List.{get_or-set_same, take-append-drop}
use Rattle.flow_value.specs.View.{items_from, values_of, values_of-items_from}
use Rattle.flow_value.specs.declared.value.Value.{Value}
use Rattle.flow_link.specs.declared.draft.BlockKind.{BlockKind}
use Rattle.flow_link.specs.declared.draft.BlockKind.TheVariants.{Buffer, Broadcast, WriteOnce, Action, Transform, TransformMany, Batch}
use Rattle.flow_link.specs.declared.trace.Mark.{Mark}
use Rattle.flow_link.specs.declared.trace.Mark.TheVariants.{Complete, Fault, Done}
use Rattle.flow_link.specs.declared.trace.Outcome.{Outcome}
use Rattle.flow_link.specs.declared.trace.Outcome.TheVariants as outcome
use Rattle.flow_link.specs.JournalGrows.{taken_by_mark, given_by_mark}
use Rattle.flow_link.specs.Layout.{Layout}
use Rattle.flow_link.specs.Making.{all_items, items_of}
use Rattle.flow_link.specs.Plan.{has_work, is_broadcast, is_write_once}
use Rattle.flow_link.specs.Trace.{took, gave}
use Rattle.flow_link.specs.Worked.{WorkedInto}
use Rattle.flow_link.proofs.KindsTell.{kind_tells}
use Rattle.flow_link.proofs.OneMoreMark.{took_no_more, gave_no_more, took_by_took, gave_by_took, took_by_gave, gave_by_gave}
use Rattle.flow_link.proofs.OneMoreWorked.{worked_more}
use Rattle.flow_intake.specs.Port.{PortState, fresh_port, hand_in}
use Rattle.flow_intake.specs.Calls.{first_of, wants, turns_down, postpones, refuses, consumes, asks, claims, releases, opens, closes, looks as port_looks, takes_next, gives_room, port_closes, port_fails}
use Rattle.flow_outlet.specs.Outlet.{OutletState, first_of as first_left, rest_of, head_of, gives, prepares, offers, holds, denies, withdraws, ends_link, looks as exit_looks}
use Rattle.flow_link.proofs.ListTests.{never_both}
use Rattle.flow_link.specs.Plan.{is_one_taker}
use Rattle.flow_block.specs.Copies.{copy_place, CopyCall, after_copy}
use Rattle.flow_block_law.proofs.CopiesIdle.{copies_at}
use Rattle.flow_group.specs.Round.{no_round}
use Rattle.flow_block.specs.Block.{BlockState, port_at, with_port, with_jobs, held_by, made_of, puts_out, put_by_kind, yields, keeps_results, makes_of, is_batch, row_of, takes_group, makes_row, stops_by, is_join, makes_tuple, copies_next, has_ports, is_batched_join}
use Rattle.flow_block_law.proofs.CopiesLeave.{held_by_copy}
use Rattle.flow_block.specs.Jobs.{JobsState, begins, works_off}
use Rattle.flow_block.specs.Node.{NodeState, NodeCall, gives_from, copies_by, in_link_at, out_link_at, order_in, holds_in}
use Rattle.flow_block.proofs.CopiesTaken.{taken_in_keeps}
use Rattle.flow_block_law.proofs.OnceMakesNone.{makes_many}
use Rattle.flow_block_law.specs.NodeKeeps.{MakesKept, MayCall, after_call}
use Rattle.flow_block_law.specs.NodeLaw.{NodeLaw, MakesLaw, MakesAs, FaultsOn}
use Rattle.flow_block.specs.Planned.{block_makes}
use Rattle.flow_block_law.proofs.GoingOn.{may_work_tells}
use Rattle.flow_block_law.proofs.Joins.{join_makes, ports_make, others_at_one, batched_is}
use Rattle.flow_block_law.proofs.KindsBuilt.{is_of_one, of_one, has_one_port, makes_by, next_by}
use Rattle.flow_block.proofs.PortsChange.{kept_at_one, kept_at_all}
use Rattle.flow_block.proofs.RoomBack.{kept_back}
use Rattle.flow_block.specs.Groups.{makes_group}

-- What is taken, given and made

worked_held : (result : Value → Result (List Value) ℕ) (taken held made : List Value) (value : Value)
    → WorkedInto result taken held made → WorkedInto result (taken ++ value ∷ []) (held ++ value ∷ []) made
worked_held result taken held made value so_far = record {
  done = so_far.done;
  results = so_far.results;
  taken_is = ap (λ (vs : List Value). vs ++ value ∷ []) so_far.taken_is ∙ append_assoc so_far.done held (value ∷ []);
  worked = so_far.worked;
  all = so_far.all;
}

takes_as : (result : Value → Result (List Value) ℕ) (kind : BlockKind) (taken held given left recorded : List Value)
    (value : Value)
    → MakesAs result kind taken held given left recorded
    → MakesAs result kind (taken ++ value ∷ []) (held ++ value ∷ []) given left recorded
takes_as result Buffer taken held given left recorded value is =
    ap (λ (vs : List Value). vs ++ value ∷ []) is ∙ append_assoc (given ++ left) held (value ∷ [])
takes_as result Action taken held given left recorded value is =
    (worked_held result taken held recorded value is.0, is.1)
takes_as result Transform taken held given left recorded value is =
    worked_held result taken held (given ++ left) value is
takes_as result TransformMany taken held given left recorded value is =
    worked_held result taken held (given ++ left) value is
takes_as result Batch taken held given left recorded value is =
    ap (λ (vs : List Value). vs ++ value ∷ []) is ∙ append_assoc (all_items (given ++ left)) held (value ∷ [])
takes_as result kind taken held given left recorded value is = tt

gives_as : (result : Value → Result (List Value) ℕ) (kind : BlockKind) (taken held given left recorded : List Value)
    (value : Value)
    → first_left left ≡ Some value → MakesAs result kind taken held given left recorded
    → MakesAs result kind taken held (given ++ value ∷ []) (rest_of left) recorded
gives_as result kind taken held given [] recorded value first is = absurd (cc)
gives_as result Buffer taken held given (head ∷ rest) recorded value first is =
    let same : head ≡ value = cc in
    is ∙ ap (λ (v : Value). (given ++ v ∷ rest) ++ held) same
    ∙ ap (λ (vs : List Value). vs ++ held) (sym (append_assoc given (value ∷ []) rest))
gives_as result Action taken held given (head ∷ rest) recorded value first is = let none = is.1 in absurd (cc)
gives_as result Transform taken held given (head ∷ rest) recorded value first is =
    let same : head ≡ value = cc in
    subst (λ (vs : List Value). WorkedInto result taken held vs)
    (ap (λ (v : Value). given ++ v ∷ rest) same ∙ sym (append_assoc given (value ∷ []) rest)) is
gives_as result TransformMany taken held given (head ∷ rest) recorded value first is =
    let same : head ≡ value = cc in
    subst (λ (vs : List Value). WorkedInto result taken held vs)
    (ap (λ (v : Value). given ++ v ∷ rest) same ∙ sym (append_assoc given (value ∷ []) rest)) is
gives_as result Batch taken held given (head ∷ rest) recorded value first is =
    let same : head ≡ value = cc in
    is ∙ ap (λ (rows : List Value). all_items rows ++ held)
    (ap (λ (v : Value). given ++ v ∷ rest) same ∙ sym (append_assoc given (value ∷ []) rest))
gives_as result kind taken held given (head ∷ rest) recorded value first is = tt

abbrev recorded_by_kind : BlockKind → List Value → List Value
recorded_by_kind Action values = values
recorded_by_kind _ values = []

makes_as : (result : Value → Result (List Value) ℕ) (kind : BlockKind)
    (taken rest given left recorded values : List Value) (value : Value)
    → is_batch kind ≡ false → made_of kind result value ≡ Ok values → MakesAs result kind taken (value ∷ rest) given left recorded
    → MakesAs result kind taken rest given (left ++ put_by_kind kind values) (recorded ++ recorded_by_kind kind values)
makes_as result Buffer taken rest given left recorded values value other made is =
    let same : values ≡ value ∷ [] = cc in
    is ∙ sym (append_assoc (given ++ left) (value ∷ []) rest)
    ∙ ap (λ (vs : List Value). vs ++ rest) (append_assoc given left (value ∷ []))
    ∙ ap (λ (vs : List Value). (given ++ (left ++ vs)) ++ rest) (sym same)
makes_as result Action taken rest given left recorded values value other made is =
    (worked_more result taken value rest recorded values made is.0, append-nil left ∙ is.1)
makes_as result Transform taken rest given left recorded values value other made is =
    subst (λ (vs : List Value). WorkedInto result taken rest vs) (append_assoc given left values)
    (worked_more result taken value rest (given ++ left) values made is)
makes_as result TransformMany taken rest given left recorded values value other made is =
    subst (λ (vs : List Value). WorkedInto result taken rest vs) (append_assoc given left values)
    (worked_more result taken value rest (given ++ left) values made is)
makes_as result Batch taken rest given left recorded values value other made is = absurd (cc)
makes_as result kind taken rest given left recorded values value other made is = tt

-- the messages of rows, with one row more
items_more : (rows : List Value) (values : List Value) → all_items (rows ++ row_of values ∷ []) ≡ all_items rows ++ values
items_more [] values = append-nil (values_of (items_from values)) ∙ values_of-items_from values
items_more (row ∷ rows) values =
    ap (λ (vs : List Value). items_of row ++ vs) (items_more rows values)
    ∙ sym (append_assoc (items_of row) (all_items rows) values)

row_as : (size : ℕ) (taken held given left : List Value) → taken ≡ all_items (given ++ left) ++ held
    → taken ≡ all_items (given ++ (left ++ row_of (take size held) ∷ [])) ++ drop size held
row_as size taken held given left is =
    let group = take size held in
    let rest = drop size held in
    is ∙ ap (λ (vs : List Value). all_items (given ++ left) ++ vs) (sym (take-append-drop size held))
    ∙ sym (append_assoc (all_items (given ++ left)) group rest)
    ∙ ap (λ (vs : List Value). vs ++ rest)
    (sym (items_more (given ++ left) group)
    ∙ ap all_items (append_assoc given left (row_of group ∷ [])))

-- The fault of its own function

fault_when_taken : (result : Value → Result (List Value) ℕ) (kind : BlockKind) (held : List Value) (value : Value)
    (number : ℕ)
    → FaultsOn result kind held number → FaultsOn result kind (held ++ value ∷ []) number
fault_when_taken result kind held value number faults = record {
  works = faults.works;
  message = faults.message;
  rest = faults.rest ++ value ∷ [];
  held_is = ap (λ (vs : List Value). vs ++ value ∷ []) faults.held_is;
  fails = faults.fails;
}

-- only a function faults
record Fails (result : Value → Result (List Value) ℕ) (kind : BlockKind) (value : Value) (number : ℕ) : Type 0 where
  works : has_work kind ≡ true
  fails : result value ≡ Err number

fails_so : (result : Value → Result (List Value) ℕ) (kind : BlockKind) (value : Value) (number : ℕ)
    → is_of_one kind ≡ true → is_batch kind ≡ false → made_of kind result value ≡ Err number
    → Fails result kind value number
fails_so result Buffer value number built other made = absurd (cc)
fails_so result Action value number built other made = record { works = refl; fails = made }
fails_so result Transform value number built other made = record { works = refl; fails = made }
fails_so result TransformMany value number built other made = record { works = refl; fails = made }
fails_so result kind value number built other made = absurd (cc)

-- of a block that copies, the law of copies tells what it makes
makes_copied : (result : Value → Result (List Value) ℕ) (kind : BlockKind) (taken held given left recorded : List Value)
    → is_one_taker kind ≡ false → MakesAs result kind taken held given left recorded
makes_copied result Broadcast taken held given left recorded copying = tt
makes_copied result WriteOnce taken held given left recorded copying = tt
makes_copied result _ taken held given left recorded copying = absurd (cc)

module _ {W : Type 0} (layout : Layout W) (meaning : ℕ → Value → Result (List Value) ℕ) (b : ℕ) where
  -- what the law reads is as it was
  stays : (block after : BlockState) (journal later : List Mark) → MakesLaw layout meaning b block journal
      → after.kind ≡ block.kind → held_by after ≡ held_by block → after.exits.left ≡ block.exits.left
      → after.recorded ≡ block.recorded → after.fault ≡ block.fault
      → took later ≡ took journal → gave later ≡ gave journal
      → MakesLaw layout meaning b after later
  stays block after journal later law kind held left recorded fault taken given = record {
    makes = rw (kind, held, left, recorded, taken, given) law.makes;
    fault_is = λ number is. rw (kind, held) (law.fault_is number (sym fault ∙ is));
  }

  -- one port changes, and keeps what it holds
  port_stays : (node : NodeState) → MakesLaw layout meaning b node.block node.journal
      → (p : ℕ) (change : PortState → PortState)
      → (change (port_at p node.block)).waiting ≡ (port_at p node.block).waiting
      → MakesLaw layout meaning b (with_port p change node.block) node.journal
  port_stays node law p change same =
      stays node.block (with_port p change node.block) node.journal node.journal law refl
      (kept_at_one (λ port. port.waiting) node.block.ports p 0 (change (port_at p node.block)) same)
      refl refl refl refl refl

  taken_by : (node : NodeState) → NodeLaw layout meaning b node → (p k : ℕ) (value : Value)
      → p < length node.block.ports → (many : Bool) → has_ports node.block.kind ≡ many
      → MakesLaw layout meaning b (holds_in p k (Some value) node).block (holds_in p k (Some value) node).journal
  taken_by node law p k value below true many = record {
    makes = ports_make (block_makes layout meaning b) node.block.kind _ _ _ _ _ many;
    fault_is = λ number is.
        never_both (has_work node.block.kind) (law.makes.fault_is number is).works (kind_tells has_ports true has_work false refl node.block.kind many);
  }
  taken_by node law p k value below false alone =
      let one = has_one_port layout meaning b node.block law.shape alone in
      let first : p ≡ 0 = omega arith in
      let change = closes k value in
      let held : held_by (with_port p change node.block) ≡ held_by node.block ++ value ∷ [] =
      rw first (ap (λ (port : PortState). port.waiting)
      (get_or-set_same node.block.ports 0 (change (port_at 0 node.block)) (fresh_port None) (omega arith))) in
      let taken = took_by_took node.journal p (in_link_at p k node) value in
      let given = gave_by_took node.journal p (in_link_at p k node) value in
      record {
        makes = rw (held, taken, given)
            (takes_as (block_makes layout meaning b) node.block.kind (took node.journal) (held_by node.block)
            (gave node.journal) node.block.exits.left node.block.recorded value law.makes.makes);
        fault_is = λ number is. rw held
            (fault_when_taken (block_makes layout meaning b) node.block.kind (held_by node.block) value number
            (law.makes.fault_is number is));
      }

  taken_in : (node : NodeState) → NodeLaw layout meaning b node → (p k : ℕ) (value : Option Value)
      → p < length node.block.ports
      → MakesLaw layout meaning b (holds_in p k value node).block (holds_in p k value node).journal
  taken_in node law p k None below = law.makes
  taken_in node law p k (Some value) below = taken_by node law p k value below (has_ports node.block.kind) refl

  given_out : (node : NodeState) → MakesLaw layout meaning b node.block node.journal → (k : ℕ) (value : Option Value)
      → head_of node.block.exits ≡ value
      → MakesLaw layout meaning b (gives_from k value node).block (gives_from k value node).journal
  given_out node law k None first = law
  given_out node law k (Some value) first =
      let held =
      kept_back (gives k node.block.exits) node.block.copies node.block.kind (head_of node.block.exits) (λ port. port.waiting) node.block.ports 0
      (λ back port. refl) in
      let taken = took_by_gave node.journal (out_link_at k node) value in
      let given = gave_by_gave node.journal (out_link_at k node) value in
      record {
        makes = rw (held, taken, given)
            (gives_as (block_makes layout meaning b) node.block.kind (took node.journal) (held_by node.block)
            (gave node.journal) node.block.exits.left node.block.recorded value first law.makes);
        fault_is = λ number is. rw held (law.fault_is number is);
      }

  -- its exits change, and have the same left to give
  exits_stay : (node : NodeState) → MakesLaw layout meaning b node.block node.journal → (exits : OutletState)
      → exits.left ≡ node.block.exits.left
      → MakesLaw layout meaning b (record node.block { exits = exits }) node.journal
  exits_stay node law exits same =
      stays node.block (record node.block { exits = exits }) node.journal node.journal law
      refl refl same refl refl refl refl

  -- its jobs change
  pub jobs_change : (node : NodeState) → MakesLaw layout meaning b node.block node.journal
      → (change : JobsState → JobsState)
      → MakesLaw layout meaning b (with_jobs change node.block) node.journal
  jobs_change node law change =
      stays node.block (with_jobs change node.block) node.journal node.journal law refl refl refl refl refl refl refl

  -- all its ports close
  stops_so : (node : NodeState) → MakesLaw layout meaning b node.block node.journal → (how : Outcome) (mark : Mark)
      → taken_by_mark (λ port link. true) mark ≡ [] → given_by_mark (λ link. true) mark ≡ []
      → MakesLaw layout meaning b (stops_by how node.block) (node.journal ++ mark ∷ [])
  stops_so node law how mark takes gives =
      stays node.block (stops_by how node.block) node.journal (node.journal ++ mark ∷ []) law refl
      (kept_at_all (λ port. port.waiting) port_closes node.block.ports 0 (λ port. refl)) refl refl refl
      (took_no_more node.journal mark takes) (gave_no_more node.journal mark gives)

  -- it works on the message that it holds first
  held_next : (block : BlockState) (change : PortState → PortState) (value : Value) (rest : List Value)
      → length block.ports ≡ 1
      → held_by block ≡ value ∷ rest → ((port : PortState) → (change port).waiting ≡ drop 1 port.waiting)
      → held_by (with_port 0 change block) ≡ rest
  held_next block change value rest one first changes =
      ap (λ (port : PortState). port.waiting)
      (get_or-set_same block.ports 0 (change (port_at 0 block)) (fresh_port None) (omega arith))
      ∙ changes (port_at 0 block) ∙ ap (λ (vs : List Value). drop 1 vs) first

  made_more : (kind : BlockKind) (block : BlockState) (journal : List Mark) (value : Value) (rest values : List Value)
      → block.kind ≡ kind → is_batch kind ≡ false
      → held_by block ≡ value ∷ rest → made_of kind (block_makes layout meaning b) value ≡ Ok values
      → MakesLaw layout meaning b block journal
      → MakesAs (block_makes layout meaning b) kind (took journal) rest (gave journal)
      (block.exits.left ++ put_by_kind kind values) (block.recorded ++ recorded_by_kind kind values)
  made_more kind block journal value rest values same other first made law =
      let left = block.exits.left in
      let result = block_makes layout meaning b in
      makes_as result kind (took journal) rest (gave journal) left block.recorded values value other made
      (subst (λ (k : BlockKind). MakesAs result k (took journal) (value ∷ rest) (gave journal) left block.recorded) same
      (subst (λ (held : List Value). MakesAs result block.kind (took journal) held (gave journal) left block.recorded)
      first law.makes))

  -- what it made of the message is there to be given
  put_so : (kind : BlockKind) (values : List Value) (block : BlockState) (journal : List Mark) (value : Value)
      (rest : List Value) → block.kind ≡ kind → length block.ports ≡ 1 → block.fault ≡ None
      → held_by block ≡ value ∷ rest
      → MakesAs (block_makes layout meaning b) kind (took journal) rest (gave journal) (block.exits.left ++ values)
      block.recorded
      → MakesLaw layout meaning b (puts_out values block) journal
  put_so kind [] block journal value rest same one none first made = record {
    makes = rw (same, held_next block (λ port. gives_room 1 (takes_next port)) value rest one first (λ port. refl))
        (subst (λ (left : List Value). MakesAs (block_makes layout meaning b) kind (took journal) rest (gave journal) left
        block.recorded) (append-nil block.exits.left) made);
    fault_is = λ number is. absurd (let never : None ≡ Some number = sym none ∙ is in cc);
  }
  put_so kind (one_made ∷ values) block journal value rest same one none first made = record {
    makes = rw (same, held_next block takes_next value rest one first (λ port. refl)) made;
    fault_is = λ number is. absurd (let never : None ≡ Some number = sym none ∙ is in cc);
  }

  kept_as : (kind : BlockKind) (block : BlockState) (journal : List Mark) (value : Value) (rest values : List Value)
      → block.kind ≡ kind
      → is_of_one kind ≡ true → is_batch kind ≡ false → length block.ports ≡ 1 → block.fault ≡ None
      → held_by block ≡ value ∷ rest
      → made_of kind (block_makes layout meaning b) value ≡ Ok values → MakesLaw layout meaning b block journal
      → MakesLaw layout meaning b (keeps_results kind values block) journal
  kept_as Action block journal value rest values same built other one none first made law =
      let held = held_next block (λ port. gives_room 1 (takes_next port)) value rest one first (λ port. refl) in
      let made_so = made_more Action block journal value rest values same other first made law in
      record {
        makes = rw (same, held) (made_so.0, sym (append-nil block.exits.left) ∙ made_so.1);
        fault_is = λ number is. absurd (let never : None ≡ Some number = sym none ∙ is in cc);
      }
  kept_as Buffer block journal value rest values same built other one none first made law =
      put_so Buffer values block journal value rest same one none first
      (made_more Buffer block journal value rest values same other first made law)
  kept_as Transform block journal value rest values same built other one none first made law =
      jobs_change (record { block = puts_out values block; journal = journal; grouped = 0; round = no_round })
      (put_so Transform values block journal value rest same one none first
      (made_more Transform block journal value rest values same other first made law)) works_off
  kept_as TransformMany block journal value rest values same built other one none first made law =
      jobs_change (record { block = puts_out values block; journal = journal; grouped = 0; round = no_round })
      (put_so TransformMany values block journal value rest same one none first
      (made_more TransformMany block journal value rest values same other first made law)) works_off
  kept_as kind block journal value rest values same built other one none first made law = absurd (cc)

  yielded : (block : BlockState) (journal : List Mark) (value : Value) (rest : List Value)
      (made : Result (List Value) ℕ)
      → length block.ports ≡ 1 → block.fault ≡ None → held_by block ≡ value ∷ rest
      → is_of_one block.kind ≡ true → is_batch block.kind ≡ false
      → made_of block.kind (block_makes layout meaning b) value ≡ made → MakesLaw layout meaning b block journal
      → MakesLaw layout meaning b (yields made block) journal
  yielded block journal value rest (Ok values) one none first built other is law =
      kept_as block.kind block journal value rest values refl built other one none first is law
  yielded block journal value rest (Err number) one none first built other is law =
      let held = kept_at_all (λ port. port.waiting) port_fails block.ports 0 (λ port. refl) in
      let faults = fails_so (block_makes layout meaning b) block.kind value number built other is in
      record {
        makes = rw held law.makes;
        fault_is = λ next same. record {
          works = faults.works;
          message = value;
          rest = rest;
          held_is = held ∙ first;
          fails = faults.fails ∙ ap Err (let numbers : number ≡ next = cc in numbers);
        };
      }

  made_next : (block : BlockState) (journal : List Mark) (held : List Value) → held_by block ≡ held
      → length block.ports ≡ 1 → block.fault ≡ None → is_of_one block.kind ≡ true → is_batch block.kind ≡ false
      → MakesLaw layout meaning b block journal
      → MakesLaw layout meaning b (makes_of (block_makes layout meaning b) (first_of held) block) journal
  made_next block journal [] is one none built other law = law
  made_next block journal (value ∷ rest) is one none built other law =
      let made = made_of block.kind (block_makes layout meaning b) value in
      yielded block journal value rest made one none is built other refl law

  -- it makes a row
  row_made : (block : BlockState) (journal : List Mark) → length block.ports ≡ 1 → block.fault ≡ None
      → (kind : BlockKind) → block.kind ≡ kind → is_batch kind ≡ true → MakesLaw layout meaning b block journal
      → MakesLaw layout meaning b (makes_row block) journal
  row_made block journal one none Batch same batch law =
      let held : held_by (makes_row block) ≡ drop block.size (held_by block) =
      ap (λ (port : PortState). port.waiting)
      (get_or-set_same block.ports 0 (takes_group block.size (port_at 0 block)) (fresh_port None) (omega (arith, one))) in
      let old : MakesAs (block_makes layout meaning b) Batch (took journal) (held_by block) (gave journal) block.exits.left
      block.recorded =
      subst (λ (kind : BlockKind). MakesAs (block_makes layout meaning b) kind (took journal) (held_by block)
      (gave journal) block.exits.left block.recorded) same law.makes in
      record {
        makes = rw (same, held) (row_as block.size (took journal) (held_by block) (gave journal) block.exits.left old);
        fault_is = λ number is. absurd (let never : None ≡ Some number = sym none ∙ is in cc);
      }
  row_made block journal one none _ same batch law = absurd (cc)

  -- it makes a group
  group_made : (block : BlockState) (journal : List Mark) (size weight : ℕ) (order : List ℕ) → is_batched_join block.kind ≡ true
      → block.fault ≡ None → MakesLaw layout meaning b (makes_group size weight order block) journal
  group_made block journal size weight order batched none = record {
    makes = ports_make (block_makes layout meaning b) block.kind _ _ _ _ _ (ap has_ports (batched_is block.kind batched));
    fault_is = λ number is. absurd (let never : None ≡ Some number = sym none ∙ is in cc);
  }

  -- it makes a tuple
  tuple_made : (block : BlockState) (journal : List Mark) → is_join block.kind ≡ true → block.fault ≡ None
      → MakesLaw layout meaning b (makes_tuple block) journal
  tuple_made block journal join none = record {
    makes = join_makes (block_makes layout meaning b) block.kind _ _ _ _ _ join;
    fault_is = λ number is. absurd (let never : None ≡ Some number = sym none ∙ is in cc);
  }

  -- what it copies
  copied_out : (call : CopyCall) (node : NodeState) → is_one_taker node.block.kind ≡ false
      → MakesLaw layout meaning b node.block node.journal
      → MakesLaw layout meaning b (copies_by call node).block (copies_by call node).journal
  copied_out call node copying law = record {
    makes = makes_copied (block_makes layout meaning b) node.block.kind _ _ _ _ _ copying;
    fault_is = λ number is. rw (held_by_copy (after_copy call node.block.copies) node.block) (law.fault_is number is);
  }

  copied_next : (first : Option Value) (block : BlockState) (journal : List Mark) → is_one_taker block.kind ≡ false
      → MakesLaw layout meaning b block journal
      → MakesLaw layout meaning b (copies_next first block) journal
  copied_next None block journal copying law = law
  copied_next (Some value) block journal copying law = record {
    makes = makes_copied (block_makes layout meaning b) block.kind _ _ _ _ _ copying;
    fault_is = λ number is. never_both (has_work block.kind) (law.fault_is number is).works (kind_tells is_one_taker false has_work false refl block.kind copying);
  }

  after_each : (node : NodeState) (call : NodeCall) → NodeLaw layout meaning b node → MayCall layout meaning b call node
      → MakesLaw layout meaning b (after_call layout meaning b call node).block
      (after_call layout meaning b call node).journal
  after_each node (NodeCall.want p k) law may = port_stays node law.makes p (wants k) refl
  after_each node (NodeCall.turn_down p k) law may = port_stays node law.makes p (turns_down k) refl
  after_each node (NodeCall.postpone p k) law may = port_stays node law.makes p (postpones k) refl
  after_each node (NodeCall.refuse p k) law may = port_stays node law.makes p (refuses k) refl
  after_each node (NodeCall.consume p k) law may = port_stays node law.makes p (consumes k) refl
  after_each node (NodeCall.ask p k) law may = port_stays node law.makes p (asks k) refl
  after_each node (NodeCall.claim p k) law may = port_stays node law.makes p (claims k) refl
  after_each node (NodeCall.release p k) law may = port_stays node law.makes p (releases k) refl
  after_each node (NodeCall.open_with p k value) law may = port_stays node law.makes p (opens k value) refl
  after_each node (NodeCall.close p k) law may =
      let hand = hand_in k (port_at p node.block).ends in
      let held = holds_in p k hand node in
      let kept = taken_in node law p k hand may.port in
      taken_in_keeps (MakesLaw layout meaning b) p k hand node kept
      (λ at_once. copied_next (first_of (held_by held.block)) held.block held.journal
      (kind_tells is_write_once true is_one_taker false refl held.block.kind at_once.once) kept)
  after_each node (NodeCall.give k) law may = given_out node law.makes k (head_of node.block.exits) refl
  after_each node (NodeCall.look_in p k phase) law may = port_stays node law.makes p (port_looks k phase) refl
  after_each node (NodeCall.copy call) law may = copied_out call node (copies_at layout meaning b node law (copy_place call) may.place) law.makes
  after_each node NodeCall.begin law may = jobs_change node law.makes begins
  after_each node NodeCall.make law may =
      let block = node.block in
      let none = (may_work_tells block may.waits).no_fault in
      let one : has_ports block.kind ≡ false → length block.ports ≡ 1 = has_one_port layout meaning b block law.shape in
      next_by (λ (new : NodeState). MakesLaw layout meaning b new.block new.journal) (block_makes layout meaning b) node
      (λ batched. group_made block node.journal block.size 0 (order_in node) batched none)
      (λ grouped.
      makes_by (λ new. MakesLaw layout meaning b new node.journal) (block_makes layout meaning b) block
      (λ batch. row_made block node.journal (one (kind_tells is_batch true has_ports false refl block.kind batch)) none block.kind refl batch law.makes)
      (λ join. tuple_made block node.journal join none)
      (λ broadcast. copied_next (first_of (held_by block)) block node.journal (kind_tells is_broadcast true is_one_taker false refl block.kind broadcast) law.makes)
      (λ other alone single. made_next block node.journal (held_by block) refl (one (others_at_one block.kind grouped alone)) none
      (of_one block.kind grouped other alone single (makes_many layout meaning b node law may.waits)) other
      law.makes))
  after_each node (NodeCall.complete p) law may =
      stays node.block (with_port p port_closes node.block) node.journal (node.journal ++ Complete p ∷ []) law.makes
      refl (kept_at_one (λ port. port.waiting) node.block.ports p 0 (port_closes (port_at p node.block)) refl)
      refl refl refl
      (took_no_more node.journal (Complete p) refl) (gave_no_more node.journal (Complete p) refl)
  after_each node (NodeCall.fault number) law may =
      stops_so node law.makes (outcome.Faulted number) (Fault number) refl refl
  after_each node NodeCall.finish law may = stops_so node law.makes outcome.Done Done refl refl
  after_each node (NodeCall.offer k) law may = exits_stay node law.makes (offers k (prepares node.block.exits)) refl
  after_each node (NodeCall.hold k) law may = exits_stay node law.makes (holds k node.block.exits) refl
  after_each node (NodeCall.deny k) law may = exits_stay node law.makes (denies k node.block.exits) refl
  after_each node (NodeCall.withdraw k) law may = exits_stay node law.makes (withdraws k node.block.exits) refl
  after_each node (NodeCall.end_link k how) law may = exits_stay node law.makes (ends_link k how node.block.exits) refl
  after_each node (NodeCall.look_out k phase) law may =
      exits_stay node law.makes (exit_looks k phase node.block.exits) refl

pub makes_kept : (W : Type 0) → MakesKept W
makes_kept W layout meaning b node call law may = after_each layout meaning b node call law may
