-- What a run tells of a node that it has: what the node holds, its own fault, whether it is complete, and its load.
use Rattle.std.proofs.Common.{◌≡◌, ℕ, ◌+◌, ◌-◌, ◌<◌, true, List, [], length, take, get_or, is_some, Some, refl, ap, ap₂, sym, ◌∙◌, subst, arith, None, Option, false, Bool, not, ◌||◌, ◌&&◌, ◌∷◌}
use Rattle.std.proofs.Math.ListN.{get_or-map}
use Rattle.flow_value.specs.declared.value.Value.{Value}
use Rattle.flow_link.specs.declared.draft.BlockKind.{BlockKind}
use Rattle.flow_link.specs.declared.trace.Mark.{Mark}
use Rattle.flow_lawful.specs.Composes.{Ends}
use Rattle.flow_lawful.specs.Endings.{first_fault, fault_by_kind, fault_of, own_fault, is_complete, is_complete_as}
use Rattle.flow_link.specs.Lists.{every, is_empty, below}
use Rattle.flow_link.specs.Making.{results_of, block_result, worked, part_left, load, load_as, all_items}
use Rattle.flow_link.specs.Plan.{has_work, port_count, is_one_taker, is_write_once}
use Rattle.flow_link.specs.Trace.{BlockTrace, Run, took, gave, has_complete, partly_left, block_of, marks_of, held_at, left_at, ports_of}
use Rattle.flow_link.proofs.KindsTell.{kind_tells}
use Rattle.flow_link.proofs.ListTests.{every_below, front_without}
use Rattle.flow_intake.specs.Port.{PortState, fresh_port}
use Rattle.flow_outlet.specs.Fits.{weight_of}
use Rattle.flow_outlet.specs.Outlet.{is_empty as has_none}
use Rattle.flow_block.specs.Block.{port_at, held_by, is_join, is_batched_join, has_ports}
use Rattle.std.proofs.lemmas.Bool.{false_from_ne_true}
use Rattle.flow_block_law.proofs.WrittenOnce.{weight_left}
use Rattle.flow_block.specs.Copies.{copies_weight}
use Rattle.flow_block.specs.Node.{NodeState}
use Rattle.flow_block_law.specs.NodeLaw.{NodeLaw, WeighsAs, PartlyGiven, weighed, rows_weighed, places_out, has_its_message}
use Rattle.flow_block_law.specs.NodeSeen.{IsNodeOf}
use Rattle.flow_block.specs.Peeks.{holds_nothing}
use Rattle.flow_block.specs.Planned.{block_makes, room_of}
use Rattle.flow_block_law.proofs.CopierOf.{copier_seen, none_shared}
use Rattle.flow_block_law.proofs.CopiesIdle.{left_is_shared, copies_idle}
use Rattle.flow_block_law.proofs.KindsBuilt.{by_kind, has_one_port, room_kept}
use Rattle.flow_link.proofs.TestsTell.{every_tells}
use Rattle.flow_block.proofs.NothingLeft.{none_left}
use Rattle.flow_block_law.proofs.WeightsOfResults.{weight_weighed, weight_rows, weight_partial}
use Rattle.flow_block_law.specs.TuplesSeen.{JoinSeen, IsPortsOf}
use Rattle.flow_block_law.proofs.TuplesSeen.{joins_are_parts}
use Rattle.flow_block_law.proofs.Joins.{batched_is}
use Rattle.flow_block_law.proofs.GroupsRest.{groups_rest}

limited_never : {capacity : Option ℕ} → capacity ≡ None → is_some capacity ≡ true → ⊥
limited_never none limited = let never : false ≡ true = sym (ap is_some none) ∙ limited in absurd (cc)

or_none : (all : Bool) → all ≡ (all || false)
or_none true = refl
or_none false = refl

and_one : (all : Bool) → all ≡ (all && true)
and_one true = refl
and_one false = refl

module _ {W : Type 0} (run : Run W) (b : ℕ) (node : NodeState) (law : NodeLaw run.layout run.meaning b node) where
  -- a block that is no join completes when its port does, or when it has all that it takes
  pub complete_by_port : is_join (block_of run b).kind ≡ false
      → is_complete run b ≡ (every (λ p. has_complete p (marks_of run b)) (ports_of run b)
      || has_its_message (block_of run b).kind (marks_of run b))
  complete_by_port alone =
      let all = every (λ p. has_complete p (marks_of run b)) (ports_of run b) in
      by_kind (λ kind. is_join kind ≡ false → (is_write_once kind ≡ true → ports_of run b ≡ 0 ∷ [])
      → is_complete_as run kind b ≡ (all || has_its_message kind (marks_of run b)))
      (λ e _. or_none all) (λ e _. or_none all) (λ e _. or_none all) (λ e _. or_none all) (λ e _. or_none all) (λ e _. absurd (cc))
      (λ e _. or_none all)
      (λ e one. ap (λ (first : Bool). first || not (has_none (took (marks_of run b)))) (and_one (has_complete 0 (marks_of run b)))
      ∙ ap (λ (ps : List ℕ). every (λ p. has_complete p (marks_of run b)) ps || not (has_none (took (marks_of run b)))) (sym (one refl)))
      (λ e _. or_none all)
      (block_of run b).kind alone
      (λ once.
      let copying = kind_tells is_write_once true is_one_taker false refl node.block.kind (ap is_write_once law.shape.kind_is ∙ once) in
      ap below (sym law.shape.port_count_is
      ∙ has_one_port run.layout run.meaning b node.block law.shape (kind_tells is_one_taker false has_ports false refl node.block.kind copying)))

module _ {W : Type 0} (run : Run W) (ends : ℕ → Ends) (b : ℕ) (node : NodeState)
    (law : NodeLaw run.layout run.meaning b node) (part : IsNodeOf run ends b node) where
  pub held_is : (p : ℕ) → held_at run b p ≡ (port_at p node.block).waiting
  held_is p =
      ap (λ (t : BlockTrace). get_or t.held p []) part.trace
      ∙ get_or-map (λ (port : PortState). port.waiting) node.block.ports p (fresh_port None)

  pub none_held : holds_nothing node.block.ports ≡ true
      → every (λ p. is_empty (held_at run b p)) (ports_of run b) ≡ true
  none_held none =
      every_below (λ p. is_empty (held_at run b p)) (port_count (block_of run b)) (λ p small.
      let known : p < length node.block.ports = omega (arith, law.shape.port_count_is) in
      ap is_empty (held_is p)
      ∙ ap is_empty (none_left (port_at p node.block).waiting
      (every_tells (λ (port : PortState). has_none port.waiting) node.block.ports (fresh_port None) p none known)))

  pub own_fault_is : (number : ℕ) → node.block.fault ≡ Some number → own_fault run b ≡ Some number
  own_fault_is number e =
      let has = law.makes.fault_is number e in
      ap (fault_by_kind run b) (ap has_work (sym law.shape.kind_is) ∙ has.works)
      ∙ ap (first_fault run b) (held_is 0 ∙ has.held_is)
      ∙ ap fault_of has.fails

  pub is_joining : is_join (block_of run b).kind ≡ is_join node.block.kind
  is_joining = ap is_join (sym law.shape.kind_is)

  -- a join as a part of the run
  pub join_seen : is_join node.block.kind ≡ true → JoinSeen run b node
  join_seen join =
      joins_are_parts W run b node (record {
        trace = part.trace;
        count = law.shape.port_count_is;
        shares = kind_tells is_join true is_one_taker true refl node.block.kind join;
      })

  -- how a block of this kind has its messages counted
  abbrev LoadIs : ℕ → BlockKind → Type 0
  LoadIs p kind =
      WeighsAs (block_makes run.layout run.meaning b) kind (block_of run b).capacity (took node.journal)
      (held_by node.block) (gave node.journal) node.block.exits.left node.block.exits.next node.block.exits.groups
      → load_as run b kind p ≡ length (port_at p node.block).waiting + weight_of node.block.exits.groups

  module _ (shares : is_one_taker node.block.kind ≡ true) where
    -- what it has left is of one message each
    load_of_left : (p : ℕ) → is_some (block_of run b).capacity ≡ true
        → node.block.exits.groups ≡ weighed (block_of run b).capacity node.block.exits.next node.block.exits.left
        → length (held_at run b p) + length (left_at run b)
        ≡ length (port_at p node.block).waiting + weight_of node.block.exits.groups
    load_of_left p limited weighs =
        ap₂ (λ (held left : List Value). length held + length left) (held_is p)
        (ap (λ (t : BlockTrace). t.left) part.trace ∙ left_is_shared run.layout run.meaning b node law shares)
        ∙ ap (λ (n : ℕ). length (port_at p node.block).waiting + n)
        (sym (ap weight_of weighs
        ∙ weight_weighed (block_of run b).capacity node.block.exits.next node.block.exits.left limited))

    -- the messages of the rows that it has left
    load_of_rows : (p : ℕ) → is_some (block_of run b).capacity ≡ true
        → node.block.exits.groups ≡ rows_weighed (block_of run b).capacity node.block.exits.next node.block.exits.left
        → length (held_at run b p) + length (all_items (left_at run b))
        ≡ length (port_at p node.block).waiting + weight_of node.block.exits.groups
    load_of_rows p limited weighs =
        ap₂ (λ (held left : List Value). length held + length (all_items left)) (held_is p)
        (ap (λ (t : BlockTrace). t.left) part.trace ∙ left_is_shared run.layout run.meaning b node law shares)
        ∙ ap (λ (n : ℕ). length (port_at p node.block).waiting + n)
        (sym (ap weight_of weighs
        ∙ weight_rows (block_of run b).capacity node.block.exits.next node.block.exits.left limited))

    -- the messages whose results are not wholly given
    part_left_is : is_some (block_of run b).capacity ≡ true
        → (partial : PartlyGiven (block_makes run.layout run.meaning b) (block_of run b).capacity (took node.journal)
        (held_by node.block) (gave node.journal) node.block.exits.left node.block.exits.groups)
        → part_left run b (results_of (block_result run b) (worked run b)) ≡ weight_of node.block.exits.groups
    part_left_is limited partial =
        let works = partial.works in
        let front : worked run b ≡ works.done =
        ap₂ (λ (marks : List Mark) (held : List Value). take (length (took marks) - length held) (took marks))
        (ap (λ (t : BlockTrace). t.journal) part.trace) (held_is 0)
        ∙ ap (λ (taken : List Value). take (length taken - length (held_by node.block)) taken) works.taken_is
        ∙ front_without works.done (held_by node.block) in
        ap (λ (done : List Value). part_left run b (results_of (block_result run b) done)) front
        ∙ ap (part_left run b) works.worked
        ∙ ap (λ (marks : List Mark). partly_left (length (gave marks)) works.results)
        (ap (λ (t : BlockTrace). t.journal) part.trace)
        ∙ sym (ap weight_of partial.groups_are
        ∙ weight_partial (block_of run b).capacity (length (gave node.journal)) works.results limited)

    -- of all but a batched join
    load_by : is_batched_join node.block.kind ≡ false → (p : ℕ) → is_some (block_of run b).capacity ≡ true
        → load run b p ≡ length (port_at p node.block).waiting + weight_of node.block.exits.groups
    load_by grouped p limited =
        by_kind (λ kind. is_one_taker kind ≡ true → is_batched_join kind ≡ false → LoadIs p kind)
        (λ _ _. load_of_left p limited) (λ _ _. load_of_left p limited) (λ _ _. load_of_left p limited)
        (λ _ _ partial. ap₂ (λ (held : List Value) (left : ℕ). length held + left) (held_is p) (part_left_is limited partial))
        (λ _ _. load_of_rows p limited) (λ _ _. load_of_left p limited) (λ sharing _. absurd (cc)) (λ sharing _. absurd (cc))
        (λ _ grouped. absurd (cc)) (block_of run b).kind
        (ap is_one_taker (sym law.shape.kind_is) ∙ shares) (ap is_batched_join (sym law.shape.kind_is) ∙ grouped)
        (subst (λ (kind : BlockKind). WeighsAs (block_makes run.layout run.meaning b) kind (block_of run b).capacity
        (took node.journal) (held_by node.block) (gave node.journal) node.block.exits.left node.block.exits.next
        node.block.exits.groups) law.shape.kind_is
        (subst (λ (room : Option ℕ). WeighsAs (block_makes run.layout run.meaning b) node.block.kind room
        (took node.journal) (held_by node.block) (gave node.journal) node.block.exits.left node.block.exits.next
        node.block.exits.groups) (room_kept run.layout run.meaning b node.block law.shape limited) (law.load grouped).groups))

  places_are : is_batched_join node.block.kind ≡ false → (p : ℕ) → is_some (block_of run b).capacity ≡ true
      → load run b p ≡ length (port_at p node.block).waiting + places_out node.block
  places_are grouped p limited = by_sharing (is_one_taker node.block.kind) refl
    where
      by_sharing : (sharing : Bool) → is_one_taker node.block.kind ≡ sharing
          → load run b p ≡ length (port_at p node.block).waiting + places_out node.block
      by_sharing true shares =
          let none : copies_weight node.block.copies ≡ 0 =
          ap copies_weight (copies_idle run.layout run.meaning b node law shares) in
          load_by shares grouped p limited ∙ omega (arith, none)
      by_sharing false copying =
          let none = (none_shared run ends b node law part copying).1 in
          let many =
          false_from_ne_true (is_write_once node.block.kind) (λ once. limited_never (law.shape.no_capacity once) limited) in
          let left = weight_left run.layout b node.block node.journal (law.copies.copier copying) many in
          (copier_seen run ends b node law part copying).load p ∙ omega (arith, none, left)

  -- a batched join as a part of the run
  pub as_ports : is_batched_join node.block.kind ≡ true → IsPortsOf run b node
  as_ports batched = record {
    trace = part.trace;
    count = law.shape.port_count_is;
    shares = kind_tells is_batched_join true is_one_taker true refl node.block.kind batched;
  }

  pub is_grouping : is_batched_join (block_of run b).kind ≡ is_batched_join node.block.kind
  is_grouping = ap is_batched_join (sym law.shape.kind_is)

  pub load_is : (p : ℕ) → p < length node.block.ports → is_some (block_of run b).capacity ≡ true
      → load run b p ≡ (port_at p node.block).load
  load_is p there limited = by_groups (is_batched_join node.block.kind) refl
    where
      room : room_of (block_of run b) ≡ (block_of run b).capacity
      room = room_kept run.layout run.meaning b node.block law.shape limited

      by_groups : (batched : Bool) → is_batched_join node.block.kind ≡ batched → load run b p ≡ (port_at p node.block).load
      by_groups true batched =
          ap (λ (kind : BlockKind). load_as run b kind p) (batched_is (block_of run b).kind (is_grouping ∙ batched))
          ∙ (groups_rest W run b node (as_ports batched)).load (law.group_load batched) p there
          (ap is_some ((law.shape.ports p there).capacity ∙ room) ∙ limited)
      by_groups false grouped =
          places_are grouped p limited ∙ sym ((law.load grouped).load p there (ap is_some room ∙ limited))
