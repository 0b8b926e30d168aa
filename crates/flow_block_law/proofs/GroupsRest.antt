-- What a run tells of a batched join's load and rest, and how one begins.
use Rattle.std.proofs.Common.{◌≡◌, ℕ, zero, suc, ◌+◌, ◌<◌, leb, ltb, not, Bool, true, false, ◌&&◌, ◌||◌, List, [], ◌∷◌, length, map, sum, is_some, refl, ap, ap₂, sym, ◌∙◌, arith}
use Rattle.std.proofs.lemmas.Bool.{and_from, ltb-false, lt-ltb, leb-false}
use Rattle.std.proofs.lemmas.List.Sums.{sum-map, sum_by-cons}
use Rattle.flow_value.specs.declared.value.Value.{Value}
use Rattle.flow_link.specs.declared.draft.BlockKind.TheVariants.{BatchedJoin}
use Rattle.flow_link.specs.Layout.{Layout}
use Rattle.flow_link.specs.Lists.{every, below, numbers_from, is_empty}
use Rattle.flow_link.specs.Making.{group_size, load_as, all_items, column}
use Rattle.flow_link.specs.Plan.{block_in, port_count}
use Rattle.flow_lawful.specs.Quiet.{held_in_all, holds_nothing, all_completed, has_no_group}
use Rattle.flow_link.specs.Trace.{Run, has_complete, held_at}
use Rattle.flow_link.specs.declared.trace.Mark.{Mark}
use Rattle.flow_intake.specs.Port.{PortState}
use Rattle.flow_block.specs.Block.{port_in, port_at}
use Rattle.flow_block.specs.Copies.{copies_weight}
use Rattle.flow_block_law.specs.GroupsLaw.{are_complete, LoadByPort}
use Rattle.flow_block.specs.Groups.{waiting_in_all, has_group_at}
use Rattle.flow_block_law.specs.GroupsRest.{GroupsRestInRuns, FreshInOrder, GroupsBegin}
use Rattle.flow_block.specs.Node.{NodeState}
use Rattle.flow_block.specs.Planned.{port_of_plan, fresh_node, rule_of, links_from, size_of}
use Rattle.flow_block_law.specs.TuplesSeen.{IsPortsOf}
use Rattle.flow_block_law.proofs.FreshGroups.{fresh_groups}
use Rattle.flow_block_law.proofs.GroupsSeen.{marks_are, left_is, held_is, numbers_are}
use Rattle.flow_block.proofs.RoomFits.{weighs_fresh}

-- Sums over the ports

sum_of : (f : ℕ → ℕ) (first : ℕ) (ports : List PortState)
    → ((p : ℕ) → p < length ports → f (first + p) ≡ length (port_in ports p).waiting)
    → sum (map f (numbers_from first (length ports))) ≡ waiting_in_all ports
sum_of f first [] same = refl
sum_of f first (port ∷ ports) same =
    let here : f first ≡ length port.waiting = ap f (omega arith) ∙ same 0 (omega arith) in
    let rest : sum (map f (numbers_from (suc first) (length ports))) ≡ waiting_in_all ports =
    sum_of f (suc first) ports (λ p there. ap f (omega arith) ∙ same (suc p) (omega (arith, there))) in
    let parts : sum (map f (numbers_from first (length (port ∷ ports))))
    ≡ f first + sum (map f (numbers_from (suc first) (length ports))) =
    sum-map f (first ∷ numbers_from (suc first) (length ports)) ∙ sum_by-cons f first (numbers_from (suc first) (length ports))
    ∙ ap (λ (rest : ℕ). f first + rest) (sym (sum-map f (numbers_from (suc first) (length ports)))) in
    omega (arith, here, rest, parts)

empty_so : (values : List Value) → length values ≡ 0 → is_empty values ≡ true
empty_so [] none = refl
empty_so (value ∷ values) none = absurd (omega (arith, none))

none_at : (test : ℕ → Bool) (first : ℕ) (ports : List PortState)
    → ((p : ℕ) → p < length ports → test (first + p) ≡ is_empty (port_in ports p).waiting) → waiting_in_all ports ≡ 0
    → every test (numbers_from first (length ports)) ≡ true
none_at test first [] same none = refl
none_at test first (port ∷ ports) same none =
    let here : test first ≡ is_empty port.waiting = ap test (omega arith) ∙ same 0 (omega arith) in
    let empty : is_empty port.waiting ≡ true = empty_so port.waiting (omega (arith, none)) in
    and_from (test first) (every test (numbers_from (suc first) (length ports))) (here ∙ empty)
    (none_at test (suc first) ports (λ p there. ap test (omega arith) ∙ same (suc p) (omega (arith, there))) (omega (arith, none)))

or_right : (ended nothing : Bool) → nothing ≡ true → (not ended || nothing) ≡ true
or_right true nothing is = is
or_right false nothing is = refl

-- there is no group: fewer wait than a group has, and none where all is complete
no_group : (size count : ℕ) (ended nothing some enough : Bool) → 0 < size → ltb 0 count ≡ some → leb size count ≡ enough
    → (count ≡ 0 → nothing ≡ true) → (some && (enough || ended)) ≡ false
    → (ltb count size && (not ended || nothing)) ≡ true
no_group size count ended nothing false enough size_some is_some is_enough none e =
    let zero_count : count ≡ 0 = let few = ltb-false 0 count is_some in omega (arith, few) in
    and_from (ltb count size) (not ended || nothing) (lt-ltb count size (omega (arith, size_some, zero_count)))
    (or_right ended nothing (none zero_count))
no_group size count true nothing true true size_some is_some is_enough none e = absurd (cc)
no_group size count false nothing true true size_some is_some is_enough none e = absurd (cc)
no_group size count true nothing true false size_some is_some is_enough none e = absurd (cc)
no_group size count false nothing true false size_some is_some is_enough none e =
    and_from (ltb count size) (not false || nothing) (lt-ltb count size (leb-false size count is_enough)) refl

module _ {W : Type 0} (run : Run W) (b : ℕ) (node : NodeState) (part : IsPortsOf run b node) where
  abbrev ports : List PortState
  ports = node.block.ports

  held_so : (p : ℕ) → held_at run b p ≡ (port_in ports p).waiting
  held_so p = held_is run b node part p

  all_held : held_in_all run b ≡ waiting_in_all ports
  all_held =
      ap (λ (numbers : List ℕ). sum (map (λ p. length (held_at run b p)) numbers)) (numbers_are run b node part)
      ∙ sum_of (λ p. length (held_at run b p)) 0 ports
      (λ p there. ap (λ (values : List Value). length values) (held_so (0 + p)) ∙ ap (λ (q : ℕ). length (port_in ports q).waiting) (omega arith))

  none_held : waiting_in_all ports ≡ 0 → holds_nothing run b ≡ true
  none_held none =
      ap (every (λ p. is_empty (held_at run b p))) (numbers_are run b node part)
      ∙ none_at (λ p. is_empty (held_at run b p)) 0 ports
      (λ p there. ap (λ (values : List Value). is_empty values) (held_so (0 + p)) ∙ ap (λ (q : ℕ). is_empty (port_in ports q).waiting) (omega arith))
      none

  completed_so : all_completed run b ≡ are_complete (length ports) node.journal
  completed_so =
      ap₂ (λ (marks : List Mark) (numbers : List ℕ). every (λ p. has_complete p marks) numbers) (marks_are run b node part)
      (numbers_are run b node part)

  rests_so : 0 < group_size run b → has_group_at (group_size run b) (are_complete (length ports) node.journal) ports ≡ false
      → has_no_group run b ≡ true
  rests_so some none =
      let size = group_size run b in
      let count = waiting_in_all ports in
      ap₂ (λ (held : ℕ) (ended : Bool). ltb held size && (not ended || holds_nothing run b)) all_held completed_so
      ∙ no_group size count (are_complete (length ports) node.journal) (holds_nothing run b) (ltb 0 count) (leb size count) some refl refl
      none_held none

  load_so : LoadByPort node.block → (p : ℕ) → p < length ports → is_some (port_at p node.block).capacity ≡ true
      → load_as run b BatchedJoin p ≡ (port_at p node.block).load
  load_so law p there limited =
      ap₂ (λ (held left : List Value). length held + length (all_items (column p left))) (held_so p) (left_is run b node part)
      ∙ sym (law.load p there limited)

pub groups_rest : (W : Type 0) → GroupsRestInRuns W
groups_rest W run b node part = record { load = load_so run b node part; rests = rests_so run b node part }

-- How one begins

module _ {W : Type 0} (layout : Layout W) (b : ℕ) where
  nothing_counts : (ps : List ℕ) (p : ℕ)
      → (port_in (map (port_of_plan layout b) ps) p).load ≡ length (port_in (map (port_of_plan layout b) ps) p).waiting + 0
  nothing_counts [] p = refl
  nothing_counts (q ∷ ps) zero = refl
  nothing_counts (q ∷ ps) (suc p) = nothing_counts ps p

  nothing_weighs : copies_weight (fresh_node layout b).block.copies ≡ 0
  nothing_weighs = weighs_fresh (block_in layout.blocks b).kind (map (rule_of layout) (links_from layout b))

  begins : FreshInOrder layout b
  begins =
      let count = length (fresh_node layout b).block.ports in
      let groups = fresh_groups W layout b (size_of layout b) count in
      record {
        groups = record { within = omega arith; groups = groups.0; whole = groups.1 };
        load = record {
          no_groups = refl;
          no_room = refl;
          no_copies = nothing_weighs;
          load = λ p there limited. nothing_counts (below (port_count (block_in layout.blocks b))) p;
        };
      }

pub groups_begin : (W : Type 0) → GroupsBegin W
groups_begin W layout b = begins layout b
