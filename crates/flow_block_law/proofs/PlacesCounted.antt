-- How many places messages and results take at a port, and what is counted where one comes or goes.
use Rattle.std.proofs.Common.{zero, suc, ◌≡◌, ℕ, ◌+◌, ◌<◌, ◌==◌, cond, Bool, true, false, List, [], ◌∷◌, ◌++◌, length, map, set, drop, Option, Some, None, is_some, Result, Ok, Err, refl, ap, sym, ◌∙◌, subst, arith, ne_eqb, length-append, not}
use Rattle.flow_value.specs.declared.value.Value.{Value}
use Rattle.flow_link.specs.declared.draft.BlockKind.{BlockKind}
use Rattle.flow_link.specs.declared.draft.BlockKind.TheVariants.{Buffer, Broadcast, WriteOnce, Action, Transform, TransformMany}
use Rattle.flow_link.specs.Making.{result_of}
use Rattle.flow_link.specs.Plan.{is_one_taker, is_broadcast}
use Rattle.flow_intake.specs.Port.{PortState}
use Rattle.flow_intake.specs.Calls.{first_of, one_more}
use Rattle.flow_outlet.specs.declared.group.Group.{Group}
use Rattle.flow_outlet.specs.Fits.{weight_of}
use Rattle.flow_outlet.specs.Outlet.{OutletState, groups_with, room_with, is_empty}
use Rattle.flow_outlet.proofs.OutletFits.{room_put}
use Rattle.flow_block.specs.Copies.{copies_weight}
use Rattle.flow_block.specs.Block.{BlockState, port_in, unit_weight, made_of, is_batch, group_weight}
use Rattle.flow_block_law.proofs.CopiesLeave.{free_is_given}
use Rattle.flow_block_law.specs.NodeLaw.{WeighsAs}
use Rattle.flow_block.specs.Peeks.{may_work}
use Rattle.flow_block_law.proofs.CopierKept.{may_copy_tells}
use Rattle.flow_block_law.proofs.KindsBuilt.{is_of_one}
use Rattle.flow_block.proofs.PortsChange.{each_after_one, each_after_all}
use Rattle.flow_block_law.proofs.WeightsOfResults.{is_many}
use Rattle.flow_group.specs.Tuple.{has_first, has_tuple}
use Rattle.std.proofs.lemmas.Bool.{and_parts}

-- of a block that copies nothing is weighed that it put out
pub weighs_copied : (result : Value → Result (List Value) ℕ) (kind : BlockKind) (capacity : Option ℕ)
    (taken held given taken' held' given' left : List Value) (next : ℕ) (groups : List Group) → is_one_taker kind ≡ false
    → WeighsAs result kind capacity taken held given left next groups → WeighsAs result kind capacity taken' held' given' left next groups
weighs_copied result Broadcast capacity taken held given taken' held' given' left next groups copying weighs = weighs
weighs_copied result WriteOnce capacity taken held given taken' held' given' left next groups copying weighs = weighs
weighs_copied result _ capacity taken held given taken' held' given' left next groups copying weighs = absurd (cc)

-- what goes on to copy another message has nothing left of the last one
pub none_copied_yet : (block : BlockState) → is_broadcast block.kind ≡ true → may_work block ≡ true → copies_weight block.copies ≡ 0
none_copied_yet block broadcast may = free_is_given block.copies (may_copy_tells block broadcast may)

abbrev pub is_action : BlockKind → Bool
is_action Action = true
is_action _ = false

-- and what they give is one message for each
transformed_is_one : (raw : Result (List Value) ℕ) (values : List Value) → result_of Transform raw ≡ Ok values
    → length values ≡ 1
transformed_is_one (Err number) values e = absurd (cc)
transformed_is_one (Ok []) values e = absurd (cc)
transformed_is_one (Ok (value ∷ [])) values e = let same : values ≡ value ∷ [] = cc in rw same refl
transformed_is_one (Ok (value ∷ next ∷ more)) values e = absurd (cc)

made_by_kind : (kind : BlockKind) (raw : Value → Result (List Value) ℕ) (value : Value) (values : List Value)
    → is_of_one kind ≡ true → made_of kind (λ v. result_of kind (raw v)) value ≡ Ok values
    → is_action kind ≡ false → is_many kind ≡ false → is_batch kind ≡ false → length values ≡ 1
made_by_kind Buffer raw value values built e other single alone = let same : values ≡ value ∷ [] = cc in rw same refl
made_by_kind Action raw value values built e other single alone = absurd (cc)
made_by_kind Transform raw value values built e other single alone = transformed_is_one (raw value) values e
made_by_kind TransformMany raw value values built e other single alone = absurd (cc)
made_by_kind kind raw value values built e other single alone = absurd (cc)

pub made_is_one : (kind planned : BlockKind) (raw : Value → Result (List Value) ℕ) (value : Value) (values : List Value)
    → kind ≡ planned → is_of_one kind ≡ true → made_of kind (λ v. result_of planned (raw v)) value ≡ Ok values
    → is_action kind ≡ false → is_many kind ≡ false → is_batch kind ≡ false → length values ≡ 1
made_is_one kind planned raw value values same built e other single alone =
    made_by_kind kind raw value values built
    (subst (λ (other : BlockKind). made_of kind (λ v. result_of other (raw v)) value ≡ Ok values) (sym same) e)
    other single alone

-- the room of a result that is there does not come back at once
pub none_back : (count weight room : ℕ) → 0 < count → room ≡ 0 → room_with count weight room ≡ 0
none_back count weight room some none =
    let more : (count == 0) ≡ false = ne_eqb count 0 (λ e. omega arith) in
    ap (λ (test : Bool). room + cond test weight 0) more ∙ omega arith

-- a result that is there takes the places of its weight
pub more_weight : (next count weight : ℕ) (groups : List Group) → 0 < count
    → weight_of (groups_with next count weight groups) ≡ weight_of groups + weight
more_weight next count weight groups some =
    let put = room_put next count weight 0 groups in
    let none = none_back count weight 0 some refl in
    omega (arith, put, none)

pub one_place : (capacity : Option ℕ) → is_some capacity ≡ true → unit_weight capacity ≡ 1
one_place None there = absurd (cc)
one_place (Some c) there = refl

pub many_places : (capacity : Option ℕ) (count : ℕ) → is_some capacity ≡ true → group_weight capacity count ≡ count
many_places None count there = absurd (cc)
many_places (Some c) count there = refl

-- one message goes off each port
one_gone : (waiting : List Value) → not (is_empty waiting) ≡ true → length waiting ≡ length (drop 1 waiting) + 1
one_gone [] some = absurd (cc)
one_gone (value ∷ waiting) some = omega arith

pub gone_at : (ports : List PortState) (q : ℕ) → q < length ports → has_tuple ports ≡ true
    → length (port_in ports q).waiting ≡ length (drop 1 (port_in ports q).waiting) + 1
gone_at [] q there waits = absurd (omega (arith, there))
gone_at (port ∷ ports) zero there waits = one_gone port.waiting (and_parts (has_first port) (has_tuple ports) waits).0
gone_at (port ∷ ports) (suc q) there waits =
    gone_at ports q (omega (arith, there)) (and_parts (has_first port) (has_tuple ports) waits).1

-- an outlet has the same left to give
pub record IsLeftSo (before after : OutletState) : Type 0 where
  pub left : after.left ≡ before.left
  pub next : after.next ≡ before.next
  pub groups : after.groups ≡ before.groups
  pub room : after.room ≡ before.room

pub left_so : (exits : OutletState) → IsLeftSo exits exits
left_so exits = record { left = refl; next = refl; groups = refl; room = refl }

-- what is counted at each port, where there is a capacity
abbrev pub Counts : Bool → ℕ → PortState → Type 0
Counts limited left port = limited ≡ true → port.load ≡ length port.waiting + left

abbrev pub EachCounts : Bool → ℕ → List PortState → Type 0
EachCounts limited left ports = (q : ℕ) → q < length ports → Counts limited left (port_in ports q)

-- a port changes that holds as much as before
pub one_as_before : (limited : Bool) (left : ℕ) (ports : List PortState) (p : ℕ) (port : PortState)
    → port.load ≡ (port_in ports p).load → port.waiting ≡ (port_in ports p).waiting
    → EachCounts limited left ports → EachCounts limited left (set ports p port)
one_as_before limited left ports p port load waiting counts =
    each_after_one (λ q x. Counts limited left x) ports p port
    (λ below there. load ∙ counts p below there ∙ ap (λ (vs : List Value). length vs + left) (sym waiting))
    (λ q there other. counts q there)

pub each_as_before : (limited : Bool) (left : ℕ) (ports : List PortState) (change : PortState → PortState)
    → ((port : PortState) → Counts limited left port → Counts limited left (change port))
    → EachCounts limited left ports → EachCounts limited left (map change ports)
each_as_before limited left ports change same counts =
    each_after_all (λ q x. Counts limited left x) change ports (λ q below. same (port_in ports q) (counts q below))

-- a port takes a message
pub one_taken : (capacity mine : Option ℕ) (load left : ℕ) (waiting : List Value) (value : Value)
    → mine ≡ capacity → is_some capacity ≡ true → load ≡ length waiting + left
    → one_more mine load ≡ length (waiting ++ value ∷ []) + left
one_taken None mine load left waiting value same there counts = absurd (cc)
one_taken (Some c) None load left waiting value same there counts = absurd (cc)
one_taken (Some c) (Some d) load left waiting value same there counts =
    rw (length-append waiting (value ∷ [])) (omega arith)

-- what waits longest goes on
pub one_goes : (waiting : List Value) (value : Value) → first_of waiting ≡ Some value
    → length waiting ≡ length (drop 1 waiting) + 1
one_goes [] value first = absurd (cc)
one_goes (message ∷ waiting) value first = omega arith
