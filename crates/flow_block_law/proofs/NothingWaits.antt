-- Where nothing waits at a block, it has nothing to make.
use Rattle.std.proofs.Common.{◌≡◌, ℕ, ◌<◌, Bool, true, false, not, ltb, leb, ◌&&◌, ◌||◌, List, [], ◌∷◌, length, refl, ap, arith}
use Rattle.std.proofs.lemmas.Bool.{and_parts, false_from_ne_true}
use Rattle.flow_value.specs.declared.value.Value.{Value}
use Rattle.flow_link.specs.Lists.{some, below, is_empty as is_none_left}
use Rattle.flow_link.specs.declared.stage.TargetStage.{TargetStage}
use Rattle.flow_link.specs.declared.stage.TargetStage.TheVariants as target
use Rattle.flow_intake.specs.Port.{PortState, is_queued}
use Rattle.flow_intake.specs.Calls.{is_postponed}
use Rattle.flow_outlet.specs.Outlet.{is_empty}
use Rattle.flow_block.specs.Peeks.{holds_nothing}
use Rattle.flow_block_law.proofs.NodesAreLawful.{found_below}
use Rattle.flow_group.specs.Tuple.{has_tuple}
use Rattle.flow_block.specs.Groups.{has_group_at, waiting_in_all}

pub none_same : (values : List Value) → (is_none_left values && true) ≡ is_empty values
none_same [] = refl
none_same (value ∷ values) = refl

pub and_true : (b : Bool) → (b && true) ≡ b
and_true true = refl
and_true false = refl

pub nothing_in : (values : List Value) → is_empty values ≡ true → values ≡ []
nothing_in [] e = refl
nothing_in (value ∷ values) e = absurd (cc)

pub ended_already : (ended none seen : Bool) → none ≡ true → seen ≡ true → (not ended && none && seen) ≡ false
    → ended ≡ true
ended_already true none seen en es e = refl
ended_already false true true en es e = absurd (cc)
ended_already false false seen en es e = absurd (cc)
ended_already false true false en es e = absurd (cc)

pub nothing_where : (values : List Value) → is_none_left values ≡ true → values ≡ []
nothing_where [] e = refl
nothing_where (value ∷ values) e = absurd (cc)

-- as many as none
pub empty_as : (values others : List Value) → length values ≡ length others → is_empty others ≡ true → is_empty values ≡ true
empty_as [] others same none = refl
empty_as (value ∷ values) [] same none = absurd (cc)
empty_as (value ∷ values) (other ∷ others) same none = absurd (cc)

pub waits_queued : (stage : TargetStage) → is_postponed stage ≡ true → is_queued stage ≡ true
waits_queued (target.Postponed i) waits = refl
waits_queued _ waits = absurd (cc)

pub none_below : (test : ℕ → Bool) (count : ℕ) → ((k : ℕ) → k < count → test k ≡ true → ⊥) → some test (below count) ≡ false
none_below test count never =
    false_from_ne_true (some test (below count)) (λ passes.
    let found = found_below test count passes in never found.place found.there found.holds)

-- where nothing is held, there is no tuple
pub no_first : (ports : List PortState) → 0 < length ports → holds_nothing ports ≡ true → not (has_tuple ports) ≡ true
no_first [] some none = absurd (omega (arith, some))
no_first (port ∷ ports) some none =
    let empty = (and_parts (is_empty port.waiting) (holds_nothing ports) none).0 in
    ap (λ (first : Bool). not (not first && has_tuple ports)) empty

-- nor a group
none_in_all : (ports : List PortState) → holds_nothing ports ≡ true → waiting_in_all ports ≡ 0
none_in_all [] none = refl
none_in_all (port ∷ ports) none =
    let both = and_parts (is_empty port.waiting) (holds_nothing ports) none in
    let here : length port.waiting ≡ 0 = ap (λ (held : List Value). length held) (nothing_in port.waiting both.0) in
    let rest = none_in_all ports both.1 in
    omega (arith, here, rest)

pub no_group_of_none : (size : ℕ) (ended : Bool) (ports : List PortState) → holds_nothing ports ≡ true
    → not (has_group_at size ended ports) ≡ true
no_group_of_none size ended ports none =
    ap (λ (count : ℕ). not (ltb 0 count && (leb size count || ended))) (none_in_all ports none)
