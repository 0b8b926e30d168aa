-- What a block with a function has made of the messages that it took, and of those that are out.
use Rattle.std.proofs.Common.{◌≡◌, ℕ, ◌+◌, ◌<◌, Bool, true, false, List, [], ◌∷◌, ◌++◌, length, Option, Some, None, Result, Ok, refl, ap, sym, subst, ◌∙◌, arith, append-nil, append_assoc, length-append}
use Rattle.flow_value.specs.declared.value.Value.{Value}
use Rattle.flow_link.specs.declared.draft.BlockKind.{BlockKind}
use Rattle.flow_link.specs.declared.draft.BlockKind.TheVariants.{Action, Transform, TransformMany}
use Rattle.flow_link.specs.Plan.{has_work, is_one_taker, is_write_once}
use Rattle.flow_link.specs.Worked.{WorkedInto}
use Rattle.flow_link.proofs.OneMoreWorked.{worked_more}
use Rattle.flow_outlet.specs.Outlet.{OutletState, groups_with}
use Rattle.flow_block.specs.Block.{is_batch, is_join, put_by_kind, unit_weight}
use Rattle.flow_block.specs.Jobs.{Slot, AreOf}
use Rattle.flow_block_law.specs.NodeLaw.{MakesAs, WeighsAs, weighed}
use Rattle.flow_outlet.specs.History.{listed}
use Rattle.flow_outlet.specs.declared.group.Group.{Group}
use Rattle.flow_block_law.proofs.WeightsOfResults.{weighs_given, weighs_many, weighs_one}
use Rattle.flow_history.proofs.ExitsGo.{Goes}
use Rattle.flow_history.specs.History.{given}
use Rattle.flow_history.specs.Kept.{hands_on}
use Rattle.flow_history.proofs.Still.{shares_alone}

-- What a block with a function is not
pub record Works (kind : BlockKind) : Type 0 where
  pub changes : hands_on kind ≡ false
  pub unbatched : is_batch kind ≡ false
  pub unjoined : is_join kind ≡ false
  pub many : is_write_once kind ≡ false
  pub works : shares_alone kind ≡ false

pub works_so : (kind : BlockKind) → has_work kind ≡ true → Works kind
works_so Action e = record { changes = refl; unbatched = refl; unjoined = refl; many = refl; works = refl }
works_so Transform e = record { changes = refl; unbatched = refl; unjoined = refl; many = refl; works = refl }
works_so TransformMany e = record { changes = refl; unbatched = refl; unjoined = refl; many = refl; works = refl }
works_so _ e = absurd (cc)

pub shares_so : (kind : BlockKind) → has_work kind ≡ true → is_one_taker kind ≡ true
shares_so Action e = refl
shares_so Transform e = refl
shares_so TransformMany e = refl
shares_so _ e = absurd (cc)

pub never : {A : Type 0} (test : Bool) → test ≡ false → test ≡ true → A
never true none some = absurd (cc)
never false none some = absurd (cc)

-- What is made of messages

abbrev pub recorded_by_kind : BlockKind → List Value → List Value
recorded_by_kind Action values = values
recorded_by_kind _ values = []

-- a message comes
one_came : (result : Value → Result (List Value) ℕ) (taken held made : List Value) (value : Value) → WorkedInto result taken held made
    → WorkedInto result (taken ++ value ∷ []) (held ++ value ∷ []) made
one_came result taken held made value so_far = record {
  done = so_far.done;
  results = so_far.results;
  taken_is = ap (λ (vs : List Value). vs ++ value ∷ []) so_far.taken_is ∙ append_assoc so_far.done held (value ∷ []);
  worked = so_far.worked;
  all = so_far.all;
}

pub comes_as : (result : Value → Result (List Value) ℕ) (kind : BlockKind) (taken held made recorded : List Value) (value : Value)
    → has_work kind ≡ true → MakesAs result kind taken held [] made recorded
    → MakesAs result kind (taken ++ value ∷ []) (held ++ value ∷ []) [] made recorded
comes_as result Action taken held made recorded value works is = (one_came result taken held recorded value is.0, is.1)
comes_as result Transform taken held made recorded value works is = one_came result taken held made value is
comes_as result TransformMany taken held made recorded value works is = one_came result taken held made value is
comes_as result _ taken held made recorded value works is = absurd (cc)

-- the results of the first come out
pub makes_as : (result : Value → Result (List Value) ℕ) (kind : BlockKind) (taken rest made recorded values : List Value) (value : Value)
    → has_work kind ≡ true → result value ≡ Ok values → MakesAs result kind taken (value ∷ rest) [] made recorded
    → MakesAs result kind taken rest [] (made ++ put_by_kind kind values) (recorded ++ recorded_by_kind kind values)
makes_as result Action taken rest made recorded values value works is so_far =
    (worked_more result taken value rest recorded values is so_far.0, append-nil made ∙ so_far.1)
makes_as result Transform taken rest made recorded values value works is so_far = worked_more result taken value rest made values is so_far
makes_as result TransformMany taken rest made recorded values value works is so_far = worked_more result taken value rest made values is so_far
makes_as result _ taken rest made recorded values value works is so_far = absurd (cc)

-- what was made was given, or is left
pub given_as : (result : Value → Result (List Value) ℕ) (kind : BlockKind) (taken held made given left recorded : List Value)
    → has_work kind ≡ true → made ≡ given ++ left → MakesAs result kind taken held [] made recorded
    → MakesAs result kind taken held given left recorded
given_as result Action taken held made given left recorded works is so_far = (so_far.0, none_left given left (sym is ∙ so_far.1))
  where
    none_left : (given left : List Value) → given ++ left ≡ [] → left ≡ []
    none_left [] left none = none
    none_left (value ∷ given) left none = absurd (cc)
given_as result Transform taken held made given left recorded works is so_far =
    subst (λ (vs : List Value). WorkedInto result taken held vs) is so_far
given_as result TransformMany taken held made given left recorded works is so_far =
    subst (λ (vs : List Value). WorkedInto result taken held vs) is so_far
given_as result _ taken held made given left recorded works is so_far = absurd (cc)

-- The messages that are worked on

pub more_held : (result : Value → Result (List Value) ℕ) (held : List Value) (slots : List Slot) (value : Value) → AreOf result held slots
    → AreOf result (held ++ value ∷ []) slots
more_held result held [] value are = tt
more_held result [] (slot ∷ slots) value are = absurd are
more_held result (first ∷ held) (slot ∷ slots) value are = (are.0, more_held result held slots value are.1)

pub more_begun : (result : Value → Result (List Value) ℕ) (held : List Value) (slots : List Slot) → length slots < length held
    → AreOf result held slots → AreOf result held (slots ++ None ∷ [])
more_begun result [] slots few are = absurd (omega (arith, few))
more_begun result (first ∷ held) [] few are = (tt, tt)
more_begun result (first ∷ held) (slot ∷ slots) few are = (are.0, more_begun result held slots (omega (arith, few)) are.1)

-- the message whose result is there first
pub record FirstOf (result : Value → Result (List Value) ℕ) (held : List Value) (made : Result (List Value) ℕ) (slots : List Slot) : Type 0 where
  pub message : Value
  pub rest : List Value
  pub held_is : held ≡ message ∷ rest
  pub made_is : result message ≡ made
  pub others : AreOf result rest slots

pub first_of_slots : (result : Value → Result (List Value) ℕ) (held : List Value) (made : Result (List Value) ℕ) (slots : List Slot)
    → AreOf result held (Some made ∷ slots) → FirstOf result held made slots
first_of_slots result [] made slots are = absurd are
first_of_slots result (message ∷ rest) made slots are = record { message = message; rest = rest; held_is = refl; made_is = are.0; others = are.1 }

-- The weights of results

-- a transform makes one result of each message
abbrev pub IsSingle : (Value → Result (List Value) ℕ) → BlockKind → Type 0
IsSingle result kind = kind ≡ Transform → (value : Value) (made : List Value) → result value ≡ Ok made → length made ≡ 1

module _ (result : Value → Result (List Value) ℕ) (kind : BlockKind) where
  abbrev Weighs : Option ℕ → (taken held given left : List Value) → ℕ → List Group → Type 0
  Weighs = WeighsAs result kind

  pub weighs_go : (capacity : Option ℕ) (taken held given : List Value) (value : Option Value) (old new : OutletState) → Goes value old new
      → old.next ≡ 1 + length given → Weighs capacity taken held given old.left old.next old.groups
      → Weighs capacity taken held (given ++ listed value) new.left new.next new.groups
  weighs_go capacity taken held given None old new goes follows weighs =
      rw (append-nil given, goes.left, goes.next, goes.groups) weighs
  weighs_go capacity taken held given (Some value) old new goes follows weighs =
      rw (goes.left, goes.next, goes.groups)
      (weighs_given result kind capacity taken held given old.left old.next old.groups value follows goes.head weighs)

  pub next_go : (given : List Value) (value : Option Value) (old new : OutletState) → Goes value old new → old.next ≡ 1 + length given
      → new.next ≡ 1 + length (given ++ listed value)
  next_go given None old new goes follows = goes.next ∙ follows ∙ ap (λ (vs : List Value). 1 + length vs) (sym (append-nil given))
  next_go given (Some value) old new goes follows =
      let more = length-append given (value ∷ []) in let next = goes.next in omega (arith, next, follows, more)

  -- the results of the first come out
  pub weighs_out : (k : BlockKind) → k ≡ kind → has_work k ≡ true → IsSingle result kind → (capacity : Option ℕ)
      (taken rest given left : List Value) (next : ℕ) (groups : List Group) (value : Value) (made : List Value)
      → result value ≡ Ok made → next ≡ 1 + length given → WeighsAs result k capacity taken (value ∷ rest) given left next groups
      → WeighsAs result k capacity taken rest given (left ++ put_by_kind k made) next
      (groups_with (next + length left) (length (put_by_kind k made)) (unit_weight capacity) groups)
  weighs_out Action same w single capacity taken rest given left next groups value made is follows weighs =
      weighs ∙ ap (λ (vs : List Value). weighed capacity next vs) (sym (append-nil left))
  weighs_out Transform same w single capacity taken rest given left next groups value made is follows weighs =
      weighs_one result Transform capacity taken (value ∷ rest) rest given left next groups made refl refl (single (sym same) value made is) weighs
  weighs_out TransformMany same w single capacity taken rest given left next groups value made is follows weighs =
      weighs_many result capacity taken rest given left next groups value made is follows weighs
  weighs_out _ same w single capacity taken rest given left next groups value made is follows weighs = absurd (cc)
