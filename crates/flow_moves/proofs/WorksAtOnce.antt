-- A job that begins and ends at once, while nothing else is worked on: what becomes of its block is what its result makes of it.
use Rattle.std.proofs.Common.{◌≡◌, ℕ, ◌<◌, drop, slice_index_or, ◌-◌, ◌&&◌, ltb, Bool, true, false, List, [], ◌∷◌, ◌++◌, length, get_or, set, Some, None, is_none, Result, Ok, Err, pos, refl, ap, sym, ◌∙◌, append-nil, arith}
use Rattle.std.proofs.lemmas.Bool.{and_parts}
use Rattle.flow_value.specs.declared.value.Value.{Value}
use Rattle.flow_value.specs.declared.value.Value.TheVariants.{Int}
use Rattle.flow_link.specs.declared.draft.BlockKind.{BlockKind}
use Rattle.flow_link.specs.Plan.{has_work}
use Rattle.flow_outlet.specs.Outlet.{lacks_ids}
use Rattle.flow_block.specs.Block.{BlockState, held_by, made_of, put_by_kind, values_of_result, keeps_results, yields_all, yields_where, put_where, job_message}
use Rattle.flow_block.specs.Jobs.{Slot, out_count}
use Rattle.flow_block_law.specs.JobsEnd.{job_result}
use Rattle.flow_block.specs.Node.{NodeState, with_block}
use Rattle.flow_block.specs.Peeks.{may_work, may_begin}
use Rattle.flow_block_law.proofs.GoingOn.{may_work_tells}
use Rattle.flow_block_law.proofs.JobsEnd.{with_slots, keeps_slots, put_nothing}
use Rattle.flow_block_law.proofs.JobsHold.{makes_by_work}
use Rattle.flow_moves.specs.AtOnce.{begun, works_at_once, works_out, put_at_once}

-- what a block that may begin a job knows
record MayBegin (block : BlockState) : Type 0 where
  works : has_work block.kind ≡ true
  no_fault : block.fault ≡ None

begin_tells : (block : BlockState) → may_begin block ≡ true → MayBegin block
begin_tells block e =
    let few = ltb (out_count block.jobs.slots) block.jobs.lanes in
    let outer = and_parts (may_work block && has_work block.kind && few) (ltb (length block.jobs.slots) (length (held_by block))) e in
    let inner = and_parts (may_work block && has_work block.kind) few outer.0 in
    let both = and_parts (may_work block) (has_work block.kind) inner.0 in
    record { works = both.1; no_fault = (may_work_tells block both.0).no_fault }

-- only a block with a function begins one
pub begin_works : (block : BlockState) → may_begin block ≡ true → has_work block.kind ≡ true
begin_works block e = (begin_tells block e).works

-- the first slot of one, and the message that is held first
one_slot : (slots : List Slot) (slot : Slot) (k : ℕ) → slots ≡ [] → k ≡ 0 → set (slots ++ None ∷ []) k slot ≡ slot ∷ []
one_slot slots slot k none first = rw (none, first) refl

first_held : (held : List Value) (value : Value) (rest : List Value) (k : ℕ) → held ≡ value ∷ rest → k ≡ 0
    → get_or held k (Int (pos 0)) ≡ value
first_held held value rest k is first = rw (is, first) refl

-- what comes out of one result
out_of_one : (kind : BlockKind) (made : Result (List Value) ℕ)
    → put_where true kind (Some made ∷ []) ≡ put_by_kind kind (values_of_result made)
out_of_one kind (Ok values) = ap (put_by_kind kind) (append-nil values)
out_of_one kind (Err number) = refl

yields_one : (made : Result (List Value) ℕ) (block : BlockState) → has_work block.kind ≡ true → block.jobs.slots ≡ []
    → yields_all (Some made ∷ []) (with_slots (Some made ∷ []) block) ≡ works_out made block
yields_one (Ok values) block works none =
    keeps_slots block.kind values (Some (Ok values) ∷ []) block works
    ∙ sym (keeps_slots block.kind values [] block works)
    ∙ ap (λ (slots : List Slot). keeps_results block.kind values (with_slots slots block)) (sym none)
yields_one (Err number) block works none = refl

-- what a block with a function makes of a job's message is its result
pub result_is : (result : Value → Result (List Value) ℕ) (block : BlockState) (ticket : ℕ) → has_work block.kind ≡ true
    → job_result result ticket block ≡ result (job_message ticket block)
result_is result block ticket works = sym (makes_by_work result block.kind (job_message ticket block) works)

module _ (result : Value → Result (List Value) ℕ) (node : NodeState) (may : may_begin node.block ≡ true)
    (idle : node.block.jobs.slots ≡ []) (value : Value) (rest : List Value) (held : held_by node.block ≡ value ∷ rest) where
  abbrev block : BlockState
  block = node.block

  at_first : block.jobs.first - block.jobs.first ≡ 0
  at_first = omega arith

  made_is : job_result result block.jobs.first (begun result node).block ≡ result value
  made_is =
      ap (λ (message : Value). made_of block.kind result message)
      (first_held (held_by block) value rest (block.jobs.first - block.jobs.first) held at_first)
      ∙ sym (makes_by_work result block.kind value (begin_tells block may).works)

  -- what comes back goes into the only slot
  slots_are : set (block.jobs.slots ++ None ∷ []) (block.jobs.first - block.jobs.first)
      (Some (job_result result block.jobs.first (begun result node).block))
      ≡ Some (result value) ∷ []
  slots_are =
      one_slot block.jobs.slots (Some (job_result result block.jobs.first (begun result node).block))
      (block.jobs.first - block.jobs.first) idle at_first
      ∙ ap (λ (made : Result (List Value) ℕ). Some made ∷ []) made_is

  goes : is_none block.fault ≡ true
  goes = ap is_none (begin_tells block may).no_fault

  pub worked_is : works_at_once result node ≡ with_block (works_out (result value) block) node
  worked_is =
      ap (λ (slots : List Slot). with_block (yields_where (is_none block.fault) (with_slots slots block)) node) slots_are
      ∙ ap (λ (well : Bool). with_block (yields_where well (with_slots (Some (result value) ∷ []) block)) node) goes
      ∙ ap (λ (new : BlockState). with_block new node)
      (yields_one (result value) block (begin_tells block may).works idle)

  pub put_is : put_at_once result node ≡ put_by_kind block.kind (values_of_result (result value))
  put_is =
      ap (λ (slots : List Slot). put_where (is_none block.fault) block.kind slots) slots_are
      ∙ ap (λ (well : Bool). put_where well block.kind (Some (result value) ∷ [])) goes
      ∙ out_of_one block.kind (result value)

  pub done_is : (made : Result (List Value) ℕ) → made ≡ result value
      → with_block (works_out made block) node ≡ works_at_once result node
  done_is made is = ap (λ (m : Result (List Value) ℕ). with_block (works_out m block) node) is ∙ sym worked_is

  -- a fault puts nothing into the exits
  pub failed_ids : (number : ℕ) → Err number ≡ result value → lacks_ids (put_at_once result node) block.exits ≡ false
  failed_ids number is =
      ap (λ (values : List Value). lacks_ids values block.exits)
      (put_is ∙ ap (λ (made : Result (List Value) ℕ). put_by_kind block.kind (values_of_result made)) (sym is) ∙ put_nothing block.kind)

-- the message at the front is held first
pub front_held : (items held : List Value) (message : Value) → items ≡ held → 0 < length items
    → message ≡ slice_index_or items 0 message → held ≡ message ∷ drop 1 held
front_held [] held message is some first = absurd (omega (arith, some))
front_held (value ∷ rest) held message is some first =
    sym is ∙ ap (λ (v : Value). v ∷ rest) (sym first) ∙ ap (λ (vs : List Value). message ∷ drop 1 vs) is
