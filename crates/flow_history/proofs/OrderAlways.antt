-- Over any calls blocks that share their messages out give them by the rules of their links, and in order: blocks, batched joins,
-- joins that reserve, and blocks with a function.
use Rattle.std.proofs.Common.{◌≡◌, ℕ, zero, suc, ◌≤◌, ◌^◌, ◌+◌, Bool, true, false, List, [], ◌∷◌, ◌++◌, length, map, Some, None, is_none, Result, Ok, Err, refl, ap, sym, subst, ◌∙◌, arith, append-nil, length-append}
use Rattle.std.proofs.lemmas.Bool.{le-ltb}
use Rattle.flow_value.specs.declared.value.Value.{Value}
use Rattle.flow_value.specs.declared.work.WorkFault.{WorkFault}
use Rattle.flow_link.specs.declared.draft.BlockKind.{BlockKind}
use Rattle.flow_link.specs.declared.draft.BlockKind.TheVariants.{Action, Transform, TransformMany}
use Rattle.flow_link.specs.declared.traits.MakeFault.TheVariants as make_fault
use Rattle.flow_link.specs.BlockCalls.{BlockCall}
use Rattle.flow_link.specs.Making.{Arrival}
use Rattle.flow_link.specs.Plan.{has_work, is_one_taker}
use Rattle.flow_intake.specs.Port.{PortState}
use Rattle.flow_group.specs.Group.{group_of}
use Rattle.flow_outlet.specs.End.{fresh_end, end_in}
use Rattle.flow_outlet.specs.Outlet.{OutletState, lacks_ids}
use Rattle.flow_outlet.specs.declared.ends.LinkRule.{LinkRule}
use Rattle.flow_block.specs.Block.{BlockState, with_jobs, keeps_results, put_by_kind, put_where, put_by_job, yields_all, yields_where, ends_job}
use Rattle.flow_block.specs.BlockFits.{fresh_block}
use Rattle.flow_block.specs.Copies.{shared_rules}
use Rattle.flow_block.specs.Jobs.{Slot, brings, comes_out}
use Rattle.flow_block.proofs.ResultsKept.{keeps_goes}
use Rattle.flow_kinds.specs.BatchedJoin.{JoinState, fresh_join}
use Rattle.flow_exec.specs.Execution.{ExecutionState, fresh_execution, job_result}
use Rattle.flow_link.specs.TargetCalls.{TargetCall}
use Rattle.flow_kinds.specs.ReservingJoin.{ReservingState, fresh_join as fresh_reserving}
use Rattle.flow_kinds.specs.Wishes.{after_wish}
use Rattle.flow_history.specs.Calls.{Call, MayCall, Fits, Does, Step, AllDone, after_all}
use Rattle.flow_history.specs.Grouped.{MayCallJoin, DoesToJoin, FitsJoin, came_to, grouped_by}
use Rattle.flow_history.specs.History.{Gift, History, nothing_yet, came_by, made_by, gave_by, noted, history_of}
use Rattle.flow_history.specs.Ordered.{GoesInOrder, GivesByRule, KeepsLinkOrder, MayCallSteadily, MayCallJoinSteadily, MayCallReservingSteadily, WorkGoesInOrder, WorkAnswersSteadily, MayCallWorkWithIds, MayCallWorkSteadily, MessagesGoByRule, MessagesGoInOrder}
use Rattle.flow_history.proofs.ExitsAsked.{fresh_law, puts_law}
use Rattle.flow_history.specs.Reserved.{MayCallReserving, DoesToReserving, FitsReserving, came_into, tuples_by}
use Rattle.flow_history.specs.Worked.{WorkCall, gave_for, FitsWork, came_for, DoesWork, worked_out}
use Rattle.flow_history.proofs.OrderKept.{MayCallAsked, call_by_rule, call_in_order, kind_stays}
use Rattle.flow_history.proofs.RulesKept.{GoesByRule, puts_by_rule, rules_say}
use Rattle.flow_history.proofs.WishesLeave.{wish_exits, wish_kind}

-- it shares its messages out, and has given them so
record Shares (sure : Bool) (gave : List Gift) (block : BlockState) : Type 0 where
  pub one : is_one_taker block.kind ≡ true
  pub goes : GoesByRule sure gave block.exits

-- Over all calls, where each keeps that

module _ {C S : Type 0} (block_of : S → BlockState) (Fit : S → Type 0) (May : C → S → Type 0) (Do : C → S → S → Type 0)
    (came : C → S → List Arrival) (makes : C → S → List Value) (gives : C → List Gift) (sure : Bool)
    (keeps : (gave : List Gift) (old new : S) (call : C) → Shares sure gave (block_of old) → May call old → Do call old new
    → Shares sure (gave ++ gives call) (block_of new)) where
  all_share : (steps : List (Step C S)) (old : S) (h : History) → AllDone Fit May Do steps old → Shares sure h.gave (block_of old)
      → Shares sure (history_of came makes gives steps old h).gave (block_of (after_all steps old))
  all_share [] old h done shares = shares
  all_share (step ∷ steps) old h done shares =
      all_share steps step.left (noted came makes gives step.call old h) done.1.1.1 (keeps h.gave old step.left step.call shares done.0 done.1.0)

  gives_by_rule : (fresh : S) → Shares sure [] (block_of fresh)
      → GivesByRule (λ (state : S). (block_of state).exits) Fit May Do came makes gives fresh
  gives_by_rule fresh shares = record {
    each = λ steps done k l own.
        rules_say sure (history_of came makes gives steps fresh nothing_yet).gave (block_of (after_all steps fresh)).exits
        (all_share steps fresh nothing_yet done shares).goes k l own;
  }

module _ {C S : Type 0} (block_of : S → BlockState) (Fit : S → Type 0) (May : C → S → Type 0) (Do : C → S → S → Type 0)
    (came : C → S → List Arrival) (makes : C → S → List Value) (gives : C → List Gift) (InOrder : C → OutletState → Type 0)
    (keeps : (gave : List Gift) (old new : S) (call : C) → Shares true gave (block_of old) → May call old → Do call old new
    → Shares true (gave ++ gives call) (block_of new))
    (orders : (gave : List Gift) (old new : S) (call : C) → Shares true gave (block_of old) → Do call old new → InOrder call (block_of old).exits) where
  goes_in_order : (fresh : S) → Shares true [] (block_of fresh)
      → KeepsLinkOrder (λ (state : S). (block_of state).exits) Fit May Do InOrder fresh
  goes_in_order fresh shares = record {
    next = λ steps done call new may does.
        orders (history_of came makes gives steps fresh nothing_yet).gave (after_all steps fresh) new call
        (all_share block_of Fit May Do came makes gives true keeps steps fresh nothing_yet done shares) does;
  }

fresh_shares : (sure : Bool) (kind : BlockKind) (lanes size : ℕ) (ports : List PortState) (rules : List LinkRule) → is_one_taker kind ≡ true
    → Shares sure [] (fresh_block kind lanes size ports rules)
fresh_shares sure kind lanes size ports rules one = record {
  one = one;
  goes = record {
    law = fresh_law sure (shared_rules kind rules);
    each = λ k l own. record { admitted = refl; counted = λ limited. none_given (shared_rules kind rules) k };
  };
}
  where
    none_given : (rules : List LinkRule) (k : ℕ) → (end_in (map fresh_end rules) k).given ≡ 0
    none_given [] k = refl
    none_given (rule ∷ rules) zero = refl
    none_given (rule ∷ rules) (suc k) = none_given rules k

-- One call of a block

common_keeps : (sure : Bool) (gave : List Gift) (old new : BlockState) (call : Call) → Shares sure gave old → MayCallAsked sure call old → Does call old new
    → Shares sure (gave ++ gave_by call) new
common_keeps sure gave old new call shares may does = record {
  one = ap is_one_taker (kind_stays old new call does) ∙ shares.one;
  goes = call_by_rule sure gave old new shares.one shares.goes call may does;
}

common_orders : (gave : List Gift) (old new : BlockState) (call : Call) → Shares true gave old → Does call old new → GoesInOrder call old.exits
common_orders gave old new call shares does = call_in_order gave old new shares.one shares.goes call does

-- where nothing is given
stays_given : (sure : Bool) (gave : List Gift) (new block : BlockState) → new ≡ block → Shares sure gave block → Shares sure (gave ++ []) new
stays_given sure gave new block is shares =
    subst (λ (gifts : List Gift). Shares sure gifts new) (sym (append-nil gave)) (subst (λ (b : BlockState). Shares sure gave b) (sym is) shares)

-- One call of a batched join

join_keeps : (sure : Bool) (gave : List Gift) (old new : JoinState) (call : Call) → Shares sure gave old.block → MayCallAsked sure call old.block → DoesToJoin call old new
    → Shares sure (gave ++ gave_by call) new.block
join_keeps sure gave old new (Call.acts (BlockCall.made (Ok true))) shares may does =
    let group = group_of old.block.size old.order old.block.ports in
    stays_given sure gave new.block _ (ap (λ (join : JoinState). join.block) does.1.1)
    (record { one = shares.one; goes = puts_by_rule sure gave old.block.exits (group ∷ []) 0 does.1.0 shares.goes })
join_keeps sure gave old new (Call.acts (BlockCall.made (Ok false))) shares may does =
    stays_given sure gave new.block old.block (ap (λ (join : JoinState). join.block) does.1) shares
join_keeps sure gave old new (Call.acts (BlockCall.made (Err make_fault.Ids))) shares may does =
    stays_given sure gave new.block old.block (ap (λ (join : JoinState). join.block) does.1.1) shares
join_keeps sure gave old new (Call.acts (BlockCall.made (Err make_fault.Memory))) shares may does =
    stays_given sure gave new.block old.block (ap (λ (join : JoinState). join.block) does.1.1) shares
join_keeps sure gave old new (Call.acts (BlockCall.completed p)) shares may does =
    common_keeps sure gave old.block new.block (Call.acts (BlockCall.completed p)) shares may does.0
join_keeps sure gave old new (Call.acts (BlockCall.faulted number)) shares may does =
    common_keeps sure gave old.block new.block (Call.acts (BlockCall.faulted number)) shares may does.0
join_keeps sure gave old new (Call.gives call) shares may does = common_keeps sure gave old.block new.block (Call.gives call) shares may does.0
join_keeps sure gave old new (Call.takes call) shares may does = common_keeps sure gave old.block new.block (Call.takes call) shares may does.0
join_keeps sure gave old new Call.asked shares may does = common_keeps sure gave old.block new.block Call.asked shares may does.0

join_orders : (gave : List Gift) (old new : JoinState) (call : Call) → Shares true gave old.block → DoesToJoin call old new
    → GoesInOrder call old.block.exits
join_orders gave old new (Call.acts call) shares does = tt
join_orders gave old new (Call.gives call) shares does = common_orders gave old.block new.block (Call.gives call) shares does.0
join_orders gave old new (Call.takes call) shares does = tt
join_orders gave old new Call.asked shares does = tt

-- One call of a join that reserves

-- its wishes leave what it gives as it is
wish_shares : (sure : Bool) (gave : List Gift) (join : ReservingState) → Shares sure gave join.block → Shares sure gave (after_wish join).block
wish_shares sure gave join shares = record {
  one = ap is_one_taker (wish_kind join) ∙ shares.one;
  goes = subst (λ (o : OutletState). GoesByRule sure gave o) (sym (wish_exits join)) shares.goes;
}

reserving_keeps : (sure : Bool) (gave : List Gift) (old new : ReservingState) (call : Call) → Shares sure gave old.block → MayCallAsked sure call old.block
    → DoesToReserving call old new → Shares sure (gave ++ gave_by call) new.block
reserving_keeps sure gave old new (Call.acts call) shares may does = common_keeps sure gave old.block new.block (Call.acts call) shares may does.0
reserving_keeps sure gave old new (Call.gives call) shares may does = common_keeps sure gave old.block new.block (Call.gives call) shares may does.0
reserving_keeps sure gave old new (Call.takes (TargetCall.offered link header may_postpone how)) shares may does =
    common_keeps sure gave old.block new.block (Call.takes (TargetCall.offered link header may_postpone how)) shares may does.0
reserving_keeps sure gave old new (Call.takes (TargetCall.handed link header value)) shares may does =
    common_keeps sure gave old.block new.block (Call.takes (TargetCall.handed link header value)) shares may does.0
reserving_keeps sure gave old new (Call.takes (TargetCall.wished told)) shares may does =
    stays_given sure gave new.block (after_wish old).block (ap (λ (join : ReservingState). join.block) does.1) (wish_shares sure gave old shares)
reserving_keeps sure gave old new (Call.takes (TargetCall.noted link told)) shares may does =
    common_keeps sure gave old.block new.block (Call.takes (TargetCall.noted link told)) shares may does.0
reserving_keeps sure gave old new Call.asked shares may does = common_keeps sure gave old.block new.block Call.asked shares may does.0

reserving_orders : (gave : List Gift) (old new : ReservingState) (call : Call) → Shares true gave old.block → DoesToReserving call old new
    → GoesInOrder call old.block.exits
reserving_orders gave old new (Call.acts call) shares does = tt
reserving_orders gave old new (Call.gives call) shares does = common_orders gave old.block new.block (Call.gives call) shares does.0
reserving_orders gave old new (Call.takes call) shares does = tt
reserving_orders gave old new Call.asked shares does = tt

-- One call of a block with a function

has_ids : (values : List Value) (o : OutletState) → o.next + length o.left + o.spare + length values ≤ 2 ^ 59 → lacks_ids values o ≡ false
has_ids [] o fits = refl
has_ids (value ∷ values) o fits = le-ltb (2 ^ 59) (o.next + length o.left + o.spare + length (value ∷ values)) (omega (arith, fits))

-- there are ids for so many values
abbrev IdsFor : List Value → OutletState → Type 0
IdsFor values o = o.next + length o.left + o.spare + length values ≤ 2 ^ 59

-- a result comes out, and there are ids for more
record ComesOut (sure : Bool) (gave : List Gift) (more : List Value) (new : BlockState) : Type 0 where
  goes : GoesByRule sure gave new.exits
  ids : IdsFor more new.exits

result_goes : (sure : Bool) (gave : List Gift) (kind : BlockKind) (values more : List Value) (block : BlockState) → IdsFor (put_by_kind kind (values ++ more)) block.exits
    → GoesByRule sure gave block.exits → ComesOut sure gave (put_by_kind kind more) (keeps_results kind values block)
result_goes sure gave Action values more block fits goes = record { goes = goes; ids = fits }
result_goes sure gave _ [] more block fits goes = record { goes = goes; ids = fits }
result_goes sure gave _ (value ∷ values) more block fits goes =
    let parts = length-append (value ∷ values) more in
    let left = length-append block.exits.left (value ∷ values) in
    record {
      goes = puts_by_rule sure gave block.exits (value ∷ values) _ (has_ids (value ∷ values) block.exits (omega (arith, fits, parts))) goes;
      ids = omega (arith, fits, parts, left);
    }

all_out : (sure : Bool) (gave : List Gift) (slots : List Slot) (block : BlockState) → IdsFor (put_by_kind block.kind (comes_out slots)) block.exits → Shares sure gave block
    → Shares sure gave (yields_all slots block)
all_out sure gave [] block fits shares = shares
all_out sure gave (None ∷ slots) block fits shares = shares
all_out sure gave (Some (Err number) ∷ slots) block fits shares = record { one = shares.one; goes = shares.goes }
all_out sure gave (Some (Ok values) ∷ slots) block fits shares =
    let new = keeps_results block.kind values block in
    let kind = (keeps_goes block.kind values block).kind in
    let out = result_goes sure gave block.kind values (comes_out slots) block fits shares.goes in
    all_out sure gave slots new (subst (λ (k : BlockKind). IdsFor (put_by_kind k (comes_out slots)) new.exits) (sym kind) out.ids)
    (record { one = ap is_one_taker kind ∙ shares.one; goes = out.goes })

where_out : (sure : Bool) (gave : List Gift) (well : Bool) (block : BlockState) → lacks_ids (put_where well block.kind block.jobs.slots) block.exits ≡ false
    → Shares sure gave block → Shares sure gave (yields_where well block)
where_out sure gave true block has shares =
    let all = put_by_kind block.kind (comes_out block.jobs.slots) in
    let fits = (puts_law sure block.exits all 0 has shares.goes.law).ids in
    all_out sure gave block.jobs.slots block (omega (arith, fits, length-append block.exits.left all)) shares
where_out sure gave false block has shares = shares

job_ends : (sure : Bool) (gave : List Gift) (ticket : ℕ) (made : Result (List Value) ℕ) (block : BlockState)
    → lacks_ids (put_by_job ticket made block) block.exits ≡ false → Shares sure gave block → Shares sure gave (ends_job ticket made block)
job_ends sure gave ticket made block has shares =
    where_out sure gave (is_none block.fault) (with_jobs (brings ticket made) block) has (record { one = shares.one; goes = shares.goes })

module _ {W : Type 0} (meaning : W → Value → Result (List Value) WorkFault) where
  -- where targets are asked to, one answers by rule
  abbrev MayCallWorkAsked : Bool → WorkCall → ExecutionState W → Type 0
  MayCallWorkAsked sure call execution = MayCallWorkWithIds meaning call execution × (sure ≡ true → WorkAnswersSteadily call execution)

  work_keeps : (sure : Bool) (gave : List Gift) (old new : ExecutionState W) (call : WorkCall) → Shares sure gave old.block
      → MayCallWorkAsked sure call old → DoesWork meaning call old new → Shares sure (gave ++ gave_for call) new.block
  work_keeps sure gave old new (WorkCall.common (Call.acts call)) shares may does = common_keeps sure gave old.block new.block (Call.acts call) shares (may.0.0, may.1) does.0
  work_keeps sure gave old new (WorkCall.common (Call.gives call)) shares may does = common_keeps sure gave old.block new.block (Call.gives call) shares (may.0.0, may.1) does.0
  work_keeps sure gave old new (WorkCall.common (Call.takes call)) shares may does = common_keeps sure gave old.block new.block (Call.takes call) shares (may.0.0, may.1) does.0
  work_keeps sure gave old new (WorkCall.common Call.asked) shares may does =
      common_keeps sure gave old.block new.block Call.asked shares (may.0.0, may.1) does.0
  work_keeps sure gave old new WorkCall.began shares may does =
      stays_given sure gave new.block _ (ap (λ (execution : ExecutionState W). execution.block) does) (record { one = shares.one; goes = shares.goes })
  work_keeps sure gave old new (WorkCall.ended ticket) shares may does =
      stays_given sure gave new.block _ (ap (λ (execution : ExecutionState W). execution.block) does)
      (job_ends sure gave ticket (job_result meaning ticket old) old.block may.0.1 shares)

  work_orders : (gave : List Gift) (old new : ExecutionState W) (call : WorkCall) → Shares true gave old.block → DoesWork meaning call old new
      → WorkGoesInOrder call old.block.exits
  work_orders gave old new (WorkCall.common (Call.acts call)) shares does = tt
  work_orders gave old new (WorkCall.common (Call.gives call)) shares does = common_orders gave old.block new.block (Call.gives call) shares does.0
  work_orders gave old new (WorkCall.common (Call.takes call)) shares does = tt
  work_orders gave old new (WorkCall.common Call.asked) shares does = tt
  work_orders gave old new WorkCall.began shares does = tt
  work_orders gave old new (WorkCall.ended ticket) shares does = tt

works_share : (kind : BlockKind) → has_work kind ≡ true → is_one_taker kind ≡ true
works_share Action works = refl
works_share Transform works = refl
works_share TransformMany works = refl
works_share _ works = absurd (cc)

never : {P : Type 0} → false ≡ true → P
never e = absurd (cc)

pub messages_go : (W : Type 0) → MessagesGoByRule W
messages_go W = record {
  blocks = λ kind lanes size ports rules one.
      gives_by_rule (λ (block : BlockState). block) Fits MayCall Does came_by made_by gave_by false
      (λ gave old new call shares may does. common_keeps false gave old new call shares (may, never) does)
      (fresh_block kind lanes size ports rules) (fresh_shares false kind lanes size ports rules one);
  joins = λ size ports rules.
      gives_by_rule (λ (join : JoinState). join.block) FitsJoin MayCallJoin DoesToJoin came_to grouped_by gave_by false
      (λ gave old new call shares may does. join_keeps false gave old new call shares (may, never) does)
      (fresh_join size ports rules) (fresh_shares false _ 1 size ports rules refl);
  reserving = λ ports sources rules.
      gives_by_rule (λ (join : ReservingState). join.block) FitsReserving MayCallReserving DoesToReserving came_into tuples_by gave_by false
      (λ gave old new call shares may does. reserving_keeps false gave old new call shares (may, never) does)
      (fresh_reserving ports sources rules) (fresh_shares false _ 1 0 ports rules refl);
  works = λ meaning kind lanes work ports rules works.
      gives_by_rule (λ (execution : ExecutionState W). execution.block) FitsWork (MayCallWorkWithIds meaning) (DoesWork meaning) came_for
      (worked_out meaning) gave_for false
      (λ gave old new call shares may does. work_keeps meaning false gave old new call shares (may, never) does)
      (fresh_execution kind lanes work ports rules) (fresh_shares false kind lanes 0 ports rules (works_share kind works));
}

pub messages_in_order : (W : Type 0) → MessagesGoInOrder W
messages_in_order W = record {
  blocks = λ kind lanes size ports rules one.
      goes_in_order (λ (block : BlockState). block) Fits MayCallSteadily Does came_by made_by gave_by GoesInOrder
      (λ gave old new call shares may does. common_keeps true gave old new call shares (may.0, (λ _. may.1)) does) common_orders
      (fresh_block kind lanes size ports rules) (fresh_shares true kind lanes size ports rules one);
  joins = λ size ports rules.
      goes_in_order (λ (join : JoinState). join.block) FitsJoin MayCallJoinSteadily DoesToJoin came_to grouped_by gave_by GoesInOrder
      (λ gave old new call shares may does. join_keeps true gave old new call shares (may.0, (λ _. may.1)) does) join_orders
      (fresh_join size ports rules) (fresh_shares true _ 1 size ports rules refl);
  reserving = λ ports sources rules.
      goes_in_order (λ (join : ReservingState). join.block) FitsReserving MayCallReservingSteadily DoesToReserving came_into tuples_by gave_by GoesInOrder
      (λ gave old new call shares may does. reserving_keeps true gave old new call shares (may.0, (λ _. may.1)) does) reserving_orders
      (fresh_reserving ports sources rules) (fresh_shares true _ 1 0 ports rules refl);
  works = λ meaning kind lanes work ports rules works.
      goes_in_order (λ (execution : ExecutionState W). execution.block) FitsWork (MayCallWorkSteadily meaning) (DoesWork meaning) came_for
      (worked_out meaning) gave_for WorkGoesInOrder
      (λ gave old new call shares may does. work_keeps meaning true gave old new call shares (may.0, (λ _. may.1)) does) (work_orders meaning)
      (fresh_execution kind lanes work ports rules) (fresh_shares true kind lanes 0 ports rules (works_share kind works));
}
