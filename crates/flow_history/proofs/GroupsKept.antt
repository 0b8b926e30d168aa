-- Over any calls a batched join that a caller drives by hand keeps its messages.
use Rattle.std.proofs.Common.{◌≡◌, ℕ, zero, suc, ◌+◌, ◌<◌, leb, ltb, Bool, true, false, ◌&&◌, ◌||◌, cond, List, [], ◌∷◌, ◌++◌, length, drop, take, Ok, Err, refl, ap, sym, subst, ◌∙◌, arith, append-nil, length-append, is_some, ◌≤◌, Option, Some, None}
use Rattle.std.proofs.lemmas.Bool.{and_parts, and_from, ltb-true}
use Rattle.std.proofs.lemmas.List.{length-set, length-drop}
use Rattle.flow_value.specs.declared.value.Value.{Value}
use Rattle.flow_link.specs.declared.draft.BlockKind.TheVariants.{BatchedJoin}
use Rattle.flow_link.specs.declared.traits.MakeFault.TheVariants as make_fault
use Rattle.flow_link.specs.BlockCalls.{BlockCall}
use Rattle.flow_link.specs.Making.{Arrival, arrived_at, all_items, column}
use Rattle.flow_link.specs.Plan.{is_one_taker, is_write_once}
use Rattle.flow_link.specs.SourceCalls.{SourceCall}
use Rattle.flow_link.specs.TargetCalls.{TargetCall, Wants}
use Rattle.flow_intake.specs.Port.{PortState, coming}
use Rattle.flow_intake.specs.PortLaw.{PortLaw, has_ended}
use Rattle.flow_intake.specs.ByLink.{arrives}
use Rattle.flow_group.specs.Group.{group_of, has_group, takes_group}
use Rattle.flow_group.specs.Groups.{GroupsLaw, arrival_at}
use Rattle.flow_group.specs.Tuple.{held_at, all_ended}
use Rattle.flow_group.specs.Tuples.{only_at}
use Rattle.flow_group.proofs.GroupsCut.{as_many_taken, ended_later, groups_tell}
use Rattle.flow_group.proofs.GroupsKeep.{groups_kept}
use Rattle.flow_outlet.specs.declared.ends.LinkRule.{LinkRule}
use Rattle.flow_block.specs.Block.{BlockState, port_in, port_at, held_by, is_batch, is_join, is_batched_join, copies_at_once, copies_taken}
use Rattle.flow_block.specs.Groups.{waiting_in_all}
use Rattle.flow_block.specs.Peeks.{may_make}
use Rattle.flow_block.specs.Traits.{target_over, port_into, with_port_of}
use Rattle.flow_block_law.proofs.GoingOn.{may_make_tells}
use Rattle.flow_block_law.proofs.GroupPorts.{each_after_group, kept_by_group}
use Rattle.flow_kinds.specs.BatchedJoin.{JoinState, fresh_join}
use Rattle.flow_kinds.specs.BatchedCalls.{makes_next}
use Rattle.flow_kinds.proofs.CopiesNone.{never_at_once, copies_none}
use Rattle.flow_kinds.proofs.OrderTells.{told_in_all}
use Rattle.flow_link.specs.LinkOk.{IsWithin}
use Rattle.flow_history.specs.Calls.{Call, MayCallInOrder, Does, Step, AllDone, after_all}
use Rattle.flow_history.specs.History.{History, nothing_yet, took_at, came_by, made_by, copied_at_once, noted, history_of, gave_by, Gift, given}
use Rattle.flow_history.specs.Grouped.{MayCallJoinInOrder, DoesToJoin, FitsJoin, came_to, grouped_by, GroupsAreKept, KeepsGroups}
use Rattle.flow_history.specs.Kept.{any_link, hands_on, NothingCame}
use Rattle.flow_history.proofs.CallsLeave.{Leaves, IsPlain, call_leaves}
use Rattle.flow_history.proofs.GroupsCounted.{messages_of, messages_parts, Counts, plain_counts, made_counts, came_counts}
use Rattle.flow_history.proofs.Makes.{not_of, shared_more}
use Rattle.flow_history.proofs.MessagesKept.{one_call, fresh_kept, none_at, nothing_added, only_made, given_then}
use Rattle.flow_history.proofs.PortCalls.{less_waits}
use Rattle.flow_history.proofs.StepsKept.{fits_after, all_kept}
use Rattle.flow_history.proofs.Still.{shares_alone, Kept}
use Rattle.flow_history.proofs.Takes.{held_more, open_port, refuses_so, there}

-- Whether all ports have completed

all_later : (old new : List PortState) → length new ≡ length old
    → ((p : ℕ) → has_ended (port_in old p).refusing ≡ true → has_ended (port_in new p).refusing ≡ true)
    → all_ended old ≡ true → all_ended new ≡ true
all_later [] [] count each e = refl
all_later [] (port ∷ new) count each e = absurd (cc)
all_later (port ∷ old) [] count each e = absurd (cc)
all_later (port ∷ old) (later ∷ new) count each e =
    let both = and_parts (has_ended port.refusing) (all_ended old) e in
    and_from (has_ended later.refusing) (all_ended new) (each 0 both.0)
    (all_later old new (let same = count in omega (arith, same)) (λ p. each (suc p)) both.1)

one_open : (ports : List PortState) (p : ℕ) → p < length ports → has_ended (port_in ports p).refusing ≡ false → all_ended ports ≡ false
one_open [] p l opened = absurd (omega (arith, l))
one_open (port ∷ ports) zero l opened = ap (λ (b : Bool). b && all_ended ports) opened
one_open (port ∷ ports) (suc p) l opened =
    neither (has_ended port.refusing) (all_ended ports) (one_open ports p (omega (arith, l)) opened)
  where
    neither : (a b : Bool) → b ≡ false → (a && b) ≡ false
    neither true b none = none
    neither false b none = refl

-- The law

abbrev GroupsOf : History → JoinState → Type 0
GroupsOf history join =
    GroupsLaw (length join.block.ports) join.block.size (all_ended join.block.ports) history.came history.made join.order
    (held_at join.block.ports)

abbrev CountsOf : History → JoinState → Type 0
CountsOf history join = Counts (λ p. length (took_at history p)) (given history.gave) join.block

record KeptJoin (history : History) (join : JoinState) : Type 0 where
  pub kept : Kept false history join.block
  pub groups : GroupsOf history join
  pub some : 0 < join.block.size
  pub counts : CountsOf history join

-- no message came, and no group was made
groups_stay : (came : List Arrival) (made : List Value) (old new : BlockState) (order later : List ℕ) (took : ℕ → ℕ) → Leaves took old new
    → later ≡ order → GroupsLaw (length old.ports) old.size (all_ended old.ports) came made order (held_at old.ports)
    → GroupsLaw (length new.ports) new.size (all_ended new.ports) came made later (held_at new.ports)
groups_stay came made old new order later took leaves same law =
    let still = leaves.still in
    let held = groups_kept.same (length old.ports) old.size (all_ended old.ports) came made order (held_at old.ports) (held_at new.ports) law
    (λ p l. still.held p) in
    let ended = ended_later (length old.ports) old.size (all_ended old.ports) (all_ended new.ports) came made order (held_at new.ports) held
    (all_later old.ports new.ports still.count still.ended) in
    subst (λ (count : ℕ). GroupsLaw count new.size (all_ended new.ports) came made later (held_at new.ports)) (sym still.count)
    (subst (λ (size : ℕ). GroupsLaw (length old.ports) size (all_ended new.ports) came made later (held_at new.ports)) (sym still.size)
    (subst (λ (ports : List ℕ). GroupsLaw (length old.ports) old.size (all_ended new.ports) came made ports (held_at new.ports)) (sym same) ended))

module _ (h : History) (old new : JoinState) (kept : KeptJoin h old) (fits : FitsJoin old) where
  abbrev took : ℕ → ℕ
  took p = length (took_at h p)

  -- A call by which no message comes, and nothing is made

  nothing_came : (came : List Arrival) (made : List Value) → came ≡ h.came → made ≡ h.made → GroupsLaw (length new.block.ports) new.block.size (all_ended new.block.ports) h.came h.made new.order (held_at new.block.ports)
      → GroupsLaw (length new.block.ports) new.block.size (all_ended new.block.ports) came made new.order (held_at new.block.ports)
  nothing_came came made same_came same_made law =
      subst (λ (c : List Arrival). GroupsLaw (length new.block.ports) new.block.size (all_ended new.block.ports) c made new.order (held_at new.block.ports)) (sym same_came)
      (subst (λ (m : List Value). GroupsLaw (length new.block.ports) new.block.size (all_ended new.block.ports) h.came m new.order (held_at new.block.ports)) (sym same_made) law)

  plain_call : (call : Call) → IsPlain call → MayCallInOrder call old.block → Does call old.block new.block → new.order ≡ old.order
      → came_by call old.block ≡ [] → made_by call old.block ≡ [] → grouped_by call old ≡ []
      → KeptJoin (noted came_to grouped_by gave_by call old h) new
  plain_call call plain may does order came made grouped =
      let leaves = call_leaves took old.block new.block kept.kept.in_order fits.fits call plain may does in
      record {
        kept = subst (λ (values : List Value). Kept false (record (noted came_by made_by gave_by call old.block h) { made = h.made ++ values }) new.block)
            (made ∙ sym grouped) (one_call false h old.block new.block kept.kept fits.fits call may does);
        groups = nothing_came (h.came ++ came_by call old.block) (h.made ++ grouped_by call old)
            (ap (λ (c : List Arrival). h.came ++ c) came ∙ append-nil h.came)
            (ap (λ (m : List Value). h.made ++ m) grouped ∙ append-nil h.made)
            (groups_stay h.came h.made old.block new.block old.order new.order took leaves order kept.groups);
        some = subst (λ (size : ℕ). 0 < size) (sym leaves.still.size) kept.some;
        counts =
            subst (λ (c : List Arrival). Counts (λ p. length (arrived_at p c)) (given (h.gave ++ gave_by call)) new.block)
            (sym (ap (λ (c : List Arrival). h.came ++ c) came ∙ append-nil h.came))
            (subst (λ (gave : List Value). Counts took gave new.block) (sym (given_then h.gave call))
            (plain_counts took (given h.gave) took old.block new.block fits.kind_is call plain does leaves kept.counts));
      }

  -- A group is made

  has_next : may_make old.block ≡ true → has_group old.block.size (all_ended old.block.ports) old.order ≡ true
  has_next may =
      let group = (may_make_tells old.block may).groups (ap is_batched_join fits.kind_is) in
      let all = told_in_all old.order old.block.ports fits.tells in
      let both = and_parts (ltb 0 (waiting_in_all old.block.ports)) (leb old.block.size (waiting_in_all old.block.ports) || all_ended old.block.ports) group in
      has_some old.order (subst (λ (n : ℕ). ltb 0 n ≡ true) (sym all) both.0)
      (subst (λ (n : ℕ). (leb old.block.size n || all_ended old.block.ports) ≡ true) (sym all) both.1)
    where
      has_some : (order : List ℕ) → ltb 0 (length order) ≡ true → (leb old.block.size (length order) || all_ended old.block.ports) ≡ true
          → has_group old.block.size (all_ended old.block.ports) order ≡ true
      has_some [] some enough = absurd (let l = ltb-true 0 0 some in omega (arith, l))
      has_some (p ∷ order) some enough = enough

  abbrev made_join : JoinState
  made_join = makes_next old

  abbrev group : Value
  group = group_of old.block.size old.order old.block.ports

  made_kept : KeptJoin (record h { made = h.made ++ group ∷ [] }) made_join → new ≡ made_join → KeptJoin (record h { made = h.made ++ group ∷ [] }) new
  made_kept after is = subst (λ (join : JoinState). KeptJoin (record h { made = h.made ++ group ∷ [] }) join) (sym is) after

  makes_kept : may_make old.block ≡ true → KeptJoin (record h { made = h.made ++ group ∷ [] }) made_join
  makes_kept may =
      let size = old.block.size in
      let ports = old.block.ports in
      let count : length (takes_group size old.order ports) ≡ length ports = as_many_taken 0 (take size old.order) ports in
      let made = groups_kept.make size (all_ended ports) h.came h.made old.order ports kept.some kept.groups (has_next may) in
      let ended = ended_later (length ports) size (all_ended ports) (all_ended (takes_group size old.order ports)) h.came (h.made ++ group ∷ [])
      (drop size old.order) (held_at (takes_group size old.order ports)) made
      (all_later ports (takes_group size old.order ports) count
      (λ p e. ap has_ended (kept_by_group size old.order (λ (port : PortState). port.refusing) ports p (λ n port. refl)) ∙ e)) in
      record {
        kept = record {
          messages = record {
            shared = shared_more false h old.block kept.kept (group ∷ []);
            as_they_are = not_of hands_on BatchedJoin old.block.kind fits.kind_is refl;
            rows = not_of is_batch BatchedJoin old.block.kind fits.kind_is refl;
            tuples = not_of is_join BatchedJoin old.block.kind fits.kind_is refl;
          };
          weighs = not_of shares_alone BatchedJoin old.block.kind fits.kind_is refl;
          in_order = each_after_group size old.order (λ q port. PortLaw any_link (took q) port) ports
              (λ q n there.
              less_waits (took q) (port_in ports q) (drop n (port_in ports q).waiting)
              (let less = length-drop n (port_in ports q).waiting in omega (arith, less)) (kept.kept.in_order q there));
          some = not_of is_batch BatchedJoin old.block.kind fits.kind_is refl;
          takes_once = not_of is_write_once BatchedJoin old.block.kind fits.kind_is refl;
          none_yet = not_of is_write_once BatchedJoin old.block.kind fits.kind_is refl;
          place = λ e. absurd (cc);
          one = λ e. absurd (cc);
        };
        groups = subst (λ (n : ℕ). GroupsLaw n size (all_ended (takes_group size old.order ports)) h.came (h.made ++ group ∷ [])
            (drop size old.order) (held_at (takes_group size old.order ports))) (sym count) ended;
        some = kept.some;
        counts = made_counts took (given h.gave) old.block.size old.order old.block kept.counts;
      }

  -- A message comes

  module _ (link header : ℕ) (value : Value) (wants : Wants header (target_over old.block.ports link)) where
    abbrev p : ℕ
    p = port_into link old.block.ports

    abbrev arrived : BlockState
    arrived = with_port_of link (arrives link value) old.block

    -- it copies nothing
    copies_nothing : copies_at_once arrived ≡ false
    copies_nothing = never_at_once arrived (ap is_write_once fits.kind_is)

    taken_is : copies_taken arrived ≡ arrived
    taken_is = copies_none arrived (ap is_write_once fits.kind_is)

    came_groups : GroupsLaw (length arrived.ports) arrived.size (all_ended arrived.ports) (h.came ++ arrival_at p value ∷ []) h.made
        (old.order ++ p ∷ []) (held_at arrived.ports)
    came_groups =
        let count = length old.block.ports in
        let opened = open_port false h old.block kept.kept link header value wants in
        let l = there false h old.block kept.kept link header value wants in
        let was : all_ended old.block.ports ≡ false = one_open old.block.ports p l opened in
        let many : length arrived.ports ≡ count = length-set old.block.ports p (arrives link value (port_at p old.block)) in
        let still : all_ended arrived.ports ≡ false =
        one_open arrived.ports p (omega (arith, l, many))
        (ap has_ended (refuses_so false h old.block kept.kept link header value wants p) ∙ opened) in
        let law : GroupsLaw count old.block.size false h.came h.made old.order (held_at old.block.ports) =
        subst (λ (ended : Bool). GroupsLaw count old.block.size ended h.came h.made old.order (held_at old.block.ports)) was kept.groups in
        let taken = groups_kept.take count old.block.size h.came h.made old.order (held_at old.block.ports) law p l value in
        subst (λ (n : ℕ). GroupsLaw n old.block.size (all_ended arrived.ports) (h.came ++ arrival_at p value ∷ []) h.made (old.order ++ p ∷ [])
        (held_at arrived.ports)) (sym many)
        (subst (λ (ended : Bool). GroupsLaw count old.block.size ended (h.came ++ arrival_at p value ∷ []) h.made (old.order ++ p ∷ [])
        (held_at arrived.ports)) (sym still)
        (groups_kept.same count old.block.size false (h.came ++ arrival_at p value ∷ []) h.made (old.order ++ p ∷ [])
        (λ q. held_at old.block.ports q ++ only_at p (value ∷ []) q) (held_at arrived.ports) taken
        (held_more false h old.block kept.kept link header value wants)))

  -- One call

  took_one : (link header : ℕ) (value : Value) → MayCallInOrder (Call.takes (TargetCall.handed link header value)) old.block
      → new.block ≡ copies_taken (with_port_of link (arrives link value) old.block) → new.order ≡ old.order ++ port_into link old.block.ports ∷ []
      → KeptJoin (noted came_to grouped_by gave_by (Call.takes (TargetCall.handed link header value)) old h) new
  took_one link header value may is order =
      let call = Call.takes (TargetCall.handed link header value) in
      let arrived = with_port_of link (arrives link value) old.block in
      let same : new.block ≡ arrived = is ∙ taken_is link header value may.0 in
      let none : copied_at_once arrived ≡ [] = ap (λ (once : Bool). cond once (take 1 (held_by arrived)) []) (copies_nothing link header value may.0) in
      record {
        kept = subst (λ (values : List Value). Kept false (record (noted came_by made_by gave_by call old.block h) { made = h.made ++ values }) new.block)
            none (one_call false h old.block new.block kept.kept fits.fits call may is);
        groups =
            subst (λ (m : List Value). GroupsLaw (length new.block.ports) new.block.size (all_ended new.block.ports)
            (h.came ++ arrival_at (port_into link old.block.ports) value ∷ []) m new.order (held_at new.block.ports)) (sym (append-nil h.made))
            (subst (λ (o : List ℕ). GroupsLaw (length new.block.ports) new.block.size (all_ended new.block.ports)
            (h.came ++ arrival_at (port_into link old.block.ports) value ∷ []) h.made o (held_at new.block.ports)) (sym order)
            (subst (λ (b : BlockState). GroupsLaw (length b.ports) b.size (all_ended b.ports)
            (h.came ++ arrival_at (port_into link old.block.ports) value ∷ []) h.made (old.order ++ port_into link old.block.ports ∷ []) (held_at b.ports))
            (sym same) (came_groups link header value may.0)));
        some = subst (λ (b : BlockState). 0 < b.size) (sym same) kept.some;
        counts =
            subst (λ (gave : List Gift). Counts (λ p. length (arrived_at p (h.came ++ arrival_at (port_into link old.block.ports) value ∷ [])))
            (given gave) new.block) (sym (append-nil h.gave))
            (subst (λ (b : BlockState). Counts (λ p. length (arrived_at p (h.came ++ arrival_at (port_into link old.block.ports) value ∷ [])))
            (given h.gave) b) (sym same)
            (came_counts false h old.block kept.kept link header value may.0 kept.counts));
      }

  nothing_done : new ≡ old → KeptJoin (record { came = h.came ++ []; made = h.made ++ []; gave = h.gave ++ [] }) new
  nothing_done is =
      subst (λ (x : History). KeptJoin x new) (sym (nothing_added h)) (subst (λ (join : JoinState). KeptJoin h join) (sym is) kept)

  acted : (call : BlockCall) → MayCallJoinInOrder (Call.acts call) old → DoesToJoin (Call.acts call) old new
      → KeptJoin (noted came_to grouped_by gave_by (Call.acts call) old h) new
  acted (BlockCall.completed p) may does = plain_call (Call.acts (BlockCall.completed p)) tt may does.0 does.1 refl refl refl
  acted (BlockCall.faulted number) may does = plain_call (Call.acts (BlockCall.faulted number)) tt may does.0 does.1 refl refl refl
  acted (BlockCall.made (Ok true)) may does =
      subst (λ (x : History). KeptJoin x new) (sym (only_made h (group ∷ []))) (made_kept (makes_kept does.0) does.1.1)
  acted (BlockCall.made (Ok false)) may does = nothing_done does.1
  acted (BlockCall.made (Err make_fault.Ids)) may does = nothing_done does.1.1
  acted (BlockCall.made (Err make_fault.Memory)) may does = nothing_done does.1.1

  gave_one : (call : SourceCall) → MayCallJoinInOrder (Call.gives call) old → DoesToJoin (Call.gives call) old new
      → KeptJoin (noted came_to grouped_by gave_by (Call.gives call) old h) new
  gave_one call may does = plain_call (Call.gives call) tt may does.0 does.1 refl refl refl

  took_call : (call : TargetCall) → MayCallJoinInOrder (Call.takes call) old → DoesToJoin (Call.takes call) old new
      → KeptJoin (noted came_to grouped_by gave_by (Call.takes call) old h) new
  took_call (TargetCall.offered link header may_postpone how) may does =
      plain_call (Call.takes (TargetCall.offered link header may_postpone how)) tt may does.0 does.1 refl refl refl
  took_call (TargetCall.handed link header value) may does = took_one link header value may does.0 does.1
  took_call (TargetCall.wished told) may does = plain_call (Call.takes (TargetCall.wished told)) tt may does.0 does.1 refl refl refl
  took_call (TargetCall.noted link told) may does = plain_call (Call.takes (TargetCall.noted link told)) tt may does.0 does.1 refl refl refl

  join_call : (call : Call) → MayCallJoinInOrder call old → DoesToJoin call old new → KeptJoin (noted came_to grouped_by gave_by call old h) new
  join_call (Call.acts call) may does = acted call may does
  join_call (Call.gives call) may does = gave_one call may does
  join_call (Call.takes call) may does = took_call call may does
  join_call Call.asked may does = plain_call Call.asked tt may does.0 does.1 refl refl refl

-- Over all

all_calls : (steps : List (Step Call JoinState)) (old : JoinState) (h : History) → FitsJoin old → AllDone FitsJoin MayCallJoinInOrder DoesToJoin steps old
    → KeptJoin h old → KeptJoin (history_of came_to grouped_by gave_by steps old h) (after_all steps old)
all_calls = all_kept FitsJoin MayCallJoinInOrder DoesToJoin came_to grouped_by gave_by KeptJoin join_call

fresh_join_kept : (size : ℕ) (ports : List PortState) (rules : List LinkRule) → 0 < size → NothingCame ports
    → KeptJoin nothing_yet (fresh_join size ports rules)
fresh_join_kept size ports rules some begins = record {
  kept = fresh_kept BatchedJoin 1 size ports rules begins false (λ e. absurd (cc)) (λ e. absurd (cc));
  groups =
      groups_kept.same (length ports) size (all_ended ports) [] [] [] (λ p. []) (held_at ports)
      (groups_kept.fresh (length ports) size (all_ended ports)) (λ p l. none_at BatchedJoin 1 size ports rules begins p);
  some = some;
  counts = record { no_room = refl; no_groups = refl; loads = λ p l limited. omega arith };
}

-- What the law says

within_by : (capacity : Option ℕ) (came made given left held load comes : ℕ) → came ≡ made + held → made ≡ given + left
    → (is_some capacity ≡ true → came ≤ load + given) → IsWithin capacity (load + comes) → IsWithin capacity (held + left + comes)
within_by None came made given left held load comes all parts counted room = tt
within_by (Some limit) came made given left held load comes all parts counted room =
    let enough = counted refl in omega (arith, all, parts, enough, room)

keeps_groups : (h : History) (join : JoinState) → KeptJoin h join → join.block.kind ≡ BatchedJoin → KeepsGroups h join
keeps_groups h join kept is =
    let shared = kept.kept.messages.shared (ap is_one_taker is) in
    let ports = join.block.ports in
    let says = groups_tell.each (length ports) join.block.size (all_ended ports) h.came h.made join.order (held_at ports) kept.groups in
    record {
      shared = shared;
      groups = kept.groups;
      within = λ p l.
          let port = port_at p join.block in
          let made = ap length (says.in_order p l) ∙ length-append (all_items (column p h.made)) (held_at ports p) in
          let parts = ap (messages_of p) shared ∙ messages_parts p (given h.gave) join.block.exits.left in
          within_by port.capacity (length (took_at h p)) (messages_of p h.made) (messages_of p (given h.gave))
          (messages_of p join.block.exits.left) (length (held_at ports p)) port.load (coming port) made parts
          (λ limited. kept.counts.loads p l limited) (kept.kept.in_order p l).room;
    }

pub groups_are_kept : GroupsAreKept
groups_are_kept = record {
  each = λ size ports rules some begins fits steps done.
      let fresh = fresh_join size ports rules in
      keeps_groups (history_of came_to grouped_by gave_by steps fresh nothing_yet) (after_all steps fresh)
      (all_calls steps fresh nothing_yet fits done (fresh_join_kept size ports rules some begins))
      (fits_after FitsJoin MayCallJoinInOrder DoesToJoin steps fresh fits done).kind_is;
}
