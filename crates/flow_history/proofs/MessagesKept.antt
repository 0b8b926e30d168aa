-- Over any calls a block that a caller drives by hand keeps its messages.
use Rattle.std.proofs.Common.{◌≡◌, ℕ, zero, suc, ◌<◌, Bool, true, false, ◌&&◌, cond, is_some, List, [], ◌∷◌, ◌++◌, length, Option, Some, None, Ok, Err, refl, ap, ap₂, sym, subst, ◌∙◌, arith, append-nil, append_assoc, eq-eqb, ◌+◌, ◌≤◌}
use Rattle.std.proofs.lemmas.Bool.{and_parts, or_right}
use Rattle.std.proofs.lemmas.List.{map-append}
use Rattle.flow_value.specs.declared.value.Value.{Value}
use Rattle.flow_link.specs.declared.draft.BlockKind.{BlockKind}
use Rattle.flow_link.specs.declared.draft.BlockKind.TheVariants.{WriteOnce}
use Rattle.flow_link.specs.BlockCalls.{BlockCall}
use Rattle.flow_link.specs.Making.{Arrival, all_items, row_weight}
use Rattle.flow_link.specs.Plan.{is_one_taker}
use Rattle.flow_link.specs.SourceCalls.{SourceCall}
use Rattle.flow_link.specs.TargetCalls.{TargetCall}
use Rattle.flow_intake.specs.Port.{PortState, coming}
use Rattle.flow_intake.specs.ByLink.{arrives}
use Rattle.flow_intake.specs.PortLaw.{has_ended}
use Rattle.flow_group.specs.Groups.{arrival_at}
use Rattle.flow_group.specs.Tuple.{held_at}
use Rattle.flow_group.proofs.TuplesKeep.{tuples_kept}
use Rattle.flow_outlet.specs.Outlet.{rest_of, is_empty, OutletState, groups_after}
use Rattle.flow_outlet.specs.declared.ends.LinkRule.{LinkRule}
use Rattle.flow_block.specs.Block.{BlockState, port_in, is_batch, port_at}
use Rattle.flow_block.specs.BlockFits.{fresh_block, weight_out}
use Rattle.flow_block.specs.Peeks.{holds_nothing}
use Rattle.flow_block.specs.Traits.{made_next, shares, port_into, with_port_of}
use Rattle.flow_block.proofs.NothingLeft.{none_left}
use Rattle.flow_link.specs.LinkOk.{IsWithin}
use Rattle.flow_outlet.specs.Fits.{weight_of}
use Rattle.flow_outlet.specs.History.{listed}
use Rattle.flow_outlet.specs.declared.group.Group.{Group}
use Rattle.flow_block.specs.Copies.{copies_weight}
use Rattle.flow_block_law.specs.NodeLaw.{weighed, rows_weighed}
use Rattle.flow_block_law.proofs.RowsHold.{given_back}
use Rattle.flow_block_law.proofs.WeightsOfResults.{weight_weighed, weight_rows}
use Rattle.flow_history.specs.Calls.{MayCallInOrder, Call, Does, Fits, Step, AllDone, after_all}
use Rattle.flow_history.specs.History.{Gift, History, nothing_yet, took_at, given, came_by, made_by, copied_at_once, noted, history_of, gave_by}
use Rattle.flow_history.specs.Kept.{NothingCame, MessagesAreKept, makes_freely, places_left, KeepsMessages}
use Rattle.flow_history.proofs.CallsLeave.{IsPlain, call_leaves, out_at}
use Rattle.flow_history.proofs.ExitsGo.{Goes, given_value, exits_go}
use Rattle.flow_history.proofs.Makes.{makes_kept, alone_shares}
use Rattle.flow_history.proofs.Still.{HasOneRoom, Kept, kept_still, shares_alone, weighs_left}
use Rattle.flow_history.proofs.StepsKept.{fits_after, all_kept}
use Rattle.flow_history.proofs.Takes.{taken_kept}

-- a call adds nothing to what came, was made or was given
pub nothing_added : (h : History) → record { came = h.came ++ []; made = h.made ++ []; gave = h.gave ++ [] } ≡ h
nothing_added h =
    ap (λ (came : List Arrival). record { came = came; made = h.made ++ []; gave = h.gave ++ [] }) (append-nil h.came)
    ∙ ap (λ (made : List Value). record { came = h.came; made = made; gave = h.gave ++ [] }) (append-nil h.made)
    ∙ ap (λ (gave : List Gift). record { came = h.came; made = h.made; gave = gave }) (append-nil h.gave)

pub only_made : (h : History) (values : List Value)
    → record { came = h.came ++ []; made = h.made ++ values; gave = h.gave ++ [] } ≡ record h { made = h.made ++ values }
only_made h values =
    ap (λ (came : List Arrival). record { came = came; made = h.made ++ values; gave = h.gave ++ [] }) (append-nil h.came)
    ∙ ap (λ (gave : List Gift). record { came = h.came; made = h.made ++ values; gave = gave }) (append-nil h.gave)

only_came : (h : History) (came : List Arrival) (values : List Value)
    → record { came = h.came ++ came; made = h.made ++ values; gave = h.gave ++ [] }
    ≡ record h { came = h.came ++ came; made = h.made ++ values }
only_came h came values =
    ap (λ (gave : List Gift). record { came = h.came ++ came; made = h.made ++ values; gave = gave }) (append-nil h.gave)

pub only_given : (h : History) (gifts : List Gift)
    → record { came = h.came ++ []; made = h.made ++ []; gave = h.gave ++ gifts } ≡ record h { gave = h.gave ++ gifts }
only_given h gifts =
    ap (λ (came : List Arrival). record { came = came; made = h.made ++ []; gave = h.gave ++ gifts }) (append-nil h.came)
    ∙ ap (λ (made : List Value). record { came = h.came; made = made; gave = h.gave ++ gifts }) (append-nil h.made)

-- the weight of what is given first is kept no more
rest_weighs : (kind : BlockKind) (capacity : Option ℕ) (next : ℕ) (value : Value) (left : List Value)
    → groups_after next (weighs_left kind capacity next (value ∷ left)) ≡ weighs_left kind capacity (next + 1) left
rest_weighs kind capacity next value left = by_kind (is_batch kind) capacity
  where
    by_kind : (batch : Bool) (capacity : Option ℕ)
        → groups_after next (cond batch (rows_weighed capacity next (value ∷ left)) (weighed capacity next (value ∷ left)))
        ≡ cond batch (rows_weighed capacity (next + 1) left) (weighed capacity (next + 1) left)
    by_kind true None = refl
    by_kind false None = refl
    by_kind true (Some limit) =
        ap (λ (b : Bool). cond b (rows_weighed (Some limit) (next + 1) left)
        (record { until = next; weight = row_weight value } ∷ rows_weighed (Some limit) (next + 1) left)) (eq-eqb next next refl)
    by_kind false (Some limit) =
        ap (λ (b : Bool). cond b (weighed (Some limit) (next + 1) left)
        (record { until = next; weight = 1 } ∷ weighed (Some limit) (next + 1) left)) (eq-eqb next next refl)

-- what is left is the rest, of what is given first
pub given_then : (gave : List Gift) (call : Call) → given (gave ++ gave_by call) ≡ given gave ++ listed (given_value call)
given_then gave call = map-append (λ (gift : Gift). gift.value) gave (gave_by call) ∙ ap (λ (vs : List Value). given gave ++ vs) (gifts_are call)
  where
    gifts_are : (call : Call) → given (gave_by call) ≡ listed (given_value call)
    gifts_are (Call.gives (SourceCall.consumed link header None)) = refl
    gifts_are (Call.gives (SourceCall.consumed link header (Some value))) = refl
    gifts_are (Call.gives (SourceCall.offered offer)) = refl
    gifts_are (Call.gives (SourceCall.noted link header how)) = refl
    gifts_are (Call.gives (SourceCall.reserved link header kept)) = refl
    gifts_are (Call.gives (SourceCall.released link header)) = refl
    gifts_are (Call.acts call) = refl
    gifts_are (Call.takes call) = refl
    gifts_are Call.asked = refl

left_then : (value : Option Value) (old new : OutletState) → Goes value old new → old.left ≡ listed value ++ new.left
left_then None old new goes = sym goes.left
left_then (Some value) old new goes = given_back old.left value goes.head ∙ ap (λ (left : List Value). value ∷ left) (sym goes.left)

weighs_then : (kind : BlockKind) (capacity : Option ℕ) (value : Option Value) (old new : OutletState) → Goes value old new
    → old.groups ≡ weighs_left kind capacity old.next old.left → new.groups ≡ weighs_left kind capacity new.next new.left
weighs_then kind capacity None old new goes weighs =
    goes.groups ∙ weighs
    ∙ ap (λ (n : ℕ). weighs_left kind capacity n old.left) (sym goes.next)
    ∙ ap (λ (left : List Value). weighs_left kind capacity new.next left) (sym goes.left)
weighs_then kind capacity (Some value) old new goes weighs =
    goes.groups
    ∙ ap (λ (groups : List Group). groups_after old.next groups)
    (weighs ∙ ap (λ (left : List Value). weighs_left kind capacity old.next left) (given_back old.left value goes.head))
    ∙ rest_weighs kind capacity old.next value (rest_of old.left)
    ∙ ap (λ (n : ℕ). weighs_left kind capacity n (rest_of old.left)) (sym goes.next)
    ∙ ap (λ (left : List Value). weighs_left kind capacity new.next left) (sym goes.left)

-- One call

module _ (single : Bool) (h : History) (old new : BlockState) (kept : Kept single h old) (fits : Fits old) where
  abbrev took_so_far : ℕ → ℕ
  took_so_far p = length (took_at h p)

  -- nothing came, and nothing was made
  plain_call : (call : Call) → IsPlain call → MayCallInOrder call old → Does call old new → came_by call old ≡ [] → made_by call old ≡ []
      → Kept single (noted came_by made_by gave_by call old h) new
  plain_call call plain may does came made =
      let leaves = call_leaves took_so_far old new kept.in_order fits call plain may does in
      let same : noted came_by made_by gave_by call old h ≡ record h { gave = h.gave ++ gave_by call } =
      ap (λ (c : List Arrival). record { came = h.came ++ c; made = h.made ++ made_by call old; gave = h.gave ++ gave_by call }) came
      ∙ ap (λ (m : List Value). record { came = h.came ++ []; made = h.made ++ m; gave = h.gave ++ gave_by call }) made
      ∙ only_given h (gave_by call) in
      subst (λ (x : History). Kept single x new) (sym same)
      (kept_still single h (h.gave ++ gave_by call) old new kept leaves.still leaves.ordered
      (λ one.
      kept.messages.shared one
      ∙ ap (λ (left : List Value). given h.gave ++ left) (left_then (given_value call) old.exits new.exits (exits_go old new one call plain does))
      ∙ sym (append_assoc (given h.gave) (listed (given_value call)) new.exits.left)
      ∙ ap (λ (gave : List Value). gave ++ new.exits.left) (sym (given_then h.gave call)))
      (λ alone.
      weighs_then old.kind (port_at 0 old).capacity (given_value call) old.exits new.exits
      (exits_go old new (alone_shares old.kind alone) call plain does) (kept.weighs alone)))

  acted : (call : BlockCall) → MayCallInOrder (Call.acts call) old → Does (Call.acts call) old new
      → Kept single (noted came_by made_by gave_by (Call.acts call) old h) new
  acted (BlockCall.completed p) may does = plain_call (Call.acts (BlockCall.completed p)) tt may does refl refl
  acted (BlockCall.faulted number) may does = plain_call (Call.acts (BlockCall.faulted number)) tt may does refl refl
  acted (BlockCall.made (Ok true)) may does =
      subst (λ (x : History). Kept single x new) (sym (only_made h (made_next old)))
      (subst (λ (b : BlockState). Kept single (record h { made = h.made ++ made_next old }) b) (sym does.1)
      (makes_kept single h old kept does.0.by_itself))
  acted (BlockCall.made (Ok false)) may does = plain_call (Call.acts (BlockCall.made (Ok false))) tt may does refl refl
  acted (BlockCall.made (Err fault)) may does = plain_call (Call.acts (BlockCall.made (Err fault))) tt may does refl refl

  took_call : (call : TargetCall) → MayCallInOrder (Call.takes call) old → Does (Call.takes call) old new
      → Kept single (noted came_by made_by gave_by (Call.takes call) old h) new
  took_call (TargetCall.offered link header may_postpone how) may does =
      plain_call (Call.takes (TargetCall.offered link header may_postpone how)) tt may does refl refl
  took_call (TargetCall.handed link header value) may does =
      subst (λ (x : History). Kept single x new)
      (sym (only_came h (arrival_at (port_into link old.ports) value ∷ []) (copied_at_once (with_port_of link (arrives link value) old))))
      (subst (λ (b : BlockState). Kept single (record h {
        came = h.came ++ arrival_at (port_into link old.ports) value ∷ [];
        made = h.made ++ copied_at_once (with_port_of link (arrives link value) old);
      }) b) (sym does) (taken_kept single h old kept link header value may.0 fits))
  took_call (TargetCall.wished told) may does = plain_call (Call.takes (TargetCall.wished told)) tt may does refl refl
  took_call (TargetCall.noted link told) may does = plain_call (Call.takes (TargetCall.noted link told)) tt may does refl refl

  pub one_call : (call : Call) → MayCallInOrder call old → Does call old new → Kept single (noted came_by made_by gave_by call old h) new
  one_call (Call.acts call) may does = acted call may does
  one_call (Call.gives call) may does = plain_call (Call.gives call) tt may does refl refl
  one_call (Call.takes call) may does = took_call call may does
  one_call Call.asked may does = plain_call Call.asked tt may does refl refl

-- Over all

all_calls : (single : Bool) (steps : List (Step Call BlockState)) (old : BlockState) (h : History) → Fits old → AllDone Fits MayCallInOrder Does steps old → Kept single h old
    → Kept single (history_of came_by made_by gave_by steps old h) (after_all steps old)
all_calls single = all_kept Fits MayCallInOrder Does came_by made_by gave_by (Kept single) (one_call single)

-- From a block to which nothing came

module _ (kind : BlockKind) (lanes size : ℕ) (ports : List PortState) (rules : List LinkRule) (begins : NothingCame ports) where
  abbrev fresh : BlockState
  fresh = fresh_block kind lanes size ports rules

  pub none_at : (p : ℕ) → held_at ports p ≡ []
  none_at p = of_ports ports begins.waits p
    where
      of_ports : (ports : List PortState) → holds_nothing ports ≡ true → (p : ℕ) → held_at ports p ≡ []
      of_ports [] none p = refl
      of_ports (port ∷ ports) none zero = none_left port.waiting (and_parts (is_empty port.waiting) (holds_nothing ports) none).0
      of_ports (port ∷ ports) none (suc p) = of_ports ports (and_parts (is_empty port.waiting) (holds_nothing ports) none).1 p

  none_weighed : (batch : Bool) (capacity : Option ℕ) → [] ≡ cond batch (rows_weighed capacity 1 []) (weighed capacity 1 [])
  none_weighed true None = refl
  none_weighed true (Some limit) = refl
  none_weighed false None = refl
  none_weighed false (Some limit) = refl

  pub fresh_kept : (single : Bool) → (is_batch kind ≡ true → 0 < size) → (single ≡ true → HasOneRoom fresh) → Kept single nothing_yet fresh
  fresh_kept single some place = record {
    messages = record {
      shared = λ one. refl;
      as_they_are = λ hands. sym (none_at 0);
      rows = λ batch. record {
        cut = sym (none_at 0);
        sized = refl;
        whole = or_right (has_ended (port_in ports 0).refusing && is_empty (port_in ports 0).waiting) true refl;
      };
      tuples = λ join.
          tuples_kept.same (length ports) (λ p. []) (λ p. []) [] (λ p. []) (held_at ports) (tuples_kept.fresh (length ports)) (λ p l. refl)
          (λ p l. none_at p);
    };
    weighs = λ alone. none_weighed (is_batch kind) (port_in ports 0).capacity;
    in_order = begins.in_order;
    some = some;
    takes_once = λ once. once;
    none_yet = λ once none. refl;
    place = place;
    one = λ e. omega arith;
  }

-- What the law says

-- what takes places is counted, and all that is counted fits
pub fits_in : (capacity : Option ℕ) (waiting weight places load comes : ℕ) → places ≤ weight → cond (is_some capacity) (waiting + weight) 0 ≤ load
    → IsWithin capacity (load + comes) → IsWithin capacity (waiting + places + comes)
fits_in None waiting weight places load comes less out room = tt
fits_in (Some limit) waiting weight places load comes less out room = omega (arith, less, out, room)

module _ (history : History) (block : BlockState) (kept : Kept false history block) (fits : Fits block) where
  abbrev weight : ℕ
  weight = weight_out block.exits (copies_weight block.copies)

  -- what is left weighs as much as the places of its messages
  left_weighs : (batch : Bool) (capacity : Option ℕ) (next : ℕ) (left : List Value) → is_some capacity ≡ true
      → weight_of (cond batch (rows_weighed capacity next left) (weighed capacity next left)) ≡ cond batch (length (all_items left)) (length left)
  left_weighs true capacity next left limited = weight_rows capacity next left limited
  left_weighs false capacity next left limited = weight_weighed capacity next left limited

  places_by : (kind : BlockKind) → block.kind ≡ kind → makes_freely kind ≡ true → is_some (port_at 0 block).capacity ≡ true
      → (one : Bool) → is_one_taker kind ≡ one → (shares_alone kind ≡ true → block.exits.groups ≡ weighs_left kind (port_at 0 block).capacity block.exits.next block.exits.left)
      → cond one (cond (is_batch kind) (length (all_items block.exits.left)) (length block.exits.left)) (copies_weight block.copies) ≤ weight
  places_by kind is freely limited true shares weighs =
      let groups = ap weight_of (weighs (shares_freely kind freely shares)) in
      let places = left_weighs (is_batch kind) (port_at 0 block).capacity block.exits.next block.exits.left limited in
      omega (arith, groups, places)
    where
      shares_freely : (kind : BlockKind) → makes_freely kind ≡ true → is_one_taker kind ≡ true → shares_alone kind ≡ true
      shares_freely kind e one = ap₂ (λ (free alone : Bool). free && alone) e one
  places_by kind is freely limited false shares weighs = omega arith

  pub keeps : KeepsMessages history block
  keeps = record {
    shared = kept.messages.shared;
    as_they_are = kept.messages.as_they_are;
    rows = kept.messages.rows;
    tuples = kept.messages.tuples;
    within = λ freely limited p l.
        fits_in (port_at p block).capacity (length (port_at p block).waiting) weight (places_left block) (port_at p block).load (coming (port_at p block))
        (places_by block.kind refl freely limited (is_one_taker block.kind) refl kept.weighs)
        (out_at weight block.ports p l fits.room) (kept.in_order p l).room;
  }

pub messages_kept : MessagesAreKept
messages_kept = record {
  each = λ kind lanes size ports rules begins some fits steps done.
      let fresh = fresh_block kind lanes size ports rules in
      keeps (history_of came_by made_by gave_by steps fresh nothing_yet) (after_all steps fresh)
      (all_calls false steps fresh nothing_yet fits done (fresh_kept kind lanes size ports rules begins false some (λ e. absurd (cc))))
      (fits_after Fits MayCallInOrder Does steps fresh fits done);
  once = λ lanes size port rules begins room fits steps done.
      (all_calls true steps (fresh_block WriteOnce lanes size (port ∷ []) rules) nothing_yet fits done
      (fresh_kept WriteOnce lanes size (port ∷ []) rules begins true (λ e. absurd (cc))
      (λ e. record { once = refl; alone = refl; room = room }))).one refl;
}
