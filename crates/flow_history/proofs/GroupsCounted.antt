-- What the ports of a batched join count over any calls: each message that came in, but for those of the groups that were given.
use Rattle.std.proofs.Common.{◌≡◌, ℕ, ◌+◌, ◌<◌, ◌≤◌, ◌==◌, Bool, true, is_some, List, [], ◌∷◌, ◌++◌, length, get_or, Option, Some, None, pos, refl, ap, sym, ◌∙◌, arith, append-nil, length-append}
use Rattle.std.proofs.lemmas.List.{length-set}
use Rattle.flow_value.specs.declared.value.Value.{Value}
use Rattle.flow_value.specs.declared.value.Value.TheVariants.{Int}
use Rattle.flow_link.specs.declared.draft.BlockKind.{BlockKind}
use Rattle.flow_link.specs.declared.draft.BlockKind.TheVariants.{BatchedJoin}
use Rattle.flow_link.specs.Making.{items_of, all_items, column, row_weight}
use Rattle.flow_link.specs.Plan.{is_one_taker}
use Rattle.flow_link.specs.TargetCalls.{Wants}
use Rattle.flow_intake.specs.Port.{PortState}
use Rattle.flow_intake.specs.ByLink.{arrives}
use Rattle.flow_group.specs.Groups.{arrival_at}
use Rattle.flow_outlet.specs.History.{listed}
use Rattle.flow_outlet.specs.Outlet.{OutletState, groups_after}
use Rattle.flow_outlet.specs.declared.group.Group.{Group}
use Rattle.flow_block.specs.Block.{BlockState, port_at, row_count}
use Rattle.flow_block.specs.Groups.{makes_group}
use Rattle.flow_block.specs.Traits.{target_over, port_into, with_port_of}
use Rattle.flow_block_law.proofs.GroupPorts.{kept_by_group, length_by_group}
use Rattle.flow_history.specs.Calls.{Call, Does}
use Rattle.flow_history.specs.History.{History, took_at, given}
use Rattle.flow_history.proofs.CallsLeave.{Leaves, IsPlain}
use Rattle.flow_history.proofs.ExitsGo.{Goes, given_value, exits_go}
use Rattle.flow_history.proofs.LoadsGo.{LoadsAt, loads_go}
use Rattle.flow_history.proofs.Still.{Kept}
use Rattle.flow_history.proofs.Takes.{took_length, load_more, capacity_so}

-- how many messages of a port these groups have
abbrev pub messages_of : ℕ → List Value → ℕ
messages_of p groups = length (all_items (column p groups))

pub messages_parts : (p : ℕ) (groups more : List Value) → messages_of p (groups ++ more) ≡ messages_of p groups + messages_of p more
messages_parts p [] more = omega arith
messages_parts p (group ∷ groups) more =
    let first = get_or (items_of group) p (Int (pos 0)) in
    let one = length-append (items_of first) (all_items (column p (groups ++ more))) in
    let other = length-append (items_of first) (all_items (column p groups)) in
    let rest = messages_parts p groups more in
    omega (arith, one, other, rest)

pub record Counts (came : ℕ → ℕ) (gave : List Value) (block : BlockState) : Type 0 where
  -- a group has no weight, so no room waits to come back
  pub no_room : block.exits.room ≡ 0
  pub no_groups : block.exits.groups ≡ []
  pub loads : (p : ℕ) → p < length block.ports → is_some (port_at p block).capacity ≡ true
      → came p ≤ (port_at p block).load + messages_of p gave

-- a group is given, or nothing changes
gone_room : (value : Option Value) (old new : OutletState) → Goes value old new → old.room ≡ 0 → new.room ≡ 0
gone_room None old new goes none = goes.room ∙ none
gone_room (Some value) old new goes none = goes.room

gone_groups : (value : Option Value) (old new : OutletState) → Goes value old new → old.groups ≡ [] → new.groups ≡ []
gone_groups None old new goes none = goes.groups ∙ none
gone_groups (Some value) old new goes none = goes.groups ∙ ap (λ (groups : List Group). groups_after old.next groups) none

gone_load : (came p : ℕ) (gave : List Value) (value : Option Value) (old new : BlockState) → old.kind ≡ BatchedJoin → LoadsAt value old new p
    → came ≤ (port_at p old).load + messages_of p gave → came ≤ (port_at p new).load + messages_of p (gave ++ listed value)
gone_load came p gave None old new is loads within =
    let same = ap (messages_of p) (append-nil gave) in omega (arith, loads, within, same)
gone_load came p gave (Some value) old new is loads within =
    let parts = messages_parts p gave (value ∷ []) in
    let count : row_count old.kind (Some value) p ≡ row_weight (get_or (items_of value) p (Int (pos 0))) =
    ap (λ (k : BlockKind). row_count k (Some value) p) is in
    let one : messages_of p (value ∷ []) ≡ row_weight (get_or (items_of value) p (Int (pos 0))) =
    ap length (append-nil (items_of (get_or (items_of value) p (Int (pos 0))))) in
    omega (arith, loads, within, parts, count, one)

pub plain_counts : (came : ℕ → ℕ) (gave : List Value) (took : ℕ → ℕ) (old new : BlockState) → old.kind ≡ BatchedJoin → (call : Call) → IsPlain call
    → Does call old new → Leaves took old new → Counts came gave old → Counts came (gave ++ listed (given_value call)) new
plain_counts came gave took old new is call plain does leaves counts =
    let one : is_one_taker old.kind ≡ true = ap is_one_taker is in
    let goes = exits_go old new one call plain does in
    record {
      no_room = gone_room (given_value call) old.exits new.exits goes counts.no_room;
      no_groups = gone_groups (given_value call) old.exits new.exits goes counts.no_groups;
      loads = λ p l limited.
          let there : p < length old.ports = (let count = leaves.still.count in omega (arith, l, count)) in
          gone_load (came p) p gave (given_value call) old new is
          (loads_go old new one p there counts.no_room counts.no_groups call plain does)
          (counts.loads p there (ap is_some (sym (leaves.still.capacity p)) ∙ limited));
    }

-- a group is made: its messages count until it is given
pub made_counts : (came : ℕ → ℕ) (gave : List Value) (size : ℕ) (order : List ℕ) (old : BlockState) → Counts came gave old
    → Counts came gave (makes_group size 0 order old)
made_counts came gave size order old counts = record {
  no_room = let none = counts.no_room in omega (arith, none);
  no_groups = counts.no_groups;
  loads = λ p l limited.
      let there : p < length old.ports = (let count = length_by_group size order old.ports in omega (arith, l, count)) in
      let same = kept_by_group size order (λ (port : PortState). port.load) old.ports p (λ n port. refl) in
      let capacity = kept_by_group size order (λ (port : PortState). port.capacity) old.ports p (λ n port. refl) in
      let within = counts.loads p there (ap is_some (sym capacity) ∙ limited) in
      omega (arith, same, within);
}

-- a message comes
pub came_counts : (single : Bool) (h : History) (old : BlockState) (kept : Kept single h old) (link header : ℕ) (value : Value)
    (wants : Wants header (target_over old.ports link)) → Counts (λ p. length (took_at h p)) (given h.gave) old
    → Counts (λ p. length (took_at (record h { came = h.came ++ arrival_at (port_into link old.ports) value ∷ [] }) p)) (given h.gave)
    (with_port_of link (arrives link value) old)
came_counts single h old kept link header value wants counts = record {
  no_room = counts.no_room;
  no_groups = counts.no_groups;
  loads = λ p l limited.
      let q = port_into link old.ports in
      let there : p < length old.ports = (let count = length-set old.ports q (arrives link value (port_at q old)) in omega (arith, l, count)) in
      let capacity = capacity_so single h old kept link header value wants p in
      let some = ap is_some (sym capacity) ∙ limited in
      let more = took_length single h old kept link header value wants p (q == p) refl in
      let load = load_more single h old kept link header value wants p (q == p) refl some in
      let within = counts.loads p there some in
      omega (arith, more, load, within);
}
