-- What a block makes is of what it held, in order, and what it holds is the rest.
use Rattle.std.proofs.Common.{◌≡◌, ℕ, ◌-◌, ◌≤◌, leb, Bool, true, false, not, ◌&&◌, ◌||◌, cond, List, [], ◌∷◌, ◌++◌, length, set, take, drop, Option, Some, None, is_some, is_none, refl, ap, sym, subst, ◌∙◌, arith, append_assoc, append-nil, Ok, ◌+◌}
use Rattle.std.proofs.lemmas.Bool.{and_parts, not-true, lt-ltb, le-leb}
use Rattle.std.proofs.lemmas.List.{length-map, length-set, length-drop, take-append-drop}
use Rattle.flow_value.specs.View.{values_of-items_from}
use Rattle.flow_value.specs.declared.value.Value.{Value}
use Rattle.flow_link.specs.declared.draft.BlockKind.{BlockKind}
use Rattle.flow_link.specs.declared.draft.BlockKind.TheVariants.{Buffer, Broadcast, Batch, Join}
use Rattle.flow_link.specs.Lists.{every}
use Rattle.flow_link.specs.Making.{items_of, all_items, row_weight}
use Rattle.flow_link.specs.Plan.{has_work, is_broadcast, is_one_taker, is_write_once}
use Rattle.flow_link.specs.Kinds.{unit_of}
use Rattle.flow_intake.specs.Port.{PortState}
use Rattle.flow_intake.specs.PortLaw.{has_ended}
use Rattle.flow_intake.specs.Calls.{first_of, takes_next, gives_room}
use Rattle.flow_intake.proofs.CallsKeepOrder.{moves_keep}
use Rattle.flow_group.specs.Tuple.{held_at, has_tuple, tuple_of, takes_tuple}
use Rattle.flow_group.specs.Tuples.{TuplesLaw}
use Rattle.flow_group.proofs.TuplesKeep.{tuples_kept}
use Rattle.flow_outlet.specs.Outlet.{is_empty, groups_with}
use Rattle.flow_outlet.specs.declared.group.Group.{Group}
use Rattle.flow_spread.specs.Spread.{is_spread_free, puts}
use Rattle.flow_block.specs.Block.{BlockState, port_in, port_at, held_by, is_batch, is_join, row_of, next_group, takes_group, makes_row, makes_tuple, copies_next, puts_out, unit_weight, group_weight}
use Rattle.flow_block.specs.Copies.{copies_weight}
use Rattle.flow_block_law.specs.NodeLaw.{is_whole, weighed, rows_weighed}
use Rattle.flow_block.specs.Peeks.{has_group, has_next, may_copy, may_work, may_make, has_unit}
use Rattle.flow_block.specs.Traits.{makes_alone, has_turn, makes_itself, made_next, makes_its_next, made_by_unit, goes_on_by_unit}
use Rattle.flow_block_law.proofs.GroupsOfRows.{groups_more, group_there, group_fits, whole_or_last, group_tells}
use Rattle.flow_block.proofs.PortsChange.{kept_at_one, kept_at_all}
use Rattle.flow_block_law.proofs.WeightsOfResults.{rows_put, weighs_one}
use Rattle.flow_history.specs.History.{History, took_at, given}
use Rattle.flow_history.specs.Kept.{any_link, hands_on}
use Rattle.flow_history.proofs.CallsLeave.{one_ordered, all_ordered}
use Rattle.flow_history.proofs.PortCalls.{less_waits, room_keeps}
use Rattle.flow_history.proofs.Still.{shares_alone, weighs_left, Kept}

-- another kind than the block's
pub not_of : (test : BlockKind → Bool) (kind own : BlockKind) → own ≡ kind → test kind ≡ false → {A : Type 0} → test own ≡ true → A
not_of test kind own is none some = absurd (let never : false ≡ true = sym none ∙ ap test (sym is) ∙ some in cc)

-- one message is taken off the first port
one_off : (ports : List PortState) (port : PortState) → port.waiting ≡ drop 1 (port_in ports 0).waiting
    → (port_in (set ports 0 port) 0).waiting ≡ drop 1 (port_in ports 0).waiting
one_off [] port off = refl
one_off (first ∷ ports) port off = off

some_off : (count : ℕ) (ports : List PortState) (port : PortState) → port.waiting ≡ drop count (port_in ports 0).waiting
    → is_empty (port_in ports 0).waiting ≡ false → (port_in (set ports 0 port) 0).waiting ≡ drop count (port_in ports 0).waiting
some_off count [] port off some = absurd (cc)
some_off count (first ∷ ports) port off some = off

items_more : (rows : List Value) (values : List Value) → all_items (rows ++ row_of values ∷ []) ≡ all_items rows ++ values
items_more [] values = append-nil (items_of (row_of values)) ∙ values_of-items_from values
items_more (row ∷ rows) values =
    ap (λ (vs : List Value). items_of row ++ vs) (items_more rows values) ∙ sym (append_assoc (items_of row) (all_items rows) values)

all_whole : (ended none all : Bool) → none ≡ false → ((ended && none) || all) ≡ true → all ≡ true
all_whole true true all some e = absurd (cc)
all_whole false true all some e = absurd (cc)
all_whole true false all some e = e
all_whole false false all some e = e

pub one_back : (capacity : Option ℕ) (waiting : List Value) (load now : ℕ) → is_empty waiting ≡ false
    → (is_some capacity ≡ true → length waiting ≤ load) → cond (is_some capacity) (1 - now) 0 ≤ load - length (drop 1 waiting)
one_back None waiting load now some fits = omega arith
one_back (Some limit) [] load now some fits = absurd (cc)
one_back (Some limit) (value ∷ waiting) load now some fits = let enough = fits refl in omega (arith, enough)

-- The weights of what is left, when there is one output more

batch_weighs_so : (kind : BlockKind) → kind ≡ Batch → (capacity : Option ℕ) (next : ℕ) (left : List Value)
    → weighs_left kind capacity next left ≡ rows_weighed capacity next left
batch_weighs_so kind is capacity next left = ap (λ (k : BlockKind). weighs_left k capacity next left) is

batch_weighs : (old : BlockState) → old.kind ≡ Batch
    → weighs_left old.kind (port_at 0 old).capacity old.exits.next old.exits.left
    ≡ rows_weighed (port_at 0 old).capacity old.exits.next old.exits.left
batch_weighs old is = batch_weighs_so old.kind is (port_at 0 old).capacity old.exits.next old.exits.left

one_put : (kind : BlockKind) → is_batch kind ≡ false → (capacity : Option ℕ) (next : ℕ) (left : List Value) (value : Value) (groups : List Group)
    → groups ≡ weighs_left kind capacity next left
    → groups_with (next + length left) 1 (unit_weight capacity) groups ≡ weighs_left kind capacity next (left ++ value ∷ [])
one_put kind single capacity next left value groups is =
    weighs_one (λ v. Ok []) Buffer capacity [] [] [] [] left next groups (value ∷ []) refl refl refl
    (is ∙ ap (λ (b : Bool). cond b (rows_weighed capacity next left) (weighed capacity next left)) single)
    ∙ sym (ap (λ (b : Bool). cond b (rows_weighed capacity next (left ++ value ∷ [])) (weighed capacity next (left ++ value ∷ []))) single)

pub alone_shares : (kind : BlockKind) → shares_alone kind ≡ true → is_one_taker kind ≡ true
alone_shares Buffer e = refl
alone_shares Batch e = refl
alone_shares Join e = refl
alone_shares _ e = absurd (cc)

module _ (single : Bool) (history : History) (old : BlockState) (kept : Kept single history old) where
  abbrev took : ℕ → ℕ
  took p = length (took_at history p)

  abbrev with_made : List Value → History
  with_made values = record history { made = history.made ++ values }

  -- what is put into the exits is left
  pub shared_more : (values : List Value) → is_one_taker old.kind ≡ true
      → history.made ++ values ≡ given history.gave ++ (old.exits.left ++ values)
  shared_more values shares =
      ap (λ (made : List Value). made ++ values) (kept.messages.shared shares) ∙ append_assoc (given history.gave) old.exits.left values

  -- what was made last is the front of what was held
  front_made : (count : ℕ) (held : List Value) → held ≡ drop count (held_by old) → took_at history 0 ≡ history.made ++ held_by old
      → took_at history 0 ≡ (history.made ++ take count (held_by old)) ++ held
  front_made count held is cut =
      cut ∙ ap (λ (values : List Value). history.made ++ values) (sym (take-append-drop count (held_by old)))
      ∙ sym (append_assoc history.made (take count (held_by old)) (drop count (held_by old)))
      ∙ ap (λ (values : List Value). (history.made ++ take count (held_by old)) ++ values) (sym is)

  -- A batch makes a row

  batch_made : old.kind ≡ Batch → has_group old ≡ true → Kept single (with_made (row_of (next_group old) ∷ [])) (makes_row old)
  batch_made is has =
      let port = port_at 0 old in
      let group = next_group old in
      let row = row_of group in
      let ended = has_ended port.refusing in
      let tells = group_tells (held_by old) (leb old.size (length (held_by old))) ended has in
      let batch : is_batch old.kind ≡ true = ap is_batch is in
      let rows = kept.messages.rows batch in
      let all = all_whole ended (is_empty (held_by old)) (every (is_whole old.size) history.made) tells.0 rows.whole in
      let weighs : row_weight row ≡ length (take old.size (held_by old)) = ap length (values_of-items_from group) in
      let held : held_by (makes_row old) ≡ drop old.size (held_by old) =
      some_off old.size old.ports (takes_group old.size port) refl tells.0 in
      let still_ended : has_ended (port_at 0 (makes_row old)).refusing ≡ ended =
      ap has_ended (kept_at_one (λ (r : PortState). r.refusing) old.ports 0 0 (takes_group old.size port) refl) in
      let there = group_there old.size (held_by old) (kept.some batch) tells.0 in
      let fits = group_fits old.size (held_by old) in
      record {
        messages = record {
          shared = shared_more (row ∷ []);
          as_they_are = not_of hands_on Batch old.kind is refl;
          rows = λ e. record {
            cut = rows.cut ∙ ap (λ (values : List Value). all_items history.made ++ values) (sym (take-append-drop old.size (held_by old)))
                ∙ sym (append_assoc (all_items history.made) group (drop old.size (held_by old)))
                ∙ ap (λ (values : List Value). values ++ drop old.size (held_by old)) (sym (items_more history.made group))
                ∙ ap (λ (values : List Value). all_items (history.made ++ row ∷ []) ++ values) (sym held);
            sized = groups_more old.size history.made row all
                (lt-ltb 0 (row_weight row) (omega (arith, there, weighs)))
                (le-leb (row_weight row) old.size (omega (arith, fits, weighs)));
            whole =
                subst (λ (values : List Value). ((has_ended (port_at 0 (makes_row old)).refusing && is_empty values)
                || every (is_whole old.size) (history.made ++ row ∷ [])) ≡ true) (sym held)
                (subst (λ (e : Bool). ((e && is_empty (drop old.size (held_by old)))
                || every (is_whole old.size) (history.made ++ row ∷ [])) ≡ true) (sym still_ended)
                (whole_or_last ended old.size history.made (held_by old) row (leb old.size (length (held_by old))) refl tells.1 weighs all));
          };
          tuples = not_of is_join Batch old.kind is refl;
        };
        weighs = λ alone.
            ap (λ (groups : List Group). groups_with (old.exits.next + length old.exits.left) 1
            (group_weight port.capacity (length group)) groups) (kept.weighs alone ∙ batch_weighs old is)
            ∙ rows_put port.capacity old.exits.next (length group) old.exits.left row weighs there
            ∙ sym (batch_weighs_so old.kind is port.capacity old.exits.next (old.exits.left ++ row ∷ []))
            ∙ ap (λ (c : Option ℕ). weighs_left old.kind c old.exits.next (old.exits.left ++ row ∷ []))
            (sym (kept_at_one (λ (r : PortState). r.capacity) old.ports 0 0 (takes_group old.size port) refl));
        in_order = one_ordered took old.ports 0 (takes_group old.size port) kept.in_order
            (λ there before.
            less_waits (took 0) port (drop old.size port.waiting)
            (let less = length-drop old.size port.waiting in omega (arith, less)) before);
        some = kept.some;
        takes_once = kept.takes_once;
        none_yet = not_of is_write_once Batch old.kind is refl;
        place = λ e. not_of is_write_once Batch old.kind is refl (kept.place e).once;
        one = kept.one;
      }

  -- A join makes a tuple

  join_made : old.kind ≡ Join → has_tuple old.ports ≡ true → Kept single (with_made (tuple_of old.ports ∷ [])) (makes_tuple old)
  join_made is has = record {
    messages = record {
      shared = shared_more (tuple_of old.ports ∷ []);
      as_they_are = not_of hands_on Join old.kind is refl;
      rows = not_of is_batch Join old.kind is refl;
      tuples = λ e.
          subst (λ (count : ℕ). TuplesLaw count (took_at history) (history.made ++ tuple_of old.ports ∷ []) (held_at (takes_tuple old.ports)))
          (sym (length-map old.ports takes_next))
          (tuples_kept.make (took_at history) history.made old.ports (kept.messages.tuples e) has);
    };
    weighs = λ alone.
        one_put old.kind (ap is_batch is) (port_at 0 old).capacity old.exits.next old.exits.left (tuple_of old.ports) old.exits.groups (kept.weighs alone)
        ∙ ap (λ (c : Option ℕ). weighs_left old.kind c old.exits.next (old.exits.left ++ tuple_of old.ports ∷ []))
        (sym (kept_at_all (λ (r : PortState). r.capacity) takes_next old.ports 0 (λ port. refl)));
    in_order = all_ordered took old.ports takes_next kept.in_order
        (λ p there before. moves_keep.take_next any_link (took p) (port_at p old) before);
    some = kept.some;
    takes_once = kept.takes_once;
    none_yet = not_of is_write_once Join old.kind is refl;
    place = λ e. not_of is_write_once Join old.kind is refl (kept.place e).once;
    one = kept.one;
  }

  -- A buffer hands its first message on

  handed_where : (held : List Value) → held_by old ≡ held → is_empty held ≡ false → old.kind ≡ Buffer
      → Kept single (with_made (take 1 held)) (puts_out (take 1 held) old)
  handed_where [] at some is = absurd (cc)
  handed_where (value ∷ held) at some is =
      let off = one_off old.ports (takes_next (port_at 0 old)) refl in
      record {
        messages = record {
          shared = shared_more (value ∷ []);
          as_they_are = λ hands.
              front_made 1 (held_by (puts_out (value ∷ []) old)) off (kept.messages.as_they_are hands)
              ∙ ap (λ (values : List Value). (history.made ++ take 1 values) ++ held_by (puts_out (value ∷ []) old)) at;
          rows = not_of is_batch Buffer old.kind is refl;
          tuples = not_of is_join Buffer old.kind is refl;
        };
        weighs = λ alone.
            one_put old.kind (ap is_batch is) (port_at 0 old).capacity old.exits.next old.exits.left value old.exits.groups (kept.weighs alone)
            ∙ ap (λ (c : Option ℕ). weighs_left old.kind c old.exits.next (old.exits.left ++ value ∷ []))
            (sym (kept_at_one (λ (r : PortState). r.capacity) old.ports 0 0 (takes_next (port_at 0 old)) refl));
        in_order = one_ordered took old.ports 0 (takes_next (port_at 0 old)) kept.in_order
            (λ there before. moves_keep.take_next any_link (took 0) (port_at 0 old) before);
        some = kept.some;
        takes_once = kept.takes_once;
        none_yet = not_of is_write_once Buffer old.kind is refl;
        place = λ e. not_of is_write_once Buffer old.kind is refl (kept.place e).once;
        one = kept.one;
      }

  -- What copies takes its first message

  copied_where : (held : List Value) → held_by old ≡ held → is_empty held ≡ false → is_one_taker old.kind ≡ false
      → is_batch old.kind ≡ false → is_join old.kind ≡ false → Kept single (with_made (take 1 held)) (copies_next (first_of held) old)
  copied_where [] at some copies single alone = absurd (cc)
  copied_where (value ∷ held) at some copies single alone =
      let port = port_at 0 old in
      let back = 1 - copies_weight (puts value old.copies) in
      let changed = gives_room back (takes_next port) in
      let new = copies_next (Some value) old in
      let off = one_off old.ports changed refl in
      record {
        messages = record {
          shared = λ shares. absurd (cc);
          as_they_are = λ hands.
              front_made 1 (held_by new) off (kept.messages.as_they_are hands)
              ∙ ap (λ (values : List Value). (history.made ++ take 1 values) ++ held_by new) at;
          rows = λ batch. absurd (cc);
          tuples = λ join. absurd (cc);
        };
        weighs = λ alone. absurd (let one = alone_shares old.kind alone in cc);
        in_order = one_ordered took old.ports 0 changed kept.in_order
            (λ there before.
            room_keeps (took 0) back (takes_next port)
            (one_back port.capacity port.waiting port.load (copies_weight (puts value old.copies)) (ap is_empty at ∙ some) before.waits)
            (moves_keep.take_next any_link (took 0) port before));
        some = kept.some;
        takes_once = kept.takes_once;
        none_yet = λ once none. absurd (cc);
        place = λ e. let before = kept.place e in record {
          once = before.once;
          alone = length-set old.ports 0 changed ∙ before.alone;
          room = kept_at_one (λ (r : PortState). r.capacity) old.ports 0 0 changed refl ∙ before.room;
        };
        one = kept.one;
      }

  pub copied_made : is_empty (held_by old) ≡ false → is_one_taker old.kind ≡ false → is_batch old.kind ≡ false → is_join old.kind ≡ false
      → Kept single (with_made (take 1 (held_by old))) (copies_next (first_of (held_by old)) old)
  copied_made some copies single alone = copied_where (held_by old) refl some copies single alone

  -- By kind

  abbrev made_by_kind : BlockKind → List Value
  made_by_kind kind = made_by_unit (unit_of kind) old

  abbrev next_by_kind : BlockKind → BlockState
  next_by_kind kind = goes_on_by_unit (unit_of kind) old

  abbrev has_by_kind : BlockKind → Bool
  has_by_kind kind = has_unit (unit_of kind) old

  -- it holds what it makes its next output of
  holds_next : may_make old ≡ true → has_by_kind old.kind ≡ true
  holds_next may =
      let works = (and_parts (may_work old) (not (has_work old.kind)) may).0 in
      (and_parts (is_none old.stopped && is_none old.fault) (has_next old) works).1

  turn_of : (kind : BlockKind) → old.kind ≡ kind → has_turn (is_broadcast old.kind) old ≡ true → has_turn (is_broadcast kind) old ≡ true
  turn_of kind is turn = subst (λ (k : BlockKind). has_turn (is_broadcast k) old ≡ true) is turn

  by_kind : (kind : BlockKind) (ports : ℕ) → old.kind ≡ kind → makes_alone kind ports ≡ true → has_turn (is_broadcast old.kind) old ≡ true
      → Kept single (with_made (made_by_kind kind)) (next_by_kind kind)
  by_kind Buffer ports is alone turn =
      let has = subst (λ (k : BlockKind). has_by_kind k ≡ true) is (holds_next (turn_of Buffer is turn)) in
      handed_where (held_by old) refl (not-true (is_empty (held_by old)) (and_parts (not (is_empty (held_by old))) (may_copy old) has).0) is
  by_kind Broadcast ports is alone turn =
      let outer = (and_parts (is_none old.stopped && not (is_empty (held_by old))) (is_spread_free old.copies) (turn_of Broadcast is turn)).0 in
      let some = not-true (is_empty (held_by old)) (and_parts (is_none old.stopped) (not (is_empty (held_by old))) outer).1 in
      copied_made some (ap is_one_taker is) (ap is_batch is) (ap is_join is)
  by_kind Batch ports is alone turn =
      batch_made is (subst (λ (k : BlockKind). has_by_kind k ≡ true) is (holds_next (turn_of Batch is turn)))
  by_kind Join ports is alone turn =
      join_made is (subst (λ (k : BlockKind). has_by_kind k ≡ true) is (holds_next (turn_of Join is turn)))
  by_kind _ ports is alone turn = absurd (cc)

  pub makes_kept : makes_itself old ≡ true → Kept single (with_made (made_next old)) (makes_its_next old)
  makes_kept e =
      let both = and_parts (makes_alone old.kind (length old.ports)) (has_turn (is_broadcast old.kind) old) e in
      by_kind old.kind (length old.ports) refl both.0 both.1
