-- A message that comes is held, behind those that came before it.
use Rattle.std.proofs.Common.{◌≡◌, ℕ, ◌+◌, ◌<◌, ◌≤◌, ◌^◌, ◌==◌, ltb, Bool, true, false, not, ◌&&◌, ◌||◌, cond, List, [], ◌∷◌, ◌++◌, length, set, take, Option, Some, None, is_some, refl, ap, sym, subst, ◌∙◌, arith, append_assoc, append-nil, length-append, eqb-true, ne_eqb, eq-eqb}
use Rattle.std.proofs.lemmas.Bool.{and_parts, not-true, or_right, eqb-false}
use Rattle.std.proofs.lemmas.List.{length-set, get_or-set_same, get_or-set_other}
use Rattle.flow_value.specs.declared.value.Value.{Value}
use Rattle.flow_link.specs.declared.draft.BlockKind.{BlockKind}
use Rattle.flow_link.specs.declared.draft.BlockKind.TheVariants as kind
use Rattle.flow_link.specs.declared.stage.TargetStage.TheVariants as target
use Rattle.flow_link.specs.LinkOk.{IsWithin}
use Rattle.flow_link.specs.Lists.{every}
use Rattle.flow_link.specs.Making.{all_items}
use Rattle.flow_link.specs.Plan.{is_write_once, is_one_taker}
use Rattle.flow_link.specs.TargetCalls.{Wants}
use Rattle.flow_link.proofs.KindsTell.{kind_tells}
use Rattle.flow_intake.specs.Port.{EndState, PortState, stage_at, is_coming, coming, fresh_port}
use Rattle.flow_intake.specs.PortLaw.{PortLaw, has_ended}
use Rattle.flow_intake.specs.Calls.{put_stage, takes, one_more}
use Rattle.flow_intake.specs.ByLink.{arrives, arrives_at}
use Rattle.flow_intake.proofs.CountsOfEnds.{count_there}
use Rattle.flow_group.specs.Groups.{arrival_at}
use Rattle.flow_group.specs.Tuple.{held_at}
use Rattle.flow_group.specs.Tuples.{TuplesLaw, only_at}
use Rattle.flow_group.proofs.GroupsCount.{arrived_append}
use Rattle.flow_group.proofs.TuplesKeep.{tuples_kept, held_by_take}
use Rattle.flow_outlet.specs.Outlet.{is_empty}
use Rattle.flow_spread.specs.Spread.{SpreadState, is_spread_free}
use Rattle.flow_block.specs.Block.{BlockState, port_in, port_at, held_by, is_batch, is_join, copies_at_once, copies_where, copies_taken}
use Rattle.flow_block.specs.BlockFits.{weight_out}
use Rattle.flow_block.specs.Copies.{weight_by, copies_left, copies_weight}
use Rattle.flow_block_law.specs.NodeLaw.{is_whole}
use Rattle.flow_block.specs.Traits.{port_into, target_over, with_port_of}
use Rattle.flow_block.proofs.PortsChange.{kept_at_one, each_after_one}
use Rattle.flow_block.proofs.TargetMoves.{wanted_there, shown_wanted}
use Rattle.flow_history.specs.Calls.{Fits}
use Rattle.flow_history.specs.History.{History, took_at, copied_at_once}
use Rattle.flow_history.specs.Kept.{any_link, hands_on, RowsMade}
use Rattle.flow_history.proofs.CallsLeave.{Ordered, out_at}
use Rattle.flow_history.proofs.Makes.{copied_made}
use Rattle.flow_history.proofs.PortCalls.{WantedAt, wanted_at, arrive_keeps}
use Rattle.flow_history.proofs.Still.{weighs_left, HasOneRoom, Kept}

-- no element is kept where none has a weight
no_element : (copies : SpreadState) → copies.once ≡ true → copies_weight copies ≡ 0 → copies.element ≡ None
no_element copies once none = of_element copies.element (ap (λ (b : Bool). weight_by b (is_some copies.element) (copies_left copies)) (sym once) ∙ none)
  where
    of_element : (element : Option Value) → weight_by true (is_some element) (copies_left copies) ≡ 0 → element ≡ None
    of_element None none = refl
    of_element (Some value) none = absurd (cc)

module _ (single : Bool) (history : History) (old : BlockState) (kept : Kept single history old) (link header : ℕ) (value : Value)
    (wants : Wants header (target_over old.ports link)) where
  abbrev p : ℕ
  p = port_into link old.ports

  abbrev port : PortState
  port = port_at p old

  abbrev arrived : BlockState
  arrived = with_port_of link (arrives link value) old

  abbrev with_one : History
  with_one = record history { came = history.came ++ arrival_at p value ∷ [] }

  pub there : p < length old.ports
  there = wanted_there header old.ports link wants

  at : WantedAt link port
  at = wanted_at header link port (shown_wanted header old.ports link wants)

  -- the port takes it
  abbrev ends : List EndState
  ends = put_stage at.place target.Free port.ends

  taken_is : arrives link value port ≡ takes value ends port
  taken_is = ap (λ (place : Option ℕ). arrives_at place value port) at.known

  pub took_more : (q : ℕ) → took_at with_one q ≡ took_at history q ++ only_at p (value ∷ []) q
  took_more q = arrived_append q history.came (arrival_at p value ∷ [])

  pub held_more : (q : ℕ) → q < length old.ports → held_at arrived.ports q ≡ held_at old.ports q ++ only_at p (value ∷ []) q
  held_more q l =
      ap (λ (r : PortState). held_at (set old.ports p r) q) taken_is ∙ held_by_take old.ports p value ends q l (p == q) refl

  -- what of a port does not change
  pub refuses_so : (q : ℕ) → (port_in arrived.ports q).refusing ≡ (port_in old.ports q).refusing
  refuses_so q =
      kept_at_one (λ (r : PortState). r.refusing) old.ports p q (arrives link value port) (ap (λ (r : PortState). r.refusing) taken_is)

  pub capacity_so : (q : ℕ) → (port_in arrived.ports q).capacity ≡ (port_in old.ports q).capacity
  capacity_so q =
      kept_at_one (λ (r : PortState). r.capacity) old.ports p q (arrives link value port) (ap (λ (r : PortState). r.capacity) taken_is)

  -- the port counts it, if it counts any
  pub load_more : (q : ℕ) (here : Bool) → (p == q) ≡ here → is_some (port_in old.ports q).capacity ≡ true
      → (port_in arrived.ports q).load ≡ (port_in old.ports q).load + cond here 1 0
  load_more q true is limited =
      let same : p ≡ q = eqb-true p q is in
      subst (λ (n : ℕ). (port_in arrived.ports n).load ≡ (port_in old.ports n).load + 1) same
      (ap (λ (r : PortState). r.load) (get_or-set_same old.ports p (arrives link value port) (fresh_port None) there)
      ∙ ap (λ (r : PortState). r.load) taken_is
      ∙ counted port.capacity port.load (subst (λ (n : ℕ). is_some (port_in old.ports n).capacity ≡ true) (sym same) limited))
    where
      counted : (capacity : Option ℕ) (load : ℕ) → is_some capacity ≡ true → one_more capacity load ≡ load + 1
      counted None load limited = absurd (cc)
      counted (Some limit) load limited = refl
  load_more q false is limited =
      let other = get_or-set_other old.ports p q (arrives link value port) (fresh_port None) (λ e. eqb-false p q is (sym e)) in
      let same = ap (λ (r : PortState). r.load) other in omega (arith, same)

  -- it comes only while the port is open
  pub open_port : has_ended port.refusing ≡ false
  open_port = ((kept.in_order p there).each at.place at.there).coming at.comes

  first : 0 < length old.ports
  first = omega (arith, there)

  cut_more : (made : List Value) → took_at history 0 ≡ made ++ held_by old → took_at with_one 0 ≡ made ++ held_by arrived
  cut_more made cut =
      took_more 0 ∙ ap (λ (vs : List Value). vs ++ only_at p (value ∷ []) 0) cut
      ∙ append_assoc made (held_by old) (only_at p (value ∷ []) 0)
      ∙ ap (λ (vs : List Value). made ++ vs) (sym (held_more 0 first))

  -- the rows of a batch were all whole, if it came there
  whole_more : (here : Bool) → (p == 0) ≡ here → RowsMade old.size (took_at history 0) history.made (held_by old) (has_ended (port_at 0 old).refusing)
      → ((has_ended (port_at 0 arrived).refusing && is_empty (held_by arrived)) || every (is_whole old.size) history.made) ≡ true
  whole_more true is rows =
      let mine : p ≡ 0 = eqb-true p 0 is in
      let open_first : has_ended (port_at 0 old).refusing ≡ false = subst (λ (q : ℕ). has_ended (port_in old.ports q).refusing ≡ false) mine open_port in
      or_right (has_ended (port_at 0 arrived).refusing && is_empty (held_by arrived)) (every (is_whole old.size) history.made)
      (all_so (has_ended (port_at 0 old).refusing) (is_empty (held_by old)) (every (is_whole old.size) history.made) open_first rows.whole)
    where
      all_so : (ended none all : Bool) → ended ≡ false → ((ended && none) || all) ≡ true → all ≡ true
      all_so true none all opened e = absurd (cc)
      all_so false none all opened e = e
  whole_more false is rows =
      let same : held_by arrived ≡ held_by old =
      held_more 0 first ∙ ap (λ (b : Bool). held_by old ++ cond b (value ∷ []) []) is ∙ append-nil (held_by old) in
      subst (λ (vs : List Value). ((has_ended (port_at 0 arrived).refusing && is_empty vs) || every (is_whole old.size) history.made) ≡ true) (sym same)
      (subst (λ (b : Bool). ((b && is_empty (held_by old)) || every (is_whole old.size) history.made) ≡ true)
      (sym (ap has_ended (refuses_so 0))) rows.whole)

  -- each port is in order, with one more message at this one
  pub took_length : (q : ℕ) (here : Bool) → (p == q) ≡ here → length (took_at with_one q) ≡ length (took_at history q) + cond here 1 0
  took_length q true is =
      ap length (took_more q ∙ ap (λ (b : Bool). took_at history q ++ cond b (value ∷ []) []) is)
      ∙ length-append (took_at history q) (value ∷ [])
  took_length q false is =
      ap length (took_more q ∙ ap (λ (b : Bool). took_at history q ++ cond b (value ∷ []) []) is)
      ∙ length-append (took_at history q) []

  ordered : Ordered (λ q. length (took_at with_one q)) arrived.ports
  ordered =
      each_after_one (λ q r. PortLaw any_link (length (took_at with_one q)) r) old.ports p (arrives link value port)
      (λ l.
      subst (λ (n : ℕ). PortLaw any_link n (arrives link value port)) (sym (took_length p true (eq-eqb p p refl)))
      (arrive_keeps (length (took_at history p)) header link value port (shown_wanted header old.ports link wants) (kept.in_order p l)))
      (λ q l apart.
      let same : length (took_at history q) ≡ length (took_at with_one q) =
      (let more = took_length q false (ne_eqb p q (λ e. apart (sym e))) in omega (arith, more)) in
      subst (λ (n : ℕ). PortLaw any_link n (port_in old.ports q)) same (kept.in_order q l))

  -- What takes one message in all

  nothing_there : (capacity : Option ℕ) (waiting weight load : ℕ) → capacity ≡ Some 1 → cond (is_some capacity) (waiting + weight) 0 ≤ load
      → load ≡ 0 → (waiting ≡ 0) × (weight ≡ 0)
  nothing_there None waiting weight load is out empty = absurd (cc)
  nothing_there (Some limit) waiting weight load is out empty = (omega (arith, out, empty), omega (arith, out, empty))

  no_load : (capacity : Option ℕ) (load comes : ℕ) → capacity ≡ Some 1 → IsWithin capacity (load + comes) → 1 ≤ comes → load ≡ 0
  no_load None load comes is within some = absurd (cc)
  no_load (Some limit) load comes is within some = let one : limit ≡ 1 = cc in omega (arith, within, some, one)

  no_values : (values : List Value) → length values ≡ 0 → values ≡ []
  no_values [] none = refl
  no_values (v ∷ values) none = absurd (cc)

  one_came : Fits old → HasOneRoom old → length (took_at with_one 0) ≤ 1
  one_came fits place =
      let count = place.alone in
      let mine : p ≡ 0 = (let l = there in omega (arith, l, count)) in
      let capacity : port.capacity ≡ Some 1 =
      subst (λ (q : ℕ). (port_in old.ports q).capacity ≡ Some 1) (sym mine) place.room in
      let law = kept.in_order p there in
      let comes : 1 ≤ coming port =
      (let counted = count_there is_coming port.ends at.place at.there in
      let is : ◌≡◌ {A = ℕ} (cond (is_coming (stage_at at.place port)) 1 0) 1 = ap (λ (b : Bool). cond {A = ℕ} b 1 0) at.comes in omega (arith, counted, is)) in
      let empty = no_load port.capacity port.load (coming port) capacity law.room comes in
      let weight = weight_out old.exits (copies_weight old.copies) in
      let none = nothing_there port.capacity (length port.waiting) weight port.load capacity
      (out_at weight old.ports p there fits.room) empty in
      let element = no_element old.copies (kept.takes_once place.once) (let zero_weight = none.1 in omega (arith, zero_weight)) in
      let made = kept.none_yet place.once element in
      let held : held_by old ≡ [] = subst (λ (q : ℕ). (port_in old.ports q).waiting ≡ []) mine (no_values port.waiting none.0) in
      let before : took_at history 0 ≡ [] =
      kept.messages.as_they_are (once_hands old.kind place.once) ∙ ap (λ (vs : List Value). vs ++ held_by old) made ∙ held in
      let more = took_length 0 true (eq-eqb p 0 mine) in
      let none_before : length (took_at history 0) ≡ 0 = ap length before in
      omega (arith, more, none_before)
    where
      once_hands : (kind : BlockKind) → is_write_once kind ≡ true → hands_on kind ≡ true
      once_hands kind.WriteOnce e = refl
      once_hands _ e = absurd (cc)

  -- It has come

  came_kept : Fits old → Kept single with_one arrived
  came_kept fits = record {
    messages = record {
      shared = kept.messages.shared;
      as_they_are = λ hands. cut_more history.made (kept.messages.as_they_are hands);
      rows = λ batch. record {
        cut = cut_more (all_items history.made) (kept.messages.rows batch).cut;
        sized = (kept.messages.rows batch).sized;
        whole = whole_more (p == 0) refl (kept.messages.rows batch);
      };
      tuples = λ join.
          subst (λ (count : ℕ). TuplesLaw count (took_at with_one) history.made (held_at arrived.ports))
          (sym (length-set old.ports p (arrives link value port)))
          (tuples_kept.same (length old.ports) (λ q. took_at history q ++ only_at p (value ∷ []) q) (took_at with_one) history.made
          (λ q. held_at old.ports q ++ only_at p (value ∷ []) q) (held_at arrived.ports)
          (tuples_kept.take (length old.ports) (took_at history) history.made (held_at old.ports) (kept.messages.tuples join) p value)
          (λ q l. took_more q) held_more);
    };
    weighs = λ alone.
        kept.weighs alone
        ∙ ap (λ (c : Option ℕ). weighs_left old.kind c old.exits.next old.exits.left) (sym (capacity_so 0));
    in_order = ordered;
    some = kept.some;
    takes_once = kept.takes_once;
    none_yet = kept.none_yet;
    place = λ e. let before = kept.place e in record {
      once = before.once;
      alone = length-set old.ports p (arrives link value port) ∙ before.alone;
      room = capacity_so 0 ∙ before.room;
    };
    one = λ e. one_came fits (kept.place e);
  }

  -- what takes one message in all copies it at once
  at_once : (once : Bool) → copies_at_once arrived ≡ once → Kept single with_one arrived
      → Kept single (record with_one { made = history.made ++ cond once (take 1 (held_by arrived)) [] }) (copies_where once arrived)
  at_once false is came = subst (λ (made : List Value). Kept single (record with_one { made = made }) arrived) (sym (append-nil history.made)) came
  at_once true is came =
      let e1 = and_parts (is_write_once old.kind && length arrived.ports == 1 && not (is_empty (held_by arrived)) && is_spread_free old.copies)
      (ltb (old.copies.id + 1) (2 ^ 59)) is in
      let e2 = and_parts (is_write_once old.kind && length arrived.ports == 1 && not (is_empty (held_by arrived))) (is_spread_free old.copies) e1.0 in
      let e3 = and_parts (is_write_once old.kind && length arrived.ports == 1) (not (is_empty (held_by arrived))) e2.0 in
      let e4 = and_parts (is_write_once old.kind) (length arrived.ports == 1) e3.0 in
      copied_made single with_one arrived came (not-true (is_empty (held_by arrived)) e3.1) (kind_tells is_write_once true is_one_taker false refl old.kind e4.0)
      (unbatched old.kind e4.0) (unjoined old.kind e4.0)
    where
      unbatched : (kind : BlockKind) → is_write_once kind ≡ true → is_batch kind ≡ false
      unbatched kind.WriteOnce e = refl
      unbatched _ e = absurd (cc)

      unjoined : (kind : BlockKind) → is_write_once kind ≡ true → is_join kind ≡ false
      unjoined kind.WriteOnce e = refl
      unjoined _ e = absurd (cc)

  pub taken_kept : Fits old
      → Kept single (record with_one { made = history.made ++ copied_at_once arrived }) (copies_taken arrived)
  taken_kept fits = at_once (copies_at_once arrived) refl (came_kept fits)
