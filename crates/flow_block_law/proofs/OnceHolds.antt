-- Each call leaves a block that takes one message in all without a message that it holds: what it takes it copies at once.
use Rattle.std.proofs.Common.{◌≡◌, ℕ, ◌+◌, ◌-◌, ◌^◌, ◌≤◌, ◌==◌, Bool, true, not, ◌&&◌, ltb, List, [], ◌∷◌, ◌++◌, length, drop, set, Option, Some, None, is_some, Result, refl, ap, sym, ◌∙◌, subst, arith, eq-eqb, lt-ltb, false}
use Rattle.std.proofs.lemmas.Bool.{and_from}
use Rattle.std.proofs.lemmas.List.{length-set, get_or-set_same}
use Rattle.flow_value.specs.declared.value.Value.{Value}
use Rattle.flow_link.specs.Layout.{Layout}
use Rattle.flow_link.specs.LinkOk.{IsWithin}
use Rattle.flow_link.specs.Plan.{block_in, is_write_once, is_one_taker}
use Rattle.flow_link.proofs.KindsTell.{kind_tells}
use Rattle.flow_link.proofs.ListTests.{never_both}
use Rattle.flow_intake.specs.Port.{PortState, fresh_port, coming, is_coming, is_hand, stage_at as port_stage}
use Rattle.flow_intake.specs.Calls.{first_of, wants, turns_down, postpones, refuses, consumes, asks, claims, releases, opens, closes, looks as port_looks, takes_next, port_closes, gives_room}
use Rattle.flow_intake.proofs.CountsOfEnds.{count_there, hand_comes}
use Rattle.flow_outlet.specs.Outlet.{is_empty}
use Rattle.flow_spread.specs.Spread.{is_spread_free, puts}
use Rattle.flow_link.specs.declared.draft.BlockKind.{BlockKind}
use Rattle.flow_link.specs.declared.draft.BlockKind.TheVariants.{WriteOnce}
use Rattle.flow_outlet.specs.Fits.{weight_of}
use Rattle.flow_block_law.specs.Copier.{Copier}
use Rattle.flow_block.specs.Block.{BlockState, port_in, port_at, with_port, held_by, copies_next, copies_at_once, copies_where, has_ports, is_batched_join}
use Rattle.flow_block.specs.Copies.{after_copy, copies_weight}
use Rattle.flow_block.specs.Node.{NodeState, NodeCall, takes_in, hand_at}
use Rattle.flow_block_law.specs.NodeKeeps.{NoneHeldKept, MayCall, InAt, after_call}
use Rattle.flow_block_law.specs.NodeLaw.{NodeLaw}
use Rattle.flow_block.specs.Planned.{room_by, room_of}
use Rattle.flow_block_law.proofs.CopiesLeave.{held_by_copy}
use Rattle.flow_block.proofs.CopiesTaken.{taken_keeps}
use Rattle.flow_block_law.proofs.OnceMakesNone.{none_next}
use Rattle.flow_block_law.proofs.KindsBuilt.{has_one_port}
use Rattle.flow_block.proofs.PortsChange.{kept_at_one, kept_at_all}
use Rattle.flow_block_law.proofs.ShapeHolds.{shape_kept}
use Rattle.flow_block_law.proofs.WrittenOnce.{MayPutFirst, may_put_yet}
use Rattle.flow_block_law.proofs.CopierHolds.{no_exit_at}

-- it has room for one
pub room_once : (kind : BlockKind) (capacity : Option ℕ) → is_write_once kind ≡ true → room_by kind capacity ≡ Some 1
room_once WriteOnce capacity once = refl
room_once _ capacity once = absurd (cc)

-- it holds the one message that it copies, and then none
copied_holds : (block : BlockState) (value : Value) → length block.ports ≡ 1 → held_by block ≡ value ∷ []
    → held_by (copies_next (first_of (held_by block)) block) ≡ []
copied_holds block value alone holds =
    let port = port_at 0 block in
    let change : PortState → PortState = λ port. gives_room (1 - copies_weight (puts value block.copies)) (takes_next port) in
    let goes : (port_in (set block.ports 0 (change port)) 0).waiting ≡ drop 1 (held_by block) =
    ap (λ (q : PortState). q.waiting) (get_or-set_same block.ports 0 (change port) (fresh_port None) (omega (arith, alone))) in
    subst (λ (first : Option Value). held_by (copies_next first block) ≡ [])
    (sym (ap (λ (held : List Value). first_of held) holds))
    (goes ∙ ap (λ (held : List Value). drop 1 held) holds)

module _ {W : Type 0} (layout : Layout W) (meaning : ℕ → Value → Result (List Value) ℕ) (b : ℕ) where
  module _ (node : NodeState) (law : NodeLaw layout meaning b node) (once : is_write_once node.block.kind ≡ true) where
    abbrev block : BlockState
    block = node.block

    alone : length block.ports ≡ 1
    alone = has_one_port layout meaning b block law.shape (kind_tells is_one_taker false has_ports false refl block.kind (kind_tells is_write_once true is_one_taker false refl block.kind once))

    copier : Copier layout b block node.journal
    copier = law.copies.copier (kind_tells is_write_once true is_one_taker false refl block.kind once)

    room_is : room_of (block_in layout.blocks b) ≡ Some 1
    room_is =
        let planned = block_in layout.blocks b in
        room_once planned.kind planned.capacity (ap is_write_once (sym law.shape.kind_is) ∙ once)

    -- a message that comes to it is the first, and finds nothing that is copied
    module _ (p k : ℕ) (at : InAt is_hand p k node) where
      abbrev port : PortState
      port = port_at p block

      comes : is_coming (port_stage k port) ≡ true
      comes = hand_comes (port_stage k port) at.stands

      none_weighs : copies_weight block.copies ≡ 0
      none_weighs =
          let counted = count_there is_coming port.ends k at.place in
          let one : 1 ≤ coming port = rw comes at counted in
          let fits : port.load + coming port ≤ 1 =
          subst (λ (room : Option ℕ). IsWithin room (port.load + coming port)) ((law.shape.ports p at.port).capacity ∙ room_is)
          (law.ports p at.port).room in
          let counts : port.load ≡ length port.waiting + (weight_of block.exits.groups + copies_weight block.copies) =
          (law.load (kind_tells is_one_taker false is_batched_join false refl block.kind (kind_tells is_write_once true is_one_taker false refl block.kind once))).load p at.port (ap is_some room_is) in
          omega (arith, one, fits, counts)

      may_put : MayPutFirst block.copies
      may_put = may_put_yet layout b block node.journal copier once none_weighs

      -- it copies it at once
      module _ (value : Value) where
        abbrev held : BlockState
        held = with_port p (closes k value) block

        few : length held.ports ≡ 1
        few = length-set block.ports p (closes k value port) ∙ alone

        holds : held_by held ≡ value ∷ []
        holds =
            let first : p ≡ 0 = omega (arith, at.port, alone) in
            let there =
            ap (λ (q : PortState). q.waiting) (get_or-set_same block.ports p (closes k value port) (fresh_port None) at.port) in
            ap (λ (q : ℕ). (port_in (set block.ports p (closes k value port)) q).waiting) (sym first) ∙ there
            ∙ ap (λ (q : ℕ). (port_in block.ports q).waiting ++ value ∷ []) first
            ∙ ap (λ (values : List Value). values ++ value ∷ []) (law.none_held once)

        at_once : copies_at_once held ≡ true
        at_once =
            let is_one = length held.ports == 1 in
            let some = not (is_empty (held_by held)) in
            let free = is_spread_free block.copies in
            let ids = ltb (block.copies.id + 1) (2 ^ 59) in
            and_from (is_write_once block.kind && is_one && some && free) ids
            (and_from (is_write_once block.kind && is_one && some) free
            (and_from (is_write_once block.kind && is_one) some
            (and_from (is_write_once block.kind) is_one once (eq-eqb (length held.ports) 1 few))
            (ap (λ (values : List Value). not (is_empty values)) holds)) may_put.free)
            (lt-ltb (block.copies.id + 1) (2 ^ 59) may_put.ids)

        none_left : held_by (copies_where (copies_at_once held) held) ≡ []
        none_left =
            subst (λ (so : Bool). held_by (copies_where so held) ≡ []) (sym at_once) (copied_holds held value few holds)

      taken_in : (hand : Option Value) → held_by (takes_in p k hand node).block ≡ []
      taken_in None =
          taken_keeps (λ new. held_by new ≡ []) block (law.none_held once) (λ copied.
          never_both (is_empty (held_by block)) (ap (λ (values : List Value). is_empty values) (law.none_held once)) copied.waits)
      taken_in (Some value) = none_left value

    -- the port holds what it held
    at_one : (p : ℕ) (port : PortState) → port.waiting ≡ (port_at p block).waiting
        → (port_in (set block.ports p port) 0).waiting ≡ []
    at_one p port same = kept_at_one (λ (q : PortState). q.waiting) block.ports p 0 port same ∙ law.none_held once

    call_keeps : (call : NodeCall) → MayCall layout meaning b call node
        → held_by (after_call layout meaning b call node).block ≡ []
    call_keeps (NodeCall.want p k) may = at_one p (wants k (port_at p block)) refl
    call_keeps (NodeCall.turn_down p k) may = at_one p (turns_down k (port_at p block)) refl
    call_keeps (NodeCall.postpone p k) may = at_one p (postpones k (port_at p block)) refl
    call_keeps (NodeCall.refuse p k) may = at_one p (refuses k (port_at p block)) refl
    call_keeps (NodeCall.consume p k) may = at_one p (consumes k (port_at p block)) refl
    call_keeps (NodeCall.ask p k) may = at_one p (asks k (port_at p block)) refl
    call_keeps (NodeCall.claim p k) may = at_one p (claims k (port_at p block)) refl
    call_keeps (NodeCall.release p k) may = at_one p (releases k (port_at p block)) refl
    call_keeps (NodeCall.open_with p k value) may = at_one p (opens k value (port_at p block)) refl
    call_keeps (NodeCall.close p k) may = taken_in p k may (hand_at p k node)
    call_keeps (NodeCall.give k) may = absurd (no_exit_at layout b block node.journal copier k may.place)
    call_keeps (NodeCall.look_in p k phase) may = at_one p (port_looks k phase (port_at p block)) refl
    call_keeps (NodeCall.copy call) may = held_by_copy (after_copy call block.copies) block ∙ law.none_held once
    call_keeps NodeCall.make may = absurd (none_next block once law.none_held may.waits)
    call_keeps (NodeCall.complete p) may = at_one p (port_closes (port_at p block)) refl
    call_keeps (NodeCall.fault number) may =
        kept_at_all (λ (q : PortState). q.waiting) port_closes block.ports 0 (λ q. refl) ∙ law.none_held once
    call_keeps NodeCall.finish may =
        kept_at_all (λ (q : PortState). q.waiting) port_closes block.ports 0 (λ q. refl) ∙ law.none_held once
    call_keeps NodeCall.begin may = law.none_held once
    call_keeps (NodeCall.offer k) may = law.none_held once
    call_keeps (NodeCall.hold k) may = law.none_held once
    call_keeps (NodeCall.deny k) may = law.none_held once
    call_keeps (NodeCall.withdraw k) may = law.none_held once
    call_keeps (NodeCall.end_link k how) may = law.none_held once
    call_keeps (NodeCall.look_out k phase) may = law.none_held once

pub none_held_kept : (W : Type 0) → NoneHeldKept W
none_held_kept W layout meaning b node call law may once =
    let after = shape_kept W layout meaning b node call law may in
    let before = ap is_write_once (law.shape.kind_is ∙ sym after.kind_is) ∙ once in
    call_keeps layout meaning b node law before call may
