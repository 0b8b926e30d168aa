-- What a block's end of a link does where a message goes over the link in one call, by whether the block shares its messages out or
-- copies them.
use Rattle.std.proofs.Common.{◌≡◌, ℕ, ◌<◌, Bool, true, false, ◌||◌, cond, length, List, [], ◌∷◌, Option, Some, None, Result}
use Rattle.std.proofs.Common.{is_some, ltb-true, refl, sym, ap, ◌∙◌, subst}
use Rattle.std.proofs.lemmas.Bool.{and_parts}
use Rattle.std.proofs.lemmas.List.{get_or-set_same, length-set}
use Rattle.flow_value.specs.declared.value.Value.{Value}
use Rattle.flow_link.specs.declared.phase.Move.{Move}
use Rattle.flow_link.specs.declared.phase.Move.TheVariants.{Offer, Give}
use Rattle.flow_link.specs.declared.phase.Phase.{Phase}
use Rattle.flow_link.specs.declared.phase.Phase.TheVariants.{Idle, Wanted, Opened}
use Rattle.flow_link.specs.declared.stage.SourceStage.TheVariants.{Out}
use Rattle.flow_link.specs.LinkOk.{HasRoom}
use Rattle.flow_link.specs.Plan.{is_one_taker}
use Rattle.flow_outlet.specs.ByLink.{has_room}
use Rattle.flow_outlet.specs.Outlet.{OutletState, first_of, head_of, is_empty, end_at, may_offer, prepares, offers}
use Rattle.flow_spread.specs.declared.end.CopyEnd.{CopyEnd}
use Rattle.flow_spread.specs.End.{no_end as no_copy_end, is_open, moved}
use Rattle.flow_spread.specs.Spread.{SpreadState, end_at as copy_end_at, link_at, prepares as prepares_copy, offers as offers_copy}
use Rattle.flow_block.specs.Copies.{CopyCall}
use Rattle.flow_block.specs.Node.{NodeState, NodeCall, given_next, gives_from, with_exits, copies_by}
use Rattle.flow_block.specs.Passes.{looks_out, gives_head, sends_on, sends_copy}
use Rattle.flow_core.specs.Events.{out_call, copy_call, source_call, source_look}
use Rattle.flow_moves.specs.Calls.{called}
use Rattle.flow_moves.specs.Passed.{sends_by, node_sends, prepared_by, node_prepared, ready_sends_by, node_sends_ready}
use Rattle.flow_moves.specs.Passed.{ready_offers_by, node_offers, CopyMayGo, MayGoBy, BlockMaySend}
use Rattle.flow_moves.specs.Passes.{id_by, id_in, carries_by, carries}
use Rattle.flow_moves.specs.Ready.{ReadyBy, ExitIsReady}

-- A head that may be offered is there, and a link that may carry one more has room

head_from : (left : List Value) (out missing taken : Bool) (place k : ℕ)
    → cond (is_empty left || out || missing || taken) None (Some place) ≡ Some k → is_some (first_of left) ≡ true
head_from [] out missing taken place k may = absurd (cc)
head_from (value ∷ left) out missing taken place k may = refl

head_there : (o : OutletState) (k : ℕ) → may_offer o ≡ Some k → is_some (head_of o) ≡ true
head_there o k may = head_from o.left _ _ _ _ k may

room_there : (max : Option ℕ) (given : ℕ) → has_room max given ≡ true → HasRoom max given
room_there None given e = tt
room_there (Some max) given e = ltb-true given max e

-- The element, once it is offered over the link at a place
module _ (copies : SpreadState) (k : ℕ) (here : k < length copies.ends) where
  abbrev made : CopyEnd
  made = record (copy_end_at copies k) { share = copies.element }

  abbrev ready : SpreadState
  ready = prepares_copy k copies

  abbrev out : CopyEnd
  out = moved (record made.link { stage = Out copies.id }) made.owes made

  made_there : k < length ready.ends
  made_there = rw (length-set copies.ends k made) here

  made_is : copy_end_at ready k ≡ made
  made_is = get_or-set_same copies.ends k made no_copy_end here

  out_is : copy_end_at (offers_copy k ready) k ≡ out
  out_is =
      get_or-set_same ready.ends k _ no_copy_end made_there
      ∙ ap (λ (end : CopyEnd). moved (record end.link { stage = Out copies.id }) end.owes end) made_is

  out_there : k < length (offers_copy k ready).ends
  out_there = rw (length-set ready.ends k _) made_there

  copy_may_go : is_some copies.element ≡ true
      → has_room (link_at copies k).rule.max (link_at copies k).given ≡ true → CopyMayGo k (offers_copy k ready)
  copy_may_go there room = record {
    there = out_there;
    offered = ap (λ (end : CopyEnd). end.link.stage) out_is;
    share = ap (λ (end : CopyEnd). is_some end.share) out_is ∙ there;
    room =
        subst (λ (end : CopyEnd). HasRoom end.link.rule.max end.link.given) (sym out_is)
        (room_there (link_at copies k).rule.max (link_at copies k).given room);
  }

-- The end makes ready, and goes on
module _ (k : ℕ) (node : NodeState) where
  kind_by : (b : Bool) → is_one_taker (prepared_by b k node).block.kind ≡ is_one_taker node.block.kind
  kind_by true = refl
  kind_by false = refl

  id_ready_by : (b : Bool) → is_one_taker node.block.kind ≡ b → id_in (prepared_by b k node).block ≡ id_in node.block
  id_ready_by true e =
      ap (λ (x : Bool). id_by x (prepared_by true k node).block) e ∙ sym (ap (λ (x : Bool). id_by x node.block) e)
  id_ready_by false e =
      ap (λ (x : Bool). id_by x (prepared_by false k node).block) e ∙ sym (ap (λ (x : Bool). id_by x node.block) e)

  may_go_by : (b : Bool) (i : ℕ) → ReadyBy b k (Offer i) node → carries_by b k node.block ≡ true
      → MayGoBy b k (prepared_by b k node).block
  may_go_by true i may room =
      let o = node.block.exits in
      record {
        may = may;
        parcel = head_there o k may;
        room = room_there (end_at o k).rule.max (end_at o k).given room;
      }
  may_go_by false i may room =
      let copies = node.block.copies in
      let open_there = and_parts (is_some copies.element) (is_open copies.id (copy_end_at copies k)) may.stands in
      copy_may_go copies k may.there open_there.0 room

  pub ready_id : id_in (node_prepared k node).block ≡ id_in node.block
  ready_id = id_ready_by (is_one_taker node.block.kind) refl

  pub ready_may_go : (i : ℕ) → ExitIsReady k (Offer i) node → carries k node.block ≡ true
      → BlockMaySend (node_prepared k node).block k
  ready_may_go i may room =
      subst (λ (x : Bool). MayGoBy x k (node_prepared k node).block) (sym (kind_by (is_one_taker node.block.kind)))
      (may_go_by (is_one_taker node.block.kind) i may room)

  module _ (i : ℕ) where
    sends_ready_by : (b : Bool) → is_one_taker node.block.kind ≡ b
        → node_sends_ready k i (prepared_by b k node) ≡ node_sends k i node
    sends_ready_by true e =
        ap (λ (x : Bool). ready_sends_by x k i (prepared_by true k node)) e ∙ sym (ap (λ (x : Bool). sends_by x k i node) e)
    sends_ready_by false e =
        ap (λ (x : Bool). ready_sends_by x k i (prepared_by false k node)) e ∙ sym (ap (λ (x : Bool). sends_by x k i node) e)

    -- what it sends is what it sends without that
    pub ready_sends : node_sends_ready k i (node_prepared k node) ≡ node_sends k i node
    ready_sends = sends_ready_by (is_one_taker node.block.kind) refl

    module _ (result : Value → Result (List Value) ℕ) where
      abbrev offered_by_kind : Bool → NodeState
      offered_by_kind x = called result (cond x (out_call k (Offer i)) (copy_call k (Offer i))) node

      offers_ready_by : (b : Bool) → is_one_taker node.block.kind ≡ b
          → node_offers k (prepared_by b k node) ≡ called result (source_call node.block.kind k (Offer i)) node
      offers_ready_by true e =
          ap (λ (x : Bool). ready_offers_by x k (prepared_by true k node)) e ∙ sym (ap offered_by_kind e)
      offers_ready_by false e =
          ap (λ (x : Bool). ready_offers_by x k (prepared_by false k node)) e ∙ sym (ap offered_by_kind e)

      pub ready_offers : node_offers k (node_prepared k node) ≡ called result (source_call node.block.kind k (Offer i)) node
      ready_offers = offers_ready_by (is_one_taker node.block.kind) refl

-- The source's moves and looks
module _ (result : Value → Result (List Value) ℕ) (k i : ℕ) (node : NodeState) where
  abbrev moves_by : Move → NodeState → NodeState
  moves_by next a = called result (source_call a.block.kind k next) a

  abbrev looks_by : Phase → NodeState → NodeState
  looks_by phase a = called result (Some (source_look a.block.kind k phase)) a

  abbrev offered_then_wanted : NodeState
  offered_then_wanted = looks_by (Wanted i) (moves_by (Offer i) node)

  abbrev all_of_them : NodeState
  all_of_them = looks_by Idle (looks_by (Opened i) (moves_by Give offered_then_wanted))

  -- where it shares its messages out
  module _ (shares : is_one_taker node.block.kind ≡ true) where
    shared_moves : (next : Move) (a : NodeState) → is_one_taker a.block.kind ≡ true
        → moves_by next a ≡ called result (out_call k next) a
    shared_moves next a so = ap (λ (sharing : Bool). called result (cond sharing (out_call k next) (copy_call k next)) a) so

    shared_looks : (phase : Phase) (a : NodeState) → is_one_taker a.block.kind ≡ true → looks_by phase a ≡ looks_out k phase a
    shared_looks phase a so =
        ap (λ (sharing : Bool). called result (Some (cond sharing (NodeCall.look_out k phase) (NodeCall.copy (CopyCall.look k phase)))) a) so

    gives_kind : (head : Option Value) (a : NodeState) → (gives_from k head a).block.kind ≡ a.block.kind
    gives_kind None a = refl
    gives_kind (Some value) a = refl

    -- after the offer, and the look that finds the message wanted
    abbrev head_out : NodeState
    head_out = looks_out k (Wanted i) (with_exits (offers k (prepares node.block.exits)) node)

    head_wanted : offered_then_wanted ≡ head_out
    head_wanted =
        ap (looks_by (Wanted i)) (shared_moves (Offer i) node shares)
        ∙ shared_looks (Wanted i) (with_exits (offers k (prepares node.block.exits)) node) shares

    head_sent : all_of_them ≡ sends_on k i node
    head_sent =
        let given = gives_head k head_out in
        let so : is_one_taker given.block.kind ≡ true = ap is_one_taker (gives_kind (head_of head_out.block.exits) head_out) ∙ shares in
        ap (λ (a : NodeState). looks_by Idle (looks_by (Opened i) (moves_by Give a))) head_wanted
        ∙ ap (λ (a : NodeState). looks_by Idle (looks_by (Opened i) a)) (shared_moves Give head_out shares)
        ∙ ap (looks_by Idle) (shared_looks (Opened i) given so)
        ∙ shared_looks Idle (looks_out k (Opened i) given) so

  -- where it copies them
  module _ (copying : is_one_taker node.block.kind ≡ false) where
    copied_moves : (next : Move) (a : NodeState) → is_one_taker a.block.kind ≡ false
        → moves_by next a ≡ called result (copy_call k next) a
    copied_moves next a so = ap (λ (sharing : Bool). called result (cond sharing (out_call k next) (copy_call k next)) a) so

    copied_looks : (phase : Phase) (a : NodeState) → is_one_taker a.block.kind ≡ false
        → looks_by phase a ≡ copies_by (CopyCall.look k phase) a
    copied_looks phase a so =
        ap (λ (sharing : Bool). called result (Some (cond sharing (NodeCall.look_out k phase) (NodeCall.copy (CopyCall.look k phase)))) a) so

    abbrev copy_out : NodeState
    copy_out = copies_by (CopyCall.look k (Wanted i)) (copies_by (CopyCall.offer k) node)

    copy_wanted : offered_then_wanted ≡ copy_out
    copy_wanted =
        ap (looks_by (Wanted i)) (copied_moves (Offer i) node copying)
        ∙ copied_looks (Wanted i) (copies_by (CopyCall.offer k) node) copying

    copy_sent : all_of_them ≡ sends_copy k i (copies_by (CopyCall.offer k) node)
    copy_sent =
        let given = copies_by (CopyCall.give k) copy_out in
        ap (λ (a : NodeState). looks_by Idle (looks_by (Opened i) (moves_by Give a))) copy_wanted
        ∙ ap (λ (a : NodeState). looks_by Idle (looks_by (Opened i) a)) (copied_moves Give copy_out copying)
        ∙ ap (looks_by Idle) (copied_looks (Opened i) given copying)
        ∙ copied_looks Idle (copies_by (CopyCall.look k (Opened i)) given) copying

  wanted_by : (b : Bool) → is_one_taker node.block.kind ≡ b → given_next offered_then_wanted ≡ given_next node
  wanted_by true e = ap given_next (head_wanted e)
  wanted_by false e = ap given_next (copy_wanted e)

  sent_by_kind : (b : Bool) → is_one_taker node.block.kind ≡ b → all_of_them ≡ node_sends k i node
  sent_by_kind true e = head_sent e ∙ sym (ap (λ (x : Bool). sends_by x k i node) e)
  sent_by_kind false e = copy_sent e ∙ sym (ap (λ (x : Bool). sends_by x k i node) e)

  -- what it would give stays until it gives it
  pub given_wanted : given_next offered_then_wanted ≡ given_next node
  given_wanted = wanted_by (is_one_taker node.block.kind) refl

  -- all of them come to this
  pub sends_is : all_of_them ≡ node_sends k i node
  sends_is = sent_by_kind (is_one_taker node.block.kind) refl
