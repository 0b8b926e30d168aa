-- What each call makes of the number of messages for which memory is set aside, and that a batched join has memory to note them.
use Rattle.std.proofs.Common.{◌≡◌, ℕ, zero, suc, ◌+◌, ◌-◌, ◌<◌, ◌≤◌, Bool, true, false, cond, List, [], ◌∷◌, ◌++◌, length, set, get_or, take, drop, Option, Some, None, unwrap_or, Result, Ok, Err, IfOk, OnOk, OnErr, inl, inr, pos, refl, ap, sym, subst, ◌∙◌, arith}
use Rattle.std.proofs.lemmas.Bool.{and_parts, cases_lt}
use Rattle.std.proofs.lemmas.List.{length-append, length-map}
use Rattle.flow_value.specs.declared.value.Value.{Value}
use Rattle.flow_value.specs.declared.value.Value.TheVariants.{Int}
use Rattle.flow_value.specs.declared.message.MessageStatus.{MessageStatus}
use Rattle.flow_value.specs.declared.message.MessageStatus.TheVariants as status
use Rattle.flow_link.specs.declared.draft.BlockKind.TheVariants.{BatchedJoin}
use Rattle.flow_link.specs.declared.stage.Refusal.{Refusal}
use Rattle.flow_link.specs.declared.stage.TargetStage.{TargetStage}
use Rattle.flow_link.specs.declared.stage.TargetStage.TheVariants as target
use Rattle.flow_link.specs.declared.traits.WishAnswer.{WishAnswer}
use Rattle.flow_link.specs.declared.traits.WishAnswer.TheVariants as answer
use Rattle.flow_link.specs.Plan.{is_write_once}
use Rattle.flow_link.specs.TargetCalls.{TargetCall, Wants, stage_noted}
use Rattle.flow_intake.specs.Port.{EndState, PortState, fresh_end, end_in, link_in, stage_at, count_at, is_owed}
use Rattle.flow_intake.specs.Calls.{next_place, put_stage, refused_by, message_of, is_postponed}
use Rattle.flow_intake.specs.Queue.{without}
use Rattle.flow_intake.specs.ByLink.{place_of, with_link_at, answered, closes_link, arrives, arrives_at, drops_at, next_wish, consumes_at, consumes_next}
use Rattle.flow_group.specs.Group.{ArrivalsState, takes_from, drops_group}
use Rattle.flow_block.specs.Block.{BlockState, port_in, port_at, copies_taken}
use Rattle.flow_block.specs.Groups.{makes_group}
use Rattle.flow_block.specs.JournalFits.{port_due, ports_due}
use Rattle.flow_block.specs.Traits.{Takes as BlockTakes, shown_over, port_shown, port_into, target_over, with_port_of, names_itself, leads_to, wishing_port, wishes, holds_at, notes}
use Rattle.flow_block.proofs.MarksFit.{due_set, due_moved}
use Rattle.flow_block.proofs.TargetStands.{found, at_place}
use Rattle.flow_block.proofs.TargetMoves.{wanted_there, shown_wanted, wishing_is}
use Rattle.flow_kinds.specs.BatchedJoin.{waits, Tells, JoinFits}
use Rattle.flow_block.specs.BlockFits.{fresh_block}
use Rattle.flow_block.specs.Peeks.{holds_nothing}
use Rattle.flow_outlet.specs.declared.ends.LinkRule.{LinkRule}
use Rattle.flow_kinds.proofs.BlockStays.{BlockStays, bare}
use Rattle.flow_kinds.proofs.CopiesNone.{copies_none}
use Rattle.flow_kinds.proofs.PortRests.{rest_of, answered_rest, consumed_rest, noted_rest}
use Rattle.flow_kinds.proofs.OrderTells.{tells_fresh, waits_at, waits_set, waits_kept, tells_more, tells_group}

-- At one port

due_there : (k more fewer : ℕ) (stage : TargetStage) (ready : Bool) (port : PortState) → k < length port.ends
    → cond (is_owed stage) 1 0 + cond ready 1 0 + fewer ≤ cond (is_owed (stage_at k port)) 1 0 + cond port.ready 1 0 + more
    → count_at is_owed (put_stage k stage port.ends) + cond ready 1 0 + fewer ≤ port_due port + more
due_there k more fewer stage ready port l one = due_moved k more fewer (record (end_in k port.ends) { stage = stage }) ready port l one

count_more : (ends : List EndState) (link : ℕ) → count_at is_owed (ends ++ fresh_end link ∷ []) ≡ count_at is_owed ends
count_more [] link = refl
count_more (end ∷ ends) link = ap (λ (n : ℕ). cond (is_owed end.stage) 1 0 + n) (count_more ends link)

-- an end comes to stand so, which may be a new one
due_new : (link : ℕ) (stage : TargetStage) (port : PortState) (place : Option ℕ) → place_of link port.ends ≡ place
    → count_at is_owed (put_stage (unwrap_or place (length port.ends)) stage (with_link_at place link port).ends) ≤ port_due port + 1
due_new link stage port (Some k) at =
    omega (arith, due_there k 1 0 stage false port (found link port.ends k at).0 (at_most stage))
  where
    at_most : (stage : TargetStage) → cond (is_owed stage) 1 0 + 0 + 0 ≤ cond (is_owed (stage_at k port)) 1 0 + cond port.ready 1 0 + 1
    at_most stage = one (is_owed stage)
      where
        one : (b : Bool) → cond b 1 0 + 0 + 0 ≤ cond (is_owed (stage_at k port)) 1 0 + cond port.ready 1 0 + 1
        one true = omega arith
        one false = omega arith
due_new link stage port None at =
    let more = record port { ends = port.ends ++ fresh_end link ∷ [] } in
    let near : length port.ends < length more.ends = omega (arith, length-append port.ends (fresh_end link ∷ [])) in
    omega (arith, count_more port.ends link, due_there (length port.ends) 1 0 stage false more near (one (is_owed stage)))
  where
    one : (b : Bool) → cond b 1 0 + 0 + 0 ≤ cond (is_owed (stage_at (length port.ends) (record port { ends = port.ends ++ fresh_end link ∷ [] }))) 1 0 + cond port.ready 1 0 + 1
    one true = omega arith
    one false = omega arith

refused_owes : (why : Option Refusal) → is_owed (refused_by why) ≡ false
refused_owes None = refl
refused_owes (Some _) = refl

closes_due : (link : ℕ) (port : PortState) (place : Option ℕ) → place_of link port.ends ≡ place → port_due (closes_link place port) ≤ port_due port
closes_due link port None at = omega arith
closes_due link port (Some k) at =
    omega (arith, due_there k 0 0 (refused_by port.refusing) port.ready port (found link port.ends k at).0 (rw (refused_owes port.refusing) (omega arith)))

answer_due : (link header : ℕ) (how : MessageStatus) (port : PortState) → port_due (answered link header how port) ≤ port_due port + 1
answer_due link header status.Accepted port = omega (arith, due_new link (target.Accepted header) port (place_of link port.ends) refl)
answer_due link header status.Postponed port = omega (arith, due_new link (target.Postponed header) port (place_of link port.ends) refl)
answer_due link header status.DecliningPermanently port = omega (arith, closes_due link port (place_of link port.ends) refl)
answer_due link header status.Declined port = omega arith
answer_due link header status.NotAvailable port = omega arith

wanted_owes : (header : ℕ) (stage : TargetStage) → Wants header stage → is_owed stage ≡ true
wanted_owes header (target.Accepted _) wants = refl
wanted_owes header (target.Consuming _) wants = refl
wanted_owes header (target.Claiming _) wants = refl
wanted_owes header target.Free wants = absurd wants
wanted_owes header (target.Offered _) wants = absurd wants
wanted_owes header (target.Posted _) wants = absurd wants
wanted_owes header (target.Postponed _) wants = absurd wants
wanted_owes header (target.Asking _) wants = absurd wants
wanted_owes header (target.Holding _) wants = absurd wants
wanted_owes header (target.Arrived _) wants = absurd wants
wanted_owes header (target.Hand _) wants = absurd wants
wanted_owes header (target.Refused _) wants = absurd wants
wanted_owes header (target.Ended _) wants = absurd wants

refused_wants : (header : ℕ) (why : Option Refusal) → Wants header (refused_by why) → ⊥
refused_wants header None wants = wants
refused_wants header (Some _) wants = wants

arrive_due : (link header : ℕ) (value : Value) (port : PortState) (place : Option ℕ) → place_of link port.ends ≡ place
    → Wants header (port_shown place port) → port_due (arrives_at place value port) + 1 ≤ port_due port
arrive_due link header value port None at wants = absurd (refused_wants header port.refusing wants)
arrive_due link header value port (Some k) at wants =
    omega (
      arith,
      due_there k 0 1 target.Free port.ready port (found link port.ends k at).0
          (rw (wanted_owes header (stage_at k port) wants) (omega arith)),
    )

postponed_owes : (stage : TargetStage) → is_postponed stage ≡ true → is_owed stage ≡ true
postponed_owes (target.Postponed _) e = refl
postponed_owes _ e = absurd (cc)

consume_where : (port : PortState) (k id : ℕ) (postponed : Bool) → is_postponed (stage_at k port) ≡ postponed → k < length port.ends
    → port_due (cond postponed (record port { ends = put_stage k (target.Consuming id) port.ends; queue = without k port.queue }) port) ≤ port_due port
consume_where port k id true is l =
    omega (arith, due_there k 0 0 (target.Consuming id) port.ready port l (rw (postponed_owes (stage_at k port) is) (omega arith)))
consume_where port k id false is l = omega arith

consume_due : (port : PortState) (place : Option ℕ) → names_itself place port ≡ true → port_due (consumes_at place port) ≤ port_due port
consume_due port None own = absurd (cc)
consume_due port (Some k) own =
    let at = at_place k (place_of (link_in k port.ends) port.ends) own in
    consume_where port k (message_of (stage_at k port)) (is_postponed (stage_at k port)) refl (found (link_in k port.ends) port.ends k at).0

held_owes : (stage : TargetStage) → is_owed (stage_noted answer.Held stage) ≡ is_owed stage
held_owes (target.Asking _) = refl
held_owes stage = refl

hold_due : (link : ℕ) (port : PortState) (place : Option ℕ) → place_of link port.ends ≡ place → port_due (holds_at place port) ≤ port_due port
hold_due link port None at = omega arith
hold_due link port (Some k) at =
    omega (
      arith,
      due_there k 0 0 (stage_noted answer.Held (stage_at k port)) port.ready port (found link port.ends k at).0
          (rw (held_owes (stage_at k port)) (omega arith)),
    )

drop_due : (link : ℕ) (port : PortState) (place : Option ℕ) → place_of link port.ends ≡ place → port_due (drops_at place port) ≤ port_due port
drop_due link port None at = omega arith
drop_due link port (Some k) at = omega (arith, due_there k 0 0 target.Free port.ready port (found link port.ends k at).0 (omega arith))

note_due : (told : WishAnswer) (link : ℕ) (port : PortState) → port_due (notes told link port) ≤ port_due port
note_due answer.Coming link port = omega arith
note_due answer.Held link port = hold_due link port (place_of link port.ends) refl
note_due answer.NotAvailable link port = drop_due link port (place_of link port.ends) refl
note_due answer.Withdrawn link port = drop_due link port (place_of link port.ends) refl

-- What waits at it stays

waits_so : (old new : PortState) → rest_of new ≡ rest_of old → new.waiting ≡ old.waiting
waits_so old new same = ap (λ (port : PortState). port.waiting) same

arrive_waits : (link header : ℕ) (value : Value) (port : PortState) (place : Option ℕ) → place_of link port.ends ≡ place
    → Wants header (port_shown place port) → length (arrives_at place value port).waiting ≡ length port.waiting + 1
arrive_waits link header value port None at wants = absurd (refused_wants header port.refusing wants)
arrive_waits link header value port (Some k) at wants = omega (arith, length-append port.waiting (value ∷ []))

-- At all ports

set_due : (ports : List PortState) (p more fewer : ℕ) (new : PortState) → port_due new + fewer ≤ port_due (port_in ports p) + more
    → p < length ports → ports_due (set ports p new) + fewer ≤ ports_due ports + more
set_due ports p more fewer new one l = omega (arith, one, due_set ports p new l)

beyond : (ports : List PortState) (p : ℕ) (new : PortState) → length ports ≤ p → set ports p new ≡ ports
beyond [] p new l = refl
beyond (port ∷ ports) zero new l = absurd (omega (arith, l))
beyond (port ∷ ports) (suc p) new l = ap (λ (rest : List PortState). port ∷ rest) (beyond ports p new (omega (arith, l)))

-- a change that sets aside memory for so many messages more at most
change_due : (ports : List PortState) (p more : ℕ) (new : PortState) → port_due new ≤ port_due (port_in ports p) + more
    → ports_due (set ports p new) ≤ ports_due ports + more
change_due ports p more new one = elim (cases_lt p (length ports)) [
  | inl near ↦ omega (arith, set_due ports p more 0 new (omega (arith, one)) near)
  | inr far ↦ rw (beyond ports p new far) (omega arith)
]

first_due : (order : List ℕ) (p : ℕ) (ports : List PortState) → ports_due (takes_from p order ports) ≡ ports_due ports
first_due order p [] = refl
first_due order p (port ∷ ports) = ap (λ (n : ℕ). port_due port + n) (first_due order (suc p) ports)

-- where ports are the same but for their room and their ends, as many messages wait and may come
same_waits : (later ports : List PortState) → length later ≡ length ports → ((q : ℕ) → bare (port_in later q) ≡ bare (port_in ports q))
    → waits later ≡ waits ports
same_waits [] [] many same = refl
same_waits [] (port ∷ ports) many same = absurd (cc)
same_waits (now ∷ later) [] many same = absurd (cc)
same_waits (now ∷ later) (port ∷ ports) many same =
    ap (λ (here : PortState). length here.waiting ∷ waits later) (same 0)
    ∙ ap (λ (rest : List ℕ). length port.waiting ∷ rest) (same_waits later ports (omega (arith, many)) (λ q. same (suc q)))

same_due : (later ports : List PortState) → length later ≡ length ports → ((q : ℕ) → bare (port_in later q) ≡ bare (port_in ports q))
    → ports_due later ≡ ports_due ports
same_due [] [] many same = refl
same_due [] (port ∷ ports) many same = absurd (cc)
same_due (now ∷ later) [] many same = absurd (cc)
same_due (now ∷ later) (port ∷ ports) many same =
    let here : port_due now ≡ port_due port = ap port_due (same 0) in
    let rest = same_due later ports (omega (arith, many)) (λ q. same (suc q)) in
    omega (arith, here, rest)

-- Nothing has come in, and nothing is under way

pub fresh_fits : (size : ℕ) (ports : List PortState) (rules : List LinkRule) → holds_nothing ports ≡ true → ports_due ports ≡ 0
    → JoinFits (fresh_block BatchedJoin 1 size ports rules) (record { ports = []; room = 0 })
fresh_fits size ports rules none due = record { kind_is = refl; tells = tells_fresh ports none; room = omega (arith, due) }

-- The join fits still

module _ (old new : BlockState) (order : ArrivalsState) (fits : JoinFits old order) where
  abbrev Fits : Type 0
  Fits = JoinFits new order

  -- the same waits at each port, and no more may come
  changed : (block : BlockState) → new ≡ block → block.kind ≡ old.kind → waits block.ports ≡ waits old.ports
      → ports_due block.ports ≤ ports_due old.ports → Fits
  changed block is kind same_waits due = record {
    kind_is = ap (λ (b : BlockState). b.kind) is ∙ kind ∙ fits.kind_is;
    tells = subst (λ (ns : List ℕ). Tells order.ports ns) (sym (ap (λ (b : BlockState). waits b.ports) is ∙ same_waits)) fits.tells;
    room = let same = ap (λ (b : BlockState). ports_due b.ports) is in let room = fits.room in omega (arith, same, due, room);
  }

  -- a call that is about no link into it, and makes nothing
  pub stays_fit : BlockStays old new → Fits
  stays_fit stays = record {
    kind_is = stays.kind ∙ fits.kind_is;
    tells = subst (λ (ns : List ℕ). Tells order.ports ns) (sym (same_waits new.ports old.ports stays.ports.as_many stays.ports.each)) fits.tells;
    room = let same = same_due new.ports old.ports stays.ports.as_many stays.ports.each in let room = fits.room in omega (arith, same, room);
  }

  wish_where : (place : Option ℕ) → wishing_port old.ports ≡ place → new ≡ wishes place old → Fits
  wish_where None at is = changed old is refl refl (omega arith)
  wish_where (Some p) at is =
      let wishing = wishing_is old.ports p at in
      let port = port_at p old in
      let own = (and_parts (names_itself (next_place port) port) (leads_to p (next_wish port) old.ports) wishing.wishes).0 in
      changed (wishes (Some p) old) is refl (waits_kept old.ports p (consumes_next port) (waits_so port (consumes_next port) (consumed_rest port (next_place port))))
      (let due = change_due old.ports p 0 (consumes_next port) (omega (arith, consume_due port (next_place port) own)) in omega (arith, due))

  pub wish_fits : new ≡ wishes (wishing_port old.ports) old → Fits
  wish_fits is = wish_where (wishing_port old.ports) refl is

  pub note_fits : (link : ℕ) (told : WishAnswer) → new ≡ with_port_of link (notes told link) old → Fits
  note_fits link told is =
      let p = port_into link old.ports in
      changed (with_port_of link (notes told link) old) is refl
      (waits_kept old.ports p (notes told link (port_at p old)) (waits_so (port_at p old) (notes told link (port_at p old)) (noted_rest told link (port_at p old))))
      (let due = change_due old.ports p 0 (notes told link (port_at p old)) (omega (arith, note_due told link (port_at p old))) in omega (arith, due))

-- a group is made, or is not for want of ids or memory
pub group_fits : {E : Type 0} (old new : BlockState) (order after : ArrivalsState) (size : ℕ) (result : Result Unit E)
    → JoinFits old order → OnOk result (new ≡ makes_group size 0 order.ports old) → OnOk result (after ≡ drops_group size order)
    → OnErr result (new ≡ old) → OnErr result (after ≡ order) → JoinFits new after
group_fits old new order after size (Ok _) fits done dropped kept order_kept = record {
  kind_is = ap (λ (b : BlockState). b.kind) done ∙ fits.kind_is;
  tells = subst (λ (o : ArrivalsState). Tells o.ports (waits new.ports)) (sym dropped)
      (subst (λ (b : BlockState). Tells (drop size order.ports) (waits b.ports)) (sym done) (tells_group size order.ports old.ports fits.tells));
  room =
      let ports = ap (λ (b : BlockState). ports_due b.ports) done in
      let due = first_due (take size order.ports) 0 old.ports in
      let same = ap (λ (o : ArrivalsState). o.room) dropped in
      let room = fits.room in
      omega (arith, ports, due, same, room);
}
group_fits old new order after size (Err _) fits done dropped kept order_kept =
    subst (λ (o : ArrivalsState). JoinFits new o) (sym order_kept) (subst (λ (b : BlockState). JoinFits b order) (sym kept) fits)

-- where there is room for one more, an offer may be answered
pub offered_fits : {E : Type 0} (old new : BlockState) (before order : ArrivalsState) (link header : ℕ) (may_postpone : Bool)
    (result : Result MessageStatus E) → JoinFits old before → order.ports ≡ before.ports → ports_due old.ports + 1 ≤ order.room
    → IfOk result (λ how. BlockTakes old (TargetCall.offered link header may_postpone how) new) → OnErr result (new ≡ old) → JoinFits new order
offered_fits old new before order link header may_postpone (Ok how) fits same room takes kept =
    let p = port_into link old.ports in
    let port = answered link header how (port_at p old) in
    let due = change_due old.ports p 1 port (answer_due link header how (port_at p old)) in
    let waiting = ap (λ (b : BlockState). waits b.ports) takes.1 ∙ waits_kept old.ports p port (waits_so (port_at p old) port (answered_rest link header how (port_at p old))) in
    record {
      kind_is = ap (λ (b : BlockState). b.kind) takes.1 ∙ fits.kind_is;
      tells = subst (λ (ns : List ℕ). Tells order.ports ns) (sym waiting) (subst (λ (ps : List ℕ). Tells ps (waits old.ports)) (sym same) fits.tells);
      room = let now = ap (λ (b : BlockState). ports_due b.ports) takes.1 in omega (arith, now, due, room);
    }
offered_fits old new before order link header may_postpone (Err _) fits same room takes kept = record {
  kind_is = ap (λ (b : BlockState). b.kind) kept ∙ fits.kind_is;
  tells = subst (λ (b : BlockState). Tells order.ports (waits b.ports)) (sym kept) (subst (λ (ps : List ℕ). Tells ps (waits old.ports)) (sym same) fits.tells);
  room = let now = ap (λ (b : BlockState). ports_due b.ports) kept in omega (arith, now, room);
}

-- a message comes

module _ (old : BlockState) (order : ArrivalsState) (fits : JoinFits old order) (link header : ℕ) (wants : Wants header (target_over old.ports link)) where
  abbrev into : ℕ
  into = port_into link old.ports

  there : into < length old.ports
  there = wanted_there header old.ports link wants

  mine : Wants header (shown_over (port_at into old) link)
  mine = shown_wanted header old.ports link wants

  fewer : (value : Value) → ports_due (set old.ports into (arrives link value (port_at into old))) + 1 ≤ ports_due old.ports
  fewer value =
      let one = arrive_due link header value (port_at into old) (place_of link (port_at into old).ends) refl mine in
      omega (arith, set_due old.ports into 0 1 (arrives link value (port_at into old)) (omega (arith, one)) there)

  pub some_room : 0 < order.room
  some_room =
      let room = fits.room in
      let due = fewer (Int (pos 0)) in
      omega (arith, room, due)

  more_waits : (value : Value) → waits (set old.ports into (arrives link value (port_at into old))) ≡ set (waits old.ports) into (get_or (waits old.ports) into 0 + 1)
  more_waits value =
      let one = arrive_waits link header value (port_at into old) (place_of link (port_at into old).ends) refl mine in
      waits_set old.ports into (arrives link value (port_at into old))
      ∙ ap (λ (n : ℕ). set (waits old.ports) into n) (one ∙ ap (λ (n : ℕ). n + 1) (sym (waits_at old.ports into)))

  pub arrive_fits : (value : Value) (new : BlockState) (port : ℕ) → port ≡ into → new ≡ copies_taken (with_port_of link (arrives link value) old)
      → JoinFits new (record { ports = order.ports ++ port ∷ []; room = order.room - 1 })
  arrive_fits value new port at is =
      let same : new ≡ with_port_of link (arrives link value) old = is ∙ copies_none (with_port_of link (arrives link value) old) (ap is_write_once fits.kind_is) in
      record {
        kind_is = ap (λ (b : BlockState). b.kind) same ∙ fits.kind_is;
        tells =
            let near : into < length (waits old.ports) =
            subst (λ (n : ℕ). into < n) (sym (length-map old.ports (λ (p : PortState). length p.waiting))) there in
            subst (λ (p : ℕ). Tells (order.ports ++ p ∷ []) (waits new.ports)) (sym at)
            (subst (λ (ns : List ℕ). Tells (order.ports ++ into ∷ []) ns)
            (sym (ap (λ (b : BlockState). waits b.ports) same ∙ more_waits value))
            (tells_more order.ports (waits old.ports) into near fits.tells));
        room =
            let due = ap (λ (b : BlockState). ports_due b.ports) same in
            let less = fewer value in
            let room = fits.room in
            omega (arith, due, less, room);
      }
