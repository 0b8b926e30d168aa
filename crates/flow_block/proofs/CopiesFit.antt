-- What each call at a link over which copies go makes of the room that the element takes, and of the number of marks that may follow.
use Rattle.std.proofs.Common.{rules, ◌≡◌, ℕ, ◌+◌, ◌-◌, ◌<◌, ◌≤◌, ◌==◌, Bool, true, false, cond, ◌&&◌, length, set, Option, Some, None, is_some, refl, inl, inr, arith, eq-eqb, ne_eqb}
use Rattle.std.proofs.lemmas.Bool.{cases_eq}
use Rattle.std.proofs.lemmas.List.{length-set}
use Rattle.flow_value.specs.declared.value.Value.{Value}
use Rattle.flow_link.specs.declared.phase.LinkEnd.{LinkEnd}
use Rattle.flow_link.specs.declared.phase.Phase.{Phase}
use Rattle.flow_link.specs.declared.phase.Phase.TheVariants.{Idle, Wanted, Asked, Postponed}
use Rattle.flow_value.specs.declared.message.MessageStatus.{MessageStatus}
use Rattle.flow_value.specs.declared.message.MessageStatus.TheVariants as status
use Rattle.flow_spread.specs.ByLink.{place_of, still_owes, answered, is_there, gives_home, consumes, reserved, reserves, releases}
use Rattle.flow_link.specs.declared.stage.SourceStage.{SourceStage}
use Rattle.flow_link.specs.declared.stage.SourceStage.TheVariants.{Out, Accepted, Wished, AskedBy, Claimed}
use Rattle.flow_link.specs.Stage.{source_looks}
use Rattle.flow_intake.specs.Port.{PortState}
use Rattle.flow_intake.specs.Calls.{gives_room, takes_next}
use Rattle.flow_outlet.specs.End.{is_waiting}
use Rattle.flow_spread.specs.declared.end.CopyEnd.{CopyEnd}
use Rattle.flow_spread.specs.End.{count_of, owes_it, is_busy, is_busy_at, is_waiting_at, moved}
use Rattle.flow_spread.specs.Spread.{SpreadState, end_at, link_at, stage_at, changes, puts, prepares, offers, looks, may_give, is_wanted, gives, is_asked_by, holds, withdraws, ends_link}
use Rattle.flow_spread.proofs.CountsOfEnds.{count_after_set, busy_taken_up, waiting_taken_up}
use Rattle.flow_block.specs.Block.{BlockState, with_copies, copies_next}
use Rattle.flow_block.specs.Copies.{copies_left, weight_by, copies_weight}
use Rattle.flow_block.specs.JournalFits.{copies_due, marks_due}
use Rattle.flow_block.proofs.MarksFit.{due_map, first_kept}

-- The room of the element

at_most : (none : Bool) → cond none 0 1 ≤ 1
at_most true = omega arith
at_most false = omega arith

fewer_left : (now before : ℕ) → now ≤ before → cond (now == 0) 0 1 ≤ cond (before == 0) 0 1
fewer_left now before less = elim (cases_eq before 0) [
  | inl none ↦ rw (eq-eqb now 0 (omega (arith, none, less))) (omega arith)
  | inr some ↦ rw (ne_eqb before 0 some) (at_most (now == 0))
]

owes_less : (now before : Bool) → (now ≡ true → before ≡ true) → cond now 1 0 ≤ cond before 1 0
owes_less false before stays = omega arith
owes_less true true stays = omega arith
owes_less true false stays = absurd (let wrong : false ≡ true = stays refl in cc)

by_weight : (once some : Bool) (now before : ℕ) → now ≤ before → weight_by once some now ≤ weight_by once some before
by_weight true some now before less = omega arith
by_weight false some now before less = less

-- an end that does not come to owe
pub left_less : (copies : SpreadState) (k : ℕ) (end : CopyEnd) → k < length copies.ends → (end.owes ≡ true → (end_at copies k).owes ≡ true)
    → copies_weight (changes k end copies) ≤ copies_weight copies
left_less copies k end here stays =
    let moved = count_after_set owes_it copies.ends k end here in
    let less = owes_less end.owes (end_at copies k).owes stays in
    by_weight copies.once (is_some copies.element) (copies_left (changes k end copies)) (copies_left copies)
    (fewer_left (count_of owes_it (set copies.ends k end)) (count_of owes_it copies.ends) (omega (arith, moved, less)))

first_true : (a b : Bool) → (a && b) ≡ true → a ≡ true
first_true true b e = refl
first_true false b e = absurd (cc)

module _ (copies : SpreadState) (k : ℕ) (here : k < length copies.ends) where
  pub look_left : (phase : Phase) → copies_weight (looks k phase copies) ≤ copies_weight copies
  look_left phase = left_less copies k _ here (λ owes. first_true (end_at copies k).owes _ owes)

  pub give_left : copies_weight (gives k copies) ≤ copies_weight copies
  give_left = left_less copies k _ here (λ owes. absurd (cc))

  pub hold_left : copies_weight (holds k copies) ≤ copies_weight copies
  hold_left = left_less copies k _ here (λ owes. owes)

  pub withdraw_left : copies_weight (withdraws k copies) ≤ copies_weight copies
  withdraw_left = left_less copies k _ here (λ owes. owes)

  pub end_left : (how : LinkEnd) → copies_weight (ends_link k how copies) ≤ copies_weight copies
  end_left how = left_less copies k _ here (λ owes. owes)

  pub offer_left : copies_weight (offers k (prepares k copies)) ≤ copies_weight copies
  offer_left =
      let ready = prepares k copies in
      let there : k < length ready.ends = omega (arith, here, length-set copies.ends k (record (end_at copies k) { share = copies.element })) in
      let first = left_less copies k (record (end_at copies k) { share = copies.element }) here (λ owes. owes) in
      let then = left_less ready k (moved (record (link_at ready k) { stage = Out ready.id }) (end_at ready k).owes (end_at ready k)) there (λ owes. owes) in
      omega (arith, first, then)

still_owing : (how : MessageStatus) (once owes : Bool) → still_owes how once owes ≡ true → owes ≡ true
still_owing status.Accepted once owes e = e
still_owing status.Declined once owes e = first_true owes once e
still_owing status.Postponed once owes e = first_true owes once e
still_owing status.NotAvailable once owes e = first_true owes once e
still_owing status.DecliningPermanently once owes e = absurd (cc)

-- at a link that is named
pub answer_left : (copies : SpreadState) (k header : ℕ) (how : MessageStatus) → k < length copies.ends
    → copies_weight (answered how header k copies) ≤ copies_weight copies
answer_left copies k header how here = left_less copies k _ here (λ owes. still_owing how copies.once (end_at copies k).owes owes)

home_left : (copies : SpreadState) (k header : ℕ) → k < length copies.ends → copies_weight (gives_home k header copies) ≤ copies_weight copies
home_left copies k header here =
    let wanted = looks k (Wanted header) copies in
    let given = gives k wanted in
    let first_count : length wanted.ends ≡ length copies.ends = length-set copies.ends k _ in
    let then_count : length given.ends ≡ length wanted.ends = length-set wanted.ends k _ in
    let near : k < length wanted.ends = omega (arith, here, first_count) in
    let nearer : k < length given.ends = omega (arith, near, then_count) in
    let first = look_left copies k here (Wanted header) in
    let then = give_left wanted k near in
    let last = look_left given k nearer Idle in
    omega (arith, first, then, last)

consume_where : (copies : SpreadState) (k header : ℕ) (there : Bool) → k < length copies.ends
    → copies_weight (cond there (gives_home k header copies) copies) ≤ copies_weight copies
consume_where copies k header true here = home_left copies k header here
consume_where copies k header false here = omega arith

pub consume_left : (copies : SpreadState) (link header : ℕ) → place_of link copies.ends < length copies.ends
    → copies_weight (consumes link header copies) ≤ copies_weight copies
consume_left copies link header here =
    consume_where copies (place_of link copies.ends) header (is_there (place_of link copies.ends) header copies) here

keep_where : (copies : SpreadState) (k header : ℕ) (kept : Bool) → k < length copies.ends
    → copies_weight (cond kept (holds k (looks k (Asked header) copies)) copies) ≤ copies_weight copies
keep_where copies k header true here =
    let asked = looks k (Asked header) copies in
    let count : length asked.ends ≡ length copies.ends = length-set copies.ends k _ in
    let near : k < length asked.ends = omega (arith, here, count) in
    let first = look_left copies k here (Asked header) in
    let last = hold_left asked k near in
    omega (arith, first, last)
keep_where copies k header false here = omega arith

pub keep_left : (copies : SpreadState) (link header : ℕ) → place_of link copies.ends < length copies.ends
    → copies_weight (reserves link header copies) ≤ copies_weight copies
keep_left copies link header here = keep_where copies (place_of link copies.ends) header (reserved header copies) here

pub release_left : (copies : SpreadState) (link header : ℕ) → place_of link copies.ends < length copies.ends
    → copies_weight (releases link header copies) ≤ copies_weight copies
release_left copies link header here = look_left copies (place_of link copies.ends) here (Postponed header)

-- The marks that may follow

abbrev speaks_at : CopyEnd → ℕ
speaks_at end = cond (is_busy_at end) 1 0 + cond (is_waiting_at end) 1 0

pub due_changes : (copies : SpreadState) (k : ℕ) (end : CopyEnd) (more fewer : ℕ) → k < length copies.ends
    → speaks_at end + fewer ≤ speaks_at (end_at copies k) + more
    → copies_due (changes k end copies) + fewer ≤ copies_due copies + more
due_changes copies k end more fewer here change =
    let busy = count_after_set is_busy_at copies.ends k end here in
    let waits = count_after_set is_waiting_at copies.ends k end here in
    omega (arith, change, busy, waits)

-- so may the block
pub due_copied : (copies : SpreadState) (block : BlockState) (more fewer : ℕ) → copies_due copies + fewer ≤ copies_due block.copies + more
    → marks_due (with_copies copies block) + fewer ≤ marks_due block + more
due_copied copies block more fewer change =
    omega (arith, change, due_map (gives_room (copies_weight block.copies - copies_weight copies)) block.ports (λ port. refl))

look_speaks : (stage : SourceStage) (phase : Phase)
    → cond (is_busy (source_looks stage phase)) 1 0 + cond (is_waiting (source_looks stage phase)) 1 0
    ≤ cond (is_busy stage) 1 0 + cond (is_waiting stage) 1 0
look_speaks stage phase = search rules

wanted_speaks : (id : ℕ) (stage : SourceStage) → is_wanted id stage ≡ true → 1 ≤ cond (is_busy stage) 1 0 + cond (is_waiting stage) 1 0
wanted_speaks id (Accepted i) e = omega arith
wanted_speaks id (Wished i) e = omega arith
wanted_speaks id (Claimed i) e = omega arith
wanted_speaks id _ e = absurd (cc)

asked_speaks : (stage : SourceStage) → is_asked_by stage ≡ true → 1 ≤ cond (is_busy stage) 1 0 + cond (is_waiting stage) 1 0
asked_speaks (AskedBy i) e = omega arith
asked_speaks _ e = absurd (cc)

module _ (block : BlockState) (k : ℕ) (here : k < length block.copies.ends) where
  pub due_look_copy : (phase : Phase) → marks_due (with_copies (looks k phase block.copies) block) ≤ marks_due block
  due_look_copy phase =
      let change = due_changes block.copies k _ 0 0 here (omega (arith, look_speaks (stage_at block.copies k) phase)) in
      omega (arith, due_copied (looks k phase block.copies) block 0 0 change)

  pub due_give_copy : may_give k block.copies ≡ true → marks_due (with_copies (gives k block.copies) block) + 1 ≤ marks_due block
  due_give_copy wanted =
      let change = due_changes block.copies k _ 0 1 here (omega (arith, wanted_speaks block.copies.id (stage_at block.copies k) wanted)) in
      omega (arith, due_copied (gives k block.copies) block 0 1 change)

  pub due_hold_copy : is_asked_by (stage_at block.copies k) ≡ true → marks_due (with_copies (holds k block.copies) block) ≤ marks_due block
  due_hold_copy asks =
      let change = due_changes block.copies k _ 0 0 here (omega (arith, asked_speaks (stage_at block.copies k) asks)) in
      omega (arith, due_copied (holds k block.copies) block 0 0 change)

  pub due_withdraw_copy : marks_due (with_copies (withdraws k block.copies) block) ≤ marks_due block
  due_withdraw_copy =
      let change = due_changes block.copies k _ 0 0 here (omega arith) in
      omega (arith, due_copied (withdraws k block.copies) block 0 0 change)

  pub due_end_copy : (how : LinkEnd) → marks_due (with_copies (ends_link k how block.copies) block) ≤ marks_due block
  due_end_copy how =
      let change = due_changes block.copies k _ 0 0 here (omega arith) in
      omega (arith, due_copied (ends_link k how block.copies) block 0 0 change)

  pub due_offer_copy : marks_due (with_copies (offers k (prepares k block.copies)) block) ≤ marks_due block + 1
  due_offer_copy =
      let copies = block.copies in
      let ready = prepares k copies in
      let there : k < length ready.ends = omega (arith, here, length-set copies.ends k (record (end_at copies k) { share = copies.element })) in
      let first = due_changes copies k (record (end_at copies k) { share = copies.element }) 0 0 here (omega arith) in
      let then = due_changes ready k (moved (record (link_at ready k) { stage = Out ready.id }) (end_at ready k).owes (end_at ready k)) 1 0 there (omega arith) in
      omega (arith, due_copied (offers k ready) block 1 0 (omega (arith, first, then)))

-- a new element is asked for nowhere yet
due_puts : (value : Value) (copies : SpreadState) → copies_due (puts value copies) ≤ copies_due copies
due_puts value copies = omega (arith, busy_taken_up value copies.ends, waiting_taken_up value copies.ends)

pub due_copy_next : (first : Option Value) (block : BlockState) → marks_due (copies_next first block) ≤ marks_due block
due_copy_next None block = omega arith
due_copy_next (Some value) block =
    let change : PortState → PortState = λ port. gives_room (1 - copies_weight (puts value block.copies)) (takes_next port) in
    omega (arith, due_puts value block.copies, first_kept change block.ports (λ port. refl))
