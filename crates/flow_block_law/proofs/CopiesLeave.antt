-- What a call at a link over which copies go leaves of its node's marks, of what its block holds, and of the room of the element.
use Rattle.std.proofs.Common.{◌≡◌, ℕ, ◌-◌, ◌<◌, ◌≤◌, ◌==◌, cond, not, ◌&&◌, Bool, true, false, List, [], ◌∷◌, ◌++◌, length, Option, Some, None, is_some, refl, ap, arith}
use Rattle.std.proofs.lemmas.Bool.{and_parts}
use Rattle.flow_value.specs.declared.value.Value.{Value}
use Rattle.flow_link.specs.declared.trace.Mark.{Mark}
use Rattle.flow_link.specs.declared.trace.Mark.TheVariants.{Gave}
use Rattle.flow_link.specs.Trace.{took, took_at}
use Rattle.flow_intake.specs.Calls.{gives_room}
use Rattle.flow_intake.specs.Port.{PortState}
use Rattle.flow_spread.specs.End.{count_of, owes_it, is_busy_at}
use Rattle.flow_spread.specs.Spread.{SpreadState, link_at, is_spread_free}
use Rattle.flow_block.specs.Block.{BlockState, held_by, with_copies}
use Rattle.flow_block.specs.Copies.{CopyCall, after_copy, copy_place, copies_left, weight_by, copies_weight}
use Rattle.flow_block.specs.Node.{marks_copied, marks_copy}
use Rattle.flow_block.proofs.CopiesFit.{offer_left, look_left, give_left, hold_left, withdraw_left, end_left}
use Rattle.flow_block_law.proofs.JournalTells.{took_same}
use Rattle.flow_block.proofs.PortsChange.{kept_at_all}

-- it notes nothing, or that the element was given
marked : (P : List Mark → Type 0) (link : ℕ) (element : Option Value) (journal : List Mark) → P journal
    → ((value : Value) → P (journal ++ Gave link value ∷ [])) → P (marks_copied link element journal)
marked P link None journal before after = before
marked P link (Some value) journal before after = after value

pub marks_by_copy : (P : List Mark → Type 0) (call : CopyCall) (copies : SpreadState) (journal : List Mark) → P journal
    → ((k : ℕ) → call ≡ CopyCall.give k → (value : Value) → P (journal ++ Gave (link_at copies k).rule.id value ∷ []))
    → P (marks_copy call copies journal)
marks_by_copy P (CopyCall.give k) copies journal before after =
    marked P (link_at copies k).rule.id copies.element journal before (after k refl)
marks_by_copy P (CopyCall.offer k) copies journal before after = before
marks_by_copy P (CopyCall.look k phase) copies journal before after = before
marks_by_copy P (CopyCall.hold k) copies journal before after = before
marks_by_copy P (CopyCall.withdraw k) copies journal before after = before
marks_by_copy P (CopyCall.end_link k how) copies journal before after = before

module _ (call : CopyCall) (copies : SpreadState) (journal : List Mark) where
  -- nothing is taken by it
  pub took_by_copy : took (marks_copy call copies journal) ≡ took journal
  took_by_copy =
      marks_by_copy (λ marks. took marks ≡ took journal) call copies journal refl
      (λ k is value. took_same (λ port link. true) journal (Gave (link_at copies k).rule.id value) refl)

  pub took_by_copy_at : (p : ℕ) → took_at p (marks_copy call copies journal) ≡ took_at p journal
  took_by_copy_at p =
      marks_by_copy (λ marks. took_at p marks ≡ took_at p journal) call copies journal refl
      (λ k is value. took_same (λ port link. port == p) journal (Gave (link_at copies k).rule.id value) refl)

-- no link comes to owe the element
pub left_by_copy : (call : CopyCall) (copies : SpreadState) → copy_place call < length copies.ends
    → copies_weight (after_copy call copies) ≤ copies_weight copies
left_by_copy (CopyCall.offer k) copies here = offer_left copies k here
left_by_copy (CopyCall.look k phase) copies here = look_left copies k here phase
left_by_copy (CopyCall.give k) copies here = give_left copies k here
left_by_copy (CopyCall.hold k) copies here = hold_left copies k here
left_by_copy (CopyCall.withdraw k) copies here = withdraw_left copies k here
left_by_copy (CopyCall.end_link k how) copies here = end_left copies k here how

pub at_most_one : (copies : SpreadState) → copies_weight copies ≤ 1
at_most_one copies = by_test copies.once (is_some copies.element) (count_of owes_it copies.ends == 0)
  where
    by_test : (once some none : Bool) → weight_by once some (cond none 0 1) ≤ 1
    by_test true true none = omega arith
    by_test true false none = omega arith
    by_test false some true = omega arith
    by_test false some false = omega arith

-- what copies each message over the last one counts while it is left; what takes one in all counts it from then on
weighs_none : (once some : Bool) (left : ℕ) → not (once && some) ≡ true → left ≡ 0 → weight_by once some left ≡ 0
weighs_none true true left apart none = absurd (cc)
weighs_none true false left apart none = refl
weighs_none false some left apart none = none

-- where another element may be put, nothing is left of the last
pub free_is_given : (copies : SpreadState) → is_spread_free copies ≡ true → copies_weight copies ≡ 0
free_is_given copies free =
    let none = count_of owes_it copies.ends == 0 in
    let both = and_parts (none && count_of is_busy_at copies.ends == 0) (not (copies.once && is_some copies.element)) free in
    let nobody = (and_parts none (count_of is_busy_at copies.ends == 0) both.0).0 in
    weighs_none copies.once (is_some copies.element) (copies_left copies) both.1 (ap (λ (so : Bool). cond so 0 1) nobody)

-- the block holds what it held
pub held_by_copy : (copies : SpreadState) (block : BlockState) → held_by (with_copies copies block) ≡ held_by block
held_by_copy copies block =
    kept_at_all (λ (port : PortState). port.waiting) (gives_room (copies_weight block.copies - copies_weight copies))
    block.ports 0 (λ port. refl)
