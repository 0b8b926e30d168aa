-- Each call of a port keeps it in order.
use Rattle.std.specs.Prelude.{◌≡◌, ℕ, ◌+◌, ◌-◌, ◌<◌, ◌≤◌, true, false, ◌∷◌, [], ◌++◌, length, Option, is_some, cond}
use Rattle.flow_value.specs.declared.value.Value.{Value}
use Rattle.flow_value.specs.declared.message.MessageStatus.TheVariants.{Postponed}
use Rattle.flow_link.specs.declared.phase.Phase.{Phase}
use Rattle.flow_link.specs.LinkOk.{MayPutOff}
use Rattle.flow_link.specs.Views.{LinkFacts}
use Rattle.flow_intake.specs.Port.{PortState, fresh_end, fresh_port, link_in, stage_at, coming, has_room, is_hand, is_holding, is_offer, is_wanted}
use Rattle.flow_intake.specs.Calls.{answer_to, is_offered, is_posted, is_postponed, is_arrived, may_be_refused, may_be_dropped, prepared, wants, turns_down, postpones, refuses, consumes, asks, claims, releases, opens, closes, looks, takes_next, gives_room, port_closes, port_fails}
use Rattle.flow_intake.specs.ByLink.{is_free_over, stands_at, answered, arrives, drops, consumes_next}
use Rattle.flow_intake.specs.PortLaw.{PortLaw, has_ended}

-- a fact of each port that is in order
abbrev pub InOrderHas : ((ℕ → LinkFacts) → ℕ → PortState → Type 0) → Type 0
InOrderHas P = (facts : ℕ → LinkFacts) (taken : ℕ) (port : PortState) → PortLaw facts taken port → P facts taken port

-- the calls that name a place
pub record MovesKeep : Type 0 where
  pub fresh : (facts : ℕ → LinkFacts) (capacity : Option ℕ) → PortLaw facts 0 (fresh_port capacity)
  pub reserving : (facts : ℕ → LinkFacts) (capacity : Option ℕ) → PortLaw facts 0 (record (fresh_port capacity) { reserves = true })
  pub add_link : InOrderHas λ facts taken port. (link : ℕ) → PortLaw facts taken (record port { ends = port.ends ++ fresh_end link ∷ [] })
  pub prepare : InOrderHas λ facts taken port. PortLaw facts taken (prepared port)
  pub want : InOrderHas λ facts taken port. (place : ℕ) → place < length port.ends → is_offer (stage_at place port) ≡ true
      → has_room port ≡ true → has_ended port.refusing ≡ false → PortLaw facts taken (wants place port)
  pub turn_down : InOrderHas λ facts taken port. (place : ℕ) → place < length port.ends → is_posted (stage_at place port) ≡ true
      → PortLaw facts taken (turns_down place port)
  -- what is postponed may be put off
  pub postpone : InOrderHas λ facts taken port. (place : ℕ) → place < length port.ends → is_offered (stage_at place port) ≡ true
      → MayPutOff (facts (link_in place port.ends)) taken → PortLaw facts taken (postpones place port)
  pub refuse : InOrderHas λ facts taken port. (place : ℕ) → place < length port.ends → may_be_refused (stage_at place port) ≡ true
      → is_some port.refusing ≡ true → PortLaw facts taken (refuses place port)
  pub consume : InOrderHas λ facts taken port. (place : ℕ) → place < length port.ends → is_postponed (stage_at place port) ≡ true
      → has_room port ≡ true → has_ended port.refusing ≡ false → PortLaw facts taken (consumes place port)
  pub ask : InOrderHas λ facts taken port. (place : ℕ) → place < length port.ends → is_postponed (stage_at place port) ≡ true
      → has_room port ≡ true → has_ended port.refusing ≡ false → PortLaw facts taken (asks place port)
  pub claim : InOrderHas λ facts taken port. (place : ℕ) → place < length port.ends → is_holding (stage_at place port) ≡ true
      → PortLaw facts taken (claims place port)
  pub release : InOrderHas λ facts taken port. (place : ℕ) → place < length port.ends → is_holding (stage_at place port) ≡ true
      → PortLaw facts taken (releases place port)
  pub opened : InOrderHas λ facts taken port. (place : ℕ) (value : Value) → place < length port.ends → is_arrived (stage_at place port) ≡ true
      → PortLaw facts taken (opens place value port)
  pub closed : InOrderHas λ facts taken port. (place : ℕ) (value : Value) → place < length port.ends → is_hand (stage_at place port) ≡ true
      → PortLaw facts (taken + 1) (closes place value port)
  pub look : InOrderHas λ facts taken port. (place : ℕ) (phase : Phase) → place < length port.ends → PortLaw facts taken (looks place phase port)
  pub take_next : InOrderHas λ facts taken port. PortLaw facts taken (takes_next port)
  pub give_room : InOrderHas λ facts taken port. (count : ℕ) → cond (is_some port.capacity) count 0 ≤ port.load - length port.waiting
      → PortLaw facts taken (gives_room count port)
  -- nothing comes any more
  pub close_port : InOrderHas λ facts taken port. coming port ≡ 0 → PortLaw facts taken (port_closes port)
  pub fail_port : InOrderHas λ facts taken port. PortLaw facts taken (port_fails port)

-- the calls that name a link
pub record CallsByLinkKeep : Type 0 where
  pub answer : InOrderHas λ facts taken port. (link i : ℕ) (may_postpone : _) → is_free_over link port ≡ true
      → (answer_to may_postpone port ≡ Postponed → MayPutOff (facts link) taken)
      → PortLaw facts taken (answered link i (answer_to may_postpone port) port)
  pub arrive : InOrderHas λ facts taken port. (link : ℕ) (value : Value) → stands_at is_wanted link port ≡ true
      → PortLaw facts (taken + 1) (arrives link value port)
  pub next_postponed : InOrderHas λ facts taken port. PortLaw facts taken (consumes_next port)
  pub drop_postponed : InOrderHas λ facts taken port. (link : ℕ) → stands_at may_be_dropped link port ≡ true
      → PortLaw facts taken (drops link port)
