-- Each call keeps the law of a spread, and what the law says of each gift and of what is left.
use Rattle.std.specs.Prelude.{◌≡◌, ℕ, ◌+◌, ◌^◌, ◌<◌, ◌≤◌, ◌==◌, ◌||◌, Bool, true, false, List, length, Option, Some, None, is_some}
use Rattle.std.specs.Bool.{OnTrue}
use Rattle.flow_value.specs.declared.value.Value.{Value}
use Rattle.flow_value.specs.declared.message.MessageStatus.{MessageStatus}
use Rattle.flow_link.specs.declared.phase.LinkEnd.{LinkEnd}
use Rattle.flow_link.specs.declared.phase.Phase.{Phase}
use Rattle.flow_link.specs.declared.stage.SourceStage.TheVariants.{Out}
use Rattle.flow_link.specs.declared.trace.Outcome.{Outcome}
use Rattle.flow_link.specs.declared.trace.Outcome.TheVariants.{Done}
use Rattle.flow_link.specs.LinkOk.{HasRoom}
use Rattle.flow_link.specs.Stage.{source_looks}
use Rattle.flow_outlet.specs.End.{is_cut, is_free, is_waiting}
use Rattle.flow_outlet.specs.KeepsByLink.{settles_it}
use Rattle.flow_outlet.specs.Law.{is_put_off, is_refused, admits_head}
use Rattle.flow_outlet.specs.Outlet.{end_of}
use Rattle.flow_outlet.specs.declared.ends.LinkRule.{LinkRule}
use Rattle.flow_spread.specs.ByLink.{answered, consumes, place_of, MayReserve, reserves, IsReserved, releases}
use Rattle.flow_spread.specs.Spread.{SpreadState, end_at, link_at, stage_at, fresh_spread, is_spread_free, is_at_rest, puts, left_of, prepares, may_offer, offers, looks, may_give, gives, is_asked_by, holds, withdraws, ends_link}
use Rattle.flow_spread.specs.Law.{SpreadLaw, MayPutOff}

-- a fact of each spread that keeps its law, at each of its ends
abbrev pub AtEachEnd : (ℕ → Bool → Option Outcome → SpreadState → ℕ → Type 0) → Type 0
AtEachEnd P =
    (first : ℕ) (pending : Bool) (stopped : Option Outcome) (s : SpreadState) → SpreadLaw first pending stopped s
    → (k : ℕ) → k < length s.ends → P first pending stopped s k

pub record CallsKeepLaw : Type 0 where
  pub fresh : (pending once : Bool) (stopped : Option Outcome) (rules : List LinkRule) (first : ℕ) → 1 ≤ first → first ≤ 2 ^ 59
      → SpreadLaw first pending stopped (fresh_spread once rules first)
  -- a block that has stopped takes no element, and makes no offer
  pub put : (first : ℕ) (pending : Bool) (s : SpreadState) → SpreadLaw first pending None s → (value : Value)
      → is_spread_free s ≡ true → s.id + 1 < 2 ^ 59 → SpreadLaw first pending None (puts value s)
  pub prepare : AtEachEnd λ first pending stopped s k. SpreadLaw first pending stopped (prepares k s)
  pub offer : (first : ℕ) (pending : Bool) (s : SpreadState) → SpreadLaw first pending None s → (k : ℕ) → k < length s.ends
      → may_offer k s ≡ true → (end_at s k).share ≡ s.element → SpreadLaw first pending None (offers k s)
  -- what is put off may be, which the link being in order says
  pub look : AtEachEnd λ first pending stopped s k.
      (phase : Phase) → OnTrue (is_put_off (source_looks (stage_at s k) phase)) (MayPutOff (link_at s k))
      → SpreadLaw first pending stopped (looks k phase s)
  pub give : AtEachEnd λ first pending stopped s k. may_give k s ≡ true → SpreadLaw first pending stopped (gives k s)
  pub reserve : (first : ℕ) (pending : Bool) (stopped : Option Outcome) (s : SpreadState) → SpreadLaw first pending stopped s
      → (link header : ℕ) → MayReserve link header s → SpreadLaw first pending stopped (reserves link header s)
  pub release : (first : ℕ) (pending : Bool) (stopped : Option Outcome) (s : SpreadState) → SpreadLaw first pending stopped s
      → (link header : ℕ) → IsReserved link header s → SpreadLaw first pending stopped (releases link header s)
  pub hold : AtEachEnd λ first pending stopped s k. is_asked_by (stage_at s k) ≡ true → SpreadLaw first pending stopped (holds k s)
  -- where a link still owes the element, its offer is withdrawn only where the block faults
  pub withdraw : AtEachEnd λ first pending stopped s k.
      is_waiting (stage_at s k) ≡ true → ((end_at s k).owes ≡ true → pending ≡ true)
      → SpreadLaw first pending stopped (withdraws k s)
  pub ends : AtEachEnd λ first pending stopped s k.
      (how : LinkEnd) → is_free (stage_at s k) ≡ true → end_of (link_at s k) stopped ≡ Some how
      → SpreadLaw first pending stopped (ends_link k how s)
  -- an answer that is noted by its link, while the block may fault: only what may put off declines
  pub answer : (first : ℕ) (stopped : Option Outcome) (s : SpreadState) → SpreadLaw first true stopped s → (k header : ℕ)
      → k < length s.ends → (answer : MessageStatus) → stage_at s k ≡ Out header
      → (settles_it answer ≡ false → MayPutOff (link_at s k)) → SpreadLaw first true stopped (answered answer header k s)
  -- a message that is consumed by the name of its link, or is there no more
  pub consume : (first : ℕ) (pending : Bool) (stopped : Option Outcome) (s : SpreadState) → SpreadLaw first pending stopped s
      → (link header : ℕ) → place_of link s.ends < length s.ends → SpreadLaw first pending stopped (consumes link header s)
  -- the block comes to fault, and stops: with nothing under way, and done only where nothing is left
  pub fault : (first : ℕ) (stopped : Option Outcome) (s : SpreadState) → SpreadLaw first false stopped s
      → SpreadLaw first true stopped s
  pub stop : (first : ℕ) (pending : Bool) (outcome : Outcome) (s : SpreadState) → SpreadLaw first pending None s
      → is_at_rest s ≡ true → (outcome ≡ Done → left_of s ≡ None) → SpreadLaw first pending (Some outcome) s

-- what is given is the element, which the predicate admits, was not given over this link, and has its room there
pub record IsGivenWell (s : SpreadState) (k : ℕ) : Type 0 where
  pub ready : (end_at s k).share ≡ s.element
  pub is_element : is_some s.element ≡ true
  pub admitted : admits_head (link_at s k).rule.when s.element ≡ true
  pub new : (link_at s k).last < s.id
  pub room : HasRoom (link_at s k).rule.max (link_at s k).given

-- what the law says
pub record LawTells : Type 0 where
  pub given : AtEachEnd λ first pending stopped s k. may_give k s ≡ true → IsGivenWell s k
  -- that a link ends changes nothing of what is left
  pub left_stays : AtEachEnd λ first pending stopped s k. (how : LinkEnd) → left_of (ends_link k how s) ≡ left_of s
  -- where nothing is left of what a block took that takes once, each link that admits it was given it, refused, or has
  -- carried its limit
  pub served_once : AtEachEnd λ first pending stopped s k.
      s.once ≡ true → left_of s ≡ None → admits_head (link_at s k).rule.when s.element ≡ true
      → ((link_at s k).last == s.id || is_refused (stage_at s k) || is_cut (link_at s k)) ≡ true
  -- a block that is done has nothing left
  pub done : (first : ℕ) (pending : Bool) (s : SpreadState) → SpreadLaw first pending (Some Done) s → left_of s ≡ None
