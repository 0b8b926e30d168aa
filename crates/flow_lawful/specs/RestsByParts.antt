-- A network is quiet when none of its parts has anything left to do. Each record here is what one part says of itself
-- then: its own journal, values and stages tell it. What one part knows of another comes by a link in order that both
-- its ends have seen.
use Rattle.std.specs.Prelude.{◌≡◌, ℕ, ◌<◌, Bool, true, false, not, ◌&&◌, ◌||◌, List, length, drop}
use Rattle.flow_value.specs.declared.value.Value.{Value}
use Rattle.flow_link.specs.declared.phase.Phase.{Phase}
use Rattle.flow_link.specs.declared.phase.Phase.TheVariants.{Idle, Postponed, Refused, Ended}
use Rattle.flow_link.specs.declared.phase.LinkEnd.TheVariants.{Complete as end_complete, Fault as end_fault}
use Rattle.flow_link.specs.declared.plan.LinkSource.TheVariants.{Block, Input}
use Rattle.flow_link.specs.declared.plan.LinkTarget.TheVariants.{Port, Exit}
use Rattle.flow_link.specs.Views.{SourceStage, TargetStage}
use Rattle.flow_link.specs.Looks.{Seen}
use Rattle.flow_link.specs.Lists.{some, is_empty}
use Rattle.flow_link.specs.Plan.{is_reserving, begins_at, ends_at, ends_at_port}
use Rattle.flow_link.specs.Trace.{Run, has_ended, block_of, link_of, link_numbers, ports_of, marks_of, input_of}
use Rattle.flow_link.specs.Making.{load}
use Rattle.flow_lawful.specs.Quiet.{Quiet, is_open, rests, is_done_if_can, has_served_all, head_from, admits_head, is_full_with}
use Rattle.flow_lawful.specs.Composes.{Ends, PartsKeep, is_done_with}

-- no message is under way over the link. One may wait there, and the target knows of it
abbrev pub is_at_rest : Phase → Bool
is_at_rest Idle = true
is_at_rest (Postponed _) = true
is_at_rest Refused = true
is_at_rest (Ended _) = true
is_at_rest _ = false

-- the source has ended the link, or knows that it is refused
abbrev pub is_over : SourceStage → Bool
is_over SourceStage.refused = true
is_over (SourceStage.ended _) = true
is_over _ = false

-- the source has to lay the message into the slot: nothing holds it back
abbrev pub is_to_hand_over : SourceStage → Bool
is_to_hand_over (SourceStage.accepted _) = true
is_to_hand_over (SourceStage.claimed _) = true
is_to_hand_over (SourceStage.filling _) = true
is_to_hand_over _ = false

-- the source has a wish to answer
abbrev pub is_wished_for : SourceStage → Bool
is_wished_for (SourceStage.wished _) = true
is_wished_for (SourceStage.asked_by _) = true
is_wished_for _ = false

-- the source has an offer out, and no answer
abbrev pub is_out : SourceStage → Bool
is_out (SourceStage.out _) = true
is_out _ = false

abbrev pub is_postponed : TargetStage Value → Bool
is_postponed (TargetStage.postponed _) = true
is_postponed _ = false

abbrev pub is_asking : TargetStage Value → Bool
is_asking (TargetStage.asking _) = true
is_asking _ = false

abbrev pub is_holding : TargetStage Value → Bool
is_holding (TargetStage.holding _) = true
is_holding _ = false

-- the target has an offer to answer, or a message to take in: nothing holds it back
abbrev pub is_to_receive : TargetStage Value → Bool
is_to_receive (TargetStage.offered _) = true
is_to_receive (TargetStage.posted _) = true
is_to_receive (TargetStage.arrived _) = true
is_to_receive (TargetStage.hand _ _) = true
is_to_receive _ = false

-- the target has seen that the link ended with completion or with a fault
abbrev pub has_seen_end : TargetStage Value → Bool
has_seen_end (TargetStage.ended end_complete) = true
has_seen_end (TargetStage.ended (end_fault _)) = true
has_seen_end _ = false

module _ {W : Type 0} (run : Run W) (ends : ℕ → Ends) where
  abbrev pub LinkSeen : ℕ → Type 0
  LinkSeen l = Seen (ends l).phase (ends l).source (ends l).target

  abbrev pub LinkRests : ℕ → Type 0
  LinkRests l = is_at_rest (ends l).phase ≡ true

  -- a block's links out: those that it is done with are over. Over any other the message that would cross next was
  -- offered and put off, where the link admits it, so that a free end has nothing to offer. Of one that gives copies
  -- the next message is the link's own; of one that shares its messages it is the first of them all
  pub record OutletRests (b : ℕ) : Type 0 where
    pub ended : (l : ℕ) → l < length run.layout.links → (link_of run l).source ≡ Block b
        → is_done_with run ends l b ≡ true → is_over (ends l).source.stage ≡ true
    pub offered : (l : ℕ) → l < length run.layout.links → (link_of run l).source ≡ Block b
        → (ends l).source.stage ≡ SourceStage.free → admits_head run l (head_from run l (Block b)) ≡ false

  -- there is a port at which no offer waits
  abbrev pub lacks_an_offer : ℕ → Bool
  lacks_an_offer b =
      some (λ p. not (some (λ l. ends_at_port b p (link_of run l).target && is_postponed (ends l).target.stage) (link_numbers run)))
      (ports_of run b)

  -- the port has no room, or the block reserves and cannot have an offer for each port. A reserving join that holds
  -- nothing has as much room at one port as at another, so it is enough to speak of this port's
  abbrev pub has_to_wait : ℕ → ℕ → Bool
  has_to_wait b p =
      is_full_with run (block_of run b).capacity (load run b p)
      || (is_reserving (block_of run b) && lacks_an_offer b)

  -- a block's links into one port: an offer that waits there has to wait, and an end that came has ended the port
  pub record PortRests (b p : ℕ) : Type 0 where
    pub put_off : (l : ℕ) → l < length run.layout.links → (link_of run l).target ≡ Port b p
        → is_postponed (ends l).target.stage ≡ true → has_to_wait b p ≡ true
    pub ended : (l : ℕ) → l < length run.layout.links → (link_of run l).target ≡ Port b p
        → has_seen_end (ends l).target.stage ≡ true → has_ended p (marks_of run b) ≡ true

  -- what is left to a block by its kind. All three are the block's own: they read its definition and its work, its
  -- journal, what it holds and what it has left. A reserving join takes at all its ports or at none, so at rest it holds
  -- nothing; a broadcast block at rest has offered its element over each link, and had an answer
  pub record KindRests (b : ℕ) : Type 0 where
    pub worked : rests run b ≡ true
    pub done : is_done_if_can run b ≡ true
    pub served : has_served_all run b ≡ true

  pub record NodeRests (b : ℕ) : Type 0 where
    pub kind : KindRests b
    pub outlet : OutletRests b
    pub ports : (p : ℕ) → PortRests b p

  -- what an input has posted and not given
  abbrev pub unsent : ℕ → ℕ → List Value
  unsent l b = drop (length (ends l).source.given) (input_of run b).posted

  -- an input has ended its link if it has given all and may post no more, and has nothing to offer where it is free
  pub record InputRests (l b : ℕ) : Type 0 where
    pub ended : is_open (input_of run b).ending ≡ false → is_empty (unsent l b) ≡ true → is_over (ends l).source.stage ≡ true
    pub offered : (ends l).source.stage ≡ SourceStage.free → is_empty (unsent l b) ≡ true

  -- no part has anything left to do. An exit says nothing: it takes a message only where its caller asks for one
  pub record PartsRest : Type 0 where
    pub seen : (l : ℕ) → l < length run.layout.links → LinkSeen l
    pub links : (l : ℕ) → l < length run.layout.links → LinkRests l
    pub nodes : (b : ℕ) → b < length run.layout.blocks → NodeRests b
    pub inputs : (l b : ℕ) → l < length run.layout.links → (link_of run l).source ≡ Input b → InputRests l b

  -- That the links rest follows from their ends, where no end has a move.
  abbrev pub has_offer_out : ℕ → Bool
  has_offer_out b = some (λ l. begins_at b (link_of run l).source && is_out (ends l).source.stage) (link_numbers run)

  abbrev pub asks_somewhere : ℕ → Bool
  asks_somewhere b = some (λ l. ends_at b (link_of run l).target && is_asking (ends l).target.stage) (link_numbers run)

  -- a block answers a wish unless it has an offer out, and claims or releases what it holds unless it still asks
  pub record NodeIsStill (b : ℕ) : Type 0 where
    pub gives : (l : ℕ) → l < length run.layout.links → (link_of run l).source ≡ Block b
        → is_to_hand_over (ends l).source.stage ≡ false
    pub answers : (l : ℕ) → l < length run.layout.links → (link_of run l).source ≡ Block b
        → is_wished_for (ends l).source.stage ≡ true → has_offer_out b ≡ true
    pub receives : (l p : ℕ) → l < length run.layout.links → (link_of run l).target ≡ Port b p
        → is_to_receive (ends l).target.stage ≡ false
    pub claims : (l p : ℕ) → l < length run.layout.links → (link_of run l).target ≡ Port b p
        → is_holding (ends l).target.stage ≡ true → asks_somewhere b ≡ true

  -- an input gives whatever is wished for
  pub record InputIsStill (l : ℕ) : Type 0 where
    pub gives : is_to_hand_over (ends l).source.stage ≡ false
    pub answers : is_wished_for (ends l).source.stage ≡ false

  -- an exit does not reserve
  pub record ExitIsStill (l : ℕ) : Type 0 where
    pub receives : is_to_receive (ends l).target.stage ≡ false
    pub claims : is_holding (ends l).target.stage ≡ false

  -- no end of a link has a move
  pub record EndsAreStill : Type 0 where
    pub seen : (l : ℕ) → l < length run.layout.links → LinkSeen l
    pub nodes : (b : ℕ) → b < length run.layout.blocks → NodeIsStill b
    pub inputs : (l b : ℕ) → l < length run.layout.links → (link_of run l).source ≡ Input b → InputIsStill l
    pub exits : (l : ℕ) → l < length run.layout.links → (link_of run l).target ≡ Exit → ExitIsStill l

module _ (W : Type 0) where
  -- a wish that is held back waits for an offer that is out, and that offer's target answers it; so no message is under way
  abbrev pub LinksRest : Type 0
  LinksRest = (run : Run W) (ends : ℕ → Ends) → PartsKeep run ends → EndsAreStill run ends
      → (l : ℕ) → l < length run.layout.links → LinkRests run ends l

  -- then the whole is quiet
  abbrev pub RestsCompose : Type 0
  RestsCompose = (run : Run W) (ends : ℕ → Ends) → PartsKeep run ends → PartsRest run ends → Quiet run
