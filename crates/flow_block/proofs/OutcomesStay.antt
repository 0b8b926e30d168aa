-- What a block has told of its end stays told.
use Rattle.std.proofs.Common.{◌≡◌, Bool, true, false, Option, Some, None, refl, subst, sym}
use Rattle.flow_value.specs.declared.value.Value.{Value}
use Rattle.flow_link.specs.BlockCalls.{Stays}
use Rattle.flow_link.specs.declared.trace.Outcome.{Outcome}
use Rattle.flow_intake.specs.Calls.{first_of}
use Rattle.flow_block.specs.Block.{BlockState, held_by, copies_next, copies_at_once, copies_where, copies_taken}
use Rattle.flow_block.specs.Traits.{outcome_of}

-- an outcome stays where it is the same
stays_same : (how : Option Outcome) → Stays how how
stays_same None = tt
stays_same (Some how) = refl

-- a call that leaves alone how the block stopped
pub stays_as : (old new : BlockState) → new.stopped ≡ old.stopped → Stays (outcome_of old) (outcome_of new)
stays_as old new same = subst (λ (how : Option Outcome). Stays (outcome_of old) how) (sym same) (stays_same (outcome_of old))

-- copying at once does
copied_stays : (first : Option Value) (block : BlockState) → (copies_next first block).stopped ≡ block.stopped
copied_stays None block = refl
copied_stays (Some value) block = refl

taken_stays_where : (at_once : Bool) (block : BlockState) → (copies_where at_once block).stopped ≡ block.stopped
taken_stays_where true block = copied_stays (first_of (held_by block)) block
taken_stays_where false block = refl

pub taken_stays : (block : BlockState) → (copies_taken block).stopped ≡ block.stopped
taken_stays block = taken_stays_where (copies_at_once block) block
