use Rattle.std.proofs.Common.{◌≡◌, ℕ, Bool, true, false, cond, Option, Some, None, refl, ap, sym, ◌∙◌, subst}
use Rattle.flow_link.specs.BlockCalls.{Stays}
use Rattle.flow_link.specs.declared.trace.Outcome.{Outcome}
use Rattle.flow_block.specs.Block.{BlockState}
use Rattle.flow_block.specs.Traits.{outcome_of, may_keep, keeps_head}
use Rattle.flow_block.proofs.SourceMoves.{head_keeps, copy_keeps, keeps_so}
use Rattle.flow_block.proofs.traits.BlockSourceBlock.reserve_message.Goals as goal

-- it has not stopped by that, whether it keeps the message or not
stopped_so : (keeps : Bool) (link header : ℕ) (block : BlockState)
    → outcome_of (cond keeps (keeps_head link header block) block) ≡ outcome_of block
stopped_so true link header block = refl
stopped_so false link header block = refl

stays_so : (how : Option Outcome) → Stays how how
stays_so None = tt
stays_so (Some how) = refl

pub returns-then-shares-clause-moves : goal.returns-then-shares-clause-moves
returns-then-shares-clause-moves c =
    let block = c.args.self.now in
    (keeps_so block _ c.keep_head.new.self c.args.link c.args.header _ c.keep_head.result
    (head_keeps block c.args.link c.args.header (sym c.if-shares.ensures)) c.keep_head.ensures.told c.keep_head.ensures.left).moves

pub returns-else-shares-clause-moves : goal.returns-else-shares-clause-moves
returns-else-shares-clause-moves c =
    let block = c.args.self.now in
    (keeps_so block _ c.keep_copy.new.self c.args.link c.args.header _ c.keep_copy.result
    (copy_keeps block c.args.link c.args.header (sym c.if-shares.ensures)) c.keep_copy.ensures.told c.keep_copy.ensures.left).moves

pub returns-then-shares-clause-outcome_stays : goal.returns-then-shares-clause-outcome_stays
returns-then-shares-clause-outcome_stays c =
    let block = c.args.self.now in
    let keeps = may_keep c.args.link c.args.header block.exits in
    let same = ap outcome_of c.keep_head.ensures.left ∙ stopped_so keeps c.args.link c.args.header block in
    subst (λ (later : Option Outcome). Stays (outcome_of block) later) (sym same) (stays_so (outcome_of block))
