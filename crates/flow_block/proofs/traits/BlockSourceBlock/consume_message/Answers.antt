use Rattle.std.proofs.Common.{◌≡◌, ℕ, Bool, true, false, cond, Option, Some, None, is_some, refl, ap, sym, ◌∙◌, subst}
use Rattle.std.proofs.lemmas.Bool.{OnTrue_from}
use Rattle.flow_link.specs.BlockCalls.{Stays}
use Rattle.flow_link.specs.declared.trace.Outcome.{Outcome}
use Rattle.flow_link.specs.SourceCalls.{is_promised}
use Rattle.flow_block.specs.Block.{BlockState}
use Rattle.flow_block.specs.Traits.{source_at, outcome_of, may_take, gives_over, may_take_copy, copies_home}
use Rattle.flow_block.proofs.SourceMoves.{head_consumes, copy_consumes, gives_so}
use Rattle.flow_block.proofs.traits.BlockSourceBlock.consume_message.Goals as goal

-- it has not stopped by that, whether it gives or not
stopped_so : (gives : Bool) (link header : ℕ) (block : BlockState)
    → outcome_of (cond gives (gives_over link header block) block) ≡ outcome_of block
stopped_so true link header block = refl
stopped_so false link header block = refl

stays_so : (how : Option Outcome) → Stays how how
stays_so None = tt
stays_so (Some how) = refl

pub returns-then-shares-clause-moves : goal.returns-then-shares-clause-moves
returns-then-shares-clause-moves c =
    let block = c.args.self.now in
    let told = head_consumes block c.args.link c.args.header (sym c.if-shares.ensures) c.requires in
    gives_so block _ c.give_head.new.self c.args.link c.args.header _ c.give_head.result told c.give_head.ensures.given c.give_head.ensures.left

pub returns-then-shares-clause-promised : goal.returns-then-shares-clause-promised
returns-then-shares-clause-promised c =
    let block = c.args.self.now in
    let told = head_consumes block c.args.link c.args.header (sym c.if-shares.ensures) c.requires in
    OnTrue_from (is_promised (source_at block c.args.link)) (is_some c.give_head.result ≡ true)
    (λ promised. ap is_some c.give_head.ensures.given ∙ told.promised promised)

pub returns-else-shares-clause-moves : goal.returns-else-shares-clause-moves
returns-else-shares-clause-moves c =
    let block = c.args.self.now in
    let told = copy_consumes block c.args.link c.args.header (sym c.if-shares.ensures) c.requires in
    gives_so block _ c.give_copy_over.new.self c.args.link c.args.header _ c.give_copy_over.result told c.give_copy_over.ensures.given
    c.give_copy_over.ensures.left

pub returns-then-shares-clause-outcome_stays : goal.returns-then-shares-clause-outcome_stays
returns-then-shares-clause-outcome_stays c =
    let block = c.args.self.now in
    let gives = may_take c.args.link c.args.header block.exits in
    let same = ap outcome_of c.give_head.ensures.left ∙ stopped_so gives c.args.link c.args.header block in
    subst (λ (later : Option Outcome). Stays (outcome_of block) later) (sym same) (stays_so (outcome_of block))

pub returns-else-shares-clause-promised : goal.returns-else-shares-clause-promised
returns-else-shares-clause-promised c =
    let block = c.args.self.now in
    let told = copy_consumes block c.args.link c.args.header (sym c.if-shares.ensures) c.requires in
    OnTrue_from (is_promised (source_at block c.args.link)) (is_some c.give_copy_over.result ≡ true)
    (λ promised. ap is_some c.give_copy_over.ensures.given ∙ told.promised promised)

-- nor where it copies
copied_so : (gives : Bool) (link header : ℕ) (block : BlockState)
    → outcome_of (cond gives (copies_home link header block) block) ≡ outcome_of block
copied_so true link header block = refl
copied_so false link header block = refl

pub returns-else-shares-clause-outcome_stays : goal.returns-else-shares-clause-outcome_stays
returns-else-shares-clause-outcome_stays c =
    let block = c.args.self.now in
    let gives = may_take_copy c.args.link c.args.header block.copies in
    let same = ap outcome_of c.give_copy_over.ensures.left ∙ copied_so gives c.args.link c.args.header block in
    subst (λ (later : Option Outcome). Stays (outcome_of block) later) (sym same) (stays_so (outcome_of block))
