use Rattle.std.proofs.Common.{◌≡◌, true, sym, subst, Option}
use Rattle.flow_link.specs.BlockCalls.{Stays}
use Rattle.flow_link.specs.declared.trace.Outcome.{Outcome}
use Rattle.flow_block.specs.Traits.{makes_itself, outcome_of}
use Rattle.flow_block.proofs.MakingGoesOn.{making_goes_on}
use Rattle.flow_block.proofs.traits.BlockDataflowBlock.make.Goals as goal

pub returns-in-Ok-clause-stays : goal.returns-in-Ok-clause-stays
returns-in-Ok-clause-stays c =
    let makes : makes_itself c.args.self.now ≡ true = cc in
    subst (λ (before : Option Outcome). Stays before (outcome_of c.make_next.new.self))
    (sym (making_goes_on c.args.self.now makes)) tt
