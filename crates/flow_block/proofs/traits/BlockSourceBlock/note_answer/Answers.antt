use Rattle.std.proofs.Common.{sym, subst}
use Rattle.flow_link.specs.SourceCalls.{stage_answered}
use Rattle.flow_link.specs.StagesMove.{MovesTo}
use Rattle.flow_outlet.specs.ByLink.{place_of, answered}
use Rattle.flow_block.specs.Block.{BlockState}
use Rattle.flow_block.specs.Traits.{source_at}
use Rattle.flow_block.proofs.SourceMoves.{head_answers, copy_answers}
use Rattle.flow_block.proofs.traits.BlockSourceBlock.note_answer.Goals as goal

pub returns-then-shares-clause-moves : goal.returns-then-shares-clause-moves
returns-then-shares-clause-moves c =
    rw (← c.self.view_is, c.note_answer.ensures)
    (subst (λ (block : BlockState). MovesTo (stage_answered c.args.status c.args.header) c.args.link (source_at block)
    (source_at (record block { exits = answered c.args.status c.args.header (place_of c.args.link block.exits.ends) block.exits })))
    (sym c.self.view_is)
    (head_answers c.args.self.now c.args.link c.args.header (sym c.if-shares.ensures) c.requires c.args.status))

pub returns-else-shares-clause-moves : goal.returns-else-shares-clause-moves
returns-else-shares-clause-moves c =
    rw c.note_copy.ensures (copy_answers c.args.self.now c.args.link c.args.header (sym c.if-shares.ensures) c.requires c.args.status)
