use Rattle.std.proofs.Common.{sym, subst}
use Rattle.flow_link.specs.SourceCalls.{GivesUp}
use Rattle.flow_block.specs.Block.{BlockState}
use Rattle.flow_block.specs.Traits.{source_at, releases_head}
use Rattle.flow_block.proofs.SourceMoves.{head_releases, copy_releases}
use Rattle.flow_block.proofs.traits.BlockSourceBlock.release_reservation.Goals as goal

pub returns-then-shares-clause-moves : goal.returns-then-shares-clause-moves
returns-then-shares-clause-moves c =
    rw (← c.self.view_is, c.release_reservation.ensures)
    (subst (λ (block : BlockState). GivesUp c.args.link c.args.header (source_at block)
    (source_at (releases_head c.args.link c.args.header block)))
    (sym c.self.view_is)
    (head_releases c.args.self.now c.args.link c.args.header (sym c.if-shares.ensures) c.requires))

pub returns-else-shares-clause-moves : goal.returns-else-shares-clause-moves
returns-else-shares-clause-moves c =
    rw c.release_copy.ensures (copy_releases c.args.self.now c.args.link c.args.header (sym c.if-shares.ensures) c.requires)
