use Rattle.flow_link.specs.declared.phase.Phase.TheVariants.{Ended}
use Rattle.flow_link.specs.Views.{crossed}
use Rattle.flow_link.proofs.LinksTell.{ends_numbered}
use Rattle.flow_wire.proofs.source.SourceEnd.end.Goals as goal

pub store-requires-clause-numbered : goal.store-requires-clause-numbered
store-requires-clause-numbered c = ends_numbered _ _ (Ended c.args.how) c.requires.rule
