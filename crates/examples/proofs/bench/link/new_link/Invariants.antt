use Rattle.examples.specs.Links.{fresh}
use Rattle.examples.proofs.bench.link.new_link.Given as goal

abbrev pub ghost-new : goal.ghost-new
ghost-new a = fresh
