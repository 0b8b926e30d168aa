use Rattle.std.proofs.Common.{◌≡◌, map, replicate}
use Rattle.flow_link.specs.Posted.{input_of}
use Rattle.flow_front.specs.Inputs.{nothing_posted}
use Rattle.flow_front.proofs.post.empty_lists.Given as goal

abbrev pub invariant-loop-made : goal.invariant-loop-made
invariant-loop-made l = map input_of l.lists.items ≡ replicate l._made nothing_posted
