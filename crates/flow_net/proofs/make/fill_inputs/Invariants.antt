use Rattle.std.proofs.Common.{◌≡◌, ◌≤◌, ◌++◌, length, map, vec_len, vec_capacity}
use Rattle.std.specs.Vec.Iter.{into_iter_items}
use Rattle.flow_input.specs.Input.{fresh_input}
use Rattle.flow_link.specs.Posted.{input_of}
use Rattle.flow_net.proofs.make.fill_inputs.Given as goal

abbrev pub invariant-loop-input : goal.invariant-loop-input
invariant-loop-input l = record {
  parts : l.fn.posted.items ≡ l.yielded ++ into_iter_items l.input-iterator;
  made : l.inputs.items ≡ map fresh_input (map input_of l.yielded);
  filled : vec_len l.inputs ≡ length l.yielded;
  room : length l.fn.posted.items ≤ vec_capacity l.inputs;
}
