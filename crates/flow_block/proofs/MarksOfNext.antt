-- No more marks may follow a block after it makes its next outputs by itself than before.
use Rattle.std.proofs.Common.{ℕ, ◌≤◌, List, [], ◌∷◌, take, refl, arith}
use Rattle.flow_value.specs.declared.value.Value.{Value}
use Rattle.flow_link.specs.declared.kinds.BlockUnit.{BlockUnit}
use Rattle.flow_link.specs.declared.kinds.BlockUnit.TheVariants as unit
use Rattle.flow_link.specs.Kinds.{unit_of}
use Rattle.flow_intake.specs.Calls.{first_of, gives_room, takes_next}
use Rattle.flow_block.specs.Block.{BlockState, held_by, takes_group, puts_out}
use Rattle.flow_block.specs.JournalFits.{marks_due}
use Rattle.flow_block.specs.Traits.{goes_on_by_unit, makes_its_next}
use Rattle.flow_block.proofs.CopiesFit.{due_copy_next}
use Rattle.flow_block.proofs.MarksFit.{first_kept}
use Rattle.flow_block.proofs.TuplesFit.{due_tuple}

due_out : (values : List Value) (block : BlockState) → marks_due (puts_out values block) ≤ marks_due block
due_out [] block = omega (arith, first_kept (λ port. gives_room 1 (takes_next port)) block.ports (λ port. refl))
due_out (value ∷ values) block = omega (arith, first_kept takes_next block.ports (λ port. refl))

due_made : (made : BlockUnit) (block : BlockState) → marks_due (goes_on_by_unit made block) ≤ marks_due block
due_made unit.Message block = due_out (take 1 (held_by block)) block
due_made unit.Row block = omega (arith, first_kept (takes_group block.size) block.ports (λ port. refl))
due_made unit.Tuple block = omega (arith, due_tuple block)
due_made unit.Group block = due_out (take 1 (held_by block)) block
due_made unit.Copy block = due_copy_next (first_of (held_by block)) block
due_made unit.OneCopy block = due_out (take 1 (held_by block)) block

pub due_next : (block : BlockState) → marks_due (makes_its_next block) ≤ marks_due block
due_next block = due_made (unit_of block.kind) block
