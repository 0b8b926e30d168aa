-- A group is put without a weight, so its room stays room that its ports gave out, and it takes no room for marks.
use Rattle.std.proofs.Common.{◌≡◌, ℕ, suc, ◌+◌, ◌-◌, ◌≤◌, cond, List, [], ◌∷◌, length, drop, Option, Some, None, is_some, refl, arith, subst, sym, length-drop}
use Rattle.flow_value.specs.declared.value.Value.{Value}
use Rattle.flow_intake.specs.Port.{PortState}
use Rattle.flow_outlet.specs.Outlet.{OutletState, puts}
use Rattle.flow_group.specs.Group.{came_at, takes_from}
use Rattle.flow_block.specs.Block.{BlockState}
use Rattle.flow_block.specs.BlockFits.{AllGaveOut, BlockFits, weight_out}
use Rattle.flow_block.specs.Groups.{makes_group}
use Rattle.flow_block.specs.JournalFits.{ports_due, marks_due}

some_less : (capacity : Option ℕ) (waiting : List Value) (count weight load : ℕ)
    → cond (is_some capacity) (length waiting + weight) 0 ≤ load
    → cond (is_some capacity) (length (drop count waiting) + weight) 0 ≤ load
some_less None waiting count weight load out = omega (arith, out)
some_less (Some room) waiting count weight load out =
    let fewer : length (drop count waiting) ≡ length waiting - count = length-drop count waiting in
    omega (arith, out, fewer)

all_less : (weight first : ℕ) (group : List ℕ) (ports : List PortState) → AllGaveOut weight ports
    → AllGaveOut weight (takes_from first group ports)
all_less weight first group [] all = tt
all_less weight first group (port ∷ ports) all =
    (some_less port.capacity port.waiting (came_at first group) weight port.load all.0, all_less weight (suc first) group ports all.1)

pub fits_group : {ports : List PortState} {exits : OutletState} {copied : ℕ} → BlockFits ports exits copied
    → (size : ℕ) (order : List ℕ) (row : Value) → BlockFits (takes_from 0 order ports) (puts (row ∷ []) 0 exits) copied
fits_group {ports} {exits} {copied} fits size order row =
    let few = fits.few in
    let same : weight_out (puts (row ∷ []) 0 exits) copied ≡ weight_out exits copied = omega arith in
    record {
      room = subst (λ (weight : ℕ). AllGaveOut weight (takes_from 0 order ports)) (sym same)
          (all_less (weight_out exits copied) 0 order ports fits.room);
      few = omega (arith, few);
    }

ports_owe : (first : ℕ) (group : List ℕ) (ports : List PortState) → ports_due (takes_from first group ports) ≡ ports_due ports
ports_owe first group [] = refl
ports_owe first group (port ∷ ports) = rw (ports_owe (suc first) group ports) refl

pub due_group : (size weight : ℕ) (order : List ℕ) (block : BlockState)
    → marks_due (makes_group size weight order block) ≡ marks_due block
due_group size weight order block = rw (ports_owe 0 _ block.ports) refl
