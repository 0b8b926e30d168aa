-- Where the first fault of a pass stands.
use Rattle.std.proofs.Common.{◌≡◌, ℕ, ◌+◌, Bool, false, List, [], ◌∷◌, Some, cond, position, codes, refl, ap, ◌∙◌}
use Rattle.std.specs.List.{position_from}
use Rattle.std.proofs.lemmas.Iterator.Adapters.{position_from-zero}
use Rattle.toml.specs.Data.{Data, Members}
use Rattle.toml.specs.View.{view, items_view}
use Rattle.toml.specs.declared.value.Value.{Value}
use Rattle.flow_plan_text.specs.Keys.{is_wrong}
use Rattle.flow_plan_text.specs.Passes.{first_from, first_place, is_wrong_in, section}
use Rattle.flow_fault_text.specs.declared.fault.TextPlace.TheVariants as place
use Rattle.flow_plan_text.specs.declared.network.keys.Check.{Check}
use Rattle.flow_plan_text.specs.declared.network.keys.Part.TheVariants.{Top, Block}

position_from_view : (test : Data → Bool) (n : ℕ) (vs : List Value) → position_from (λ v. test (view v)) n vs ≡ first_from test n (items_view vs)
position_from_view test n [] = refl
position_from_view test n (v ∷ vs) = ap (cond (test (view v)) (Some n)) (position_from_view test (n + 1) vs)

-- the first value that passes the test is the first item that does
pub position_view : (test : Data → Bool) (vs : List Value) → position (λ v. test (view v)) vs ≡ first_from test 0 (items_view vs)
position_view test vs = position_from-zero (λ v. test (view v)) vs ∙ position_from_view test 0 vs

-- the first place is that of the first block
pub place_of_block : (check : Check) (top : Members) (n : ℕ) → is_wrong check Top top ≡ false
    → first_from (is_wrong_in check Block) 0 (section (codes "block") top) ≡ Some n → Some (place.Block n) ≡ first_place check top
place_of_block check top n fine first = rw (first_place, fine, first)
