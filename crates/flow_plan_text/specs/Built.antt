-- Why tables are refused as blocks or links where their keys are as they should be: a step or a predicate is none.
use Rattle.std.specs.Prelude.{◌≡◌, ℕ, List}
use Rattle.toml.specs.Data.{Members}
use Rattle.toml.specs.View.{items_view}
use Rattle.toml.specs.declared.value.Value.{Value}
use Rattle.flow_plan_text.specs.Read.{HasBadWork, HasBadWhen, IsFirstBadWork, IsFirstBadWhen}
use Rattle.flow_fault_text.specs.declared.fault.TextFault.TheVariants.{BadWork, BadWhen}
use Rattle.flow_fault_text.specs.declared.fault.TextPlace.{TextPlace}
use Rattle.flow_fault_text.specs.declared.fault.TextPlace.TheVariants.{Block, Link}
use Rattle.flow_fault_text.specs.declared.fault.TextRefusal.{TextRefusal}
use Rattle.flow_fault_text.specs.declared.fault.TextRefusal.TheVariants.{Fault, Memory}

-- of the function of one table
abbrev pub IsWorkRefusal : Members → TextPlace → TextRefusal → Type 0
IsWorkRefusal ms place (Fault fault) = (fault ≡ BadWork place) × HasBadWork ms
IsWorkRefusal ms place Memory = Unit {0}

-- of the predicate of one table
abbrev pub IsWhenRefusal : Members → TextPlace → TextRefusal → Type 0
IsWhenRefusal ms place (Fault fault) = (fault ≡ BadWhen place) × HasBadWhen ms
IsWhenRefusal ms place Memory = Unit {0}

-- of the first table whose function is none
abbrev pub IsBlocksRefusal : List Value → TextRefusal → Type 0
IsBlocksRefusal tables (Fault fault) = (n : ℕ) × (fault ≡ BadWork (Block n)) × IsFirstBadWork (items_view tables) n
IsBlocksRefusal tables Memory = Unit {0}

-- of the first table whose predicate is none
abbrev pub IsLinksRefusal : List Value → TextRefusal → Type 0
IsLinksRefusal tables (Fault fault) = (n : ℕ) × (fault ≡ BadWhen (Link n)) × IsFirstBadWhen (items_view tables) n
IsLinksRefusal tables Memory = Unit {0}
