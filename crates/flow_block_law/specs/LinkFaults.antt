-- Of the faults that came over links into a block, the one over the link with the lowest number counts.
use Rattle.std.specs.Prelude.{◌≡◌, ℕ, ◌<◌, ◌≤◌, ◌==◌, Bool, true, ◌&&◌, List, length, Some, None, is_some}
use Rattle.flow_link.specs.Lists.{some}
use Rattle.flow_intake.specs.Port.{EndState, PortState, link_in, stage_in}
use Rattle.flow_intake.specs.Ended.{fault_seen}
use Rattle.flow_block.specs.Block.{port_in}
use Rattle.flow_block_law.specs.NodeLaw.{is_fault_seen}
use Rattle.flow_block.specs.Peeks.{link_fault}

-- over the end's link came this fault
abbrev pub has_brought : ℕ × ℕ → EndState → Bool
has_brought fault end = (end.link == fault.0) && is_fault_seen fault.1 end

pub record LowestLinkCounts : Type 0 where
  -- what counts came over that link
  pub there : (ports : List PortState) (fault : ℕ × ℕ) → link_fault ports ≡ Some fault
      → some (λ (port : PortState). some (λ (end : EndState). has_brought fault end) port.ends) ports ≡ true
  -- and none came over a link with a lower number, at whichever port
  pub lowest : (ports : List PortState) (fault : ℕ × ℕ) → link_fault ports ≡ Some fault
      → (p k : ℕ) → p < length ports → k < length (port_in ports p).ends
      → is_some (fault_seen (stage_in k (port_in ports p).ends)) ≡ true
      → fault.0 ≤ link_in k (port_in ports p).ends
  -- where none counts, none came
  pub none : (ports : List PortState) → link_fault ports ≡ None
      → (p k : ℕ) → p < length ports → k < length (port_in ports p).ends
      → fault_seen (stage_in k (port_in ports p).ends) ≡ None
