-- Blocks and links as they are written where nothing is asked of them but what must be there.
use Rattle.std.specs.Prelude.{ℕ, false, List, None}
use Rattle.flow_link.specs.declared.draft.BlockDef.{BlockDef}
use Rattle.flow_link.specs.declared.draft.BlockKind.{BlockKind}
use Rattle.flow_link.specs.declared.draft.LinkDef.{LinkDef}

-- a block with no option
abbrev pub block_alone : {W : Type 0} → List ℕ → BlockKind → BlockDef W
block_alone name kind = record { name = name; kind = kind; input = false; output = false; capacity = None; work = None; lanes = None; size = None; ports = None; greedy = None }

-- a link with no option
abbrev pub link_alone : List ℕ → List ℕ → LinkDef
link_alone from to = record { from = from; to = to; port = None; when = None; max = None; propagate = false }
