-- A link in order stays so when both ends begin to count later: values that were given and taken move into `before`.
use Rattle.std.specs.Prelude.{◌+◌, List, ◌++◌, length, Option, ◌↔◌}
use Rattle.flow_link.specs.declared.phase.Phase.{Phase}
use Rattle.flow_link.specs.Views.{SourceView, TargetView, LinkFacts}
use Rattle.flow_link.specs.LinkOk.{LinkOk}

module _ {V : Type 0} where
  -- the account with these values in front, and the account that only counts them
  abbrev pub source_with : List V → SourceView V → SourceView V
  source_with front view = record view { given = front ++ view.given }

  abbrev pub source_counting : List V → SourceView V → SourceView V
  source_counting front view = record view { before = view.before + length front }

  abbrev pub target_with : List V → TargetView V → TargetView V
  target_with front view = record view { taken = front ++ view.taken }

  abbrev pub target_counting : List V → TargetView V → TargetView V
  target_counting front view = record view { before = view.before + length front }

-- both accounts tell the same
abbrev pub Rebases : Type 0 → Type 0
Rebases V =
    (facts : LinkFacts) (phase : Phase) (slot : Option V) (source : SourceView V) (target : TargetView V) (front : List V)
    → LinkOk facts phase slot (source_with front source) (target_with front target)
    ↔ LinkOk facts phase slot (source_counting front source) (target_counting front target)
