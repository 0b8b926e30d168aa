use Rattle.std.proofs.Common.{◌≡◌, ◌++◌, map, drop}
use Rattle.toml.specs.View.{items_view}
use Rattle.flow_plan_text.specs.Read.{texts}
use Rattle.flow_plan_text.proofs.network.build.texts_among.Given as goal

-- the texts so far, and those of the rest
abbrev pub invariant-loop-item : goal.invariant-loop-item
invariant-loop-item l = map (λ text. text.now) l.all.items ++ texts (items_view (drop l.item-index l.items)) ≡ texts (items_view l.items)
