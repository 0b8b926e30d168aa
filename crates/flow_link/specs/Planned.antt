-- What a contract sees of a plan: its layout.
use Rattle.flow_link.specs.declared.plan.Plan.{Plan}
use Rattle.flow_link.specs.Layout.{Layout}

abbrev pub layout_of : {W : Type 0} → Plan W → Layout W
layout_of plan = record { blocks = plan.blocks.items; links = plan.links.items }
