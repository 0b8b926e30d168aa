-- No link of an input reserves: values are posted to no join.
use Rattle.std.proofs.Common.{◌≡◌, ℕ, ◌<◌, Bool, true, false, ◌&&◌, length, Option, is_some, refl, ap, ◌∙◌}
use Rattle.std.proofs.lemmas.Bool.{and_parts}
use Rattle.flow_link.specs.declared.draft.BlockDef.{BlockDef}
use Rattle.flow_link.specs.declared.draft.BlockKind.{BlockKind}
use Rattle.flow_link.specs.declared.draft.BlockKind.TheVariants.{Join}
use Rattle.flow_link.specs.declared.plan.LinkSource.TheVariants.{Input}
use Rattle.flow_link.specs.declared.plan.LinkTarget.TheVariants.{Port}
use Rattle.flow_link.specs.Facts.{facts_in, reserves_in}
use Rattle.flow_link.specs.Kinds.{allows}
use Rattle.flow_link.specs.Layout.{Layout}
use Rattle.flow_link.specs.Plan.{block_in, link_in, is_reserving, reserves_by_kind}
use Rattle.flow_link.specs.PlanFaults.{options_fit, keys_fit, ranges_fit, is_name, input_rule, output_rule, capacity_rule, work_rule, lanes_rule, size_rule, ports_rule, greedy_rule}
use Rattle.flow_block_law.proofs.PlacesOfLinks.{target_there}
use Rattle.flow_core.specs.Keeps.{IsRun}

first_of_eight : (a b c d e f g h : Bool) → (a && b && c && d && e && f && g && h) ≡ true → a ≡ true
first_of_eight true b c d e f g h all = refl
first_of_eight false b c d e f g h all = absurd (never b c d e f g h all)
  where
    never : (b c d e f g h : Bool) → (false && b && c && d && e && f && g && h) ≡ true → ⊥
    never b c d e f g h all = cc

freely_by : (kind : BlockKind) (greedy : Option Bool) (input : Bool) → allows (input_rule kind) input ≡ true → input ≡ true
    → reserves_by_kind kind greedy ≡ false
freely_by Join greedy true fits is = absurd (cc)
freely_by Join greedy false fits is = absurd (cc)
freely_by _ greedy input fits is = refl

takes_freely : {W : Type 0} (block : BlockDef W) → options_fit block ≡ true → block.input ≡ true → is_reserving block ≡ false
takes_freely block fit input =
    let named = (and_parts (is_name block.name && keys_fit block) (ranges_fit block) fit).0 in
    let keys = (and_parts (is_name block.name) (keys_fit block) named).1 in
    freely_by block.kind block.greedy block.input
    (first_of_eight (allows (input_rule block.kind) block.input) (allows (output_rule block.kind) block.output)
    (allows (capacity_rule block.kind) (is_some block.capacity)) (allows (work_rule block.kind) (is_some block.work))
    (allows (lanes_rule block.kind) (is_some block.lanes)) (allows (size_rule block.kind) (is_some block.size))
    (allows (ports_rule block.kind) (is_some block.ports)) (allows (greedy_rule block.kind) (is_some block.greedy)) keys)
    input

module _ {W : Type 0} (layout : Layout W) (run : IsRun layout) (l b : ℕ) (there : l < length layout.links)
    (from : (link_in layout.links l).source ≡ Input b) where
  leads : (link_in layout.links l).target ≡ Port b 0
  leads = target_there b 0 (link_in layout.links l).target (run.well_formed.posted l b there from).0

  pub input_takes_freely : (facts_in layout l).reserving ≡ false
  input_takes_freely =
      ap (reserves_in layout) leads
      ∙ takes_freely (block_in layout.blocks b) (run.well_formed.options b (run.well_formed.enters l b 0 there leads).0)
      (run.well_formed.posted l b there from).1
