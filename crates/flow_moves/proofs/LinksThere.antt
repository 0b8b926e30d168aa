-- Each link of a network in order is there, and has its two ends at the places that its way names.
use Rattle.std.proofs.Common.{◌≡◌, ℕ, ◌<◌, cond, Bool, true, false, List, length, Result, refl, sym, subst, arith}
use Rattle.std.specs.List.{count_by}
use Rattle.flow_value.specs.declared.value.Value.{Value}
use Rattle.flow_link.specs.declared.plan.LinkSource.{LinkSource}
use Rattle.flow_link.specs.declared.plan.LinkSource.TheVariants.{Block, Input}
use Rattle.flow_link.specs.declared.plan.LinkTarget.{LinkTarget}
use Rattle.flow_link.specs.declared.plan.LinkTarget.TheVariants.{Port, Exit}
use Rattle.flow_link.specs.Layout.{Layout}
use Rattle.flow_link.specs.Plan.{link_in, no_block, is_one_taker}
use Rattle.flow_core.specs.InOrder.{NetInOrder}
use Rattle.flow_core.specs.Keeps.{IsRun}
use Rattle.flow_block.specs.Planned.{out_place, input_place, leads_out}
use Rattle.flow_core.specs.State.{NetState, node_at}
use Rattle.flow_core.proofs.KeptIsLawful.{kept_in_order}
use Rattle.flow_core.proofs.PlacesOfLinks.{exit_there, copy_there, entry_there, port_there, leads_there}
use Rattle.flow_link.proofs.PlacesTell.{count_within, place_rises}
use Rattle.flow_moves.specs.Ready.{IsThere, SourceIsThere, TargetIsThere, exit_count}
use Rattle.flow_moves.specs.Statements.{LinksAreThere}
use Rattle.flow_block.specs.Routes.{source_place, target_place, route_of}

module _ {W : Type 0} (layout : Layout W) (meaning : ℕ → Value → Result (List Value) ℕ) (run : IsRun layout)
    (net : NetState) (ok : NetInOrder layout meaning net) (l : ℕ) (there : l < length layout.links) where
  -- the input at which a link begins is one of all inputs
  input_there : (b : ℕ) → (link_in layout.links l).source ≡ Input b → input_place layout b < length net.inputs
  input_there b from =
      let within : input_place layout b < count_by (λ block. block.input) layout.blocks =
      count_within (λ block. block.input) layout.blocks b no_block
      (run.leads.from_input l b there from) (run.leads.from_inputs l b there from) in
      omega (arith, within, ok.input_count)

  -- a link out of a block is one of those over which it shares its messages out, or of those over which it copies them
  exit_within : (s : ℕ) → s < length layout.blocks → (link_in layout.links l).source ≡ Block s → (sharing : Bool)
      → is_one_taker (node_at net s).block.kind ≡ sharing → out_place layout s l < exit_count (node_at net s)
  exit_within s low from true shares =
      let node = node_at net s in
      subst (λ (so : Bool). out_place layout s l < cond so (length node.block.exits.ends) (length node.block.copies.ends)) (sym shares)
      (exit_there layout meaning s node (ok.nodes s low) l there from shares)
  exit_within s low from false copying =
      let node = node_at net s in
      subst (λ (so : Bool). out_place layout s l < cond so (length node.block.exits.ends) (length node.block.copies.ends)) (sym copying)
      (copy_there layout meaning s node (ok.nodes s low) l there from copying)

  source_there : (source : LinkSource) → (link_in layout.links l).source ≡ source
      → SourceIsThere net source (source_place layout source l)
  source_there (Block s) from =
      let low = run.leads.from_block l s there from in
      let node : s < length net.nodes = omega (arith, low, ok.node_count) in
      (node, exit_within s low from (is_one_taker (node_at net s).block.kind) refl)
  source_there (Input b) from = input_there b from

  target_there : (target : LinkTarget) → (link_in layout.links l).target ≡ target
      → TargetIsThere net target (target_place layout target l)
  target_there (Port t p) to =
      let low = run.leads.to_block l t p there to in
      let node : t < length net.nodes = omega (arith, low, ok.node_count) in (
        node,
        record {
          port = port_there layout meaning t (node_at net t) (ok.nodes t low) run p l there to;
          place = entry_there layout meaning t (node_at net t) (ok.nodes t low) run p l there to;
          stands = refl;
        },
      )
  target_there Exit to =
      omega (arith, place_rises (leads_out layout) l (length layout.links) there (leads_there layout l to), ok.exit_count)

  pub link_there : IsThere net l (route_of layout l)
  link_there = record {
    line = omega (arith, there, ok.line_count);
    source = source_there (link_in layout.links l).source refl;
    target = target_there (link_in layout.links l).target refl;
  }

pub links_are_there : (W : Type 0) → LinksAreThere W
links_are_there W layout meaning run net keeps l there = link_there layout meaning run net (kept_in_order keeps) l there
