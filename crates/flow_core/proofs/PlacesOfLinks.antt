-- The end that a block has of a link is there, at the link's place, and is the link's.
use Rattle.std.proofs.Common.{◌≡◌, ℕ, ◌<◌, ◌==◌, Bool, true, false, cond, List, length, get_or, map, Result, refl, ap, sym, ◌∙◌, arith, eq-eqb}
use Rattle.std.proofs.lemmas.Bool.{and_from}
use Rattle.std.proofs.lemmas.List as lists
use Rattle.std.proofs.Math.ListN.{get_or-map}
use Rattle.flow_value.specs.declared.value.Value.{Value}
use Rattle.flow_link.specs.declared.plan.LinkSource.TheVariants.{Block}
use Rattle.flow_link.specs.declared.plan.LinkTarget.TheVariants.{Port, Exit}
use Rattle.flow_link.specs.Layout.{Layout}
use Rattle.flow_link.specs.Plan.{link_in, begins_at, ends_at_port, is_one_taker}
use Rattle.flow_intake.specs.Port.{EndState, end_in, fresh_end}
use Rattle.flow_outlet.specs.Outlet.{end_at}
use Rattle.flow_spread.specs.Spread.{link_at}
use Rattle.flow_block.specs.Block.{port_at}
use Rattle.flow_block.specs.Node.{NodeState}
use Rattle.flow_block_law.specs.NodeLaw.{NodeLaw}
use Rattle.flow_block.specs.Planned.{is_out_of, is_into, is_exit, leads_out, links_to, rule_of, out_place, in_place}
use Rattle.flow_block_law.proofs.PlacesOfCopies.{copy_out_of}
use Rattle.flow_block_law.proofs.PlacesOfLinks.{end_out_of}
use Rattle.flow_core.specs.Keeps.{IsRun}
use Rattle.flow_core.specs.MovesFit.{out_count, out_rule}
use Rattle.flow_link.proofs.PlacesTell.{place_rises, place_finds}

module _ {W : Type 0} (layout : Layout W) where
  -- a link that leads so passes the test of the links that do
  pub begins_here : (b l : ℕ) → (link_in layout.links l).source ≡ Block b → is_out_of layout b l ≡ true
  begins_here b l from = ap (begins_at b) from ∙ eq-eqb b b refl

  pub ends_here : (b p l : ℕ) → (link_in layout.links l).target ≡ Port b p → is_into layout b p l ≡ true
  ends_here b p l to = ap (ends_at_port b p) to ∙ and_from (b == b) (p == p) (eq-eqb b b refl) (eq-eqb p p refl)

  pub leads_there : (l : ℕ) → (link_in layout.links l).target ≡ Exit → leads_out layout l ≡ true
  leads_there l to = ap is_exit to

  module _ (meaning : ℕ → Value → Result (List Value) ℕ) (b : ℕ) (node : NodeState)
      (law : NodeLaw layout meaning b node) where
    -- the end of a link out of the block, which shares its messages out or copies them
    module _ (l : ℕ) (there : l < length layout.links) (from : (link_in layout.links l).source ≡ Block b) where
      module _ (shares : is_one_taker node.block.kind ≡ true) where
        pub exit_there : out_place layout b l < length node.block.exits.ends
        exit_there = (end_out_of layout meaning b node.block law.shape shares l there from).there

        rule_there : (end_at node.block.exits (out_place layout b l)).rule ≡ rule_of layout l
        rule_there = (end_out_of layout meaning b node.block law.shape shares l there from).rule_is

      module _ (copying : is_one_taker node.block.kind ≡ false) where
        pub copy_there : out_place layout b l < length node.block.copies.ends
        copy_there = (copy_out_of layout b node.block.copies (law.copies.copier copying).rules l there from).there

        copy_rule_there : (link_at node.block.copies (out_place layout b l)).rule ≡ rule_of layout l
        copy_rule_there = (copy_out_of layout b node.block.copies (law.copies.copier copying).rules l there from).rule_is

      -- either
      there_by : (sharing : Bool) → is_one_taker node.block.kind ≡ sharing
          → out_place layout b l < cond sharing (length node.block.exits.ends) (length node.block.copies.ends)
      there_by true shares = exit_there shares
      there_by false copying = copy_there copying

      rule_by : (sharing : Bool) → is_one_taker node.block.kind ≡ sharing
          → cond sharing (end_at node.block.exits (out_place layout b l)).rule (link_at node.block.copies (out_place layout b l)).rule
          ≡ rule_of layout l
      rule_by true shares = rule_there shares
      rule_by false copying = copy_rule_there copying

      pub out_there : out_place layout b l < out_count node
      out_there = there_by (is_one_taker node.block.kind) refl

      pub out_rule_there : out_rule (out_place layout b l) node ≡ rule_of layout l
      out_rule_there = rule_by (is_one_taker node.block.kind) refl

    -- the end of a link into a port of the block
    module _ (run : IsRun layout) (p l : ℕ) (there : l < length layout.links)
        (to : (link_in layout.links l).target ≡ Port b p) where
      pub port_there : p < length node.block.ports
      port_there = omega (arith, (run.well_formed.enters l b p there to).1, law.shape.port_count_is)

      planned : map (λ (end : EndState). end.link) (port_at p node.block).ends ≡ links_to layout b p
      planned = (law.shape.ports p port_there).links

      pub entry_there : in_place layout b p l < length (port_at p node.block).ends
      entry_there =
          omega (
            arith,
            lists.length-map (port_at p node.block).ends (λ (end : EndState). end.link),
            ap length planned,
            place_rises (is_into layout b p) l (length layout.links) there (ends_here b p l to),
          )

      pub link_there : (end_in (in_place layout b p l) (port_at p node.block).ends).link ≡ l
      link_there =
          let place = in_place layout b p l in
          sym (get_or-map (λ (end : EndState). end.link) (port_at p node.block).ends place (fresh_end 0))
          ∙ ap (λ (ids : List ℕ). get_or ids place 0) planned
          ∙ place_finds (is_into layout b p) l (length layout.links) 0 there (ends_here b p l to)
