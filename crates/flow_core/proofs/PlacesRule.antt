-- The rule of the end at a place out of a node, and the link of the end at a place of a port, are those of the plan.
use Rattle.std.proofs.Common.{◌≡◌, ℕ, ◌<◌, Bool, true, false, cond, List, [], length, get_or, map, Result, refl, ap, sym, subst, ◌∙◌}
use Rattle.std.proofs.lemmas.List as lists
use Rattle.std.proofs.Math.ListN.{get_or-map}
use Rattle.flow_value.specs.declared.value.Value.{Value}
use Rattle.flow_link.specs.Layout.{Layout}
use Rattle.flow_link.specs.Plan.{is_one_taker}
use Rattle.flow_intake.specs.Port.{EndState, end_in, fresh_end}
use Rattle.flow_outlet.specs.declared.ends.LinkRule.{LinkRule}
use Rattle.flow_outlet.specs.declared.ends.OutEnd.{OutEnd}
use Rattle.flow_outlet.specs.End.{no_end}
use Rattle.flow_outlet.specs.Outlet.{end_at}
use Rattle.flow_spread.specs.Spread.{link_at}
use Rattle.flow_block.specs.Block.{port_at}
use Rattle.flow_block.specs.Node.{NodeState}
use Rattle.flow_block.specs.Planned.{links_from, links_to, rule_of}
use Rattle.flow_block_law.specs.NodeLaw.{NodeLaw}
use Rattle.flow_block_law.proofs.PlacesOfCopies.{count_copies, rule_at}
use Rattle.flow_block_law.proofs.PlacesOfLinks.{count_in}
use Rattle.flow_core.specs.MovesFit.{out_count, out_rule, in_count}

module _ {W : Type 0} (layout : Layout W) (meaning : ℕ → Value → Result (List Value) ℕ) (b : ℕ) (node : NodeState)
    (law : NodeLaw layout meaning b node) where
  -- Where the block shares its messages out

  rules_by : (sharing : Bool) → is_one_taker node.block.kind ≡ sharing
      → map (λ (end : OutEnd). end.rule) node.block.exits.ends ≡ cond sharing (map (rule_of layout) (links_from layout b)) []
  rules_by sharing is =
      law.shape.rules ∙ ap (λ (so : Bool). cond so (map (rule_of layout) (links_from layout b)) []) is

  count_shared : is_one_taker node.block.kind ≡ true → length node.block.exits.ends ≡ length (links_from layout b)
  count_shared shares =
      sym (lists.length-map node.block.exits.ends (λ (end : OutEnd). end.rule)) ∙ ap length (rules_by true shares)
      ∙ lists.length-map (links_from layout b) (rule_of layout)

  rule_shared : is_one_taker node.block.kind ≡ true → (k : ℕ) → k < length (links_from layout b)
      → (end_at node.block.exits k).rule ≡ rule_of layout (get_or (links_from layout b) k 0)
  rule_shared shares k small =
      sym (get_or-map (λ (end : OutEnd). end.rule) node.block.exits.ends k no_end)
      ∙ ap (λ (rules : List LinkRule). get_or rules k no_end.rule) (rules_by true shares)
      ∙ lists.get_or-map (rule_of layout) (links_from layout b) k 0 no_end.rule small

  -- Either

  count_by : (sharing : Bool) → is_one_taker node.block.kind ≡ sharing
      → cond sharing (length node.block.exits.ends) (length node.block.copies.ends) ≡ length (links_from layout b)
  count_by true shares = count_shared shares
  count_by false copying = count_copies layout b node.block.copies (law.copies.copier copying).rules

  pub out_count_is : out_count node ≡ length (links_from layout b)
  out_count_is = count_by (is_one_taker node.block.kind) refl

  pub out_rule_is : (k : ℕ) → k < out_count node → out_rule k node ≡ rule_of layout (get_or (links_from layout b) k 0)
  out_rule_is k there = rule_by (is_one_taker node.block.kind) refl (subst (λ (count : ℕ). k < count) out_count_is there)
    where
      rule_by : (sharing : Bool) → is_one_taker node.block.kind ≡ sharing → k < length (links_from layout b)
          → cond sharing (end_at node.block.exits k).rule (link_at node.block.copies k).rule
          ≡ rule_of layout (get_or (links_from layout b) k 0)
      rule_by true shares low = rule_shared shares k low
      rule_by false copying low = rule_at layout b node.block.copies (law.copies.copier copying).rules k low

  -- And into a port

  pub in_count_is : (p : ℕ) → p < length node.block.ports → in_count p node ≡ length (links_to layout b p)
  in_count_is p there = count_in layout meaning b node.block law.shape p there

  pub in_link_is : (p k : ℕ) → p < length node.block.ports
      → (end_in k (port_at p node.block).ends).link ≡ get_or (links_to layout b p) k 0
  in_link_is p k there =
      sym (get_or-map (λ (end : EndState). end.link) (port_at p node.block).ends k (fresh_end 0))
      ∙ ap (λ (links : List ℕ). get_or links k 0) (law.shape.ports p there).links
