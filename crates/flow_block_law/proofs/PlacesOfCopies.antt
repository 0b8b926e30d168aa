-- Each link over which copies go has its end at its place, and each end has a link of its own.
use Rattle.std.proofs.Common.{◌≡◌, ◌≢◌, ℕ, ◌<◌, ◌==◌, false, List, length, get_or, map, ap, sym, ◌∙◌, subst, arith, ne_eqb}
use Rattle.std.proofs.Math.ListN.{get_or-map}
use Rattle.std.proofs.lemmas.List as lists
use Rattle.flow_link.specs.declared.plan.LinkSource.TheVariants.{Block}
use Rattle.flow_link.specs.Layout.{Layout}
use Rattle.flow_link.specs.Plan.{link_in}
use Rattle.flow_outlet.specs.declared.ends.LinkRule.{LinkRule}
use Rattle.flow_spread.specs.declared.end.CopyEnd.{CopyEnd}
use Rattle.flow_spread.specs.End.{no_end}
use Rattle.flow_spread.specs.Spread.{SpreadState, link_at}
use Rattle.flow_block.specs.Planned.{is_out_of, links_from, rule_of, out_place}
use Rattle.flow_block_law.proofs.PlacesOfLinks.{source_there, there_at_source}
use Rattle.flow_link.proofs.PlacesOfNumbers.{stands_below, place_below}

abbrev pub rule_at_end : CopyEnd → LinkRule
rule_at_end end = end.link.rule

module _ {W : Type 0} (layout : Layout W) (b : ℕ) (copies : SpreadState)
    (rules : map rule_at_end copies.ends ≡ map (rule_of layout) (links_from layout b)) where
  pub count_copies : length copies.ends ≡ length (links_from layout b)
  count_copies =
      sym (lists.length-map copies.ends rule_at_end) ∙ ap length rules ∙ lists.length-map (links_from layout b) (rule_of layout)

  pub rule_at : (k : ℕ) → k < length (links_from layout b)
      → (link_at copies k).rule ≡ rule_of layout (get_or (links_from layout b) k 0)
  rule_at k small =
      sym (get_or-map rule_at_end copies.ends k no_end)
      ∙ ap (λ (all : List LinkRule). get_or all k no_end.link.rule) rules
      ∙ lists.get_or-map (rule_of layout) (links_from layout b) k 0 no_end.link.rule small

  -- an end at a place is that of a link that leads from the block, and this place is the link's
  pub record IsCopyOut (k l : ℕ) : Type 0 where
    pub there : l < length layout.links
    pub begins : (link_in layout.links l).source ≡ Block b
    pub place : out_place layout b l ≡ k
    pub rule_is : (link_at copies k).rule ≡ rule_of layout l

  pub copy_out_is : (k : ℕ) → k < length copies.ends → IsCopyOut k (link_at copies k).rule.id
  copy_out_is k small =
      let low : k < length (links_from layout b) = omega (arith, small, count_copies) in
      let stands = stands_below (is_out_of layout b) (length layout.links) k low in
      let rule = rule_at k low in
      let is : IsCopyOut k (get_or (links_from layout b) k 0) = record {
        there = stands.there;
        begins = source_there b (link_in layout.links (get_or (links_from layout b) k 0)).source stands.passes;
        place = stands.before;
        rule_is = rule;
      } in
      subst (IsCopyOut k) (sym (ap (λ (r : LinkRule). r.id) rule)) is

  -- two ends have two links
  pub copies_differ : (j k : ℕ) → j < length copies.ends → k < length copies.ends → j ≢ k
      → (link_at copies k).rule.id == (link_at copies j).rule.id ≡ false
  copies_differ j k here there apart =
      ne_eqb (link_at copies k).rule.id (link_at copies j).rule.id (λ same.
      apart (sym (copy_out_is j here).place ∙ ap (out_place layout b) (sym same) ∙ (copy_out_is k there).place))

  -- and each link that leads from the block has its end at its place
  pub record HasCopyOut (l : ℕ) : Type 0 where
    pub there : out_place layout b l < length copies.ends
    pub rule_is : (link_at copies (out_place layout b l)).rule ≡ rule_of layout l

  pub copy_out_of : (l : ℕ) → l < length layout.links → (link_in layout.links l).source ≡ Block b → HasCopyOut l
  copy_out_of l small begins =
      let has = place_below (is_out_of layout b) (length layout.links) l small
      (there_at_source b (link_in layout.links l).source begins) in
      record {
        there = omega (arith, count_copies, has.there);
        rule_is = rule_at (out_place layout b l) has.there ∙ ap (rule_of layout) has.is_there;
      }
