-- Each link into a port or out of a block has its end at its place there, and each end has a link of its own.
use Rattle.std.proofs.Common.{◌≡◌, ◌≢◌, ℕ, suc, ◌+◌, ◌<◌, ◌≤◌, ◌==◌, ◌&&◌, Bool, true, false, cond, List, [], ◌∷◌, length, get_or, map, filter, Result, refl, ap, sym, ◌∙◌, subst, arith, eq-eqb, eqb-true, ne_eqb}
use Rattle.std.proofs.lemmas.Bool.{and_from, and_parts}
use Rattle.std.proofs.Math.ListN.{get_or-map}
use Rattle.std.proofs.lemmas.List as lists
use Rattle.flow_value.specs.declared.value.Value.{Value}
use Rattle.flow_link.specs.declared.plan.Link.{Link}
use Rattle.flow_link.specs.declared.plan.LinkSource.{LinkSource}
use Rattle.flow_link.specs.declared.plan.LinkSource.TheVariants.{Block, Input}
use Rattle.flow_link.specs.declared.plan.LinkTarget.{LinkTarget}
use Rattle.flow_link.specs.declared.plan.LinkTarget.TheVariants.{Port, Exit}
use Rattle.flow_link.specs.declared.stage.TargetStage.{TargetStage}
use Rattle.flow_link.specs.Layout.{Layout}
use Rattle.flow_link.specs.Lists.{numbers_from, below}
use Rattle.flow_link.specs.Plan.{link_in, begins_at, ends_at, ends_at_port, links_into, is_one_taker}
use Rattle.flow_intake.specs.Port.{EndState, end_in, fresh_end, count_at}
use Rattle.flow_outlet.specs.declared.ends.LinkRule.{LinkRule}
use Rattle.flow_outlet.specs.declared.ends.OutEnd.{OutEnd}
use Rattle.flow_outlet.specs.End.{no_end}
use Rattle.flow_outlet.specs.Outlet.{end_at}
use Rattle.flow_block.specs.Block.{BlockState, port_at}
use Rattle.flow_block_law.specs.NodeLaw.{ShapeLaw}
use Rattle.flow_block.specs.Planned.{is_out_of, is_into, links_from, links_to, rule_of, out_place, in_place}
use Rattle.flow_link.proofs.PlacesOfNumbers.{stands_below, place_below, filter_two, length_cond, count_shift}

-- where a link leads, and whence
pub target_there : (b p : ℕ) (target : LinkTarget) → ends_at_port b p target ≡ true → target ≡ Port b p
target_there b p (Port n q) e =
    let both = and_parts (n == b) (q == p) e in
    ap (λ (t : ℕ). Port t q) (eqb-true n b both.0) ∙ ap (λ (k : ℕ). Port b k) (eqb-true q p both.1)
target_there b p Exit e = absurd (cc)

pub there_at_port : (b p : ℕ) (target : LinkTarget) → target ≡ Port b p → ends_at_port b p target ≡ true
there_at_port b p target e =
    ap (ends_at_port b p) e ∙ and_from (b == b) (p == p) (eq-eqb b b refl) (eq-eqb p p refl)

pub there_at_block : (b p : ℕ) (target : LinkTarget) → target ≡ Port b p → ends_at b target ≡ true
there_at_block b p target e = ap (ends_at b) e ∙ eq-eqb b b refl

pub source_there : (b : ℕ) (source : LinkSource) → begins_at b source ≡ true → source ≡ Block b
source_there b (Block n) e = ap Block (eqb-true n b e)
source_there b (Input n) e = absurd (cc)

pub there_at_source : (b : ℕ) (source : LinkSource) → source ≡ Block b → begins_at b source ≡ true
there_at_source b source e = ap (begins_at b) e ∙ eq-eqb b b refl

-- no more links enter a port than the block
port_is_part : (b p : ℕ) (target : LinkTarget) (m n : ℕ) → m ≤ n
    → cond (ends_at_port b p target) 1 0 + m ≤ cond (ends_at b target) 1 0 + n
port_is_part b p (Port c q) m n less = by_cases (c == b) (q == p)
  where
    by_cases : (same_block same_port : Bool) → cond (same_block && same_port) 1 0 + m ≤ cond same_block 1 0 + n
    by_cases true true = omega (arith, less)
    by_cases true false = omega (arith, less)
    by_cases false same_port = omega (arith, less)
port_is_part b p Exit m n less = omega (arith, less)

pub few_enter : (links : List Link) (b p : ℕ)
    → length (filter (λ l. ends_at_port b p (link_in links l).target) (below (length links))) ≤ links_into b links
few_enter [] b p = omega arith
few_enter (link ∷ links) b p =
    let into = λ (l : ℕ). ends_at_port b p (link_in (link ∷ links) l).target in
    let later = filter into (numbers_from 1 (length links)) in
    let first = length_cond (into 0) 0 later in
    let shifted = count_shift into 0 (length links) in
    let less = few_enter links b p in
    let rest = port_is_part b p link.target (length later) (links_into b links) (omega (arith, shifted, less)) in
    omega (arith, first, rest)

-- the ends of a port at which a message comes are as many as their links of which that holds
count_by_link : (test : TargetStage → Bool) (holds : ℕ → Bool) (ends : List EndState)
    → ((k : ℕ) → k < length ends → holds (end_in k ends).link ≡ test (end_in k ends).stage)
    → length (filter holds (map (λ (end : EndState). end.link) ends)) ≡ count_at test ends
count_by_link test holds [] same = refl
count_by_link test holds (end ∷ ends) same =
    let rest = filter holds (map (λ (end : EndState). end.link) ends) in
    let later : length rest ≡ count_at test ends =
    count_by_link test holds ends (λ k small. same (suc k) (omega arith)) in
    length_cond (holds end.link) end.link rest
    ∙ ap (λ (b : Bool). cond b 1 0 + length rest) (same 0 (omega arith))
    ∙ ap (λ (n : ℕ). cond (test end.stage) 1 0 + n) later

module _ {W : Type 0} (layout : Layout W) (meaning : ℕ → Value → Result (List Value) ℕ) (b : ℕ) (block : BlockState)
    (shape : ShapeLaw layout meaning b block) where
  -- an end at a place of a port is that of a link that leads there, and this place is the link's
  pub record IsEndIn (p k l : ℕ) : Type 0 where
    pub there : l < length layout.links
    pub leads : (link_in layout.links l).target ≡ Port b p
    pub place : in_place layout b p l ≡ k

  link_at : (p k : ℕ) → p < length block.ports
      → (end_in k (port_at p block).ends).link ≡ get_or (links_to layout b p) k 0
  link_at p k known =
      sym (get_or-map (λ (end : EndState). end.link) (port_at p block).ends k (fresh_end 0))
      ∙ ap (λ (ls : List ℕ). get_or ls k 0) (shape.ports p known).links

  pub count_in : (p : ℕ) → p < length block.ports → length (port_at p block).ends ≡ length (links_to layout b p)
  count_in p known =
      sym (lists.length-map (port_at p block).ends (λ (end : EndState). end.link))
      ∙ ap length (shape.ports p known).links

  pub end_in_is : (p k : ℕ) → p < length block.ports → k < length (port_at p block).ends
      → IsEndIn p k (end_in k (port_at p block).ends).link
  end_in_is p k known small =
      let stands = stands_below (is_into layout b p) (length layout.links) k (omega (arith, count_in p known)) in
      let is : IsEndIn p k (get_or (links_to layout b p) k 0) = record {
        there = stands.there;
        leads = target_there b p (link_in layout.links (get_or (links_to layout b p) k 0)).target stands.passes;
        place = stands.before;
      } in
      subst (IsEndIn p k) (sym (link_at p k known)) is

  -- and each link that leads there has its end at its place
  pub record HasEndIn (p l : ℕ) : Type 0 where
    pub there : in_place layout b p l < length (port_at p block).ends
    pub link_is : (end_in (in_place layout b p l) (port_at p block).ends).link ≡ l

  pub end_in_of : (p l : ℕ) → p < length block.ports → l < length layout.links
      → (link_in layout.links l).target ≡ Port b p → HasEndIn p l
  end_in_of p l known small leads =
      let has = place_below (is_into layout b p) (length layout.links) l small
      (there_at_port b p (link_in layout.links l).target leads) in
      record {
        there = omega (arith, count_in p known, has.there);
        link_is = link_at p (in_place layout b p l) known ∙ has.is_there;
      }

  -- two ends of links into the block have two links
  pub links_in_differ : (p q k j : ℕ) → p < length block.ports → q < length block.ports
      → k < length (port_at p block).ends → j < length (port_at q block).ends → ¬ ((q ≡ p) × (j ≡ k))
      → (end_in k (port_at p block).ends).link == (end_in j (port_at q block).ends).link ≡ false
  links_in_differ p q k j here there near far apart =
      let one = end_in_is p k here near in
      let other = end_in_is q j there far in
      let l = (end_in k (port_at p block).ends).link in
      let m = (end_in j (port_at q block).ends).link in
      ne_eqb l m (λ same.
      let ports : Port b q ≡ Port b p =
      sym other.leads ∙ ap (λ (n : ℕ). (link_in layout.links n).target) (sym same) ∙ one.leads in
      let port : q ≡ p = cc in
      apart (
        port,
        sym other.place ∙ ap (λ (r : ℕ). in_place layout b r m) port
            ∙ ap (in_place layout b p) (sym same) ∙ one.place,
      ))

  -- the same of the ends of links out of the block
  pub record IsEndOut (k l : ℕ) : Type 0 where
    pub there : l < length layout.links
    pub begins : (link_in layout.links l).source ≡ Block b
    pub place : out_place layout b l ≡ k
    pub rule_is : (end_at block.exits k).rule ≡ rule_of layout l

  rules_by : (sharing : Bool) → is_one_taker block.kind ≡ sharing
      → map (λ (end : OutEnd). end.rule) block.exits.ends ≡ cond sharing (map (rule_of layout) (links_from layout b)) []
  rules_by sharing is =
      shape.rules ∙ ap (λ (so : Bool). cond so (map (rule_of layout) (links_from layout b)) []) is

  -- where there is an end over which messages are shared out, the block shares them
  pub shares_at : (k : ℕ) → k < length block.exits.ends → is_one_taker block.kind ≡ true
  shares_at k there = by_test (is_one_taker block.kind) refl
    where
      by_test : (sharing : Bool) → is_one_taker block.kind ≡ sharing → sharing ≡ true
      by_test true is = refl
      by_test false is =
          let none : length block.exits.ends ≡ 0 =
          sym (lists.length-map block.exits.ends (λ (end : OutEnd). end.rule)) ∙ ap length (rules_by false is) in
          absurd (omega (arith, there, none))

  count_out : is_one_taker block.kind ≡ true → length block.exits.ends ≡ length (links_from layout b)
  count_out shares =
      sym (lists.length-map block.exits.ends (λ (end : OutEnd). end.rule)) ∙ ap length (rules_by true shares)
      ∙ lists.length-map (links_from layout b) (rule_of layout)

  rule_at : is_one_taker block.kind ≡ true → (k : ℕ) → k < length (links_from layout b)
      → (end_at block.exits k).rule ≡ rule_of layout (get_or (links_from layout b) k 0)
  rule_at shares k small =
      sym (get_or-map (λ (end : OutEnd). end.rule) block.exits.ends k no_end)
      ∙ ap (λ (rules : List LinkRule). get_or rules k no_end.rule) (rules_by true shares)
      ∙ lists.get_or-map (rule_of layout) (links_from layout b) k 0 no_end.rule small

  pub end_out_is : (k : ℕ) → k < length block.exits.ends → IsEndOut k (end_at block.exits k).rule.id
  end_out_is k small =
      let shares = shares_at k small in
      let low : k < length (links_from layout b) = omega (arith, small, count_out shares) in
      let stands = stands_below (is_out_of layout b) (length layout.links) k low in
      let rule = rule_at shares k low in
      let is : IsEndOut k (get_or (links_from layout b) k 0) = record {
        there = stands.there;
        begins = source_there b (link_in layout.links (get_or (links_from layout b) k 0)).source stands.passes;
        place = stands.before;
        rule_is = rule;
      } in
      subst (IsEndOut k) (sym (ap (λ (r : LinkRule). r.id) rule)) is

  -- two ends of links out of the block have two links, and that of the smaller number comes first
  pub links_out_differ : (j k : ℕ) → j < length block.exits.ends → k < length block.exits.ends → j ≢ k
      → (end_at block.exits k).rule.id == (end_at block.exits j).rule.id ≡ false
  links_out_differ j k here there apart =
      ne_eqb (end_at block.exits k).rule.id (end_at block.exits j).rule.id (λ same.
      apart (sym (end_out_is j here).place ∙ ap (out_place layout b) (sym same) ∙ (end_out_is k there).place))

  pub earlier_out : (j k : ℕ) → j < length block.exits.ends → k < length block.exits.ends
      → (end_at block.exits j).rule.id < (end_at block.exits k).rule.id → j < k
  earlier_out j k here there less =
      let one = end_out_is j here in
      let other = end_out_is k there in
      let l = (end_at block.exits j).rule.id in
      let before = place_below (is_out_of layout b) (end_at block.exits k).rule.id l less
      (there_at_source b (link_in layout.links l).source one.begins) in
      omega (arith, before.there, one.place, other.place)

  pub record HasEndOut (l : ℕ) : Type 0 where
    pub there : out_place layout b l < length block.exits.ends
    pub rule_is : (end_at block.exits (out_place layout b l)).rule ≡ rule_of layout l

  pub end_out_of : is_one_taker block.kind ≡ true → (l : ℕ) → l < length layout.links → (link_in layout.links l).source ≡ Block b
      → HasEndOut l
  end_out_of shares l small begins =
      let has = place_below (is_out_of layout b) (length layout.links) l small
      (there_at_source b (link_in layout.links l).source begins) in
      record {
        there = omega (arith, count_out shares, has.there);
        rule_is = rule_at shares (out_place layout b l) has.there ∙ ap (rule_of layout) has.is_there;
      }

  -- as many ends of a port stand so as links lead there of which that holds
  pub count_of_links : (p : ℕ) (test : TargetStage → Bool) (holds : ℕ → Bool) → p < length block.ports
      → ((k : ℕ) → k < length (port_at p block).ends
      → holds (end_in k (port_at p block).ends).link ≡ test (end_in k (port_at p block).ends).stage)
      → length (filter (λ l. is_into layout b p l && holds l) (below (length layout.links)))
      ≡ count_at test (port_at p block).ends
  count_of_links p test holds known same =
      ap length (filter_two (is_into layout b p) holds (below (length layout.links)))
      ∙ ap (λ (ls : List ℕ). length (filter holds ls)) (sym (shape.ports p known).links)
      ∙ count_by_link test holds (port_at p block).ends same
