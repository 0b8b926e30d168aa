-- A network is in order where its blocks, its inputs and its exits are, each by its place, and its links.
use Rattle.std.proofs.Common.{◌≡◌, ℕ, zero, suc, ◌+◌, ◌<◌, Bool, true, false, cond, List, [], ◌∷◌, ◌++◌, length, get_or, Result, refl, sym, ap, ◌∙◌, subst, ⊎_elim, arith, count_by}
use Rattle.std.proofs.Math.Logic.{∥∥₁_elim, ∥∥₁_map, ∥∥₁_prop}
use Rattle.std.proofs.Math.Nat.{ℕ_set}
use Rattle.std.proofs.Math.Seq.{take-length}
use Rattle.std.proofs.lemmas.Bool.{cases_order}
use Rattle.std.proofs.lemmas.List.Sums.{sum_by-append}
use Rattle.flow_value.specs.declared.value.Value.{Value}
use Rattle.flow_link.proofs.PlacesOfNumbers.{place_below, stands_below}
use Rattle.flow_link.proofs.PlacesTell.{count_within}
use Rattle.flow_link.specs.declared.draft.BlockDef.{BlockDef}
use Rattle.flow_link.specs.declared.plan.Link.{Link}
use Rattle.flow_link.specs.declared.plan.LinkTarget.{LinkTarget}
use Rattle.flow_link.specs.declared.plan.LinkTarget.TheVariants.{Port, Exit}
use Rattle.flow_link.specs.Facts.{facts_in}
use Rattle.flow_link.specs.Layout.{Layout, IsLaidOut, input_link, input_links, exit_links, between_of}
use Rattle.flow_link.specs.LinkOk.{LinkOk}
use Rattle.flow_link.specs.Plan.{block_in, link_in, no_block}
use Rattle.flow_link.proofs.EachLinkOf.{Fails, each_exit}
use Rattle.flow_link.proofs.LinksLead.{links_lead}
use Rattle.flow_block.specs.Planned.{input_place, exit_place, is_exit, leads_out, links_out}
use Rattle.flow_block_law.specs.NodeLaw.{NodeLaw}
use Rattle.flow_core.specs.InOrder.{NetInOrder}
use Rattle.flow_core.specs.State.{NetState, node_at, line_at, input_at, exit_at, source_from, target_from}
use Rattle.flow_exit.specs.Exit.{fresh_exit}
use Rattle.flow_exit.specs.ExitKeeps.{ExitLaw}
use Rattle.flow_input.specs.Input.{no_input}
use Rattle.flow_input.specs.InputKeeps.{InputLaw}
use Rattle.flow_task.specs.Inputs.{begins_at_input, links_of_inputs}
use Rattle.flow_task.specs.Orders.{AreInOrder}
use Rattle.flow_task.proofs.EndsByPlace.{its_block, of_input, to_exit}
use Rattle.flow_task.proofs.InputPlaces.{is_input_link, posts, place_counts, count_none, count_one, between, input_placed}

-- Merely

-- what merely holds below a bound, number by number, merely holds of all those numbers
module _ (P : ℕ → Type 0) where
  abbrev Below : ℕ → Type 0
  Below n = (b : ℕ) → b < n → P b

  pub all_below : (n : ℕ) → ((b : ℕ) → b < n → ∥ P b ∥₁) → ∥ Below n ∥₁
  all_below zero each = ∣ (λ b small. absurd (omega (arith, small))) ∣₁
  all_below (suc n) each =
      ∥∥₁_elim (all_below n (λ b small. each b (omega (arith, small)))) ∥∥₁_prop
      (λ all. ∥∥₁_map (each n (omega arith))
      (λ last b small. ⊎_elim (λ same. subst P (sym same) last)
      (⊎_elim (λ less. all b less) (λ more. absurd (omega (arith, more, small)))) (cases_order b n)))

-- what merely holds if a test is passed, and if a link leads out
if_true : {Q : Type 0} (b : Bool) → (b ≡ true → ∥ Q ∥₁) → ∥ (b ≡ true → Q) ∥₁
if_true true law = ∥∥₁_map (law refl) (λ q e. q)
if_true false law = ∣ (λ e. absurd (cc)) ∣₁

if_out : {Q : Type 0} (target : LinkTarget) → (target ≡ Exit → ∥ Q ∥₁) → ∥ (target ≡ Exit → Q) ∥₁
if_out (Port b p) law = ∣ (λ e. absurd (cc)) ∣₁
if_out Exit law = ∥∥₁_map (law refl) (λ q e. q)

-- How many links begin at inputs

none_counted : {X : Type 0} (p : X → Bool) (d : X) (xs : List X) → ((k : ℕ) → k < length xs → p (get_or xs k d) ≡ false)
    → count_by p xs ≡ 0
none_counted p d [] none = refl
none_counted p d (x ∷ xs) none =
    count_none p x xs (none 0 (omega arith)) ∙ none_counted p d xs (λ k small. none (suc k) (omega (arith, small)))

module _ {W : Type 0} where
  by_posts : (s : ℕ) (block : BlockDef W) (blocks : List (BlockDef W)) (links : List Link) (posting : Bool) → block.input ≡ posting
      → count_by is_input_link links ≡ count_by posts blocks
      → count_by is_input_link (cond posting (input_link s ∷ []) [] ++ links) ≡ count_by posts (block ∷ blocks)
  by_posts s block blocks links true is rest =
      count_one is_input_link (input_link s) links refl ∙ ap (λ n. 1 + n) rest ∙ sym (count_one posts block blocks is)
  by_posts s block blocks links false is rest = rest ∙ sym (count_none posts block blocks is)

  counts_posts : (s : ℕ) (blocks : List (BlockDef W)) → count_by is_input_link (input_links s blocks) ≡ count_by posts blocks
  counts_posts s [] = refl
  counts_posts s (block ∷ blocks) =
      by_posts s block blocks (input_links (suc s) blocks) block.input refl (counts_posts (suc s) blocks)

module _ {W : Type 0} (layout : Layout W) (laid : IsLaidOut layout.blocks layout.links) where
  as_many : count_by is_input_link layout.links ≡ count_by posts layout.blocks
  as_many =
      let first = between_of layout.blocks layout.links in
      let ins = input_links 0 layout.blocks in
      let outs = exit_links 0 layout.blocks in
      let weigh : Link → ℕ = λ link. cond (is_input_link link) 1 0 in
      let lead : count_by is_input_link first ≡ 0 =
      none_counted is_input_link _ first (between (length layout.blocks) first laid.lead) in
      let last : count_by is_input_link outs ≡ 0 =
      none_counted is_input_link _ outs (each_exit (Fails is_input_link) 0 layout.blocks (λ k low out. refl)) in
      let whole : count_by is_input_link layout.links ≡ count_by is_input_link first + count_by is_input_link (ins ++ outs) =
      ap (count_by is_input_link) laid.in_order ∙ sum_by-append weigh first (ins ++ outs) in
      let outer : count_by is_input_link (ins ++ outs) ≡ count_by is_input_link ins + count_by is_input_link outs =
      sum_by-append weigh ins outs in
      let posted = counts_posts 0 layout.blocks in
      omega (arith, lead, last, whole, outer, posted)

  pub inputs_counted : length (links_of_inputs layout) ≡ count_by (λ block. block.input) layout.blocks
  inputs_counted =
      place_counts layout.links (length layout.links) (omega arith)
      ∙ ap (count_by is_input_link) (take-length layout.links) ∙ as_many

  input_within : (b : ℕ) → b < length layout.blocks → (block_in layout.blocks b).input ≡ true
      → input_place layout b < length (links_of_inputs layout)
  input_within b low is =
      let within : input_place layout b < count_by (λ block. block.input) layout.blocks =
      count_within (λ block. block.input) layout.blocks b no_block low is in
      omega (arith, within, inputs_counted)

  -- the block of an input
  record Feeds (q b : ℕ) : Type 0 where
    there : b < length layout.blocks
    posting : (block_in layout.blocks b).input ≡ true
    place : input_place layout b ≡ q

  feeds : (q : ℕ) → q < length (links_of_inputs layout)
      → Feeds q (its_block (link_in layout.links (get_or (links_of_inputs layout) q 0)).source)
  feeds q small =
      let l = get_or (links_of_inputs layout) q 0 in
      let link = link_in layout.links l in
      let b = its_block link.source in
      let stands = stands_below (begins_at_input layout) (length layout.links) q small in
      let from = of_input link.source stands.passes in
      let leads = links_lead W layout laid in
      record {
        there = leads.from_input l b stands.there from;
        posting = leads.from_inputs l b stands.there from;
        place = input_placed layout laid l b stands.there from ∙ stands.before;
      }

module _ {W : Type 0} (layout : Layout W) (meaning : ℕ → Value → Result (List Value) ℕ) (net : NetState)
    (laid : IsLaidOut layout.blocks layout.links) where
  input_law : NetInOrder layout meaning net → (q : ℕ) → q < length (links_of_inputs layout)
      → InputLaw (get_or net.inputs q no_input)
  input_law ok q small =
      let fed = feeds layout laid q small in
      subst (λ (p : ℕ). InputLaw (get_or net.inputs p no_input)) fed.place (ok.inputs _ fed.there fed.posting)

  exit_law : NetInOrder layout meaning net → (k : ℕ) → k < length (links_out layout)
      → ExitLaw (get_or net.exits k fresh_exit)
  exit_law ok k small =
      let l = get_or (links_out layout) k 0 in
      let stands = stands_below (leads_out layout) (length layout.links) k small in
      let into = to_exit (link_in layout.links l).target stands.passes in
      subst (λ (p : ℕ). ExitLaw (get_or net.exits p fresh_exit)) stands.before (ok.exits l stands.there into)

  -- a network that merely is in order has its parts in order
  pub in_parts : ∥ NetInOrder layout meaning net ∥₁ → AreInOrder layout meaning net.nodes net.inputs net.exits
  in_parts merely =
      record {
        node_count = ∥∥₁_elim merely (ℕ_set _ _) (λ ok. ok.node_count);
        nodes_law = λ b low. ∥∥₁_map merely (λ ok. ok.nodes b low);
        input_count = ∥∥₁_elim merely (ℕ_set _ _) (λ ok. ok.input_count ∙ sym (inputs_counted layout laid));
        inputs_law = λ q small. ∥∥₁_map merely (λ ok. input_law ok q small);
        exit_count = ∥∥₁_elim merely (ℕ_set _ _) (λ ok. ok.exit_count);
        exits_law = λ k small. ∥∥₁_map merely (λ ok. exit_law ok k small);
      }

  module _ (parts : AreInOrder layout meaning net.nodes net.inputs net.exits) where
    nodes_in : ∥ ((b : ℕ) → b < length layout.blocks → NodeLaw layout meaning b (node_at net b)) ∥₁
    nodes_in = all_below (λ b. NodeLaw layout meaning b (node_at net b)) (length layout.blocks) parts.nodes_law

    inputs_in : ∥ ((b : ℕ) → b < length layout.blocks → (block_in layout.blocks b).input ≡ true → InputLaw (input_at layout net b)) ∥₁
    inputs_in =
        all_below (λ b. (block_in layout.blocks b).input ≡ true → InputLaw (input_at layout net b)) (length layout.blocks)
        (λ b low. if_true (block_in layout.blocks b).input
        (λ is. parts.inputs_law (input_place layout b) (input_within layout laid b low is)))

    exits_in : ∥ ((l : ℕ) → l < length layout.links → (link_in layout.links l).target ≡ Exit → ExitLaw (exit_at layout net l)) ∥₁
    exits_in =
        all_below (λ l. (link_in layout.links l).target ≡ Exit → ExitLaw (exit_at layout net l)) (length layout.links)
        (λ l low. if_out (link_in layout.links l).target
        (λ out. parts.exits_law (exit_place layout l)
        (place_below (leads_out layout) (length layout.links) l low (ap is_exit out)).there))

    -- and one whose parts and links are in order merely is in order
    pub in_order : length net.lines ≡ length layout.links
        → ((l : ℕ) → l < length layout.links → LinkOk (facts_in layout l) (line_at net l).phase (line_at net l).slot
        (source_from layout net l (link_in layout.links l).source) (target_from layout net l (link_in layout.links l).target))
        → ∥ NetInOrder layout meaning net ∥₁
    in_order lines links =
        ∥∥₁_elim nodes_in ∥∥₁_prop (λ nodes.
        ∥∥₁_elim inputs_in ∥∥₁_prop (λ inputs.
        ∥∥₁_map exits_in (λ exits. record {
          node_count = parts.node_count;
          input_count = parts.input_count ∙ inputs_counted layout laid;
          exit_count = parts.exit_count;
          line_count = lines;
          nodes = nodes;
          inputs = inputs;
          exits = exits;
          links = links;
        })))
