-- One part of a network changes: the other parts stay in order, and no other end of a link learns anything by that.
use Rattle.std.proofs.Common.{◌≡◌, ℕ, ◌<◌, Bool, true, false, cond, List, length, Result, refl, ap, sym, ◌∙◌, subst, arith}
use Rattle.std.specs.List.{count_by}
use Rattle.std.proofs.lemmas.List.{length-set, get_or-set_same}
use Rattle.flow_value.specs.declared.value.Value.{Value}
use Rattle.flow_link.specs.declared.plan.LinkSource.{LinkSource}
use Rattle.flow_link.specs.declared.plan.LinkSource.TheVariants.{Block, Input}
use Rattle.flow_link.specs.declared.plan.LinkTarget.{LinkTarget}
use Rattle.flow_link.specs.declared.plan.LinkTarget.TheVariants.{Port, Exit}
use Rattle.flow_link.specs.Layout.{Layout}
use Rattle.flow_link.specs.Plan.{block_in, link_in, no_block, is_one_taker}
use Rattle.flow_link.specs.Views.{SourceView, TargetView}
use Rattle.flow_block.specs.Block.{port_at}
use Rattle.flow_input.specs.Input.{InputState, input_view, no_input}
use Rattle.flow_input.specs.InputKeeps.{InputLaw}
use Rattle.flow_block.specs.Node.{NodeState, in_view, out_view, copy_view, source_view}
use Rattle.flow_block_law.specs.NodeLaw.{NodeLaw}
use Rattle.flow_block.specs.Planned.{in_place, out_place, input_place, exit_place, leads_out, links_out}
use Rattle.flow_exit.specs.Exit.{ExitState, fresh_exit, exit_view}
use Rattle.flow_exit.specs.ExitKeeps.{ExitLaw}
use Rattle.flow_core.specs.Events.{with_node, with_input, with_exit, with_line}
use Rattle.flow_core.specs.Keeps.{IsRun, NetKeeps}
use Rattle.flow_core.specs.MovesFit.{out_count}
use Rattle.flow_link.specs.declared.trace.LinkState.{LinkState}
use Rattle.flow_core.specs.State.{NetState, node_at, no_node, input_at, exit_at, source_from}
use Rattle.flow_core.specs.State.{target_from}
use Rattle.flow_core.proofs.PlacesOfLinks.{out_there, port_there, entry_there, leads_there}
use Rattle.flow_core.proofs.SourcesByKind.{shared_view, copied_view, same_kind}
use Rattle.flow_link.proofs.PlacesTell.{count_within, counts_differ, element_set, place_rises, places_differ}

module _ {W : Type 0} (layout : Layout W) where
  -- what the source and the target of a link know
  abbrev pub given_at : NetState → ℕ → SourceView Value
  given_at net k = source_from layout net k (link_in layout.links k).source

  abbrev pub taken_at : NetState → ℕ → TargetView Value
  taken_at net k = target_from layout net k (link_in layout.links k).target

  abbrev pub given_as : (net : NetState) (k : ℕ) (source : LinkSource) → (link_in layout.links k).source ≡ source
      → given_at net k ≡ source_from layout net k source
  given_as net k source from = ap (λ (s : LinkSource). source_from layout net k s) from

  abbrev pub taken_as : (net : NetState) (k : ℕ) (target : LinkTarget) → (link_in layout.links k).target ≡ target
      → taken_at net k ≡ target_from layout net k target
  taken_as net k target to = ap (λ (t : LinkTarget). target_from layout net k t) to

  module _ (meaning : ℕ → Value → Result (List Value) ℕ) where
    -- the parts of a network are in order, whatever its links do
    pub record PartsInOrder (net : NetState) : Type 0 where
      pub node_count : length net.nodes ≡ length layout.blocks
      pub input_count : length net.inputs ≡ count_by (λ block. block.input) layout.blocks
      pub exit_count : length net.exits ≡ length (links_out layout)
      pub line_count : length net.lines ≡ length layout.links
      pub nodes : (b : ℕ) → b < length layout.blocks → NodeLaw layout meaning b (node_at net b)
      pub inputs : (b : ℕ) → b < length layout.blocks → (block_in layout.blocks b).input ≡ true
          → InputLaw (input_at layout net b)
      pub exits : (l : ℕ) → l < length layout.links → (link_in layout.links l).target ≡ Exit → ExitLaw (exit_at layout net l)

    pub parts_in_order : (net : NetState) → NetKeeps layout meaning net → PartsInOrder net
    parts_in_order net keeps = record {
      node_count = keeps.node_count;
      input_count = keeps.input_count;
      exit_count = keeps.exit_count;
      line_count = keeps.line_count;
      nodes = keeps.nodes;
      inputs = keeps.inputs;
      exits = keeps.exits;
    }

    -- a node in order becomes another, and only the ends that this is about learn anything
    pub record NodeSteps (b : ℕ) (AboutIn : ℕ → ℕ → Type 0) (AboutOut : ℕ → Type 0)
        (node new : NodeState) : Type 0 where
      pub law : NodeLaw layout meaning b new
      pub ins : (p k : ℕ) → p < length node.block.ports → k < length (port_at p node.block).ends → ¬ AboutIn p k
          → in_view p k new ≡ in_view p k node
      pub outs : (k : ℕ) → k < length node.block.exits.ends → ¬ AboutOut k → out_view k new ≡ out_view k node
      pub copies : (k : ℕ) → k < length node.block.copies.ends → ¬ AboutOut k → copy_view k new ≡ copy_view k node

    -- what an end out of it knows of which nothing was said, whether it shares its messages out or copies them
    module _ (b : ℕ) (AboutIn : ℕ → ℕ → Type 0) (AboutOut : ℕ → Type 0) (node new : NodeState) (law : NodeLaw layout meaning b node)
        (steps : NodeSteps b AboutIn AboutOut node new) (k : ℕ) where
      view_by : ¬ AboutOut k → (sharing : Bool) → is_one_taker node.block.kind ≡ sharing
          → k < cond sharing (length node.block.exits.ends) (length node.block.copies.ends) → source_view k new ≡ source_view k node
      view_by apart true shares there =
          shared_view k new (same_kind layout meaning b node new law steps.law true shares)
          ∙ steps.outs k there apart ∙ sym (shared_view k node shares)
      view_by apart false copying there =
          copied_view k new (same_kind layout meaning b node new law steps.law false copying)
          ∙ steps.copies k there apart ∙ sym (copied_view k node copying)

      pub out_stays : k < out_count node → ¬ AboutOut k → source_view k new ≡ source_view k node
      out_stays there apart = view_by apart (is_one_taker node.block.kind) refl there

    -- A node changes
    module _ (run : IsRun layout) (net : NetState) (parts : PartsInOrder net) (b : ℕ) (there : b < length layout.blocks)
        (AboutIn : ℕ → ℕ → Type 0) (AboutOut : ℕ → Type 0) (change : NodeState → NodeState)
        (steps : NodeSteps b AboutIn AboutOut (node_at net b) (change (node_at net b))) where
      pub node_changes : PartsInOrder (with_node b change net)
      node_changes = record {
        node_count = length-set net.nodes b (change (node_at net b)) ∙ parts.node_count;
        input_count = parts.input_count;
        exit_count = parts.exit_count;
        line_count = parts.line_count;
        nodes = λ c low.
            element_set (λ i node. NodeLaw layout meaning i node) net.nodes b c (change (node_at net b)) no_node
            (λ same. subst (λ (i : ℕ). NodeLaw layout meaning i (change (node_at net b))) (sym same) steps.law)
            (parts.nodes c low);
        inputs = parts.inputs;
        exits = parts.exits;
      }

      -- what the ends know of which nothing was said
      abbrev GivesAlike : ℕ → ℕ → NodeState → Type 0
      GivesAlike k i node = source_view (out_place layout i k) node ≡ source_view (out_place layout i k) (node_at net i)

      abbrev TakesAlike : ℕ → ℕ → ℕ → NodeState → Type 0
      TakesAlike p k i node = in_view p (in_place layout i p k) node ≡ in_view p (in_place layout i p k) (node_at net i)

      source_stays : (k : ℕ) (source : LinkSource) → k < length layout.links → (link_in layout.links k).source ≡ source
          → (source ≡ Block b → ¬ AboutOut (out_place layout b k))
          → source_from layout (with_node b change net) k source ≡ source_from layout net k source
      source_stays k (Block s) low from apart =
          element_set (GivesAlike k) net.nodes b s (change (node_at net b)) no_node
          (λ same.
          let here = ap (λ (i : ℕ). Block i) same in
          subst (λ (i : ℕ). GivesAlike k i (change (node_at net b))) (sym same)
          (out_stays b AboutIn AboutOut (node_at net b) (change (node_at net b)) (parts.nodes b there) steps (out_place layout b k)
          (out_there layout meaning b (node_at net b) (parts.nodes b there) k low (from ∙ here)) (apart here)))
          refl
      source_stays k (Input c) low from apart = refl

      target_stays : (k : ℕ) (target : LinkTarget) → k < length layout.links → (link_in layout.links k).target ≡ target
          → ((p : ℕ) → target ≡ Port b p → ¬ AboutIn p (in_place layout b p k))
          → target_from layout (with_node b change net) k target ≡ target_from layout net k target
      target_stays k (Port t p) low to apart =
          element_set (TakesAlike p k) net.nodes b t (change (node_at net b)) no_node
          (λ same.
          let here = ap (λ (i : ℕ). Port i p) same in
          let port = port_there layout meaning b (node_at net b) (parts.nodes b there) run p k low (to ∙ here) in
          let place = entry_there layout meaning b (node_at net b) (parts.nodes b there) run p k low (to ∙ here) in
          subst (λ (i : ℕ). TakesAlike p k i (change (node_at net b))) (sym same)
          (steps.ins p (in_place layout b p k) port place (apart p here)))
          refl
      target_stays k Exit low to apart = refl

      pub given_stays : (k : ℕ) → k < length layout.links
          → ((link_in layout.links k).source ≡ Block b → ¬ AboutOut (out_place layout b k))
          → given_at (with_node b change net) k ≡ given_at net k
      given_stays k low apart = source_stays k (link_in layout.links k).source low refl apart

      pub taken_stays : (k : ℕ) → k < length layout.links
          → ((p : ℕ) → (link_in layout.links k).target ≡ Port b p → ¬ AboutIn p (in_place layout b p k))
          → taken_at (with_node b change net) k ≡ taken_at net k
      taken_stays k low apart = target_stays k (link_in layout.links k).target low refl apart

      pub node_is : node_at (with_node b change net) b ≡ change (node_at net b)
      node_is =
          let low : b < length net.nodes = omega (arith, parts.node_count) in
          get_or-set_same net.nodes b (change (node_at net b)) no_node low

    -- An input changes
    module _ (run : IsRun layout) (net : NetState) (parts : PartsInOrder net) (b : ℕ) (change : InputState → InputState)
        (law : InputLaw (change (input_at layout net b))) where
      pub input_changes : PartsInOrder (with_input layout b change net)
      input_changes = record {
        node_count = parts.node_count;
        input_count = length-set net.inputs (input_place layout b) (change (input_at layout net b)) ∙ parts.input_count;
        exit_count = parts.exit_count;
        line_count = parts.line_count;
        nodes = parts.nodes;
        inputs = λ c low is.
            element_set (λ _ input. InputLaw input) net.inputs (input_place layout b) (input_place layout c)
            (change (input_at layout net b)) no_input (λ _. law) (parts.inputs c low is);
        exits = parts.exits;
      }

      -- no other link leads from this input
      module _ (l : ℕ) (there : l < length layout.links) (from : (link_in layout.links l).source ≡ Input b) where
        given_elsewhere : (k : ℕ) (source : LinkSource) → k < length layout.links
            → (link_in layout.links k).source ≡ source → (k ≡ l → ⊥)
            → source_from layout (with_input layout b change net) k source ≡ source_from layout net k source
        given_elsewhere k (Block s) low leads apart = refl
        given_elsewhere k (Input c) low leads apart =
            element_set (λ _ input. input_view input ≡ input_view (input_at layout net c))
            net.inputs (input_place layout b) (input_place layout c) (change (input_at layout net b)) no_input
            (λ same.
            let here = ap (λ (i : ℕ). Input i) (one_place c k low leads same) in
            absurd (apart (run.leads.one_input_link k l b low there (leads ∙ here) from)))
            refl
          where
            one_place : (c k : ℕ) → k < length layout.links → (link_in layout.links k).source ≡ Input c
                → input_place layout c ≡ input_place layout b → c ≡ b
            one_place c k low leads same =
                counts_differ (λ block. block.input) layout.blocks c b no_block
                (run.leads.from_input k c low leads) (run.leads.from_input l b there from)
                (run.leads.from_inputs k c low leads) (run.leads.from_inputs l b there from) same

        pub given_by_others : (k : ℕ) → k < length layout.links → (k ≡ l → ⊥)
            → given_at (with_input layout b change net) k ≡ given_at net k
        given_by_others k low apart = given_elsewhere k (link_in layout.links k).source low refl apart

        pub input_is : input_at layout (with_input layout b change net) b ≡ change (input_at layout net b)
        input_is =
            let within : input_place layout b < count_by (λ block. block.input) layout.blocks =
            count_within (λ block. block.input) layout.blocks b no_block
            (run.leads.from_input l b there from) (run.leads.from_inputs l b there from) in
            let low : input_place layout b < length net.inputs = omega (arith, parts.input_count) in
            get_or-set_same net.inputs (input_place layout b) (change (input_at layout net b)) no_input low

      taken_from : (k : ℕ) (target : LinkTarget)
          → target_from layout (with_input layout b change net) k target ≡ target_from layout net k target
      taken_from k (Port t p) = refl
      taken_from k Exit = refl

      pub taken_as_before : (k : ℕ) → taken_at (with_input layout b change net) k ≡ taken_at net k
      taken_as_before k = taken_from k (link_in layout.links k).target

    -- An exit changes
    module _ (net : NetState) (parts : PartsInOrder net) (l : ℕ) (there : l < length layout.links)
        (to : (link_in layout.links l).target ≡ Exit) (change : ExitState → ExitState)
        (law : ExitLaw (change (exit_at layout net l))) where
      pub exit_changes : PartsInOrder (with_exit layout l change net)
      exit_changes = record {
        node_count = parts.node_count;
        input_count = parts.input_count;
        exit_count = length-set net.exits (exit_place layout l) (change (exit_at layout net l)) ∙ parts.exit_count;
        line_count = parts.line_count;
        nodes = parts.nodes;
        inputs = parts.inputs;
        exits = λ k low leads.
            element_set (λ _ exit. ExitLaw exit) net.exits (exit_place layout l) (exit_place layout k)
            (change (exit_at layout net l)) fresh_exit (λ _. law) (parts.exits k low leads);
      }

      -- no other link leads to this exit
      taken_elsewhere : (k : ℕ) (target : LinkTarget) → (link_in layout.links k).target ≡ target → (k ≡ l → ⊥)
          → target_from layout (with_exit layout l change net) k target ≡ target_from layout net k target
      taken_elsewhere k (Port t p) leads apart = refl
      taken_elsewhere k Exit leads apart =
          element_set (λ _ exit. exit_view exit ≡ exit_view (exit_at layout net k))
          net.exits (exit_place layout l) (exit_place layout k) (change (exit_at layout net l)) fresh_exit
          (λ same. absurd (apart (places_differ (leads_out layout) k l (leads_there layout k leads) (leads_there layout l to) same)))
          refl

      pub taken_by_others : (k : ℕ) → (k ≡ l → ⊥) → taken_at (with_exit layout l change net) k ≡ taken_at net k
      taken_by_others k apart = taken_elsewhere k (link_in layout.links k).target refl apart

      pub exit_is : exit_at layout (with_exit layout l change net) l ≡ change (exit_at layout net l)
      exit_is =
          let within = place_rises (leads_out layout) l (length layout.links) there (leads_there layout l to) in
          let low : exit_place layout l < length net.exits = omega (arith, within, parts.exit_count) in
          get_or-set_same net.exits (exit_place layout l) (change (exit_at layout net l)) fresh_exit low

      given_from : (k : ℕ) (source : LinkSource)
          → source_from layout (with_exit layout l change net) k source ≡ source_from layout net k source
      given_from k (Block s) = refl
      given_from k (Input b) = refl

      pub given_as_before : (k : ℕ) → given_at (with_exit layout l change net) k ≡ given_at net k
      given_as_before k = given_from k (link_in layout.links k).source

    -- A line changes
    module _ (net : NetState) (parts : PartsInOrder net) (l : ℕ) (line : LinkState) where
      pub line_changes : PartsInOrder (with_line l line net)
      line_changes = record {
        node_count = parts.node_count;
        input_count = parts.input_count;
        exit_count = parts.exit_count;
        line_count = length-set net.lines l line ∙ parts.line_count;
        nodes = parts.nodes;
        inputs = parts.inputs;
        exits = parts.exits;
      }
