-- Where all of a network is in order, whenever the ends of its links looked, a look of all of them leaves it in order, and each end
-- aware of its link. It writes no mark.
use Rattle.std.proofs.Common.{◌≡◌, ℕ, zero, suc, ◌<◌, ◌≤◌, ◌⊎◌, Bool, true, false, cond, List, length, get_or, Some, Result, refl, ap, sym, ◌∙◌, subst, arith, ⊎_elim}
use Rattle.std.proofs.lemmas.Bool.Decides.{eqb_tells}
use Rattle.std.proofs.Math.Seq.{map-set_same}
use Rattle.std.proofs.Math.Nat.{eq-or-lt_of_le}
use Rattle.flow_value.specs.declared.value.Value.{Value}
use Rattle.flow_link.specs.declared.trace.Mark.{Mark}
use Rattle.flow_link.specs.declared.phase.Phase.{Phase}
use Rattle.flow_link.specs.declared.plan.LinkSource.{LinkSource}
use Rattle.flow_link.specs.declared.plan.LinkSource.TheVariants.{Block, Input}
use Rattle.flow_link.specs.declared.plan.LinkTarget.{LinkTarget}
use Rattle.flow_link.specs.declared.plan.LinkTarget.TheVariants.{Port, Exit}
use Rattle.flow_link.specs.Facts.{facts_in}
use Rattle.flow_link.specs.Layout.{Layout}
use Rattle.flow_link.specs.LinkOk.{LinkOk}
use Rattle.flow_link.specs.Looks.{looking_in, looking_out, Seen}
use Rattle.flow_link.specs.Plan.{link_in, is_one_taker}
use Rattle.flow_link.specs.Views.{SourceView, TargetView}
use Rattle.flow_link.proofs.LooksKeepOrder.{looks_keep}
use Rattle.flow_input.specs.InputKeeps.{InputsKeep}
use Rattle.flow_block.specs.Node.{NodeState, NodeCall}
use Rattle.flow_block.specs.Copies.{CopyCall}
use Rattle.flow_block_law.specs.NodeKeeps.{NodesKept}
use Rattle.flow_block.specs.Planned.{out_place}
use Rattle.flow_block_law.specs.ViewsMove.{CallsMoveViews}
use Rattle.flow_input.proofs.InputsMove.{inputs_keep}
use Rattle.flow_block_law.proofs.NodesKept.{nodes_kept}
use Rattle.flow_block_law.proofs.ViewsMove.{calls_move_views}
use Rattle.flow_core.specs.Events.{source_sees, target_sees, node_after, source_look}
use Rattle.flow_core.specs.Keeps.{IsRun, NetKeeps}
use Rattle.flow_core.specs.InOrder.{NetInOrder, all_looked, journals_of, looked_at}
use Rattle.flow_core.specs.State.{NetState, fresh_line, line_at, node_at, no_node}
use Rattle.flow_core.specs.Inputs.{InputsStay}
use Rattle.flow_core.specs.Statements.{AllLooksKeep, LooksLeavePosted, LooksWriteNoMark}
use Rattle.flow_core.proofs.InputsChange.{all_further, all_same, changed_stays, look_changes, sight_apart}
use Rattle.flow_exit.specs.ExitKeeps.{ExitsKeep}
use Rattle.flow_exit.proofs.ExitsKeep.{exits_keep}
use Rattle.flow_link.specs.declared.trace.LinkState.{LinkState}
use Rattle.flow_link.proofs.LinksTell.{links_tell}
use Rattle.flow_core.proofs.EndsLook.{target_looks, source_looks_out}
use Rattle.flow_core.proofs.EndsStep.{SourceSteps, TargetSteps}
use Rattle.flow_core.proofs.PartsChange.{PartsInOrder, given_at, taken_at}

-- what holds of a link holds where its line and what its ends know are the same
carried : (P : LinkState → SourceView Value → TargetView Value → Type 0) (line line' : LinkState) (s s' : SourceView Value)
    (t t' : TargetView Value) → line' ≡ line → s' ≡ s → t' ≡ t → P line s t → P line' s' t'
carried P line line' s s' t t' line_is s_is t_is p =
    subst (λ (x : LinkState). P x s' t') (sym line_is)
    (subst (λ (x : SourceView Value). P line x t') (sym s_is) (subst (λ (x : TargetView Value). P line s x) (sym t_is) p))

module _ {W : Type 0} (kept : NodesKept W) (views : CallsMoveViews W) (inputs : InputsKeep) (exits : ExitsKeep)
    (layout : Layout W) (meaning : ℕ → Value → Result (List Value) ℕ) (run : IsRun layout) where
  -- the ends of the first links have looked
  record Looked (n : ℕ) (net : NetState) : Type 0 where
    pub ok : NetInOrder layout meaning net
    pub seen : (k : ℕ) → k < length layout.links → k < n → Seen (line_at net k).phase (given_at layout net k) (taken_at layout net k)

  module _ (l : ℕ) (there : l < length layout.links) (net : NetState) (before : Looked l net) where
    abbrev phase : Phase
    phase = (line_at net l).phase

    abbrev given : SourceView Value
    given = given_at layout net l

    abbrev taken : TargetView Value
    taken = taken_at layout net l

    abbrev mid : NetState
    mid = target_sees layout meaning l phase (link_in layout.links l).target net

    abbrev new : NetState
    new = looked_at layout meaning l net

    parts : PartsInOrder layout meaning net
    parts = record {
      node_count = before.ok.node_count;
      input_count = before.ok.input_count;
      exit_count = before.ok.exit_count;
      line_count = before.ok.line_count;
      nodes = before.ok.nodes;
      inputs = before.ok.inputs;
      exits = before.ok.exits;
    }

    by_target : TargetSteps layout meaning l net mid (looking_in phase taken)
    by_target =
        target_looks kept views inputs exits layout meaning run l there phase net parts (link_in layout.links l).target refl
        ((links_tell Value).fault_numbered (facts_in layout l) phase (line_at net l).slot given taken (before.ok.links l there))

    -- the link is in order when the target has looked, and when both have
    half_ok : LinkOk (facts_in layout l) phase (line_at net l).slot given (looking_in phase taken)
    half_ok = (looks_keep Value).in_keeps (facts_in layout l) phase (line_at net l).slot given taken (before.ok.links l there)

    both_ok : LinkOk (facts_in layout l) phase (line_at net l).slot (looking_out phase given) (looking_in phase taken)
    both_ok = (looks_keep Value).out_keeps (facts_in layout l) phase (line_at net l).slot given (looking_in phase taken) half_ok

    by_source : SourceSteps layout meaning l mid new (looking_out phase (given_at layout mid l))
    by_source =
        source_looks_out kept views inputs exits layout meaning run l there phase mid by_target.parts (line_at net l).slot
        (looking_in phase taken)
        (subst (λ (view : SourceView Value). LinkOk (facts_in layout l) phase (line_at net l).slot view (looking_in phase taken))
        (sym (by_target.sources l there)) half_ok)
        (link_in layout.links l).source refl

    line_is : (k : ℕ) → line_at new k ≡ line_at net k
    line_is k = ap (λ (lines : List LinkState). get_or lines k fresh_line) (by_source.lines ∙ by_target.lines)

    -- what a link's ends know then: those of this one have looked, and the others know what they knew
    module _ (P : ℕ → LinkState → SourceView Value → TargetView Value → Type 0) where
      here : P l (line_at net l) (looking_out phase given) (looking_in phase taken)
          → P l (line_at new l) (given_at layout new l) (taken_at layout new l)
      here p =
          carried (P l) (line_at net l) (line_at new l) (looking_out phase given) (given_at layout new l)
          (looking_in phase taken) (taken_at layout new l) (line_is l)
          (by_source.given ∙ ap (looking_out phase) (by_target.sources l there)) (by_source.targets l there ∙ by_target.taken) p

      elsewhere : (k : ℕ) → k < length layout.links → (k ≡ l → ⊥) → P k (line_at net k) (given_at layout net k) (taken_at layout net k)
          → P k (line_at new k) (given_at layout new k) (taken_at layout new k)
      elsewhere k low apart p =
          carried (P k) (line_at net k) (line_at new k) (given_at layout net k) (given_at layout new k) (taken_at layout net k)
          (taken_at layout new k) (line_is k) (by_source.others k low apart ∙ by_target.sources k low)
          (by_source.targets k low ∙ by_target.others k low apart) p

      everywhere : P l (line_at net l) (looking_out phase given) (looking_in phase taken)
          → (k : ℕ) → k < length layout.links
          → ((k ≡ l → ⊥) → P k (line_at net k) (given_at layout net k) (taken_at layout net k))
          → P k (line_at new k) (given_at layout new k) (taken_at layout new k)
      everywhere p k low others =
          ⊎_elim (λ same. subst (λ (i : ℕ). P i (line_at new i) (given_at layout new i) (taken_at layout new i)) (sym same.1) (here p))
          (λ apart. elsewhere k low apart.1 (others apart.1)) (eqb_tells k l)

    abbrev InOrderAt : ℕ → LinkState → SourceView Value → TargetView Value → Type 0
    InOrderAt k line s t = LinkOk (facts_in layout k) line.phase line.slot s t

    abbrev SeenAt : ℕ → LinkState → SourceView Value → TargetView Value → Type 0
    SeenAt k line s t = Seen line.phase s t

    less : (k : ℕ) → k < suc l → (k ≡ l → ⊥) → k < l
    less k small apart = ⊎_elim (λ (same : k ≡ l). absurd (apart same)) (λ (lower : k < l). lower) (eq-or-lt_of_le (omega arith))

    one_more : Looked (suc l) new
    one_more = record {
      ok = record {
        node_count = by_source.parts.node_count;
        input_count = by_source.parts.input_count;
        exit_count = by_source.parts.exit_count;
        line_count = by_source.parts.line_count;
        nodes = by_source.parts.nodes;
        inputs = by_source.parts.inputs;
        exits = by_source.parts.exits;
        links = λ k low. everywhere InOrderAt both_ok k low (λ apart. before.ok.links k low);
      };
      seen = λ k low small.
          everywhere SeenAt ((looks_keep Value).settle phase given taken) k low (λ apart. before.seen k low (less k small apart));
    }

  looked_to : (n : ℕ) → n ≤ length layout.links → (net : NetState) → NetInOrder layout meaning net
      → Looked n (all_looked layout meaning n net)
  looked_to zero within net ok = record { ok = ok; seen = λ k low small. absurd (omega arith) }
  looked_to (suc n) within net ok =
      one_more n (omega arith) (all_looked layout meaning n net) (looked_to n (omega arith) net ok)

  pub all_keeps : (net : NetState) → NetInOrder layout meaning net
      → NetKeeps layout meaning (all_looked layout meaning (length layout.links) net)
  all_keeps net ok =
      let looked = looked_to (length layout.links) (omega arith) net ok in
      record {
        node_count = looked.ok.node_count;
        input_count = looked.ok.input_count;
        exit_count = looked.ok.exit_count;
        line_count = looked.ok.line_count;
        nodes = looked.ok.nodes;
        inputs = looked.ok.inputs;
        exits = looked.ok.exits;
        lines = λ l low. record { in_order = looked.ok.links l low; seen = looked.seen l low low };
      }

-- and one of which only some have looked is in order too
pub some_looks_keep : {W : Type 0} (layout : Layout W) (meaning : ℕ → Value → Result (List Value) ℕ) → IsRun layout → (n : ℕ)
    → n ≤ length layout.links → (net : NetState) → NetInOrder layout meaning net → NetInOrder layout meaning (all_looked layout meaning n net)
some_looks_keep {W} layout meaning run n within net ok =
    (looked_to (nodes_kept W) (calls_move_views W) inputs_keep exits_keep layout meaning run n within net ok).ok

pub all_looks_keep : (W : Type 0) → AllLooksKeep W
all_looks_keep W layout meaning run net ok = all_keeps (nodes_kept W) (calls_move_views W) inputs_keep exits_keep layout meaning run net ok

-- A look writes no mark

abbrev journal_of : NodeState → List Mark
journal_of node = node.journal

module _ {W : Type 0} (layout : Layout W) (meaning : ℕ → Value → Result (List Value) ℕ) where
  look_writes : (b k : ℕ) (phase : Phase) (sharing : Bool) (node : NodeState) → is_one_taker node.block.kind ≡ sharing
      → (node_after layout meaning b (Some (source_look node.block.kind k phase)) node).journal ≡ node.journal
  look_writes b k phase true node shares =
      subst (λ (so : Bool). (node_after layout meaning b (Some (cond so (NodeCall.look_out k phase) (NodeCall.copy (CopyCall.look k phase)))) node).journal ≡ node.journal)
      (sym shares) refl
  look_writes b k phase false node copying =
      subst (λ (so : Bool). (node_after layout meaning b (Some (cond so (NodeCall.look_out k phase) (NodeCall.copy (CopyCall.look k phase)))) node).journal ≡ node.journal)
      (sym copying) refl

  source_writes : (l : ℕ) (phase : Phase) (source : LinkSource) (net : NetState)
      → journals_of (source_sees layout meaning l phase source net) ≡ journals_of net
  source_writes l phase (Block s) net =
      map-set_same journal_of net.nodes s _ no_node
      (look_writes s (out_place layout s l) phase (is_one_taker (node_at net s).block.kind) (node_at net s) refl)
  source_writes l phase (Input b) net = refl

  target_writes : (l : ℕ) (phase : Phase) (target : LinkTarget) (net : NetState)
      → journals_of (target_sees layout meaning l phase target net) ≡ journals_of net
  target_writes l phase (Port t p) net = map-set_same journal_of net.nodes t _ no_node refl
  target_writes l phase Exit net = refl

pub looks_write_no_mark : (W : Type 0) → LooksWriteNoMark W
looks_write_no_mark W layout meaning zero net = refl
looks_write_no_mark W layout meaning (suc n) net =
    let before = all_looked layout meaning n net in
    let phase = (line_at before n).phase in
    source_writes layout meaning n phase (link_in layout.links n).source (target_sees layout meaning n phase (link_in layout.links n).target before)
    ∙ (target_writes layout meaning n phase (link_in layout.links n).target before ∙ looks_write_no_mark W layout meaning n net)

-- and it leaves what is posted, but for what its target has turned down
looked_stays : {W : Type 0} (layout : Layout W) (meaning : ℕ → Value → Result (List Value) ℕ) (l : ℕ) (net : NetState)
    → InputsStay net (looked_at layout meaning l net)
looked_stays layout meaning l net =
    let phase = (line_at net l).phase in
    let link = link_in layout.links l in
    changed_stays net (looked_at layout meaning l net)
    (look_changes layout meaning l phase link.source net (target_sees layout meaning l phase link.target net) (looked_at layout meaning l net)
    (sight_apart layout meaning l phase link.target net) refl)

pub looks_leave_posted : (W : Type 0) → LooksLeavePosted W
looks_leave_posted W layout meaning zero net = all_same net
looks_leave_posted W layout meaning (suc n) net =
    let before = all_looked layout meaning n net in
    all_further net before (looked_at layout meaning n before) (looks_leave_posted W layout meaning n net) (looked_stays layout meaning n before)
