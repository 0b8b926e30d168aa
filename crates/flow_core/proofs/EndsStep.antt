-- A call of one end of a link keeps the parts of a network in order, and no other end of a link learns anything by it.
use Rattle.std.proofs.Common.{◌≡◌, ℕ, ◌<◌, Bool, true, false, cond, List, length, Option, Some, None, Result, refl, ap, sym, ◌∙◌, subst}
use Rattle.flow_value.specs.declared.value.Value.{Value}
use Rattle.flow_link.specs.declared.phase.Phase.{Phase}
use Rattle.flow_link.specs.declared.phase.Move.{Move}
use Rattle.flow_link.specs.declared.phase.Move.TheVariants as move
use Rattle.flow_link.specs.declared.plan.LinkSource.TheVariants.{Block, Input}
use Rattle.flow_link.specs.declared.plan.LinkTarget.TheVariants.{Port, Exit}
use Rattle.flow_link.specs.Layout.{Layout}
use Rattle.flow_link.specs.Plan.{link_in, is_one_taker}
use Rattle.flow_link.specs.Views.{SourceView, TargetView}
use Rattle.flow_input.specs.Input.{InputState, InputCall, input_view}
use Rattle.flow_input.specs.InputKeeps.{InputLaw, InputsKeep, MayMoveInput}
use Rattle.flow_block.specs.Copies.{CopyCall, copy_place}
use Rattle.flow_block_law.specs.NextCopies.{MayMoveCopy}
use Rattle.flow_block_law.specs.NextMoves.{MayMoveIn, MayMoveOut}
use Rattle.flow_block.specs.Node.{NodeState, NodeCall, in_view, source_view}
use Rattle.flow_block_law.specs.NodeKeeps.{NodesKept, MayCall, after_call}
use Rattle.flow_block_law.specs.NodeLaw.{NodeLaw}
use Rattle.flow_block.specs.Planned.{is_out_of, is_into, in_place, out_place}
use Rattle.flow_block_law.specs.ViewsMove.{CallsMoveViews, IsAboutIn, IsAboutOut, IsAboutCopy}
use Rattle.flow_exit.specs.Exit.{ExitState, ExitCall, exit_view, exit_call, exit_after}
use Rattle.flow_exit.specs.ExitKeeps.{ExitLaw, ExitsKeep, MayMoveExit}
use Rattle.flow_core.specs.Events.{node_after, out_call, copy_call, source_call, in_call, input_call, input_after, with_node, with_input, with_exit}
use Rattle.flow_core.specs.Keeps.{IsRun}
use Rattle.flow_core.specs.State.{NetState, node_at, input_at, exit_at}
use Rattle.flow_core.proofs.PartsChange.{PartsInOrder, NodeSteps, given_at, taken_at, given_as, taken_as}
use Rattle.flow_core.proofs.PartsChange.{node_changes, given_stays, taken_stays, node_is, input_changes}
use Rattle.flow_core.proofs.PartsChange.{given_by_others, input_is, taken_as_before}
use Rattle.flow_core.proofs.PartsChange.{exit_changes, exit_is, taken_by_others, given_as_before}
use Rattle.flow_link.proofs.PlacesTell.{places_differ}
use Rattle.flow_core.proofs.PlacesOfLinks.{begins_here, ends_here}

module _ {W : Type 0} (layout : Layout W) (meaning : ℕ → Value → Result (List Value) ℕ) where
  -- a node of which one end out of it learns something, or one end into it
  abbrev pub OutSteps : ℕ → ℕ → NodeState → NodeState → Type 0
  OutSteps b k node new = NodeSteps layout meaning b (λ q j. ⊥) (λ j. j ≡ k) node new

  abbrev pub InSteps : ℕ → ℕ → ℕ → NodeState → NodeState → Type 0
  InSteps b p k node new = NodeSteps layout meaning b (λ q j. (q ≡ p) × (j ≡ k)) (λ j. ⊥) node new

  module _ (kept : NodesKept W) (views : CallsMoveViews W)
      (b : ℕ) (node : NodeState) (law : NodeLaw layout meaning b node) where
    -- by a call those ends learn something that it is about
    pub call_steps : (In : ℕ → ℕ → Type 0) (Out : ℕ → Type 0) (call : NodeCall) → MayCall layout meaning b call node
        → ((p k : ℕ) → IsAboutIn p k call → In p k) → ((k : ℕ) → IsAboutOut k call → Out k)
        → ((k : ℕ) → IsAboutCopy k call → Out k)
        → NodeSteps layout meaning b In Out node (after_call layout meaning b call node)
    call_steps In Out call may in_it out_of_it over_it =
        let others = (views layout meaning b node call law may).others in
        record {
          law = kept layout meaning b node call law may;
          ins = λ p k small near apart. others.ins p k small near (λ about. apart (in_it p k about));
          outs = λ k near apart. others.outs k near (λ about. apart (out_of_it k about));
          copies = λ k near apart. others.copies k near (λ about. apart (over_it k about));
        }

    -- a call about an end out of it, about one over which copies go, and about an end into it
    out_by : (k : ℕ) (call : NodeCall) → MayCall layout meaning b call node → ((q j : ℕ) → IsAboutIn q j call → ⊥)
        → ((j : ℕ) → IsAboutOut j call → j ≡ k) → ((j : ℕ) → IsAboutCopy j call → j ≡ k)
        → OutSteps b k node (after_call layout meaning b call node)
    out_by k call may in_it out_of_it over_it = call_steps (λ q j. ⊥) (λ j. j ≡ k) call may in_it out_of_it over_it

    pub in_by : (p k : ℕ) (call : NodeCall) → MayCall layout meaning b call node
        → ((q j : ℕ) → IsAboutIn q j call → (q ≡ p) × (j ≡ k)) → ((j : ℕ) → IsAboutOut j call → ⊥)
        → ((j : ℕ) → IsAboutCopy j call → ⊥) → InSteps b p k node (after_call layout meaning b call node)
    in_by p k call may in_it out_of_it over_it =
        call_steps (λ q j. (q ≡ p) × (j ≡ k)) (λ j. ⊥) call may in_it out_of_it over_it

    -- the move of an end, by the call that it is
    pub out_steps : (k : ℕ) (next : Move) → MayMoveOut layout meaning b node k next
        → OutSteps b k node (node_after layout meaning b (out_call k next) node)
    out_steps k (move.Offer id) may = out_by k (NodeCall.offer k) may.1 (λ q j about. about) (λ j about. about) (λ j about. absurd about)
    out_steps k move.Give may = out_by k (NodeCall.give k) may (λ q j about. about) (λ j about. about) (λ j about. absurd about)
    out_steps k move.Hold may = out_by k (NodeCall.hold k) may (λ q j about. about) (λ j about. about) (λ j about. absurd about)
    out_steps k move.Deny may = out_by k (NodeCall.deny k) may (λ q j about. about) (λ j about. about) (λ j about. absurd about)
    out_steps k move.Withdraw may = out_by k (NodeCall.withdraw k) may (λ q j about. about) (λ j about. about) (λ j about. absurd about)
    out_steps k (move.End how) may =
        out_by k (NodeCall.end_link k how) may (λ q j about. about) (λ j about. about) (λ j about. absurd about)
    out_steps k _ may = absurd may

    pub look_steps : (k : ℕ) (phase : Phase) → MayCall layout meaning b (NodeCall.look_out k phase) node
        → OutSteps b k node (after_call layout meaning b (NodeCall.look_out k phase) node)
    look_steps k phase may =
        out_by k (NodeCall.look_out k phase) may (λ q j about. about) (λ j about. about) (λ j about. absurd about)

    -- the same over a link over which copies go
    pub copied_by : (call : CopyCall) → MayCall layout meaning b (NodeCall.copy call) node
        → OutSteps b (copy_place call) node (after_call layout meaning b (NodeCall.copy call) node)
    copied_by call may =
        out_by (copy_place call) (NodeCall.copy call) may (λ q j about. about) (λ j about. absurd about) (λ j about. about)

    pub copy_steps : (k : ℕ) (next : Move) → MayMoveCopy k node next
        → OutSteps b k node (node_after layout meaning b (copy_call k next) node)
    copy_steps k (move.Offer id) may = copied_by (CopyCall.offer k) may.1
    copy_steps k move.Give may = copied_by (CopyCall.give k) may
    copy_steps k move.Hold may = copied_by (CopyCall.hold k) may
    copy_steps k move.Withdraw may = copied_by (CopyCall.withdraw k) may
    copy_steps k (move.End how) may = copied_by (CopyCall.end_link k how) may
    copy_steps k _ may = absurd may

    -- and over either, by the kind of the block
    pub source_steps : (k : ℕ) (next : Move) → (sharing : Bool) → is_one_taker node.block.kind ≡ sharing
        → (sharing ≡ true → MayMoveOut layout meaning b node k next)
        → (sharing ≡ false → MayMoveCopy k node next)
        → OutSteps b k node (node_after layout meaning b (source_call node.block.kind k next) node)
    source_steps k next true shares out copy =
        subst (λ (so : Bool). OutSteps b k node (node_after layout meaning b (cond so (out_call k next) (copy_call k next)) node))
        (sym shares) (out_steps k next (out refl))
    source_steps k next false copying out copy =
        subst (λ (so : Bool). OutSteps b k node (node_after layout meaning b (cond so (out_call k next) (copy_call k next)) node))
        (sym copying) (copy_steps k next (copy refl))

    -- where nothing lies in the slot, nothing is opened
    pub in_steps : (p k : ℕ) (slot : Option Value) (next : Move) → MayMoveIn layout meaning b node p k next
        → InSteps b p k node (node_after layout meaning b (in_call p k slot next) node)
    in_steps p k slot move.Want may =
        in_by p k (NodeCall.want p k) may (λ q j about. about) (λ j about. about) (λ j about. about)
    in_steps p k slot move.TurnDown may =
        in_by p k (NodeCall.turn_down p k) may (λ q j about. about) (λ j about. about) (λ j about. about)
    in_steps p k slot move.Postpone may =
        in_by p k (NodeCall.postpone p k) may (λ q j about. about) (λ j about. about) (λ j about. about)
    in_steps p k slot move.Refuse may =
        in_by p k (NodeCall.refuse p k) may (λ q j about. about) (λ j about. about) (λ j about. about)
    in_steps p k slot move.Consume may =
        in_by p k (NodeCall.consume p k) may (λ q j about. about) (λ j about. about) (λ j about. about)
    in_steps p k slot move.Ask may =
        in_by p k (NodeCall.ask p k) may (λ q j about. about) (λ j about. about) (λ j about. about)
    in_steps p k slot move.Claim may =
        in_by p k (NodeCall.claim p k) may (λ q j about. about) (λ j about. about) (λ j about. about)
    in_steps p k slot move.Release may =
        in_by p k (NodeCall.release p k) may (λ q j about. about) (λ j about. about) (λ j about. about)
    in_steps p k (Some value) move.Open may =
        in_by p k (NodeCall.open_with p k value) (may value) (λ q j about. about) (λ j about. about) (λ j about. about)
    in_steps p k None move.Open may =
        record {
          law = law;
          ins = λ q j port place apart. refl;
          outs = λ j place apart. refl;
          copies = λ j place apart. refl;
        }
    in_steps p k slot move.Close may =
        in_by p k (NodeCall.close p k) may (λ q j about. about) (λ j about. about) (λ j about. about)
    in_steps p k slot _ may = absurd may

-- the move of an input keeps it in order
pub input_steps : InputsKeep → (input : InputState) → InputLaw input → (next : Move) → MayMoveInput input next
    → InputLaw (input_after (input_call next) input)
input_steps keep input law (move.Offer id) may = keep.calls input InputCall.offer law may.1
input_steps keep input law move.Give may = keep.calls input InputCall.give law may
input_steps keep input law (move.End how) may = keep.calls input (InputCall.end_link how) law may
input_steps keep input law _ may = absurd may

-- the move of an exit keeps it in order; where nothing lies in the slot, nothing is opened
pub exit_steps : ExitsKeep → (exit : ExitState) → ExitLaw exit → (slot : Option Value) (next : Move) → MayMoveExit exit next
    → ExitLaw (exit_after (exit_call slot next) exit)
exit_steps keep exit law slot move.Want may = keep.calls exit ExitCall.want law may
exit_steps keep exit law slot move.TurnDown may = keep.calls exit ExitCall.turn_down law may
exit_steps keep exit law slot move.Postpone may = keep.calls exit ExitCall.postpone law may
exit_steps keep exit law slot move.Consume may = keep.calls exit ExitCall.consume law may
exit_steps keep exit law (Some value) move.Open may = keep.calls exit (ExitCall.open_with value) law (may value)
exit_steps keep exit law None move.Open may = law
exit_steps keep exit law slot move.Close may = keep.calls exit ExitCall.close law may
exit_steps keep exit law slot _ may = absurd may

module _ {W : Type 0} (layout : Layout W) (meaning : ℕ → Value → Result (List Value) ℕ) (l : ℕ) where
  -- the source of a link came to know this, and its target that
  pub record SourceSteps (old new : NetState) (view : SourceView Value) : Type 0 where
    pub parts : PartsInOrder layout meaning new
    pub lines : new.lines ≡ old.lines
    pub given : given_at layout new l ≡ view
    pub others : (k : ℕ) → k < length layout.links → (k ≡ l → ⊥) → given_at layout new k ≡ given_at layout old k
    pub targets : (k : ℕ) → k < length layout.links → taken_at layout new k ≡ taken_at layout old k

  pub record TargetSteps (old new : NetState) (view : TargetView Value) : Type 0 where
    pub parts : PartsInOrder layout meaning new
    pub lines : new.lines ≡ old.lines
    pub taken : taken_at layout new l ≡ view
    pub others : (k : ℕ) → k < length layout.links → (k ≡ l → ⊥) → taken_at layout new k ≡ taken_at layout old k
    pub sources : (k : ℕ) → k < length layout.links → given_at layout new k ≡ given_at layout old k

  module _ (run : IsRun layout) (there : l < length layout.links)
      (net : NetState) (parts : PartsInOrder layout meaning net) where
    pub block_gives : (s : ℕ) (change : NodeState → NodeState) → (link_in layout.links l).source ≡ Block s
        → OutSteps layout meaning s (out_place layout s l) (node_at net s) (change (node_at net s))
        → SourceSteps net (with_node s change net) (source_view (out_place layout s l) (change (node_at net s)))
    block_gives s change from steps =
        let low = run.leads.from_block l s there from in
        let Out : ℕ → Type 0 = λ j. j ≡ out_place layout s l in
        let is = node_is layout meaning run net parts s low (λ q j. ⊥) Out change steps in
        let mine = begins_here layout s l from in
        record {
          parts = node_changes layout meaning run net parts s low (λ q j. ⊥) Out change steps;
          lines = refl;
          given = given_as layout (with_node s change net) l (Block s) from ∙ ap (source_view (out_place layout s l)) is;
          others = λ k small apart.
              given_stays layout meaning run net parts s low (λ q j. ⊥) Out change steps k small
              (λ leads same. apart (places_differ (is_out_of layout s) k l (begins_here layout s k leads) mine same));
          targets = λ k small.
              taken_stays layout meaning run net parts s low (λ q j. ⊥) Out change steps k small
              (λ p leads about. about);
        }

    pub block_takes : (t p : ℕ) (change : NodeState → NodeState) → (link_in layout.links l).target ≡ Port t p
        → InSteps layout meaning t p (in_place layout t p l) (node_at net t) (change (node_at net t))
        → TargetSteps net (with_node t change net) (in_view p (in_place layout t p l) (change (node_at net t)))
    block_takes t p change to steps =
        let low = run.leads.to_block l t p there to in
        let In : ℕ → ℕ → Type 0 = λ q j. (q ≡ p) × (j ≡ in_place layout t p l) in
        let is = node_is layout meaning run net parts t low In (λ j. ⊥) change steps in
        record {
          parts = node_changes layout meaning run net parts t low In (λ j. ⊥) change steps;
          lines = refl;
          taken = taken_as layout (with_node t change net) l (Port t p) to ∙ ap (in_view p (in_place layout t p l)) is;
          others = λ k small apart.
              taken_stays layout meaning run net parts t low In (λ j. ⊥) change steps k small
              (λ q leads about. apart (one_entry k q leads about));
          sources = λ k small.
              given_stays layout meaning run net parts t low In (λ j. ⊥) change steps k small (λ leads about. about);
        }
      where
        one_entry : (k q : ℕ) → (link_in layout.links k).target ≡ Port t q
            → (q ≡ p) × (in_place layout t q k ≡ in_place layout t p l) → k ≡ l
        one_entry k q leads about =
            places_differ (is_into layout t p) k l
            (ends_here layout t p k (leads ∙ ap (λ (i : ℕ). Port t i) about.0)) (ends_here layout t p l to)
            (ap (λ (i : ℕ). in_place layout t i k) (sym about.0) ∙ about.1)

    pub input_gives : (b : ℕ) (change : InputState → InputState) → (link_in layout.links l).source ≡ Input b
        → InputLaw (change (input_at layout net b))
        → SourceSteps net (with_input layout b change net) (input_view (change (input_at layout net b)))
    input_gives b change from law =
        let is = input_is layout meaning run net parts b change law l there from in
        record {
          parts = input_changes layout meaning run net parts b change law;
          lines = refl;
          given = given_as layout (with_input layout b change net) l (Input b) from ∙ ap input_view is;
          others = λ k small apart.
              given_by_others layout meaning run net parts b change law l there from k small apart;
          targets = λ k small. taken_as_before layout meaning run net parts b change law k;
        }

    pub exit_takes : (change : ExitState → ExitState) → (link_in layout.links l).target ≡ Exit
        → ExitLaw (change (exit_at layout net l))
        → TargetSteps net (with_exit layout l change net) (exit_view (change (exit_at layout net l)))
    exit_takes change to law =
        let is = exit_is layout meaning net parts l there to change law in
        record {
          parts = exit_changes layout meaning net parts l there to change law;
          lines = refl;
          taken = taken_as layout (with_exit layout l change net) l Exit to ∙ ap exit_view is;
          others = λ k small apart. taken_by_others layout meaning net parts l there to change law k apart;
          sources = λ k small. given_as_before layout meaning net parts l there to change law k;
        }
