-- What becomes of the inputs and the exits of a network when the ends of its links look.
use Rattle.std.proofs.Math.Seq.{map-set_same}
use Rattle.std.proofs.Common.{◌≡◌, ℕ, zero, suc, List, get_or, Some, Result, refl, sym, ap, ◌∙◌, subst}
use Rattle.flow_value.specs.declared.value.Value.{Value}
use Rattle.flow_link.proofs.PlacesTell.{element_set}
use Rattle.flow_link.specs.declared.phase.Phase.{Phase}
use Rattle.flow_link.specs.declared.plan.LinkSource.{LinkSource}
use Rattle.flow_link.specs.declared.plan.LinkSource.TheVariants.{Block, Input}
use Rattle.flow_link.specs.declared.plan.LinkTarget.{LinkTarget}
use Rattle.flow_link.specs.declared.plan.LinkTarget.TheVariants.{Port, Exit}
use Rattle.flow_link.specs.Layout.{Layout}
use Rattle.flow_link.specs.Plan.{link_in}
use Rattle.flow_block.specs.Planned.{exit_place, input_place}
use Rattle.flow_core.specs.Events.{input_after, source_sees, target_sees}
use Rattle.flow_core.specs.InOrder.{all_looked, looked_at}
use Rattle.flow_core.specs.Inputs.{input_of}
use Rattle.flow_core.specs.State.{NetState, callers_in, input_at, line_at}
use Rattle.flow_core.proofs.InputsChange.{sight_apart}
use Rattle.flow_exit.specs.Exit.{caller_of, fresh_exit}
use Rattle.flow_input.specs.Input.{InputCall, InputState, after_input, no_input}
use Rattle.flow_input.specs.InputKeeps.{InputLaw, PostedStays}
use Rattle.flow_input.specs.Sends.{sends_of}
use Rattle.flow_input.proofs.InputsMove.{inputs_keep}
use Rattle.flow_input.proofs.PostedKept.{posted_is_kept}
use Rattle.flow_input.proofs.TellsMay.{inputs_tell}
use Rattle.flow_task.specs.Events.{HasLooked, InputLooks, LooksBy}
use Rattle.flow_task.proofs.InputTells.{look_gives_nothing}
use Rattle.flow_task.proofs.TurnsHappen.{looks_further, one_look, stays, stays_so}

module _ {W : Type 0} (layout : Layout W) (meaning : ℕ → Value → Result (List Value) ℕ) where
  -- the end of one link looks, where it begins
  one_source : (l : ℕ) (phase : Phase) (source : LinkSource) (net : NetState) (q : ℕ)
      → HasLooked InputLooks (input_of net q) (input_of (source_sees layout meaning l phase source net) q)
  one_source l phase (Block s) net q = stays InputLooks (input_of net q)
  one_source l phase (Input b) net q =
      element_set (λ i input. HasLooked InputLooks (input_of net i) input) net.inputs (input_place layout b) q
      (input_after (Some (InputCall.look phase)) (input_at layout net b)) no_input
      (λ place. one_look InputLooks (input_of net q) (input_after (Some (InputCall.look phase)) (input_at layout net b)) (record {
        phase = phase;
        leaves = ap (λ (i : ℕ). after_input (InputCall.look phase) (input_of net i)) (sym place);
      }))
      (stays InputLooks (input_of net q))

  one_link : (l : ℕ) (net : NetState) (q : ℕ) → HasLooked InputLooks (input_of net q) (input_of (looked_at layout meaning l net) q)
  one_link l net q =
      let phase = (line_at net l).phase in
      let mid = target_sees layout meaning l phase (link_in layout.links l).target net in
      looks_further InputLooks (input_of net q) (input_of mid q) (input_of (looked_at layout meaning l net) q)
      (stays_so InputLooks (input_of net q) (input_of mid q)
      (ap (λ (inputs : List InputState). get_or inputs q no_input) (sight_apart layout meaning l phase (link_in layout.links l).target net)))
      (one_source l phase (link_in layout.links l).source mid q)

  -- and the ends of all links
  pub input_looked : (n : ℕ) (net : NetState) (q : ℕ) → HasLooked InputLooks (input_of net q) (input_of (all_looked layout meaning n net) q)
  input_looked zero net q = stays InputLooks (input_of net q)
  input_looked (suc n) net q =
      let mid = all_looked layout meaning n net in
      looks_further InputLooks (input_of net q) (input_of mid q) (input_of (looked_at layout meaning n mid) q)
      (input_looked n net q) (one_link n mid q)

-- What looks leave of an input

-- it is in order, its caller sees the same, and nothing was given
pub record LooksLeave (old new : InputState) : Type 0 where
  pub law : InputLaw new
  pub sends : sends_of new ≡ sends_of old
  pub sent : new.sent ≡ old.sent
  pub posted : PostedStays old new

looks_leave_by : (n : ℕ) (old new : InputState) → InputLaw old → LooksBy InputLooks n old new → LooksLeave old new
looks_leave_by zero old new law same =
    subst (LooksLeave old) (sym same) (record { law = law; sends = refl; sent = refl; posted = posted_is_kept.same old })
looks_leave_by (suc n) old new law more =
    let mid = more.0 in
    let before = looks_leave_by n old mid law more.1.0 in
    let look = more.1.1 in
    let after = after_input (InputCall.look look.phase) mid in
    subst (LooksLeave old) (sym look.leaves) (record {
      law = inputs_keep.calls mid (InputCall.look look.phase) before.law tt;
      sends = inputs_tell.unseen mid (InputCall.look look.phase) before.law refl ∙ before.sends;
      sent = look_gives_nothing look.phase mid ∙ before.sent;
      posted = posted_is_kept.further old mid after before.posted (posted_is_kept.stays mid (InputCall.look look.phase) refl);
    })

pub looks_leave : (old new : InputState) → InputLaw old → HasLooked InputLooks old new → LooksLeave old new
looks_leave old new law looked = looks_leave_by looked.0 old new law looked.1
