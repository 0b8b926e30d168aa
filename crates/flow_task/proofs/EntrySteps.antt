-- What the caller of an entry does to its input: the input merely is in order, so it is afterwards, and its end knows what it then knows.
use Rattle.std.proofs.Common.{◌≡◌, ℕ, ◌-◌, ◌<◌, cond, Bool, true, false, List, length, Option, Some, None, refl, sym, ap, ◌∙◌, arith}
use Rattle.std.proofs.Math.Logic.{∥∥₁_elim, ∥∥₁_map}
use Rattle.std.specs.Coded.{codes}
use Rattle.std.specs.Option.{ForSome}
use Rattle.std.proofs.lemmas.Bool.{and_parts}
use Rattle.atomic_table.specs.Seated.{TableId, table_id_coded}
use Rattle.flow_value.specs.declared.value.Value.{Value}
use Rattle.flow_value.specs.contracts.value.Value as content
use Rattle.flow_link.specs.declared.plan.LinkSource.{LinkSource}
use Rattle.flow_link.specs.declared.plan.LinkSource.TheVariants.{Block, Input}
use Rattle.flow_link.specs.Facts.{facts_in}
use Rattle.flow_link.specs.Layout.{Layout}
use Rattle.flow_link.specs.Moves.{posting}
use Rattle.flow_link.specs.Plan.{link_in}
use Rattle.flow_link.specs.Views.{SourceView}
use Rattle.flow_link.specs.declared.stage.SourceStage.{SourceStage}
use Rattle.flow_link.specs.declared.stage.SourceStage.TheVariants.{Ended, Free, Posted, Refused}
use Rattle.flow_outlet.specs.End.{is_free}
use Rattle.flow_outlet.specs.Law.{is_posted}
use Rattle.flow_input.specs.Input.{InputState, InputCall, after_input, input_view, is_unseen, next_id}
use Rattle.flow_input.specs.InputKeeps.{InputLaw, MayCallInput, MovesInput, is_at_home as is_home}
use Rattle.flow_input.specs.Sends.{after_told, is_crossing, settled, told_next}
use Rattle.flow_input.proofs.InputsMove.{inputs_keep}
use Rattle.flow_input.proofs.TellsMay.{inputs_tell}
use Rattle.flow_core.specs.Keeps.{IsRun}
use Rattle.flow_core.proofs.InputsFit.{has_room}
use Rattle.flow_core.proofs.StagesFit.{is_at_home}
use Rattle.flow_task.specs.Entries.{with_parcel}
use Rattle.flow_task.specs.Inputs.{begins_at_input, input_due, is_of_input}
use Rattle.flow_task.specs.Known.{OutKnown}
use Rattle.flow_task.specs.Words.{MayOffer}
use Rattle.flow_task.proofs.TaskSteps.{out_knows}

Known-set : IsSet OutKnown
Known-set = Prim.hlevel (codes, table_id_coded, content.the_row.coded)

-- the link knows nothing of the call
view_same : (input new : InputState) (call : InputCall) → is_unseen call ≡ true → MovesInput input new call → input_view new ≡ input_view input
view_same input new (InputCall.begin value) unseen same = same
view_same input new (InputCall.send_back value at_once) unseen same = same
view_same input new InputCall.tell unseen same = same
view_same input new InputCall.hand_back unseen same = same
view_same input new InputCall.refuse_back unseen same = same
view_same input new (InputCall.finish how) unseen same = same
view_same input new InputCall.offer unseen same = absurd (cc)
view_same input new InputCall.give unseen same = absurd (cc)
view_same input new (InputCall.end_link how) unseen same = absurd (cc)
view_same input new (InputCall.look phase) unseen same = absurd (cc)
view_same input new (InputCall.post value) unseen same = absurd (cc)

-- a parcel more
with_law : (input : InputState) → InputLaw input → InputLaw (with_parcel input)
with_law input law = record {
  within = law.within;
  speaks = λ i e. let so = law.speaks i e in (so.0, so.1, refl);
  posts = λ e. let alone = law.posts e in
      record {
        last = alone.last;
        all_told = alone.all_told;
        none_back = alone.none_back;
        at_once = alone.at_once;
        stays_open = alone.stays_open;
      };
  none_kept = law.none_kept;
  by_number = law.by_number;
  ended = law.ended;
  told = law.told;
  crossing = law.crossing;
  back = λ e. let back = law.back e in
      record { all = back.all; all_told = back.all_told; home = back.home; turned_down = back.turned_down };
  directly = λ a n. let direct = law.directly a n in record { stands = direct.stands; last = direct.last };
}

-- where no message crosses, all that was given was taken
posted_home : (stage : SourceStage) → is_posted stage ≡ true → is_crossing stage ≡ false
posted_home (Posted i) e = refl
posted_home _ e = absurd (cc)

home_settled : (stage : SourceStage) → is_home stage ≡ true → is_crossing stage ≡ false
home_settled Free e = refl
home_settled Refused e = refl
home_settled (Ended how) e = refl
home_settled _ e = absurd (cc)

all_taken : (input : InputState) → is_crossing input.stage ≡ false → settled input ≡ input.sent
all_taken input none = ap (λ (crosses : Bool). cond crosses (input.sent - 1) input.sent) none

passed : (input : InputState) → InputLaw input → InputLaw (record input { told = settled input })
passed input law = record {
  within = law.within;
  speaks = law.speaks;
  posts = λ e. let alone = law.posts e in
      record {
        last = alone.last;
        all_told = all_taken input (posted_home input.stage e);
        none_back = alone.none_back;
        at_once = alone.at_once;
        stays_open = alone.stays_open;
      };
  none_kept = law.none_kept;
  by_number = law.by_number;
  ended = law.ended;
  told = omega arith;
  crossing = law.crossing;
  back = λ e. let back = law.back e in
      record {
        all = back.all;
        all_told = all_taken input (home_settled input.stage back.home);
        home = back.home;
        turned_down = back.turned_down;
      };
  directly = λ a n. let direct = law.directly a n in record { stands = direct.stands; last = direct.last };
}

module _ {W : Type 0} (layout : Layout W) (wires : List TableId) (l : ℕ) (input : InputState) (law : ∥ InputLaw input ∥₁) where
  -- a call that the link knows nothing of
  pub unseen_law : (call : InputCall) → MayCallInput call input → ∥ InputLaw (after_input call input) ∥₁
  unseen_law call may = ∥∥₁_map law (λ i. inputs_keep.calls input call i may)

  pub unseen_knows : (call : InputCall) → is_unseen call ≡ true → MayCallInput call input → (known : OutKnown)
      → known ≡ input_due layout wires l input → known ≡ input_due layout wires l (after_input call input)
  unseen_knows call unseen may known is =
      ∥∥₁_elim law (Known-set _ _) (λ i.
      is ∙ ap (λ (view : SourceView Value). out_knows view (input_due layout wires l input))
      (sym (view_same input (after_input call input) call unseen (inputs_keep.views input call i may))))

  -- what became of a value is told
  abbrev MayTell : Option InputCall → Type 0
  MayTell told = ForSome told (λ made. (is_unseen made ≡ true) × MayCallInput made input)

  told_law_by : (told : Option InputCall) → (InputLaw input → MayTell told) → ∥ InputLaw (after_told told input) ∥₁
  told_law_by None may = law
  told_law_by (Some call) may = ∥∥₁_map law (λ i. inputs_keep.calls input call i (may i call refl).1)

  pub told_law : ∥ InputLaw (after_told (told_next input).call input) ∥₁
  told_law = told_law_by (told_next input).call (inputs_tell.may input)

  told_knows_by : (told : Option InputCall) → (InputLaw input → MayTell told) → (known : OutKnown) → known ≡ input_due layout wires l input
      → known ≡ input_due layout wires l (after_told told input)
  told_knows_by None may known is = is
  told_knows_by (Some call) may known is =
      ∥∥₁_elim law (Known-set _ _) (λ i. let so = may i call refl in unseen_knows call so.0 so.1 known is)

  pub told_knows : (known : OutKnown) → known ≡ input_due layout wires l input
      → known ≡ input_due layout wires l (after_told (told_next input).call input)
  told_knows known is = told_knows_by (told_next input).call (inputs_tell.may input) known is

  -- a parcel is put, and what was taken is passed over
  pub parcel_law : ∥ InputLaw (with_parcel input) ∥₁
  parcel_law = ∥∥₁_map law (with_law input)

  pub passed_law : ∥ InputLaw (record input { told = settled input }) ∥₁
  passed_law = ∥∥₁_map law (passed input)

  -- a value is posted
  module _ (run : IsRun layout) (there : l < length layout.links) (begins : begins_at_input layout l ≡ true) (value : Value)
      (may : MayCallInput (InputCall.post value) input) where
    unlimited : (source : LinkSource) → (link_in layout.links l).source ≡ source → is_of_input source ≡ true
        → (facts_in layout l).max ≡ None
    unlimited (Input b) from is = run.leads.inputs_unlimited l b there from
    unlimited (Block b) from is = absurd (cc)

    pub post_may : MayOffer (facts_in layout l) (next_id input) (input_view input)
    post_may =
        let both = and_parts (is_free input.stage) _ may.so in
        record {
          free = is_at_home input.stage both.0;
          rises = omega arith;
          room = has_room (facts_in layout l).max _ (unlimited (link_in layout.links l).source refl begins);
        }

    pub post_knows : (known : OutKnown) → known ≡ out_knows (posting (next_id input) (input_view input)) (input_due layout wires l input)
        → known ≡ input_due layout wires l (after_input (InputCall.post value) input)
    post_knows known is =
        ∥∥₁_elim law (Known-set _ _) (λ i.
        is ∙ ap (λ (view : SourceView Value). out_knows view (input_due layout wires l input))
        (sym (inputs_keep.views input (InputCall.post value) i may)))
