-- What becomes of an input while its network goes on, and what its caller does there.
use Rattle.std.proofs.Common.{◌≡◌, ℕ, zero, suc, ◌+◌, ◌<◌, ◌^◌, not, Bool, true, false, List, [], ◌∷◌, length, take, drop, get_or, Option, Some, None, Result, Ok, Err, OnOk, OnErr, refl, ap, sym, subst, ◌∙◌, eqb-true}
use Rattle.std.specs.Option.{ForSome}
use Rattle.std.proofs.Math.Bool.{Bool-set}
use Rattle.std.proofs.Math.Logic.{∥∥₁_elim, ∥∥₁_map}
use Rattle.std.proofs.lemmas.Bool.{ltb-true}
use Rattle.std.proofs.lemmas.List.{get_or-set_same, set-get_or}
use Rattle.std.specs.Coded.{codes, le_prop}
use Rattle.flow_value.specs.contracts.value.Value as content
use Rattle.flow_value.specs.declared.value.Value.{Value}
use Rattle.flow_value.specs.declared.work.WorkFault.{WorkFault}
use Rattle.flow_link.specs.declared.plan.LinkSource.{LinkSource}
use Rattle.flow_link.specs.declared.plan.LinkSource.TheVariants.{Block, Input}
use Rattle.flow_link.specs.declared.plan.LinkTarget.TheVariants.{Port}
use Rattle.flow_link.specs.declared.plan.Plan.{Plan}
use Rattle.flow_link.specs.declared.trace.Ending.{Ending}
use Rattle.flow_link.specs.declared.trace.Ending.TheVariants as ending
use Rattle.flow_lawful.specs.Quiet.{is_open}
use Rattle.flow_link.specs.Layout.{Layout}
use Rattle.flow_link.specs.Plan.{link_in, no_block}
use Rattle.flow_link.specs.Planned.{layout_of}
use Rattle.flow_link.specs.Trace.{marks_of, took_over}
use Rattle.flow_link.specs.Lists.{is_front}
use Rattle.flow_link.proofs.PlacesTell.{count_within}
use Rattle.flow_intake.specs.Calls.{first_of}
use Rattle.flow_poll.specs.Sends.{Begins, SendView}
use Rattle.flow_block.specs.declared.planned.Route.{Route}
use Rattle.flow_block.specs.Planned.{block_makes, input_place}
use Rattle.flow_block.specs.Routes.{route_of, source_place}
use Rattle.flow_input.specs.Input.{InputState, InputCall, after_input, end_by, is_unseen, next_id, no_input}
use Rattle.flow_input.specs.InputKeeps.{InputLaw, IsIdle, MayCallInput}
use Rattle.flow_input.specs.Sends.{after_told, begun_as, has_id, is_idle, sends_of, told_next}
use Rattle.flow_input.proofs.OneProof.{idle_merely}
use Rattle.flow_input.proofs.TellsMay.{inputs_tell}
use Rattle.flow_core.specs.Events.{after_post}
use Rattle.flow_core.specs.Keeps.{IsRun, NetKeeps}
use Rattle.flow_core.specs.State.{NetState, input_at, run_of_net}
use Rattle.flow_core.proofs.InputsChange.{event_changes, seen_stays, sight_apart}
use Rattle.flow_core.proofs.NetworksInOrder.{all_accepted_was_taken, all_entry_calls_keep, all_posts_keep}
use Rattle.flow_exec.specs.Works.{works_of}
use Rattle.flow_moves.proofs.PlansRun.{plan_runs}
use Rattle.flow_moves.proofs.PostsGoAlong.{input_place_is, posts_go_along}
use Rattle.flow_moves.specs.Ready.{IsThere, SourceIsThere}
use Rattle.flow_moves.specs.Ways.{posted_along, with_input_in}
use Rattle.flow_net.specs.Happened.{Happened}
use Rattle.flow_moves.specs.Sights.{comes_from, is_entry_of}
use Rattle.flow_net.proofs.KeptOn.{kept_on}

pub from_so : {b : ℕ} (source : LinkSource) → comes_from b source ≡ true → source ≡ Input b
from_so {b} (Input n) e = ap (λ (i : ℕ). Input i) (eqb-true n b e)
from_so {b} (Block n) e = absurd (cc)

Views-set : IsSet SendView
Views-set = hlevel (codes, content.the_row.coded)

-- an id is left for the next value
pub id_left : (input : InputState) → IsIdle input → has_id input ≡ true → next_id input < 2 ^ 59
id_left input idle id =
    subst (λ (n : ℕ). n + 1 < 2 ^ 59) idle.all (ltb-true (length input.posted + 1) (2 ^ 59) id)

-- an input that stays open ends its link in no way
pub open_none : (how : Ending) → is_open how ≡ true → end_by how ≡ None
open_none ending.Open e = refl
open_none _ e = absurd (cc)

-- what stands first behind a place stands at it
pub first_there : (inputs : List InputState) (n : ℕ) (input : InputState) → first_of (drop n inputs) ≡ Some input
    → get_or inputs n no_input ≡ input
first_there [] zero input e = absurd (cc)
first_there [] (suc n) input e = absurd (cc)
first_there (one ∷ rest) zero input e = cc
first_there (one ∷ rest) (suc n) input e = first_there rest n input e

-- A value is begun, as its caller sees it

module _ {A E : Type 0} (result : Result A E) (old new : InputState) (value : Value) (may_postpone : Bool) where
  abbrev BeginsSo : Type 0
  BeginsSo = OnOk result (Begins (record { value = value; may_postpone = may_postpone }) (has_id old) (sends_of old) (sends_of new))

  begins_by : (call : InputCall) (at_once : Bool) → not at_once ≡ may_postpone → OnOk result (new ≡ after_input call old)
      → Begins (begun_as at_once value) (has_id old) (sends_of old) (sends_of (after_input call old)) → BeginsSo
  begins_by call at_once so done begins = by_result result done
    where
      by_result : (answer : Result A E) → OnOk answer (new ≡ after_input call old)
          → OnOk answer (Begins (record { value = value; may_postpone = may_postpone }) (has_id old) (sends_of old) (sends_of new))
      by_result (Ok x) done =
          subst (λ (input : InputState). Begins (record { value = value; may_postpone = may_postpone }) (has_id old) (sends_of old) (sends_of input))
          (sym done)
          (subst (λ (b : Bool). Begins (record { value = value; may_postpone = b }) (has_id old) (sends_of old) (sends_of (after_input call old)))
          so begins)
      by_result (Err e) done = tt

  pub later_begins : may_postpone ≡ true → ∥ InputLaw old ∥₁ → is_idle old ≡ true → has_id old ≡ true
      → OnOk result (new ≡ after_input (InputCall.begin value) old) → BeginsSo
  later_begins may law idle id done =
      begins_by (InputCall.begin value) false (sym may) done (inputs_tell.begins old value (idle_merely old law idle) id)

  pub post_begins : may_postpone ≡ false → ∥ InputLaw old ∥₁ → is_idle old ≡ true → has_id old ≡ true
      → OnOk result (new ≡ after_input (InputCall.post value) old) → BeginsSo
  post_begins may law idle id done =
      begins_by (InputCall.post value) true (sym may) done (inputs_tell.posts old value (idle_merely old law idle) id)

-- The input stands at the place that its link's way names

module _ {W : Type 0} (layout : Layout W) (l b : ℕ) (net : NetState) (route : Route) (way : route ≡ route_of layout l)
    (own : is_entry_of b (link_in layout.links l) ≡ true) where
  abbrev comes : (link_in layout.links l).source ≡ Input b
  comes = from_so (link_in layout.links l).source own

  stands_at : route.source_place ≡ input_place layout b
  stands_at = ap (λ (r : Route). r.source_place) way ∙ input_place_is layout l b comes

  pub source_at : IsThere net l (route_of layout l) → route.source_place < length net.inputs
  source_at there =
      let source = subst (λ (from : LinkSource). SourceIsThere net from (source_place layout from l)) comes there.source in
      subst (λ (k : ℕ). k < length net.inputs) (sym stands_at) source

  input_at_place : get_or net.inputs route.source_place no_input ≡ input_at layout net b
  input_at_place = ap (λ (k : ℕ). get_or net.inputs k no_input) stands_at

  pub all_at : IsIdle (input_at layout net b)
      → length (get_or net.inputs route.source_place no_input).posted ≡ (get_or net.inputs route.source_place no_input).sent
  all_at idle = subst (λ (input : InputState). length input.posted ≡ input.sent) (sym input_at_place) idle.all

  pub id_at : IsIdle (input_at layout net b) → has_id (input_at layout net b) ≡ true
      → next_id (get_or net.inputs route.source_place no_input) < 2 ^ 59
  id_at idle id = subst (λ (input : InputState). next_id input < 2 ^ 59) (sym input_at_place) (id_left (input_at layout net b) idle id)

-- The input that a search has found

pub found_at : {W : Type 0} (layout : Layout W) (b l : ℕ) → is_entry_of b (link_in layout.links l) ≡ true → (route : Route)
    → route ≡ route_of layout l → route.source_place ≡ input_place layout b
found_at layout b l own route way =
    ap (λ (r : Route). r.source_place) way ∙ input_place_is layout l b (from_so (link_in layout.links l).source own)

module _ {W : Type 0} (layout : Layout W) (net : NetState) (b : ℕ) where
  abbrev NoOpenEntry : Type 0
  NoOpenEntry = (l : ℕ) → l < length layout.links → is_entry_of b (link_in layout.links l) ≡ true → is_open (input_at layout net b).ending ≡ false

  pub never_entry : ((l : ℕ) → l < length layout.links → is_entry_of b (link_in layout.links l) ≡ false) → NoOpenEntry
  never_entry none l low own = absurd (let both = sym (none l low) ∙ own in cc)

  module _ (place : ℕ) (at : place ≡ input_place layout b) where
    pub shut_in : is_open (get_or net.inputs place no_input).ending ≡ false → NoOpenEntry
    shut_in shut l low own = subst (λ (k : ℕ). is_open (get_or net.inputs k no_input).ending ≡ false) at shut

    pub found_in : is_open (get_or net.inputs place no_input).ending ≡ true → is_open (input_at layout net b).ending ≡ true
    found_in open_so = subst (λ (k : ℕ). is_open (get_or net.inputs k no_input).ending ≡ true) at open_so

pub posted_so : {W : Type 0} (layout : Layout W) (meaning : ℕ → Value → Result (List Value) ℕ) (l b : ℕ) (old new : NetState) (route : Route)
    → route ≡ route_of layout l → is_entry_of b (link_in layout.links l) ≡ true → (value : Value) {A E : Type 0} (result : Result A E)
    → OnOk result ((makes : ℕ → Value → Result (List Value) ℕ) → new ≡ posted_along makes l value route old)
    → OnOk result (new ≡ after_post layout meaning l b value old)
posted_so layout meaning l b old new route way own value (Ok x) posted =
    posted (block_makes layout meaning) ∙ ap (λ (r : Route). posted_along (block_makes layout meaning) l value r old) way
    ∙ sym (posts_go_along layout meaning old l b value (from_so (link_in layout.links l).source own))
posted_so layout meaning l b old new route way own value (Err e) posted = tt

module _ {W : Type 0} (layout : Layout W) (meaning : ℕ → Value → Result (List Value) ℕ) (runs : IsRun layout)
    (l b : ℕ) (there : l < length layout.links) (from : (link_in layout.links l).source ≡ Input b) where
  abbrev mine : NetState → InputState
  mine net = input_at layout net b

  law_in : (net : NetState) → NetKeeps layout meaning net → InputLaw (mine net)
  law_in net keeps = keeps.inputs b (runs.leads.from_input l b there from) (runs.leads.from_inputs l b there from)

  -- events leave what its caller sees
  seen_on : (count : ℕ) (old new : NetState) → Happened layout meaning count old new → ∥ NetKeeps layout meaning old ∥₁
      → sends_of (mine new) ≡ sends_of (mine old)
  seen_on zero old new same kept = ap (λ (net : NetState). sends_of (mine net)) same
  seen_on (suc count) old new (mid, (before, last)) kept =
      ap (λ (net : NetState). sends_of (mine net)) last.new_is
      ∙ ∥∥₁_elim (kept_on layout meaning runs count old mid before kept) (Views-set _ _)
      (λ keeps. seen_stays (mine mid) _ ((event_changes layout meaning mid last.event).each (input_place layout b)) (law_in mid keeps))
      ∙ seen_on count old mid before kept

  module _ (net : NetState) (kept : ∥ NetKeeps layout meaning net ∥₁) where
    law_merely : ∥ InputLaw (mine net) ∥₁
    law_merely = ∥∥₁_map kept (λ keeps. law_in net keeps)

    input_is_there : input_place layout b < length net.inputs
    input_is_there =
        ∥∥₁_elim kept le_prop (λ keeps.
        subst (λ (n : ℕ). input_place layout b < n) (sym keeps.input_count)
        (count_within (λ block. block.input) layout.blocks b no_block
        (runs.leads.from_input l b there from) (runs.leads.from_inputs l b there from)))

    called_is : (change : InputState → InputState) → mine (with_input_in (input_place layout b) change net) ≡ change (mine net)
    called_is change = get_or-set_same net.inputs (input_place layout b) (change (mine net)) no_input input_is_there

    called_keeps : (call : InputCall) → is_unseen call ≡ true → MayCallInput call (mine net)
        → ∥ NetKeeps layout meaning (with_input_in (input_place layout b) (after_input call) net) ∥₁
    called_keeps call own may =
        ∥∥₁_map kept (λ keeps. all_entry_calls_keep W layout meaning runs net l b call keeps there from own may)

    told_keeps : ∥ NetKeeps layout meaning (with_input_in (input_place layout b) (after_told (told_next (mine net)).call) net) ∥₁
    told_keeps = ∥∥₁_map kept (λ keeps. by_call keeps (told_next (mine net)).call (inputs_tell.may (mine net) (law_in net keeps)))
      where
        by_call : NetKeeps layout meaning net → (call : Option InputCall)
            → ForSome call (λ made. (is_unseen made ≡ true) × MayCallInput made (mine net))
            → NetKeeps layout meaning (with_input_in (input_place layout b) (after_told call) net)
        by_call keeps None may =
            subst (λ (all : List InputState). NetKeeps layout meaning (record net { inputs = all }))
            (sym (set-get_or net.inputs (input_place layout b) no_input)) keeps
        by_call keeps (Some call) may =
            let both = may call refl in
            all_entry_calls_keep W layout meaning runs net l b call keeps there from both.0 both.1

    posted_keeps : (value : Value) → MayCallInput (InputCall.post value) (mine net)
        → ∥ NetKeeps layout meaning (after_post layout meaning l b value net) ∥₁
    posted_keeps value may = ∥∥₁_map kept (λ keeps. all_posts_keep W layout meaning runs net l b value keeps there from may)

    taken_told : (t p : ℕ) → (link_in layout.links l).target ≡ Port t p
        → is_front (take (mine net).told (mine net).posted) (took_over l (marks_of (run_of_net layout meaning net) t)) ≡ true
    taken_told t p to =
        ∥∥₁_elim kept (Bool-set _ _) (λ keeps. all_accepted_was_taken W layout meaning runs net l b t p keeps there from to)

-- The input of a network, by its plan

module _ {W : Type 0} (works : W → Value → Result (List Value) WorkFault) (plan : Plan W) (b l place : ℕ)
    (there : l < length (layout_of plan).links) (own : is_entry_of b (link_in (layout_of plan).links l) ≡ true)
    (placed : place ≡ input_place (layout_of plan) b) where
  abbrev layout : Layout W
  layout = layout_of plan

  abbrev meaning : ℕ → Value → Result (List Value) ℕ
  meaning = works_of works layout

  abbrev runs : IsRun layout
  runs = plan_runs plan

  abbrev from : (link_in layout.links l).source ≡ Input b
  from = from_so (link_in layout.links l).source own

  abbrev entry_then : NetState → InputState
  entry_then net = input_at layout net b

  abbrev Kept : NetState → Type 0
  Kept net = ∥ NetKeeps layout meaning net ∥₁

  at_place : (change : InputState → InputState) (net : NetState)
      → with_input_in place change net ≡ with_input_in (input_place layout b) change net
  at_place change net = ap (λ (k : ℕ). with_input_in k change net) placed

  pub entry_law : (net : NetState) → Kept net → ∥ InputLaw (entry_then net) ∥₁
  entry_law net kept = law_merely layout meaning runs l b there from net kept

  -- it is where its place says
  pub entry_there : (net : NetState) → Kept net → place < length net.inputs
  entry_there net kept =
      subst (λ (k : ℕ). k < length net.inputs) (sym placed) (input_is_there layout meaning runs l b there from net kept)

  pub entry_in : (net : NetState) → get_or net.inputs place no_input ≡ entry_then net
  entry_in net = ap (λ (k : ℕ). get_or net.inputs k no_input) placed

  pub was_taken : (net : NetState) → Kept net → (t p : ℕ) → (link_in layout.links l).target ≡ Port t p
      → is_front (take (entry_then net).told (entry_then net).posted) (took_over l (marks_of (run_of_net layout meaning net) t)) ≡ true
  was_taken net kept t p to = taken_told layout meaning runs l b there from net kept t p to

  -- a call of its caller, of which the link knows nothing
  module _ (call : InputCall) (own_call : is_unseen call ≡ true) (before after : NetState)
      (so : after ≡ with_input_in place (after_input call) before) (kept : Kept before) where
    called_so : after ≡ with_input_in (input_place layout b) (after_input call) before
    called_so = so ∙ at_place (after_input call) before

    pub kept_called : MayCallInput call (entry_then before) → Kept after
    kept_called may = subst Kept (sym called_so) (called_keeps layout meaning runs l b there from before kept call own_call may)

    pub entry_called : entry_then after ≡ after_input call (entry_then before)
    entry_called = ap entry_then called_so ∙ called_is layout meaning runs l b there from before kept (after_input call)

  -- one that memory may refuse
  pub kept_either : {A E : Type 0} (call : InputCall) → is_unseen call ≡ true → (before after : NetState) (result : Result A E)
      → OnOk result (after ≡ with_input_in place (after_input call) before) → OnErr result (after ≡ before)
      → MayCallInput call (entry_then before) → Kept before → Kept after
  kept_either call own_call before after (Ok x) done same may kept = kept_called call own_call before after done kept may
  kept_either call own_call before after (Err e) done same may kept = subst Kept (sym same) kept

  pub entry_either : {A E : Type 0} (call : InputCall) → is_unseen call ≡ true → (before after : NetState) (result : Result A E)
      → OnOk result (after ≡ with_input_in place (after_input call) before) → Kept before
      → OnOk result (entry_then after ≡ after_input call (entry_then before))
  entry_either call own_call before after (Ok x) done kept = entry_called call own_call before after done kept
  entry_either call own_call before after (Err e) done kept = tt

  -- what became of a value is told
  module _ (before after : NetState) (kept : Kept before)
      (so : after ≡ with_input_in place (after_told (told_next (get_or before.inputs place no_input)).call) before) where
    told_so : after ≡ with_input_in (input_place layout b) (after_told (told_next (entry_then before)).call) before
    told_so =
        so ∙ ap (λ (input : InputState). with_input_in place (after_told (told_next input).call) before) (entry_in before)
        ∙ at_place (after_told (told_next (entry_then before)).call) before

    pub kept_told : Kept after
    kept_told = subst Kept (sym told_so) (told_keeps layout meaning runs l b there from before kept)

    pub entry_told : entry_then after ≡ after_told (told_next (entry_then before)).call (entry_then before)
    entry_told =
        ap entry_then told_so ∙ called_is layout meaning runs l b there from before kept (after_told (told_next (entry_then before)).call)

  -- a value is posted
  posted_is : (value : Value) (before : NetState) → Kept before
      → entry_then (after_post layout meaning l b value before) ≡ after_input (InputCall.post value) (entry_then before)
  posted_is value before kept =
      ap (λ (all : List InputState). get_or all (input_place layout b) no_input)
      (sight_apart layout meaning l _ (link_in layout.links l).target _)
      ∙ called_is layout meaning runs l b there from before kept (after_input (InputCall.post value))

  pub kept_posted : {A E : Type 0} (value : Value) (before after : NetState) (result : Result A E)
      → OnOk result (after ≡ after_post layout meaning l b value before) → OnErr result (after ≡ before)
      → MayCallInput (InputCall.post value) (entry_then before) → Kept before → Kept after
  kept_posted value before after (Ok x) done same may kept =
      subst Kept (sym done) (posted_keeps layout meaning runs l b there from before kept value may)
  kept_posted value before after (Err e) done same may kept = subst Kept (sym same) kept

  pub entry_posted_by : {A E : Type 0} (value : Value) (before after : NetState) (result : Result A E)
      → OnOk result (after ≡ after_post layout meaning l b value before) → Kept before → (same_plan : Plan W) → same_plan ≡ plan
      → OnOk result (input_at (layout_of same_plan) after b ≡ after_input (InputCall.post value) (entry_then before))
  entry_posted_by value before after (Ok x) done kept same_plan same =
      ap (λ (p : Plan W). input_at (layout_of p) after b) same ∙ ap entry_then done ∙ posted_is value before kept
  entry_posted_by value before after (Err e) done kept same_plan same = tt

  -- events happen
  pub seen_served : (count : ℕ) (before after : NetState) → Happened layout meaning count before after → Kept before
      → sends_of (entry_then after) ≡ sends_of (entry_then before)
  seen_served count before after happened kept = seen_on layout meaning runs l b there from count before after happened kept

  pub kept_served : (count : ℕ) (before after : NetState) → Happened layout meaning count before after → Kept before → Kept after
  kept_served count before after happened kept = kept_on layout meaning runs count before after happened kept

  -- said by the plan that the network has after a call
  module _ (same_plan : Plan W) (same : same_plan ≡ plan) where
    pub there_then : l < length (layout_of same_plan).links
    there_then = subst (λ (p : Plan W). l < length (layout_of p).links) (sym same) there

    pub own_then : is_entry_of b (link_in (layout_of same_plan).links l) ≡ true
    own_then = subst (λ (p : Plan W). is_entry_of b (link_in (layout_of p).links l) ≡ true) (sym same) own

    pub placed_then : place ≡ input_place (layout_of same_plan) b
    placed_then = subst (λ (p : Plan W). place ≡ input_place (layout_of p) b) (sym same) placed

    pub kept_then : (net : NetState) → Kept net → ∥ NetKeeps (layout_of same_plan) (works_of works (layout_of same_plan)) net ∥₁
    kept_then net kept =
        subst (λ (p : Plan W). ∥ NetKeeps (layout_of p) (works_of works (layout_of p)) net ∥₁) (sym same) kept

    pub entry_same : (net : NetState) → input_at (layout_of same_plan) net b ≡ entry_then net
    entry_same net = ap (λ (p : Plan W). input_at (layout_of p) net b) same
