-- What a gathered network has of its entries and its exits.
use Rattle.std.proofs.Common.{◌≡◌, ⊎_elim, ℕ, ◌+◌, ◌<◌, ◌≤◌, true, List, [], ◌∷◌, length, take, Result, refl, sym, ap, ◌∙◌, subst, arith}
use Rattle.std.proofs.Math.Bool.{Bool-set}
use Rattle.std.proofs.Math.ListN.{get_or, get_or-map}
use Rattle.std.proofs.Math.Logic.{∥∥₁_elim}
use Rattle.std.proofs.Math.Nat.{ℕ_set}
use Rattle.std.proofs.lemmas.List.{length-append, length-take-le}
use Rattle.std.specs.Coded.{codes, le_prop}
use Rattle.flow_value.specs.declared.value.Value.{Value}
use Rattle.flow_value.specs.declared.work.WorkFault.{WorkFault}
use Rattle.flow_value.specs.contracts.value.Value as content
use Rattle.flow_link.specs.Lists.{is_front}
use Rattle.flow_link.specs.declared.plan.LinkSource.{LinkSource}
use Rattle.flow_link.specs.declared.plan.LinkSource.TheVariants.{Block, Input}
use Rattle.flow_link.specs.declared.plan.LinkTarget.{LinkTarget}
use Rattle.flow_link.specs.declared.plan.LinkTarget.TheVariants as target
use Rattle.flow_link.specs.declared.trace.Ending.{Ending}
use Rattle.flow_link.specs.Layout.{Layout}
use Rattle.flow_link.specs.Plan.{link_in}
use Rattle.flow_link.specs.Planned.{layout_of}
use Rattle.flow_link.specs.Trace.{gave_over, marks_of, took_over}
use Rattle.flow_link.specs.Told.{IsTakenOrUnderWay}
use Rattle.flow_link.proofs.LinksTell.{links_tell}
use Rattle.flow_block.specs.Planned.{exit_place, is_exit, leads_out}
use Rattle.flow_block_law.proofs.NodesAreLawful.{nodes_are_lawful}
use Rattle.flow_core.specs.Inputs.{input_of}
use Rattle.flow_core.specs.Keeps.{IsRun, NetKeeps}
use Rattle.flow_core.specs.InOrder.{all_looked}
use Rattle.flow_core.specs.State.{NetState, callers_in, ends_of, exit_at, input_at, run_of_net, source_from}
use Rattle.flow_core.specs.Statements.{IsReceivedOf}
use Rattle.flow_core.proofs.KeptIsLawful.{kept_in_order, parts_keep}
use Rattle.flow_core.proofs.NetworksInOrder.{all_accepted_was_taken, all_received_was_given}
use Rattle.flow_exec.specs.Works.{works_of}
use Rattle.flow_exit.specs.Exit.{CallerState, caller_of, fresh_exit}
use Rattle.flow_input.specs.Input.{InputState}
use Rattle.flow_input.specs.Sends.{sends_of}
use Rattle.flow_input.proofs.InputLists.{taken_short}
use Rattle.flow_input.proofs.InputsAreParts.{inputs_are_parts}
use Rattle.flow_input.proofs.InputsInOrder.{told_within}
use Rattle.flow_moves.proofs.PlansRun.{plan_runs}
use Rattle.flow_poll.specs.Sends.{SendView}
use Rattle.flow_task.specs.Begun.{begun_input}
use Rattle.flow_task.specs.Entries.{took_at}
use Rattle.flow_task.specs.Events.{HasLooked, InputLooks}
use Rattle.flow_board.specs.Gathers.{EntryIsKept, ExitIsKept, IsToldOf}
use Rattle.flow_task.specs.Inputs.{is_of_input}
use Rattle.flow_task.specs.Lefts.{EntryIsAt}
use Rattle.flow_task.specs.Numbers.{place_in}
use Rattle.flow_task.specs.Orders.{HasLookedAround}
use Rattle.flow_task.specs.Parts.{entry_board, entry_link, entry_state, exit_board, exit_link, exit_state}
use Rattle.flow_task.specs.declared.board.Board.{Board}
use Rattle.flow_task.specs.declared.numbered.Entry.{Entry}
use Rattle.flow_task.specs.declared.numbered.Exit.{Exit}
use Rattle.flow_net.proofs.NoneAsked.{callers_looked}
use Rattle.flow_board.proofs.AllLooked.{input_looked, looks_leave}
use Rattle.flow_board.proofs.AskedNoMore.{asked_no_more}
use Rattle.flow_task.proofs.InputPlaces.{input_placed}

Views-set : IsSet SendView
Views-set = Prim.hlevel (codes, content.the_row.coded)

Endings-set : IsSet Ending
Endings-set = Prim.hlevel (codes, content.the_row.coded)

received_prop : (received given : List Value) → IsProp (IsReceivedOf received given)
received_prop received given = hlevel (Bool-set, le_prop)

leads_so : (to : LinkTarget) → is_exit to ≡ true → to ≡ target.Exit
leads_so target.Exit e = refl
leads_so (target.Port t p) e = absurd (cc)

-- no more was taken than was given
taken_by : (given taken : List Value) (n : ℕ) → length given ≤ n → IsTakenOrUnderWay given taken → length taken ≤ n
taken_by given taken n short either =
    ⊎_elim (λ (all : given ≡ taken). subst (λ (vs : List Value). length vs ≤ n) all short)
    (λ one. let long = ap (λ (vs : List Value). length vs) one.1 ∙ length-append taken (one.0 ∷ []) in omega (arith, long, short))
    either

module _ {W : Type 0} (layout : Layout W) (meaning : ℕ → Value → Result (List Value) ℕ) (runs : IsRun layout) (net : NetState)
    (l b t p : ℕ) (keeps : NetKeeps layout meaning net) (there : l < length layout.links) (from : (link_in layout.links l).source ≡ Input b)
    (to : (link_in layout.links l).target ≡ target.Port t p) where
  taken_within : length (took_over l (marks_of (run_of_net layout meaning net) t)) ≤ (input_at layout net b).sent
  taken_within =
      let run = run_of_net layout meaning net in
      let ends = ends_of layout net l in
      let input = input_at layout net b in
      let low = runs.leads.to_block l t p there to in
      let parts = parts_keep layout meaning runs net (kept_in_order keeps) (nodes_are_lawful W) (inputs_are_parts W) in
      let taken : ends.target.taken ≡ took_over l (marks_of run t) = ((parts.nodes t low).targets l p there to).taken in
      let given : ends.source.given ≡ take input.sent input.posted = ap (λ (begins : LinkSource). (source_from layout net l begins).given) from in
      subst (λ (vs : List Value). length vs ≤ input.sent) taken
      (taken_by ends.source.given ends.target.taken input.sent
      (subst (λ (vs : List Value). length vs ≤ input.sent) (sym given) (taken_short input.posted input.sent))
      ((links_tell Value).link_law _ _ _ _ _ (keeps.lines l there).in_order))

module _ {W : Type 0} (meaning : W → Value → Result (List Value) WorkFault) (board : Board W) (net mid : NetState)
    (kept : ∥ NetKeeps (layout_of board.rest.plan) (works_of meaning (layout_of board.rest.plan)) net ∥₁)
    (looked : HasLookedAround meaning (layout_of board.rest.plan) mid net) where
  abbrev layout : Layout W
  layout = layout_of board.rest.plan

  abbrev works : ℕ → Value → Result (List Value) ℕ
  works = works_of meaning layout

  abbrev start : NetState
  start = record { nodes = mid.nodes; inputs = mid.inputs; exits = mid.exits; lines = looked.0 }

  -- an entry
  module _ {w : _} {e : _} (entry : Entry W w e) (its : entry_board entry ≡ board) (at : EntryIsAt board mid.inputs entry) where
    abbrev now : InputState
    now = input_of net (place_in layout (entry_link entry))

    looked_so : HasLooked InputLooks (entry_state entry) now
    looked_so =
        subst (λ (state : NetState). HasLooked InputLooks (entry_state entry) (input_of state (place_in layout (entry_link entry)))) (sym looked.1)
        (subst (λ (input : InputState). HasLooked InputLooks input
        (input_of (all_looked layout works (length layout.links) start) (place_in layout (entry_link entry)))) at
        (input_looked layout works (length layout.links) start (place_in layout (entry_link entry))))

    same_sends : sends_of now ≡ sends_of (entry_state entry)
    same_sends = ∥∥₁_elim entry.input.law (Views-set _ _) (λ law. (looks_leave (entry_state entry) now law looked_so).sends)

    same_sent : now.sent ≡ (entry_state entry).sent
    same_sent = ∥∥₁_elim entry.input.law (ℕ_set _ _) (λ law. (looks_leave (entry_state entry) now law looked_so).sent)

    there : entry_link entry < length layout.links
    there = subst (λ (b : Board W). entry_link entry < length (layout_of b.rest.plan).links) its entry.input.there

    long : length (sends_of (entry_state entry)).accepted ≡ (entry_state entry).told
    long = ∥∥₁_elim entry.input.law (ℕ_set _ _) (λ law.
        let low = told_within (entry_state entry) law in
        length-take-le (entry_state entry).told (entry_state entry).posted (omega (arith, low, law.within)))

    near : (entry_state entry).sent ≤ (entry_state entry).told + 1
    near = ∥∥₁_elim entry.law le_prop (λ law. law.one_more)

    told_by : (b : ℕ) → (link_in layout.links (entry_link entry)).source ≡ Input b → (t p : ℕ)
        → (link_in layout.links (entry_link entry)).target ≡ target.Port t p
        → IsToldOf (sends_of (entry_state entry)).accepted (took_over (entry_link entry) (marks_of (run_of_net layout works net) t))
    told_by b from t p to =
        let l = entry_link entry in
        let took = took_over l (marks_of (run_of_net layout works net) t) in
        let place = input_placed layout board.rest.plan.laid_out l b there from in
        let same : input_at layout net b ≡ now = ap (input_of net) place in
        let runs = plan_runs board.rest.plan in
        let front : is_front (take (input_at layout net b).told (input_at layout net b).posted) took ≡ true =
        ∥∥₁_elim kept (Bool-set _ _) (λ keeps. all_accepted_was_taken W layout works runs net l b t p keeps there from to) in
        let within : length took ≤ (input_at layout net b).sent =
        ∥∥₁_elim kept le_prop (λ keeps. taken_within layout works runs net l b t p keeps there from to) in
        let sent : (input_at layout net b).sent ≡ (entry_state entry).sent = ap (λ (input : InputState). input.sent) same ∙ same_sent in
        let told : (sends_of (input_at layout net b)).accepted ≡ (sends_of (entry_state entry)).accepted =
        ap (λ (input : InputState). (sends_of input).accepted) same ∙ ap (λ (view : SendView). view.accepted) same_sends in
        record {
          front = subst (λ (accepted : List Value). is_front accepted took ≡ true) told front;
          one_more = omega (arith, within, sent, near, long);
        }

    from_input : (source : LinkSource) → (link_in layout.links (entry_link entry)).source ≡ source → is_of_input source ≡ true → (t p : ℕ)
        → (link_in layout.links (entry_link entry)).target ≡ target.Port t p
        → IsToldOf (sends_of (entry_state entry)).accepted (took_over (entry_link entry) (marks_of (run_of_net layout works net) t))
    from_input (Input b) from is t p to = told_by b from t p to
    from_input (Block b) from is t p to = absurd (cc)

    pub entry_kept : EntryIsKept meaning board net entry
    entry_kept = record {
      sends = same_sends;
      same_ending = ∥∥₁_elim entry.input.law (Endings-set _ _) (λ law.
          (looks_leave (entry_state entry) now law looked_so).posted.same_ending);
      goes_on = ∥∥₁_elim entry.law (Bool-set _ _) (λ law.
          subst (λ (b : Board W). is_front (took_at (begun_input b (entry_link entry))) (sends_of (entry_state entry)).accepted ≡ true) its
          law.goes_on);
      taken = from_input (link_in layout.links (entry_link entry)).source refl
          (subst (λ (b : Board W). is_of_input (link_in (layout_of b.rest.plan).links (entry_link entry)).source ≡ true) its entry.input.begins);
    }

  -- an exit
  module _ {w : _} {e : _} (exit : Exit W w e) (its : exit_board exit ≡ board)
      (at : get_or mid.exits (exit_place layout (exit_link exit)) fresh_exit ≡ asked_no_more (exit_state exit)) where
    same_caller : caller_of (exit_at layout net (exit_link exit)) ≡ caller_of (asked_no_more (exit_state exit))
    same_caller =
        let place = exit_place layout (exit_link exit) in
        sym (get_or-map caller_of net.exits place fresh_exit)
        ∙ ap (λ (callers : List CallerState). get_or callers place (caller_of fresh_exit))
        (ap callers_in looked.1 ∙ callers_looked layout works (length layout.links) start)
        ∙ get_or-map caller_of mid.exits place fresh_exit ∙ ap caller_of at

    same_received : (exit_at layout net (exit_link exit)).received ≡ (exit_state exit).received
    same_received = ap (λ (caller : CallerState). caller.received) same_caller

    pub exit_kept : ExitIsKept meaning board net exit
    exit_kept = record {
      not_asked = ap (λ (caller : CallerState). caller.asked) same_caller;
      received = same_received;
      given = λ b from.
          let l = exit_link exit in
          let there = subst (λ (its : Board W). l < length (layout_of its.rest.plan).links) its exit.there in
          let to = leads_so (link_in layout.links l).target
          (subst (λ (its : Board W). leads_out (layout_of its.rest.plan) l ≡ true) its exit.leads) in
          let gave = gave_over l (marks_of (run_of_net layout works net) b) in
          subst (λ (received : List Value). IsReceivedOf received gave) same_received
          (∥∥₁_elim kept (received_prop (exit_at layout net l).received gave) (λ keeps.
          all_received_was_given W layout works (plan_runs board.rest.plan) net l b keeps there from to));
    }
