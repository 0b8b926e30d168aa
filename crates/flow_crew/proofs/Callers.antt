-- What the callers of exits have received stays where a network is scattered and put together again, and no receive waits there.
use Rattle.std.proofs.Common.{◌≡◌, ℕ, zero, suc, ◌+◌, ◌<◌, Bool, true, All, List, [], ◌∷◌, length, map, get_or, Result, refl, sym, ap, ◌∙◌, subst, arith, eqb-true}
use Rattle.std.proofs.Math.ListN.{get_or-map}
use Rattle.std.proofs.Math.Logic.{∥∥₁_elim}
use Rattle.std.proofs.Math.Nat.{ℕ_set}
use Rattle.std.proofs.lemmas.List.{length-map}
use Rattle.std.proofs.lemmas.List.Elements.{All-cons, All-nil}
use Rattle.flow_value.specs.declared.value.Value.{Value}
use Rattle.flow_value.specs.declared.work.WorkFault.{WorkFault}
use Rattle.flow_link.specs.Lists.{numbers_from}
use Rattle.flow_link.specs.Layout.{Layout}
use Rattle.flow_link.specs.Planned.{layout_of}
use Rattle.flow_block.specs.Planned.{exit_place, links_out}
use Rattle.flow_core.specs.Keeps.{NetKeeps}
use Rattle.flow_core.specs.State.{NetState, callers_in}
use Rattle.flow_exec.specs.Works.{works_of}
use Rattle.flow_exit.specs.Exit.{CallerState, ExitState, caller_of, fresh_exit}
use Rattle.flow_net.specs.Asked.{none_asked}
use Rattle.flow_net.specs.Net.{layout_in, parts_of}
use Rattle.flow_net.specs.declared.net.Net.{Net}
use Rattle.flow_net.proofs.NoneAsked.{not_asked_at}
use Rattle.flow_task.specs.Numbers.{entry_count, is_exit_number, task_count}
use Rattle.flow_task.specs.declared.board.Board.{Board}
use Rattle.flow_task.specs.declared.numbered.Exit.{Exit}
use Rattle.flow_task.proofs.TakenApart.{count_left}
use Rattle.flow_board.specs.Begun.{begun_in}
use Rattle.flow_board.specs.Gathers.{ExitIsKept}
use Rattle.flow_board.specs.Parts.{AllExitsOf, board_layout, exit_board, exit_link, exit_number, exit_state}
use Rattle.flow_crew.specs.Runs.{IsUncalled}

abbrev first_of : List ℕ → ℕ
first_of [] = 0
first_of (n ∷ ns) = n

abbrev rest_of : List ℕ → List ℕ
rest_of [] = []
rest_of (n ∷ ns) = ns

-- callers that have received the same and ask for the same
abbrev caller_with : List Value → Bool → CallerState
caller_with received asked = record { received = received; asked = asked }

same_caller : (x y : ExitState) → x.received ≡ y.received → x.asked ≡ y.asked → caller_of x ≡ caller_of y
same_caller x y received asked =
    ap (λ (values : List Value). caller_with values x.asked) received ∙ ap (λ (waits : Bool). caller_with y.received waits) asked

-- lists of one length with the same elements at each place
by_places : {A : Type 0} (xs ys : List A) (d : A) → length xs ≡ length ys → ((k : ℕ) → k < length xs → get_or xs k d ≡ get_or ys k d) → xs ≡ ys
by_places [] [] d long same = refl
by_places [] (y ∷ ys) d long same = absurd (omega (arith, long))
by_places (x ∷ xs) [] d long same = absurd (omega (arith, long))
by_places (x ∷ xs) (y ∷ ys) d long same =
    ap (λ z. z ∷ xs) (same 0 (omega arith))
    ∙ ap (λ zs. y ∷ zs) (by_places xs ys d (omega (arith, long)) (λ k low. same (suc k) (omega (arith, low))))

module _ {W : Type 0} (board : Board W) where
  abbrev layout : Layout W
  layout = layout_of board.rest.plan

  -- the number of the first exit
  abbrev first : ℕ
  first = task_count layout board.opens.items + entry_count layout board.opens.items

  -- at an exit, by its place, the callers have what they had
  abbrev SameAt : NetState → ℕ → Type 0
  SameAt net k = caller_of (get_or net.exits k fresh_exit) ≡ caller_of (get_or (begun_in board).exits k fresh_exit)

module _ {W : Type 0} {w : _} {e : _} (board : Board W) where
  -- an exit stands at the place that its number says
  at_place : (exit : Exit W w e) (i : ℕ) → exit_board exit ≡ board → exit_number exit ≡ first board + i → exit_place (layout board) (exit_link exit) ≡ i
  at_place exit i its number =
      let is = eqb-true (first board + exit_place (layout board) exit.link) exit.number
      (subst (λ (b : Board W). is_exit_number (layout_of b.rest.plan) b.opens.items exit.link exit.number ≡ true) its exit.numbered) in
      omega (arith, is, number)

  next_numbers : (exit : Exit W w e) (exits : List (Exit W w e)) (i : ℕ)
      → map exit_number (exit ∷ exits) ≡ numbers_from (first board + i) (length (exit ∷ exits))
      → map exit_number exits ≡ numbers_from (first board + suc i) (length exits)
  next_numbers exit exits i numbers =
      let next : suc (first board + i) ≡ first board + suc i = omega arith in
      ap rest_of numbers ∙ ap (λ (n : ℕ). numbers_from n (length exits)) next

  -- a network that is scattered: nobody has called there yet
  uncalled_from : (i : ℕ) (exits : List (Exit W w e)) → map exit_number exits ≡ numbers_from (first board + i) (length exits) → AllExitsOf board exits
      → ((k : ℕ) → k < length exits → get_or (map exit_state exits) k fresh_exit ≡ get_or (begun_in board).exits (i + k) fresh_exit)
      → All (IsUncalled board) exits
  uncalled_from i [] numbers of are = All-nil (IsUncalled board)
  uncalled_from i (exit ∷ exits) numbers of are =
      let place = at_place exit i of.0 (ap first_of numbers) in
      let here : i + 0 ≡ exit_place (layout board) (exit_link exit) = omega (arith, place) in
      All-cons (IsUncalled board) exit exits
      (ap caller_of (are 0 (omega arith)) ∙ ap (λ (n : ℕ). caller_of (get_or (begun_in board).exits n fresh_exit)) here)
      (uncalled_from (suc i) exits (next_numbers exit exits i numbers) of.1
      (λ k low. are (suc k) (omega (arith, low)) ∙ ap (λ (n : ℕ). get_or (begun_in board).exits n fresh_exit) (omega arith)))

  pub all_uncalled : (exits : List (Exit W w e)) → map exit_number exits ≡ numbers_from (first board) (length (links_out (layout board))) → AllExitsOf board exits
      → map exit_state exits ≡ (begun_in board).exits → All (IsUncalled board) exits
  all_uncalled exits numbers of same =
      let count : length exits ≡ length (links_out (layout board)) = count_left exit_number exits (first board) (length (links_out (layout board))) numbers in
      let begin : first board ≡ first board + 0 = omega arith in
      uncalled_from 0 exits
      (numbers ∙ ap (λ (n : ℕ). numbers_from (first board) n) (sym count) ∙ ap (λ (n : ℕ). numbers_from n (length exits)) begin) of
      (λ k low. ap (λ (states : List ExitState). get_or states k fresh_exit) same ∙ ap (λ (n : ℕ). get_or (begun_in board).exits n fresh_exit) (omega arith))

  -- a network that is put together: its callers have what they had, and no receive waited
  module _ (meaning : W → Value → Result (List Value) WorkFault) (net : NetState) (unasked : none_asked (begun_in board) ≡ true) where
    same_at : (i k : ℕ) (exits : List (Exit W w e)) → map exit_number exits ≡ numbers_from (first board + i) (length exits) → AllExitsOf board exits
        → All (λ exit. ExitIsKept meaning board net exit) exits → All (IsUncalled board) exits → k < length exits → SameAt board net (i + k)
    same_at i k [] numbers of kept uncalled low = absurd (omega (arith, low))
    same_at i zero (exit ∷ exits) numbers of kept uncalled low =
        let place = at_place exit i of.0 (ap first_of numbers) in
        let here : exit_place (layout board) (exit_link exit) ≡ i + 0 = omega (arith, place) in
        let its = kept 0 exit (omega arith) in
        let there = exit_place (layout board) (exit_link exit) in
        subst (SameAt board net) here
        (same_caller (get_or net.exits there fresh_exit) (get_or (begun_in board).exits there fresh_exit)
        (its.received ∙ ap (λ (caller : CallerState). caller.received) (uncalled 0 exit (omega arith)))
        (its.not_asked ∙ sym (not_asked_at (begun_in board) unasked there)))
    same_at i (suc k) (exit ∷ exits) numbers of kept uncalled low =
        let next : suc i + k ≡ i + suc k = omega arith in
        subst (SameAt board net) next
        (same_at (suc i) k exits (next_numbers exit exits i numbers) of.1 (λ j d less. kept (suc j) d (omega (arith, less)))
        (λ j d less. uncalled (suc j) d (omega (arith, less))) (omega (arith, low)))

    pub callers_kept : (exits : List (Exit W w e)) → map exit_number exits ≡ numbers_from (first board) (length (links_out (layout board))) → AllExitsOf board exits
        → All (λ exit. ExitIsKept meaning board net exit) exits → All (IsUncalled board) exits
        → length (begun_in board).exits ≡ length exits → length net.exits ≡ length (links_out (layout board))
        → callers_in net ≡ callers_in (begun_in board)
    callers_kept exits numbers of kept uncalled same many =
        let count : length exits ≡ length (links_out (layout board)) = count_left exit_number exits (first board) (length (links_out (layout board))) numbers in
        let begin : first board ≡ first board + 0 = omega arith in
        let begun = (begun_in board).exits in
        let long = length-map net.exits caller_of in
        let long_too = length-map begun caller_of in
        by_places (callers_in net) (callers_in (begun_in board)) (caller_of fresh_exit) (omega (arith, long, long_too, same, many, count))
        (λ k low.
        get_or-map caller_of net.exits k fresh_exit
        ∙ subst (SameAt board net) (omega arith)
        (same_at 0 k exits
        (numbers ∙ ap (λ (n : ℕ). numbers_from (first board) n) (sym count) ∙ ap (λ (n : ℕ). numbers_from n (length exits)) begin) of kept uncalled
        (omega (arith, low, long, many, count)))
        ∙ sym (get_or-map caller_of begun k fresh_exit))

-- a network has as many exits as links lead out of it
pub exits_many : {W : Type 0} {w : _} {e : _} (meaning : W → Value → Result (List Value) WorkFault) (board : Board W) (net : Net W w e)
    → ∥ NetKeeps (layout_in net) (works_of meaning (layout_in net)) (parts_of net) ∥₁ → layout_in net ≡ board_layout board
    → length (parts_of net).exits ≡ length (links_out (board_layout board))
exits_many {W} meaning board net kept same =
    ∥∥₁_elim kept (ℕ_set _ _) (λ keeps. keeps.exit_count) ∙ ap (λ (layout : Layout W). length (links_out layout)) same
