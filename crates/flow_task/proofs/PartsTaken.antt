-- The inputs of entries, and the ends of exits, that are taken stand at their places.
use Rattle.std.proofs.Common.{◌≡◌, ℕ, ◌+◌, ◌<◌, Bool, true, false, List, [], ◌∷◌, ◌++◌, All, length, map, get_or, slice_index_or, refl, sym, ap, ◌∙◌, subst, append_assoc, length-append, arith}
use Rattle.std.proofs.lemmas.List.{append-nil, get_or_append_left, get_or_push, nil_from_length}
use Rattle.std.proofs.lemmas.Grind.{merely}
use Rattle.std.proofs.lemmas.List.Elements.{All-push, All-same}
use Rattle.std.proofs.Math.Seq.{get_or-append_seam}
use Rattle.flow_block.specs.Planned.{exit_place}
use Rattle.flow_exit.specs.Exit.{ExitState, fresh_exit}
use Rattle.flow_input.specs.Input.{InputState, no_input}
use Rattle.flow_link.specs.Lists.{numbers_from}
use Rattle.flow_input.specs.InputKeeps.{PostedStays}
use Rattle.flow_task.specs.Begun.{begun_input}
use Rattle.flow_task.specs.Lefts.{EntryIsAt, ExitIsAt, IsTakenFrom}
use Rattle.flow_task.specs.Numbers.{place_in}
use Rattle.flow_task.specs.Parts.{board_layout, entry_link, entry_state, exit_link, exit_state}
use Rattle.flow_task.specs.Untouched.{AllUntouched, IsUntouched}
use Rattle.flow_task.specs.declared.board.Board.{Board}
use Rattle.flow_task.specs.declared.input_task.InputTask.{InputTask}
use Rattle.flow_task.specs.declared.numbered.Entry.{Entry}
use Rattle.flow_task.specs.declared.numbered.Exit.{Exit}
use Rattle.flow_task.proofs.InputsStayed.{untouched_stays}
use Rattle.flow_task.proofs.TakenApart.{count_left}

-- none is left where none has a number
pub no_left : {A : Type 0} (number : A → ℕ) (left : List A) (first n : ℕ) → map number left ≡ numbers_from first n → n ≡ 0 → left ≡ []
no_left number left first n are none = nil_from_length left (count_left number left first n are ∙ none)

module _ {W : Type 0} {w : _} {e : _} (board : Board W) where
  -- an entry whose input is among the first, and there
  abbrev EntryBelow : ℕ → List InputState → Entry W w e → Type 0
  EntryBelow place inputs entry = (place_in (board_layout board) (entry_link entry) < place) × EntryIsAt board inputs entry

  pub record EntriesTaken (all : List (Entry W w e)) (place : ℕ) (inputs : List InputState) (left : List (Entry W w e)) : Type 0 where
    pub before : List (Entry W w e)
    pub all_is : all ≡ before ++ left
    pub at : All (λ entry. EntryBelow place inputs entry) before

  -- the values of an input stayed that is no entry, or to whose entry no call was made
  pub stays_from : (opened : Bool) (part : InputTask W w e) (all : List (Entry W w e)) (place : ℕ) (inputs : List InputState)
      (old new : List (Entry W w e)) → EntriesTaken all place inputs old → IsTakenFrom opened part old new → part.of.value ≡ board
      → (opened ≡ true → AllUntouched board all) → ∥ PostedStays (begun_input board part.link) part.input ∥₁
  stays_from true part all place inputs old new taken from of untouched =
      let entry = from.0 in
      let before = taken.before in
      let is = taken.all_is ∙ ap (λ (left : List (Entry W w e)). before ++ left) from.1.0 in
      let long = ap length is ∙ length-append before (entry ∷ new) in
      let here : get_or all (length before) entry ≡ entry =
      ap (λ (xs : List (Entry W w e)). get_or xs (length before) entry) is ∙ get_or-append_seam before entry new entry in
      let so = subst (IsUntouched board) here (untouched refl (length before) entry (omega (arith, long))) in
      merely (subst (λ (input : InputTask W w e). PostedStays (begun_input board input.link) input.input) from.1.1
      (untouched_stays (begun_input board (entry_link entry)) (entry_state entry) so))
  stays_from false part all place inputs old new taken from of untouched =
      subst (λ (b : Board W). ∥ PostedStays (begun_input b part.link) part.input ∥₁) of from.1

  entry_stays : (place : ℕ) (inputs : List InputState) (input : InputState) → length inputs ≡ place → (entry : Entry W w e)
      → EntryBelow place inputs entry → EntryBelow (place + 1) (inputs ++ input ∷ []) entry
  entry_stays place inputs input count entry below = (
    let low = below.0 in omega (arith, low),
    (let low = below.0 in get_or_append_left inputs (input ∷ []) no_input (place_in (board_layout board) (entry_link entry)) (omega (arith, low, count)))
        ∙ below.1,
  )

  taken_by : (opened : Bool) (part : InputTask W w e) (all : List (Entry W w e)) (place : ℕ) (inputs : List InputState)
      (old new : List (Entry W w e)) → EntriesTaken all place inputs old → IsTakenFrom opened part old new → length inputs ≡ place
      → place_in (board_layout board) part.link ≡ place → EntriesTaken all (place + 1) (inputs ++ part.input ∷ []) new
  taken_by true part all place inputs old new taken from count at =
      let entry = from.0 in
      let same = from.1.1 in
      let here : place_in (board_layout board) (entry_link entry) ≡ place =
      ap (λ (input : InputTask W w e). place_in (board_layout board) input.link) same ∙ at in
      record {
        before = taken.before ++ entry ∷ [];
        all_is = taken.all_is ∙ ap (λ (left : List (Entry W w e)). taken.before ++ left) from.1.0
            ∙ sym (append_assoc taken.before (entry ∷ []) new);
        at = All-push (λ entry. EntryBelow (place + 1) (inputs ++ part.input ∷ []) entry) taken.before entry
            (λ k d low. entry_stays place inputs part.input count (slice_index_or taken.before k d) (taken.at k d low)) (
              omega (arith, here),
              ap (λ (q : ℕ). get_or (inputs ++ part.input ∷ []) q no_input) here ∙ get_or_push inputs part.input no_input place count
                  ∙ ap (λ (input : InputTask W w e). input.input) (sym same),
            );
      }
  taken_by false part all place inputs old new taken from count at = record {
    before = taken.before;
    all_is = taken.all_is ∙ ap (λ (left : List (Entry W w e)). taken.before ++ left) (sym from.0);
    at = λ k d low. entry_stays place inputs part.input count (slice_index_or taken.before k d) (taken.at k d low);
  }

  pub taken_more : (opened : Bool) (part : InputTask W w e) (all : List (Entry W w e)) (place : ℕ) (inputs after : List InputState)
      (old new : List (Entry W w e)) → EntriesTaken all place inputs old → IsTakenFrom opened part old new → length inputs ≡ place
      → place_in (board_layout board) part.link ≡ place → after ≡ inputs ++ part.input ∷ [] → EntriesTaken all (place + 1) after new
  taken_more opened part all place inputs after old new taken from count at is =
      subst (λ (inputs : List InputState). EntriesTaken all (place + 1) inputs new) (sym is)
      (taken_by opened part all place inputs old new taken from count at)

  pub all_taken : (all : List (Entry W w e)) (place : ℕ) (inputs : List InputState) (left : List (Entry W w e))
      → EntriesTaken all place inputs left → left ≡ [] → All (λ entry. EntryIsAt board inputs entry) all
  all_taken all place inputs left taken none =
      All-same (λ entry. EntryIsAt board inputs entry) all taken.before
      (taken.all_is ∙ ap (λ (left : List (Entry W w e)). taken.before ++ left) none ∙ append-nil taken.before)
      (λ k d low. (taken.at k d low).1)

  -- the same of exits
  abbrev ExitBelow : ℕ → List ExitState → Exit W w e → Type 0
  ExitBelow place exits exit = (exit_place (board_layout board) (exit_link exit) < place) × ExitIsAt board exits exit

  abbrev pub ExitsBelow : ℕ → List ExitState → List (Exit W w e) → Type 0
  ExitsBelow place exits all = All (λ exit. ExitBelow place exits exit) all

  pub exits_more : (place : ℕ) (exits after : List ExitState) (before : List (Exit W w e)) (exit : Exit W w e) → ExitsBelow place exits before
      → length exits ≡ place → exit_place (board_layout board) (exit_link exit) ≡ place → after ≡ exits ++ exit_state exit ∷ []
      → ExitsBelow (place + 1) after (before ++ exit ∷ [])
  exits_more place exits after before exit below count at is =
      subst (λ (states : List ExitState). ExitsBelow (place + 1) states (before ++ exit ∷ [])) (sym is)
      (All-push (λ one. ExitBelow (place + 1) (exits ++ exit_state exit ∷ []) one) before exit
      (λ k d low.
      let one = below k d low in (
        let small = one.0 in omega (arith, small),
        (let small = one.0 in get_or_append_left exits (exit_state exit ∷ []) fresh_exit _ (omega (arith, small, count))) ∙ one.1,
      )) (
        omega (arith, at),
        ap (λ (k : ℕ). get_or (exits ++ exit_state exit ∷ []) k fresh_exit) at ∙ get_or_push exits (exit_state exit) fresh_exit place count,
      ))

  pub all_exits_taken : (place : ℕ) (exits : List ExitState) (all before : List (Exit W w e)) → all ≡ before → ExitsBelow place exits before
      → All (λ exit. ExitIsAt board exits exit) all
  all_exits_taken place exits all before is below =
      All-same (λ exit. ExitIsAt board exits exit) all before is (λ k d low. (below k d low).1)
