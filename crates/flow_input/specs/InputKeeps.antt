-- When an input is in order, that its calls keep it so, and what a run knows of it then.
use Rattle.std.specs.Prelude.{◌≡◌, ◌≢◌, ℕ, ◌+◌, ◌<◌, ◌≤◌, Bool, true, false, is_some, [], length, take, Some, None}
use Rattle.std.specs.Option.{ForSome}
use Rattle.flow_value.specs.declared.value.Value.{Value}
use Rattle.flow_link.specs.declared.phase.LinkEnd.{LinkEnd}
use Rattle.flow_link.specs.declared.phase.Move.{Move}
use Rattle.flow_link.specs.declared.phase.Move.TheVariants as move
use Rattle.flow_link.specs.declared.stage.SourceStage.{SourceStage}
use Rattle.flow_link.specs.declared.stage.SourceStage.TheVariants.{Free, Posted, Accepted, Refused, Ended}
use Rattle.flow_link.specs.declared.trace.Ending.{Ending}
use Rattle.flow_lawful.specs.Composes.{Ends, InputKeeps}
use Rattle.flow_link.specs.Looks.{looking_out}
use Rattle.flow_link.specs.Moves.{offering, posting, giving, ending}
use Rattle.flow_link.specs.Posted.{ends_by_number, is_numbered_ending}
use Rattle.flow_lawful.specs.RestsByParts.{InputIsStill, InputRests}
use Rattle.flow_link.specs.Trace.{InputTrace, Run, input_of}
use Rattle.flow_link.specs.Lists.{is_front}
use Rattle.flow_outlet.specs.End.{id_of, is_free}
use Rattle.flow_outlet.specs.Law.{is_posted, is_refused}
use Rattle.flow_poll.specs.Sends.{Begins, Tells}
use Rattle.flow_input.specs.Input.{InputState, InputCall, fresh_input, next_value, next_id, has_next, end_by, input_move, after_input, input_view, input_trace, is_wanted, is_of_net, is_unseen}
use Rattle.flow_input.specs.Sends.{has_id, begun_as, is_crossing, is_idle, sends_of, settled, takes_more, told_next, after_told}
use Rattle.flow_link.specs.Stage.{is_kept}
use Rattle.flow_link.specs.Stage.{rests_out, is_asked}

-- nothing is under way, and nothing comes any more where it refuses or has ended
abbrev pub is_at_home : SourceStage → Bool
is_at_home Free = true
is_at_home Refused = true
is_at_home (Ended _) = true
is_at_home _ = false

-- the target has a posted value before it, wants it, or takes none any more
abbrev pub goes_at_once : SourceStage → Bool
goes_at_once (Posted _) = true
goes_at_once (Accepted _) = true
goes_at_once Refused = true
goes_at_once _ = false

-- a value that is posted to the target stands alone
pub record Alone (input : InputState) : Type 0 where
  pub last : length input.posted ≡ input.sent + 1
  pub all_told : input.told ≡ input.sent
  pub none_back : input.back ≡ None
  pub at_once : input.at_once ≡ true
  pub stays_open : end_by input.ending ≡ None

-- and so does one that goes back. The target turned it down where it may take a later one, so it was not to be put off
pub record GoesBack (input : InputState) : Type 0 where
  pub all : length input.posted ≡ input.sent
  pub all_told : input.told ≡ input.sent
  pub home : is_at_home input.stage ≡ true
  pub turned_down : takes_more input ≡ true → input.at_once ≡ true

-- a value that is to be taken at once is never put off, and none waits behind it
pub record GoesAtOnce (input : InputState) : Type 0 where
  pub stands : goes_at_once input.stage ≡ true
  pub last : length input.posted ≡ input.sent + 1

pub record InputLaw (input : InputState) : Type 0 where
  pub within : input.sent ≤ length input.posted
  -- what it offers is what comes next, and is ready
  pub speaks : ForSome (id_of input.stage) (λ i. (i ≡ next_id input) × (has_next input ≡ true) × (input.parcel ≡ next_value input))
  pub posts : is_posted input.stage ≡ true → Alone input
  pub none_kept : is_kept input.stage ≡ false
  pub by_number : ends_by_number (input_trace input) ≡ true
  -- it ends when all is given, and then as it is to end
  pub ended : (how : LinkEnd) → input.stage ≡ Ended how → (end_by input.ending ≡ Some how) × (input.sent ≡ length input.posted)
  pub told : input.told ≤ settled input
  pub crossing : is_crossing input.stage ≡ true → 1 ≤ input.sent
  pub back : is_some input.back ≡ true → GoesBack input
  pub directly : input.at_once ≡ true → has_next input ≡ true → GoesAtOnce input

-- nothing is begun
pub record IsIdle (input : InputState) : Type 0 where
  pub all : length input.posted ≡ input.sent
  pub all_told : input.told ≡ input.sent
  pub none_back : input.back ≡ None

pub record MayOfferNext (input : InputState) : Type 0 where
  pub is_at_home : is_free input.stage ≡ true
  pub there : has_next input ≡ true

pub record MayEndLink (how : LinkEnd) (input : InputState) : Type 0 where
  pub is_at_home : is_free input.stage ≡ true
  pub all : has_next input ≡ false
  pub as_told : end_by input.ending ≡ Some how

pub record MayBegin (more : Bool) (input : InputState) : Type 0 where
  pub idle : IsIdle input
  pub so : takes_more input ≡ more

pub record MayFinish (how : Ending) (input : InputState) : Type 0 where
  pub idle : IsIdle input
  pub stays_open : end_by input.ending ≡ None
  pub numbered : is_numbered_ending how ≡ true

pub record MayRefuse (input : InputState) : Type 0 where
  pub refused : is_refused input.stage ≡ true
  pub all_told : input.told ≡ input.sent
  pub there : has_next input ≡ true

abbrev pub MayCallInput : InputCall → InputState → Type 0
MayCallInput InputCall.offer input = MayOfferNext input
MayCallInput InputCall.give input = is_wanted input.stage ≡ true
MayCallInput (InputCall.end_link how) input = MayEndLink how input
MayCallInput (InputCall.look phase) input = Unit {0}
MayCallInput (InputCall.post value) input = MayBegin true input
MayCallInput (InputCall.begin value) input = MayBegin true input
MayCallInput (InputCall.send_back value at_once) input = MayBegin false input
MayCallInput InputCall.tell input = input.told < settled input
MayCallInput InputCall.hand_back input = Unit {0}
MayCallInput InputCall.refuse_back input = MayRefuse input
MayCallInput (InputCall.finish how) input = MayFinish how input

-- what becomes of the input's view
pub record GivesNext (input new : InputState) : Type 0 where
  pub value : Value
  pub next : next_value input ≡ Some value
  pub ready : input.parcel ≡ Some value
  pub view : input_view new ≡ giving (next_id input) value (input_view input)

-- to post is a move of the link, and what else its caller does is nothing to the link
abbrev pub MovesInput : InputState → InputState → InputCall → Type 0
MovesInput input new InputCall.offer = input_view new ≡ offering (next_id input) (input_view input)
MovesInput input new InputCall.give = GivesNext input new
MovesInput input new (InputCall.end_link how) = input_view new ≡ ending how (input_view input)
MovesInput input new (InputCall.look phase) = input_view new ≡ looking_out phase (input_view input)
MovesInput input new (InputCall.post value) = input_view new ≡ posting (next_id input) (input_view input)
MovesInput input new _ = input_view new ≡ input_view input

-- what it would do next is a call that it may make
abbrev pub MayMoveInput : InputState → Move → Type 0
MayMoveInput input (move.Offer id) = (id ≡ next_id input) × MayCallInput InputCall.offer input
MayMoveInput input move.Give = MayCallInput InputCall.give input
MayMoveInput input (move.End how) = MayCallInput (InputCall.end_link how) input
MayMoveInput input _ = ⊥

-- what the network does leaves what is posted, but for a value that was posted to the target and is turned down
pub record PostedStays (old new : InputState) : Type 0 where
  pub same_ending : new.ending ≡ old.ending
  pub more : old.sent ≤ new.sent
  pub front : is_front new.posted old.posted ≡ true
  pub given : is_front (take old.sent old.posted) new.posted ≡ true
  pub unposted : is_posted old.stage ≡ false → (new.posted ≡ old.posted) × (is_posted new.stage ≡ false)

pub record InputsKeep : Type 0 where
  pub fresh : (trace : InputTrace) → ends_by_number trace ≡ true → InputLaw (fresh_input trace)
  pub calls : (input : InputState) (call : InputCall) → InputLaw input → MayCallInput call input → InputLaw (after_input call input)
  pub views : (input : InputState) (call : InputCall) → InputLaw input → MayCallInput call input → MovesInput input (after_input call input) call
  pub next : (input : InputState) (next : Move) → InputLaw input → input_move input ≡ Some next → MayMoveInput input next

-- of what is posted, whatever happens
pub record PostedIsKept : Type 0 where
  pub same : (input : InputState) → PostedStays input input
  pub stays : (input : InputState) (call : InputCall) → is_of_net call ≡ true → PostedStays input (after_input call input)
  pub further : (first mid last : InputState) → PostedStays first mid → PostedStays mid last → PostedStays first last

-- and of what its caller sees
pub record InputsTell : Type 0 where
  -- whatever happens in the network, the caller sees the same until it is told
  pub unseen : (input : InputState) (call : InputCall) → InputLaw input → is_of_net call ≡ true → sends_of (after_input call input) ≡ sends_of input
  -- what the next look tells is so, and the call may be made
  pub tells : (input : InputState) → InputLaw input → Tells (told_next input).answer (sends_of input) (sends_of (after_told (told_next input).call input))
  pub may : (input : InputState) → InputLaw input → ForSome (told_next input).call (λ made. (is_unseen made ≡ true) × MayCallInput made input)
  -- a value is begun
  pub posts : (input : InputState) (value : Value) → IsIdle input → has_id input ≡ true
      → Begins (begun_as true value) (has_id input) (sends_of input) (sends_of (after_input (InputCall.post value) input))
  pub begins : (input : InputState) (value : Value) → IsIdle input → has_id input ≡ true
      → Begins (begun_as false value) (has_id input) (sends_of input) (sends_of (after_input (InputCall.begin value) input))
  pub sends_back : (input : InputState) (value : Value) (at_once : Bool) → IsIdle input → has_id input ≡ true
      → Begins (begun_as at_once value) (has_id input) (sends_of input) (sends_of (after_input (InputCall.send_back value at_once) input))
  -- and it is known whether one is begun
  pub idle : (input : InputState) → InputLaw input → is_idle input ≡ true → IsIdle input
  pub busy : (input : InputState) → InputLaw input → is_idle input ≡ false → (sends_of input).begun ≢ []

module _ {W : Type 0} (run : Run W) (ends : ℕ → Ends) where
  -- the input of block b, whose link is l
  pub record IsInputOf (l b : ℕ) (input : InputState) : Type 0 where
    pub trace : input_of run b ≡ input_trace input
    pub source : (ends l).source ≡ input_view input

pub record InputsAreParts (W : Type 0) : Type 0 where
  pub keeps : (run : Run W) (ends : ℕ → Ends) (l b : ℕ) (input : InputState) → InputLaw input → IsInputOf run ends l b input
      → InputKeeps run ends l b
  pub still : (run : Run W) (ends : ℕ → Ends) (l b : ℕ) (input : InputState) → InputLaw input → IsInputOf run ends l b input
      → is_asked input.stage ≡ false → input_move input ≡ None → InputIsStill run ends l
  pub rests : (run : Run W) (ends : ℕ → Ends) (l b : ℕ) (input : InputState) → InputLaw input → IsInputOf run ends l b input
      → rests_out input.stage ≡ true → input_move input ≡ None → InputRests run ends l b
