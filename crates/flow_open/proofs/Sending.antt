-- What the calls of a sender and of its entry come to, one after another.
use Rattle.std.proofs.Common.{◌≡◌, Bool, true, false, List, [], ◌∷◌, ◌++◌, Option, Some, None, map, refl, sym, ap, ◌∙◌, subst}
use Rattle.std.proofs.lemmas.List.{append-nil, append_assoc}
use Rattle.std.proofs.Math.Seq.{append_snoc}
use Rattle.std.specs.List.{FoldsTo}
use Rattle.flow_value.specs.declared.value.Value.{Value}
use Rattle.flow_link.specs.declared.trace.Ending.TheVariants.{Complete}
use Rattle.flow_lawful.specs.Quiet.{is_open}
use Rattle.flow_input.specs.Input.{InputState}
use Rattle.flow_input.specs.Sends.{sends_of}
use Rattle.flow_poll.specs.Sends.{AcceptsFirst, Begins, Begun, DeclinesFirst, ReturnsFirst, SendView}
use Rattle.flow_poll.specs.declared.send.SendFault.{SendFault}
use Rattle.flow_open.specs.declared.sender.Sender.{Sender}
use Rattle.flow_open.specs.declared.sender.SenderState.{SenderState}
use Rattle.flow_open.specs.declared.sender.SenderState.TheVariants.{Sending, Through, Refused, NotBegun}
use Rattle.flow_open.specs.Senders.{back_in, is_sending}
use Rattle.flow_open.specs.Sends.{AllAreSent, IsStill, Sends, given, values_at}

given-append : (xs ys : List (Option Value)) → given (xs ++ ys) ≡ given xs ++ given ys
given-append [] ys = refl
given-append (None ∷ xs) ys = given-append xs ys
given-append (Some value ∷ xs) ys = ap (λ (values : List Value). value ∷ values) (given-append xs ys)

pub folds_on : {P A : Type 0} (R : P → A → P → Type 0) (p : P) (xs : List A) (q : P) (ys : List A) (r : P) → FoldsTo R p xs q → FoldsTo R q ys r
    → FoldsTo R p (xs ++ ys) r
folds_on {P} R p [] q ys r is rest = subst (λ (s : P). FoldsTo R s ys r) (sym is) rest
folds_on R p (x ∷ xs) q ys r steps rest = (steps.0, steps.1, folds_on R steps.0 xs q ys r steps.2 rest)

-- who sends on has nothing back, and is not through
unlike : {A : Type 0} (b : Bool) → b ≡ true → b ≡ false → A
unlike b is is_not = cc

nothing_back : (state : SenderState) → is_sending state ≡ true → back_in state ≡ []
nothing_back Sending sending = refl
nothing_back Through sending = refl
nothing_back (Refused value) sending = unlike false sending refl
nothing_back (NotBegun value fault) sending = unlike false sending refl

not_through : {A : Type 0} (state : SenderState) → is_sending state ≡ true → state ≡ Through → A
not_through state sending through = unlike (is_sending state) sending (ap is_sending through)

-- a sender whose value came back is not through
abbrev comes_back : SenderState → Bool
comes_back Sending = false
comes_back Through = false
comes_back (Refused value) = true
comes_back (NotBegun value fault) = true

-- the values at an entry at which these were told, came back and are under way
abbrev all_values : List Value → List Value → List Begun → List Value
all_values accepted back begun = accepted ++ (back ++ map (λ begun. begun.value) begun)

-- the first one under way is told as accepted
accepted_by : (begun : List Begun) (accepted : List Value) (new : SendView) (back : List Value) → back ≡ [] → AcceptsFirst begun accepted new
    → (told : List Value) × (new.accepted ≡ accepted ++ told) × (all_values new.accepted back new.begun ≡ all_values accepted back begun)
accepted_by [] accepted new back none first = absurd first
accepted_by (first ∷ rest) accepted new back none is = (
  first.value ∷ [],
  ap (λ (view : SendView). view.accepted) is,
  ap (λ (view : SendView). all_values view.accepted back view.begun) is
      ∙ ap (λ (none : List Value). all_values (accepted ++ first.value ∷ []) none rest) none
      ∙ append_snoc accepted first.value (map (λ (begun : Begun). begun.value) rest)
      ∙ ap (λ (none : List Value). all_values accepted none (first ∷ rest)) (sym none),
)

-- the first one under way comes back
returned_by : (begun : List Begun) (accepted : List Value) (value : Value) (new : SendView) (back then : List Value) → back ≡ []
    → then ≡ value ∷ [] → ReturnsFirst begun accepted value new
    → (told : List Value) × (new.accepted ≡ accepted ++ told) × (all_values new.accepted then new.begun ≡ all_values accepted back begun)
returned_by [] accepted value new back then none one first = absurd first
returned_by (first ∷ rest) accepted value new back then none one is = (
  [],
  ap (λ (view : SendView). view.accepted) is.1 ∙ sym (append-nil accepted),
  ap (λ (view : SendView). all_values view.accepted then view.begun) is.1
      ∙ ap (λ (values : List Value). all_values accepted values rest) one
      ∙ ap (λ (first : Value). accepted ++ first ∷ map (λ (begun : Begun). begun.value) rest) (sym is.0)
      ∙ ap (λ (values : List Value). all_values accepted values (first ∷ rest)) (sym none),
)

declines_return : (begun : List Begun) (accepted : List Value) (value : Value) (new : SendView) → DeclinesFirst begun accepted value new
    → ReturnsFirst begun accepted value new
declines_return [] accepted value new first = first
declines_return (first ∷ rest) accepted value new is = (ap (λ (begun : Begun). begun.value) is.0, is.1)

-- an input that was told so is to end
ends_by : (old new : InputState) → (is_open old.ending ≡ true → new.ending ≡ Complete) → (is_open old.ending ≡ false → new ≡ old)
    → is_open new.ending ≡ false
ends_by old new finished again = by_old (is_open old.ending) refl
  where
    by_old : (b : Bool) → is_open old.ending ≡ b → is_open new.ending ≡ false
    by_old true is = ap is_open (finished is)
    by_old false is = ap (λ (input : InputState). is_open input.ending) (again is) ∙ is

module _ {S : Type 0} (gives : S → Option Value → S → Type 0) where
  -- nothing happens
  pub sends_none : (input : InputState) (sender : Sender S) → Sends gives input sender input sender
  sends_none input sender = record {
    answers = [];
    asked = refl;
    each_once = sym (append-nil (values_at (sends_of input) sender));
    told = [];
    told_more = sym (append-nil (sends_of input).accepted);
    through = λ sending through. not_through sender.state sending through;
    still = λ not. record { none_asked = refl; same_input = refl; same_sender = refl };
  }

  -- the entry tells nothing
  pub sends_same : (old new : InputState) (from : Sender S) → is_sending from.state ≡ true → sends_of new ≡ sends_of old
      → Sends gives old from new from
  sends_same old new from sending same = record {
    answers = [];
    asked = refl;
    each_once = ap (λ (view : SendView). values_at view from) same ∙ sym (append-nil (values_at (sends_of old) from));
    told = [];
    told_more = ap (λ (view : SendView). view.accepted) same ∙ sym (append-nil (sends_of old).accepted);
    through = λ sending through. not_through from.state sending through;
    still = λ not. unlike (is_sending from.state) sending not;
  }

  pub sends_accepted : (old new : InputState) (from : Sender S) → is_sending from.state ≡ true
      → AcceptsFirst (sends_of old).begun (sends_of old).accepted (sends_of new) → Sends gives old from new from
  sends_accepted old new from sending first =
      let by = accepted_by (sends_of old).begun (sends_of old).accepted (sends_of new) (back_in from.state) (nothing_back from.state sending) first in
      record {
        answers = [];
        asked = refl;
        each_once = by.2 ∙ sym (append-nil (values_at (sends_of old) from));
        told = by.0;
        told_more = by.1;
        through = λ sending through. not_through from.state sending through;
        still = λ not. unlike (is_sending from.state) sending not;
      }

  pub sends_returned : (old new : InputState) (from to : Sender S) (value : Value) → is_sending from.state ≡ true → to.state ≡ Refused value
      → to.values ≡ from.values → ReturnsFirst (sends_of old).begun (sends_of old).accepted value (sends_of new) → Sends gives old from new to
  sends_returned old new from to value sending refused values first =
      let by = returned_by (sends_of old).begun (sends_of old).accepted value (sends_of new) (back_in from.state) (back_in to.state)
      (nothing_back from.state sending) (ap back_in refused) first in
      record {
        answers = [];
        asked = sym values;
        each_once = by.2 ∙ sym (append-nil (values_at (sends_of old) from));
        told = by.0;
        told_more = by.1;
        through = λ sending through. unlike (comes_back to.state) (ap comes_back refused) (ap comes_back through);
        still = λ not. unlike (is_sending from.state) sending not;
      }

  pub sends_declined : (old new : InputState) (from to : Sender S) (value : Value) → is_sending from.state ≡ true → to.state ≡ Refused value
      → to.values ≡ from.values → DeclinesFirst (sends_of old).begun (sends_of old).accepted value (sends_of new) → Sends gives old from new to
  sends_declined old new from to value sending refused values first =
      sends_returned old new from to value sending refused values
      (declines_return (sends_of old).begun (sends_of old).accepted value (sends_of new) first)

  -- a value behind those that are there, where none is under way
  behind : (old : SendView) (from : Sender S) (value : Value) → old.begun ≡ [] → is_sending from.state ≡ true
      → values_at old from ++ value ∷ [] ≡ old.accepted ++ value ∷ []
  behind old from value idle sending =
      ap (λ (begun : List Begun). all_values old.accepted (back_in from.state) begun ++ value ∷ []) idle
      ∙ ap (λ (back : List Value). all_values old.accepted back [] ++ value ∷ []) (nothing_back from.state sending)
      ∙ ap (λ (values : List Value). values ++ value ∷ []) (append-nil old.accepted)

  -- the next value is begun
  pub sends_begun : (old new : InputState) (from to : Sender S) (value : Value) (begun : Begun) (has_id : Bool) → is_sending from.state ≡ true
      → to.state ≡ from.state → gives from.values (Some value) to.values → begun.value ≡ value
      → Begins begun has_id (sends_of old) (sends_of new) → Sends gives old from new to
  sends_begun old new from to value begun has_id sending same step its begins = record {
    answers = Some value ∷ [];
    asked = (to.values, step, refl);
    each_once = ap (λ (view : SendView). values_at view to) begins.new_is
        ∙ ap (λ (back : List Value). all_values (sends_of old).accepted back (begun ∷ [])) (ap back_in same ∙ nothing_back from.state sending)
        ∙ ap (λ (one : Value). (sends_of old).accepted ++ one ∷ []) its ∙ sym (behind (sends_of old) from value begins.free sending);
    told = [];
    told_more = ap (λ (view : SendView). view.accepted) begins.new_is ∙ sym (append-nil (sends_of old).accepted);
    through = λ sending through. not_through from.state sending (sym same ∙ through);
    still = λ not. unlike (is_sending from.state) sending not;
  }

  -- the next value could not be begun, and comes back
  pub sends_back : (old new : InputState) (from to : Sender S) (value : Value) (fault : SendFault) → is_sending from.state ≡ true
      → to.state ≡ NotBegun value fault → gives from.values (Some value) to.values → (sends_of old).begun ≡ [] → new ≡ old
      → Sends gives old from new to
  sends_back old new from to value fault sending back step idle same = record {
    answers = Some value ∷ [];
    asked = (to.values, step, refl);
    each_once = ap (λ (input : InputState). values_at (sends_of input) to) same
        ∙ ap (λ (begun : List Begun). all_values (sends_of old).accepted (back_in to.state) begun) idle
        ∙ ap (λ (state : SenderState). all_values (sends_of old).accepted (back_in state) []) back
        ∙ sym (behind (sends_of old) from value idle sending);
    told = [];
    told_more = ap (λ (input : InputState). (sends_of input).accepted) same ∙ sym (append-nil (sends_of old).accepted);
    through = λ sending through. unlike (comes_back to.state) (ap comes_back back) (ap comes_back through);
    still = λ not. unlike (is_sending from.state) sending not;
  }

  -- there is none any more
  pub sends_end : (old new : InputState) (from to : Sender S) → is_sending from.state ≡ true → to.state ≡ Through
      → gives from.values None to.values → (sends_of old).begun ≡ [] → sends_of new ≡ sends_of old
      → (is_open old.ending ≡ true → new.ending ≡ Complete) → (is_open old.ending ≡ false → new ≡ old) → Sends gives old from new to
  sends_end old new from to sending through step idle same finished again = record {
    answers = None ∷ [];
    asked = (to.values, step, refl);
    each_once = ap (λ (view : SendView). values_at view to) same
        ∙ ap (λ (back : List Value). all_values (sends_of old).accepted back (sends_of old).begun)
        (ap back_in through ∙ sym (nothing_back from.state sending)) ∙ sym (append-nil (values_at (sends_of old) from));
    told = [];
    told_more = ap (λ (view : SendView). view.accepted) same ∙ sym (append-nil (sends_of old).accepted);
    through = λ sending through. record {
      before = [];
      none_more = refl;
      none_begun = ap (λ (view : SendView). view.begun) same ∙ idle;
      to_end = ends_by old new finished again;
    };
    still = λ not. unlike (is_sending from.state) sending not;
  }

  -- one after another
  through_on : (old mid new : InputState) (from by to : Sender S) (head : Sends gives old from mid by) (tail : Sends gives mid by new to)
      → is_sending from.state ≡ true → to.state ≡ Through → AllAreSent (head.answers ++ tail.answers) new
  through_on old mid new from by to head tail sending through = by_state (is_sending by.state) refl
    where
      by_state : (b : Bool) → is_sending by.state ≡ b → AllAreSent (head.answers ++ tail.answers) new
      by_state true is =
          let last = tail.through is through in
          record {
            before = head.answers ++ last.before;
            none_more = ap (λ (answers : List (Option Value)). head.answers ++ answers) last.none_more
                ∙ sym (append_assoc head.answers last.before (None ∷ []));
            none_begun = last.none_begun;
            to_end = last.to_end;
          }
      by_state false is =
          let rest = tail.still is in
          let last = head.through sending (sym (ap (λ (sender : Sender S). sender.state) rest.same_sender) ∙ through) in
          record {
            before = last.before;
            none_more = ap (λ (answers : List (Option Value)). head.answers ++ answers) rest.none_asked ∙ append-nil head.answers
                ∙ last.none_more;
            none_begun = ap (λ (input : InputState). (sends_of input).begun) rest.same_input ∙ last.none_begun;
            to_end = ap (λ (input : InputState). is_open input.ending) rest.same_input ∙ last.to_end;
          }

  still_on : (old mid new : InputState) (from by to : Sender S) (head : Sends gives old from mid by) (tail : Sends gives mid by new to)
      → is_sending from.state ≡ false → IsStill (head.answers ++ tail.answers) old from new to
  still_on old mid new from by to head tail not =
      let first = head.still not in
      let then = tail.still (ap (λ (sender : Sender S). is_sending sender.state) first.same_sender ∙ not) in
      record {
        none_asked = ap (λ (answers : List (Option Value)). answers ++ tail.answers) first.none_asked ∙ then.none_asked;
        same_input = then.same_input ∙ first.same_input;
        same_sender = then.same_sender ∙ first.same_sender;
      }

  pub sends_on : (old mid new : InputState) (from by to : Sender S) → Sends gives old from mid by → Sends gives mid by new to
      → Sends gives old from new to
  sends_on old mid new from by to head tail = record {
    answers = head.answers ++ tail.answers;
    asked = folds_on gives from.values head.answers by.values tail.answers to.values head.asked tail.asked;
    each_once = tail.each_once ∙ ap (λ (values : List Value). values ++ given tail.answers) head.each_once
        ∙ append_assoc (values_at (sends_of old) from) (given head.answers) (given tail.answers)
        ∙ ap (λ (values : List Value). values_at (sends_of old) from ++ values) (sym (given-append head.answers tail.answers));
    told = head.told ++ tail.told;
    told_more = tail.told_more ∙ ap (λ (values : List Value). values ++ tail.told) head.told_more
        ∙ append_assoc (sends_of old).accepted head.told tail.told;
    through = λ sending through. through_on old mid new from by to head tail sending through;
    still = λ not. still_on old mid new from by to head tail not;
  }
