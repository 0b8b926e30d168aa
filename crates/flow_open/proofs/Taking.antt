-- What the calls of a receiver and of its exit come to, one after another.
use Rattle.std.proofs.Common.{◌≡◌, List, [], ◌∷◌, ◌++◌, refl, sym, ap, ◌∙◌}
use Rattle.std.proofs.lemmas.List.{append-nil, append_assoc}
use Rattle.flow_value.specs.declared.value.Value.{Value}
use Rattle.flow_open.specs.Takes.{Takes}
use Rattle.flow_open.proofs.Sending.{folds_on}

module _ {F : Type 0} (takes : F → Value → F → Type 0) where
  pub takes_none : (old new : List Value) (receiver : F) → new ≡ old → Takes takes old receiver new receiver
  takes_none old new receiver same = record { values = []; called = refl; received = same ∙ sym (append-nil old) }

  pub takes_one : (old new : List Value) (from to : F) (value : Value) → takes from value to → new ≡ old ++ value ∷ [] → Takes takes old from new to
  takes_one old new from to value step is = record { values = value ∷ []; called = (to, step, refl); received = is }

  pub takes_on : (old mid new : List Value) (from by to : F) → Takes takes old from mid by → Takes takes mid by new to → Takes takes old from new to
  takes_on old mid new from by to head tail = record {
    values = head.values ++ tail.values;
    called = folds_on takes from head.values by tail.values to head.called tail.called;
    received = tail.received ∙ ap (λ (values : List Value). values ++ tail.values) head.received
        ∙ append_assoc old head.values tail.values;
  }
