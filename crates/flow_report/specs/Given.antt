-- What a journal gave, link by link.
use Rattle.std.specs.Prelude.{ℕ, List, map}
use Rattle.std.specs.Borrow.{Bor}
use Rattle.std.specs.declared.vec.Vec.{Vec}
use Rattle.flow_value.specs.declared.value.Value.{Value}
use Rattle.flow_value.specs.declared.kept.Seen.{Seen}
use Rattle.flow_value.specs.Seen.{value_of_ref}
use Rattle.flow_link.specs.declared.trace.Mark.{Mark}
use Rattle.flow_link.specs.Lists.{below}
use Rattle.flow_link.specs.Trace.{gave_over}

-- the values to which references lead
abbrev pub values_of : List (Bor Value) → List Value
values_of values = map (λ value. value.now) values

-- the value that is seen
abbrev pub seen_value : Seen → Value
seen_value seen = value_of_ref seen.value

abbrev pub lists_of : {Z : Type 0} → List (Vec (Bor Value) Z) → List (List Value)
lists_of lists = map (λ list. values_of list.items) lists

-- what was given over each of so many links
abbrev pub given_lists : ℕ → List Mark → List (List Value)
given_lists links marks = map (λ link. gave_over link marks) (below links)
