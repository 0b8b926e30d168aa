-- What a journal tells of the messages that came in, and what one more mark adds.
use Rattle.std.specs.Prelude.{◌≡◌, ℕ, List, [], ◌∷◌, ◌++◌}
use Rattle.flow_value.specs.declared.value.Value.{Value}
use Rattle.flow_link.specs.Making.{arrivals, arrived_at}
use Rattle.flow_link.specs.Trace.{took_at}
use Rattle.flow_link.specs.declared.trace.Mark.{Mark}
use Rattle.flow_link.specs.declared.trace.Mark.TheVariants.{Took}
use Rattle.flow_group.specs.Groups.{arrival_at}
use Rattle.flow_group.specs.Tuples.{only_at}

pub record JournalsTell : Type 0 where
  -- what came in at a port is what was taken there
  pub at_port : (p : ℕ) (marks : List Mark) → arrived_at p (arrivals marks) ≡ took_at p marks
  -- a message that is taken came in last
  pub taken : (marks : List Mark) (q l : ℕ) (value : Value)
      → arrivals (marks ++ Took q l value ∷ []) ≡ arrivals marks ++ arrival_at q value ∷ []
  pub taken_at : (p : ℕ) (marks : List Mark) (q l : ℕ) (value : Value)
      → took_at p (marks ++ Took q l value ∷ []) ≡ took_at p marks ++ only_at q (value ∷ []) p
  -- by any other mark nothing comes in
  pub other : (marks : List Mark) (mark : Mark) → arrivals (mark ∷ []) ≡ [] → arrivals (marks ++ mark ∷ []) ≡ arrivals marks
  pub other_at : (p : ℕ) (marks : List Mark) (mark : Mark) → arrivals (mark ∷ []) ≡ []
      → took_at p (marks ++ mark ∷ []) ≡ took_at p marks
