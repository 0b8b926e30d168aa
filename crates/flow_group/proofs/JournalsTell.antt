-- What a journal tells of the messages that came in, and what one more mark adds.
use Rattle.std.proofs.Common.{◌≡◌, ℕ, ◌==◌, cond, true, false, List, [], ◌∷◌, ◌++◌, refl, ap, sym, ◌∙◌, append-nil}
use Rattle.flow_value.specs.declared.value.Value.{Value}
use Rattle.flow_link.specs.Making.{Arrival, arrivals, arrived_at}
use Rattle.flow_link.specs.Trace.{took_at}
use Rattle.flow_link.specs.declared.trace.Mark.{Mark}
use Rattle.flow_link.specs.declared.trace.Mark.TheVariants.{Took, Gave, Complete, Fault, Done}
use Rattle.flow_link.proofs.JournalsGrow.{took_more}
use Rattle.flow_group.specs.Groups.{arrival_at}
use Rattle.flow_group.specs.Journal.{JournalsTell}

at_port : (p : ℕ) (marks : List Mark) → arrived_at p (arrivals marks) ≡ took_at p marks
at_port p [] = refl
at_port p (Took q l value ∷ marks) =
    elim (q == p) as (λ here. cond here (value ∷ arrived_at p (arrivals marks)) (arrived_at p (arrivals marks))
    ≡ cond here (value ∷ took_at p marks) (took_at p marks)) [
      | true ↦ ap (λ (values : List Value). value ∷ values) (at_port p marks)
      | false ↦ at_port p marks
    ]
at_port p (Gave l value ∷ marks) = at_port p marks
at_port p (Complete port ∷ marks) = at_port p marks
at_port p (Fault number ∷ marks) = at_port p marks
at_port p (Done ∷ marks) = at_port p marks

one_more : (marks : List Mark) (mark : Mark) → arrivals (marks ++ mark ∷ []) ≡ arrivals marks ++ arrivals (mark ∷ [])
one_more [] mark = refl
one_more (Took q l value ∷ marks) mark = ap (λ (came : List Arrival). arrival_at q value ∷ came) (one_more marks mark)
one_more (Gave l value ∷ marks) mark = one_more marks mark
one_more (Complete port ∷ marks) mark = one_more marks mark
one_more (Fault number ∷ marks) mark = one_more marks mark
one_more (Done ∷ marks) mark = one_more marks mark

none_more : (marks : List Mark) (mark : Mark) → arrivals (mark ∷ []) ≡ [] → arrivals (marks ++ mark ∷ []) ≡ arrivals marks
none_more marks mark none =
    one_more marks mark ∙ ap (λ (came : List Arrival). arrivals marks ++ came) none ∙ append-nil (arrivals marks)

pub journals_tell : JournalsTell
journals_tell = record {
  at_port = at_port;
  taken = λ marks q l value. one_more marks (Took q l value);
  taken_at = λ p marks q l value. took_more (λ port link. port == p) marks (Took q l value);
  other = none_more;
  other_at = λ p marks mark none.
      sym (at_port p (marks ++ mark ∷ [])) ∙ ap (arrived_at p) (none_more marks mark none) ∙ at_port p marks;
}
