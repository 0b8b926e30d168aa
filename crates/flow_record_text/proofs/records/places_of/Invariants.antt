use Rattle.flow_record_text.specs.Records.{texts_of}
use Rattle.flow_record_text.proofs.PlacesFound.{IsRight, FindsFirst}
use Rattle.flow_record_text.proofs.records.places_of.Given as goal

abbrev pub invariant-loop-place : goal.invariant-loop-place
invariant-loop-place l = record {
  right : IsRight (texts_of l.names) l.places;
  first : FindsFirst (texts_of l.names) l.places l.place;
}
