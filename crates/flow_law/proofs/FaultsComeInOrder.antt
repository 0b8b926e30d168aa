-- The faults of the examples, found by going through them.
use Rattle.std.proofs.Common.{refl}
use Rattle.flow_law.specs.PlanExamples.{FaultsOfDrafts}

pub faults_of_drafts : FaultsOfDrafts
faults_of_drafts = record {
  fine = refl;
  blocks_past_limit = refl;
  blocks_at_limit = refl;
  links_past_limit = refl;
  links_at_limit = refl;
  same_name = refl;
  unknown = refl;
  no_port = refl;
  port_of_five = refl;
  no_output = refl;
  no_room = refl;
  no_name = refl;
  no_work = refl;
  no_message = refl;
  below_size = refl;
  shared = refl;
  round = refl;
  itself = refl;
}
