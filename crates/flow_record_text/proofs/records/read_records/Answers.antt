use Rattle.std.proofs.Common.{ap, subst, sym, ◌∙◌}
use Rattle.flow_link.specs.Planned.{layout_of}
use Rattle.flow_record_text.specs.Records.{AllDiffer, texts_of}
use Rattle.flow_record_text.proofs.NamesDiffer.{all_differ}
use Rattle.flow_record_text.proofs.records.read_records.Goals as goal

pub read_named-requires : goal.read_named-requires
read_named-requires g c =
    let plan = c.args.plan.now in
    let names = ap texts_of c.as_slice.ensures.value ∙ c.in_ok-names.ensures.names in
    subst AllDiffer (sym names) (all_differ (layout_of plan).blocks plan.well_formed.names_differ)
