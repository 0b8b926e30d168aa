use Rattle.std.proofs.Common.{◌∙◌, inr}
use Rattle.flow_record_text.proofs.rows.record_reader.Goals as goal

pub returns-clause-takes : goal.returns-clause-takes
returns-clause-takes g c =
    let made = c.from_reader.ensures in
    let flexible = c.flexible.ensures in
    let headers = c.has_headers.ensures in
    record {
      trim = rw (flexible, headers) at made.trim ∙ c.new.ensures.trim;
      ready = inr (inr (rw (flexible, headers) at made.has_headers, made.headers));
      config = rw (flexible, headers) at made.config ∙ c.new.ensures.config;
    }
