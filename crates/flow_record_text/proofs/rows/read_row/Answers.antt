use Rattle.std.proofs.Common.{◌∙◌, inl}
use Rattle.flow_record_text.proofs.rows.read_row.Goals as goal

pub returns-in-Ok-clause-reads : goal.returns-in-Ok-clause-reads
returns-in-Ok-clause-reads g c = c.in-Ok.ensures.reads c.requires.trim c.requires.ready

pub returns-in-Ok-clause-takes : goal.returns-in-Ok-clause-takes
returns-in-Ok-clause-takes g c found =
    let read = c.in-Ok.ensures.reads c.requires.trim c.requires.ready in
    record { trim = read.3 ∙ c.requires.trim; ready = inl (c.in-Ok.ensures.ready c.requires.trim); config = read.2 ∙ c.requires.config }
