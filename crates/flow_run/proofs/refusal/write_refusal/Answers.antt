use Rattle.std.proofs.Common.{◌≡◌, ℕ, List, ◌++◌, ◌∙◌, ap, subst, OnOk}
use Rattle.std.proofs.lemmas.Fmt.{contents_after_writes}
use Rattle.std.specs.Io.KnownBytes.{Appends}
use Rattle.arrayvec.specs.declared.array_string.ArrayString.{ArrayString}
use Rattle.flow_run.specs.Refusal.{refusal_line}
use Rattle.flow_run.proofs.refusal.write_refusal.Goals as goal

pub returns-in-Ok-clause-written : goal.returns-in-Ok-clause-written
returns-in-Ok-clause-written g c =
    let line : c.as_bytes.result.now ≡ refusal_line c.args.refusal.now =
    c.as_bytes.ensures.value ∙ c.as_str.ensures.value
    ∙ contents_after_writes _ (λ (line : ArrayString 128). line.bytes) (λ line bytes more gives. gives) c.new-line.result (refusal_line c.args.refusal.now) c.writeln.new.self c.in-Ok.ensures.writes
    ∙ ap (λ (bytes : List ℕ). bytes ++ refusal_line c.args.refusal.now) c.new-line.ensures in
    subst (λ (bytes : List ℕ). OnOk c.write_line.result (Appends (g.W.Write.contents c.args.writer.now) (g.W.Write.contents c.write_line.new.writer) bytes))
    line c.write_line.ensures.written
