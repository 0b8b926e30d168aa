-- Of which lists a text is kept, where none is named.
use Rattle.std.proofs.Common.{◌≡◌, ◌∙◌, ℕ, [], None, IfSome, subst, sym}
use Rattle.std.proofs.lemmas.List.Elements.{All-nil, All-same}
use Rattle.flow_link.specs.Trace.{Run, took_at, given_over, marks_of}
use Rattle.flow_report.specs.KeptList.{Fits}
use Rattle.flow_report.specs.Printed.{list_text}
use Rattle.flow_report.specs.declared.kept_list.KeptList.{KeptList}

pub none_fits : {W : Type 0} (run : Run W) (old kept : KeptList) → Fits run old → kept.all_taken ≡ old.all_taken → kept.port ≡ None → kept.links.items ≡ [] → Fits run kept
none_fits run old kept before same port links = record {
  taken = λ all. before.taken (sym same ∙ all);
  port = subst (λ at. IfSome at (λ (at : ℕ × ℕ). kept.text.items ≡ list_text (took_at at.1 (marks_of run at.0)))) (sym port) tt;
  links = All-same (λ l. kept.text.items ≡ list_text (given_over run l)) kept.links.items [] links (All-nil _);
}
