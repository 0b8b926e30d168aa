use Rattle.std.proofs.Common.{◌≡◌, ◌<◌, ◌∙◌, sym, length, [], Bor, List, ℕ, true, arith}
use Rattle.std.proofs.lemmas.List.{get_or-map}
use Rattle.std.proofs.lemmas.Slice.Eq.{bytes_eq-Decides}
use Rattle.flow_record_text.proofs.fields.has_name.Goals as goal

pub returns-clause-named : goal.returns-clause-named
returns-clause-named c = λ same.
    let within : c.args.input < length c.args.names.now = omega arith in
    let there = get_or-map (λ (other : Bor (List ℕ)). other.now) c.args.names.now c.args.input _ [] within in
    there ∙ sym c.as_bytes.ensures.value ∙ (bytes_eq-Decides _ _).0 (sym c.eq.ensures ∙ same)

pub returns-clause-utf8 : goal.returns-clause-utf8
returns-clause-utf8 c = λ same.
    let bytes : c.as_bytes.result.now ≡ c.args.name.now = (bytes_eq-Decides _ _).0 (sym c.eq.ensures ∙ same) in
    rw (← bytes) c.as_bytes.ensures.utf8
