use Rattle.std.proofs.Common.{rules, Bor, List, ℕ, [], ◌∷◌, refl, ◌∙◌, sym, arith}
use Rattle.std.proofs.lemmas.List.{length-map}
use Rattle.flow_record_text.specs.Records.{texts_of}
use Rattle.flow_record_text.specs.Field.{text_in}
use Rattle.flow_record_text.proofs.RecordsPost.{posts-named, posts-found}
use Rattle.flow_record_text.proofs.fields.read_fields.Goals as goal

pub returns-in-Some-likely_input : goal.returns-in-Some-likely_input
returns-in-Some-likely_input c =
    let found = c.in-Some-likely_input.ensures in
    let count = length-map c.args.names.now (λ (name : Bor (List ℕ)). name.now) in
    let low = found.there in
    posts-named (texts_of c.args.names.now) (c.args.name.now ∷ c.args.field.now ∷ []) c.in-Some-likely_input.input (text_in c.in-Some.text) c.requires.differ
    refl (omega (arith, count, low)) found.named found.utf8 (search rules) (search rules)

pub returns-in-Ok : goal.returns-in-Ok
returns-in-Ok c =
    let found = sym (c.requires.places c.args.name.now) ∙ c.in-Ok.ensures.0 in
    posts-found (texts_of c.args.names.now) (c.args.name.now ∷ c.args.field.now ∷ []) c.in-Ok.input (text_in c.in-Some.text) refl (found, c.in-Ok.ensures.1) (search rules) (search rules)
