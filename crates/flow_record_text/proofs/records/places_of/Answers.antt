use Rattle.std.proofs.Common.{◌≡◌, ◌<◌, ◌∙◌, true, length, get_or, [], arith, rules, sym, ap, subst, Bor, List, ℕ}
use Rattle.std.proofs.lemmas.List.{length-map, get_or-map}
use Rattle.std.specs.Result.{is_ok}
use Rattle.flow_record_text.specs.Records.{texts_of}
use Rattle.flow_record_text.proofs.PlacesFound.{FindsFirst, all-found, first-more, on_ok, right-more}
use Rattle.flow_record_text.proofs.records.places_of.Goals as goal

pub loop-place-preserved : goal.loop-place-preserved
loop-place-preserved c =
    let names = c.args.names.now in
    let place = c.loop-place.place in
    let kept = c.loop-place.invariant in
    let within : place < length names = c.loop-place-test.true in
    let low : place < length (texts_of names) = omega (arith, within, length-map names (λ (name : Bor (List ℕ)). name.now)) in
    let is = get_or-map (λ (name : Bor (List ℕ)). name.now) names place _ [] within in
    let good : is_ok c.insert.result ≡ true = search rules in
    let updates = on_ok c.insert.result good c.insert.ensures.updates in
    record {
      right = right-more (texts_of names) c.loop-place.places c.insert.new.self _ place c.requires low (sym is) updates kept.right;
      first = first-more (texts_of names) c.loop-place.places c.insert.new.self _ place c.requires low (sym is) updates kept.first;
    }

pub returns-clause-places : goal.returns-clause-places
returns-clause-places c =
    let names = c.args.names.now in
    let kept = c.loop-place.invariant in
    let all : c.loop-place.place ≡ length (texts_of names) = omega (arith, length-map names (λ (name : Bor (List ℕ)). name.now)) in
    all-found (texts_of names) c.loop-place.places kept.right (subst (λ (count : ℕ). FindsFirst (texts_of names) c.loop-place.places count) all kept.first)
