use Rattle.std.proofs.Common.{◌≡◌, Ok, Err, Some, None, sym, ap, ◌∙◌, arith, rules}
use Rattle.std.proofs.lemmas.Int.{ints}
use Rattle.std.proofs.lemmas.Str.Pattern.{split_parts}
use Rattle.flow_value.specs.Number.{int_of}
use Rattle.flow_value.proofs.WrittenOneWay.{only_name, only_split}
use Rattle.flow_value.proofs.grammar.name_and_number.Goals as goal
use mir.Syntax.{w64}
use mir.Val.{SFits, to_z, of_z}

pub returns-in-None-clause-only : goal.returns-in-None-clause-only
returns-in-None-clause-only c =
    only_name c.args.text.now (split_parts 32 c.args.text.now None c.in-None.ensures.cases (omega arith))

pub returns-in-Ok-clause-only : goal.returns-in-Ok-clause-only
returns-in-Ok-clause-only c name number no_space written =
    let parts = split_parts 32 c.args.text.now (Some (c.in-Some.name, c.in-Some.digits)) c.in-Some.ensures.cases (omega arith) in
    let only = only_split c.args.text.now c.in-Some.name.now c.in-Some.digits.now parts.0 parts.1 name number no_space written in
    let read : int_of c.in-Some.digits.now ≡ Ok c.in-Ok.number = sym c.in-Ok.ensures in
    let number_is : int_of c.in-Some.digits.now ≡ Ok only.1.0 = only.1.2 in
    let same : only.1.0 ≡ c.in-Ok.number = cc in
    let small : SFits w64 c.in-Ok.number = search rules in
    let held : c.in-Ok.number ≡ to_z w64 (of_z w64 c.in-Ok.number) = omega (arith, ints) in
    (only.0, only.1.1 ∙ ap Some (same ∙ held))

pub returns-in-Err-clause-written : goal.returns-in-Err-clause-written
returns-in-Err-clause-written c name number no_space written =
    let parts = split_parts 32 c.args.text.now (Some (c.in-Some.name, c.in-Some.digits)) c.in-Some.ensures.cases (omega arith) in
    let only = only_split c.args.text.now c.in-Some.name.now c.in-Some.digits.now parts.0 parts.1 name number no_space written in
    let none : Err c.in-Err.field-0 ≡ Ok only.1.0 = c.in-Err.ensures ∙ only.1.2 in
    cc
