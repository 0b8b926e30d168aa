use Rattle.std.proofs.Common.{◌≡◌, ◌+◌, ◌-◌, ◌++◌, ◌∷◌, [], Ok, Err, List, length, arith, drop, pos, replicate, ap, sym, ◌∙◌, rules, append_assoc}
use Rattle.std.proofs.lemmas.Int.{ints}
use Rattle.std.specs.Vec.Iter.{into_iter_items}
use Rattle.std.proofs.lemmas.List.{append-nil, nil_from_length}
use Rattle.std.proofs.lemmas.Result.{err_from_is_err_and}
use Rattle.flow_value.specs.Function.{joined, each, meaning_of}
use Rattle.flow_value.specs.Step.{applied, ints_below}
use Rattle.flow_value.specs.declared.value.Value.{Value}
use Rattle.flow_value.specs.declared.value.Value.TheVariants.{Int}
use Rattle.flow_value.proofs.ResultsGrow.{each-more, each-fault, meaning_of-many, meaning_of-one, meaning_of-fault, parted_below, parted_times, times_more}
use Rattle.flow_value.proofs.WordsGrow.{ints_below-push}
use Rattle.flow_value.proofs.steps.+run.Goals as goal
use mir.Syntax.{w64}
use mir.Val.{to_z, of_z}

pub run_any-loop-next-preserved : goal.run_any-loop-next-preserved
run_any-loop-next-preserved t c =
    let step = c.in-Some-next.ensures.steps.0 in
    record {
      parts = c.loop-next.invariant.parts ∙ ap (λ left. c.loop-next.yielded ++ left) step ∙ sym (append_assoc c.loop-next.yielded (c.in-Some-next.next ∷ []) (into_iter_items c.next.new.self));
      so_far = each-more (meaning_of c.in-Some.rest.now) c.args.results.now.items c.loop-next.results.items c.run_onto-in-loop-next.new.results.items
          c.loop-next.yielded c.in-Some-next.next c.loop-next.invariant.so_far c.in_ok-run_onto-in-Many.ensures;
    }

pub run_any-returns-in_err-run_onto-in-Many : goal.run_any-returns-in_err-run_onto-in-Many
run_any-returns-in_err-run_onto-in-Many t c =
    let p = err_from_is_err_and c.from_residual-in_err-run_onto-in-Many.result c.from_residual-in_err-run_onto-in-Many.ensures.1 in
    let parts : c.args.steps.now ≡ c.in-Some.step.now ∷ c.in-Some.rest.now = search rules in
    let taken : into_iter_items c.into_iter-next-iterator.result ≡ c.in-Many.values.items = c.into_iter-next-iterator.ensures.into_iter_gives.0 in
    let gives : applied c.in-Some.step.now c.args.value ≡ Ok c.in-Many.values.items = rw c.in-Many.is at c.in_ok-next.ensures in
    let step = c.in-Some-next.ensures.steps.0 in
    let all : c.loop-next.yielded ++ (c.in-Some-next.next ∷ into_iter_items c.next.new.self) ≡ c.in-Many.values.items =
    ap (λ left. c.loop-next.yielded ++ left) (sym step) ∙ sym c.loop-next.invariant.parts ∙ taken in
    rw (p.1, p.2) (λ not_memory.
    meaning_of-many c.args.steps.now c.in-Some.rest.now c.in-Some.step.now c.args.value c.in-Many.values.items parts gives
    ∙ ap (each (meaning_of c.in-Some.rest.now)) (sym all)
    ∙ each-fault (meaning_of c.in-Some.rest.now) c.args.results.now.items c.loop-next.results.items c.loop-next.yielded
    (into_iter_items c.next.new.self) c.in-Some-next.next c.in_err-run_onto-in-Many.field-0.0 c.loop-next.invariant.so_far
    (c.in_err-run_onto-in-Many.ensures not_memory))

pub run_any-returns-in-None : goal.run_any-returns-in-None
run_any-returns-in-None t c =
    let parts : c.args.steps.now ≡ c.in-Some.step.now ∷ c.in-Some.rest.now = search rules in
    let taken : into_iter_items c.into_iter-next-iterator.result ≡ c.in-Many.values.items = c.into_iter-next-iterator.ensures.into_iter_gives.0 in
    let gives : applied c.in-Some.step.now c.args.value ≡ Ok c.in-Many.values.items = rw c.in-Many.is at c.in_ok-next.ensures in
    let left : into_iter_items c.loop-next.next-iterator ≡ [] = nil_from_length _ (sym c.loop-next.next-iterator.rest.ok.0 ∙ c.in-None.ensures.steps.0) in
    let all : c.loop-next.yielded ≡ c.in-Many.values.items =
    sym (append-nil c.loop-next.yielded) ∙ ap (λ more. c.loop-next.yielded ++ more) (sym left) ∙ sym c.loop-next.invariant.parts
    ∙ taken in
    ap (joined (Ok c.args.results.now.items))
    (meaning_of-many c.args.steps.now c.in-Some.rest.now c.in-Some.step.now c.args.value c.in-Many.values.items parts gives
    ∙ ap (each (meaning_of c.in-Some.rest.now)) (sym all))
    ∙ c.loop-next.invariant.so_far

pub run_below-returns-in_err-run_number : goal.run_below-returns-in_err-run_number
run_below-returns-in_err-run_number t c =
    let p = err_from_is_err_and c.from_residual.result c.from_residual.ensures.1 in
    let f = meaning_of c.args.steps.now in
    let number = c.loop-number.number in
    let widened : to_z w64 (of_z w64 c.from.result) ≡ pos number = omega (arith, ints) in
    rw (p.1, p.2) (λ not_memory.
    let faults : f (Int (pos number)) ≡ Err c.in_err-run_number.field-0.0 = ap (λ n. f (Int n)) (sym widened) ∙ c.in_err-run_number.ensures not_memory in
    ap (each f) (parted_below number c.args.end c.loop-number-test.true)
    ∙ each-fault f c.args.results.now.items c.loop-number.results.items (ints_below number) (drop (number + 1) (ints_below c.args.end))
    (Int (pos number)) c.in_err-run_number.field-0.0 c.loop-number.invariant faults)

pub run_below-loop-number-preserved : goal.run_below-loop-number-preserved
run_below-loop-number-preserved t c =
    let f = meaning_of c.args.steps.now in
    let number = c.loop-number.number in
    let widened : to_z w64 (of_z w64 c.from.result) ≡ pos number = omega (arith, ints) in
    let more : joined (Ok c.loop-number.results.items) (f (Int (pos number))) ≡ Ok c.run_number.new.results.items =
    ap (λ n. joined (Ok c.loop-number.results.items) (f (Int n))) (sym widened) ∙ c.in_ok-run_number.ensures in
    ap (λ (values : List Value). joined (Ok c.args.results.now.items) (each f values)) (sym (ints_below-push number))
    ∙ each-more f c.args.results.now.items c.loop-number.results.items c.run_number.new.results.items (ints_below number) (Int (pos number))
    c.loop-number.invariant more

pub run_number-returns-in-Below : goal.run_number-returns-in-Below
run_number-returns-in-Below t c =
    let made = Int (to_z w64 c.loop-step.made-bits) in
    let parts : c.loop-step.left.now ≡ c.in-Some.step.now ∷ c.in-Some.rest.now = search rules in
    let gives : applied c.in-Some.step.now made ≡ Ok (ints_below c.in-Below.end) = rw c.in-Below.is at c.in_ok-next.ensures in
    let exact : to_z w64 (of_z w64 c.args.number) ≡ c.args.number = search rules in
    let whole : meaning_of c.args.steps.now (Int c.args.number) ≡ each (meaning_of c.in-Some.rest.now) (ints_below c.in-Below.end) =
    ap (λ n. meaning_of c.args.steps.now (Int n)) (sym exact) ∙ c.loop-step.invariant.whole
    ∙ meaning_of-many c.loop-step.left.now c.in-Some.rest.now c.in-Some.step.now made (ints_below c.in-Below.end) parts gives in
    rw (whole, ← c.loop-step.invariant.same) c.run_below.ensures

pub run_number-returns-in-Times : goal.run_number-returns-in-Times
run_number-returns-in-Times t c =
    let made = Int (to_z w64 c.loop-step.made-bits) in
    let parts : c.loop-step.left.now ≡ c.in-Some.step.now ∷ c.in-Some.rest.now = search rules in
    let gives : applied c.in-Some.step.now made ≡ Ok (replicate c.in-Times.count made) = rw c.in-Times.is at c.in_ok-next.ensures in
    let exact : to_z w64 (of_z w64 c.args.number) ≡ c.args.number = search rules in
    let whole : meaning_of c.args.steps.now (Int c.args.number) ≡ each (meaning_of c.in-Some.rest.now) (replicate c.in-Times.count made) =
    ap (λ n. meaning_of c.args.steps.now (Int n)) (sym exact) ∙ c.loop-step.invariant.whole
    ∙ meaning_of-many c.loop-step.left.now c.in-Some.rest.now c.in-Some.step.now made (replicate c.in-Times.count made) parts gives in
    rw (whole, ← c.loop-step.invariant.same) c.run_times.ensures

pub run_number-loop-step-preserved : goal.run_number-loop-step-preserved
run_number-loop-step-preserved t c =
    let made = Int (to_z w64 c.loop-step.made-bits) in
    let parts : c.loop-step.left.now ≡ c.in-Some.step.now ∷ c.in-Some.rest.now = search rules in
    let gives : applied c.in-Some.step.now made ≡ Ok (Int c.in-One.next ∷ []) = rw c.in-One.is at c.in_ok-next.ensures in
    let exact : to_z w64 (of_z w64 c.in-One.next) ≡ c.in-One.next = search rules in
    record {
      same = c.loop-step.invariant.same;
      few = omega (arith, ap length parts, c.loop-step.invariant.few);
      whole = c.loop-step.invariant.whole
          ∙ meaning_of-one c.loop-step.left.now c.in-Some.rest.now c.in-Some.step.now made parts (Int c.in-One.next) gives
          ∙ ap (λ n. meaning_of c.in-Some.rest.now (Int n)) (sym exact);
    }

pub run_times-returns-in_err-run_number : goal.run_times-returns-in_err-run_number
run_times-returns-in_err-run_number t c =
    let p = err_from_is_err_and c.from_residual.result c.from_residual.ensures.1 in
    let f = meaning_of c.args.steps.now in
    let done = c.loop-done._done in
    let number = to_z w64 (of_z w64 c.args.number) in
    let exact : number ≡ c.args.number = search rules in
    rw (p.1, p.2) (λ not_memory.
    ap (λ n. each f (replicate c.args.count (Int n))) (sym exact)
    ∙ ap (each f) (parted_times done c.args.count (Int number) c.loop-done-test.true)
    ∙ each-fault f c.args.results.now.items c.loop-done.results.items (replicate done (Int number)) (replicate (c.args.count - (done + 1)) (Int number))
    (Int number) c.in_err-run_number.field-0.0 c.loop-done.invariant (c.in_err-run_number.ensures not_memory))

pub run_times-loop-done-preserved : goal.run_times-loop-done-preserved
run_times-loop-done-preserved t c =
    let f = meaning_of c.args.steps.now in
    let done = c.loop-done._done in
    let number = to_z w64 (of_z w64 c.args.number) in
    ap (λ (values : List Value). joined (Ok c.args.results.now.items) (each f values)) (sym (times_more done (Int number)))
    ∙ each-more f c.args.results.now.items c.loop-done.results.items c.run_number.new.results.items (replicate done (Int number)) (Int number)
    c.loop-done.invariant c.in_ok-run_number.ensures
