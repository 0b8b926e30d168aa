use Rattle.std.proofs.Common.{◌≡◌, ◌<◌, ◌≤◌, ◌∷◌, [], ◌++◌, ◌∙◌, ap, length, rules}
use Rattle.std.proofs.lemmas.List.{map-append}
use Rattle.flow_report.specs.Given.{values_of}
use Rattle.flow_report.proofs.SortedGiven.{sorted_here, sorted_other, sorted_none}
use Rattle.flow_report.proofs.given.sort_mark.Goals as goal

pub returns-in_ok-push : goal.returns-in_ok-push
returns-in_ok-push c = λ marks sorted.
    let lists = c.args.lists.now.items in
    let within : c.in-Gave.link < length lists = search rules in
    let grown : values_of c.push.new.self.items ≡ values_of c.index_mut.result.now.items ++ c.in-Gave.value ∷ [] =
    ap values_of c.in_ok-push.ensures.items ∙ map-append (λ value. value.now) c.index_mut.result.now.items _ in
    rw c.in-Gave.is (sorted_here lists c.index_mut.result.now c.push.new.self c.in-Gave.link c.in-Gave.value marks sorted within c.index_mut.ensures.value grown)

pub returns-else-link-len : goal.returns-else-link-len
returns-else-link-len c = λ marks sorted.
    let lists = c.args.lists.now.items in
    let out : length lists ≤ c.in-Gave.link = search rules in
    rw c.in-Gave.is (sorted ∙ sorted_other (length lists) c.in-Gave.link c.in-Gave.value marks out)

pub returns-in_default : goal.returns-in_default
returns-in_default c = λ marks sorted. sorted ∙ sorted_none (length c.args.lists.now.items) c.args.mark.now marks c.in_default.not-Gave
