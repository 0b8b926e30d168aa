use Rattle.std.proofs.Common.{◌≡◌, ℕ, false, drop, option_map, Bor, List, Result, Ok, Err, OnOk, subst, ap, sym, ◌∙◌}
use Rattle.flow_value.specs.declared.value.Value.{Value}
use Rattle.flow_outlet.specs.Outlet.{lacks_ids}
use Rattle.flow_block.specs.Block.{BlockState, port_at, put_by_kind, values_of_result}
use Rattle.flow_block.specs.Jobs.{made_in}
use Rattle.flow_block.specs.Node.{NodeState}
use Rattle.flow_exec.specs.Works.{results_by}
use Rattle.flow_moves.proofs.WorksAtOnce.{done_is, put_is, failed_ids, front_held}
use Rattle.flow_moves.proofs.own.work_by_list.Goals as goal

pub returns-in-Ok-into_made-clause-done : goal.returns-in-Ok-into_made-clause-done
returns-in-Ok-into_made-clause-done g c =
    let node = c.args.node.now in
    let result = results_by (option_map (λ (work : Bor g.row.W.Denot). work.now) c.args.work) node.block.kind g.W.Runs.meaning in
    let message = c.in-Some.message.now in
    let items = c.waiting.ensures ∙ ap (λ (block : BlockState). (port_at 0 block).waiting) c.block-2.ensures in
    let held = front_held c.waiting.result.now.items (port_at 0 node.block).waiting message items c.in-Some.ensures.item.3.0 c.in-Some.ensures.lookup in
    let kind = c.kind-kind.ensures ∙ ap (λ (block : BlockState). block.kind) c.block.ensures in
    let answer : c.in-Ok.answer ≡ result message = rw kind at c.in-Ok.ensures in
    let made : Ok c.in-Ok-into_made.values.items ≡ c.in-Ok.answer = sym (ap made_in c.in-Ok-into_made.is) ∙ c.into_made.ensures in
    subst (λ (last : NodeState). OnOk c.yield_results.result (c.yield_results.new.node ≡ last))
    (done_is result node c.requires.waits c.requires.idle message (drop 1 (port_at 0 node.block).waiting) held
    (Ok c.in-Ok-into_made.values.items) (made ∙ answer))
    c.yield_results.ensures.done

pub returns-in-Ok-into_made-clause-ids : goal.returns-in-Ok-into_made-clause-ids
returns-in-Ok-into_made-clause-ids g c =
    let node = c.args.node.now in
    let result = results_by (option_map (λ (work : Bor g.row.W.Denot). work.now) c.args.work) node.block.kind g.W.Runs.meaning in
    let message = c.in-Some.message.now in
    let items = c.waiting.ensures ∙ ap (λ (block : BlockState). (port_at 0 block).waiting) c.block-2.ensures in
    let held = front_held c.waiting.result.now.items (port_at 0 node.block).waiting message items c.in-Some.ensures.item.3.0 c.in-Some.ensures.lookup in
    let kind = c.kind-kind.ensures ∙ ap (λ (block : BlockState). block.kind) c.block.ensures in
    let answer : c.in-Ok.answer ≡ result message = rw kind at c.in-Ok.ensures in
    let made : Ok c.in-Ok-into_made.values.items ≡ c.in-Ok.answer = sym (ap made_in c.in-Ok-into_made.is) ∙ c.into_made.ensures in
    subst (λ (put : List Value). OnOk c.yield_results.result (lacks_ids put node.block.exits ≡ false))
    (sym (put_is result node c.requires.waits c.requires.idle message (drop 1 (port_at 0 node.block).waiting) held
    ∙ ap (λ (r : Result (List Value) ℕ). put_by_kind node.block.kind (values_of_result r)) (sym (made ∙ answer))))
    c.yield_results.ensures.ids

pub returns-in-Err-clause-ids : goal.returns-in-Err-clause-ids
returns-in-Err-clause-ids g c =
    let node = c.args.node.now in
    let result = results_by (option_map (λ (work : Bor g.row.W.Denot). work.now) c.args.work) node.block.kind g.W.Runs.meaning in
    let message = c.in-Some.message.now in
    let items = c.waiting.ensures ∙ ap (λ (block : BlockState). (port_at 0 block).waiting) c.block-2.ensures in
    let held = front_held c.waiting.result.now.items (port_at 0 node.block).waiting message items c.in-Some.ensures.item.3.0 c.in-Some.ensures.lookup in
    let kind = c.kind-kind.ensures ∙ ap (λ (block : BlockState). block.kind) c.block.ensures in
    let answer : c.in-Ok.answer ≡ result message = rw kind at c.in-Ok.ensures in
    let made : Err c.in-Err.number ≡ c.in-Ok.answer = sym (ap made_in c.in-Err.is) ∙ c.into_made.ensures in
    on_any c.fail_at_once.result
    (failed_ids result node c.requires.waits c.requires.idle message (drop 1 (port_at 0 node.block).waiting) held
    c.in-Err.number (made ∙ answer))
  where
    on_any : {T E : Type 0} {P : Type 0} (result : Result T E) → P → OnOk result P
    on_any (Ok x) holds = holds
    on_any (Err e) holds = tt

pub returns-in-Ok-into_made-clause-used_up : goal.returns-in-Ok-into_made-clause-used_up
returns-in-Ok-into_made-clause-used_up g c =
    let node = c.args.node.now in
    let result = results_by (option_map (λ (work : Bor g.row.W.Denot). work.now) c.args.work) node.block.kind g.W.Runs.meaning in
    let message = c.in-Some.message.now in
    let items = c.waiting.ensures ∙ ap (λ (block : BlockState). (port_at 0 block).waiting) c.block-2.ensures in
    let held = front_held c.waiting.result.now.items (port_at 0 node.block).waiting message items c.in-Some.ensures.item.3.0 c.in-Some.ensures.lookup in
    let kind = c.kind-kind.ensures ∙ ap (λ (block : BlockState). block.kind) c.block.ensures in
    let answer : c.in-Ok.answer ≡ result message = rw kind at c.in-Ok.ensures in
    let made : Ok c.in-Ok-into_made.values.items ≡ c.in-Ok.answer = sym (ap made_in c.in-Ok-into_made.is) ∙ c.into_made.ensures in
    λ lacking. ap (λ (put : List Value). lacks_ids put node.block.exits)
    (put_is result node c.requires.waits c.requires.idle message (drop 1 (port_at 0 node.block).waiting) held
    ∙ ap (λ (r : Result (List Value) ℕ). put_by_kind node.block.kind (values_of_result r)) (sym (made ∙ answer)))
    ∙ c.yield_results.ensures.used_up lacking
