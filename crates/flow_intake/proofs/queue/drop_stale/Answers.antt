use Rattle.std.proofs.Common.{rules, length}
use Rattle.std.proofs.lemmas.Fn.{filter_same}
use Rattle.flow_intake.specs.Queue.{stands}
use Rattle.flow_intake.proofs.EntriesStand.{standing-kept, first-kept, placed-kept, numbered-kept}
use Rattle.flow_intake.proofs.queue.drop_stale.Goals as goal

pub returns-then-len-turns-clause-same : goal.returns-then-len-turns-clause-same
returns-then-len-turns-clause-same c =
    let kept = filter_same _ (λ entry. stands c.args.turns.now entry) _ (λ x b f' k. search rules) _ _ c.retain.ensures.filtered in
    rw kept (standing-kept c.args.turns.now c.args.entries.now.items)

pub returns-then-len-turns-clause-front : goal.returns-then-len-turns-clause-front
returns-then-len-turns-clause-front c =
    let kept = filter_same _ (λ entry. stands c.args.turns.now entry) _ (λ x b f' k. search rules) _ _ c.retain.ensures.filtered in
    rw kept (first-kept c.args.turns.now c.args.entries.now.items)

pub returns-then-len-turns-clause-placed : goal.returns-then-len-turns-clause-placed
returns-then-len-turns-clause-placed c =
    let kept = filter_same _ (λ entry. stands c.args.turns.now entry) _ (λ x b f' k. search rules) _ _ c.retain.ensures.filtered in
    rw kept (placed-kept c.args.turns.now (length c.args.turns.now) c.args.entries.now.items c.requires.placed)

pub returns-then-len-turns-clause-numbered : goal.returns-then-len-turns-clause-numbered
returns-then-len-turns-clause-numbered c =
    let kept = filter_same _ (λ entry. stands c.args.turns.now entry) _ (λ x b f' k. search rules) _ _ c.retain.ensures.filtered in
    λ last numbered. rw kept (numbered-kept c.args.turns.now last c.args.entries.now.items numbered)
