use Rattle.std.proofs.Common.{◌≡◌, ◌∙◌, ap, sym, true, rules}
use Rattle.flow_input.specs.Input.{InputState}
use Rattle.flow_input.specs.Sends.{is_idle, settled}
use Rattle.flow_input.proofs.OneProof.{busy_merely, idle_merely}
use Rattle.flow_task.proofs.EntriesTell.{idle_told, open_none}
use Rattle.flow_task.proofs.numbered.Entry.finish.Goals as goal

pub returns-then-not-is_idle-clause-why : goal.returns-then-not-is_idle-clause-why
returns-then-not-is_idle-clause-why g c =
    let input = c.args.self.now.input in
    busy_merely input.input input.law (search rules)

pub end_so-requires : goal.end_so-requires
end_so-requires g c =
    let input = c.args.self.now.input in
    let idle : is_idle input.input ≡ true = search rules in
    record {
      idle = idle_merely input.input input.law idle;
      stays_open = open_none input.input.ending (search rules);
      numbered = c.requires.numbered;
    }

pub step-requires-clause-told : goal.step-requires-clause-told
step-requires-clause-told g c =
    let input = c.args.self.now.input in
    let idle : is_idle input.input ≡ true = search rules in
    let is = c.end_so.ensures.finished in
    ap (λ (state : InputState). state.told) is ∙ idle_told input.input input.law idle ∙ sym (ap settled is)
