use Rattle.std.proofs.Common.{ℕ, ◌+◌, drop, refl, sym, ap, ◌∙◌}
use Rattle.flow_input.specs.Input.{InputState}
use Rattle.flow_task.specs.Entries.{with_parcel}
use Rattle.flow_task.specs.Begun.{begun_input}
use Rattle.flow_task.specs.Untouched.{passed}
use Rattle.flow_task.proofs.EntriesKeep.{made_so}
use Rattle.flow_task.proofs.EntriesMade.{made_by, made_number}
use Rattle.flow_task.proofs.board.Board.make_entry.Goals as goal

pub put_first-requires : goal.put_first-requires
put_first-requires g c =
    c.requires.waiting ∙ sym (ap (λ (state : InputState). drop state.sent state.posted) c.pass_taken.ensures.passed)

pub invariant_of-result : goal.invariant_of-result
invariant_of-result g c =
    let board = c.args.self.now in
    let part = c.args.input in
    let new = c.put_first.new.self in
    let of = c.put_first.ensures.of ∙ c.pass_taken.ensures.of ∙ c.requires.its in
    let link = c.put_first.ensures.link ∙ c.pass_taken.ensures.link in
    let passed = c.pass_taken.ensures.passed in
    record {
      numbered = made_number board part.link c.args.number new of link c.requires.number;
      law = made_by board part.link part.input new of link c.requires.begun c.put_first.new.ready.items new.input refl
          (made_so part.input c.requires.stays_open new.input c.put_first.new.ready.items
          (c.put_first.ensures.same ∙ ap with_parcel passed) c.put_first.ensures.first
          (c.put_first.ensures.rest ∙ ap (λ (state : InputState). drop (state.sent + 1) state.posted) passed));
    }

pub returns-clause-untouched : goal.returns-clause-untouched
returns-clause-untouched g c =
    let board = c.args.self.now in
    let link = c.put_first.ensures.link ∙ c.pass_taken.ensures.link in
    c.put_first.ensures.same ∙ ap with_parcel c.pass_taken.ensures.passed
    ∙ ap (λ (state : InputState). with_parcel (passed state)) c.requires.begun
    ∙ ap (λ (l : ℕ). with_parcel (passed (begun_input board l))) (sym link)
