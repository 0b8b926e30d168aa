-- The next move of an input's end fits its link.
use Rattle.std.proofs.Common.{◌≡◌, ℕ, ◌≤◌, true, Option, Some, None, is_some, refl, ap, sym, subst, ◌∙◌, arith, ltb-true}
use Rattle.flow_link.specs.declared.phase.LinkEnd.{LinkEnd}
use Rattle.flow_link.specs.declared.phase.LinkEnd.TheVariants as link_end
use Rattle.flow_link.specs.declared.phase.Move.{Move}
use Rattle.flow_link.specs.declared.phase.Move.TheVariants as move
use Rattle.flow_link.specs.declared.stage.SourceStage.{SourceStage as SourceKept}
use Rattle.flow_link.specs.declared.stage.SourceStage.TheVariants as source
use Rattle.flow_link.specs.declared.trace.Ending.{Ending}
use Rattle.flow_link.specs.declared.trace.Ending.TheVariants as ending
use Rattle.flow_link.specs.LinkOk.{HasRoom, MayEnd}
use Rattle.flow_link.specs.Moves.{offering}
use Rattle.flow_link.specs.Posted.{is_numbered_ending}
use Rattle.flow_link.specs.Stage.{source_stage_of}
use Rattle.flow_link.specs.Views.{LinkFacts, crossed}
use Rattle.flow_outlet.specs.End.{id_of}
use Rattle.flow_input.specs.Input.{InputState, InputCall, end_by, input_view, next_id, next_value, is_wanted}
use Rattle.flow_input.specs.InputKeeps.{InputLaw, InputsKeep, MayMoveInput}
use Rattle.flow_core.specs.Events.{input_after, input_call}
use Rattle.flow_core.specs.MovesFit.{OutFits, InputsFit, is_to_fill, message_out}
use Rattle.flow_core.proofs.BlocksFit.{given_is}
use Rattle.flow_core.proofs.StagesFit.{is_at_home}

-- any number of values may cross an input's link
pub has_room : (max : Option ℕ) (count : ℕ) → max ≡ None → HasRoom max count
has_room None count e = tt
has_room (Some max) count e = absurd (cc)

-- and an input's end passes on
ends_as_told : (facts : LinkFacts) (count : ℕ) (told : Ending) (how : LinkEnd) → facts.max ≡ None
    → facts.propagates ≡ true → is_numbered_ending told ≡ true → end_by told ≡ Some how → MayEnd facts count how
ends_as_told facts count ending.Complete link_end.Complete unlimited passes numbered e =
    record { propagates = passes; not_cut = has_room facts.max count unlimited }
ends_as_told facts count (ending.Fault n) (link_end.Fault m) unlimited passes numbered e =
    record {
      passes = record { propagates = passes; not_cut = has_room facts.max count unlimited };
      numbered = let same : n ≡ m = cc in subst (λ (number : ℕ). 1 ≤ number) same (omega (arith, ltb-true 0 n numbered));
    }
ends_as_told facts count told how unlimited passes numbered e = absurd (cc)

-- what is wanted is what comes next
wanted_fills : (stage : SourceKept) → is_wanted stage ≡ true → is_to_fill (source_stage_of stage) ≡ true
wanted_fills (source.Accepted i) e = refl
wanted_fills (source.Wished i) e = refl
wanted_fills _ e = absurd (cc)

wanted_next : (next : ℕ) (stage : SourceKept) → is_wanted stage ≡ true → ((i : ℕ) → id_of stage ≡ Some i → i ≡ next)
    → next ≡ message_out (source_stage_of stage)
wanted_next next (source.Accepted i) e speaks = sym (speaks i refl)
wanted_next next (source.Wished i) e speaks = sym (speaks i refl)
wanted_next next _ e speaks = absurd (cc)

module _ (facts : LinkFacts) (unlimited : facts.max ≡ None) (passes : facts.propagates ≡ true) (keeps : InputsKeep)
    (input : InputState) (law : InputLaw input) where
  fits : (next : Move) → MayMoveInput input next
      → OutFits facts (next_value input) next (input_view input) (input_view (input_after (input_call next) input))
  fits (move.Offer i) may = record {
    free = is_at_home input.stage may.1.is_at_home;
    rises = let next = may.0 in omega (arith, next);
    room = has_room facts.max (crossed (input_view input)) unlimited;
    moved = keeps.views input InputCall.offer law may.1 ∙ ap (λ (id : ℕ). offering id (input_view input)) (sym may.0);
  }
  fits move.Give may =
      let known = keeps.views input InputCall.give law may in
      let view = input_view input in
      record {
        wanted = wanted_fills input.stage may;
        there = ap is_some known.next;
        moved = given_is (next_value input) known.value (next_id input) (message_out view.stage) view
            (input_view (input_after (Some InputCall.give) input)) known.next
            (wanted_next (next_id input) input.stage may (λ i e. (law.speaks i e).0)) known.view;
      }
  fits (move.End how) may = record {
    free = is_at_home input.stage may.is_at_home;
    rule = ends_as_told facts (crossed (input_view input)) input.ending how unlimited passes law.by_number may.as_told;
    moved = keeps.views input (InputCall.end_link how) law may;
  }
  fits _ may = absurd may

pub inputs_fit : InputsKeep → InputsFit
inputs_fit keeps facts unlimited passes input law next peek =
    fits facts unlimited passes keeps input law next (keeps.next input next law peek)
