-- What an input would do next by itself has an id if it offers, and is no move that the target may forestall; and a look gives nothing.
use Rattle.std.proofs.Common.{◌≡◌, ℕ, ◌<◌, ◌^◌, ltb, cond, not, ◌&&◌, Bool, true, false, Option, Some, None, refl, subst}
use Rattle.std.proofs.lemmas.Bool.{ltb-true}
use Rattle.flow_link.specs.declared.phase.LinkEnd.{LinkEnd}
use Rattle.flow_link.specs.declared.phase.Move.{Move}
use Rattle.flow_link.specs.declared.phase.Move.TheVariants as move
use Rattle.flow_link.specs.declared.stage.SourceStage.{SourceStage}
use Rattle.flow_link.specs.declared.stage.SourceStage.TheVariants.{Free, Accepted, Wished}
use Rattle.flow_outlet.specs.End.{is_free}
use Rattle.flow_link.specs.declared.phase.Phase.{Phase}
use Rattle.flow_link.specs.Stage.{source_looks}
use Rattle.flow_input.specs.Input.{InputState, has_next, next_id, input_move, is_turned_down, looks, move_from, end_by, end_move, stands_at, takes_back}
use Rattle.flow_moves.specs.Ready.{InputIsReady}
use Rattle.flow_task.specs.Inputs.{HasId}
use Rattle.flow_task.specs.Words.{is_withdrawal}

-- it makes this move, for which there is an id
pub record Goes (peek : Option Move) (next : Move) : Type 0 where
  pub peek_is : peek ≡ Some next
  pub id : HasId next

some_is : {A : Type 0} {x y : A} → Some x ≡ Some y → x ≡ y
some_is e = cc

goes : (first next : Move) → HasId first → Some first ≡ Some next → Goes (Some first) next
goes first next id is = record { peek_is = is; id = subst HasId (some_is is) id }

ends : (how : Option LinkEnd) (next : Move) → end_move how ≡ Some next → Goes (end_move how) next
ends None next is = absurd (cc)
ends (Some how) next is = goes (move.End how) next tt is

free_goes : (more low : Bool) (i : ℕ) (how : Option LinkEnd) (next : Move) → (low ≡ true → i < 2 ^ 59)
    → cond (true && more && not low) None (cond more (Some (move.Offer i)) (end_move how)) ≡ Some next
    → Goes (cond more (Some (move.Offer i)) (end_move how)) next
free_goes true true i how next small is = goes (move.Offer i) next (small refl) is
free_goes true false i how next small is = absurd (cc)
free_goes false true i how next small is = ends how next is
free_goes false false i how next small is = ends how next is

stage_goes : (input : InputState) (stage : SourceStage) (next : Move)
    → cond (is_free stage && has_next input && not (ltb (next_id input) (2 ^ 59))) None (move_from input stage) ≡ Some next
    → Goes (move_from input stage) next
stage_goes input Free next is =
    free_goes (has_next input) (ltb (next_id input) (2 ^ 59)) (next_id input) (end_by input.ending) next
    (ltb-true (next_id input) (2 ^ 59)) is
stage_goes input (Accepted i) next is = goes move.Give next tt is
stage_goes input (Wished i) next is = goes move.Give next tt is
stage_goes input _ next is = absurd (cc)

pub next_goes : (input : InputState) (next : Move)
    → cond (is_free input.stage && has_next input && not (ltb (next_id input) (2 ^ 59))) None (input_move input) ≡ Some next
    → Goes (input_move input) next
next_goes input next is = stage_goes input input.stage next is

pub ready_is_own : (next : Move) (input : InputState) → InputIsReady next input → is_withdrawal next ≡ false
ready_is_own (move.Offer i) input ready = refl
ready_is_own move.Give input ready = refl
ready_is_own (move.End how) input ready = refl
ready_is_own _ input ready = absurd ready

-- a look gives nothing
either_sent : (which : Bool) (one other : InputState) (n : ℕ) → one.sent ≡ n → other.sent ≡ n → (cond which one other).sent ≡ n
either_sent true one other n e f = e
either_sent false one other n e f = f

pub look_gives_nothing : (phase : Phase) (input : InputState) → (looks phase input).sent ≡ input.sent
look_gives_nothing phase input =
    either_sent (is_turned_down input.stage phase) (takes_back input) (stands_at (source_looks input.stage phase) input) input.sent refl refl
