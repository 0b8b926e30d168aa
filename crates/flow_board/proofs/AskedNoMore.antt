-- Exits at which no receive waits any more: each keeps its law, and its link knows nothing of it.
use Rattle.std.proofs.Common.{◌≡◌, ℕ, true, false, List, [], ◌∷◌, map, get_or, refl, ap, sym, subst, ◌∙◌}
use Rattle.std.proofs.Math.ListN.{get_or-map}
use Rattle.std.proofs.Math.Logic.{∥∥₁_map}
use Rattle.flow_link.specs.Lists.{below}
use Rattle.flow_block.specs.Planned.{links_out}
use Rattle.flow_exit.specs.Exit.{ExitCall, ExitState, after_exit, caller_of, fresh_exit}
use Rattle.flow_exit.specs.ExitKeeps.{ExitLaw}
use Rattle.flow_exit.proofs.ExitsKeep.{exits_keep}
use Rattle.flow_net.specs.Asked.{none_wait}
use Rattle.flow_task.specs.Exits.{exit_due}
use Rattle.flow_task.specs.Parts.{board_layout, board_wires}
use Rattle.flow_task.specs.declared.board.Board.{Board}
use Rattle.flow_task.proofs.Places.{all_same}

abbrev pub asked_no_more : ExitState → ExitState
asked_no_more exit = after_exit (ExitCall.ask false) exit

pub none_waits : (exits : List ExitState) → none_wait (map caller_of (map asked_no_more exits)) ≡ true
none_waits [] = refl
none_waits (exit ∷ exits) = none_waits exits

module _ (exits now : List ExitState) (is : now ≡ map asked_no_more exits) where
  pub there : (k : ℕ) → get_or now k fresh_exit ≡ asked_no_more (get_or exits k fresh_exit)
  there k = ap (λ (all : List ExitState). get_or all k fresh_exit) is ∙ get_or-map asked_no_more exits k fresh_exit

  pub laws_stay : (k : ℕ) → ∥ ExitLaw (get_or exits k fresh_exit) ∥₁ → ∥ ExitLaw (get_or now k fresh_exit) ∥₁
  laws_stay k law =
      subst (λ (exit : ExitState). ∥ ExitLaw exit ∥₁) (sym (there k))
      (∥∥₁_map law (λ e. exits_keep.calls (get_or exits k fresh_exit) (ExitCall.ask false) e tt))

  pub due_as_before : {W : Type 0} (board : Board W) (n : ℕ)
      → map (λ k. exit_due (board_layout board) (board_wires board) (get_or (links_out (board_layout board)) k 0) (get_or exits k fresh_exit)) (below n)
      ≡ map (λ k. exit_due (board_layout board) (board_wires board) (get_or (links_out (board_layout board)) k 0) (get_or now k fresh_exit)) (below n)
  due_as_before board n =
      all_same (λ k. exit_due (board_layout board) (board_wires board) (get_or (links_out (board_layout board)) k 0) (get_or exits k fresh_exit))
      (λ k. exit_due (board_layout board) (board_wires board) (get_or (links_out (board_layout board)) k 0) (get_or now k fresh_exit)) n
      (λ k low. ap (exit_due (board_layout board) (board_wires board) (get_or (links_out (board_layout board)) k 0)) (there k))
