-- What the next task is, by its number.
use Rattle.std.proofs.Common.{◌≡◌, ℕ, ◌+◌, ◌≤◌, leb, ltb, ◌==◌, true, length, sym, ap, ◌∙◌, subst, arith}
use Rattle.std.proofs.lemmas.Bool.{and_parts, eqb-true, leb-true}
use Rattle.flow_link.specs.Planned.{layout_of}
use Rattle.flow_task.specs.Numbers.{place_in, is_closed, closed_before, is_input_number, is_lane_number, task_count, turned_count}
use Rattle.flow_task.specs.Kinds.{is_task_number}
use Rattle.flow_task.specs.Parts.{board_by}
use Rattle.flow_task.specs.declared.board.Board.{Board}
use Rattle.flow_task.specs.declared.input_task.InputTask.{InputTask}
use Rattle.flow_task.specs.declared.lane_task.LaneTask.{LaneTask}
use Rattle.flow_task.specs.declared.laned.LanedTask.{LanedTask}
use Rattle.flow_task.specs.declared.numbered.Kind.{Kind}
use Rattle.flow_task.specs.declared.numbered.Kind.TheVariants as kind

module _ {W : Type 0} {w : _} {e : _} (of : Board W) (it : Kind W w e) (n : ℕ) (its : board_by it ≡ of)
    (numbered : is_task_number it n ≡ true) where
  -- a block has its own number
  pub block_board : (task : LanedTask W w e) → it ≡ kind.Block task → task.block.of.value ≡ of
  block_board task is = sym (ap board_by is) ∙ its

  pub block_number : (task : LanedTask W w e) → it ≡ kind.Block task → task.block.number ≡ n
  block_number task is = eqb-true task.block.number n (sym (ap (λ (k : Kind W w e). is_task_number k n) is) ∙ numbered)

  -- an input's number comes after those of blocks
  pub input_board : (task : InputTask W w e) → it ≡ kind.Input task → task.of.value ≡ of
  input_board task is = sym (ap board_by is) ∙ its

  pub input_number : (task : InputTask W w e) → it ≡ kind.Input task
      → is_input_number (layout_of of.rest.plan) of.opens.items task.link n ≡ true
  input_number task is =
      subst (λ (board : Board W). is_input_number (layout_of board.rest.plan) board.opens.items task.link n ≡ true) (input_board task is)
      (sym (ap (λ (k : Kind W w e). is_task_number k n) is) ∙ numbered)

  pub input_later : (task : InputTask W w e) → it ≡ kind.Input task → length (layout_of of.rest.plan).blocks ≤ n
  input_later task is =
      let layout = layout_of of.rest.plan in
      let before = closed_before layout of.opens.items (place_in layout task.link) in
      let place = place_in layout task.link in
      let parts = and_parts (is_closed layout of.opens.items place) ((length layout.blocks + before) == n) (input_number task is) in
      let same : length layout.blocks + before ≡ n = eqb-true (length layout.blocks + before) n parts.1 in
      omega (arith, same)

  -- and a lane's after those of the inputs that are turned
  pub lane_later : (task : LaneTask W) → it ≡ kind.Lane task → turned_count (layout_of of.rest.plan) of.opens.items ≤ n
  lane_later task is =
      let layout = layout_of of.rest.plan in
      let opens = of.opens.items in
      let its_board : task.of.value ≡ of = sym (ap board_by is) ∙ its in
      let number : is_lane_number layout opens n ≡ true =
      subst (λ (board : Board W). is_lane_number (layout_of board.rest.plan) board.opens.items n ≡ true) its_board
      (sym (ap (λ (k : Kind W w e). is_task_number k n) is) ∙ numbered) in
      leb-true (turned_count layout opens) n (and_parts (leb (turned_count layout opens) n) (ltb n (task_count layout opens)) number).0

  -- where no block is, it comes after those of blocks
  pub no_block : (k : Kind W w e) → it ≡ k → ((task : LanedTask W w e) → it ≡ kind.Block task → ⊥) → length (layout_of of.rest.plan).blocks ≤ n
  no_block (kind.Block task) is other = absurd (other task is)
  no_block (kind.Input task) is other = input_later task is
  no_block (kind.Lane task) is other = let later = lane_later task is in omega (arith, later)
