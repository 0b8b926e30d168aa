-- The laws of a run, one test after another: a run whose tests all pass is lawful, or quiet.
use Rattle.std.specs.Prelude.{◌==◌, Bool, ◌&&◌, List, [], ◌∷◌, length}
use Rattle.flow_link.specs.Lists.{every}
use Rattle.flow_link.specs.Trace.{Run, block_numbers, link_numbers}
use Rattle.flow_lawful.specs.Shape.{input_count, tells_each_port}
use Rattle.flow_link.specs.Making.{makes}
use Rattle.flow_lawful.specs.Law.{crosses, gives_admitted, gives_within, takes_posted, has_own_marks, is_within_capacity, takes_level, keeps_link_order}
use Rattle.flow_link.specs.Copies.{copies}
use Rattle.flow_lawful.specs.Endings.{stops_at, completes_once_at, ends_rightly, has_causes, is_rightly_refused}
use Rattle.flow_lawful.specs.Quiet.{is_home, rests, is_done_if_can, hands_its_end_on, carries_no_more, has_served_all}

abbrev pub all_pass : List Bool → Bool
all_pass tests = every (λ test. test) tests

module _ {W : Type 0} (run : Run W) where
  abbrev pub is_in_shape : Bool
  is_in_shape =
      length run.trace.blocks == length run.layout.blocks
      && length run.trace.inputs == input_count run
      && every (tells_each_port run) (block_numbers run)

  abbrev pub law_tests : List Bool
  law_tests =
      every (crosses run) (link_numbers run)
      ∷ every (gives_admitted run) (link_numbers run)
      ∷ every (gives_within run) (link_numbers run)
      ∷ every (takes_posted run) (link_numbers run)
      ∷ every (has_own_marks run) (block_numbers run)
      ∷ every (makes run) (block_numbers run)
      ∷ every (is_within_capacity run) (block_numbers run)
      ∷ every (takes_level run) (block_numbers run)
      ∷ every (copies run) (block_numbers run)
      ∷ every (stops_at run) (block_numbers run)
      ∷ every (completes_once_at run) (block_numbers run)
      ∷ every (ends_rightly run) (block_numbers run)
      ∷ every (has_causes run) (block_numbers run)
      ∷ every (is_rightly_refused run) (link_numbers run)
      ∷ every (keeps_link_order run) (block_numbers run)
      ∷ is_in_shape
      ∷ []

  abbrev pub quiet_tests : List Bool
  quiet_tests =
      every (is_home run) (link_numbers run)
      ∷ every (rests run) (block_numbers run)
      ∷ every (is_done_if_can run) (block_numbers run)
      ∷ every (hands_its_end_on run) (link_numbers run)
      ∷ every (carries_no_more run) (link_numbers run)
      ∷ every (has_served_all run) (block_numbers run)
      ∷ []
