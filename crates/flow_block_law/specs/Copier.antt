-- When a block that copies is in order: its element and its links came about by calls that may be made, from an element that is
-- not there on, and its marks tell what was put and what was given.
use Rattle.std.specs.Prelude.{◌≡◌, ℕ, ◌<◌, ◌≤◌, Bool, true, false, List, ◌++◌, [], length, map, is_some}
use Rattle.flow_value.specs.When.{admits}
use Rattle.flow_link.specs.declared.draft.BlockKind.{BlockKind}
use Rattle.flow_link.specs.declared.trace.Mark.{Mark}
use Rattle.flow_link.specs.Layout.{Layout}
use Rattle.flow_link.specs.Lists.{every}
use Rattle.flow_link.specs.Plan.{is_write_once}
use Rattle.flow_link.specs.Trace.{took, gave_over}
use Rattle.flow_outlet.specs.Outlet.{fresh_outlet}
use Rattle.flow_outlet.specs.declared.ends.OutEnd.{OutEnd}
use Rattle.flow_spread.specs.declared.end.CopyEnd.{CopyEnd}
use Rattle.flow_spread.specs.Copied.{Call, Course, after_all, AllAllowed, put_in, given_in, fresh_course}
use Rattle.flow_spread.specs.Spread.{link_at}
use Rattle.flow_block.specs.Block.{BlockState, held_by}
use Rattle.flow_block.specs.Peeks.{is_pending}
use Rattle.flow_block.specs.Planned.{links_from, rule_of}

-- what it copies, where its calls so far tell that it faults or has faulted, or do not
abbrev pub course_of : Bool → BlockState → Course
course_of pending block = record { spread = block.copies; pending = pending; stopped = block.stopped }

-- what a link was given, as the marks tell it
pub record CopiedOver (journal : List Mark) (link : OutEnd) : Type 0 where
  pub admitted : every (admits link.rule.when) (gave_over link.rule.id journal) ≡ true
  pub counted : is_some link.rule.max ≡ true → link.given ≡ length (gave_over link.rule.id journal)
  pub some : 1 ≤ length (gave_over link.rule.id journal) → 1 ≤ link.last

module _ {W : Type 0} (layout : Layout W) (b : ℕ) where
  -- nothing is put, and nothing has gone over a link
  abbrev pub copier_start : BlockKind → Course
  copier_start kind = fresh_course (is_write_once kind) false (map (rule_of layout) (links_from layout b)) 1

  pub record Copier (block : BlockState) (journal : List Mark) : Type 0 where
    -- it shares nothing out
    pub idle_exits : block.exits ≡ fresh_outlet [] 1
    -- the links of the plan, in order
    pub rules : map (λ (end : CopyEnd). end.link.rule) block.copies.ends ≡ map (rule_of layout) (links_from layout b)
    -- the calls that led here; that it faults, or has faulted, they tell only where it is so
    pub calls : List Call
    pub allowed : AllAllowed calls (copier_start block.kind)
    pub pending : Bool
    pub faults : pending ≡ true → is_pending block ≡ true
    pub leads_here : after_all calls (copier_start block.kind) ≡ course_of pending block
    -- what it took it put, in order, or holds; and what each link was given are the gifts of these calls
    pub took_is : took journal ≡ put_in calls ++ held_by block
    pub gave_is : (k : ℕ) → k < length block.copies.ends
        → gave_over (link_at block.copies k).rule.id journal ≡ given_in k calls (copier_start block.kind)
    pub each : (k : ℕ) → k < length block.copies.ends → CopiedOver journal (link_at block.copies k)
