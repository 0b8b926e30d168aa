use Rattle.std.proofs.Common.{◌<◌, length, arith}
use Rattle.flow_intake.specs.Port.{is_coming, is_owed}
use Rattle.flow_intake.specs.Ended.{is_completion, has_seen_fault}
use Rattle.flow_intake.proofs.CountsOfEnds.{count_there, count_below, count_moved, count_after_set}
use Rattle.flow_intake.proofs.ends.Ends.go_to.Goals as goal

pub recounted-self-inside-requires-clause-there : goal.recounted-self-inside-requires-clause-there
recounted-self-inside-requires-clause-there c =
    let known : c.args.place < length c.self.inside.ends.items = rw (← c.self.view_is) at c.requires.place in
    rw (c.is_coming.ensures, c.stage-before.ensures, ← c.self.view_is, c.self.invariant.0) (count_there is_coming c.self.inside.ends.items c.args.place known)

pub recounted-self-inside-requires-clause-small : goal.recounted-self-inside-requires-clause-small
recounted-self-inside-requires-clause-small c = omega (arith, c.self.invariant.0, count_below is_coming c.self.inside.ends.items)

pub recounted-self-inside-requires-2-clause-there : goal.recounted-self-inside-requires-2-clause-there
recounted-self-inside-requires-2-clause-there c =
    let known : c.args.place < length c.self.inside.ends.items = rw (← c.self.view_is) at c.requires.place in
    rw (c.is_owed.ensures, c.stage-before.ensures, ← c.self.view_is, c.self.invariant.1) (count_there is_owed c.self.inside.ends.items c.args.place known)

pub recounted-self-inside-requires-2-clause-small : goal.recounted-self-inside-requires-2-clause-small
recounted-self-inside-requires-2-clause-small c = omega (arith, c.self.invariant.1, count_below is_owed c.self.inside.ends.items)

pub completions_after-self-inside-requires-clause-there : goal.completions_after-self-inside-requires-clause-there
completions_after-self-inside-requires-clause-there c =
    let ends = c.self.inside.ends.items in
    let known : c.args.place < length ends = rw (← c.self.view_is) at c.requires.place in
    rw (c.stage-before.ensures, ← c.self.view_is, c.self.invariant.2)
    (count_there is_completion ends c.args.place known)

pub completions_after-self-inside-requires-clause-small : goal.completions_after-self-inside-requires-clause-small
completions_after-self-inside-requires-clause-small c =
    omega (arith, c.self.invariant.2, count_below is_completion c.self.inside.ends.items)

pub faults_after-self-inside-requires-clause-there : goal.faults_after-self-inside-requires-clause-there
faults_after-self-inside-requires-clause-there c =
    let ends = c.self.inside.ends.items in
    let known : c.args.place < length ends = rw (← c.self.view_is) at c.requires.place in
    rw (c.stage-before.ensures, ← c.self.view_is, c.self.invariant.3)
    (count_there has_seen_fault ends c.args.place known)

pub faults_after-self-inside-requires-clause-small : goal.faults_after-self-inside-requires-clause-small
faults_after-self-inside-requires-clause-small c =
    omega (arith, c.self.invariant.3, count_below has_seen_fault c.self.inside.ends.items)

pub invariant_of-self : goal.invariant_of-self
invariant_of-self c =
    let ends = c.self.inside.ends.items in
    let known : c.args.place < length ends = rw (← c.self.view_is) at c.requires.place in
    let coming = rw (c.is_coming.ensures, c.is_coming-2.ensures, c.stage-before.ensures, ← c.self.view_is) at c.recounted-self-inside.ensures in
    let owed = rw (c.is_owed.ensures, c.is_owed-2.ensures, c.stage-before.ensures, ← c.self.view_is) at c.recounted-self-inside-2.ensures in
    let completed =
    rw (c.stage-before.ensures, ← c.self.view_is)
    at c.completions_after-self-inside.ensures in
    let faulted =
    rw (c.stage-before.ensures, ← c.self.view_is)
    at c.faults_after-self-inside.ensures in
    rw c.go_to.ensures (
      count_moved is_coming ends c.args.place _ c.self.inside.coming c.recounted-self-inside.result known c.self.invariant.0 coming,
      count_moved is_owed ends c.args.place _ c.self.inside.owed c.recounted-self-inside-2.result known c.self.invariant.1 owed,
      count_moved is_completion ends c.args.place _ c.self.inside.completed
          c.completions_after-self-inside.result known c.self.invariant.2 completed,
      count_moved has_seen_fault ends c.args.place _ c.self.inside.faulted
          c.faults_after-self-inside.result known c.self.invariant.3 faulted,
    )

pub returns-clause-coming : goal.returns-clause-coming
returns-clause-coming c =
    let ends = c.self.inside.ends.items in
    let known : c.args.place < length ends = rw (← c.self.view_is) at c.requires.place in
    rw (← c.self.view_is, c.go_to.ensures) (count_after_set is_coming ends c.args.place _ known)

pub returns-clause-owed : goal.returns-clause-owed
returns-clause-owed c =
    let ends = c.self.inside.ends.items in
    let known : c.args.place < length ends = rw (← c.self.view_is) at c.requires.place in
    rw (← c.self.view_is, c.go_to.ensures) (count_after_set is_owed ends c.args.place _ known)
