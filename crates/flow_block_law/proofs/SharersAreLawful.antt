-- A node in order that shares its messages out makes, gives and has left what each block of a lawful run does.
use Rattle.std.proofs.Common.{◌≡◌, ℕ, ◌==◌, ◌<◌, ltb, Bool, true, false, not, ◌&&◌, ◌||◌, is_some, List, [], ◌∷◌, ◌++◌, length, Some, refl, ap, ap₂, sym, subst, ◌∙◌, arith, ⊎_elim, eqb-true, ltb-true}
use Rattle.std.proofs.lemmas.Bool.{OnTrue_at, and_from, and_parts, or_right}
use Rattle.std.proofs.Math.Bool.{or_comm}
use Rattle.flow_value.specs.When.{admits}
use Rattle.flow_value.specs.declared.value.Value.{Value}
use Rattle.flow_link.specs.declared.draft.BlockKind.{BlockKind}
use Rattle.flow_link.specs.declared.draft.BlockKind.TheVariants.{Buffer, Action, Transform, TransformMany, Batch, Join, BatchedJoin}
use Rattle.flow_link.specs.declared.phase.LinkEnd.{LinkEnd}
use Rattle.flow_link.specs.declared.plan.LinkSource.TheVariants.{Block}
use Rattle.flow_link.specs.declared.plan.LinkTarget.TheVariants.{Port}
use Rattle.flow_link.specs.declared.trace.Mark.{Mark}
use Rattle.flow_link.specs.declared.trace.Mark.TheVariants.{Took, Gave, Complete, Fault, Done}
use Rattle.flow_lawful.specs.Composes.{Ends, SourceKeeps, SpeaksForOne, WorksInto, NodeMakes, as_seen, is_refused_stage, is_spoken_for}
use Rattle.flow_link.specs.Copies.{copies_as}
use Rattle.flow_lawful.specs.Law.{is_own_mark, is_passed, gives_in_order, keeps_link_order}
use Rattle.flow_link.specs.Lists.{every, below, is_empty, same_values}
use Rattle.flow_link.specs.Making.{outputs, group_size, all_items, are_groups, row_weight, before_complete, whole_until, join_makes, batched_join_makes}
use Rattle.flow_link.specs.Plan.{begins_at, is_one_taker, is_steady, is_write_once}
use Rattle.flow_link.specs.Stage.{source_stage_of}
use Rattle.flow_link.specs.Trace.{BlockTrace, Run, took, gave, gave_over, has_complete, has_fault, is_done, is_faulted, is_used_up, is_cut, block_of, link_of, trace_of, marks_of, held_at, left_at, given_by}
use Rattle.flow_link.specs.Worked.{WorkedInto}
use Rattle.flow_link.proofs.ListTests.{every_weaker_below, or_others, same_values_where}
use Rattle.flow_outlet.specs.declared.ends.LinkRule.{LinkRule}
use Rattle.flow_outlet.specs.declared.ends.OutEnd.{OutEnd}
use Rattle.flow_outlet.specs.End.{no_end, is_cut as is_end_cut}
use Rattle.flow_outlet.specs.Law.{is_refused}
use Rattle.flow_outlet.specs.Outlet.{end_at, end_of}
use Rattle.flow_block.specs.Block.{held_by, is_batch, is_join, is_batched_join}
use Rattle.flow_block.specs.Node.{NodeState, out_view, order_in}
use Rattle.flow_block_law.specs.NodeLaw.{NodeLaw, MakesAs, RowsLaw, is_whole, refuses_over, run_seen_by}
use Rattle.flow_block_law.specs.NodeSeen.{IsNodeOf, EachMayCarry}
use Rattle.flow_block.specs.Planned.{out_place, block_makes}
use Rattle.flow_block_law.proofs.CopiesIdle.{left_is_shared, view_is_shared}
use Rattle.flow_block_law.proofs.EndsTell.{ended_complete, ended_fault, ended_plain, used_up_told, refused_told, spoken_for_told}
use Rattle.flow_link.proofs.StagesKept.{ended_stage}
use Rattle.flow_block_law.proofs.JournalTells.{stopped_tells, done_marked, fault_marked, passed_by}
use Rattle.flow_block_law.proofs.KindsBuilt.{copies_nothing}
use Rattle.flow_block_law.proofs.NodesSeen.{held_is, is_joining, join_seen, is_grouping, as_ports}
use Rattle.flow_block_law.proofs.PlacesOfLinks.{HasEndOut, end_out_is, end_out_of, source_there}
use Rattle.flow_link.proofs.TestsTell.{some_tells}
use Rattle.flow_block_law.proofs.GroupsSeen.{batched_joins_are_parts}
use Rattle.flow_block_law.specs.GroupsLaw.{KeepsGroups, WholeBefore}
use Rattle.flow_link.specs.declared.phase.LinkEnd.TheVariants as link_end
use Rattle.flow_link.specs.Views as views

-- what is left of rows that are all whole is whole
every_behind : (test : Value → Bool) (front rest : List Value) → every test (front ++ rest) ≡ true → every test rest ≡ true
every_behind test [] rest all = all
every_behind test (first ∷ front) rest all =
    every_behind test front rest (and_parts (test first) (every test (front ++ rest)) all).1

left_whole : (complete none : Bool) (test : Value → Bool) (given left : List Value)
    → ((complete && none) || every test (given ++ left)) ≡ true → (complete || every test left) ≡ true
left_whole true none test given left e = refl
left_whole false none test given left e = every_behind test given left e

-- one of three
or_one : (a b c : Bool) → a ≡ true → a || b || c ≡ true
or_one true b c e = refl
or_one false b c e = absurd (cc)

module _ {W : Type 0} (run : Run W) (ends : ℕ → Ends) (b : ℕ) (node : NodeState)
    (law : NodeLaw run.layout run.meaning b node) (is : IsNodeOf run ends b node)
    (known : (l p : ℕ) → l < length run.layout.links → (link_of run l).target ≡ Port b p
    → p < length node.block.ports)
    (carries : is_write_once node.block.kind ≡ true → EachMayCarry run b) where
  abbrev place_of : ℕ → ℕ
  place_of l = out_place run.layout b l

  abbrev end_from : ℕ → OutEnd
  end_from l = end_at node.block.exits (place_of l)

  -- the run as the node's own ends know it
  abbrev own_run : Run W
  own_run = run_seen_by run.layout run.meaning b node.block.exits.ends

  abbrev MakesAsKind : BlockKind → Type 0
  MakesAsKind kind =
      MakesAs (block_makes run.layout run.meaning b) kind (took node.journal) (held_by node.block) (gave node.journal)
      node.block.exits.left node.block.recorded

  marks_are : marks_of run b ≡ node.journal
  marks_are = ap (λ (t : BlockTrace). t.journal) is.trace

  -- what is shown of the journal holds of the marks
  of_marks : (P : List Mark → Type 0) → P node.journal → P (marks_of run b)
  of_marks P h = subst P (sym marks_are) h

  -- Where it shares its messages out

  module _ (shares : is_one_taker node.block.kind ≡ true) where
    pub left_is : left_at run b ≡ node.block.exits.left
    left_is = ap (λ (t : BlockTrace). t.left) is.trace ∙ left_is_shared run.layout run.meaning b node law shares

    from_has : (l : ℕ) → l < length run.layout.links → (link_of run l).source ≡ Block b
        → HasEndOut run.layout run.meaning b node.block law.shape l
    from_has l small begins = end_out_of run.layout run.meaning b node.block law.shape shares l small begins

    -- what it makes
    works_so : (made of_trace : List Value) → made ≡ of_trace
        → WorkedInto (block_makes run.layout run.meaning b) (took node.journal) (held_by node.block) made
        → WorksInto run ends b of_trace
    works_so made of_trace same into = record {
      done = into.done;
      results = into.results;
      taken = ap took marks_are ∙ into.taken_is
          ∙ ap (λ (held : List Value). into.done ++ held) (sym (held_is run ends b node law is 0));
      worked = into.worked;
      all = sym same ∙ into.all;
    }

    outputs_are : gave node.journal ++ node.block.exits.left ≡ outputs run b
    outputs_are = sym (ap (λ (t : BlockTrace). gave t.journal ++ t.left) is.trace
        ∙ ap (λ (left : List Value). gave node.journal ++ left) (left_is_shared run.layout run.meaning b node law shares))

    makes_by : (kind : BlockKind) → is_one_taker kind ≡ true
        → (is_join kind ≡ true → join_makes run b ≡ true) → (is_batched_join kind ≡ true → batched_join_makes run b ≡ true)
        → (is_batch kind ≡ true → RowsLaw node.block.size node.journal (held_by node.block) node.block.exits.left)
        → MakesAsKind kind → NodeMakes run ends b kind
    makes_by Buffer sharing joins groups rows makes =
        ap took marks_are ∙ makes ∙ ap (λ (made : List Value). made ++ held_by node.block) outputs_are
        ∙ ap (λ (held : List Value). outputs run b ++ held) (sym (held_is run ends b node law is 0))
    makes_by Action sharing joins groups rows makes = record {
      works = works_so node.block.recorded (trace_of run b).recorded
          (sym (ap (λ (t : BlockTrace). t.recorded) is.trace)) makes.0;
      none_left = left_is ∙ makes.1;
    }
    makes_by Transform sharing joins groups rows makes =
        works_so (gave node.journal ++ node.block.exits.left) (outputs run b) outputs_are makes
    makes_by TransformMany sharing joins groups rows makes =
        works_so (gave node.journal ++ node.block.exits.left) (outputs run b) outputs_are makes
    makes_by Batch sharing joins groups rows makes =
        let size : node.block.size ≡ group_size run b = law.shape.size_is in
        let law_of = rows refl in
        let outs = outputs run b in
        let taken = took (marks_of run b) in
        let all = all_items outs ++ held_at run b 0 in
        let same : taken ≡ all =
        ap took marks_are ∙ makes ∙ ap (λ (made : List Value). all_items made ++ held_by node.block) outputs_are
        ∙ ap (λ (held : List Value). all_items outs ++ held) (sym (held_is run ends b node law is 0)) in
        let groups : are_groups row_weight (group_size run b) outs ≡ true =
        ap₂ (λ (n : ℕ) (made : List Value). are_groups row_weight n made) (sym size) (sym outputs_are) ∙ law_of.groups in
        let before : every (is_whole (group_size run b)) (gave (before_complete 0 (marks_of run b))) ≡ true =
        ap₂ (λ (n : ℕ) (marks : List Mark). every (is_whole n) (gave (before_complete 0 marks))) (sym size) marks_are
        ∙ law_of.whole_before in
        let left : (has_complete 0 (marks_of run b) || every (is_whole (group_size run b)) (left_at run b)) ≡ true =
        ap₂ (λ (n : ℕ) (marks : List Mark). has_complete 0 marks || every (is_whole n) (left_at run b)) (sym size) marks_are
        ∙ ap (λ (made : List Value). has_complete 0 node.journal || every (is_whole node.block.size) made) left_is
        ∙ left_whole (has_complete 0 node.journal) (is_empty (held_by node.block)) (is_whole node.block.size)
        (gave node.journal) node.block.exits.left law_of.whole in
        and_from (same_values taken all && are_groups row_weight (group_size run b) outs)
        (whole_until row_weight (group_size run b) (marks_of run b) (left_at run b) 0)
        (and_from (same_values taken all) (are_groups row_weight (group_size run b) outs)
        (same_values_where taken all same) groups)
        (and_from (every (is_whole (group_size run b)) (gave (before_complete 0 (marks_of run b))))
        (has_complete 0 (marks_of run b) || every (is_whole (group_size run b)) (left_at run b)) before left)
    makes_by Join sharing joins groups rows makes = joins refl
    makes_by BatchedJoin sharing joins groups rows makes = groups refl
    makes_by _ sharing joins groups rows makes = absurd (cc)

    -- the groups of a batched join
    groups_make : is_batched_join node.block.kind ≡ true → batched_join_makes run b ≡ true
    groups_make batched =
        let law_of = law.groups batched in
        let size : node.block.size ≡ group_size run b = law.shape.size_is in
        (batched_joins_are_parts W run b node (as_ports run ends b node law is batched)).makes (order_in node)
        (subst (λ (n : ℕ). KeepsGroups n (order_in node) node.block node.journal) size law_of.groups)
        (subst (λ (n : ℕ). WholeBefore (length node.block.ports) n node.journal) size law_of.whole)

    pub makes_shared : NodeMakes run ends b (block_of run b).kind
    makes_shared =
        makes_by (block_of run b).kind (ap is_one_taker (sym law.shape.kind_is) ∙ shares)
        (λ join.
        let here = sym (is_joining run ends b node law is) ∙ join in
        (join_seen run ends b node law is here).makes (law.tuples here))
        (λ batched. groups_make (sym (is_grouping run ends b node law is) ∙ batched))
        (λ batch. law.rows (ap is_batch law.shape.kind_is ∙ batch))
        (subst MakesAsKind law.shape.kind_is law.makes.makes)

    pub copies_shared : copies_as (as_seen run ends) b (block_of run b).kind ≡ true
    copies_shared =
        copies_nothing (as_seen run ends) b (block_of run b).kind (ap is_one_taker (sym law.shape.kind_is) ∙ shares)

    -- its ends of the links out of it
    source_seen : (l : ℕ) → l < length run.layout.links → (link_of run l).source ≡ Block b
        → (ends l).source ≡ out_view (place_of l) node
    source_seen l small begins =
        is.sources l small begins ∙ view_is_shared run.layout run.meaning b node law shares (place_of l)

    seen_out : (l : ℕ) → l < length run.layout.links → (link_of run l).source ≡ Block b
        → (ends l).source.stage ≡ source_stage_of (end_from l).stage
    seen_out l small begins =
        ap (λ (view : views.SourceView Value). view.stage)
        (source_seen l small begins)

    refused_seen : (l : ℕ) → l < length run.layout.links → (link_of run l).source ≡ Block b
        → refuses_over node.block.exits.ends l ≡ true → is_refused_stage (ends l).source.stage ≡ true
    refused_seen l small begins e =
        let at = some_tells (λ (end : OutEnd). end.rule.id == l && is_refused end.stage) node.block.exits.ends no_end e in
        let end = end_at node.block.exits at.place in
        let both = and_parts (end.rule.id == l) (is_refused end.stage) at.passes in
        let stands = end_out_is run.layout run.meaning b node.block law.shape at.place at.there in
        let place : place_of l ≡ at.place = ap place_of (sym (eqb-true end.rule.id l both.0)) ∙ stands.place in
        ap is_refused_stage
        (seen_out l small begins ∙ ap (λ (k : ℕ). source_stage_of (end_at node.block.exits k).stage) place)
        ∙ refused_told end.stage both.1

    passed_so : (before : List Mark) (value : Value) (l : ℕ) → l < length run.layout.links
        → is_passed own_run b before value l ≡ true → is_passed (as_seen run ends) b before value l ≡ true
    passed_so before value l small e =
        passed_by (begins_at b (link_of run l).source) (not (admits (link_of run l).when value))
        (not (is_steady run.layout.blocks (link_of run l).target)) (is_used_up (link_of run l).max (gave_over l before))
        (refuses_over node.block.exits.ends l) (is_refused_stage (ends l).source.stage)
        (λ begins. refused_seen l small (source_there b (link_of run l).source begins)) e

    order_so : (before marks : List Mark) → every (is_own_mark run b) marks ≡ true
        → gives_in_order own_run b before marks ≡ true → gives_in_order (as_seen run ends) b before marks ≡ true
    order_so before [] own e = refl
    order_so before (Gave link value ∷ marks) own e =
        let mine = and_parts (is_own_mark run b (Gave link value)) (every (is_own_mark run b) marks) own in
        let there = ltb-true link (length run.layout.links)
        (and_parts (ltb link (length run.layout.links)) (begins_at b (link_of run link).source) mine.0).0 in
        let both = and_parts (every (is_passed own_run b before value) (below link))
        (gives_in_order own_run b (before ++ Gave link value ∷ []) marks) e in
        and_from (every (is_passed (as_seen run ends) b before value) (below link))
        (gives_in_order (as_seen run ends) b (before ++ Gave link value ∷ []) marks)
        (every_weaker_below (is_passed own_run b before value) (is_passed (as_seen run ends) b before value) link
        (λ l less. passed_so before value l (omega (arith, there))) both.0)
        (order_so (before ++ Gave link value ∷ []) marks mine.1 both.1)
    order_so before (Took p l v ∷ marks) own e =
        order_so before marks (and_parts (is_own_mark run b (Took p l v)) (every (is_own_mark run b) marks) own).1 e
    order_so before (Complete p ∷ marks) own e =
        order_so before marks (and_parts (is_own_mark run b (Complete p)) (every (is_own_mark run b) marks) own).1 e
    order_so before (Fault n ∷ marks) own e = order_so before marks own e
    order_so before (Done ∷ marks) own e = order_so before marks own e

    pub order_shared : keeps_link_order (as_seen run ends) b ≡ true
    order_shared =
        or_right (not (is_one_taker (block_of run b).kind)) (gives_in_order (as_seen run ends) b [] (marks_of run b))
        (of_marks (λ marks. gives_in_order (as_seen run ends) b [] marks ≡ true)
        (order_so [] node.journal law.marks.own (law.gave shares).in_order))

    -- the end that speaks for the head is the one that the exits name
    is_offered : (l : ℕ) → l < length run.layout.links → (link_of run l).source ≡ Block b
        → is_spoken_for (ends l).source.stage ≡ true → node.block.exits.offer ≡ Some (place_of l)
    is_offered l small begins spoken =
        let has = from_has l small begins in
        let mine = law.exits.law.each (place_of l) has.there in
        OnTrue_at
        (spoken_for_told (end_from l).stage mine.offers (ap is_spoken_for (sym (seen_out l small begins)) ∙ spoken))
        mine.out

    pub one_so : SpeaksForOne run ends b
    one_so k l small smaller first second spoken heard =
        let one = is_offered k small first spoken in
        let other = is_offered l smaller second heard in
        let same : place_of k ≡ place_of l = cc in
        sym (ap (λ (rule : LinkRule). rule.id) (from_has k small first).rule_is)
        ∙ ap (λ (j : ℕ). (end_at node.block.exits j).rule.id) same
        ∙ ap (λ (rule : LinkRule). rule.id) (from_has l smaller second).rule_is

    pub source_shared : (l : ℕ) → l < length run.layout.links → (link_of run l).source ≡ Block b → SourceKeeps run ends l b
    source_shared l small begins =
        let view = source_seen l small begins in
        let has = from_has l small begins in
        let end = end_from l in
        let mine = (law.gave shares).each (place_of l) has.there in
        let stopped : (how : LinkEnd) → (ends l).source.stage ≡ views.SourceStage.ended how
        → end_of end node.block.stopped ≡ Some how =
        λ how e. (law.exits.law.each (place_of l) has.there).ended how
        (ended_stage end.stage how (sym (seen_out l small begins) ∙ e)) in
        let told = sym law.ends.stopped_is in
        record {
          from_start = ap (λ (v : views.SourceView Value). v.before) view;
          given = ap (λ (v : views.SourceView Value). v.given) view
              ∙ ap (λ (rule : LinkRule). gave_over rule.id node.journal) has.rule_is ∙ sym (ap (gave_over l) marks_are);
          admitted = of_marks (λ marks. every (admits (link_of run l).when) (gave_over l marks) ≡ true)
              (subst (λ (rule : LinkRule). every (admits rule.when) (gave_over rule.id node.journal) ≡ true) has.rule_is
              mine.admitted);
          after_done = λ e. of_marks (λ marks. is_done marks ≡ true)
              (done_marked node.journal
              (told ∙ ended_complete (is_end_cut end) end.rule.passes node.block.stopped (stopped link_end.Complete e)));
          after_fault = λ number e. of_marks (λ marks. has_fault number marks ≡ true)
              (fault_marked node.journal number
              (told ∙ ended_fault (is_end_cut end) end.rule.passes node.block.stopped number
              (stopped (link_end.Fault number) e)));
          after_plain = λ e. ⊎_elim
              (λ cut. or_one (is_cut run l) (is_done (marks_of run b)) (is_faulted (marks_of run b))
              (ap (λ (values : List Value). is_used_up (link_of run l).max values) (ap (given_by run l) begins)
              ∙ of_marks (λ marks. is_used_up (link_of run l).max (gave_over l marks) ≡ true)
              (subst (λ (rule : LinkRule). is_used_up rule.max (gave_over rule.id node.journal) ≡ true) has.rule_is
              (used_up_told end.rule.max end.given (gave_over end.rule.id node.journal) mine.counted cut))))
              (λ ended. or_others (is_cut run l) (is_done (marks_of run b)) (is_faulted (marks_of run b))
              (of_marks (λ marks. is_done marks || is_faulted marks ≡ true)
              (or_comm (is_done node.journal) (is_faulted node.journal)
              ∙ sym (stopped_tells node.journal) ∙ ap is_some told ∙ ended)))
              (ended_plain (is_end_cut end) end.rule.passes node.block.stopped (stopped link_end.Plain e));
        }
