-- What the node of a block that copies knows is what the laws of a run say of a broadcast or write-once block.
use Rattle.std.proofs.Common.{◌≡◌, ℕ, suc, ◌+◌, ◌-◌, ◌<◌, ◌≤◌, ◌==◌, leb, cond, Bool, true, false, not, ◌&&◌, ◌||◌, List, [], ◌∷◌, ◌++◌, length, take, drop, Option, Some, None, is_some, refl, ap, ap₂, sym, subst, ◌∙◌, ⊎_elim, arith, append-nil, eq-eqb, eqb-true, le-leb, get_or}
use Rattle.std.proofs.Math.Bool.{or_comm}
use Rattle.std.proofs.Math.ListN.{get_or-map}
use Rattle.std.proofs.lemmas.Bool.{OnTrue_at, and_from, and_parts, or_left, or_right, false_from_ne_true}
use Rattle.flow_value.specs.When.{admits}
use Rattle.flow_value.specs.declared.value.Value.{Value}
use Rattle.flow_link.specs.declared.draft.BlockKind.{BlockKind}
use Rattle.flow_link.specs.declared.draft.BlockKind.TheVariants.{Broadcast, WriteOnce}
use Rattle.flow_link.specs.declared.phase.LinkEnd.{LinkEnd}
use Rattle.flow_link.specs.declared.phase.LinkEnd.TheVariants as link_end
use Rattle.flow_link.specs.declared.plan.LinkSource.TheVariants.{Block}
use Rattle.flow_link.specs.declared.trace.Mark.{Mark}
use Rattle.flow_link.specs.declared.trace.Outcome.{Outcome}
use Rattle.flow_link.specs.declared.trace.Outcome.TheVariants.{Done}
use Rattle.flow_lawful.specs.Composes.{Ends, SourceKeeps, as_seen, is_refused_stage}
use Rattle.flow_link.specs.Copies.{broadcasts, broadcasts_over, writes_once, gives_it_once, is_served, copies_as, carried_of}
use Rattle.flow_link.specs.Lists.{every, is_empty, is_front, is_subsequence, same_values, without_last}
use Rattle.flow_link.specs.Making.{worked, makes_as, load_as}
use Rattle.flow_link.specs.Plan.{is_one_taker, is_write_once, is_reserving, reserves_by_kind, begins_at, is_steady, is_sole}
use Rattle.flow_link.specs.Stage.{source_stage_of}
use Rattle.flow_link.specs.Trace.{BlockTrace, Run, took, gave_over, given_by, given_over, has_fault, is_done, is_faulted, is_cut, is_used_up, block_of, link_of, link_numbers, marks_of, held_at, left_at}
use Rattle.flow_link.specs.Views as views
use Rattle.flow_link.proofs.ListTests.{never_both, every_below, front_without, same_values_where, or_others, or_not}
use Rattle.flow_intake.specs.Port.{PortState, fresh_port}
use Rattle.flow_outlet.specs.declared.ends.LinkRule.{LinkRule}
use Rattle.flow_outlet.specs.declared.ends.OutEnd.{OutEnd}
use Rattle.flow_outlet.specs.End.{is_cut as is_end_cut}
use Rattle.flow_outlet.specs.History.{listed}
use Rattle.flow_outlet.specs.Law.{is_refused, admits_head}
use Rattle.flow_outlet.specs.Outlet.{end_of, first_of}
use Rattle.flow_spread.specs.declared.end.CopyEnd.{CopyEnd}
use Rattle.flow_spread.specs.Copied.{carried, LinkHas}
use Rattle.flow_spread.specs.End.{end_in, count_of, owes_it}
use Rattle.flow_spread.specs.Law.{SpreadLaw, speaks}
use Rattle.flow_spread.specs.Spread.{SpreadState, end_at, link_at, stage_at, left_of}
use Rattle.flow_spread.proofs.CountsOfEnds.{none_there}
use Rattle.flow_spread.proofs.LawKept.{law_tells, admits_some}
use Rattle.flow_spread.proofs.StagesTell.{or_second}
use Rattle.flow_block.specs.Block.{BlockState, port_at}
use Rattle.flow_block.specs.Copies.{copies_left}
use Rattle.flow_block_law.specs.CopiesSeen.{IsCopierOf, PutsAtOnce, CopierSeen, CopiersAreParts}
use Rattle.flow_block.specs.Node.{NodeState, left_in}
use Rattle.flow_block.specs.Planned.{rule_of, out_place}
use Rattle.flow_block_law.proofs.CopierHolds.{copies_lawful}
use Rattle.flow_block_law.proofs.CopiesCalled.{elements as put_elements, once_is, count_is, newest_is, at_most_one, has, HasCopyEnd, copy_end_of}
use Rattle.flow_block_law.proofs.CopiesTested.{part_passes, part_begins, carries_all_so, carries_first_so, served_so, only_one, newest_left_so}
use Rattle.flow_block_law.proofs.EndsTell.{ended_complete, ended_fault, ended_plain, used_up_told, refused_told}
use Rattle.flow_link.proofs.StagesKept.{ended_stage}
use Rattle.flow_block_law.proofs.JournalTells.{stopped_tells, done_marked, fault_marked}
use Rattle.flow_block_law.proofs.PlacesOfLinks.{source_there}

-- the kinds that copy
pub by_copier : (P : BlockKind → Type 0) → P Broadcast → P WriteOnce → (kind : BlockKind) → is_one_taker kind ≡ false → P kind
by_copier P broadcast once Broadcast e = broadcast
by_copier P broadcast once WriteOnce e = once
by_copier P broadcast once _ e = absurd (cc)

pub count_none : (test : CopyEnd → Bool) (ends : List CopyEnd) → ((k : ℕ) → k < length ends → test (end_in ends k) ≡ false)
    → count_of test ends ≡ 0
count_none test [] h = refl
count_none test (end ∷ ends) h =
    ap₂ (λ (b : Bool) (n : ℕ). cond b 1 0 + n) (h 0 (omega arith)) (count_none test ends (λ k small. h (suc k) (omega arith)))

left_counts : (nobody : Bool) (element : Option Value) → (nobody ≡ false → is_some element ≡ true)
    → length (listed (cond nobody None element)) ≡ cond nobody 0 1
left_counts true element there = refl
left_counts false (Some v) there = refl
left_counts false None there = never_both false (there refl) refl

kept_where : (nobody : Bool) (element : Option Value) → nobody ≡ false → is_some element ≡ true
    → not (is_empty (listed (cond nobody None element))) ≡ true
kept_where nobody None is there = absurd (cc)
kept_where nobody (Some v) is there = rw is refl

one_or : (a b c : Bool) → a ≡ true → (a || b || c) ≡ true
one_or a b c e = or_left (a || b) c (or_left a b e)

middle_of : (a b c : Bool) → a ≡ false → c ≡ false → (a || b || c) ≡ true → b ≡ true
middle_of true b c first third e = absurd (cc)
middle_of false true c first third e = refl
middle_of false false c first third e = never_both c e third

or_past : (a b c d : Bool) → (b || c || d) ≡ true → (a || b || c || d) ≡ true
or_past true b c d e = refl
or_past false b c d e = e

empty_is : (values : List Value) → is_empty values ≡ true → values ≡ []
empty_is [] e = refl
empty_is (v ∷ values) e = absurd (cc)

none_of : (values : List Value) → length values ≡ 0 → values ≡ []
none_of [] e = refl
none_of (v ∷ values) e = absurd (omega (arith, e))

nothing_listed : (nobody : Bool) → listed (cond nobody None None) ≡ []
nothing_listed true = refl
nothing_listed false = refl

no_cut_of : (max : Option ℕ) → is_used_up max [] ≡ false → is_used_up max [] ≡ true → ⊥
no_cut_of max carries used = never_both (is_used_up max []) used carries

module _ {W : Type 0} (run : Run W) (ends : ℕ → Ends) (b : ℕ) (node : NodeState) (part : IsCopierOf run ends b node) where
  abbrev pub block : BlockState
  block = node.block

  abbrev pub copies : SpreadState
  copies = node.block.copies

  abbrev pub elements : List Value
  elements = put_elements run.layout b node.block node.journal part.law

  abbrev pub seen : Run W
  seen = as_seen run ends

  abbrev pub kind : BlockKind
  kind = (block_of run b).kind

  pub law : SpreadLaw 1 part.law.pending node.block.stopped node.block.copies
  law = copies_lawful run.layout b node.block node.journal part.law

  pub copying : is_one_taker kind ≡ false
  copying = ap is_one_taker (sym part.kind_is) ∙ part.copying

  pub marks_are : marks_of run b ≡ node.journal
  marks_are = ap (λ (t : BlockTrace). t.journal) part.trace

  pub of_marks : (P : List Mark → Type 0) → P node.journal → P (marks_of run b)
  of_marks P h = subst P (sym marks_are) h

  pub held_is : (p : ℕ) → held_at run b p ≡ (port_at p node.block).waiting
  held_is p =
      ap (λ (t : BlockTrace). get_or t.held p []) part.trace
      ∙ get_or-map (λ (port : PortState). port.waiting) node.block.ports p (fresh_port None)

  left_in_is : left_in node.block ≡ listed (left_of node.block.copies)
  left_in_is = rw part.copying refl

  pub left_is : left_at run b ≡ listed (left_of node.block.copies)
  left_is = ap (λ (t : BlockTrace). t.left) part.trace ∙ left_in_is

  -- what it took
  took_is : took (marks_of run b) ≡ elements ++ held_at run b 0
  took_is =
      ap took marks_are ∙ part.law.took_is ∙ ap (λ (held : List Value). elements ++ held) (sym (held_is 0))

  worked_is : worked seen b ≡ elements
  worked_is =
      ap (λ (taken : List Value). take (length taken - length (held_at run b 0)) taken) took_is
      ∙ front_without elements (held_at run b 0)

  -- where somebody owes the element, there is one
  element_at : (element : Option Value) → node.block.copies.element ≡ element
      → (count_of owes_it node.block.copies.ends == 0) ≡ false
      → is_some node.block.copies.element ≡ true
  element_at (Some v) is e = ap is_some is
  element_at None is e =
      let s = node.block.copies in
      never_both (count_of owes_it s.ends == 0)
      (eq-eqb (count_of owes_it s.ends) 0 (count_none owes_it s.ends (λ k small. false_from_ne_true (end_at s k).owes (λ owes.
      let own = law.each k small in
      let link = link_at s k in
      never_both (is_some s.element)
      (admits_some link.rule.when s.element (OnTrue_at (or_second (speaks link.stage) (end_at s k).owes owes) own.admitted))
      (ap is_some is)))))
      e

  pub element_there : (count_of owes_it node.block.copies.ends == 0) ≡ false → is_some node.block.copies.element ≡ true
  element_there e = element_at node.block.copies.element refl e

  -- Its links out

  module _ (l : ℕ) (small : l < length run.layout.links) (begins : (link_of run l).source ≡ Block b) where
    abbrev pub at : ℕ
    at = out_place run.layout b l

    pub has_end : HasCopyEnd run.layout b node.block node.journal part.law l
    has_end = copy_end_of run.layout b node.block node.journal part.law l small begins

    pub stage_is : (ends l).source.stage ≡ source_stage_of (stage_at node.block.copies at)
    stage_is = ap (λ (view : views.SourceView Value). view.stage) (part.sources l small begins)

    pub given_is : gave_over (link_at node.block.copies at).rule.id node.journal ≡ given_over run l
    given_is =
        ap (λ (rule : LinkRule). gave_over rule.id node.journal) has_end.rule_is ∙ ap (gave_over l) (sym marks_are)
        ∙ ap (given_by run l) (sym begins)

    pub has_copies : LinkHas (given_over run l) elements at node.block.copies
    has_copies =
        subst (λ (given : List Value). LinkHas given elements at node.block.copies) given_is
        (has run.layout b node.block node.journal part.law at has_end.there)

    of_rule : (P : LinkRule → Type 0) → P (link_at node.block.copies at).rule → P (rule_of run.layout l)
    of_rule P h = subst P has_end.rule_is h

    refused_seen : is_refused (stage_at node.block.copies at) ≡ true → is_refused_stage (ends l).source.stage ≡ true
    refused_seen e = ap is_refused_stage stage_is ∙ refused_told (stage_at node.block.copies at) e

    owed : (end_at node.block.copies at).owes ≡ true
        → (not (is_empty (left_at run b)) ≡ true) × (is_some node.block.copies.element ≡ true)
    owed owes =
        let s = node.block.copies in
        let link = link_at s at in
        let own = law.each at has_end.there in
        let there : is_some s.element ≡ true =
        admits_some link.rule.when s.element (OnTrue_at (or_second (speaks link.stage) (end_at s at).owes owes) own.admitted) in
        let somebody : (count_of owes_it s.ends == 0) ≡ false =
        false_from_ne_true (count_of owes_it s.ends == 0) (λ none. never_both (end_at s at).owes owes
        (none_there owes_it s.ends at has_end.there (eqb-true (count_of owes_it s.ends) 0 none))) in (
          ap (λ (left : List Value). not (is_empty left)) left_is
              ∙ kept_where (count_of owes_it s.ends == 0) s.element somebody there,
          there,
        )

    abbrev Carries : List Value → Bool
    Carries all =
        is_subsequence (given_over seen l) all
        && (not (is_steady run.layout.blocks (link_of run l).target)
        || (same_values (given_over seen l) (carried_of (link_of run l) all)
        || (not (is_empty (left_at seen b)) && same_values (given_over seen l) (carried_of (link_of run l) (without_last all)))
        || (is_refused_stage (ends l).source.stage && is_front (given_over seen l) (carried_of (link_of run l) all))))
        && (not (is_sole run.layout.blocks run.layout.links (link_of run l).target)
        || (is_front (take 1 (carried_of (link_of run l) all)) (given_over seen l)
        || (not (is_empty (left_at seen b))
        && is_front (take 1 (carried_of (link_of run l) (without_last all))) (given_over seen l))
        || (is_refused_stage (ends l).source.stage && is_empty (given_over seen l))))

    carries : Carries elements ≡ true
    carries =
        let s = node.block.copies in
        let given = given_over run l in
        let link = link_at s at in
        let owes = (end_at s at).owes in
        let stays = not (is_empty (left_at run b)) in
        let told = is_refused_stage (ends l).source.stage in
        let c = has_copies in
        let steady = is_steady run.layout.blocks (link_of run l).target in
        let sole = is_sole run.layout.blocks run.layout.links (link_of run l).target in
        let all_so : steady ≡ true
        → (same_values given (carried_of (link_of run l) elements)
        || (stays && same_values given (carried_of (link_of run l) (without_last elements)))
        || (told && is_front given (carried_of (link_of run l) elements))) ≡ true =
        λ is.
        let always = ap (λ (rule : LinkRule). rule.steady) has_end.rule_is ∙ is in
        of_rule (λ rule. (same_values given (carried rule elements)
        || (stays && same_values given (carried rule (without_last elements)))
        || (told && is_front given (carried rule elements))) ≡ true)
        (carries_all_so link.rule given elements c.older s.element owes (is_refused link.stage) stays told c.newest owed
        refused_seen (c.all always) (c.front always)) in
        let first_so : sole ≡ true
        → (is_front (take 1 (carried_of (link_of run l) elements)) given
        || (stays && is_front (take 1 (carried_of (link_of run l) (without_last elements))) given)
        || (told && is_empty given)) ≡ true =
        λ is.
        let alone = ap (λ (rule : LinkRule). rule.sole) has_end.rule_is ∙ is in
        of_rule (λ rule. (is_front (take 1 (carried rule elements)) given
        || (stays && is_front (take 1 (carried rule (without_last elements))) given)
        || (told && is_empty given)) ≡ true)
        (carries_first_so link.rule given elements c.older s.element owes (is_refused link.stage) stays told c.newest owed
        refused_seen (c.first alone) (c.begun alone)) in
        and_from _ _ (and_from (is_subsequence given elements) _ (part_passes c.part) (or_not steady _ all_so))
        (or_not sole _ first_so)

  carries_over : (l : ℕ) → l < length run.layout.links → broadcasts_over seen b l ≡ true
  carries_over l small = by_source (begins_at b (link_of run l).source) refl
    where
      by_source : (is : Bool) → begins_at b (link_of run l).source ≡ is → broadcasts_over seen b l ≡ true
      by_source false is = rw is refl
      by_source true is =
          let begins = source_there b (link_of run l).source is in
          or_right (not (begins_at b (link_of run l).source)) _
          (subst (λ (all : List Value). Carries l small begins all ≡ true) (sym worked_is) (carries l small begins))

  broadcasts_so : broadcasts seen b ≡ true
  broadcasts_so =
      let s = node.block.copies in
      let newest = newest_is run.layout b node.block node.journal part.law in
      let all = worked seen b in
      let taken : took (marks_of run b) ≡ all ++ held_at run b 0 =
      took_is ∙ ap (λ (values : List Value). values ++ held_at run b 0) (sym worked_is) in
      let left_newest : (is_empty (left_at run b) || same_values (left_at run b) (drop (length all - 1) all)) ≡ true =
      ap₂ (λ (left values : List Value). is_empty left || same_values left (drop (length values - 1) values)) left_is worked_is
      ∙ newest_left_so elements newest.older s.element (count_of owes_it s.ends == 0) newest.newest element_there in
      and_from _ _ (and_from _ _ (same_values_where (took (marks_of run b)) (all ++ held_at run b 0) taken) left_newest)
      (every_below (broadcasts_over seen b) (length run.layout.links) carries_over)

  -- What takes one message in all

  module _ (once : is_write_once node.block.kind ≡ true) (well : PutsAtOnce run ends b node) where
    all_taken : took (marks_of run b) ≡ elements
    all_taken =
        took_is ∙ ap (λ (held : List Value). elements ++ held) (held_is 0 ∙ well.none_held) ∙ append-nil elements

    few : length elements ≤ 1
    few = at_most_one run.layout b node.block node.journal part.law once

    given_once : (l : ℕ) → l < length run.layout.links → gives_it_once seen b l ≡ true
    given_once l small = by_source (begins_at b (link_of run l).source) refl
      where
        by_source : (is : Bool) → begins_at b (link_of run l).source ≡ is → gives_it_once seen b l ≡ true
        by_source false is = rw is refl
        by_source true is =
            let begins = source_there b (link_of run l).source is in
            or_right (not (begins_at b (link_of run l).source)) _
            (subst (λ (taken : List Value). is_front (given_over run l) taken ≡ true) (sym all_taken)
            (part_begins (has_copies l small begins).part few))

    -- where nobody owes, each link that admits the element was given it, or refused
    module _ (v : Value) (is_it : node.block.copies.element ≡ Some v) (none : left_of node.block.copies ≡ None)
        (all_is : elements ≡ v ∷ []) (l : ℕ) (small : l < length run.layout.links)
        (begins : (link_of run l).source ≡ Block b) where
      abbrev link : OutEnd
      link = link_at node.block.copies (out_place run.layout b l)

      admitted_here : every (admits (link_of run l).when) (took (marks_of run b)) ≡ true
          → admits_head link.rule.when node.block.copies.element ≡ true
      admitted_here e =
          let both = and_parts (admits (link_of run l).when v) true
          (ap (λ (taken : List Value). every (admits (link_of run l).when) taken) (sym (all_taken ∙ all_is)) ∙ e) in
          ap (admits_head link.rule.when) is_it
          ∙ ap (λ (rule : LinkRule). admits rule.when v) (has_end l small begins).rule_is ∙ both.0

      none_given : is_empty (given_over run l) ≡ true → is_some (first_of (given_over run l)) ≡ false
      none_given e = by_given (given_over run l) e
        where
          by_given : (given : List Value) → is_empty given ≡ true → is_some (first_of given) ≡ false
          by_given [] is = refl
          by_given (w ∷ given) is = absurd (cc)

      went_not : is_empty (given_over run l) ≡ true → (link.last == node.block.copies.id) ≡ false
      went_not e = false_from_ne_true (link.last == node.block.copies.id) (λ same.
          let is = eqb-true link.last node.block.copies.id same in
          let since = law.some_since (ap is_some is_it) in
          let late : 1 ≤ link.last = omega (arith, is, since) in
          never_both (is_some (first_of (given_over run l))) ((has_copies l small begins).went late) (none_given e))

      cut_not : is_empty (given_over run l) ≡ true → is_end_cut link ≡ false
      cut_not e = false_from_ne_true (is_end_cut link) (λ cut.
          let own = part.law.each (out_place run.layout b l) (has_end l small begins).there in
          let used : is_used_up link.rule.max (gave_over link.rule.id node.journal) ≡ true =
          used_up_told link.rule.max link.given (gave_over link.rule.id node.journal) own.counted cut in
          let nothing : gave_over link.rule.id node.journal ≡ [] = given_is l small begins ∙ empty_is (given_over run l) e in
          no_cut_of (link_of run l).max (well.carries l small begins)
          (ap₂ is_used_up (ap (λ (rule : LinkRule). rule.max) (sym (has_end l small begins).rule_is)) (sym nothing) ∙ used))

      served_here : is_empty (given_over run l) ≡ true → every (admits (link_of run l).when) (took (marks_of run b)) ≡ true
          → is_refused_stage (ends l).source.stage ≡ true
      served_here nothing admitted =
          let served = law_tells.served_once 1 part.law.pending node.block.stopped node.block.copies law
          (out_place run.layout b l) (has_end l small begins).there
          (once_is run.layout b node.block node.journal part.law ∙ once) none (admitted_here admitted) in
          refused_seen l small begins
          (middle_of (link.last == node.block.copies.id) (is_refused link.stage) (is_end_cut link) (went_not nothing)
          (cut_not nothing) served)

    each_served : (v : Value) → node.block.copies.element ≡ Some v → left_of node.block.copies ≡ None → elements ≡ v ∷ []
        → (l : ℕ) → l < length run.layout.links → is_served seen b l ≡ true
    each_served v is_it none all_is l small = by_source (begins_at b (link_of run l).source) refl
      where
        by_source : (is : Bool) → begins_at b (link_of run l).source ≡ is → is_served seen b l ≡ true
        by_source false is = rw is refl
        by_source true is =
            let begins = source_there b (link_of run l).source is in
            or_past (not (begins_at b (link_of run l).source)) (not (is_empty (given_over seen l)))
            (not (every (admits (link_of run l).when) (took (marks_of run b)))) (is_refused_stage (ends l).source.stage)
            (served_so (given_over seen l) (every (admits (link_of run l).when) (took (marks_of run b)))
            (is_refused_stage (ends l).source.stage)
            (served_here v is_it none all_is l small begins))

    abbrev LeftWell : List Value → Type 0
    LeftWell left =
        (same_values left (took (marks_of run b)) || (is_empty left && every (is_served seen b) (link_numbers run))) ≡ true

    nothing_taken : node.block.copies.element ≡ None → elements ≡ []
    nothing_taken is =
        let none = law.none_yet is in
        let count : length elements ≡ 0 =
        omega (arith, none, count_is run.layout b node.block node.journal part.law) in
        none_of elements count

    left_well : (element : Option Value) (nobody : Bool) → node.block.copies.element ≡ element
        → (count_of owes_it node.block.copies.ends == 0) ≡ nobody → LeftWell (listed (cond nobody None element))
    left_well None nobody is nobody_is =
        or_left (same_values (listed (cond nobody None None)) (took (marks_of run b))) _
        (same_values_where (listed (cond nobody None None)) (took (marks_of run b))
        (nothing_listed nobody ∙ sym (all_taken ∙ nothing_taken is)))
    left_well (Some v) false is nobody_is =
        let newest = newest_is run.layout b node.block node.journal part.law in
        let here : newest.older ++ v ∷ [] ≡ elements =
        ap (λ (o : Option Value). newest.older ++ listed o) (sym is) ∙ newest.newest in
        or_left (same_values (v ∷ []) (took (marks_of run b))) _
        (same_values_where (v ∷ []) (took (marks_of run b)) (sym (all_taken ∙ only_one elements newest.older v here few)))
    left_well (Some v) true is nobody_is =
        let newest = newest_is run.layout b node.block node.journal part.law in
        let here : newest.older ++ v ∷ [] ≡ elements =
        ap (λ (o : Option Value). newest.older ++ listed o) (sym is) ∙ newest.newest in
        let none : left_of node.block.copies ≡ None = ap (λ (b : Bool). cond b None node.block.copies.element) nobody_is in
        or_right (same_values [] (took (marks_of run b))) _
        (every_below (is_served seen b) (length run.layout.links)
        (each_served v is none (only_one elements newest.older v here few)))

    writes_once_so : writes_once seen b ≡ true
    writes_once_so =
        let s = node.block.copies in
        let taken = took (marks_of run b) in
        let small : leb (length taken) 1 ≡ true =
        ap (λ (values : List Value). leb (length values) 1) all_taken ∙ le-leb (length elements) 1 few in
        let held : is_empty (held_at run b 0) ≡ true = ap is_empty (held_is 0 ∙ well.none_held) in
        let once_each = every_below (gives_it_once seen b) (length run.layout.links) given_once in
        let left : LeftWell (left_at run b) =
        subst LeftWell (sym left_is) (left_well s.element (count_of owes_it s.ends == 0) refl refl) in
        and_from _ _ (and_from _ _ (and_from _ _ small held) once_each) left

  copies_so : (is_write_once node.block.kind ≡ true → PutsAtOnce run ends b node) → copies_as seen b kind ≡ true
  copies_so well =
      by_copier (λ k. kind ≡ k → copies_as seen b k ≡ true) (λ is. broadcasts_so)
      (λ is.
      let once : is_write_once node.block.kind ≡ true = ap is_write_once (part.kind_is ∙ is) in
      writes_once_so once (well once))
      kind copying refl

  -- Its ends, its load, and what is left

  sources_so : (l : ℕ) → l < length run.layout.links → (link_of run l).source ≡ Block b → SourceKeeps run ends l b
  sources_so l small begins =
      let view = part.sources l small begins in
      let k = out_place run.layout b l in
      let has_it = has_end l small begins in
      let link = link_at node.block.copies k in
      let mine = part.law.each k has_it.there in
      let stopped : (how : LinkEnd) → (ends l).source.stage ≡ views.SourceStage.ended how
      → end_of link node.block.stopped ≡ Some how =
      λ how e. (law.each k has_it.there).ended how (ended_stage link.stage how (sym (stage_is l small begins) ∙ e)) in
      let told = sym part.stopped_is in
      record {
        from_start = ap (λ (v : views.SourceView Value). v.before) view;
        given = ap (λ (v : views.SourceView Value). v.given) view
            ∙ ap (λ (rule : LinkRule). gave_over rule.id node.journal) has_it.rule_is ∙ sym (ap (gave_over l) marks_are);
        admitted = of_marks (λ marks. every (admits (link_of run l).when) (gave_over l marks) ≡ true)
            (subst (λ (rule : LinkRule). every (admits rule.when) (gave_over rule.id node.journal) ≡ true) has_it.rule_is
            mine.admitted);
        after_done = λ e. of_marks (λ marks. is_done marks ≡ true)
            (done_marked node.journal
            (told ∙ ended_complete (is_end_cut link) link.rule.passes node.block.stopped (stopped link_end.Complete e)));
        after_fault = λ number e. of_marks (λ marks. has_fault number marks ≡ true)
            (fault_marked node.journal number
            (told ∙ ended_fault (is_end_cut link) link.rule.passes node.block.stopped number
            (stopped (link_end.Fault number) e)));
        after_plain = λ e. ⊎_elim
            (λ cut. one_or (is_cut run l) (is_done (marks_of run b)) (is_faulted (marks_of run b))
            (ap (λ (values : List Value). is_used_up (link_of run l).max values) (ap (given_by run l) begins)
            ∙ of_marks (λ marks. is_used_up (link_of run l).max (gave_over l marks) ≡ true)
            (subst (λ (rule : LinkRule). is_used_up rule.max (gave_over rule.id node.journal) ≡ true) has_it.rule_is
            (used_up_told link.rule.max link.given (gave_over link.rule.id node.journal) mine.counted cut))))
            (λ ended. or_others (is_cut run l) (is_done (marks_of run b)) (is_faulted (marks_of run b))
            (of_marks (λ marks. is_done marks || is_faulted marks ≡ true)
            (or_comm (is_done node.journal) (is_faulted node.journal)
            ∙ sym (stopped_tells node.journal) ∙ ap is_some told ∙ ended)))
            (ended_plain (is_end_cut link) link.rule.passes node.block.stopped (stopped link_end.Plain e));
      }

  pub left_counted : length (listed (left_of node.block.copies)) ≡ copies_left node.block.copies
  left_counted = left_counts (count_of owes_it node.block.copies.ends == 0) node.block.copies.element element_there

  pub load_so : (p : ℕ) → load_as run b kind p ≡ length (port_at p node.block).waiting + copies_left node.block.copies
  load_so p =
      let plain : length (held_at run b p) + length (left_at run b)
      ≡ length (port_at p node.block).waiting + copies_left node.block.copies =
      ap₂ (λ (held left : List Value). length held + length left) (held_is p) left_is
      ∙ ap (λ (n : ℕ). length (port_at p node.block).waiting + n) left_counted in
      by_copier (λ k. load_as run b k p ≡ length (port_at p node.block).waiting + copies_left node.block.copies) plain plain
      kind copying

  pub done_so : node.block.stopped ≡ Some Done → left_at run b ≡ []
  done_so is =
      let well : SpreadLaw 1 part.law.pending (Some Done) node.block.copies =
      subst (λ (stopped : Option Outcome). SpreadLaw 1 part.law.pending stopped node.block.copies) is law in
      left_is ∙ ap listed (law_tells.done 1 part.law.pending node.block.copies well)

  part_so : CopierSeen run ends b node
  part_so = record {
    copies = copies_so;
    makes = by_copier (λ k. makes_as run b k ≡ true) refl refl kind copying;
    sources = sources_so;
    order = or_left (not (is_one_taker kind)) _ (ap not copying);
    level = or_left (not (is_reserving (block_of run b))) _
        (by_copier (λ k. not (reserves_by_kind k (block_of run b).greedy) ≡ true) refl refl kind copying);
    load = load_so;
    left = ap length left_in_is ∙ left_counted;
    done = done_so;
  }

pub copiers_are_parts : (W : Type 0) → CopiersAreParts W
copiers_are_parts W run ends b node part = part_so run ends b node part
