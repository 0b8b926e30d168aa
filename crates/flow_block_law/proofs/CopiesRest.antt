-- A block that copies is still where no end of its links has a move, and rests where nothing is under way there.
use Rattle.std.proofs.Common.{◌≡◌, ℕ, suc, ◌+◌, ◌<◌, ◌≤◌, ◌==◌, ◌⊎◌, inl, inr, cond, Bool, true, false, not, ◌&&◌, ◌||◌, List, [], ◌∷◌, length, Option, Some, None, is_some, is_none, refl, ap, ap₂, sym, subst, ◌∙◌, ⊎_elim, arith, eq-eqb, eqb-true}
use Rattle.std.proofs.lemmas.Bool.{OnTrue_at, and_from, or_cases, or_left, or_right, false_from_ne_true}
use Rattle.flow_value.specs.When.{admits}
use Rattle.flow_value.specs.declared.value.Value.{Value}
use Rattle.flow_link.specs.declared.draft.BlockKind.{BlockKind}
use Rattle.flow_link.specs.declared.phase.LinkEnd.{LinkEnd}
use Rattle.flow_link.specs.declared.phase.Move.TheVariants as move
use Rattle.flow_link.specs.declared.plan.LinkSource.TheVariants.{Block}
use Rattle.flow_link.specs.declared.stage.SourceStage.{SourceStage}
use Rattle.flow_link.specs.declared.stage.SourceStage.TheVariants as source
use Rattle.flow_link.specs.declared.trace.Mark.{Mark}
use Rattle.flow_link.specs.declared.trace.Outcome.{Outcome}
use Rattle.flow_link.specs.declared.trace.Outcome.TheVariants.{Done, Faulted}
use Rattle.flow_lawful.specs.Composes.{Ends, is_done_with}
use Rattle.flow_link.specs.Layout.{Layout}
use Rattle.flow_link.specs.Lists.{is_empty as is_none_left}
use Rattle.flow_link.specs.Plan.{is_write_once, is_broadcast}
use Rattle.flow_lawful.specs.Quiet.{first_of as first_left, head_as, head_from, admits_head, has_served_all}
use Rattle.flow_lawful.specs.RestsByParts.{is_to_hand_over, is_wished_for, is_over as is_view_over}
use Rattle.flow_link.specs.Stage.{source_stage_of}
use Rattle.flow_link.specs.Trace.{Run, gave_over, given_over, is_faulted, is_done, is_used_up, is_cut as is_run_cut, block_of, link_of, marks_of, left_at}
use Rattle.flow_link.proofs.ListTests.{never_both}
use Rattle.flow_link.proofs.LinksLaidOut.{none_step}
use Rattle.flow_outlet.specs.declared.ends.LinkRule.{LinkRule}
use Rattle.flow_outlet.specs.declared.ends.OutEnd.{OutEnd}
use Rattle.flow_outlet.specs.End.{is_free, is_away, is_waiting, is_cut}
use Rattle.flow_outlet.specs.History.{listed}
use Rattle.flow_outlet.specs.Law.{is_refused, admits_head as admits_element}
use Rattle.flow_outlet.specs.Outlet.{is_empty, first_of, end_of}
use Rattle.flow_spread.specs.declared.end.CopyEnd.{CopyEnd}
use Rattle.flow_spread.specs.End.{end_in, is_busy, is_away_at, is_waiting_at, is_busy_at, count_of, owes_it}
use Rattle.flow_spread.specs.Law.{SpreadLaw, may_owe, speaks}
use Rattle.flow_spread.specs.Spread.{SpreadState, end_at, link_at, stage_at, left_of, is_spread_free, is_at_rest, only_waits, free_move, move_at}
use Rattle.flow_spread.proofs.StagesTell.{or_first}
use Rattle.flow_block.specs.Block.{held_by}
use Rattle.flow_block_law.specs.Copier.{Copier}
use Rattle.flow_block.specs.Copies.{copies_left, none_waits, may_put}
use Rattle.flow_block_law.specs.CopiesSeen.{IsCopierOf, NoCopyMoves, CopiesAtRest, CopierStill, CopierRests, CopiersAreStill, CopiersRest}
use Rattle.flow_block_law.specs.NextCopies.{next_copy}
use Rattle.flow_block.specs.Node.{NodeState}
use Rattle.flow_link.specs.Stage.{rests_out}
use Rattle.flow_block.specs.Peeks.{is_pending, would_copy, is_copy_held_up}
use Rattle.flow_block.specs.Planned.{rule_of, out_place}
use Rattle.flow_block_law.proofs.CopierHolds.{copies_lawful, none_left}
use Rattle.flow_block_law.proofs.CopiesCalled.{once_is}
use Rattle.flow_block_law.proofs.CopiesGoOn.{owing_goes, offers_so}
use Rattle.flow_block_law.proofs.CopiesSeen.{by_copier, count_none, law, copying, marks_are, of_marks, left_is, has_end, stage_is, given_is, has_copies, done_so}
use Rattle.flow_block_law.proofs.EndsAtRest.{rests_away, over_unless, not_cut, not_stopped}
use Rattle.flow_block_law.proofs.EndsTell.{limit_is, no_room_left}
use Rattle.flow_link.proofs.StagesKept.{free_back}
use Rattle.flow_block_law.proofs.JournalTells.{stopped_tells, faulted_marked}

-- What an end tells that has no move

hands_nothing_over : (s : SpreadState) (k : ℕ) (stopped : Option Outcome) (held_up : Bool) (stage : SourceStage)
    → move_at s k stopped held_up stage ≡ None → is_to_hand_over (source_stage_of stage) ≡ false
hands_nothing_over s k stopped held_up (source.Accepted i) e = absurd (cc)
hands_nothing_over s k stopped held_up (source.Claimed i) e = absurd (cc)
hands_nothing_over s k stopped held_up _ e = refl

wished_by_none : (s : SpreadState) (k : ℕ) (stopped : Option Outcome) (held_up : Bool) (stage : SourceStage)
    → move_at s k stopped held_up stage ≡ None → is_wished_for (source_stage_of stage) ≡ false
wished_by_none s k stopped held_up (source.Wished i) e = absurd (cc)
wished_by_none s k stopped held_up (source.AskedBy i) e = absurd (cc)
wished_by_none s k stopped held_up _ e = refl

waits_freely : (s : SpreadState) (k : ℕ) (stopped : Option Outcome) (held_up : Bool) (stage : SourceStage)
    → move_at s k stopped held_up stage ≡ None → is_waiting stage ≡ true → held_up ≡ false
waits_freely s k stopped held_up (source.Waiting i) e waits = (none_step held_up move.Withdraw None e).0
waits_freely s k stopped held_up _ e waits = absurd (cc)

free_stays : (s : SpreadState) (k : ℕ) (how : Option LinkEnd) → free_move s k how ≡ None → how ≡ None
free_stays s k (Some how) e = absurd (cc)
free_stays s k None e = refl

first_listed : (head : Option Value) → first_left (listed head) ≡ head
first_listed None = refl
first_listed (Some value) = refl

element_of : (nobody : Bool) (element : Option Value) (v : Value) → cond nobody None element ≡ Some v → element ≡ Some v
element_of true element v e = absurd (cc)
element_of false element v e = e

one_of_four : (a b c d : Bool) → (a ≡ true → ⊥) → (b ≡ true → ⊥) → (c ≡ true → ⊥) → (d ≡ true → ⊥) → (a || b || c || d) ≡ true → ⊥
one_of_four true b c d f g h i e = f refl
one_of_four false true c d f g h i e = g refl
one_of_four false false true d f g h i e = h refl
one_of_four false false false d f g h i e = i e

not_busy : (stage : SourceStage) → rests_out stage ≡ true → is_busy stage ≡ false
not_busy source.Free e = refl
not_busy (source.Waiting i) e = refl
not_busy source.Refused e = refl
not_busy (source.Ended how) e = refl
not_busy _ e = absurd (cc)

free_or_ended : (stage : SourceStage) → may_owe false stage ≡ true → rests_out stage ≡ true
    → (stage ≡ source.Free) ⊎ ((how : LinkEnd) × (stage ≡ source.Ended how))
free_or_ended source.Free owes e = inl refl
free_or_ended (source.Ended how) owes e = inr (how, refl)
free_or_ended (source.Waiting i) owes e = absurd (cc)
free_or_ended source.Refused owes e = absurd (cc)
free_or_ended _ owes e = absurd (cc)

away_if_waiting : (stage : SourceStage) → is_waiting stage ≡ true → is_away stage ≡ true
away_if_waiting (source.Waiting i) e = refl
away_if_waiting _ e = absurd (cc)

waiting_speaks : (stage : SourceStage) → is_waiting stage ≡ true → speaks stage ≡ true
waiting_speaks (source.Waiting i) e = refl
waiting_speaks _ e = absurd (cc)

count_same : (ends : List CopyEnd) → ((k : ℕ) → k < length ends → rests_out (end_in ends k).link.stage ≡ true)
    → count_of is_away_at ends ≡ count_of is_waiting_at ends
count_same [] rest = refl
count_same (end ∷ ends) rest =
    ap₂ (λ (b : Bool) (n : ℕ). cond b 1 0 + n) (rests_away end.link.stage (rest 0 (omega arith)))
    (count_same ends (λ k small. rest (suc k) (omega arith)))

-- What its node knows of itself

module _ {W : Type 0} (layout : Layout W) (b : ℕ) (node : NodeState) (c : Copier layout b node.block node.journal)
    (moves : (k : ℕ) → k < length node.block.copies.ends → next_copy k node ≡ None) where
  abbrev own_law : SpreadLaw 1 c.pending node.block.stopped node.block.copies
  own_law = copies_lawful layout b node.block node.journal c

  pub free_at : (k : ℕ) → k < length node.block.copies.ends → stage_at node.block.copies k ≡ source.Free
      → end_of (link_at node.block.copies k) node.block.stopped ≡ None
  free_at k here free =
      let s = node.block.copies in
      free_stays s k (end_of (link_at s k) node.block.stopped)
      (sym (ap (move_at s k node.block.stopped (is_copy_held_up node.block)) free) ∙ moves k here)

  pub never_offers : (k : ℕ) → k < length node.block.copies.ends → node.block.stopped ≡ None
      → (end_at node.block.copies k).owes ≡ true → stage_at node.block.copies k ≡ source.Free
      → (is_write_once node.block.kind ≡ true) × (is_pending node.block ≡ true)
  never_offers k here going owes free =
      ⊎_elim
      (λ offered. let never : None ≡ Some (move.Offer node.block.copies.id) = sym (moves k here) ∙ offered in absurd (cc))
      (λ late. late)
      (offers_so layout b node c k here going owes (ap is_free free))

  module _ (rest : (k : ℕ) → k < length node.block.copies.ends → rests_out (stage_at node.block.copies k) ≡ true) where
    all_wait_so : only_waits node.block.copies ≡ true
    all_wait_so =
        let ends = node.block.copies.ends in
        eq-eqb (count_of is_away_at ends) (count_of is_waiting_at ends) (count_same ends rest)

    none_waits_so : is_copy_held_up node.block ≡ true → count_of is_waiting_at node.block.copies.ends ≡ 0
    none_waits_so held_up =
        let s = node.block.copies in
        count_none is_waiting_at s.ends (λ k small. false_from_ne_true (is_waiting (stage_at s k)) (λ waits.
        never_both (is_copy_held_up node.block) held_up
        (waits_freely s k node.block.stopped (is_copy_held_up node.block) (stage_at s k) (moves k small) waits)))

    at_rest_so : is_copy_held_up node.block ≡ true → is_at_rest node.block.copies ≡ true
    at_rest_so held_up =
        let ends = node.block.copies.ends in
        eq-eqb (count_of is_away_at ends) 0 (count_same ends rest ∙ none_waits_so held_up)

    module _ (many : is_write_once node.block.kind ≡ false) (going : node.block.stopped ≡ None) where
      owes_not : (k : ℕ) → k < length node.block.copies.ends → (end_at node.block.copies k).owes ≡ false
      owes_not k here = false_from_ne_true (end_at node.block.copies k).owes (λ owes.
          let s = node.block.copies in
          let own = own_law.each k here in
          let may : may_owe false (stage_at s k) ≡ true =
          subst (λ (once : Bool). may_owe once (stage_at s k) ≡ true) (once_is layout b node.block node.journal c ∙ many)
          (OnTrue_at owes own.owing) in
          ⊎_elim
          (λ free. never_both (is_write_once node.block.kind) (never_offers k here going owes free).0 many)
          (λ over.
          let never : None ≡ Some over.0 = sym (owing_goes layout b node c k here going owes) ∙ own.ended over.0 over.1 in
          absurd (cc))
          (free_or_ended (stage_at s k) may (rest k here)))

      none_owe_so : count_of owes_it node.block.copies.ends ≡ 0
      none_owe_so = count_none owes_it node.block.copies.ends owes_not

      none_left_so : copies_left node.block.copies ≡ 0
      none_left_so = ap (λ (n : ℕ). cond (n == 0) 0 1) none_owe_so

      free_so : is_spread_free node.block.copies ≡ true
      free_so =
          let s = node.block.copies in
          let busy = count_none is_busy_at s.ends (λ k small. not_busy (stage_at s k) (rest k small)) in
          and_from (count_of owes_it s.ends == 0 && count_of is_busy_at s.ends == 0) (not (s.once && is_some s.element))
          (and_from (count_of owes_it s.ends == 0) (count_of is_busy_at s.ends == 0)
          (eq-eqb (count_of owes_it s.ends) 0 none_owe_so) (eq-eqb (count_of is_busy_at s.ends) 0 busy))
          (ap (λ (once : Bool). not (once && is_some s.element)) (once_is layout b node.block node.journal c ∙ many))

      puts_so : is_empty (held_by node.block) ≡ false → may_put node.block.copies ≡ true
      puts_so some =
          let s = node.block.copies in
          let would : would_copy node.block ≡ true =
          and_from (is_none node.block.stopped && not (is_empty (held_by node.block))) (is_spread_free s)
          (and_from (is_none node.block.stopped) (not (is_empty (held_by node.block))) (ap is_none going) (ap not some))
          free_so in
          let held_up : is_copy_held_up node.block ≡ true = or_left (would_copy node.block) _ would in
          and_from (is_spread_free s) (none_waits s) free_so
          (eq-eqb (count_of is_waiting_at s.ends) 0 (none_waits_so held_up))

-- As a part of a run

module _ {W : Type 0} (run : Run W) (ends : ℕ → Ends) (b : ℕ) (node : NodeState) (part : IsCopierOf run ends b node)
    (nothing : NoCopyMoves run ends b node) where
  still_so : CopierStill run ends b node
  still_so = record {
    gives = λ l small begins.
        let s = node.block.copies in
        let k = out_place run.layout b l in
        ap is_to_hand_over (stage_is run ends b node part l small begins)
        ∙ hands_nothing_over s k node.block.stopped (is_copy_held_up node.block) (stage_at s k)
        (nothing k (has_end run ends b node part l small begins).there);
    answers = λ l small begins.
        let s = node.block.copies in
        let k = out_place run.layout b l in
        ap is_wished_for (stage_is run ends b node part l small begins)
        ∙ wished_by_none s k node.block.stopped (is_copy_held_up node.block) (stage_at s k)
        (nothing k (has_end run ends b node part l small begins).there);
  }

  module _ (rest : CopiesAtRest run ends b node) where
    abbrev kind : BlockKind
    kind = (block_of run b).kind

    own : SpreadLaw 1 part.law.pending node.block.stopped node.block.copies
    own = law run ends b node part

    faulted_so : (n : ℕ) → node.block.stopped ≡ Some (Faulted n) → is_faulted (marks_of run b) ≡ true
    faulted_so n is =
        of_marks run ends b node part (λ marks. is_faulted marks ≡ true)
        (faulted_marked node.journal n (sym part.stopped_is ∙ is))

    module _ (l : ℕ) (small : l < length run.layout.links) (begins : (link_of run l).source ≡ Block b) where
      abbrev at : ℕ
      at = out_place run.layout b l

      abbrev link : OutEnd
      link = link_at node.block.copies (out_place run.layout b l)

      there : at < length node.block.copies.ends
      there = (has_end run ends b node part l small begins).there

      rule_is : link.rule ≡ rule_of run.layout l
      rule_is = (has_end run ends b node part l small begins).rule_is

      over_where : (link.stage ≡ source.Free → ⊥) → (is_waiting link.stage ≡ true → ⊥)
          → is_view_over (ends l).source.stage ≡ true
      over_where busy gone =
          ap is_view_over (stage_is run ends b node part l small begins) ∙ over_unless link.stage (rest at there) busy gone

      goes_on : link.stage ≡ source.Free → end_of link node.block.stopped ≡ None
      goes_on free = free_at run.layout b node part.law nothing at there free

      cut_here : is_run_cut run l ≡ true → is_cut link ≡ true
      cut_here e =
          limit_is link.rule.max link.given (gave_over link.rule.id node.journal) (part.law.each at there).counted
          (ap₂ is_used_up (ap (λ (rule : LinkRule). rule.max) rule_is) (given_is run ends b node part l small begins) ∙ e)

      over_cut : is_run_cut run l ≡ true → is_view_over (ends l).source.stage ≡ true
      over_cut e =
          let cut = cut_here e in
          over_where
          (λ free. never_both (is_cut link) cut (not_cut link node.block.stopped (goes_on free)))
          (λ waits.
          let room = OnTrue_at (or_first (speaks link.stage) (end_at node.block.copies at).owes (waiting_speaks link.stage waits))
          (own.each at there).room in
          no_room_left link.rule.max link.given cut room)

      over_stopped : is_some node.block.stopped ≡ true → is_view_over (ends l).source.stage ≡ true
      over_stopped e =
          over_where
          (λ free. never_both (is_some node.block.stopped) e (ap is_some (not_stopped link node.block.stopped (goes_on free))))
          (λ waits. never_both (is_away link.stage) (away_if_waiting link.stage waits) ((own.each at there).rests e))

      stopped_where : (is_faulted (marks_of run b) || is_done (marks_of run b)) ≡ true → is_some node.block.stopped ≡ true
      stopped_where e =
          ap is_some part.stopped_is ∙ stopped_tells node.journal
          ∙ ap (λ (marks : List Mark). is_faulted marks || is_done marks) (sym (marks_are run ends b node part)) ∙ e

      ended_so : is_done_with run ends l b ≡ true → is_view_over (ends l).source.stage ≡ true
      ended_so e =
          let f = is_faulted (marks_of run b) in
          let d = is_done (marks_of run b) in
          ⊎_elim
          (λ first.
          ⊎_elim over_cut
          (λ done. over_stopped (stopped_where (or_right f d done)))
          (or_cases (is_run_cut run l) d first))
          (λ faulted. over_stopped (stopped_where (or_left f d faulted)))
          (or_cases (is_run_cut run l || d) f e)

      -- the element of what takes one in all, while it is left, is offered over each link that has not had it
      module _ (calm : node.block.stopped ≡ None → is_pending node.block ≡ false) (free : link.stage ≡ source.Free)
          (once : is_write_once node.block.kind ≡ true) (none_given : given_over run l ≡ [])
          (carries : is_used_up (link_of run l).max [] ≡ false) where
        left_none_where : (stopped : Option Outcome) → node.block.stopped ≡ stopped → is_faulted (marks_of run b) ≡ false
            → (head : Option Value) → left_of node.block.copies ≡ head → admits_head run l head ≡ true → ⊥
        left_none_where (Some (Faulted n)) is going head left admitted =
            never_both (is_faulted (marks_of run b)) (faulted_so n is) going
        left_none_where (Some Done) is going None left admitted = cc
        left_none_where (Some Done) is going (Some v) left admitted =
            let nothing_left : listed (left_of node.block.copies) ≡ [] =
            sym (left_is run ends b node part) ∙ done_so run ends b node part is in
            let some_left : v ∷ [] ≡ [] = sym (ap listed left) ∙ nothing_left in
            cc
        left_none_where None is going None left admitted = cc
        left_none_where None is going (Some v) left admitted =
            let s = node.block.copies in
            let it : s.element ≡ Some v = element_of (count_of owes_it s.ends == 0) s.element v left in
            let here : admits_element link.rule.when s.element ≡ true =
            ap (admits_element link.rule.when) it ∙ ap (λ (rule : LinkRule). admits rule.when v) rule_is ∙ admitted in
            let mine = own.each at there in
            let single : s.once ≡ true = once_is run.layout b node.block node.journal part.law ∙ once in
            let given : gave_over link.rule.id node.journal ≡ [] = given_is run ends b node part l small begins ∙ none_given in
            one_of_four (end_at s at).owes (link.last == s.id) (is_refused link.stage) (is_cut link)
            (λ owes. never_both (is_pending node.block)
            (never_offers run.layout b node part.law nothing at there is owes free).1 (calm is))
            (λ same.
            let is_id = eqb-true link.last s.id same in
            let since = own.some_since (ap is_some it) in
            let late : 1 ≤ link.last = omega (arith, is_id, since) in
            never_both (is_some (first_of (given_over run l))) ((has_copies run ends b node part l small begins).went late)
            (ap (λ (values : List Value). is_some (first_of values)) none_given))
            (λ refused. never_both (is_refused link.stage) refused (ap is_refused free))
            (λ cut. never_both (is_cut link) cut (not_cut link node.block.stopped (goes_on free)))
            (mine.once_owes single here)

      -- no message would cross next over a link that is free
      module _ (calm : node.block.stopped ≡ None → is_pending node.block ≡ false)
          (carries : is_used_up (link_of run l).max [] ≡ false)
          (free : link.stage ≡ source.Free) where
        once_over : is_write_once node.block.kind ≡ true → is_faulted (marks_of run b) ≡ false → (given : List Value)
            → given_over run l ≡ given
            → admits_head run l (elim given [ [] ↦ first_left (left_at run b) | value ∷ values ↦ None ]) ≡ true → ⊥
        once_over once going (value ∷ values) is e = cc
        once_over once going [] is e =
            let left = left_of node.block.copies in
            left_none_where calm free once is carries node.block.stopped refl going left refl
            (ap (admits_head run l) (sym (ap first_left (left_is run ends b node part) ∙ first_listed left)) ∙ e)

        offered_by : (faulted : Bool) → is_faulted (marks_of run b) ≡ faulted
            → admits_head run l (head_as run b l faulted kind) ≡ true → ⊥
        offered_by true is e = cc
        offered_by false is e =
            by_copier (λ k. kind ≡ k → admits_head run l (head_as run b l false k) ≡ true → ⊥)
            (λ same head. never_both false head refl)
            (λ same head. once_over (ap is_write_once (part.kind_is ∙ same)) is (given_over run l) refl head)
            kind (copying run ends b node part) refl e

        offered_so : admits_head run l (head_from run l (Block b)) ≡ false
        offered_so =
            false_from_ne_true (admits_head run l (head_from run l (Block b))) (offered_by (is_faulted (marks_of run b)) refl)

    -- nothing is left of what copies each message over the last one, unless it faulted
    served_by : (stopped : Option Outcome) → node.block.stopped ≡ stopped → is_write_once node.block.kind ≡ false
        → (is_faulted (marks_of run b) || is_none_left (left_at run b)) ≡ true
    served_by None is many =
        or_right (is_faulted (marks_of run b)) (is_none_left (left_at run b))
        (ap is_none_left (left_is run ends b node part
        ∙ ap listed (none_left node.block.copies (none_left_so run.layout b node part.law nothing rest many is))))
    served_by (Some Done) is many =
        or_right (is_faulted (marks_of run b)) (is_none_left (left_at run b)) (ap is_none_left (done_so run ends b node part is))
    served_by (Some (Faulted n)) is many =
        or_left (is_faulted (marks_of run b)) (is_none_left (left_at run b)) (faulted_so n is)

    served_so : has_served_all run b ≡ true
    served_so =
        by_copier (λ k. kind ≡ k → (not (is_broadcast k) || is_faulted (marks_of run b) || is_none_left (left_at run b)) ≡ true)
        (λ same. served_by node.block.stopped refl (ap is_write_once (part.kind_is ∙ same)))
        (λ same. refl)
        kind (copying run ends b node part) refl

    rests_so : CopierRests run ends b node
    rests_so = record {
      only_waits = all_wait_so run.layout b node part.law nothing rest;
      at_rest = at_rest_so run.layout b node part.law nothing rest;
      none_left = none_left_so run.layout b node part.law nothing rest;
      may_put = puts_so run.layout b node part.law nothing rest;
      outlet = λ calm carries. record {
        ended = ended_so;
        offered = λ l small begins free.
            offered_so l small begins calm (carries l small begins)
            (free_back (stage_at node.block.copies (out_place run.layout b l))
            (sym (stage_is run ends b node part l small begins) ∙ free));
      };
      served = served_so;
    }

pub copiers_rest : (W : Type 0) → CopiersRest W
copiers_rest W run ends b node part nothing rest = rests_so run ends b node part nothing rest

pub copiers_are_still : (W : Type 0) → CopiersAreStill W
copiers_are_still W run ends b node part nothing = still_so run ends b node part nothing
