-- Each call keeps in order what the marks tell of what was given.
use Rattle.std.proofs.Common.{◌≡◌, ℕ, ◌+◌, ◌==◌, ◌<◌, Bool, true, false, not, ◌&&◌, ◌||◌, cond, List, [], ◌∷◌, ◌++◌, length, set, Option, Some, None, is_some, Result, Ok, Err, refl, ap, sym, ◌∙◌, subst, inl, inr, arith, append-nil, append_assoc, length-append}
use Rattle.std.proofs.lemmas.Bool.{cases_lt, and_from, and_parts}
use Rattle.std.proofs.lemmas.List.{get_or_past}
use Rattle.flow_value.specs.When.{admits}
use Rattle.flow_value.specs.declared.value.Value.{Value}
use Rattle.flow_value.specs.declared.when.When.{When}
use Rattle.flow_link.specs.declared.draft.BlockKind.{BlockKind}
use Rattle.flow_link.specs.declared.draft.BlockKind.TheVariants.{Action}
use Rattle.flow_link.specs.declared.plan.Link.{Link}
use Rattle.flow_link.specs.declared.stage.SourceStage.{SourceStage}
use Rattle.flow_link.specs.declared.stage.SourceStage.TheVariants as source
use Rattle.flow_link.specs.declared.trace.Mark.{Mark}
use Rattle.flow_link.specs.declared.trace.Mark.TheVariants.{Took, Gave, Complete, Fault, Done}
use Rattle.flow_link.specs.declared.trace.Outcome.{Outcome}
use Rattle.flow_link.specs.JournalGrows.{given_by_mark}
use Rattle.flow_lawful.specs.Law.{is_passed, gives_in_order}
use Rattle.flow_link.specs.Layout.{Layout}
use Rattle.flow_link.specs.Lists.{every, below}
use Rattle.flow_link.specs.Plan.{begins_at, link_in, no_link, is_steady, is_one_taker}
use Rattle.flow_link.specs.Trace.{Run, gave, gave_over, is_used_up}
use Rattle.flow_link.proofs.JournalsGrow.{gave_more}
use Rattle.flow_link.proofs.ListTests.{every_below, every_weaker, and_weaker, or_weaker, never_both}
use Rattle.flow_link.proofs.OneMoreMark.{every_more, gave_by_gave}
use Rattle.flow_intake.specs.Calls.{first_of}
use Rattle.flow_outlet.specs.declared.ends.LinkRule.{LinkRule}
use Rattle.flow_outlet.specs.declared.ends.OutEnd.{OutEnd}
use Rattle.flow_outlet.specs.End.{no_end, counted, is_limit, is_waiting, is_free, rejects}
use Rattle.flow_outlet.specs.Law.{OutletLaw, is_refused, admits_head}
use Rattle.flow_outlet.specs.Outlet.{OutletState, head_of, end_at, stage_at, is_wanted, is_asked, is_wish, may_give, changes, given_end, gives}
use Rattle.flow_outlet.proofs.LawKept.{gives_in_order as outlet_gives_in_order}
use Rattle.flow_outlet.proofs.LookTells.{look_tells}
use Rattle.flow_outlet.proofs.OffersInOrder.{offers_in_order}
use Rattle.flow_outlet.proofs.OneEndChanges.{each_set}
use Rattle.flow_outlet.proofs.StagesTell.{number_same}
use Rattle.flow_block.specs.Copies.{copy_place}
use Rattle.flow_block.proofs.CopiesTaken.{taken_in_keeps}
use Rattle.flow_block_law.proofs.CopiesIdle.{no_copy_at}
use Rattle.flow_block.specs.Block.{BlockState, copies_next, made_of, keeps_results, yields, makes_of, held_by}
use Rattle.flow_block.specs.Node.{NodeState, NodeCall, hand_at, holds_in, gives_from}
use Rattle.flow_block_law.specs.NodeLaw.{NodeLaw, ShapeLaw, GaveLaw, GaveOver, refuses_over, run_seen_by}
use Rattle.flow_block_law.specs.NodeKeeps.{MayCall, after_call, GaveKept}
use Rattle.flow_block.specs.Planned.{is_out_of, rule_of, out_place, block_makes}
use Rattle.flow_block_law.proofs.EndsTell.{used_up_told}
use Rattle.flow_block_law.proofs.JournalTells.{gave_same, gave_here, passed_by}
use Rattle.flow_block_law.proofs.KindsBuilt.{makes_by, next_by}
use Rattle.flow_block_law.proofs.PlacesOfLinks.{end_out_of, shares_at, source_there, links_out_differ, earlier_out}
use Rattle.flow_block_law.proofs.ShapeHolds.{shape_kept}
use Rattle.flow_link.proofs.TestsTell.{some_where, some_set}

-- What the marks tell of an order

module _ {W : Type 0} (layout : Layout W) (meaning : ℕ → Value → Result (List Value) ℕ) (b : ℕ) (old new : List OutEnd)
    (grows : (l : ℕ) → refuses_over old l ≡ true → refuses_over new l ≡ true) where
  -- when more refusals are known, the order is as good
  order_still : (marks before : List Mark) → gives_in_order (run_seen_by layout meaning b old) b before marks ≡ true
      → gives_in_order (run_seen_by layout meaning b new) b before marks ≡ true
  order_still [] before e = refl
  order_still (Gave link value ∷ marks) before e =
      let run = run_seen_by layout meaning b old in
      let seen = run_seen_by layout meaning b new in
      let l' = before ++ Gave link value ∷ [] in
      and_weaker (every (is_passed run b before value) (below link)) (gives_in_order run b l' marks)
      (every (is_passed seen b before value) (below link)) (gives_in_order seen b l' marks)
      (every_weaker (is_passed run b before value) (is_passed seen b before value) (below link) (λ l.
      passed_by (begins_at b (link_in layout.links l).source) (not (admits (link_in layout.links l).when value))
      (not (is_steady layout.blocks (link_in layout.links l).target))
      (is_used_up (link_in layout.links l).max (gave_over l before))
      (refuses_over old l) (refuses_over new l) (λ begins. grows l)))
      (order_still marks l') e
  order_still (Took _ _ _ ∷ marks) before e = order_still marks before e
  order_still (Complete _ ∷ marks) before e = order_still marks before e
  order_still (Fault _ ∷ marks) before e = order_still marks before e
  order_still (Done ∷ marks) before e = order_still marks before e

one_more_over : (is : Bool) (value : Value) (first rest : List Value)
    → (first ++ cond is (value ∷ []) []) ++ rest ≡ first ++ cond is (value ∷ rest) rest
one_more_over true value first rest = append_assoc first (value ∷ []) rest
one_more_over false value first rest = ap (λ (values : List Value). values ++ rest) (append-nil first)

-- one more mark, at which all that was given before is known
module _ {W : Type 0} (run : Run W) (b : ℕ) (mark : Mark) where
  order_more : (marks before : List Mark) → gives_in_order run b before marks ≡ true
      → ((all : List Mark) → ((l : ℕ) → gave_over l all ≡ gave_over l before ++ gave_over l marks)
      → gives_in_order run b all (mark ∷ []) ≡ true)
      → gives_in_order run b before (marks ++ mark ∷ []) ≡ true
  order_more [] before e last = last before (λ l. sym (append-nil (gave_over l before)))
  order_more (Gave link value ∷ marks) before e last =
      let more = before ++ Gave link value ∷ [] in
      let passes = every (is_passed run b before value) (below link) in
      let both = and_parts passes (gives_in_order run b more marks) e in
      and_from passes (gives_in_order run b more (marks ++ mark ∷ [])) both.0
      (order_more marks more both.1 (λ all is. last all (λ l.
      is l ∙ ap (λ (values : List Value). values ++ gave_over l marks)
      (gave_more (λ n. n == l) before (Gave link value))
      ∙ one_more_over (link == l) value (gave_over l before) (gave_over l marks))))
  order_more (Took _ _ _ ∷ marks) before e last = order_more marks before e last
  order_more (Complete _ ∷ marks) before e last = order_more marks before e last
  order_more (Fault _ ∷ marks) before e last = order_more marks before e last
  order_more (Done ∷ marks) before e last = order_more marks before e last

-- One end and its marks

begins_there : (links : List Link) (b l : ℕ) → begins_at b (link_in links l).source ≡ true → l < length links
begins_there links b l e = elim (cases_lt l (length links)) [
  | inl low ↦ low
  | inr high ↦ let none : false ≡ true = sym (ap (λ (link : Link). begins_at b link.source)
      (get_or_past links l no_link high)) ∙ e in cc
]

-- an end where such a test passes is not refused
none_refused : (test : SourceStage → Bool) → test source.Refused ≡ false → (stage : SourceStage) (after : Bool)
    → test stage ≡ true → is_refused stage ≡ true → after ≡ true
none_refused test refused_not source.Refused after e refused = never_both (test source.Refused) e refused_not
none_refused test refused_not _ after e refused = cc

pub count_more : (max : Option ℕ) (given : ℕ) (values : List Value) (value : Value)
    → (is_some max ≡ true → given ≡ length values) → is_some max ≡ true
    → counted max given ≡ length (values ++ value ∷ [])
count_more None given values value is e = cc
count_more (Some max) given values value is e = omega (arith, is refl, length-append values (value ∷ []))

admits_where : (when : When) (head : Option Value) (value : Value) → head ≡ Some value → admits_head when head ≡ true
    → admits when value ≡ true
admits_where when head value is e = rw is at e

-- a message that may go past an end, as the run has it
past_as_told : (rule : LinkRule) (given : ℕ) (stage : SourceStage) (head : Option Value) (value : Value)
    (used refused : Bool) → head ≡ Some value
    → (is_limit rule.max given ≡ true → used ≡ true) → (is_refused stage ≡ true → refused ≡ true)
    → (rejects rule.when head || not rule.steady || is_limit rule.max given || is_refused stage) ≡ true
    → (not (admits rule.when value) || not rule.steady || used || refused) ≡ true
past_as_told rule given stage head value used refused is cut over e =
    let limit = is_limit rule.max given in
    let known : (not (admits rule.when value) || not rule.steady || limit || is_refused stage) ≡ true = rw is at e in
    let before = not (admits rule.when value) || not rule.steady in
    or_weaker (before || limit) (is_refused stage) (before || used) refused
    (or_weaker before limit before used (λ h. h) cut) over known

-- a message rightly goes past a link with this rule
abbrev goes_past : List OutEnd → List Mark → Value → LinkRule → Bool
goes_past ends journal value rule =
    not (admits rule.when value) || not rule.steady || is_used_up rule.max (gave_over rule.id journal)
    || refuses_over ends rule.id

passes_where : (begins admitted steady used refused : Bool)
    → (begins ≡ true → (not admitted || not steady || used || refused) ≡ true)
    → (not begins || not admitted || not steady || used || refused) ≡ true
passes_where true admitted steady used refused past = past refl
passes_where false admitted steady used refused past = refl

-- The law of what was given

module _ {W : Type 0} (layout : Layout W) (meaning : ℕ → Value → Result (List Value) ℕ) (b : ℕ) where
  -- a mark that gives nothing
  quiet_mark : (o : OutletState) (journal : List Mark) (mark : Mark)
      → ((test : ℕ → Bool) → given_by_mark test mark ≡ [])
      → ((all : List Mark) → gives_in_order (run_seen_by layout meaning b o.ends) b all (mark ∷ []) ≡ true)
      → GaveLaw layout meaning b o journal → GaveLaw layout meaning b o (journal ++ mark ∷ [])
  quiet_mark o journal mark nothing quiet law =
      let same = λ (test : ℕ → Bool). gave_same test journal mark (nothing test) in
      record {
        each = λ k here. record {
          admitted = rw (same (λ l. l == (end_at o k).rule.id)) (law.each k here).admitted;
          counted = λ limited. rw (same (λ l. l == (end_at o k).rule.id)) ((law.each k here).counted limited);
        };
        next_is = law.next_is ∙ ap (λ (values : List Value). 1 + length values) (sym (same (λ l. true)));
        in_order = order_more (run_seen_by layout meaning b o.ends) b mark journal [] law.in_order
            (λ all is. quiet all);
      }

  -- the end at a place comes to another stage
  end_moves : (o : OutletState) (journal : List Mark) (k declined : ℕ) (stage : SourceStage)
      (offer : Option ℕ) (renewing : Bool) (parcel : Option Value)
      → k < length o.ends → (is_refused (stage_at o k) ≡ true → is_refused stage ≡ true)
      → GaveLaw layout meaning b o journal
      → GaveLaw layout meaning b (record (changes k stage declined o) { offer = offer; renewing = renewing; parcel = parcel }) journal
  end_moves o journal k declined stage offer renewing parcel here refused law =
      let end = record (end_at o k) { declined = declined; stage = stage } in
      record {
        each = each_set (λ j e. GaveOver layout meaning b journal e) o.ends k end here
            (record { admitted = (law.each k here).admitted; counted = (law.each k here).counted })
            (λ j there other. law.each j there);
        next_is = law.next_is;
        in_order = order_still layout meaning b o.ends (set o.ends k end)
            (λ l. some_set (λ (e : OutEnd). e.rule.id == l && is_refused e.stage) o.ends k end no_end
            (and_weaker ((end_at o k).rule.id == l) (is_refused (stage_at o k)) ((end_at o k).rule.id == l)
            (is_refused stage) (λ same. same) refused))
            journal [] law.in_order;
      }

  -- the head is given over the end at a place
  module _ (block : BlockState) (shape : ShapeLaw layout meaning b block) (journal : List Mark)
      (law : GaveLaw layout meaning b block.exits journal) {pending : Bool} {stopped : Option Outcome}
      (outlet : OutletLaw pending stopped block.exits) (k : ℕ) (here : k < length block.exits.ends)
      (may : may_give k block.exits ≡ true)
      (value : Value) (head : head_of block.exits ≡ Some value) where
    abbrev o : OutletState
    o = block.exits

    -- each earlier link was rightly passed over
    past_at : (l : ℕ) → l < (end_at o k).rule.id → is_out_of layout b l ≡ true
        → goes_past o.ends journal value (rule_of layout l) ≡ true
    past_at l low out =
        let begins = source_there b (link_in layout.links l).source out in
        let has = end_out_of layout meaning b block shape (shares_at layout meaning b block shape k here) l (begins_there layout.links b l out) begins in
        let j = out_place layout b l in
        let end = end_at o j in
        let id : end.rule.id ≡ l = ap (λ (rule : LinkRule). rule.id) has.rule_is in
        let before = earlier_out layout meaning b block shape j k has.there here (omega (arith, id, low)) in
        subst (λ (rule : LinkRule). goes_past o.ends journal value rule ≡ true) has.rule_is
        (past_as_told end.rule end.given end.stage (head_of o) value
        (is_used_up end.rule.max (gave_over end.rule.id journal)) (refuses_over o.ends end.rule.id)
        head (used_up_told end.rule.max end.given (gave_over end.rule.id journal) (law.each j has.there).counted)
        (λ refused. some_where (λ (e : OutEnd). e.rule.id == end.rule.id && is_refused e.stage) o.ends no_end j
        has.there (and_from (end.rule.id == end.rule.id) (is_refused end.stage) (number_same end.rule.id) refused))
        (outlet_gives_in_order.earlier pending stopped o outlet k here may j before))

    past_all : (all : List Mark) → ((l : ℕ) → gave_over l all ≡ gave_over l journal) → (l : ℕ)
        → l < (end_at o k).rule.id
        → is_passed (run_seen_by layout meaning b o.ends) b all value l ≡ true
    past_all all same l low =
        passes_where (is_out_of layout b l) (admits (link_in layout.links l).when value)
        (is_steady layout.blocks (link_in layout.links l).target)
        (is_used_up (link_in layout.links l).max (gave_over l all)) (refuses_over o.ends l)
        (λ out. rw (same l) (past_at l low out))

    gives_keep : GaveLaw layout meaning b (record (gives k o) { room = 0 })
        (journal ++ Gave (end_at o k).rule.id value ∷ [])
    gives_keep =
        let end = end_at o k in
        let link = end.rule.id in
        let marks = journal ++ Gave link value ∷ [] in
        let run = run_seen_by layout meaning b o.ends in
        let given = given_end o.next end in
        let one_more : length (gave marks) ≡ length (gave journal) + 1 =
        ap (λ (values : List Value). length values) (gave_by_gave journal link value)
        ∙ length-append (gave journal) (value ∷ []) in
        let admitted = admits_where end.rule.when (head_of o) value head
        (outlet_gives_in_order.admitted pending stopped o outlet k here may) in
        record {
          each = each_set (λ j e. GaveOver layout meaning b marks e) o.ends k given here
              (record {
                admitted = rw (gave_here (λ n. n == link) journal link value (number_same link))
                    (every_more (admits end.rule.when) (gave_over link journal) value
                    (law.each k here).admitted admitted);
                counted = λ limited. rw (gave_here (λ n. n == link) journal link value (number_same link))
                    (count_more end.rule.max end.given (gave_over link journal) value
                    (law.each k here).counted limited);
              })
              (λ j there other. let differs = links_out_differ layout meaning b block shape j k there here other in
              let same = gave_same (λ n. n == (end_at o j).rule.id) journal (Gave link value)
              (ap (λ (is : Bool). cond is (value ∷ []) []) differs) in
              record {
                admitted = rw same (law.each j there).admitted;
                counted = λ limited. rw same ((law.each j there).counted limited);
              });
          next_is = omega (arith, one_more, law.next_is);
          in_order = order_still layout meaning b o.ends (set o.ends k given)
              (λ l. some_set (λ (e : OutEnd). e.rule.id == l && is_refused e.stage) o.ends k given no_end
              (and_weaker (link == l) (is_refused end.stage) (link == l) (is_refused given.stage) (λ same. same)
              (none_refused (is_wanted o.next (is_some o.offer)) refl end.stage (is_refused given.stage) may)))
              marks []
              (order_more run b (Gave link value) journal [] law.in_order
              (λ all is. and_from (every (is_passed run b all value) (below link)) true
              (every_below (is_passed run b all value) link (λ l low. past_all all is l low)) refl));
        }

  -- what it makes is given later
  results_keep : (block : BlockState) (journal : List Mark) (kind : BlockKind) (values : List Value)
      → GaveLaw layout meaning b block.exits journal
      → GaveLaw layout meaning b (keeps_results kind values block).exits journal
  results_keep block journal Action values law = law
  results_keep block journal _ [] law = law
  results_keep block journal _ (value ∷ values) law =
      record { each = law.each; next_is = law.next_is; in_order = law.in_order }

  result_keeps : (block : BlockState) (journal : List Mark) (made : Result (List Value) ℕ)
      → GaveLaw layout meaning b block.exits journal
      → GaveLaw layout meaning b (yields made block).exits journal
  result_keeps block journal (Ok values) law = results_keep block journal block.kind values law
  result_keeps block journal (Err number) law = law

  make_keeps : (block : BlockState) (journal : List Mark) (result : Value → Result (List Value) ℕ)
      (value : Option Value)
      → GaveLaw layout meaning b block.exits journal
      → GaveLaw layout meaning b (makes_of result value block).exits journal
  make_keeps block journal result None law = law
  make_keeps block journal result (Some value) law = result_keeps block journal (made_of block.kind result value) law

  law_of_copy : (first : Option Value) (block : BlockState) (journal : List Mark) → GaveLaw layout meaning b block.exits journal
      → GaveLaw layout meaning b (copies_next first block).exits journal
  law_of_copy None block journal law = law
  law_of_copy (Some value) block journal law = law

  closes_keep : (node : NodeState) (p k : ℕ) (hand : Option Value)
      → GaveLaw layout meaning b node.block.exits node.journal
      → GaveLaw layout meaning b (holds_in p k hand node).block.exits (holds_in p k hand node).journal
  closes_keep node p k None law = law
  closes_keep node p k (Some value) law =
      quiet_mark node.block.exits node.journal (Took p _ value) (λ test. refl) (λ all. refl) law

  gave_keeps : (node : NodeState) (k : ℕ) (head : Option Value) → NodeLaw layout meaning b node
      → GaveLaw layout meaning b node.block.exits node.journal → k < length node.block.exits.ends
      → may_give k node.block.exits ≡ true → head_of node.block.exits ≡ head
      → GaveLaw layout meaning b (gives_from k head node).block.exits (gives_from k head node).journal
  gave_keeps node k None law gave here may head = gave
  gave_keeps node k (Some value) law gave here may head =
      gives_keep node.block law.shape node.journal gave law.exits.law k here may value head

  gave_keep : (node : NodeState) (call : NodeCall) → NodeLaw layout meaning b node → MayCall layout meaning b call node
      → is_one_taker node.block.kind ≡ true → GaveLaw layout meaning b node.block.exits node.journal
      → GaveLaw layout meaning b (after_call layout meaning b call node).block.exits
      (after_call layout meaning b call node).journal
  gave_keep node (NodeCall.want p k) law may shares gave = gave
  gave_keep node (NodeCall.turn_down p k) law may shares gave = gave
  gave_keep node (NodeCall.postpone p k) law may shares gave = gave
  gave_keep node (NodeCall.refuse p k) law may shares gave = gave
  gave_keep node (NodeCall.consume p k) law may shares gave = gave
  gave_keep node (NodeCall.ask p k) law may shares gave = gave
  gave_keep node (NodeCall.claim p k) law may shares gave = gave
  gave_keep node (NodeCall.release p k) law may shares gave = gave
  gave_keep node (NodeCall.open_with p k value) law may shares gave = gave
  gave_keep node (NodeCall.close p k) law may shares gave =
      let held = holds_in p k (hand_at p k node) node in
      let kept = closes_keep node p k (hand_at p k node) gave in
      taken_in_keeps (λ new journal. GaveLaw layout meaning b new.exits journal) p k (hand_at p k node) node kept
      (λ at_once. law_of_copy (first_of (held_by held.block)) held.block held.journal kept)
  gave_keep node (NodeCall.offer k) law may shares gave =
      let o = node.block.exits in
      let next = (offers_in_order.named o k).0 may.next in
      end_moves o node.journal k _ _ _ _ _ next.there (none_refused is_free refl (stage_at o k) _ next.free) gave
  gave_keep node (NodeCall.give k) law may shares gave =
      gave_keeps node k (head_of node.block.exits) law gave may.place may.wanted refl
  gave_keep node (NodeCall.hold k) law may shares gave =
      let o = node.block.exits in
      let asked = (and_parts (is_asked o.next (stage_at o k)) (not (is_some o.offer)) may.asked).0 in
      end_moves o node.journal k _ _ _ _ _ may.place (none_refused (is_asked o.next) refl (stage_at o k) _ asked) gave
  gave_keep node (NodeCall.deny k) law may shares gave =
      let o = node.block.exits in
      end_moves o node.journal k _ _ _ _ _ may.place (none_refused is_wish refl (stage_at o k) _ may.stands) gave
  gave_keep node (NodeCall.withdraw k) law may shares gave =
      let o = node.block.exits in
      end_moves o node.journal k _ _ _ _ _ may.waits.place
      (none_refused is_waiting refl (stage_at o k) _ may.waits.stands) gave
  gave_keep node (NodeCall.end_link k how) law may shares gave =
      let o = node.block.exits in
      end_moves o node.journal k _ _ _ _ _ may.is_at_home.place
      (none_refused is_free refl (stage_at o k) _ may.is_at_home.stands) gave
  gave_keep node (NodeCall.look_in p k phase) law may shares gave = gave
  gave_keep node (NodeCall.look_out k phase) law may shares gave =
      let o = node.block.exits in
      end_moves o node.journal k _ _ _ _ _ may.place (look_tells (stage_at o k) phase).refused gave
  gave_keep node (NodeCall.copy call) law may shares gave = absurd (no_copy_at layout meaning b node law shares (copy_place call) may.place)
  gave_keep node NodeCall.begin law may shares gave = gave
  gave_keep node NodeCall.make law may shares gave =
      next_by (λ (new : NodeState). GaveLaw layout meaning b new.block.exits new.journal) (block_makes layout meaning b) node
      (λ batched. record { each = gave.each; next_is = gave.next_is; in_order = gave.in_order })
      (λ grouped.
      makes_by (λ new. GaveLaw layout meaning b new.exits node.journal) (block_makes layout meaning b) node.block
      (λ batch. record { each = gave.each; next_is = gave.next_is; in_order = gave.in_order })
      (λ join. record { each = gave.each; next_is = gave.next_is; in_order = gave.in_order })
      (λ broadcast. law_of_copy (first_of (held_by node.block)) node.block node.journal gave)
      (λ other alone single. make_keeps node.block node.journal (block_makes layout meaning b)
      (first_of (held_by node.block)) gave))
  gave_keep node (NodeCall.complete p) law may shares gave =
      quiet_mark node.block.exits node.journal (Complete p) (λ test. refl) (λ all. refl) gave
  gave_keep node (NodeCall.fault number) law may shares gave =
      quiet_mark node.block.exits node.journal (Fault number) (λ test. refl) (λ all. refl) gave
  gave_keep node NodeCall.finish law may shares gave =
      quiet_mark node.block.exits node.journal Done (λ test. refl) (λ all. refl) gave

pub gave_kept : (W : Type 0) → GaveKept W
gave_kept W layout meaning b node call law may shares =
    let after = shape_kept W layout meaning b node call law may in
    let before = ap is_one_taker (law.shape.kind_is ∙ sym after.kind_is) ∙ shares in
    gave_keep layout meaning b node call law may before (law.gave before)
