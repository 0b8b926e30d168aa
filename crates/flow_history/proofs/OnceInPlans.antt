-- A write-once block of a plan takes one message in all, over any calls.
use Rattle.std.proofs.Common.{◌≡◌, ℕ, suc, ◌+◌, ◌<◌, ◌≤◌, ◌^◌, ◌==◌, Bool, true, false, ◌&&◌, inl, inr, cond, is_some, List, [], ◌∷◌, ◌++◌, length, map, get_or, Option, Some, None, unwrap_or, refl, ap, sym, subst, ◌∙◌, arith, eq-eqb, eqb-true}
use Rattle.std.proofs.lemmas.Bool.{and_from}
use Rattle.std.proofs.lemmas.List as lists
use Rattle.flow_value.specs.declared.value.Value.{Value}
use Rattle.flow_link.specs.declared.draft.BlockDef.{BlockDef}
use Rattle.flow_link.specs.declared.draft.BlockKind.{BlockKind}
use Rattle.flow_link.specs.declared.draft.BlockKind.TheVariants as kinds
use Rattle.flow_link.specs.Layout.{Layout}
use Rattle.flow_link.specs.Plan.{block_in, is_reserving, is_write_once, reserves_by_kind}
use Rattle.flow_intake.specs.Port.{PortState, fresh_port, fresh_end as fresh_in}
use Rattle.flow_outlet.specs.History.{listed}
use Rattle.flow_outlet.specs.Outlet.{first_of}
use Rattle.flow_outlet.specs.declared.ends.LinkRule.{LinkRule}
use Rattle.flow_spread.specs.declared.end.CopyEnd.{CopyEnd}
use Rattle.flow_spread.specs.Copied.{LinkHas, IsPartOf, pick}
use Rattle.flow_spread.specs.End.{end_in, no_end, fresh_end, takes_up, count_of, owes_it, is_busy_at}
use Rattle.flow_spread.specs.Spread.{SpreadState, end_at, link_at, is_spread_free, puts, left_of}
use Rattle.flow_spread.proofs.CountsOfEnds.{none_counts, none_there}
use Rattle.flow_spread.proofs.LawKept.{each_fresh, end_mapped}
use Rattle.flow_block.specs.Block.{BlockState}
use Rattle.flow_block.specs.BlockFits.{fresh_block}
use Rattle.flow_block.specs.Copies.{fresh_copies}
use Rattle.flow_block.specs.Planned.{links_from, links_to, rule_of, lanes_of, size_of, room_of}
use Rattle.flow_link.proofs.PlacesNamed.{place_is}
use Rattle.flow_block_law.proofs.PlacesOfCopies.{rule_at_end, rule_at, copies_differ}
use Rattle.flow_history.specs.Calls.{Call, MayCallInOrder, Does, Fits, Step, AllDone, after_all}
use Rattle.flow_history.specs.Copied.{MayCallByRule, NamesItself, link_id}
use Rattle.flow_history.specs.History.{History, nothing_yet, took_at, given_over, came_by, made_by, gave_by, history_of}
use Rattle.flow_history.specs.Kept.{NothingCame, new_port}
use Rattle.flow_history.proofs.CopiesByRule.{copies_are_given}
use Rattle.flow_history.proofs.MessagesKept.{fresh_kept}
use Rattle.flow_history.proofs.NewPorts.{new_ports_took_nothing}
use Rattle.flow_block.specs.Planned.{planned_block}
use Rattle.flow_history.specs.WriteOnce.{MayCallInOrderByRule, WritesOnce, IsServed, IsToCome, CopiesOnce, WriteOnceTakesOne}
use Rattle.flow_history.proofs.LinksServed.{Cause, Settled, AllSettled, fresh_settled, all_settled}
use Rattle.flow_history.proofs.OnceByHand.{AllOnce, all_once, took_made, writes_once}
use Rattle.flow_block.proofs.PlannedBlocks.{ports_in, one_port}
use Rattle.flow_kinds.proofs.PlannedBlocks.{once_alone, one_room}

-- What is a part of one value, or of none

none_of : (part : List Value) → IsPartOf part [] → part ≡ []
none_of part is = by_choice is.chosen is.is
  where
    by_choice : (chosen : List Bool) → pick chosen [] ≡ part → part ≡ []
    by_choice [] e = sym e
    by_choice (true ∷ chosen) e = sym e
    by_choice (false ∷ chosen) e = sym e

one_of : (part : List Value) (value : Value) → IsPartOf part (value ∷ []) → is_some (first_of part) ≡ true → part ≡ value ∷ []
one_of part value is some = by_choice is.chosen is.one_each is.is
  where
    none_left : (chosen : List Bool) → pick chosen [] ≡ []
    none_left [] = refl
    none_left (true ∷ chosen) = refl
    none_left (false ∷ chosen) = refl

    by_choice : (chosen : List Bool) → length chosen ≡ 1 → pick chosen (value ∷ []) ≡ part → part ≡ value ∷ []
    by_choice [] count e = absurd (cc)
    by_choice (true ∷ chosen) count e = sym e ∙ ap (λ (rest : List Value). value ∷ rest) (none_left chosen)
    by_choice (false ∷ chosen) count e =
        let nothing : is_some (first_of part) ≡ false = ap (λ (values : List Value). is_some (first_of values)) (sym e ∙ none_left chosen) in
        absurd (cc)

none_older : (older : List Value) (value : Value) → older ++ value ∷ [] ≡ value ∷ [] → older ≡ []
none_older [] value e = refl
none_older (first ∷ older) value e =
    let counts = ap length e in
    let sum = lists.length-append older (value ∷ []) in
    absurd (omega (arith, counts, sum))

some_listed : (element : Option Value) (value : Value) → listed element ≡ value ∷ [] → element ≡ Some value
some_listed None value e = absurd (cc)
some_listed (Some v) value e = let same : v ≡ value = cc in ap Some same

-- Which links owe

-- an end that owes, with its place
record Owing (ends : List CopyEnd) : Type 0 where
  pub k : ℕ
  pub near : k < length ends
  pub owes : (end_in ends k).owes ≡ true

some_owes : (ends : List CopyEnd) → (count_of owes_it ends == 0) ≡ false → Owing ends
some_owes [] e = absurd (cc)
some_owes (end ∷ ends) e = by_first end.owes refl (some_owes ends)
  where
    by_first : (owes : Bool) → end.owes ≡ owes → ((count_of owes_it ends == 0) ≡ false → Owing ends) → Owing (end ∷ ends)
    by_first true is later = record { k = 0; near = omega arith; owes = is }
    by_first false is later =
        let rest : ◌≡◌ {A = ℕ} (cond end.owes 1 0 + count_of owes_it ends) (0 + count_of owes_it ends) =
        ap (λ (b : Bool). cond {A = ℕ} b 1 0 + count_of owes_it ends) is in
        let same : count_of owes_it (end ∷ ends) ≡ count_of owes_it ends = omega (arith, rest) in
        let found = later (sym (ap (λ (n : ℕ). n == 0) same) ∙ e) in
        record { k = suc found.k; near = (let l = found.near in omega (arith, l)); owes = found.owes }

-- From a block that was just made

module _ (lanes size : ℕ) (links : List ℕ) (rules : List LinkRule) where
  abbrev port : PortState
  port = new_port (Some 1, links)

  abbrev block : BlockState
  block = fresh_block kinds.WriteOnce lanes size (port ∷ []) rules

  abbrev first : SpreadState
  first = fresh_copies kinds.WriteOnce rules

  begins : NothingCame (port ∷ [])
  begins = new_ports_took_nothing.each ((Some 1, links) ∷ [])

  fits : Fits block
  fits = record { room = (omega arith, tt); few = omega arith }

  start : AllOnce first nothing_yet block
  start = record {
    kept = fresh_kept kinds.WriteOnce lanes size (port ∷ []) rules begins true (λ e. absurd (cc))
        (λ e. record { once = refl; alone = refl; room = refl });
    once = record { still = λ e. refl; holds = refl; made = refl };
  }

  free : is_spread_free first ≡ true
  free =
      let owes = none_counts owes_it rules (λ rule. refl) in
      let busy = none_counts is_busy_at rules (λ rule. refl) in
      and_from (count_of owes_it first.ends == 0 && count_of is_busy_at first.ends == 0) true
      (and_from (count_of owes_it first.ends == 0) (count_of is_busy_at first.ends == 0)
      (eq-eqb (count_of owes_it first.ends) 0 owes) (eq-eqb (count_of is_busy_at first.ends) 0 busy)) refl

  ids : first.id + 1 < 2 ^ 59
  ids = omega arith

  starts : (value : Value) → AllSettled (length rules) (puts value first)
  starts value = record {
    each = λ v some k near.
        let same : value ≡ v = cc in
        let here : k < length first.ends = (let count = lists.length-map first.ends (takes_up value) in omega (arith, near, count)) in
        subst (λ (w : Value). Settled w (first.id + 1) (end_at (puts value first) k)) same
        (subst (Settled value (first.id + 1)) (sym (end_mapped value first.ends k here))
        (each_fresh rules (λ end. Settled value (first.id + 1) (takes_up value end)) (λ rule. fresh_settled value (first.id + 1) rule) k here));
    begun = λ v some. omega arith;
    links = lists.length-map first.ends (takes_up value) ∙ lists.length-map rules fresh_end;
  }

  module _ (steps : List (Step Call BlockState)) where
    abbrev history : History
    history = history_of came_by made_by gave_by steps block nothing_yet

    abbrev left : BlockState
    left = after_all steps block

    module _ (done : AllDone Fits MayCallInOrder Does steps block) where
      once_after : AllOnce first history left
      once_after = all_once first free ids steps block nothing_yet fits done start

      pub fresh_writes : WritesOnce (took_at history 0) left
      fresh_writes = writes_once first history left once_after

      settled_after : AllSettled (length rules) left.copies
      settled_after =
          all_settled (length rules) first free ids starts steps block nothing_yet fits done start record {
            each = λ value some. absurd (cc);
            begun = λ value some. absurd (cc);
            links = lists.length-map rules fresh_end;
          }

    -- such calls are made in order, and are answered by rule
    in_order : (steps : List (Step Call BlockState)) (old : BlockState) → AllDone Fits MayCallInOrderByRule Does steps old
        → AllDone Fits MayCallInOrder Does steps old
    in_order [] old done = tt
    in_order (step ∷ steps) old done = (done.0.0, (done.1.0, (done.1.1.0, in_order steps step.left done.1.1.1)))

    by_rule : (steps : List (Step Call BlockState)) (old : BlockState) → AllDone Fits MayCallInOrderByRule Does steps old
        → AllDone Fits MayCallByRule Does steps old
    by_rule [] old done = tt
    by_rule (step ∷ steps) old done = ((done.0.0.0, done.0.1), (done.1.0, (done.1.1.0, by_rule steps step.left done.1.1.1)))

    -- the links that the ends name, by their places
    module _ (outs : List ℕ) (count : length outs ≡ length rules) (named : (k : ℕ) → k < length rules → NamesItself first k)
        (outs_are : (k : ℕ) → k < length rules → link_id first k ≡ get_or outs k 0)
        (done : AllDone Fits MayCallInOrderByRule Does steps block) (value : Value) (took : took_at history 0 ≡ value ∷ []) where
      plain : AllDone Fits MayCallInOrder Does steps block
      plain = in_order steps block done

      made : history.made ≡ value ∷ []
      made = sym (took_made first history left (once_after plain)) ∙ took

      element : left.copies.element ≡ Some value
      element = some_listed left.copies.element value ((once_after plain).once.made ∙ made)

      abbrev given : ℕ → List Value
      given k = given_over (get_or outs k 0) history.gave

      has : (k : ℕ) → k < length rules → LinkHas (given k) (value ∷ []) k left.copies
      has k near =
          subst (λ (values : List Value). LinkHas (given k) values k left.copies) made
          (subst (λ (link : ℕ). LinkHas (given_over link history.gave) history.made k left.copies) (outs_are k near)
          (copies_are_given.by_rule kinds.WriteOnce lanes size (port ∷ []) rules refl steps (by_rule steps block done) k near (named k near)))

      owes_none : left_of left.copies ≡ None → (k : ℕ) → k < length rules → (end_at left.copies k).owes ≡ false
      owes_none none k near =
          let there : k < length left.copies.ends = (let links = (settled_after plain).links in omega (arith, near, links)) in
          none_there owes_it left.copies.ends k there
          (eqb-true (count_of owes_it left.copies.ends) 0 (nobody (count_of owes_it left.copies.ends == 0) refl))
        where
          nobody : (so : Bool) → (count_of owes_it left.copies.ends == 0) ≡ so → (count_of owes_it left.copies.ends == 0) ≡ true
          nobody true is = is
          nobody false is =
              let some : left_of left.copies ≡ Some value = ap (λ (b : Bool). cond b None left.copies.element) is ∙ element in
              absurd (cc)

      served : (k : ℕ) → k < length rules → (end_at left.copies k).owes ≡ false → IsServed value (given k) (link_at left.copies k)
      served k near owes =
          let there : k < length left.copies.ends = (let links = (settled_after plain).links in omega (arith, near, links)) in
          of_cause (((settled_after plain).each value element k there).cause)
        where
          of_cause : Cause value left.copies.id (end_at left.copies k) → IsServed value (given k) (link_at left.copies k)
          of_cause (Cause.is_owed e) = absurd (cc)
          of_cause (Cause.was_given e) =
              let begun = (settled_after plain).begun value element in
              let last : 1 ≤ (link_at left.copies k).last = omega (arith, begun, e) in
              inl (one_of (given k) value (has k near).part ((has k near).went last))
          of_cause (Cause.has_refused e) = inr (inr (inl e))
          of_cause (Cause.is_rejected e) = inr (inl e)
          of_cause (Cause.is_full e) = inr (inr (inr e))

      to_come : left_of left.copies ≡ Some value
          → (k : ℕ) × ((k < length rules) × IsToCome value (given k) (link_at left.copies k))
      to_come some =
          let found = some_owes left.copies.ends (somebody (count_of owes_it left.copies.ends == 0) refl) in
          let near : found.k < length rules = (let links = (settled_after plain).links in let l = found.near in omega (arith, l, links)) in
          let older : (has found.k near).older ≡ [] =
          none_older (has found.k near).older value
          (sym (ap (λ (e : Option Value). (has found.k near).older ++ listed e) element) ∙ (has found.k near).newest) in (
            found.k,
            (
              near,
              record {
                none_yet = none_of (given found.k) (subst (IsPartOf (given found.k)) older ((has found.k near).owed found.owes));
                admitted = ((settled_after plain).each value element found.k found.near).admitted found.owes;
              },
            ),
          )
        where
          somebody : (so : Bool) → (count_of owes_it left.copies.ends == 0) ≡ so → (count_of owes_it left.copies.ends == 0) ≡ false
          somebody false is = is
          somebody true is =
              let none : left_of left.copies ≡ None = ap (λ (b : Bool). cond b None left.copies.element) is in
              absurd (cc)

      pub fresh_copied : CopiesOnce outs history left.copies value
      fresh_copied = record {
        served = λ none k near. let here : k < length rules = omega (arith, near, count) in served k here (owes_none none k here);
        to_come = λ some. let found = to_come some in (found.0, ((let near = found.1.0 in omega (arith, near, count)), found.1.1));
      }

-- From a block of a plan

module _ {W : Type 0} (layout : Layout W) (b : ℕ) where
  abbrev out_rules : List LinkRule
  out_rules = map (rule_of layout) (links_from layout b)

  abbrev fresh : BlockState
  fresh = fresh_block kinds.WriteOnce (lanes_of layout b) (size_of layout b) (new_port (Some 1, links_to layout b 0) ∷ []) out_rules

  module _ (once : (block_in layout.blocks b).kind ≡ kinds.WriteOnce) where
    abbrev def : BlockDef W
    def = block_in layout.blocks b

    is_once : is_write_once def.kind ≡ true
    is_once = ap is_write_once once

    takes_freely : is_reserving def ≡ false
    takes_freely = ap (λ (kind : BlockKind). reserves_by_kind kind def.greedy) once

    planned_fresh : planned_block layout b ≡ fresh
    planned_fresh =
        ap (λ (count : ℕ). fresh_block def.kind (lanes_of layout b) (size_of layout b) (ports_in layout b count) out_rules)
        (one_port layout b (once_alone def.kind is_once))
        ∙ ap (λ (reserves : Bool). fresh_block def.kind (lanes_of layout b) (size_of layout b)
        (record (fresh_port (room_of def)) { reserves = reserves; ends = map fresh_in (links_to layout b 0) } ∷ []) out_rules) takes_freely
        ∙ ap (λ (capacity : Option ℕ). fresh_block def.kind (lanes_of layout b) (size_of layout b)
        (record (fresh_port capacity) { ends = map fresh_in (links_to layout b 0) } ∷ []) out_rules)
        (one_room def.kind def.capacity is_once)
        ∙ ap (λ (kind : BlockKind). fresh_block kind (lanes_of layout b) (size_of layout b)
        (new_port (Some 1, links_to layout b 0) ∷ []) out_rules) once

    pub planned_writes : (steps : List (Step Call BlockState)) → AllDone Fits MayCallInOrder Does steps (planned_block layout b)
        → WritesOnce (took_at (history_of came_by made_by gave_by steps (planned_block layout b) nothing_yet) 0) (after_all steps (planned_block layout b))
    planned_writes steps =
        subst (λ (from : BlockState). AllDone Fits MayCallInOrder Does steps from
        → WritesOnce (took_at (history_of came_by made_by gave_by steps from nothing_yet) 0) (after_all steps from))
        (sym planned_fresh)
        (λ done. fresh_writes (lanes_of layout b) (size_of layout b) (links_to layout b 0) out_rules steps done)

  -- Each end of it is the one that its link names

  abbrev copies : SpreadState
  copies = fresh_copies kinds.WriteOnce out_rules

  rules_are : (rules : List LinkRule) → map rule_at_end (map fresh_end rules) ≡ rules
  rules_are [] = refl
  rules_are (rule ∷ rules) = ap (λ (rest : List LinkRule). rule ∷ rest) (rules_are rules)

  count_rules : length (links_from layout b) ≡ length out_rules
  count_rules = sym (lists.length-map (links_from layout b) (rule_of layout))

  outs_are : (k : ℕ) → k < length out_rules → link_id copies k ≡ get_or (links_from layout b) k 0
  outs_are k near =
      ap (λ (rule : LinkRule). rule.id)
      (rule_at layout b copies (rules_are out_rules) k (let count = count_rules in omega (arith, near, count)))

  named : (k : ℕ) → k < length out_rules → NamesItself copies k
  named k near =
      let there : k < length copies.ends = (let count = lists.length-map out_rules fresh_end in omega (arith, near, count)) in
      let test = λ (end : CopyEnd). end.link.rule.id == link_id copies k in
      ap (λ (place : Option ℕ). unwrap_or place (length copies.ends))
      (place_is test copies.ends k no_end there
      (λ j before.
      copies_differ layout b copies (rules_are out_rules) k j there (omega (arith, before, there)) (λ same. omega (arith, before, same)))
      (eq-eqb (link_id copies k) (link_id copies k) refl))

  pub planned_copies : (block_in layout.blocks b).kind ≡ kinds.WriteOnce → (steps : List (Step Call BlockState))
      → AllDone Fits MayCallInOrderByRule Does steps (planned_block layout b) → (value : Value)
      → took_at (history_of came_by made_by gave_by steps (planned_block layout b) nothing_yet) 0 ≡ value ∷ []
      → CopiesOnce (links_from layout b) (history_of came_by made_by gave_by steps (planned_block layout b) nothing_yet)
      (after_all steps (planned_block layout b)).copies value
  planned_copies once steps =
      subst (λ (from : BlockState). AllDone Fits MayCallInOrderByRule Does steps from → (value : Value)
      → took_at (history_of came_by made_by gave_by steps from nothing_yet) 0 ≡ value ∷ []
      → CopiesOnce (links_from layout b) (history_of came_by made_by gave_by steps from nothing_yet) (after_all steps from).copies value)
      (sym (planned_fresh once))
      (λ done value took.
      fresh_copied (lanes_of layout b) (size_of layout b) (links_to layout b 0) out_rules steps (links_from layout b) count_rules named outs_are
      done value took)

pub takes_one : (W : Type 0) → WriteOnceTakesOne W
takes_one W = record {
  each = λ layout b once steps done. planned_writes layout b once steps done;
  copies = λ layout b once steps done value took. planned_copies layout b once steps done value took;
}
