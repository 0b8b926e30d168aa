-- Where each part of a network keeps its own laws, what is copied and what is passed over is so: a refusal that was seen is one.
use Rattle.std.proofs.Common.{◌≡◌, ℕ, ◌<◌, true, ◌&&◌, ◌||◌, not, leb, ltb, List, [], ◌∷◌, ◌++◌, length, take, refl, ap, ◌∙◌, arith, ltb-true}
use Rattle.std.proofs.lemmas.Bool.{and_parts}
use Rattle.flow_value.specs.declared.value.Value.{Value}
use Rattle.flow_value.specs.When.{admits}
use Rattle.flow_link.specs.declared.draft.BlockKind.{BlockKind}
use Rattle.flow_link.specs.declared.draft.BlockKind.TheVariants.{Buffer, Broadcast, WriteOnce, Action, Transform, TransformMany, Batch, Join, BatchedJoin}
use Rattle.flow_link.specs.declared.trace.Mark.{Mark}
use Rattle.flow_link.specs.declared.trace.Mark.TheVariants.{Took, Gave, Complete, Fault, Done}
use Rattle.flow_link.specs.Lists.{every, is_empty, below, is_front, is_subsequence, same_values, without_last}
use Rattle.flow_link.specs.Plan.{begins_at, is_steady, is_sole, is_one_taker}
use Rattle.flow_link.specs.Trace.{Run, took, gave_over, is_used_up, block_of, link_of, link_numbers, marks_of, held_at, left_at, given_over, is_refused}
use Rattle.flow_lawful.specs.Law.{LinkOrder, is_own_mark, is_passed, gives_in_order, keeps_link_order}
use Rattle.flow_link.specs.Copies.{Copies, copies, copies_as, elements, newest_left, owes, carries_all, carries_first, carried_of, broadcasts_over, is_served, gives_it_once}
use Rattle.flow_lawful.specs.Composes.{Ends, PartsKeep, as_seen, is_refused_phase}
use Rattle.flow_link.proofs.ListTests.{every_below, every_weaker_below, or_weaker, and_weaker}
use Rattle.flow_lawful.proofs.EndingsByParts.{refusal, refused_stage}

module _ {W : Type 0} (run : Run W) (ends : ℕ → Ends) (keep : PartsKeep run ends) where
  -- what a source has seen refused is refused
  seen_so : (l : ℕ) → l < length run.layout.links → is_refused (as_seen run ends) l ≡ true → is_refused run l ≡ true
  seen_so l small e =
      keep.refused l ∙ ap is_refused_phase ((refusal run ends keep l small).seen (refused_stage (ends l).source.stage e))

  carries_all_so : (b l : ℕ) → l < length run.layout.links → carries_all (as_seen run ends) b l ≡ true → carries_all run b l ≡ true
  carries_all_so b l small e =
      let whole = same_values (given_over run l) (carried_of (link_of run l) (elements run b)) in
      let but_newest = owes run b && same_values (given_over run l) (carried_of (link_of run l) (without_last (elements run b))) in
      let front = is_front (given_over run l) (carried_of (link_of run l) (elements run b)) in
      or_weaker (whole || but_newest) (is_refused (as_seen run ends) l && front) (whole || but_newest) (is_refused run l && front)
      (λ e. e)
      (and_weaker (is_refused (as_seen run ends) l) front (is_refused run l) front (seen_so l small) (λ e. e))
      e

  carries_first_so : (b l : ℕ) → l < length run.layout.links → carries_first (as_seen run ends) b l ≡ true → carries_first run b l ≡ true
  carries_first_so b l small e =
      let whole = is_front (take 1 (carried_of (link_of run l) (elements run b))) (given_over run l) in
      let but_newest = owes run b && is_front (take 1 (carried_of (link_of run l) (without_last (elements run b)))) (given_over run l) in
      let none = is_empty (given_over run l) in
      or_weaker (whole || but_newest) (is_refused (as_seen run ends) l && none) (whole || but_newest) (is_refused run l && none)
      (λ e. e)
      (and_weaker (is_refused (as_seen run ends) l) none (is_refused run l) none (seen_so l small) (λ e. e))
      e

  broadcasts_so : (b l : ℕ) → l < length run.layout.links → broadcasts_over (as_seen run ends) b l ≡ true → broadcasts_over run b l ≡ true
  broadcasts_so b l small e =
      let other = not (begins_at b (link_of run l).source) in
      let sub = is_subsequence (given_over run l) (elements run b) in
      let unsteady = not (is_steady run.layout.blocks (link_of run l).target) in
      let shared = not (is_sole run.layout.blocks run.layout.links (link_of run l).target) in
      or_weaker
      other (sub && (unsteady || carries_all (as_seen run ends) b l) && (shared || carries_first (as_seen run ends) b l))
      other (sub && (unsteady || carries_all run b l) && (shared || carries_first run b l))
      (λ e. e)
      (and_weaker
      (sub && (unsteady || carries_all (as_seen run ends) b l)) (shared || carries_first (as_seen run ends) b l)
      (sub && (unsteady || carries_all run b l)) (shared || carries_first run b l)
      (and_weaker sub (unsteady || carries_all (as_seen run ends) b l) sub (unsteady || carries_all run b l)
      (λ e. e)
      (or_weaker unsteady (carries_all (as_seen run ends) b l) unsteady (carries_all run b l) (λ e. e) (carries_all_so b l small)))
      (or_weaker shared (carries_first (as_seen run ends) b l) shared (carries_first run b l) (λ e. e) (carries_first_so b l small)))
      e

  served_so : (b l : ℕ) → l < length run.layout.links → is_served (as_seen run ends) b l ≡ true → is_served run b l ≡ true
  served_so b l small e =
      let other = not (begins_at b (link_of run l).source)
      || not (is_empty (given_over run l))
      || not (every (admits (link_of run l).when) (took (marks_of run b))) in
      or_weaker other (is_refused (as_seen run ends) l) other (is_refused run l) (λ e. e) (seen_so l small) e

  copies_so : (b : ℕ) (kind : BlockKind) → copies_as (as_seen run ends) b kind ≡ true → copies_as run b kind ≡ true
  copies_so b Broadcast e =
      let apart = same_values (took (marks_of run b)) (elements run b ++ held_at run b 0) && newest_left run b in
      and_weaker apart (every (broadcasts_over (as_seen run ends) b) (link_numbers run)) apart (every (broadcasts_over run b) (link_numbers run))
      (λ e. e)
      (every_weaker_below (broadcasts_over (as_seen run ends) b) (broadcasts_over run b) (length run.layout.links) (broadcasts_so b))
      e
  copies_so b WriteOnce e =
      let one = leb (length (took (marks_of run b))) 1 && is_empty (held_at run b 0) && every (gives_it_once run b) (link_numbers run) in
      let kept = same_values (left_at run b) (took (marks_of run b)) in
      let gone = is_empty (left_at run b) in
      and_weaker
      one (kept || (gone && every (is_served (as_seen run ends) b) (link_numbers run)))
      one (kept || (gone && every (is_served run b) (link_numbers run)))
      (λ e. e)
      (or_weaker
      kept (gone && every (is_served (as_seen run ends) b) (link_numbers run))
      kept (gone && every (is_served run b) (link_numbers run))
      (λ e. e)
      (and_weaker
      gone (every (is_served (as_seen run ends) b) (link_numbers run))
      gone (every (is_served run b) (link_numbers run))
      (λ e. e)
      (every_weaker_below (is_served (as_seen run ends) b) (is_served run b) (length run.layout.links) (served_so b))))
      e
  copies_so b Buffer e = refl
  copies_so b Action e = refl
  copies_so b Transform e = refl
  copies_so b TransformMany e = refl
  copies_so b Batch e = refl
  copies_so b Join e = refl
  copies_so b BatchedJoin e = refl

  pub copies_keep : Copies run
  copies_keep = record {
    each_block = every_below (copies run) (length run.layout.blocks)
        (λ b small. copies_so b (block_of run b).kind (keep.nodes b small).copies_seen);
  }

  passed_so : (b : ℕ) (before : List Mark) (value : Value) (l : ℕ) → l < length run.layout.links
      → is_passed (as_seen run ends) b before value l ≡ true → is_passed run b before value l ≡ true
  passed_so b before value l small e =
      let other = not (begins_at b (link_of run l).source)
      || not (admits (link_of run l).when value)
      || not (is_steady run.layout.blocks (link_of run l).target)
      || is_used_up (link_of run l).max (gave_over l before) in
      or_weaker other (is_refused (as_seen run ends) l) other (is_refused run l) (λ e. e) (seen_so l small) e

  order_so : (b : ℕ) (before marks : List Mark) → every (is_own_mark run b) marks ≡ true
      → gives_in_order (as_seen run ends) b before marks ≡ true → gives_in_order run b before marks ≡ true
  order_so b before [] own e = refl
  order_so b before (Gave link value ∷ marks) own e =
      let mine = and_parts (is_own_mark run b (Gave link value)) (every (is_own_mark run b) marks) own in
      let known = and_parts (ltb link (length run.layout.links)) (begins_at b (link_of run link).source) mine.0 in
      let small : link < length run.layout.links = ltb-true link (length run.layout.links) known.0 in
      and_weaker
      (every (is_passed (as_seen run ends) b before value) (below link)) (gives_in_order (as_seen run ends) b (before ++ Gave link value ∷ []) marks)
      (every (is_passed run b before value) (below link)) (gives_in_order run b (before ++ Gave link value ∷ []) marks)
      (every_weaker_below (is_passed (as_seen run ends) b before value) (is_passed run b before value) link
      (λ k less. passed_so b before value k (omega arith)))
      (order_so b (before ++ Gave link value ∷ []) marks mine.1)
      e
  order_so b before (Took port link value ∷ marks) own e =
      order_so b before marks (and_parts (is_own_mark run b (Took port link value)) (every (is_own_mark run b) marks) own).1 e
  order_so b before (Complete port ∷ marks) own e =
      order_so b before marks (and_parts (is_own_mark run b (Complete port)) (every (is_own_mark run b) marks) own).1 e
  order_so b before (Fault number ∷ marks) own e = order_so b before marks own e
  order_so b before (Done ∷ marks) own e = order_so b before marks own e

  pub order_keeps : LinkOrder run
  order_keeps = record {
    each_block = every_below (keeps_link_order run) (length run.layout.blocks)
        (λ b small. or_weaker
        (not (is_one_taker (block_of run b).kind)) (gives_in_order (as_seen run ends) b [] (marks_of run b))
        (not (is_one_taker (block_of run b).kind)) (gives_in_order run b [] (marks_of run b))
        (λ e. e)
        (order_so b [] (marks_of run b) (keep.nodes b small).own_marks)
        (keep.nodes b small).order_seen);
  }
