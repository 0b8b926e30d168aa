-- Where each part of a network keeps its own laws, what crosses is in order, and each block makes what its kind makes.
use Rattle.std.proofs.Common.{◌≡◌, ℕ, ◌+◌, ◌<◌, ⊎_elim, true, leb, List, [], ◌∷◌, ◌++◌, length, Option, Some, None, refl, ap, sym, subst, ◌∙◌, arith, le-leb}
use Rattle.std.proofs.lemmas.Bool.{and_from}
use Rattle.std.proofs.lemmas.List.{length-append}
use Rattle.flow_value.specs.When.{admits}
use Rattle.flow_value.specs.declared.value.Value.{Value}
use Rattle.flow_link.specs.declared.draft.BlockKind.{BlockKind}
use Rattle.flow_link.specs.declared.draft.BlockKind.TheVariants.{Buffer, Broadcast, WriteOnce, Action, Transform, TransformMany, Batch, Join, BatchedJoin}
use Rattle.flow_link.specs.declared.plan.LinkSource.{LinkSource}
use Rattle.flow_link.specs.declared.plan.LinkSource.TheVariants.{Block, Input}
use Rattle.flow_link.specs.declared.plan.LinkTarget.{LinkTarget}
use Rattle.flow_link.specs.declared.plan.LinkTarget.TheVariants.{Port, Exit}
use Rattle.flow_link.specs.LinkOk.{IsWithin}
use Rattle.flow_link.specs.Told.{IsTakenOrUnderWay}
use Rattle.flow_link.specs.Lists.{every, is_empty, concat, same_values, is_front}
use Rattle.flow_link.specs.Trace.{Run, took, gave_over, block_of, link_of, trace_of, marks_of, held_at, left_at, given_by, given_over, taken_by, taken_over, input_of}
use Rattle.flow_link.specs.Making.{Making, makes, makes_as, results_of, block_result, is_made, outputs, worked, work_makes}
use Rattle.flow_lawful.specs.Law.{LinkLaw, OneTaker, is_all_or_all_but_one, is_within, crosses, crosses_between, gives_admitted, gives_within, posted_before, takes_posted, has_own_marks}
use Rattle.flow_lawful.specs.Composes.{Ends, SourceKeeps, TargetKeeps, WorksInto, NodeMakes, PartsKeep, facts_of}
use Rattle.flow_link.proofs.LinksTell.{links_tell}
use Rattle.flow_link.proofs.ListTests.{every_below, same_values_where, front_append, front_refl, front_of_front, front_without}

-- all but one is a front that is shorter by one
pub all_or_all_but_one : (given taken : List Value) → IsTakenOrUnderWay given taken → is_all_or_all_but_one given taken ≡ true
all_or_all_but_one given taken how =
    ⊎_elim
    (λ e. let P : List Value → Type 0 = λ all. is_all_or_all_but_one all taken ≡ true in
    subst P (sym e) (and_from (is_front taken taken) (leb (length taken) (length taken + 1)) (front_refl taken) (le-leb (length taken) (length taken + 1) (omega arith))))
    (λ one. let P : List Value → Type 0 = λ all. is_all_or_all_but_one all taken ≡ true in
    subst P (sym one.1)
    (and_from (is_front taken (taken ++ one.0 ∷ [])) (leb (length (taken ++ one.0 ∷ [])) (length taken + 1))
    (front_append taken (one.0 ∷ []))
    (le-leb (length (taken ++ one.0 ∷ [])) (length taken + 1) (omega (arith, length-append taken (one.0 ∷ []))))))
    how

-- what was taken begins what was given
pub taken_is_front : (given taken posted : List Value) → IsTakenOrUnderWay given taken → is_front given posted ≡ true → is_front taken posted ≡ true
taken_is_front given taken posted how front =
    ⊎_elim
    (λ e. let P : List Value → Type 0 = λ all. is_front all posted ≡ true in subst P e front)
    (λ one. let P : List Value → Type 0 = λ all. is_front all posted ≡ true in
    front_of_front taken (one.0 ∷ []) posted (subst P one.1 front))
    how

pub within_test : (max : Option ℕ) (values : List Value) → IsWithin max (length values) → is_within max values ≡ true
within_test None values h = refl
within_test (Some max) values h = le-leb (length values) max h

within_none : (max : Option ℕ) → IsWithin max 0
within_none None = tt
within_none (Some max) = omega arith

-- the count from the start is the number of values
within_from_start : (max : Option ℕ) (before : ℕ) (given values : List Value) → before ≡ 0 → given ≡ values → IsWithin max (before + length given) → is_within max values ≡ true
within_from_start max before given values start same h =
    let count : before + length given ≡ length values = rw (start, same) (omega arith) in
    let P : ℕ → Type 0 = λ n. IsWithin max n in
    within_test max values (subst P count h)

module _ {W : Type 0} (run : Run W) (ends : ℕ → Ends) (keep : PartsKeep run ends) where
  pub source_keeps : (l b : ℕ) → l < length run.layout.links → (link_of run l).source ≡ Block b → SourceKeeps run ends l b
  source_keeps l b small e = (keep.nodes b (keep.from_blocks l b small e)).sources l small e

  pub target_keeps : (l b p : ℕ) → l < length run.layout.links → (link_of run l).target ≡ Port b p → TargetKeeps run ends l b p
  target_keeps l b p small e = (keep.nodes b (keep.to_blocks l b p small e)).targets l p small e

  -- the accounts of a link's ends are those of the journals
  pub given_is : (l b : ℕ) → l < length run.layout.links → (link_of run l).source ≡ Block b → (ends l).source.given ≡ given_over run l
  given_is l b small e = (source_keeps l b small e).given ∙ sym (ap (λ s. given_by run l s) e)

  pub taken_is : (l b p : ℕ) → l < length run.layout.links → (link_of run l).target ≡ Port b p → (ends l).target.taken ≡ taken_over run l
  taken_is l b p small e = (target_keeps l b p small e).taken ∙ sym (ap (λ t. taken_by run l t) e)

  crossed_so : (l : ℕ) → l < length run.layout.links → IsTakenOrUnderWay (ends l).source.given (ends l).target.taken
  crossed_so l small =
      (links_tell Value).link_law (facts_of run ends l) (ends l).phase (ends l).slot (ends l).source (ends l).target (keep.links l small)

  crosses_at : (l : ℕ) (s : LinkSource) (t : LinkTarget) → l < length run.layout.links
      → (link_of run l).source ≡ s → (link_of run l).target ≡ t → crosses_between run l s t ≡ true
  crosses_at l (Block b) (Port c p) small es et =
      let P : List Value → Type 0 = λ given. IsTakenOrUnderWay given (ends l).target.taken in
      let Q : List Value → Type 0 = λ taken. IsTakenOrUnderWay (given_over run l) taken in
      all_or_all_but_one (given_over run l) (taken_over run l)
      (subst Q (taken_is l c p small et) (subst P (given_is l b small es) (crossed_so l small)))
  crosses_at l (Block b) Exit small es et = refl
  crosses_at l (Input b) t small es et = refl

  admitted_by : (l : ℕ) (s : LinkSource) → l < length run.layout.links → (link_of run l).source ≡ s
      → every (admits (link_of run l).when) (given_by run l s) ≡ true
  admitted_by l (Block b) small e = (source_keeps l b small e).admitted
  admitted_by l (Input b) small e = refl

  within_by : (l : ℕ) (s : LinkSource) → l < length run.layout.links → (link_of run l).source ≡ s
      → is_within (link_of run l).max (given_by run l s) ≡ true
  within_by l (Block b) small e =
      let mine = source_keeps l b small e in
      within_from_start (link_of run l).max (ends l).source.before (ends l).source.given (gave_over l (marks_of run b))
      mine.from_start mine.given (keep.links l small).plan.within
  within_by l (Input b) small e = within_test (link_of run l).max [] (within_none (link_of run l).max)

  posted_by : (l : ℕ) (s : LinkSource) (t : LinkTarget) → l < length run.layout.links
      → (link_of run l).source ≡ s → (link_of run l).target ≡ t → posted_before run l s ≡ true
  posted_by l (Block b) t small es et = refl
  posted_by l (Input b) (Port c p) small es et =
      let P : List Value → Type 0 = λ taken. is_front taken (input_of run b).posted ≡ true in
      subst P (taken_is l c p small et)
      (taken_is_front (ends l).source.given (ends l).target.taken (input_of run b).posted
      (crossed_so l small) (keep.inputs l b small es).given)
  posted_by l (Input b) Exit small es et =
      let P : List Value → Type 0 = λ taken. is_front taken (input_of run b).posted ≡ true in
      subst P (sym (ap (λ t. taken_by run l t) et)) refl

  pub links_keep : LinkLaw run
  links_keep = record {
    between_blocks = every_below (crosses run) (length run.layout.links)
        (λ l small. crosses_at l (link_of run l).source (link_of run l).target small refl refl);
    admitted = every_below (gives_admitted run) (length run.layout.links)
        (λ l small. admitted_by l (link_of run l).source small refl);
    within_max = every_below (gives_within run) (length run.layout.links)
        (λ l small. within_by l (link_of run l).source small refl);
    from_inputs = every_below (takes_posted run) (length run.layout.links)
        (λ l small. posted_by l (link_of run l).source (link_of run l).target small refl refl);
  }

  pub marks_keep : OneTaker run
  marks_keep = record {
    own_marks = every_below (has_own_marks run) (length run.layout.blocks) (λ b small. (keep.nodes b small).own_marks);
  }

  -- what was worked is what was taken before what is held
  work_makes_so : (b : ℕ) (made : List Value) → WorksInto run ends b made → work_makes run b made ≡ true
  work_makes_so b made into =
      let front : worked run b ≡ into.done =
      rw into.taken (front_without into.done (held_at run b 0)) in
      let made_of : is_made (results_of (block_result run b) (worked run b)) made ≡ true =
      rw (front, into.worked) (same_values_where (concat into.results) made (sym into.all)) in
      and_from
      (same_values (took (marks_of run b)) (worked run b ++ held_at run b 0))
      (is_made (results_of (block_result run b) (worked run b)) made)
      (same_values_where (took (marks_of run b)) (worked run b ++ held_at run b 0)
      (into.taken ∙ sym (ap (λ done. done ++ held_at run b 0) front)))
      made_of

  makes_so : (b : ℕ) (kind : BlockKind) → NodeMakes run ends b kind → makes_as run b kind ≡ true
  makes_so b Buffer e = same_values_where (took (marks_of run b)) (outputs run b ++ held_at run b 0) e
  makes_so b Broadcast e = e
  makes_so b WriteOnce e = e
  makes_so b Action records =
      and_from (work_makes run b (trace_of run b).recorded) (is_empty (left_at run b))
      (work_makes_so b (trace_of run b).recorded records.works)
      (ap is_empty records.none_left)
  makes_so b Transform into = work_makes_so b (outputs run b) into
  makes_so b TransformMany into = work_makes_so b (outputs run b) into
  makes_so b Batch e = e
  makes_so b Join e = e
  makes_so b BatchedJoin e = e

  pub blocks_make : Making run
  blocks_make = record {
    each_block = every_below (makes run) (length run.layout.blocks)
        (λ b small. makes_so b (block_of run b).kind (keep.nodes b small).makes);
  }
