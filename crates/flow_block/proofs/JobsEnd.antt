-- What the end of a job comes to: where its message is not held first, or a fault of its own stands, nothing comes out.
use Rattle.std.proofs.Common.{◌≡◌, ℕ, zero, suc, ◌-◌, ◌==◌, leb, Bool, true, false, not, cond, List, [], ◌∷◌, set, get_or, Option, Some, None, is_some, is_none, Result, Ok, Err, refl, ap, sym, ◌∙◌, subst, arith}
use Rattle.std.proofs.lemmas.Bool.{and_parts, leb-true, eqb-false}
use Rattle.flow_value.specs.declared.value.Value.{Value}
use Rattle.flow_link.specs.Kinds.{gives_nothing}
use Rattle.flow_outlet.specs.Outlet.{lacks_ids}
use Rattle.flow_block.specs.Block.{BlockState, with_jobs, yields_all, yields_where, ends_job, put_where, put_by_kind, put_by_job}
use Rattle.flow_block.specs.Jobs.{JobsState, Slot, no_slot, place_of, is_out, is_front_back, brings, comes_out}
use Rattle.flow_block.specs.JobsOut.{all_out}

none_is : (fault : Option ℕ) (some : Bool) → is_some fault ≡ some → is_none fault ≡ not some
none_is None some is = ap not is
none_is (Some number) some is = ap not is

-- where the first result is not there, nothing comes out
none_out : (slots : List Slot) → is_front_back slots ≡ false → comes_out slots ≡ []
none_out [] none = refl
none_out (None ∷ slots) none = refl
none_out (Some made ∷ slots) none = absurd (cc)

none_yields : (slots : List Slot) (block : BlockState) → is_front_back slots ≡ false → yields_all slots block ≡ block
none_yields [] block none = refl
none_yields (None ∷ slots) block none = refl
none_yields (Some made ∷ slots) block none = absurd (cc)

-- a result that comes back behind the first leaves that as it is
still_none : (slots : List Slot) (place : ℕ) (slot : Slot) → (place ≡ 0 → ⊥) → is_front_back slots ≡ false
    → is_front_back (set slots place slot) ≡ false
still_none [] place slot behind none = refl
still_none (old ∷ slots) zero slot behind none = absurd (behind refl)
still_none (old ∷ slots) (suc place) slot behind none = none

behind_first : (ticket : ℕ) (jobs : JobsState) → is_out ticket jobs ≡ true → (ticket == jobs.first) ≡ false
    → place_of ticket jobs ≡ 0 → ⊥
behind_first ticket jobs out other place =
    let both = and_parts (leb jobs.first ticket) (is_none (get_or jobs.slots (place_of ticket jobs) no_slot)) out in
    let past = leb-true jobs.first ticket both.0 in
    eqb-false ticket jobs.first other (omega (arith, past, place))

-- a job ends so that nothing is put
pub record EndsAlone (ticket : ℕ) (made : Result (List Value) ℕ) (block : BlockState) : Type 0 where
  pub done : with_jobs (brings ticket made) block ≡ ends_job ticket made block
  pub has_ids : lacks_ids (put_by_job ticket made block) block.exits ≡ false

puts_none : (none : Bool) → ◌≡◌ {A = List Value} (cond none [] []) []
puts_none true = refl
puts_none false = refl

never_faulted : (fault : Option ℕ) → is_some fault ≡ false → fault ≡ None
never_faulted None none = refl
never_faulted (Some number) none = absurd (cc)

module _ (ticket : ℕ) (made : Result (List Value) ℕ) where
  faulted : (block : BlockState) → is_some block.fault ≡ true → EndsAlone ticket made block
  faulted block some =
      let stands = none_is block.fault true some in
      let back = with_jobs (brings ticket made) block in
      record {
        done = sym (ap (λ (none : Bool). yields_where none back) stands);
        has_ids = ap (λ (none : Bool). lacks_ids (put_where none block.kind back.jobs.slots) block.exits) stands;
      }

  behind : (block : BlockState) → is_some block.fault ≡ false → (ticket == block.jobs.first) ≡ false → is_out ticket block.jobs ≡ true
      → (block.fault ≡ None → is_front_back block.jobs.slots ≡ false) → EndsAlone ticket made block
  behind block some other out drained =
      let goes = none_is block.fault false some in
      let back = with_jobs (brings ticket made) block in
      let kept =
      still_none block.jobs.slots (place_of ticket block.jobs) (Some made) (behind_first ticket block.jobs out other)
      (drained (never_faulted block.fault some)) in
      record {
        done = sym (ap (λ (none : Bool). yields_where none back) goes ∙ none_yields back.jobs.slots back kept);
        has_ids = ap (λ (none : Bool). lacks_ids (put_where none block.kind back.jobs.slots) block.exits) goes
            ∙ ap (λ (values : List Value). lacks_ids (put_by_kind block.kind values) block.exits) (none_out back.jobs.slots kept)
            ∙ ap (λ (values : List Value). lacks_ids values block.exits) (puts_none (gives_nothing block.kind));
      }

  module _ {block old : BlockState} (is : block ≡ old) where
    -- its own fault stands
    pub ends_in_fault : is_some block.fault ≡ true → EndsAlone ticket made old
    ends_in_fault some = faulted old (subst (λ (block : BlockState). is_some block.fault ≡ true) is some)

    -- its message is not held first
    pub ends_behind : is_some block.fault ≡ false → (ticket == block.jobs.first) ≡ false → is_out ticket old.jobs ≡ true
        → (old.fault ≡ None → is_front_back old.jobs.slots ≡ false) → EndsAlone ticket made old
    ends_behind some other =
        behind old (subst (λ (block : BlockState). is_some block.fault ≡ false) is some)
        (subst (λ (block : BlockState). (ticket == block.jobs.first) ≡ false) is other)

    -- all that is there comes out
    pub ends_out : is_some block.fault ≡ false → ends_job ticket made old ≡ all_out ticket made old
    ends_out some =
        subst (λ (old : BlockState). ends_job ticket made old ≡ all_out ticket made old) is
        (ap (λ (none : Bool). yields_where none (with_jobs (brings ticket made) block)) (none_is block.fault false some))

    pub brought : (jobs : JobsState) → jobs ≡ brings ticket made block.jobs → record block { jobs = jobs } ≡ with_jobs (brings ticket made) old
    brought jobs jobs_are = ap (λ (jobs : JobsState). record block { jobs = jobs }) jobs_are ∙ ap (with_jobs (brings ticket made)) is

-- where ids are left, none are told to be used up
pub never_told : {A E : Type 0} (lacks : Bool) (done : A) (refused : E) → lacks ≡ false
    → (◌≡◌ {A = Result A E} (Ok done) (Err refused) → lacks ≡ true) × (lacks ≡ true → ◌≡◌ {A = Result A E} (Ok done) (Err refused))
never_told lacks done refused none = (λ wrong. absurd (cc), λ is. absurd (let wrong : true ≡ false = sym is ∙ none in cc))
