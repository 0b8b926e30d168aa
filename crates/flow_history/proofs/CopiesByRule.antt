-- Where targets answer by the rules of their links, each link of a block that copies has its copies over any calls.
use Rattle.std.proofs.Common.{◌≡◌, ℕ, Bool, true, false, List, [], ◌∷◌, ◌++◌, Option, Some, None, Ok, refl, ap, sym, subst, ◌∙◌, arith}
use Rattle.flow_value.specs.declared.value.Value.{Value}
use Rattle.flow_link.specs.declared.phase.Phase.TheVariants.{Idle, Wanted}
use Rattle.flow_link.specs.declared.stage.SourceStage.{SourceStage}
use Rattle.flow_link.specs.declared.stage.SourceStage.TheVariants as source
use Rattle.flow_link.specs.BlockCalls.{BlockCall}
use Rattle.flow_link.specs.Plan.{is_one_taker, is_write_once}
use Rattle.flow_link.specs.SourceCalls.{SourceCall}
use Rattle.flow_link.specs.Stage.{source_looks}
use Rattle.flow_link.specs.TargetCalls.{TargetCall}
use Rattle.flow_intake.specs.ByLink.{arrives}
use Rattle.flow_outlet.specs.KeepsByLink.{settles_it}
use Rattle.flow_outlet.specs.Law.{is_put_off}
use Rattle.flow_spread.specs.ByLink.{place_of}
use Rattle.flow_spread.specs.Accounts.{AllMade}
use Rattle.flow_spread.specs.Copied as copied
use Rattle.flow_spread.specs.Law.{SpreadLaw, MayPutOff}
use Rattle.flow_spread.specs.Spread.{link_at, stage_at}
use Rattle.flow_spread.proofs.LawKept.{calls_keep_law}
use Rattle.flow_spread.proofs.LinksCopied.{law_after, each_link_has}
use Rattle.flow_block.specs.Block.{BlockState}
use Rattle.flow_block.specs.BlockFits.{fresh_block}
use Rattle.flow_block.specs.Copies.{copied_rules}
use Rattle.flow_block.specs.Traits.{made_next, offer_next, with_port_of, copy_over, source_by, may_keep_copy, kept_by}
use Rattle.flow_block.proofs.CopyKept.{may_reserve, is_reserved}
use Rattle.flow_history.specs.Calls.{Call, MayCall, Fits, Does, Step, AllDone}
use Rattle.flow_history.specs.Copied.{AnswersByRule, MayCallByRule, CopiesAreGiven}
use Rattle.flow_history.specs.History.{nothing_yet, copied_at_once}
use Rattle.flow_link.specs.declared.phase.Phase.{Phase}
use Rattle.std.proofs.lemmas.Bool.{OnTrue_at, OnTrue_from}
use Rattle.flow_spread.specs.Accounts.{IsMade}
use Rattle.flow_history.proofs.CopiesFollow.{course, puts_of, offers_of, gives_of}
use Rattle.flow_history.proofs.CopiesGiven.{calls_by, all_by, call_follows, all_follow, near_end, by_its_calls, accounts_are}

-- The copies' own calls

-- at a look a message is wanted, or has gone
abbrev is_home : Phase → Bool
is_home (Wanted _) = true
is_home Idle = true
is_home _ = false

-- a call whose target answers by the rule of its link: a look finds nothing put off that was not
abbrev obeys : copied.Call → copied.Course → Type 0
obeys (copied.Call.look k phase) c = is_put_off (source_looks (stage_at c.spread k) phase) ≡ true → is_put_off (stage_at c.spread k) ≡ true
obeys (copied.Call.answer k header how) c = settles_it how ≡ false → MayPutOff (link_at c.spread k)
obeys _ c = Unit {0}

abbrev all_obey : List copied.Call → copied.Course → Type 0
all_obey [] c = Unit {0}
all_obey (call ∷ calls) c = obeys call c × all_obey calls (copied.after call c)

obey_both : (first then_on : List copied.Call) (c : copied.Course) → all_obey first c → all_obey then_on (copied.after_all first c)
    → all_obey (first ++ then_on) c
obey_both [] then_on c one other = other
obey_both (call ∷ first) then_on c one other = (one.0, obey_both first then_on (copied.after call c) one.1 other)

-- where a message is wanted, or has gone, a look finds nothing put off that was not
off_before : (stage : SourceStage) (phase : Phase) → is_home phase ≡ true → is_put_off (source_looks stage phase) ≡ true → is_put_off stage ≡ true
off_before (source.Out _) (Wanted _) home off = absurd (cc)
off_before (source.Out _) Idle home off = absurd (cc)
off_before (source.Posted _) (Wanted _) home off = absurd (cc)
off_before (source.Posted _) Idle home off = absurd (cc)
off_before (source.Waiting _) phase home off = refl
off_before (source.Reserved _) phase home off = refl
off_before (source.Wished _) phase home off = refl
off_before (source.AskedBy _) phase home off = refl
off_before (source.Claimed _) phase home off = refl
off_before source.Free phase home off = absurd (cc)
off_before (source.Accepted _) phase home off = absurd (cc)
off_before source.Crossing Idle home off = absurd (cc)
off_before source.Crossing (Wanted _) home off = absurd (cc)
off_before source.Refused phase home off = absurd (cc)
off_before (source.Ended _) phase home off = absurd (cc)
off_before stage _ home off = absurd (cc)

abbrev law_of_course : copied.Course → Type 0
law_of_course c = SpreadLaw 1 c.pending c.stopped c.spread

one_allowed : (call : copied.Call) (c : copied.Course) → law_of_course c → IsMade call c → obeys call c → copied.IsAllowed call c
one_allowed (copied.Call.look k phase) c law made obey = (
  made,
  OnTrue_from (is_put_off (source_looks (stage_at c.spread k) phase)) _
      (λ off. OnTrue_at (obey off) (law.each k made).put_off),
)
one_allowed (copied.Call.answer k header how) c law made obey = (made.0, made.1, obey, made.2)
one_allowed (copied.Call.put value) c law made obey = made
one_allowed (copied.Call.prepare k) c law made obey = made
one_allowed (copied.Call.offer k) c law made obey = made
one_allowed (copied.Call.give k) c law made obey = made
one_allowed (copied.Call.hold k) c law made obey = made
one_allowed (copied.Call.withdraw k) c law made obey = made
one_allowed (copied.Call.«end» k how) c law made obey = made
one_allowed copied.Call.fault c law made obey = made
one_allowed (copied.Call.stop outcome) c law made obey = made

all_allowed : (calls : List copied.Call) (c : copied.Course) → law_of_course c → AllMade calls c → all_obey calls c → copied.AllAllowed calls c
all_allowed [] c law made obey = tt
all_allowed (call ∷ calls) c law made obey =
    let now = one_allowed call c law made.0 obey.0 in
    (now, all_allowed calls (copied.after call c) (law_after 1 call c now law) made.1 obey.1)

-- The block's calls

puts_obey : (values : List Value) (c : copied.Course) → all_obey (puts_of values) c
puts_obey [] c = tt
puts_obey (value ∷ values) c = (tt, puts_obey values (copied.after (copied.Call.put value) c))

offers_obey : (place : Option ℕ) (c : copied.Course) → all_obey (offers_of place) c
offers_obey None c = tt
offers_obey (Some k) c = (tt, (tt, tt))

gives_obey : (k header : ℕ) (value : Option Value) (c : copied.Course) → all_obey (gives_of k header value) c
gives_obey k header None c = tt
gives_obey k header (Some value) c =
    let looked = copied.after (copied.Call.look k (Wanted header)) c in
    let gone = copied.after (copied.Call.give k) looked in
    (off_before (stage_at c.spread k) (Wanted header) refl, (tt, (off_before (stage_at gone.spread k) Idle refl, tt)))

call_obeys : (call : Call) (block new : BlockState) → is_one_taker block.kind ≡ false → MayCall call block → Does call block new
    → AnswersByRule call block → all_obey (calls_by call block) (course block.copies)
call_obeys (Call.acts (BlockCall.made (Ok true))) block new copies may does rule = puts_obey (made_next block) (course block.copies)
call_obeys (Call.takes (TargetCall.handed link header value)) block new copies may does rule =
    puts_obey (copied_at_once (with_port_of link (arrives link value) block)) (course block.copies)
call_obeys (Call.gives (SourceCall.offered offer)) block new copies may does rule = offers_obey (offer_next block) (course block.copies)
call_obeys (Call.gives (SourceCall.noted link header how)) block new copies may does rule = (rule, tt)
call_obeys (Call.gives (SourceCall.consumed link header value)) block new copies may does rule =
    gives_obey (place_of link block.copies.ends) header value (course block.copies)
call_obeys (Call.gives (SourceCall.reserved link header true)) block new copies may does rule =
    let keep : may_keep_copy link header block.copies ≡ true =
    sym (does.0 ∙ ap (λ (one : Bool). kept_by one link header block) copies) in
    ((λ off. ap is_put_off (may_reserve block.copies link header keep).waits), (tt, tt))
call_obeys (Call.gives (SourceCall.released link header)) block new copies may does rule =
    let shown : copy_over block.copies link ≡ source.Reserved header =
    sym (ap (λ (one : Bool). source_by one block link) copies) ∙ may in
    ((λ off. ap is_put_off (is_reserved block.copies link header shown).kept), tt)
call_obeys _ block new copies may does rule = tt

record AllObey (steps : List (Step Call BlockState)) (block : BlockState) : Type 0 where
  pub done : AllDone Fits MayCall Does steps block
  pub obey : all_obey (all_by steps block) (course block.copies)

steps_obey : (steps : List (Step Call BlockState)) (block : BlockState) → is_one_taker block.kind ≡ false
    → AllDone Fits MayCallByRule Does steps block → AllObey steps block
steps_obey [] block copies done = record { done = tt; obey = tt }
steps_obey (step ∷ steps) block copies done =
    let one = call_follows block step.left copies step.call done.0.0 done.1.0 in
    let rest = steps_obey steps step.left (ap is_one_taker one.kind ∙ copies) done.1.1.1 in
    record {
      done = (done.0.0, (done.1.0, (done.1.1.0, rest.done)));
      obey = obey_both (calls_by step.call block) (all_by steps step.left) (course block.copies) (call_obeys step.call block step.left copies done.0.0 done.1.0 done.0.1)
          (subst (λ (d : copied.Course). all_obey (all_by steps step.left) d) (sym one.follows.after) rest.obey);
    }

pub copies_are_given : CopiesAreGiven
copies_are_given = record {
  each = λ kind lanes size ports rules copies steps done k l own. accounts_are kind lanes size ports rules copies steps done k l own;
  by_rule = λ kind lanes size ports rules copies steps done k l own.
      let block = fresh_block kind lanes size ports rules in
      let law = calls_keep_law.fresh true (is_write_once kind) None (copied_rules kind rules) 1 (omega arith) (omega arith) in
      let obey = steps_obey steps block copies done in
      let all = all_follow steps block nothing_yet copies obey.done in
      let allowed = all_allowed (all_by steps block) (course block.copies) law all.calls obey.obey in
      by_its_calls kind lanes size ports rules copies (λ given made told s. copied.LinkHas given made k s) steps all k l own
      (each_link_has.each (is_write_once kind) true (copied_rules kind rules) 1 (omega arith) (omega arith) (all_by steps block) allowed k
      (near_end kind lanes size ports rules copies k l));
}
