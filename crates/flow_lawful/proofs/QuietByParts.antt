-- A network is quiet when each of its parts keeps its own laws and has nothing left to do.
use Rattle.std.proofs.Common.{◌≡◌, ℕ, ◌+◌, ◌<◌, ◌==◌, inr, Bool, true, false, ◌&&◌, ◌||◌, not, is_some, List, [], ◌∷◌, length, drop, Option, Some, None, refl, ap, sym, subst, ◌∙◌, arith, eqb-true, eq-eqb}
use Rattle.std.proofs.lemmas.Bool.{and_from, and_parts, or_left, or_right, not-true}
use Rattle.flow_value.specs.declared.value.Value.{Value}
use Rattle.flow_link.specs.declared.draft.BlockKind.{BlockKind}
use Rattle.flow_link.specs.declared.draft.BlockKind.TheVariants.{Broadcast, WriteOnce, Action, Transform, TransformMany}
use Rattle.flow_link.specs.declared.phase.LinkEnd.TheVariants.{Plain}
use Rattle.flow_link.specs.declared.plan.LinkSource.{LinkSource}
use Rattle.flow_link.specs.declared.plan.LinkSource.TheVariants.{Block, Input}
use Rattle.flow_link.specs.declared.plan.LinkTarget.{LinkTarget}
use Rattle.flow_link.specs.declared.plan.LinkTarget.TheVariants.{Port, Exit}
use Rattle.flow_link.specs.declared.trace.Mark.{Mark}
use Rattle.flow_link.specs.declared.trace.Mark.TheVariants.{Took, Gave, Complete, Fault, Done}
use Rattle.flow_lawful.specs.Endings.{own_fault, first_fault, fault_by_kind, is_complete, has_nothing, passes_on}
use Rattle.flow_link.specs.Lists.{every, some, is_empty, below}
use Rattle.flow_link.specs.LooksKeep.{SeenAt}
use Rattle.flow_link.specs.Making.{load}
use Rattle.flow_link.specs.Plan.{has_work, is_reserving, ports_by_kind, ends_at_port}
use Rattle.flow_lawful.specs.Quiet.{Quiet, is_open, first_of, is_home, is_home_between, has_this_fault, faulted_by_itself, holds_nothing, rests, rests_as, is_done_if_can, end_comes_from, end_reaches, hands_its_end_on, head_as, head_from, admits_head, has_not_ended, could_cross, is_full_with, lacks_a_port, holds_back, carries_no_more, has_served_all}
use Rattle.flow_link.specs.Told.{HasEnded}
use Rattle.flow_link.specs.Trace.{Run, has_complete, has_fault, has_ended, is_faulted, is_done, is_used_up, is_fault_mark, is_any_fault_mark, block_of, link_of, link_numbers, ports_of, marks_of, held_at, left_at, given_over, taken_over, input_of, waits_over, is_cut, is_refused}
use Rattle.flow_link.specs.Views.{TargetStage, Refusal}
use Rattle.flow_lawful.specs.Composes.{Ends, PartsKeep, RefusesFor, is_done_with, facts_of}
use Rattle.flow_lawful.specs.RestsByParts.{RestsCompose, PartsRest, is_over, is_postponed, lacks_an_offer, unsent}
use Rattle.flow_link.proofs.LinksTell.{links_tell}
use Rattle.flow_lawful.proofs.LinksByParts.{source_keeps, target_keeps, given_is, taken_is}
use Rattle.flow_lawful.proofs.LinksAtRest.{home_at_rest, over_tells, waits_unless, stages_at}
use Rattle.flow_link.proofs.ListTests.{or_not, or_weaker, and_weaker, every_below, some_weaker_below, same_values_where, never_both}

either : {P : Type 0} (a b : Bool) → (a || b) ≡ true → (a ≡ true → P) → (b ≡ true → P) → P
either true b e first second = first refl
either false b e first second = second e

some_weaker : {A : Type 0} (f g : A → Bool) (xs : List A) → ((x : A) → f x ≡ true → g x ≡ true)
    → some f xs ≡ true → some g xs ≡ true
some_weaker f g [] h e = e
some_weaker f g (x ∷ xs) h e = or_weaker (f x) (some f xs) (g x) (some g xs) (h x) (some_weaker f g xs h) e

not_weaker : (a b : Bool) → (b ≡ true → a ≡ true) → not a ≡ true → not b ≡ true
not_weaker a true h e = never_both a (h refl) (not-true a e)
not_weaker a false h e = refl

fault_is_any : (fault : ℕ) (mark : Mark) → is_fault_mark fault mark ≡ true → is_any_fault_mark mark ≡ true
fault_is_any fault (Fault number) e = refl
fault_is_any fault (Took _ _ _) e = absurd (cc)
fault_is_any fault (Gave _ _) e = absurd (cc)
fault_is_any fault (Complete _) e = absurd (cc)
fault_is_any fault Done e = absurd (cc)

faulted_where : (fault : ℕ) (marks : List Mark) → has_fault fault marks ≡ true → is_faulted marks ≡ true
faulted_where fault marks e = some_weaker (is_fault_mark fault) is_any_fault_mark marks (fault_is_any fault) e

-- a faulted block takes nothing at any port
faulted_ends : (p : ℕ) (marks : List Mark) → is_faulted marks ≡ true → has_ended p marks ≡ true
faulted_ends p marks e =
    or_left (has_complete p marks || is_faulted marks) (is_done marks)
    (or_right (has_complete p marks) (is_faulted marks) e)

work_has_one_port : (kind : BlockKind) (ports : Option ℕ) → has_work kind ≡ true → ports_by_kind kind ports ≡ 1
work_has_one_port Action ports e = refl
work_has_one_port Transform ports e = refl
work_has_one_port TransformMany ports e = refl
work_has_one_port _ ports e = absurd (cc)

passes_at_first : (test : ℕ → Bool) (count : ℕ) → count ≡ 1 → every test (below count) ≡ true → test 0 ≡ true
passes_at_first test count one e =
    let P : ℕ → Type 0 = λ n. every test (below n) ≡ true in
    (and_parts (test 0) true (subst P one e)).0

-- a link that carried as many values as it may is cut
used_up : (max : Option ℕ) (before : ℕ) (given values : List Value) → before ≡ 0 → given ≡ values → max ≡ Some (before + length given) → is_used_up max values ≡ true
used_up max before given values start same e =
    let count : before + length given ≡ length values = rw (start, same) (omega arith) in
    let P : Option ℕ → Type 0 = λ m. is_used_up m values ≡ true in
    subst P (sym (e ∙ ap (λ (n : ℕ). Some n) count)) (eq-eqb (length values) (length values) refl)

at_port : (b p : ℕ) (t : LinkTarget) → ends_at_port b p t ≡ true → t ≡ Port b p
at_port b p (Port n q) e =
    let both = and_parts (n == b) (q == p) e in
    ap (λ (m : ℕ). Port m q) (eqb-true n b both.0) ∙ ap (λ (m : ℕ). Port b m) (eqb-true q p both.1)
at_port b p Exit e = absurd (cc)

none_first : (values : List Value) → is_empty values ≡ true → first_of values ≡ None
none_first [] e = refl
none_first (v ∷ values) e = absurd (cc)

module _ {W : Type 0} (run : Run W) where
  -- a block that holds nothing has no fault of its own
  no_fault : (b : ℕ) (held : List Value) (works : Bool) → is_empty held ≡ true → held ≡ held_at run b 0
      → is_some (fault_by_kind run b works) ≡ true → ⊥
  no_fault b [] false none is e = cc
  no_fault b [] true none is e =
      let P : List Value → Type 0 = λ values. is_some (first_fault run b values) ≡ true in
      let wrong : false ≡ true = subst P (sym is) e in cc
  no_fault b (v ∷ held) works none is e = cc

  works_where : (b : ℕ) (works : Bool) → is_some (fault_by_kind run b works) ≡ true → works ≡ true
  works_where b true e = refl
  works_where b false e = absurd (cc)

  rests_holds_nothing : (b : ℕ) (kind : BlockKind) → has_work kind ≡ true → rests_as run kind b ≡ true → holds_nothing run b ≡ true
  rests_holds_nothing b Action works e = e
  rests_holds_nothing b Transform works e = e
  rests_holds_nothing b TransformMany works e = e
  rests_holds_nothing b _ works e = absurd (cc)

  this_fault : (b p : ℕ) (fault : Option ℕ) → has_this_fault run b fault ≡ true → has_ended p (marks_of run b) ≡ true
  this_fault b p None e = absurd (cc)
  this_fault b p (Some fault) e = faulted_ends p (marks_of run b) (faulted_where fault (marks_of run b) e)

  -- at rest a block with a fault of its own has taken it
  own_fault_ends : (b p : ℕ) → rests run b ≡ true → is_some (own_fault run b) ≡ true → has_ended p (marks_of run b) ≡ true
  own_fault_ends b p rest has =
      let works = works_where b (has_work (block_of run b).kind) has in
      either (faulted_by_itself run b) (rests_as run (block_of run b).kind b) rest
      (λ e. this_fault b p (own_fault run b) e)
      (λ e. let none = rests_holds_nothing b (block_of run b).kind works e in
      let empty = passes_at_first (λ p. is_empty (held_at run b p)) (ports_by_kind (block_of run b).kind (block_of run b).ports)
      (work_has_one_port (block_of run b).kind (block_of run b).ports works) none in
      absurd (no_fault b (held_at run b 0) (has_work (block_of run b).kind) empty refl has))

  no_head_where_faulted : (s l : ℕ) (faulted : Bool) (kind : BlockKind) → faulted ≡ true → head_as run s l faulted kind ≡ None
  no_head_where_faulted s l true kind e = refl
  no_head_where_faulted s l false kind e = absurd (cc)

  once_given : (given left : List Value) → first_of left ≡ None
      → elim given as (λ _. Option Value) [ [] ↦ first_of left | value ∷ values ↦ None ] ≡ None
  once_given [] left e = e
  once_given (v ∷ given) left e = refl

  no_head_left : (s l : ℕ) (faulted : Bool) (kind : BlockKind) → first_of (left_at run s) ≡ None → head_as run s l faulted kind ≡ None
  no_head_left s l true kind e = refl
  no_head_left s l false Broadcast e = refl
  no_head_left s l false WriteOnce e = once_given (given_over run l) (left_at run s) e
  no_head_left s l false _ e = e

module _ {W : Type 0} (run : Run W) (ends : ℕ → Ends) (keep : PartsKeep run ends) (rest : PartsRest run ends) where
  stages : (l : ℕ) → l < length run.layout.links → SeenAt (ends l).phase (ends l).source.stage (ends l).target.stage
  stages l small = stages_at run ends keep l small (rest.seen l small)

  home : (l : ℕ) → l < length run.layout.links → (ends l).source.given ≡ (ends l).target.taken
  home l small =
      home_at_rest (ends l).phase (ends l).target.stage (ends l).slot (ends l).source.given (ends l).target.taken
      (rest.links l small) (keep.links l small).values

  home_at : (l : ℕ) (s : LinkSource) (t : LinkTarget) → l < length run.layout.links
      → (link_of run l).source ≡ s → (link_of run l).target ≡ t → is_home_between run l s t ≡ true
  home_at l (Block b) (Port c p) small es et =
      same_values_where (given_over run l) (taken_over run l)
      (sym (given_is run ends keep l b small es) ∙ home l small ∙ taken_is run ends keep l c p small et)
  home_at l (Block b) Exit small es et = refl
  home_at l (Input b) t small es et = refl

  -- what an input has not given is what waits there
  unsent_waits : (l s b p : ℕ) → l < length run.layout.links → (link_of run l).target ≡ Port b p
      → unsent run ends l s ≡ waits_over run s l
  unsent_waits l s b p small et =
      ap (λ (values : List Value). drop (length values) (input_of run s).posted) (home l small ∙ taken_is run ends keep l b p small et)

  -- a port that refuses has ended
  refused_ends : (l b p : ℕ) (why : Refusal) → l < length run.layout.links → (link_of run l).target ≡ Port b p
      → RefusesFor run ends b p why → has_ended p (marks_of run b) ≡ true
  refused_ends l b p Refusal.port_ended small et refuses = refuses
  refused_ends l b p Refusal.own_fault small et refuses =
      own_fault_ends run b p (rest.nodes b (keep.to_blocks l b p small et)).kind.worked refuses

  -- a link that is over has ended its port, unless it ended plainly
  over_ends : (l b p : ℕ) → l < length run.layout.links → (link_of run l).target ≡ Port b p → is_over (ends l).source.stage ≡ true
      → ((ends l).target.stage ≡ TargetStage.ended Plain → has_ended p (marks_of run b) ≡ true) → has_ended p (marks_of run b) ≡ true
  over_ends l b p small et over plain =
      over_tells (has_ended p (marks_of run b) ≡ true) (ends l).phase (ends l).source.stage (ends l).target.stage
      (rest.links l small) (stages l small) over
      (λ why is. refused_ends l b p why small et ((target_keeps run ends keep l b p small et).refuses why is))
      (λ seen. ((rest.nodes b (keep.to_blocks l b p small et)).ports p).ended l small et seen)
      plain

  ended_plainly : (l : ℕ) → l < length run.layout.links → (ends l).target.stage ≡ TargetStage.ended Plain
      → HasEnded (facts_of run ends l) Plain (ends l).source (ends l).target
  ended_plainly l small e =
      (links_tell Value).end_told (facts_of run ends l) (ends l).phase (ends l).slot (ends l).source (ends l).target
      (keep.links l small) Plain (inr e)

  -- ends that come have ended their ports
  cut_where_plain : (l s : ℕ) → l < length run.layout.links → (link_of run l).source ≡ Block s
      → (ends l).target.stage ≡ TargetStage.ended Plain → (link_of run l).propagate ≡ true → is_cut run l ≡ true
  cut_where_plain l s small es e passes =
      let mine = source_keeps run ends keep l s small es in
      used_up (link_of run l).max (ends l).source.before (ends l).source.given (given_over run l)
      mine.from_start (given_is run ends keep l s small es) ((ended_plainly l small e).by_rule passes)

  block_end_comes : (l s b p : ℕ) → l < length run.layout.links → (link_of run l).source ≡ Block s → (link_of run l).target ≡ Port b p
      → end_comes_from run l (Block s) ≡ true → has_ended p (marks_of run b) ≡ true
  block_end_comes l s b p small es et e =
      let comes = and_parts (passes_on run l) (is_done (marks_of run s) || is_faulted (marks_of run s)) e in
      let going = and_parts ((link_of run l).propagate && not (is_cut run l)) (not (is_refused run l)) comes.0 in
      let uncut = and_parts (link_of run l).propagate (not (is_cut run l)) going.0 in
      let with_it : is_done_with run ends l s ≡ true =
      either (is_done (marks_of run s)) (is_faulted (marks_of run s)) comes.1
      (λ done. or_left (is_cut run l || is_done (marks_of run s)) (is_faulted (marks_of run s))
      (or_right (is_cut run l) (is_done (marks_of run s)) done))
      (λ faulted. or_right (is_cut run l || is_done (marks_of run s)) (is_faulted (marks_of run s)) faulted) in
      over_ends l b p small et ((rest.nodes s (keep.from_blocks l s small es)).outlet.ended l small es with_it)
      (λ plain. never_both (is_cut run l) (cut_where_plain l s small es plain uncut.0) (not-true (is_cut run l) uncut.1))

  input_end_comes : (l s b p : ℕ) → l < length run.layout.links → (link_of run l).source ≡ Input s → (link_of run l).target ≡ Port b p
      → end_comes_from run l (Input s) ≡ true → has_ended p (marks_of run b) ≡ true
  input_end_comes l s b p small es et e =
      let comes = and_parts (not (is_open (input_of run s).ending)) (is_empty (waits_over run s l)) e in
      let none : is_empty (unsent run ends l s) ≡ true = ap is_empty (unsent_waits l s b p small et) ∙ comes.1 in
      over_ends l b p small et ((rest.inputs l s small es).ended (not-true (is_open (input_of run s).ending) comes.0) none)
      (λ plain. absurd ((keep.inputs l s small es).never_plain (ended_plainly l small plain).by_source))

  end_comes : (l : ℕ) (s : LinkSource) (b p : ℕ) → l < length run.layout.links
      → (link_of run l).source ≡ s → (link_of run l).target ≡ Port b p
      → end_comes_from run l s ≡ true → has_ended p (marks_of run b) ≡ true
  end_comes l (Block s) b p small es et e = block_end_comes l s b p small es et e
  end_comes l (Input s) b p small es et e = input_end_comes l s b p small es et e

  reaches : (l : ℕ) (t : LinkTarget) → l < length run.layout.links → (link_of run l).target ≡ t → end_reaches run l t ≡ true
  reaches l Exit small et = refl
  reaches l (Port b p) small et =
      or_not (end_comes_from run l (link_of run l).source) (has_ended p (marks_of run b))
      (end_comes l (link_of run l).source b p small refl et)

  -- a block that has ended has no message to carry
  no_head_where_done : (s l : ℕ) → s < length run.layout.blocks → is_done (marks_of run s) ≡ true → head_from run l (Block s) ≡ None
  no_head_where_done s l there done =
      no_head_left run s l (is_faulted (marks_of run s)) (block_of run s).kind
      (none_first (left_at run s)
      (either (not (is_done (marks_of run s))) (is_complete run s && has_nothing run s) (keep.nodes s there).done
      (λ going. never_both (is_done (marks_of run s)) done (not-true (is_done (marks_of run s)) going))
      (λ e. let nothing = (and_parts (is_complete run s) (has_nothing run s) e).1 in
      (and_parts (every (λ p. is_empty (held_at run s p)) (ports_of run s)) (is_empty (left_at run s)) nothing).1)))

  no_head_where_done_with : (s l : ℕ) → s < length run.layout.blocks → is_done_with run ends l s ≡ true → is_cut run l ≡ false
      → head_from run l (Block s) ≡ None
  no_head_where_done_with s l there e uncut =
      either (is_cut run l || is_done (marks_of run s)) (is_faulted (marks_of run s)) e
      (λ first. either (is_cut run l) (is_done (marks_of run s)) first
      (λ cut. never_both (is_cut run l) cut uncut)
      (λ done. no_head_where_done s l there done))
      (λ faulted. no_head_where_faulted run s l (is_faulted (marks_of run s)) (block_of run s).kind faulted)

  -- a message that could cross waits at its target
  block_head_waits : (l s b p : ℕ) → l < length run.layout.links → (link_of run l).source ≡ Block s → (link_of run l).target ≡ Port b p
      → is_cut run l ≡ false → has_ended p (marks_of run b) ≡ false → admits_head run l (head_from run l (Block s)) ≡ true
      → is_postponed (ends l).target.stage ≡ true
  block_head_waits l s b p small es et uncut going e =
      let there = keep.from_blocks l s small es in
      let admitted : Bool = admits_head run l (head_from run l (Block s)) in
      waits_unless (ends l).phase (ends l).source.stage (ends l).target.stage (rest.links l small) (stages l small)
      (λ free. never_both admitted e ((rest.nodes s there).outlet.offered l small es free))
      (λ over. never_both (has_ended p (marks_of run b))
      (over_ends l b p small et over
      (λ plain. let with_it = (source_keeps run ends keep l s small es).after_plain (ended_plainly l small plain).by_source in
      never_both admitted e (ap (admits_head run l) (no_head_where_done_with s l there with_it uncut))))
      going)

  input_head_waits : (l s b p : ℕ) → l < length run.layout.links → (link_of run l).source ≡ Input s → (link_of run l).target ≡ Port b p
      → has_ended p (marks_of run b) ≡ false → admits_head run l (head_from run l (Input s)) ≡ true
      → is_postponed (ends l).target.stage ≡ true
  input_head_waits l s b p small es et going e =
      waits_unless (ends l).phase (ends l).source.stage (ends l).target.stage (rest.links l small) (stages l small)
      (λ free. let none : head_from run l (Input s) ≡ None =
      ap first_of (sym (unsent_waits l s b p small et)) ∙ none_first (unsent run ends l s) ((rest.inputs l s small es).offered free) in
      never_both (admits_head run l (head_from run l (Input s))) e (ap (admits_head run l) none))
      (λ over. never_both (has_ended p (marks_of run b))
      (over_ends l b p small et over
      (λ plain. absurd ((keep.inputs l s small es).never_plain (ended_plainly l small plain).by_source)))
      going)

  head_waits : (l : ℕ) (s : LinkSource) (b p : ℕ) → l < length run.layout.links
      → (link_of run l).source ≡ s → (link_of run l).target ≡ Port b p
      → is_cut run l ≡ false → has_ended p (marks_of run b) ≡ false → admits_head run l (head_from run l s) ≡ true
      → is_postponed (ends l).target.stage ≡ true
  head_waits l (Block s) b p small es et uncut going e = block_head_waits l s b p small es et uncut going e
  head_waits l (Input s) b p small es et uncut going e = input_head_waits l s b p small es et going e

  could_waits : (l b p : ℕ) → l < length run.layout.links → (link_of run l).target ≡ Port b p → could_cross run l ≡ true
      → is_postponed (ends l).target.stage ≡ true
  could_waits l b p small et e =
      let both = and_parts (not (is_cut run l) && has_not_ended run (link_of run l).target) (admits_head run l (head_from run l (link_of run l).source)) e in
      let first = and_parts (not (is_cut run l)) (has_not_ended run (link_of run l).target) both.0 in
      let P : LinkTarget → Type 0 = λ t. has_not_ended run t ≡ true in
      let going : not (has_ended p (marks_of run b)) ≡ true = subst P et first.1 in
      head_waits l (link_of run l).source b p small refl et
      (not-true (is_cut run l) first.0) (not-true (has_ended p (marks_of run b)) going) both.1

  -- a join at which no offer waits lacks a message that could cross
  lacks_so : (b : ℕ) → lacks_an_offer run ends b ≡ true → lacks_a_port run b ≡ true
  lacks_so b e =
      let offers : ℕ → ℕ → Bool = λ p l. ends_at_port b p (link_of run l).target && is_postponed (ends l).target.stage in
      let could : ℕ → ℕ → Bool = λ p l. ends_at_port b p (link_of run l).target && could_cross run l in
      some_weaker (λ p. not (some (offers p) (link_numbers run))) (λ p. not (some (could p) (link_numbers run))) (ports_of run b)
      (λ p. not_weaker (some (offers p) (link_numbers run)) (some (could p) (link_numbers run))
      (some_weaker_below (could p) (offers p) (length run.layout.links)
      (λ l small e. let both = and_parts (ends_at_port b p (link_of run l).target) (could_cross run l) e in
      and_from (ends_at_port b p (link_of run l).target) (is_postponed (ends l).target.stage) both.0
      (could_waits l b p small (at_port b p (link_of run l).target both.0) both.1))))
      e

  holds_back_at : (l : ℕ) (t : LinkTarget) → l < length run.layout.links → (link_of run l).target ≡ t → could_cross run l ≡ true
      → holds_back run t ≡ true
  holds_back_at l Exit small et e = refl
  holds_back_at l (Port b p) small et e =
      let full : Bool = is_full_with run (block_of run b).capacity (load run b p) in
      or_weaker full (is_reserving (block_of run b) && lacks_an_offer run ends b) full (is_reserving (block_of run b) && lacks_a_port run b)
      (λ e. e)
      (and_weaker (is_reserving (block_of run b)) (lacks_an_offer run ends b) (is_reserving (block_of run b)) (lacks_a_port run b)
      (λ e. e) (lacks_so b))
      (((rest.nodes b (keep.to_blocks l b p small et)).ports p).put_off l small et (could_waits l b p small et e))

  quiet : Quiet run
  quiet = record {
    home = every_below (is_home run) (length run.layout.links)
        (λ l small. home_at l (link_of run l).source (link_of run l).target small refl refl);
    at_rest = every_below (rests run) (length run.layout.blocks) (λ b small. (rest.nodes b small).kind.worked);
    done = every_below (is_done_if_can run) (length run.layout.blocks) (λ b small. (rest.nodes b small).kind.done);
    ends_handed_on = every_below (hands_its_end_on run) (length run.layout.links)
        (λ l small. reaches l (link_of run l).target small refl);
    heads = every_below (carries_no_more run) (length run.layout.links)
        (λ l small. or_not (could_cross run l) (holds_back run (link_of run l).target)
        (holds_back_at l (link_of run l).target small refl));
    served = every_below (has_served_all run) (length run.layout.blocks) (λ b small. (rest.nodes b small).kind.served);
  }

pub rests_compose : (W : Type 0) → RestsCompose W
rests_compose W run ends keep rest = quiet run ends keep rest
