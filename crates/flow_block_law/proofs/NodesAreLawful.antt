-- A node in order keeps what each block of a lawful run keeps.
use Rattle.std.proofs.Common.{zero, suc, ◌≡◌, ℕ, ◌+◌, ◌<◌, ◌==◌, leb, Bool, true, false, not, ◌&&◌, ◌||◌, is_some, List, [], ◌∷◌, length, Option, Some, None, refl, ap, sym, subst, ◌∙◌, arith, ⊎_elim, eq-eqb, ltb-true, le-leb, cond}
use Rattle.std.proofs.lemmas.Bool.{and_from, and_parts, or_left, or_right, or_cases}
use Rattle.flow_value.specs.declared.value.Value.{Value}
use Rattle.flow_link.specs.declared.draft.BlockKind.{BlockKind}
use Rattle.flow_link.specs.declared.draft.BlockKind.TheVariants.{Join}
use Rattle.flow_link.specs.declared.plan.LinkSource.TheVariants.{Block}
use Rattle.flow_link.specs.declared.plan.LinkTarget.TheVariants.{Port}
use Rattle.flow_link.specs.declared.stage.Refusal.{Refusal}
use Rattle.flow_link.specs.declared.stage.Refusal.TheVariants as refusal
use Rattle.flow_link.specs.declared.trace.Mark.{Mark}
use Rattle.flow_link.specs.declared.trace.Mark.TheVariants.{Complete, Fault}
use Rattle.flow_link.specs.declared.trace.Outcome.TheVariants as outcome
use Rattle.flow_lawful.specs.Composes.{Ends, SourceKeeps, TargetKeeps, NodeMakes, NodeKeeps, RefusesFor, as_seen, is_coming, has_seen_completion, has_seen_fault, has_seen_cause, has_room_at, coming}
use Rattle.flow_link.specs.Copies.{copies_as}
use Rattle.flow_lawful.specs.Endings.{own_fault, is_number, is_complete, has_nothing, stops, completes_once, is_complete_as}
use Rattle.flow_lawful.specs.Law.{is_own_mark, has_own_marks, has_room_for, is_level, takes_level, keeps_link_order}
use Rattle.flow_link.specs.LinkOk.{IsWithin}
use Rattle.flow_link.specs.Lists.{every, some, below, is_empty, numbers_from}
use Rattle.flow_link.specs.Making.{load}
use Rattle.flow_link.specs.Plan.{ends_at, ends_at_port, is_one_taker, is_reserving, port_count, is_write_once}
use Rattle.flow_link.specs.Stage.{target_stage_of, refusal_of}
use Rattle.flow_link.specs.Trace.{BlockTrace, Run, took_over, has_complete, has_fault, has_ended, is_faulted, is_done, block_of, link_of, link_numbers, marks_of, held_at, left_at, ports_of, took_at}
use Rattle.flow_link.specs.Views as views
use Rattle.flow_link.proofs.KindsTell.{kind_tells}
use Rattle.flow_block_law.proofs.OnceHolds.{room_once}
use Rattle.flow_block_law.proofs.WrittenOnce.{message_is, written_weighs}
use Rattle.flow_link.proofs.RoundsOfWalks.{some_here_below}
use Rattle.flow_link.proofs.ListTests.{or_not, every_below, length_numbers}
use Rattle.flow_intake.specs.Port.{EndState, PortState, end_in, fresh_end, fresh_port, coming as coming_at, is_coming as is_coming_at}
use Rattle.flow_intake.specs.PortLaw.{has_ended as has_port_ended}
use Rattle.flow_intake.specs.Ended.{is_completion}
use Rattle.flow_block.specs.Block.{port_at, is_join, port_in, is_batched_join}
use Rattle.flow_block.specs.Node.{NodeState, in_view}
use Rattle.flow_block_law.specs.NodeLaw.{NodeLaw, RefusesFor as RefusesBy, is_fault_seen, have_completed, has_its_message}
use Rattle.flow_block_law.specs.NodeSeen.{IsNodeOf, NodesAreLawful, EachMayCarry}
use Rattle.flow_block.specs.Planned.{in_place}
use Rattle.flow_block_law.specs.CopiesSeen.{CopierSeen}
use Rattle.flow_block_law.proofs.CopierOf.{copier_seen, makes_copies}
use Rattle.flow_block_law.proofs.EndsTell.{refusal_told, coming_told, completion_told, fault_told}
use Rattle.flow_block_law.proofs.JournalTells.{every_mark, complete_own, done_outcome}
use Rattle.flow_block_law.proofs.KindsBuilt.{within_capacity}
use Rattle.flow_block_law.proofs.NodesSeen.{held_is, none_held, own_fault_is, load_is, is_joining, complete_by_port}
use Rattle.flow_block_law.proofs.PortsLevel.{is_near, level_at_end}
use Rattle.flow_block_law.proofs.PlacesOfLinks.{IsEndIn, end_in_is, end_in_of, count_of_links, there_at_port, there_at_block}
use Rattle.flow_block_law.proofs.SharersAreLawful.{left_is, makes_shared, copies_shared, order_shared, one_so, source_shared}
use Rattle.flow_link.proofs.TestsTell.{some_tells, every_tells}
use Rattle.flow_block.specs.Peeks.{holds_nothing}

-- what counts only where there is a capacity fits
fits : {W : Type 0} (run : Run W) (capacity : Option ℕ) (count kept : ℕ) → (is_some capacity ≡ true → kept ≡ count)
    → IsWithin capacity kept → has_room_for run capacity count ≡ true
fits run None count kept same within = refl
fits run (Some capacity) count kept same within = le-leb count capacity (omega (arith, same refl, within))

-- a test that holds of a place before the last holds somewhere
pub record HoldsAt (test : ℕ → Bool) (count : ℕ) : Type 0 where
  pub place : ℕ
  pub there : place < count
  pub holds : test place ≡ true

holds_from : (test : ℕ → Bool) (first count : ℕ) → some test (numbers_from first count) ≡ true
    → (place : ℕ) × (place < first + count) × (test place ≡ true)
holds_from test first zero e = absurd (cc)
holds_from test first (suc count) e =
    ⊎_elim
    (λ here. (first, omega arith, here))
    (λ later. let found = holds_from test (suc first) count later in (found.0, omega (arith, found.1), found.2))
    (or_cases (test first) (some test (numbers_from (suc first) count)) e)

pub found_below : (test : ℕ → Bool) (count : ℕ) → some test (below count) ≡ true → HoldsAt test count
found_below test count e =
    let found = holds_from test 0 count e in record { place = found.0; there = omega (arith, found.1); holds = found.2 }

some_there : (values : List Value) → 0 < length values → not (is_empty values) ≡ true
some_there [] there = absurd (omega (arith, there))
some_there (value ∷ values) there = refl

pub join_is : (kind : BlockKind) → is_join kind ≡ true → kind ≡ Join
join_is Join e = refl
join_is _ e = absurd (cc)

none_waits : (ports : List PortState) (p : ℕ) → holds_nothing ports ≡ true → p < length ports
    → is_empty (port_in ports p).waiting ≡ true
none_waits ports p none there = every_tells (λ (port : PortState). is_empty port.waiting) ports (fresh_port None) p none there

module _ {W : Type 0} (run : Run W) (ends : ℕ → Ends) (b : ℕ) (node : NodeState)
    (law : NodeLaw run.layout run.meaning b node) (is : IsNodeOf run ends b node)
    (known : (l p : ℕ) → l < length run.layout.links → (link_of run l).target ≡ Port b p
    → p < length node.block.ports)
    (carries : is_write_once node.block.kind ≡ true → EachMayCarry run b) where
  abbrev ends_of : ℕ → List EndState
  ends_of p = (port_at p node.block).ends

  abbrev end_into : ℕ → ℕ → EndState
  end_into p k = end_in k (ends_of p)

  -- the links over which completion, or a fault, is seen to come
  abbrev completes_over : ℕ → ℕ → Bool
  completes_over p l = ends_at_port b p (link_of run l).target && has_seen_completion (ends l).target.stage

  abbrev faults_over : ℕ → ℕ → Bool
  faults_over number l = ends_at b (link_of run l).target && has_seen_fault number (ends l).target.stage

  -- the links and their ends stand where the plan has them
  into_is : (p k : ℕ) → p < length node.block.ports → k < length (ends_of p)
      → IsEndIn run.layout run.meaning b node.block law.shape p k (end_into p k).link
  into_is p k there small = end_in_is run.layout run.meaning b node.block law.shape p k there small

  marks_are : marks_of run b ≡ node.journal
  marks_are = ap (λ (t : BlockTrace). t.journal) is.trace

  -- what is shown of the journal holds of the marks
  of_marks : (P : List Mark → Type 0) → P node.journal → P (marks_of run b)
  of_marks P h = subst P (sym marks_are) h

  port_there : (p : ℕ) → p < port_count (block_of run b) → p < length node.block.ports
  port_there p small = omega (arith, law.shape.port_count_is)

  own_marks_so : has_own_marks run b ≡ true
  own_marks_so = of_marks (λ marks. every (is_own_mark run b) marks ≡ true) law.marks.own

  -- what its ends of the links into it know
  seen_stage : (p k : ℕ) → p < length node.block.ports → k < length (ends_of p)
      → (ends (end_into p k).link).target.stage ≡ target_stage_of (end_into p k).stage (end_into p k).hand
  seen_stage p k there small =
      let link = into_is p k there small in
      ap (λ (view : views.TargetView Value). view.stage)
      (is.targets (end_into p k).link p link.there link.leads ∙ ap (λ (j : ℕ). in_view p j node) link.place)

  -- room
  coming_is : (p : ℕ) → p < length node.block.ports → coming run ends b p ≡ coming_at (port_at p node.block)
  coming_is p there =
      count_of_links run.layout run.meaning b node.block law.shape p is_coming_at
      (λ l. is_coming (ends l).target.stage) there
      (λ k small. ap is_coming (seen_stage p k there small) ∙ coming_told (end_into p k).stage (end_into p k).hand)

  place_taken : (p : ℕ) → p < length node.block.ports → is_some (block_of run b).capacity ≡ true
      → (port_at p node.block).load + coming_at (port_at p node.block) ≡ load run b p + coming run ends b p
  place_taken p there bounded =
      omega (arith, load_is run ends b node law is p there bounded, coming_is p there)

  room_so : every (has_room_at run ends b) (ports_of run b) ≡ true
  room_so =
      every_below (has_room_at run ends b) (port_count (block_of run b))
      (λ p small. let there = port_there p small in
      let kept = (port_at p node.block).load + coming_at (port_at p node.block) in
      fits run (block_of run b).capacity (load run b p + coming run ends b p) kept
      (place_taken p there)
      (within_capacity run.layout run.meaning b node.block law.shape kept
      (subst (λ (capacity : Option ℕ). IsWithin capacity kept) (law.shape.ports p there).capacity
      (law.ports p there).room)))

  -- the ports of a join that reserves take together
  level_by : (reserving : Bool) → is_reserving (block_of run b) ≡ reserving → takes_level run b ≡ true
  level_by false so = or_left (not (is_reserving (block_of run b))) _ (ap not so)
  level_by true so =
      or_right (not (is_reserving (block_of run b))) _
      (every_below (λ p. every (is_level run b p) (ports_of run b)) (port_count (block_of run b))
      (λ p small_p. every_below (is_level run b p) (port_count (block_of run b))
      (λ q small_q. level_at p q (port_there p small_p) (port_there q small_q))))
    where
      level_at : (p q : ℕ) → p < length node.block.ports → q < length node.block.ports → is_level run b p q ≡ true
      level_at p q there other =
          of_marks (λ marks.
          (leb (length (took_at p marks)) (length (took_at q marks) + 1)
          && (not (is_faulted marks || is_done marks) || length (took_at p marks) == length (took_at q marks))) ≡ true)
          (and_from (leb (length (took_at p node.journal)) (length (took_at q node.journal) + 1))
          (not (is_faulted node.journal || is_done node.journal)
          || length (took_at p node.journal) == length (took_at q node.journal))
          (le-leb (length (took_at p node.journal)) (length (took_at q node.journal) + 1)
          (is_near run.layout run.meaning b node law so p q there other))
          (at_end p q there other (is_faulted node.journal || is_done node.journal) refl))
        where
          at_end : (p q : ℕ) → p < length node.block.ports → q < length node.block.ports → (over : Bool)
              → (is_faulted node.journal || is_done node.journal) ≡ over
              → (not (is_faulted node.journal || is_done node.journal)
              || length (took_at p node.journal) == length (took_at q node.journal)) ≡ true
          at_end p q there other false going = or_left (not (is_faulted node.journal || is_done node.journal)) _ (ap not going)
          at_end p q there other true over =
              or_right (not (is_faulted node.journal || is_done node.journal)) _
              (eq-eqb (length (took_at p node.journal)) (length (took_at q node.journal))
              (level_at_end run.layout run.meaning b node law so over p q there other))

  level_so : takes_level run b ≡ true
  level_so = level_by (is_reserving (block_of run b)) refl

  -- how it ends
  complete_so : (join : Bool) → is_join node.block.kind ≡ join → holds_nothing node.block.ports ≡ true
      → have_completed node.block.kind (length node.block.ports) node.journal ≡ true → is_complete run b ≡ true
  complete_so true joins nothing completed =
      let one : some (λ p. has_complete p node.journal) (below (length node.block.ports)) ≡ true =
      ap (λ (join : Bool). cond join (some (λ p. has_complete p node.journal) (below (length node.block.ports)))
      (every (λ p. has_complete p node.journal) (below (length node.block.ports))
      || has_its_message node.block.kind node.journal)) (sym joins) ∙ completed in
      let all : ℕ → Bool = λ p. has_complete p (marks_of run b) && is_empty (held_at run b p) in
      let first = found_below (λ p. has_complete p node.journal) (length node.block.ports) one in
      ap (λ (kind : BlockKind). is_complete_as run kind b) (join_is (block_of run b).kind (is_joining run ends b node law is ∙ joins))
      ∙ or_right (every (λ p. has_complete p (marks_of run b)) (ports_of run b)) (some all (ports_of run b))
      (some_here_below all (port_count (block_of run b)) first.place
      (subst (λ (count : ℕ). first.place < count) law.shape.port_count_is first.there)
      (and_from (has_complete first.place (marks_of run b)) (is_empty (held_at run b first.place))
      (ap (has_complete first.place) marks_are ∙ first.holds)
      (ap is_empty (held_is run ends b node law is first.place)
      ∙ none_waits node.block.ports first.place nothing first.there)))
  complete_so false joins nothing completed =
      let message = has_its_message node.block.kind node.journal in
      complete_by_port run b node law (is_joining run ends b node law is ∙ joins)
      ∙ of_marks (λ marks.
      (every (λ p. has_complete p marks) (ports_of run b) || has_its_message (block_of run b).kind marks) ≡ true)
      (subst (λ (kind : BlockKind).
      (every (λ p. has_complete p node.journal) (ports_of run b) || has_its_message kind node.journal) ≡ true)
      law.shape.kind_is
      (subst (λ (n : ℕ). (every (λ p. has_complete p node.journal) (below n) || message) ≡ true) law.shape.port_count_is
      (ap (λ (join : Bool). cond join (some (λ p. has_complete p node.journal) (below (length node.block.ports)))
      (every (λ p. has_complete p node.journal) (below (length node.block.ports)) || message)) (sym joins) ∙ completed)))

  -- a block that takes one message in all completes by that
  message_seen : (p : ℕ) → p < length node.block.ports → has_its_message node.block.kind node.journal ≡ true
      → (is_write_once (block_of run b).kind && not (is_empty (took_at p (marks_of run b)))) ≡ true
  message_seen p there has =
      let written = sym (message_is run.layout run.meaning b node law) ∙ has in
      let once = (and_parts (is_write_once node.block.kind) (is_some node.block.copies.element) written).0 in
      let room = room_once (block_of run b).kind (block_of run b).capacity (ap is_write_once (sym law.shape.kind_is) ∙ once) in
      let grouped = kind_tells is_one_taker false is_batched_join false refl node.block.kind (kind_tells is_write_once true is_one_taker false refl node.block.kind once) in
      let counts = (law.load grouped).load p there (ap is_some room) in
      let one = written_weighs run.layout run.meaning b node law written in
      let taken : 0 < length (took_at p node.journal) = omega (arith, counts, one, (law.ports p there).took) in
      and_from (is_write_once (block_of run b).kind) (not (is_empty (took_at p (marks_of run b))))
      (ap is_write_once (sym law.shape.kind_is) ∙ once)
      (of_marks (λ marks. not (is_empty (took_at p marks)) ≡ true) (some_there (took_at p node.journal) taken))

  by_message : (p : ℕ) → p < length node.block.ports → has_complete p node.journal ≡ true → (message : Bool)
      → has_its_message node.block.kind node.journal ≡ message → has_seen_cause run ends b (Complete p) ≡ true
  by_message p there e true has = or_right (some (completes_over p) (link_numbers run)) _ (message_seen p there has)
  by_message p there e false has =
      let at = some_tells (λ (end : EndState). is_completion end.stage) (ends_of p) (fresh_end 0)
      (law.ends.complete_cause p there e has) in
      let end = end_into p at.place in
      let link = into_is p at.place there at.there in
      or_left (some (completes_over p) (link_numbers run)) _
      (some_here_below (completes_over p) (length run.layout.links) end.link link.there
      (and_from (ends_at_port b p (link_of run end.link).target) (has_seen_completion (ends end.link).target.stage)
      (there_at_port b p (link_of run end.link).target link.leads)
      (ap has_seen_completion (seen_stage p at.place there at.there) ∙ completion_told end.stage end.hand at.passes)))

  completion_seen : (p : ℕ) → has_complete p node.journal ≡ true → has_seen_cause run ends b (Complete p) ≡ true
  completion_seen p e =
      let own = ltb-true p (length (ports_of run b)) (complete_own run b p node.journal law.marks.own e) in
      let there = port_there p (omega (arith, own, length_numbers 0 (port_count (block_of run b)))) in
      by_message p there e (has_its_message node.block.kind node.journal) refl

  fault_came : (number : ℕ)
      → some (λ (port : PortState). some (λ (end : EndState). is_fault_seen number end) port.ends) node.block.ports
      ≡ true
      → some (faults_over number) (link_numbers run) ≡ true
  fault_came number e =
      let seen : EndState → Bool = λ end. is_fault_seen number end in
      let port = some_tells (λ (port : PortState). some seen port.ends) node.block.ports (fresh_port None) e in
      let p = port.place in
      let at = some_tells seen (ends_of p) (fresh_end 0) port.passes in
      let end = end_into p at.place in
      let link = into_is p at.place port.there at.there in
      some_here_below (faults_over number) (length run.layout.links) end.link link.there
      (and_from (ends_at b (link_of run end.link).target) (has_seen_fault number (ends end.link).target.stage)
      (there_at_block b p (link_of run end.link).target link.leads)
      (ap (has_seen_fault number) (seen_stage p at.place port.there at.there)
      ∙ fault_told number end.stage end.hand at.passes))

  fault_so : (number : ℕ) → has_fault number node.journal ≡ true → has_seen_cause run ends b (Fault number) ≡ true
  fault_so number e =
      let over = some (faults_over number) (link_numbers run) in
      ⊎_elim
      (λ own. or_left (is_number number (own_fault run b)) over
      (ap (is_number number) (own_fault_is run ends b node law is number own) ∙ eq-eqb number number refl))
      (λ came. or_right (is_number number (own_fault run b)) over (fault_came number came))
      (law.ends.fault_cause number e)

  causes_so : every (has_seen_cause run ends b) (marks_of run b) ≡ true
  causes_so =
      of_marks (λ marks. every (has_seen_cause run ends b) marks ≡ true)
      (every_mark (has_seen_cause run ends b) node.journal (λ p l v. refl) (λ l v. refl) refl completion_seen fault_so)

  -- its ends of the links into it
  has_own_fault : (fault : Option ℕ) → node.block.fault ≡ fault → is_some fault ≡ true
      → is_some (own_fault run b) ≡ true
  has_own_fault None same e = absurd (cc)
  has_own_fault (Some number) same e = ap is_some (own_fault_is run ends b node law is number same)

  refuses_so : (p : ℕ) → p < length node.block.ports → (why : Refusal)
      → RefusesBy (port_at p node.block).refusing node.block.fault why → RefusesFor run ends b p (refusal_of why)
  refuses_so p there refusal.PortEnded refused =
      of_marks (λ marks. has_ended p marks ≡ true) (sym (law.ends.ended_is p there) ∙ ap has_port_ended refused)
  refuses_so p there refusal.OwnFault refused = has_own_fault node.block.fault refl refused

  target_keeps : (l p : ℕ) → l < length run.layout.links → (link_of run l).target ≡ Port b p
      → TargetKeeps run ends l b p
  target_keeps l p small leads =
      let view = is.targets l p small leads in
      let there = known l p small leads in
      let has = end_in_of run.layout run.meaning b node.block law.shape p l there small leads in
      let place = in_place run.layout b p l in
      let end = end_in place (ends_of p) in
      record {
        from_start = ap (λ (v : views.TargetView Value). v.before) view;
        taken = ap (λ (v : views.TargetView Value). v.taken) view
            ∙ ap (λ (n : ℕ). took_over n node.journal) has.link_is ∙ sym (ap (took_over l) marks_are);
        refuses = λ why e.
            let told = refusal_told end.stage end.hand why
            (sym (ap (λ (v : views.TargetView Value). v.stage) view) ∙ e) in
            subst (RefusesFor run ends b p) told.same
            (refuses_so p there told.reason (law.ends.refused p place there has.there told.reason told.stage_is));
      }

  -- What it makes, gives and has left, whether it shares its messages out or copies them

  copying_seen : is_one_taker node.block.kind ≡ false → CopierSeen run ends b node
  copying_seen copying = copier_seen run ends b node law is copying

  makes_so : (sharing : Bool) → is_one_taker node.block.kind ≡ sharing → NodeMakes run ends b (block_of run b).kind
  makes_so true shares = makes_shared run ends b node law is known carries shares
  makes_so false copying =
      makes_copies run ends b (block_of run b).kind (ap is_one_taker (sym law.shape.kind_is) ∙ copying) (copying_seen copying).makes

  copies_so : (sharing : Bool) → is_one_taker node.block.kind ≡ sharing → copies_as (as_seen run ends) b (block_of run b).kind ≡ true
  copies_so true shares = copies_shared run ends b node law is known carries shares
  copies_so false copying =
      (copying_seen copying).copies (λ once. record { none_held = law.none_held once; carries = carries once })

  order_seen_so : (sharing : Bool) → is_one_taker node.block.kind ≡ sharing → keeps_link_order (as_seen run ends) b ≡ true
  order_seen_so true shares = order_shared run ends b node law is known carries shares
  order_seen_so false copying = (copying_seen copying).order

  source_keeps : (sharing : Bool) → is_one_taker node.block.kind ≡ sharing → (l : ℕ) → l < length run.layout.links
      → (link_of run l).source ≡ Block b → SourceKeeps run ends l b
  source_keeps true shares l small begins = source_shared run ends b node law is known carries shares l small begins
  source_keeps false copying l small begins = (copying_seen copying).sources l small begins

  left_gone_by : (sharing : Bool) → is_one_taker node.block.kind ≡ sharing → node.block.stopped ≡ Some outcome.Done
      → node.block.exits.left ≡ [] → is_empty (left_at run b) ≡ true
  left_gone_by true shares done none = ap is_empty (left_is run ends b node law is known carries shares ∙ none)
  left_gone_by false copying done none = ap is_empty ((copying_seen copying).done done)

  done_so : is_done (marks_of run b) ≡ true → (is_complete run b && has_nothing run b) ≡ true
  done_so e =
      let ended : is_done node.journal ≡ true = ap is_done (sym marks_are) ∙ e in
      let nothing = law.ends.done_empty (law.ends.stopped_is ∙ done_outcome node.journal law.marks.last ended) in
      and_from (is_complete run b) (has_nothing run b)
      (complete_so (is_join node.block.kind) refl nothing.0 (law.ends.done_complete ended))
      (and_from (every (λ p. is_empty (held_at run b p)) (ports_of run b)) (is_empty (left_at run b))
      (none_held run ends b node law is nothing.0) (left_gone_by (is_one_taker node.block.kind) refl
      (law.ends.stopped_is ∙ done_outcome node.journal law.marks.last ended) nothing.1))

  node_keeps : NodeKeeps run ends b
  node_keeps = record {
    own_marks = own_marks_so;
    makes = makes_so (is_one_taker node.block.kind) refl;
    room = room_so;
    level = level_so;
    copies_seen = copies_so (is_one_taker node.block.kind) refl;
    last = of_marks (λ marks. stops marks ≡ true) law.marks.last;
    once = of_marks (λ marks. completes_once marks ≡ true) law.marks.once;
    done = or_not (is_done (marks_of run b)) (is_complete run b && has_nothing run b) done_so;
    causes = causes_so;
    order_seen = order_seen_so (is_one_taker node.block.kind) refl;
    one_at_a_time = λ kind. one_so run ends b node law is known carries (ap is_one_taker law.shape.kind_is ∙ kind);
    sources = source_keeps (is_one_taker node.block.kind) refl;
    targets = target_keeps;
  }

pub nodes_are_lawful : (W : Type 0) → NodesAreLawful W
nodes_are_lawful W run ends b node there law is known carries = node_keeps run ends b node law is known carries
