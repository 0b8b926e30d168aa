-- An input that is done took all that was posted to it, where no other link leads to it.
use Rattle.std.proofs.Common.{◌≡◌, ℕ, zero, suc, ◌+◌, ◌<◌, ◌==◌, ◌&&◌, ◌||◌, not, Bool, true, false, List, [], ◌∷◌, length, Option, Some, None, refl, ap, sym, ◌∙◌, subst, arith, eqb-true}
use Rattle.std.proofs.lemmas.Bool.{and_parts}
use Rattle.flow_value.specs.declared.value.Value.{Value}
use Rattle.flow_link.specs.declared.draft.BlockKind.{BlockKind}
use Rattle.flow_link.specs.declared.draft.BlockKind.TheVariants.{WriteOnce, Join}
use Rattle.flow_link.specs.declared.plan.Link.{Link}
use Rattle.flow_link.specs.declared.plan.LinkTarget.TheVariants.{Port}
use Rattle.flow_link.specs.declared.trace.Mark.{Mark}
use Rattle.flow_link.specs.declared.trace.Mark.TheVariants.{Took, Gave, Complete, Fault, Done}
use Rattle.flow_link.specs.Layout.{input_link}
use Rattle.flow_link.specs.Plan.{is_write_once, ends_at_port, port_count}
use Rattle.flow_link.specs.Trace.{Run, has_complete, is_done, block_of, link_of, link_numbers, marks_of, ports_of, input_of, waits_over}
use Rattle.flow_link.specs.WellFormed.{IsWellFormed}
use Rattle.flow_link.specs.Lists.{every, some, is_empty, numbers_from}
use Rattle.flow_link.proofs.ListTests.{passes_below}
use Rattle.flow_lawful.specs.Endings.{is_complete, is_complete_as, has_nothing, ends_rightly, brings_from, brings_completion, has_cause, is_complete_ending}
use Rattle.flow_lawful.specs.Lawful.{Lawful}
use Rattle.flow_net.specs.States.{fault_in, state_from, state_by}
use Rattle.flow_net.specs.declared.settled.State.TheVariants as state
use Rattle.flow_report.specs.SameLists.{LeadsAlone, ends_with_ports}

done_is : (fault : Option ℕ) (done complete : Bool) → state_from fault done complete ≡ state.Done → done ≡ true
done_is (Some number) done complete e = absurd (cc)
done_is None true complete e = refl
done_is None false true e = absurd (cc)
done_is None false false e = absurd (cc)

after_it : (done rest : Bool) → done ≡ true → not done || rest ≡ true → rest ≡ true
after_it true rest is or = or
after_it false rest is or = absurd (cc)

none_waits : (values : List Value) → is_empty values ≡ true → values ≡ []
none_waits [] e = refl
none_waits (value ∷ values) e = absurd (cc)

-- a port that completed has a mark, which passes each test that all marks pass
complete_passes : (test : Mark → Bool) (p : ℕ) (marks : List Mark) → every test marks ≡ true → has_complete p marks ≡ true → test (Complete p) ≡ true
complete_passes test p [] all there = absurd (cc)
complete_passes test p (Complete port ∷ marks) all there =
    let both = and_parts (test (Complete port)) (every test marks) all in
    by_port (port == p) refl (complete_passes test p marks both.1) both.0 there
  where
    by_port : (same : Bool) → (port == p) ≡ same → (has_complete p marks ≡ true → test (Complete p) ≡ true) → test (Complete port) ≡ true
        → same || has_complete p marks ≡ true → test (Complete p) ≡ true
    by_port true is later first here = subst (λ (q : ℕ). test (Complete q) ≡ true) (eqb-true port p is) first
    by_port false is later first here = later here
complete_passes test p (Took port link value ∷ marks) all there = complete_passes test p marks (and_parts (test (Took port link value)) (every test marks) all).1 there
complete_passes test p (Gave link value ∷ marks) all there = complete_passes test p marks (and_parts (test (Gave link value)) (every test marks) all).1 there
complete_passes test p (Fault number ∷ marks) all there = complete_passes test p marks (and_parts (test (Fault number)) (every test marks) all).1 there
complete_passes test p (Done ∷ marks) all there = complete_passes test p marks (and_parts (test Done) (every test marks) all).1 there

-- where of some numbers only one may pass, and one does, it is that one
only_from : (test : ℕ → Bool) (first count l : ℕ) → ((k : ℕ) → k < first + count → test k ≡ true → k ≡ l)
    → some test (numbers_from first count) ≡ true → test l ≡ true
only_from test first zero l one there = absurd (cc)
only_from test first (suc count) l one there =
    by_first (test first) refl (only_from test (suc first) count l (λ k small passes. one k (omega (arith, small)) passes)) there
  where
    by_first : (b : Bool) → test first ≡ b → (some test (numbers_from (suc first) count) ≡ true → test l ≡ true)
        → b || some test (numbers_from (suc first) count) ≡ true → test l ≡ true
    by_first true is later e = subst (λ (k : ℕ). test k ≡ true) (one first (omega arith) is) is
    by_first false is later e = later e

module _ {W : Type 0} (run : Run W) (b : ℕ) (lawful : Lawful run) (well : IsWellFormed run.layout.blocks run.layout.links) (low : b < length run.layout.blocks) where
  ends_rightly_its : ends_rightly run b ≡ true
  ends_rightly_its = passes_below _ (length run.layout.blocks) b lawful.endings.done low

  causes_its : every (has_cause run b) (marks_of run b) ≡ true
  causes_its = passes_below _ (length run.layout.blocks) b lawful.endings.causes low

  all_completed : (kind : BlockKind) → ends_with_ports kind ≡ true → is_complete_as run kind b ≡ true
      → every (λ p. has_complete p (marks_of run b)) (ports_of run b) ≡ true
  all_completed WriteOnce with_ports complete = absurd (cc)
  all_completed Join with_ports complete = absurd (cc)
  all_completed _ with_ports complete = complete

  no_write_once : (kind : BlockKind) (some_link other : Bool) → ends_with_ports kind ≡ true → some_link || (is_write_once kind && other) ≡ true → some_link ≡ true
  no_write_once kind true other with_ports is = refl
  no_write_once WriteOnce false other with_ports is = absurd (cc)
  no_write_once _ false other with_ports is = absurd (cc)

  pub all_posted_taken : (l : ℕ) → state_by run b ≡ state.Done → ends_with_ports (block_of run b).kind ≡ true → LeadsAlone run b 0 l
      → link_of run l ≡ input_link b → waits_over run b l ≡ []
  all_posted_taken l is_done_state with_ports one leads =
      let marks = marks_of run b in
      let done : is_done marks ≡ true = done_is (fault_in marks) (is_done marks) (is_complete run b) is_done_state in
      let ended = and_parts (is_complete run b) (has_nothing run b) (after_it (is_done marks) (is_complete run b && has_nothing run b) done ends_rightly_its) in
      let ports = all_completed (block_of run b).kind with_ports ended.0 in
      let target : (link_of run l).target ≡ Port b 0 = ap (λ (link : Link). link.target) leads in
      let port : 0 < port_count (block_of run b) = (well.enters l b 0 one.there target).1 in
      let completed : has_complete 0 marks ≡ true = passes_below (λ p. has_complete p marks) (port_count (block_of run b)) 0 ports port in
      let cause = complete_passes (has_cause run b) 0 marks causes_its completed in
      let some_link : some (λ k. ends_at_port b 0 (link_of run k).target && brings_completion run k) (link_numbers run) ≡ true =
      no_write_once (block_of run b).kind _ _ with_ports cause in
      let this = only_from (λ k. ends_at_port b 0 (link_of run k).target && brings_completion run k) 0 (length run.layout.links) l
      (λ k there passes. one.alone k (omega (arith, there)) (and_parts (ends_at_port b 0 (link_of run k).target) (brings_completion run k) passes).0) some_link in
      let brings : brings_completion run l ≡ true = (and_parts (ends_at_port b 0 (link_of run l).target) (brings_completion run l) this).1 in
      let source : (link_of run l).source ≡ (input_link b).source = ap (λ (link : Link). link.source) leads in
      let from : brings_from run l (input_link b).source ≡ true = sym (ap (brings_from run l) source) ∙ brings in
      none_waits (waits_over run b l) (and_parts (is_complete_ending (input_of run b).ending) (is_empty (waits_over run b l)) from).1
