-- Each part of the network in which two messages wait keeps its own laws, and has nothing left to do.
use Rattle.std.proofs.Common.{◌≡◌, ℕ, zero, suc, ◌<◌, true, false, [], ◌∷◌, refl, subst, arith}
use Rattle.flow_link.specs.declared.plan.LinkSource.{LinkSource}
use Rattle.flow_link.specs.declared.plan.LinkSource.TheVariants.{Block, Input}
use Rattle.flow_link.specs.declared.plan.LinkTarget.{LinkTarget}
use Rattle.flow_link.specs.declared.plan.LinkTarget.TheVariants.{Port, Exit}
use Rattle.flow_lawful.specs.Quiet.{admits_head, head_from}
use Rattle.flow_link.specs.Trace.{Run, link_of, marks_of, has_ended}
use Rattle.flow_link.specs.Views.{SourceStage}
use Rattle.flow_law.specs.Examples.{Work, digit}
use Rattle.flow_lawful.specs.Composes.{Ends, SourceKeeps, TargetKeeps, InputKeeps, ExitKeeps, NodeKeeps, LinkKeeps, PartsKeep, facts_of, is_done_with, is_spoken_for, is_refused_phase}
use Rattle.flow_lawful.specs.RestsByParts.{LinkSeen, LinkRests, OutletRests, PortRests, KindRests, InputRests, PartsRest, NodeIsStill, InputIsStill, ExitIsStill, EndsAreStill, has_to_wait, has_offer_out, asks_somewhere, is_over, is_postponed, has_seen_end, is_to_hand_over, is_wished_for, is_to_receive, is_holding}
use Rattle.flow_law.specs.WaitsAtRest.{two_wait, ends_of_two, TwoWaitAtRest}
use Rattle.flow_law.proofs.KeptInMidMove.{rests_in_order}

abbrev run : Run Work
run = two_wait

abbrev ends : ℕ → Ends
ends = ends_of_two

abbrev LeadsFrom : ℕ → LinkSource → Type 0
LeadsFrom l s = (link_of run l).source ≡ s

abbrev LeadsTo : ℕ → LinkTarget → Type 0
LeadsTo l t = (link_of run l).target ≡ t

-- of each of the five links
each_link : (P : ℕ → Type 0) → P 0 → P 1 → P 2 → P 3 → P 4 → (l : ℕ) → l < 5 → P l
each_link P a b c d e zero small = a
each_link P a b c d e (suc zero) small = b
each_link P a b c d e (suc (suc zero)) small = c
each_link P a b c d e (suc (suc (suc zero))) small = d
each_link P a b c d e (suc (suc (suc (suc zero)))) small = e
each_link P a b c d e (suc (suc (suc (suc (suc l))))) small = absurd (omega arith)

-- and of each of the four blocks
each_block : (P : ℕ → Type 0) → P 0 → P 1 → P 2 → P 3 → (b : ℕ) → b < 4 → P b
each_block P a b c d zero small = a
each_block P a b c d (suc zero) small = b
each_block P a b c d (suc (suc zero)) small = c
each_block P a b c d (suc (suc (suc zero))) small = d
each_block P a b c d (suc (suc (suc (suc n)))) small = absurd (omega arith)

-- what holds of a link's own block, port or input holds wherever the link leads
at_block : (P : ℕ → Type 0) (c b : ℕ) → P c → Block c ≡ Block b → P b
at_block P c b here e = let same : c ≡ b = cc in subst P same here

at_input : (P : ℕ → Type 0) (c b : ℕ) → P c → Input c ≡ Input b → P b
at_input P c b here e = let same : c ≡ b = cc in subst P same here

at_port : (P : ℕ → ℕ → Type 0) (c q b p : ℕ) → P c q → Port c q ≡ Port b p → P b p
at_port P c q b p here e =
    let block : c ≡ b = cc in
    let port : q ≡ p = cc in
    subst (λ (n : ℕ). P n p) block (subst (λ (n : ℕ). P c n) port here)

from_block : (P : ℕ → ℕ → Type 0) → P 0 0 → P 1 1 → P 2 3 → (l b : ℕ) → l < 5 → LeadsFrom l (Block b) → P l b
from_block P first second third l b =
    each_link (λ l. LeadsFrom l (Block b) → P l b)
    (at_block (P 0) 0 b first) (at_block (P 1) 1 b second) (at_block (P 2) 3 b third) (λ e. absurd (cc)) (λ e. absurd (cc)) l

from_input : (P : ℕ → ℕ → Type 0) → P 3 0 → P 4 3 → (l b : ℕ) → l < 5 → LeadsFrom l (Input b) → P l b
from_input P first second l b =
    each_link (λ l. LeadsFrom l (Input b) → P l b)
    (λ e. absurd (cc)) (λ e. absurd (cc)) (λ e. absurd (cc)) (at_input (P 3) 0 b first) (at_input (P 4) 3 b second) l

to_port : (P : ℕ → ℕ → ℕ → Type 0) → P 0 1 0 → P 1 2 0 → P 2 2 1 → P 3 0 0 → P 4 3 0
    → (l b p : ℕ) → l < 5 → LeadsTo l (Port b p) → P l b p
to_port P first second third fourth fifth l b p =
    each_link (λ l. LeadsTo l (Port b p) → P l b p)
    (at_port (P 0) 1 0 b p first) (at_port (P 1) 2 0 b p second) (at_port (P 2) 2 1 b p third)
    (at_port (P 3) 0 0 b p fourth) (at_port (P 4) 3 0 b p fifth) l

no_exit : (P : ℕ → Type 0) → (l : ℕ) → l < 5 → LeadsTo l Exit → P l
no_exit P =
    each_link (λ l. LeadsTo l Exit → P l)
    (λ e. absurd (cc)) (λ e. absurd (cc)) (λ e. absurd (cc)) (λ e. absurd (cc)) (λ e. absurd (cc))

-- the links
waits_for_room : LinkKeeps run ends 0
waits_for_room = record {
  same_start = refl;
  stages = (refl, refl);
  ids = omega arith;
  values = record { empty = refl; all = refl };
  plan = record {
    put_off = record { not_steady = refl; not_the_first = λ sole. omega arith };
    freely = tt;
    reserved = tt;
    within = tt;
    room = tt;
    ends = tt;
  };
}

waits_for_partner : LinkKeeps run ends 1
waits_for_partner = record {
  same_start = refl;
  stages = (refl, refl);
  ids = omega arith;
  values = record { empty = refl; all = refl };
  plan = record {
    put_off = record { not_steady = refl; not_the_first = λ sole. absurd (cc) };
    freely = tt;
    reserved = tt;
    within = tt;
    room = tt;
    ends = tt;
  };
}

links_in_order : (l : ℕ) → l < 5 → LinkKeeps run ends l
links_in_order =
    each_link (LinkKeeps run ends) waits_for_room waits_for_partner
    (rests_in_order (facts_of run ends 2) [] tt)
    (rests_in_order (facts_of run ends 3) (digit 1 ∷ digit 2 ∷ []) tt)
    (rests_in_order (facts_of run ends 4) [] tt)

-- the parts keep their laws
sources : (l b : ℕ) → l < 5 → LeadsFrom l (Block b) → SourceKeeps run ends l b
sources =
    from_block (SourceKeeps run ends)
    (record { from_start = refl; given = refl; admitted = refl; after_done = λ e. cc; after_fault = λ fault e. cc; after_plain = λ e. cc })
    (record { from_start = refl; given = refl; admitted = refl; after_done = λ e. cc; after_fault = λ fault e. cc; after_plain = λ e. cc })
    (record { from_start = refl; given = refl; admitted = refl; after_done = λ e. cc; after_fault = λ fault e. cc; after_plain = λ e. cc })

targets : (l b p : ℕ) → l < 5 → LeadsTo l (Port b p) → TargetKeeps run ends l b p
targets =
    to_port (TargetKeeps run ends)
    (record { from_start = refl; taken = refl; refuses = λ why e. cc })
    (record { from_start = refl; taken = refl; refuses = λ why e. cc })
    (record { from_start = refl; taken = refl; refuses = λ why e. cc })
    (record { from_start = refl; taken = refl; refuses = λ why e. cc })
    (record { from_start = refl; taken = refl; refuses = λ why e. cc })

none_is_spoken_for : (l : ℕ) → l < 5 → is_spoken_for (ends l).source.stage ≡ false
none_is_spoken_for = each_link (λ l. is_spoken_for (ends l).source.stage ≡ false) refl refl refl refl refl

speaks_for_one : {P : Type 0} (l : ℕ) → l < 5 → is_spoken_for (ends l).source.stage ≡ true → P
speaks_for_one l small e = absurd (let none = none_is_spoken_for l small in cc)

nodes_keep : (b : ℕ) → b < 4 → NodeKeeps run ends b
nodes_keep =
    each_block (NodeKeeps run ends)
    (record {
      own_marks = refl;
      makes = refl;
      room = refl;
      level = refl;
      copies_seen = refl;
      last = refl;
      once = refl;
      done = refl;
      causes = refl;
      order_seen = refl;
      one_at_a_time = λ taker k l ks ls ek el sk sl. speaks_for_one k ks sk;
      sources = λ l. sources l 0;
      targets = λ l. targets l 0;
    })
    (record {
      own_marks = refl;
      makes = refl;
      room = refl;
      level = refl;
      copies_seen = refl;
      last = refl;
      once = refl;
      done = refl;
      causes = refl;
      order_seen = refl;
      one_at_a_time = λ taker k l ks ls ek el sk sl. speaks_for_one k ks sk;
      sources = λ l. sources l 1;
      targets = λ l. targets l 1;
    })
    (record {
      own_marks = refl;
      makes = refl;
      room = refl;
      level = refl;
      copies_seen = refl;
      last = refl;
      once = refl;
      done = refl;
      causes = refl;
      order_seen = refl;
      one_at_a_time = λ taker k l ks ls ek el sk sl. speaks_for_one k ks sk;
      sources = λ l. sources l 2;
      targets = λ l. targets l 2;
    })
    (record {
      own_marks = refl;
      makes = refl;
      room = refl;
      level = refl;
      copies_seen = refl;
      last = refl;
      once = refl;
      done = refl;
      causes = refl;
      order_seen = refl;
      one_at_a_time = λ taker k l ks ls ek el sk sl. speaks_for_one k ks sk;
      sources = λ l. sources l 3;
      targets = λ l. targets l 3;
    })

inputs_keep : (l b : ℕ) → l < 5 → LeadsFrom l (Input b) → InputKeeps run ends l b
inputs_keep =
    from_input (InputKeeps run ends)
    (record { from_start = refl; given = refl; after_complete = λ e. cc; after_fault = λ fault e. cc; never_plain = λ e. cc })
    (record { from_start = refl; given = refl; after_complete = λ e. cc; after_fault = λ fault e. cc; never_plain = λ e. cc })

none_refused : (l : ℕ) → run.trace.refused l ≡ is_refused_phase (ends l).phase
none_refused zero = refl
none_refused (suc zero) = refl
none_refused (suc (suc zero)) = refl
none_refused (suc (suc (suc zero))) = refl
none_refused (suc (suc (suc (suc l)))) = refl

parts_keep : PartsKeep run ends
parts_keep = record {
  shape = record { blocks = refl; inputs = refl; ports = refl };
  nodes = nodes_keep;
  inputs = inputs_keep;
  exits = no_exit (ExitKeeps run ends);
  links = links_in_order;
  refused = none_refused;
  from_blocks = from_block (λ l b. b < 4) (omega arith) (omega arith) (omega arith);
  to_blocks = to_port (λ l b p. b < 4) (omega arith) (omega arith) (omega arith) (omega arith) (omega arith);
}

-- and have nothing left to do
seen : (l : ℕ) → l < 5 → LinkSeen run ends l
seen =
    each_link (LinkSeen run ends)
    (record { by_source = refl; by_target = refl }) (record { by_source = refl; by_target = refl }) (record { by_source = refl; by_target = refl })
    (record { by_source = refl; by_target = refl }) (record { by_source = refl; by_target = refl })

outlet_rests : (b : ℕ) → OutletRests run ends b
outlet_rests b = record {
  ended = λ l. from_block (λ l b. is_done_with run ends l b ≡ true → is_over (ends l).source.stage ≡ true)
      (λ over. cc) (λ over. cc) (λ over. cc) l b;
  offered = λ l. from_block (λ l b. (ends l).source.stage ≡ SourceStage.free → admits_head run l (head_from run l (Block b)) ≡ false)
      (λ free. cc) (λ free. cc) (λ free. refl) l b;
}

port_rests : (b p : ℕ) → PortRests run ends b p
port_rests b p = record {
  put_off = λ l. to_port (λ l b p. is_postponed (ends l).target.stage ≡ true → has_to_wait run ends b p ≡ true)
      (λ put. refl) (λ put. refl) (λ put. cc) (λ put. cc) (λ put. cc) l b p;
  ended = λ l. to_port (λ l b p. has_seen_end (ends l).target.stage ≡ true → has_ended p (marks_of run b) ≡ true)
      (λ seen. cc) (λ seen. cc) (λ seen. cc) (λ seen. cc) (λ seen. cc) l b p;
}

kinds_rest : (b : ℕ) → b < 4 → KindRests run ends b
kinds_rest =
    each_block (KindRests run ends)
    (record { worked = refl; done = refl; served = refl }) (record { worked = refl; done = refl; served = refl })
    (record { worked = refl; done = refl; served = refl }) (record { worked = refl; done = refl; served = refl })

parts_rest : PartsRest run ends
parts_rest = record {
  seen = seen;
  links = each_link (LinkRests run ends) refl refl refl refl refl;
  nodes = λ b small. record { kind = kinds_rest b small; outlet = outlet_rests b; ports = port_rests b };
  inputs = from_input (InputRests run ends)
      (record { ended = λ closed none. cc; offered = λ free. refl })
      (record { ended = λ closed none. cc; offered = λ free. refl });
}

nodes_are_still : (b : ℕ) → NodeIsStill run ends b
nodes_are_still b = record {
  gives = λ l. from_block (λ l b. is_to_hand_over (ends l).source.stage ≡ false) refl refl refl l b;
  answers = λ l. from_block (λ l b. is_wished_for (ends l).source.stage ≡ true → has_offer_out run ends b ≡ true)
      (λ wished. cc) (λ wished. cc) (λ wished. cc) l b;
  receives = λ l p. to_port (λ l b p. is_to_receive (ends l).target.stage ≡ false) refl refl refl refl refl l b p;
  claims = λ l p. to_port (λ l b p. is_holding (ends l).target.stage ≡ true → asks_somewhere run ends b ≡ true)
      (λ holds. cc) (λ holds. cc) (λ holds. cc) (λ holds. cc) (λ holds. cc) l b p;
}

ends_are_still : EndsAreStill run ends
ends_are_still = record {
  seen = seen;
  nodes = λ b small. nodes_are_still b;
  inputs = from_input (λ l b. InputIsStill run ends l) (record { gives = refl; answers = refl }) (record { gives = refl; answers = refl });
  exits = no_exit (ExitIsStill run ends);
}

pub two_wait_at_rest : TwoWaitAtRest
two_wait_at_rest = record { keep = parts_keep; still = ends_are_still; rest = parts_rest }
