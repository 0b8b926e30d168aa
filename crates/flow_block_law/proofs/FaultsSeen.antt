-- Which faults the ends of a block's links in have seen, and what a change of one end leaves of that.
use Rattle.std.proofs.Common.{◌≡◌, ◌⊎◌, ℕ, zero, suc, ◌<◌, ◌≤◌, ◌==◌, ltb, ◌||◌, ◌&&◌, cond, Bool, true, false, List, [], ◌∷◌, length, set, map, Option, Some, None, is_some, option_map, unwrap_or, refl, ap, sym, subst, ◌∙◌, inl, inr, ⊎_elim, arith, eq-eqb}
use Rattle.std.proofs.lemmas.Bool.{and_from, and_parts, or_left, or_right, ltb-true, ltb-false}
use Rattle.flow_link.specs.declared.phase.LinkEnd.{LinkEnd}
use Rattle.flow_link.specs.declared.phase.Phase.{Phase}
use Rattle.flow_link.specs.declared.stage.TargetStage.{TargetStage}
use Rattle.flow_link.specs.declared.stage.TargetStage.TheVariants as target
use Rattle.flow_lawful.specs.Endings.{is_number}
use Rattle.flow_link.specs.Lists.{some}
use Rattle.flow_link.specs.Stage.{target_looks}
use Rattle.flow_link.proofs.ListTests.{never_both, or_weaker}
use Rattle.flow_intake.specs.Port.{EndState, PortState, end_in, link_in, stage_in}
use Rattle.flow_intake.specs.Ended.{is_completion, fault_seen, came_over, fault_over, first_some, of_lower_link, fault_at_ends}
use Rattle.flow_block.specs.Block.{port_in}
use Rattle.flow_block_law.specs.NodeLaw.{is_fault_seen}
use Rattle.flow_block_law.specs.LinkFaults.{has_brought, LowestLinkCounts}
use Rattle.flow_block.specs.Peeks.{link_fault, fault_at_ports}

-- An end that stands where no end of a link is seen

pub record Unseen (stage : TargetStage) : Type 0 where
  pub completion : is_completion stage ≡ false
  pub fault : fault_seen stage ≡ None

pub unseen_where : (test : TargetStage → Bool) → ((how : LinkEnd) → test (target.Ended how) ≡ false)
    → (stage : TargetStage) → test stage ≡ true → Unseen stage
unseen_where test ended_not (target.Ended how) e = never_both (test (target.Ended how)) e (ended_not how)
unseen_where test ended_not _ e = record { completion = refl; fault = refl }

-- A fault that was seen stays seen

abbrev pub StaysSeen : {A : Type 0} → Option A → Option A → Type 0
StaysSeen before after = is_some before ≡ true → is_some after ≡ true

stays_lower : (first later first' later' : Option (ℕ × ℕ)) → StaysSeen first first' → StaysSeen later later'
    → StaysSeen (of_lower_link first later) (of_lower_link first' later')
stays_lower first later (Some n) (Some m) f g e = refl
stays_lower first later (Some n) None f g e = refl
stays_lower first later None (Some m) f g e = refl
stays_lower (Some n) later None None f g e = let wrong : false ≡ true = f refl in cc
stays_lower None later None None f g e = g e

stays_over : (link link' : ℕ) (before after : Option ℕ) → StaysSeen before after
    → StaysSeen (came_over link before) (came_over link' after)
stays_over link link' before (Some n) f e = refl
stays_over link link' (Some n) None f e = let wrong : false ≡ true = f refl in cc
stays_over link link' None None f e = e

stays_numbered : (before after : Option (ℕ × ℕ)) → StaysSeen before after
    → StaysSeen (option_map (λ (fault : ℕ × ℕ). fault.1) before) (option_map (λ (fault : ℕ × ℕ). fault.1) after)
stays_numbered before (Some n) f e = refl
stays_numbered (Some n) None f e = let wrong : false ≡ true = f refl in cc
stays_numbered None None f e = e

pub stays_at_ends : (ends : List EndState) (place : ℕ) (end : EndState)
    → StaysSeen (fault_seen (end_in place ends).stage) (fault_seen end.stage)
    → StaysSeen (fault_at_ends ends) (fault_at_ends (set ends place end))
stays_at_ends [] place end stays e = cc
stays_at_ends (first ∷ ends) zero end stays e =
    stays_lower (fault_over first) (fault_at_ends ends) (fault_over end) (fault_at_ends ends)
    (stays_over first.link end.link (fault_seen first.stage) (fault_seen end.stage) stays) (λ l. l) e
stays_at_ends (first ∷ ends) (suc place) end stays e =
    stays_lower (fault_over first) (fault_at_ends ends) (fault_over first)
    (fault_at_ends (set ends place end)) (λ l. l) (stays_at_ends ends place end stays) e

stays_over_links : (ports : List PortState) (p : ℕ) (port : PortState)
    → StaysSeen (fault_at_ends (port_in ports p).ends) (fault_at_ends port.ends)
    → StaysSeen (link_fault ports) (link_fault (set ports p port))
stays_over_links [] p port stays e = cc
stays_over_links (first ∷ ports) zero port stays e =
    stays_lower (fault_at_ends first.ends) (link_fault ports) (fault_at_ends port.ends) (link_fault ports)
    stays (λ l. l) e
stays_over_links (first ∷ ports) (suc p) port stays e =
    stays_lower (fault_at_ends first.ends) (link_fault ports) (fault_at_ends first.ends)
    (link_fault (set ports p port)) (λ l. l) (stays_over_links ports p port stays) e

pub stays_at_ports : (ports : List PortState) (p : ℕ) (port : PortState)
    → StaysSeen (fault_at_ends (port_in ports p).ends) (fault_at_ends port.ends)
    → StaysSeen (fault_at_ports ports) (fault_at_ports (set ports p port))
stays_at_ports ports p port stays =
    stays_numbered (link_fault ports) (link_fault (set ports p port)) (stays_over_links ports p port stays)

-- no end of a link changes
same_over_links : (change : PortState → PortState) → ((port : PortState) → (change port).ends ≡ port.ends)
    → (ports : List PortState) → link_fault (map change ports) ≡ link_fault ports
same_over_links change same [] = refl
same_over_links change same (port ∷ ports) =
    ap (λ (ends : List EndState). of_lower_link (fault_at_ends ends) (link_fault (map change ports))) (same port)
    ∙ ap (λ (later : Option (ℕ × ℕ)). of_lower_link (fault_at_ends port.ends) later) (same_over_links change same ports)

pub seen_over_ports : (change : PortState → PortState) → ((port : PortState) → (change port).ends ≡ port.ends)
    → (ports : List PortState)
    → fault_at_ports (map change ports) ≡ fault_at_ports ports
seen_over_ports change same ports =
    ap (λ (fault : Option (ℕ × ℕ)). option_map (λ (f : ℕ × ℕ). f.1) fault) (same_over_links change same ports)

pub seen_by_looks : (stage : TargetStage) (phase : Phase)
    → StaysSeen (fault_seen stage) (fault_seen (target_looks stage phase))
seen_by_looks (target.Ended how) phase e = e
seen_by_looks _ phase e = cc

-- Why a block faults

-- the port has seen this fault
abbrev pub sees_at : ℕ → PortState → Bool
sees_at number port = some (λ (end : EndState). is_fault_seen number end) port.ends

one_of_both : (first later : Option (ℕ × ℕ)) (fault : ℕ × ℕ) → of_lower_link first later ≡ Some fault
    → (first ≡ Some fault) ⊎ (later ≡ Some fault)
one_of_both None later fault is = inr is
one_of_both (Some one) None fault is = inl is
one_of_both (Some one) (Some other) fault is = by_lower (ltb other.0 one.0) is
  where
    by_lower : (less : Bool) → Some (cond less other one) ≡ Some fault → (Some one ≡ Some fault) ⊎ (Some other ≡ Some fault)
    by_lower true is = inr is
    by_lower false is = inl is

fault_there : (fault : ℕ × ℕ) (link : ℕ) (seen : Option ℕ) → came_over link seen ≡ Some fault
    → ((link == fault.0) && is_number fault.1 seen) ≡ true
fault_there fault link None is = absurd (cc)
fault_there fault link (Some number) is =
    let same = ap (λ (o : Option (ℕ × ℕ)). unwrap_or o fault) is in
    and_from (link == fault.0) (number == fault.1)
    (eq-eqb link fault.0 (ap (λ (f : ℕ × ℕ). f.0) same)) (eq-eqb number fault.1 (ap (λ (f : ℕ × ℕ). f.1) same))

came_at_ends : (fault : ℕ × ℕ) (ends : List EndState) → fault_at_ends ends ≡ Some fault
    → some (λ (end : EndState). has_brought fault end) ends ≡ true
came_at_ends fault [] is = absurd (cc)
came_at_ends fault (end ∷ ends) is =
    let rest = some (λ (e : EndState). has_brought fault e) ends in
    ⊎_elim
    (λ here. or_left (has_brought fault end) rest (fault_there fault end.link (fault_seen end.stage) here))
    (λ later. or_right (has_brought fault end) rest (came_at_ends fault ends later))
    (one_of_both (fault_over end) (fault_at_ends ends) fault is)

pub came_at_ports : (fault : ℕ × ℕ) (ports : List PortState) → link_fault ports ≡ Some fault
    → some (λ (port : PortState). some (λ (end : EndState). has_brought fault end) port.ends) ports ≡ true
came_at_ports fault [] is = absurd (cc)
came_at_ports fault (port ∷ ports) is =
    let here = some (λ (end : EndState). has_brought fault end) port.ends in
    let rest = some (λ (q : PortState). some (λ (end : EndState). has_brought fault end) q.ends) ports in
    ⊎_elim
    (λ first. or_left here rest (came_at_ends fault port.ends first))
    (λ later. or_right here rest (came_at_ports fault ports later))
    (one_of_both (fault_at_ends port.ends) (link_fault ports) fault is)

-- an end that brought a fault has seen its number
brought_seen : (fault : ℕ × ℕ) (ends : List EndState) → some (λ (end : EndState). has_brought fault end) ends ≡ true
    → some (λ (end : EndState). is_fault_seen fault.1 end) ends ≡ true
brought_seen fault [] e = absurd (cc)
brought_seen fault (end ∷ ends) e =
    or_weaker (has_brought fault end) (some (λ (e : EndState). has_brought fault e) ends) (is_fault_seen fault.1 end)
    (some (λ (e : EndState). is_fault_seen fault.1 e) ends)
    (λ here. (and_parts (end.link == fault.0) (is_fault_seen fault.1 end) here).1) (brought_seen fault ends) e

brought_to_ports : (fault : ℕ × ℕ) (ports : List PortState)
    → some (λ (port : PortState). some (λ (end : EndState). has_brought fault end) port.ends) ports ≡ true
    → some (λ (port : PortState). sees_at fault.1 port) ports ≡ true
brought_to_ports fault [] e = absurd (cc)
brought_to_ports fault (port ∷ ports) e =
    or_weaker (some (λ (end : EndState). has_brought fault end) port.ends)
    (some (λ (q : PortState). some (λ (end : EndState). has_brought fault end) q.ends) ports)
    (sees_at fault.1 port) (some (λ (q : PortState). sees_at fault.1 q) ports)
    (brought_seen fault port.ends) (brought_to_ports fault ports) e

pub seen_at_ports : (number : ℕ) (ports : List PortState) → fault_at_ports ports ≡ Some number
    → some (λ (port : PortState). sees_at number port) ports ≡ true
seen_at_ports number ports is = by_fault (link_fault ports) refl is
  where
    by_fault : (fault : Option (ℕ × ℕ)) → link_fault ports ≡ fault
        → option_map (λ (f : ℕ × ℕ). f.1) fault ≡ Some number
        → some (λ (port : PortState). sees_at number port) ports ≡ true
    by_fault None told is = absurd (cc)
    by_fault (Some fault) told is =
        let same : fault.1 ≡ number = ap (λ (o : Option ℕ). unwrap_or o number) is in
        subst (λ (n : ℕ). some (λ (port : PortState). sees_at n port) ports ≡ true) same
        (brought_to_ports fault ports (came_at_ports fault ports told))

pub record SeenCause (fault : Option ℕ) (nothing : Bool) (seen : Option ℕ) (number : ℕ) : Type 0 where
  pub none : fault ≡ None
  pub empty : nothing ≡ true
  pub seen_is : seen ≡ Some number

pub cause_tells : (fault : Option ℕ) (nothing : Bool) (seen : Option ℕ) (number : ℕ)
    → first_some fault (cond nothing seen None) ≡ Some number
    → (fault ≡ Some number) ⊎ SeenCause fault nothing seen number
cause_tells (Some n) nothing seen number is = inl is
cause_tells None true seen number is = inr (record { none = refl; empty = refl; seen_is = is })
cause_tells None false seen number is = absurd (cc)

-- a cause that is there is the block's own fault or one that it has seen
pub cause_pending : (fault seen : Option ℕ) (empty : Bool)
    → is_some (first_some fault (cond empty seen None)) ≡ true → is_some fault || is_some seen ≡ true
cause_pending (Some number) seen empty e = refl
cause_pending None (Some number) empty e = refl
cause_pending None None true e = e
cause_pending None None false e = e

-- Where none is seen

pub first_none : (own later : Option ℕ) → first_some own later ≡ None → (own ≡ None) × (later ≡ None)
first_none None later e = (refl, e)
first_none (Some n) later e = absurd (cc)

lower_none : (first later : Option (ℕ × ℕ)) → of_lower_link first later ≡ None → (first ≡ None) × (later ≡ None)
lower_none None later e = (refl, e)
lower_none (Some f) None e = absurd (cc)
lower_none (Some f) (Some g) e = absurd (cc)

none_came : (link : ℕ) (seen : Option ℕ) → came_over link seen ≡ None → seen ≡ None
none_came link None e = refl
none_came link (Some n) e = absurd (cc)

pub not_seen_at_ends : (ends : List EndState) (k : ℕ) → fault_at_ends ends ≡ None → k < length ends
    → fault_seen (stage_in k ends) ≡ None
not_seen_at_ends [] k e small = absurd (omega arith)
not_seen_at_ends (end ∷ ends) zero e small =
    none_came end.link (fault_seen end.stage) (lower_none (fault_over end) (fault_at_ends ends) e).0
not_seen_at_ends (end ∷ ends) (suc k) e small =
    not_seen_at_ends ends k (lower_none (fault_over end) (fault_at_ends ends) e).1 (omega arith)

none_over_links : (ports : List PortState) (p : ℕ) → link_fault ports ≡ None → p < length ports
    → fault_at_ends (port_in ports p).ends ≡ None
none_over_links [] p e small = absurd (omega arith)
none_over_links (port ∷ ports) zero e small = (lower_none (fault_at_ends port.ends) (link_fault ports) e).0
none_over_links (port ∷ ports) (suc p) e small =
    none_over_links ports p (lower_none (fault_at_ends port.ends) (link_fault ports) e).1 (omega arith)

pub not_seen_at_ports : (ports : List PortState) (p : ℕ) → fault_at_ports ports ≡ None → p < length ports
    → fault_at_ends (port_in ports p).ends ≡ None
not_seen_at_ports ports p e small = none_over_links ports p (unnumbered (link_fault ports) e) small
  where
    unnumbered : (fault : Option (ℕ × ℕ)) → option_map (λ (f : ℕ × ℕ). f.1) fault ≡ None → fault ≡ None
    unnumbered None e = refl
    unnumbered (Some f) e = absurd (cc)

-- The fault that is told came over no link with a higher number than another

abbrev AtMost : ℕ × ℕ → Option (ℕ × ℕ) → Type 0
AtMost fault None = Unit {0}
AtMost fault (Some other) = fault.0 ≤ other.0

lower_tells : (fault : ℕ × ℕ) (first later : Option (ℕ × ℕ)) → AtMost fault (of_lower_link first later)
    → AtMost fault first × AtMost fault later
lower_tells fault None later least = (tt, least)
lower_tells fault (Some one) None least = (least, tt)
lower_tells fault (Some one) (Some other) least = by_lower (ltb other.0 one.0) refl least
  where
    by_lower : (less : Bool) → ltb other.0 one.0 ≡ less → fault.0 ≤ (cond less other one).0
        → (fault.0 ≤ one.0) × (fault.0 ≤ other.0)
    by_lower true is least = (omega (arith, least, ltb-true other.0 one.0 is), least)
    by_lower false is least = (least, omega (arith, least, ltb-false other.0 one.0 is))

came_at_most : (fault : ℕ × ℕ) (link : ℕ) (seen : Option ℕ) → AtMost fault (came_over link seen) → is_some seen ≡ true
    → fault.0 ≤ link
came_at_most fault link None least some = absurd (cc)
came_at_most fault link (Some number) least some = least

least_at_ends : (fault : ℕ × ℕ) (ends : List EndState) (k : ℕ) → AtMost fault (fault_at_ends ends) → k < length ends
    → is_some (fault_seen (stage_in k ends)) ≡ true → fault.0 ≤ link_in k ends
least_at_ends fault [] k least small some = absurd (omega arith)
least_at_ends fault (end ∷ ends) zero least small some =
    came_at_most fault end.link (fault_seen end.stage) (lower_tells fault (fault_over end) (fault_at_ends ends) least).0 some
least_at_ends fault (end ∷ ends) (suc k) least small some =
    least_at_ends fault ends k (lower_tells fault (fault_over end) (fault_at_ends ends) least).1 (omega arith) some

least_at_ports : (fault : ℕ × ℕ) (ports : List PortState) (p : ℕ) → AtMost fault (link_fault ports) → p < length ports
    → AtMost fault (fault_at_ends (port_in ports p).ends)
least_at_ports fault [] p least small = absurd (omega arith)
least_at_ports fault (port ∷ ports) zero least small =
    (lower_tells fault (fault_at_ends port.ends) (link_fault ports) least).0
least_at_ports fault (port ∷ ports) (suc p) least small =
    least_at_ports fault ports p (lower_tells fault (fault_at_ends port.ends) (link_fault ports) least).1 (omega arith)

pub lowest_link_counts : LowestLinkCounts
lowest_link_counts = record {
  there = λ ports fault told. came_at_ports fault ports told;
  lowest = λ ports fault told p k port_there there seen.
      least_at_ends fault (port_in ports p).ends k
      (least_at_ports fault ports p (subst (λ (o : Option (ℕ × ℕ)). AtMost fault o) (sym told) (omega arith)) port_there)
      there seen;
  none = λ ports told p k port_there there.
      not_seen_at_ends (port_in ports p).ends k (none_over_links ports p told port_there) there;
}
