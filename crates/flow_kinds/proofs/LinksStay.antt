-- By each call a block has as many ports, and each link leads into the same one; what it awaits, only the calls of a target change.
use Rattle.std.proofs.Common.{◌≡◌, ℕ, zero, suc, ◌==◌, nat_lt, Bool, true, false, cond, List, [], ◌∷◌, length, set, take, position, Option, Some, None, is_some, unwrap_or, Ok, Err, inl, inr, refl, ap, ap₂, sym, subst, ◌∙◌, arith}
use Rattle.std.specs.List.{position_or_len}
use Rattle.std.proofs.lemmas.Bool.{cases_eq}
use Rattle.std.proofs.lemmas.List.{length-set}
use Rattle.std.proofs.lemmas.List.Quantifiers.{position-Some}
use Rattle.flow_value.specs.declared.value.Value.{Value}
use Rattle.flow_value.specs.declared.message.MessageStatus.{MessageStatus}
use Rattle.flow_value.specs.declared.message.MessageStatus.TheVariants as status
use Rattle.flow_link.proofs.PlacesNamed.{place_set, place_is}
use Rattle.flow_link.specs.BlockCalls.{BlockCall}
use Rattle.flow_link.specs.SourceCalls.{SourceCall}
use Rattle.flow_link.specs.TargetCalls.{TargetCall, is_awaited}
use Rattle.flow_link.specs.declared.stage.Refusal.{Refusal}
use Rattle.flow_link.specs.declared.stage.TargetStage.{TargetStage}
use Rattle.flow_link.specs.declared.stage.TargetStage.TheVariants as target
use Rattle.flow_link.specs.declared.traits.MakeFault.TheVariants as make_fault
use Rattle.flow_link.specs.declared.traits.Wish.{Wish}
use Rattle.flow_link.specs.declared.traits.WishAnswer.{WishAnswer}
use Rattle.flow_link.specs.declared.traits.WishAnswer.TheVariants as answer
use Rattle.flow_intake.specs.Port.{EndState, PortState, fresh_end, fresh_port, end_in, stage_in, stage_at}
use Rattle.flow_intake.specs.Calls.{refused_by, put_stage, next_place, is_postponed, asks, claims, releases, consumes as port_consumes}
use Rattle.flow_intake.specs.ByLink.{place_of, with_link_at, with_link, place_in, closes_link, answered, arrives, arrives_at, drops_at, consumes_at, consumes_next}
use Rattle.flow_group.specs.Group.{takes_from}
use Rattle.flow_block.specs.Block.{BlockState, port_in, port_at, copies_at_once, copies_where}
use Rattle.flow_block.specs.Traits.{Acts, Gives, Takes, settles, port_shown, has_link, port_into, target_over, holds_at, notes, with_port_of, wishing_port, wishes}
use Rattle.flow_block.proofs.TargetStands.{SameLinks, links_stay, has_known}
use Rattle.flow_kinds.specs.BatchedJoin.{JoinState}
use Rattle.flow_kinds.specs.BatchedCalls.{Acts as JoinActs}
use Rattle.flow_kinds.specs.ReservingJoin.{ReservingState}
use Rattle.flow_kinds.specs.ReservingCalls.{Takes as ReservingTakes}
use Rattle.flow_kinds.specs.Steady.{PortsStay, AwaitsTheSame}
use Rattle.flow_kinds.specs.Wishes.{front_place, after_wish}
use Rattle.flow_kinds.proofs.BlockLasts.{Lasts, asked_lasts, acts_last, gives_last, once_lasts}
use Rattle.flow_kinds.proofs.WishesTell.{by_wish}

-- Where the ends of all ports stay

abbrev place_below : ℕ → ℕ → Option ℕ
place_below n count = cond (nat_lt n count) (Some n) None

module _ (test : PortState → Bool) where
  first_same : (later ports : List PortState) → length later ≡ length ports → ((q : ℕ) → test (port_in later q) ≡ test (port_in ports q))
      → position_or_len test later ≡ position_or_len test ports
  first_same [] [] many same = refl
  first_same [] (port ∷ ports) many same = absurd (cc)
  first_same (now ∷ later) [] many same = absurd (cc)
  first_same (now ∷ later) (port ∷ ports) many same =
      let here : test now ≡ test port = same 0 in
      let rest = first_same later ports (omega (arith, many)) (λ q. same (suc q)) in
      rw (here, rest) refl

  place_same : (later ports : List PortState) → length later ≡ length ports → ((q : ℕ) → test (port_in later q) ≡ test (port_in ports q))
      → position test later ≡ position test ports
  place_same later ports many same = ap₂ place_below (first_same later ports many same) many

-- what is awaited over a link, told by the ends of its port
abbrev awaited_at : Option ℕ → List EndState → Bool
awaited_at None ends = false
awaited_at (Some k) ends = is_awaited (stage_in k ends)

abbrev awaited_in : ℕ → List EndState → Bool
awaited_in link ends = awaited_at (place_of link ends) ends

refused_awaits : (why : Option Refusal) → is_awaited (refused_by why) ≡ false
refused_awaits None = refl
refused_awaits (Some why) = refl

shown_awaited : (place : Option ℕ) (port : PortState) → is_awaited (port_shown place port) ≡ awaited_at place port.ends
shown_awaited None port = refused_awaits port.refusing
shown_awaited (Some k) port = refl

-- each link leads into the same port
pub record Leads (ports later : List PortState) : Type 0 where
  pub as_many : length later ≡ length ports
  pub into : (link : ℕ) → port_into link later ≡ port_into link ports

-- and a message is awaited where one was
pub record Awaits (ports later : List PortState) : Type 0 where
  pub leads : Leads ports later
  pub same : (link : ℕ) → is_awaited (target_over later link) ≡ is_awaited (target_over ports link)

same_leads : (ports : List PortState) → Leads ports ports
same_leads ports = record { as_many = refl; into = λ link. refl }

both_lead : (ports between later : List PortState) → Leads ports between → Leads between later → Leads ports later
both_lead ports between later first second = record {
  as_many = second.as_many ∙ first.as_many;
  into = λ link. second.into link ∙ first.into link;
}

module _ (later ports : List PortState) (many : length later ≡ length ports) (ends : (q : ℕ) → (port_in later q).ends ≡ (port_in ports q).ends) where
  leads_so : Leads ports later
  leads_so = record {
    as_many = many;
    into = λ link.
        ap (λ (place : Option ℕ). unwrap_or place 0)
        (place_same (has_link link) later ports many (λ q. ap (λ (es : List EndState). is_some (place_of link es)) (ends q)));
  }

awaits_so : (later ports : List PortState) → length later ≡ length ports → ((q : ℕ) → (port_in later q).ends ≡ (port_in ports q).ends)
    → (link : ℕ) → is_awaited (target_over later link) ≡ is_awaited (target_over ports link)
awaits_so [] [] many ends link = refl
awaits_so [] (port ∷ ports) many ends link = absurd (cc)
awaits_so (now ∷ later) [] many ends link = absurd (cc)
awaits_so (now ∷ later) (port ∷ ports) many ends link =
    let all = now ∷ later in
    let was = port ∷ ports in
    let p = port_into link was in
    shown_awaited (place_of link (port_in all (port_into link all)).ends) (port_in all (port_into link all))
    ∙ ap (λ (q : ℕ). awaited_in link (port_in all q).ends) ((leads_so all was many ends).into link)
    ∙ ap (awaited_in link) (ends p)
    ∙ sym (shown_awaited (place_of link (port_in was p).ends) (port_in was p))

ends_stay : (later ports : List PortState) → length later ≡ length ports → ((q : ℕ) → (port_in later q).ends ≡ (port_in ports q).ends)
    → Awaits ports later
ends_stay later ports many ends = record { leads = leads_so later ports many ends; same = awaits_so later ports many ends }

-- Where a block itself is called, and as a source

lasts_so : (old new : BlockState) → Lasts old new → Awaits old.ports new.ports
lasts_so old new lasts = ends_stay new.ports old.ports lasts.count (λ q. ap (λ (port : PortState). port.ends) (lasts.same q))

pub asked_awaits : (old new : BlockState) → new ≡ settles old → Awaits old.ports new.ports
asked_awaits old new does = lasts_so old new (asked_lasts old new does)

pub acts_await : (old new : BlockState) (call : BlockCall) → Acts old call new → Awaits old.ports new.ports
acts_await old new call does = lasts_so old new (acts_last old new call does)

pub gives_await : (old new : BlockState) (call : SourceCall) → Gives old call new → Awaits old.ports new.ports
gives_await old new call does = lasts_so old new (gives_last old new call does)

-- a batched join makes a group
group_many : (first : ℕ) (order : List ℕ) (ports : List PortState) → length (takes_from first order ports) ≡ length ports
group_many first order [] = refl
group_many first order (port ∷ ports) = ap suc (group_many (suc first) order ports)

group_ends : (first : ℕ) (order : List ℕ) (ports : List PortState) (q : ℕ)
    → (port_in (takes_from first order ports) q).ends ≡ (port_in ports q).ends
group_ends first order [] q = refl
group_ends first order (port ∷ ports) zero = refl
group_ends first order (port ∷ ports) (suc q) = group_ends (suc first) order ports q

pub group_awaits : (old new : JoinState) (call : BlockCall) → JoinActs old call new → Awaits old.block.ports new.block.ports
group_awaits old new (BlockCall.completed p) does = acts_await old.block new.block (BlockCall.completed p) does.0
group_awaits old new (BlockCall.faulted number) does = acts_await old.block new.block (BlockCall.faulted number) does.0
group_awaits old new (BlockCall.made (Ok true)) does =
    let group = take old.block.size old.order in
    subst (λ (join : JoinState). Awaits old.block.ports join.block.ports) (sym does.1.1)
    (ends_stay (takes_from 0 group old.block.ports) old.block.ports (group_many 0 group old.block.ports) (group_ends 0 group old.block.ports))
group_awaits old new (BlockCall.made (Ok false)) does =
    subst (λ (join : JoinState). Awaits old.block.ports join.block.ports) (sym does.1) (ends_stay old.block.ports old.block.ports refl (λ q. refl))
group_awaits old new (BlockCall.made (Err make_fault.Ids)) does =
    subst (λ (join : JoinState). Awaits old.block.ports join.block.ports) (sym does.1.1) (ends_stay old.block.ports old.block.ports refl (λ q. refl))
group_awaits old new (BlockCall.made (Err make_fault.Memory)) does =
    subst (λ (join : JoinState). Awaits old.block.ports join.block.ports) (sym does.1.1) (ends_stay old.block.ports old.block.ports refl (λ q. refl))

-- Where an end comes to stand elsewhere, or is added

stage_place : (other k : ℕ) (stage : TargetStage) (ends : List EndState) → place_of other (put_stage k stage ends) ≡ place_of other ends
stage_place other k stage ends =
    place_set (λ (end : EndState). end.link == other) ends k (record (end_in k ends) { stage = stage }) (fresh_end 0) refl

-- the port has ends of the same links
abbrev SameHas : PortState → PortState → Type 0
SameHas old new = (other : ℕ) → has_link other new ≡ has_link other old

staged : (k : ℕ) (stage : TargetStage) (old new : PortState) → new.ends ≡ put_stage k stage old.ends → SameHas old new
staged k stage old new is other =
    ap (λ (ends : List EndState). is_some (place_of other ends)) is ∙ ap is_some (stage_place other k stage old.ends)

-- one end of this link may come to it
with_has : (link : ℕ) (old between new : PortState) → SameLinks link old between → SameHas between new → SameLinks link old new
with_has link old between new links same = record {
  others = λ other apart. same other ∙ links.others other apart;
  own = λ was. same link ∙ links.own was;
}

of_same : (link : ℕ) (old new : PortState) → SameHas old new → SameLinks link old new
of_same link old new same = with_has link old old new (links_stay link old) same

known_links : (link : ℕ) (port : PortState) (place : Option ℕ) → place_of link port.ends ≡ place → SameLinks link port (with_link_at place link port)
known_links link port None at = record {
  others = λ other apart. has_known port link at other apart;
  own = λ was. absurd (let none : has_link link port ≡ false = ap is_some at in cc);
}
known_links link port (Some k) at = links_stay link port

closed_links : (link : ℕ) (port : PortState) (place : Option ℕ) → SameLinks link port (closes_link place port)
closed_links link port None = links_stay link port
closed_links link port (Some k) = of_same link port (closes_link (Some k) port) (staged k (refused_by port.refusing) port (closes_link (Some k) port) refl)

answered_links : (link header : ℕ) (how : MessageStatus) (port : PortState) → SameLinks link port (answered link header how port)
answered_links link header status.Accepted port =
    with_has link port (with_link link port) (answered link header status.Accepted port) (known_links link port (place_of link port.ends) refl)
    (staged (place_in link port) (target.Accepted header) (with_link link port) (answered link header status.Accepted port) refl)
answered_links link header status.Postponed port =
    with_has link port (with_link link port) (answered link header status.Postponed port) (known_links link port (place_of link port.ends) refl)
    (staged (place_in link port) (target.Postponed header) (with_link link port) (answered link header status.Postponed port) refl)
answered_links link header status.DecliningPermanently port = closed_links link port (place_of link port.ends)
answered_links link header status.Declined port = links_stay link port
answered_links link header status.NotAvailable port = links_stay link port

arrived_has : (value : Value) (port : PortState) (place : Option ℕ) → SameHas port (arrives_at place value port)
arrived_has value port None other = refl
arrived_has value port (Some k) other = staged k target.Free port (arrives_at (Some k) value port) refl other

dropped_has : (port : PortState) (place : Option ℕ) → SameHas port (drops_at place port)
dropped_has port None other = refl
dropped_has port (Some k) other = staged k target.Free port (drops_at (Some k) port) refl other

held_has : (port : PortState) (place : Option ℕ) → SameHas port (holds_at place port)
held_has port None other = refl
held_has port (Some k) other = staged k _ port (holds_at (Some k) port) refl other

noted_has : (told : WishAnswer) (link : ℕ) (port : PortState) → SameHas port (notes told link port)
noted_has answer.Coming link port other = refl
noted_has answer.Held link port other = held_has port (place_of link port.ends) other
noted_has answer.NotAvailable link port other = dropped_has port (place_of link port.ends) other
noted_has answer.Withdrawn link port other = dropped_has port (place_of link port.ends) other

consumed_has : (port : PortState) (place : Option ℕ) → SameHas port (consumes_at place port)
consumed_has port None other = refl
consumed_has port (Some k) other = where_postponed (is_postponed (stage_at k port))
  where
    where_postponed : (postponed : Bool) → has_link other (cond postponed (port_consumes k port) port) ≡ has_link other port
    where_postponed true = staged k _ port (port_consumes k port) refl other
    where_postponed false = refl

-- At all ports

module _ (ports : List PortState) where
  kept_into : (p : ℕ) (new : PortState) (other : ℕ) → has_link other new ≡ has_link other (port_in ports p)
      → port_into other (set ports p new) ≡ port_into other ports
  kept_into p new other same = ap (λ (place : Option ℕ). unwrap_or place 0) (place_set (has_link other) ports p new (fresh_port None) same)

  leads_at : (p : ℕ) (new : PortState) → SameHas (port_in ports p) new → Leads ports (set ports p new)
  leads_at p new same = record { as_many = length-set ports p new; into = λ other. kept_into p new other (same other) }

-- an end that is new stands at the first port
new_first : (link : ℕ) (new : PortState) → has_link link new ≡ true → (ports : List PortState) → port_into link (set ports 0 new) ≡ 0
new_first link new has [] = refl
new_first link new has (port ∷ ports) =
    ap (λ (place : Option ℕ). unwrap_or place 0)
    (place_is (has_link link) (new ∷ ports) 0 (fresh_port None) (omega arith) (λ k earlier. absurd (omega (arith, earlier))) has)

new_into : (link : ℕ) (ports : List PortState) (new : PortState) (place : Option ℕ) → position (has_link link) ports ≡ place
    → has_link link (port_in ports (unwrap_or place 0)) ≡ false → has_link link new ≡ true
    → port_into link (set ports (unwrap_or place 0) new) ≡ unwrap_or place 0
new_into link ports new None at was is = new_first link new is ports
new_into link ports new (Some p) at was is =
    absurd (let has : has_link link (port_in ports p) ≡ true = (position-Some (has_link link) ports p (fresh_port None) at).1 in
    let no : false ≡ true = sym was ∙ has in cc)

module _ (ports : List PortState) (link : ℕ) (new : PortState) (links : SameLinks link (port_in ports (port_into link ports)) new) where
  abbrev p : ℕ
  p = port_into link ports

  own_into : (was is : Bool) → has_link link (port_in ports p) ≡ was → has_link link new ≡ is → port_into link (set ports p new) ≡ p
  own_into true is was_is is_is = kept_into ports p new link (links.own was_is ∙ sym was_is)
  own_into false false was_is is_is = kept_into ports p new link (is_is ∙ sym was_is)
  own_into false true was_is is_is = new_into link ports new (position (has_link link) ports) refl was_is is_is

  leads_by : Leads ports (set ports p new)
  leads_by = record {
    as_many = length-set ports p new;
    into = λ other. elim (cases_eq other link) [
      | inl same ↦
          subst (λ (l : ℕ). port_into l (set ports p new) ≡ port_into l ports) (sym same)
          (own_into (has_link link (port_in ports p)) (has_link link new) refl refl)
      | inr apart ↦ kept_into ports p new other (links.others other apart)
    ];
  }

-- By the calls of a target

module _ (old : BlockState) where
  abbrev LeadsTo : BlockState → Type 0
  LeadsTo new = Leads old.ports new.ports

  wished_leads : (place : Option ℕ) → LeadsTo (wishes place old)
  wished_leads None = same_leads old.ports
  wished_leads (Some p) = leads_at old.ports p (consumes_next (port_at p old)) (consumed_has (port_at p old) (next_place (port_at p old)))

  noted_leads : (told : WishAnswer) (link : ℕ) → LeadsTo (with_port_of link (notes told link) old)
  noted_leads told link =
      let p = port_into link old.ports in
      leads_at old.ports p (notes told link (port_at p old)) (noted_has told link (port_at p old))

  came_leads : (link : ℕ) (value : Value) → LeadsTo (with_port_of link (arrives link value) old)
  came_leads link value =
      let p = port_into link old.ports in
      leads_at old.ports p (arrives link value (port_at p old)) (arrived_has value (port_at p old) (place_of link (port_at p old).ends))

pub takes_lead : (old new : BlockState) (call : TargetCall) → Takes old call new → Leads old.ports new.ports
takes_lead old new (TargetCall.offered link header may_postpone how) does =
    let port = port_at (port_into link old.ports) old in
    subst (λ (b : BlockState). Leads old.ports b.ports) (sym does.1)
    (leads_by old.ports link (answered link header how port) (answered_links link header how port))
takes_lead old new (TargetCall.handed link header value) does =
    let arrived = with_port_of link (arrives link value) old in
    subst (λ (b : BlockState). Leads old.ports b.ports) (sym does)
    (both_lead old.ports arrived.ports (copies_where (copies_at_once arrived) arrived).ports (came_leads old link value)
    (lasts_so arrived (copies_where (copies_at_once arrived) arrived) (once_lasts arrived (copies_at_once arrived))).leads)
takes_lead old new (TargetCall.wished told) does =
    subst (λ (b : BlockState). Leads old.ports b.ports) (sym does.1) (wished_leads old (wishing_port old.ports))
takes_lead old new (TargetCall.noted link told) does =
    subst (λ (b : BlockState). Leads old.ports b.ports) (sym does) (noted_leads old told link)

-- a join that reserves wishes by its round
round_leads : (join : ReservingState) → Leads join.block.ports (after_wish join).block.ports
round_leads join = by_wish (λ (told : Wish) (later : ReservingState). Leads join.block.ports later.block.ports) join (same_leads join.block.ports)
    (λ failing p fails wishing.
    let ports = join.block.ports in
    let k = front_place p ports in
    let port = port_in ports p in (
      λ ask. leads_at ports p (asks k port) (λ other. staged k _ port (asks k port) refl other),
      (
        λ claim. leads_at ports p (claims k port) (λ other. staged k _ port (claims k port) refl other),
        λ release. leads_at ports p (releases k port) (λ other. staged k _ port (releases k port) refl other),
      ),
    ))

pub reserving_leads : (old new : ReservingState) (call : TargetCall) → ReservingTakes old call new → Leads old.block.ports new.block.ports
reserving_leads old new (TargetCall.offered link header may_postpone how) does =
    takes_lead old.block new.block (TargetCall.offered link header may_postpone how) does.0
reserving_leads old new (TargetCall.handed link header value) does =
    takes_lead old.block new.block (TargetCall.handed link header value) does.0
reserving_leads old new (TargetCall.wished told) does =
    subst (λ (join : ReservingState). Leads old.block.ports join.block.ports) (sym does.1) (round_leads old)
reserving_leads old new (TargetCall.noted link told) does = takes_lead old.block new.block (TargetCall.noted link told) does.0

-- As those see it who know it by its traits alone

module _ {T : Type 0} (ports_of : T → List PortState) (old new : T) where
  abbrev count_of : T → ℕ
  count_of t = length (ports_of t)

  abbrev into_of : T → ℕ → ℕ
  into_of t link = port_into link (ports_of t)

  pub ports_stay : Leads (ports_of old) (ports_of new) → PortsStay count_of into_of old new
  ports_stay leads = record { as_many = leads.as_many; leads = leads.into }

  pub awaits_the_same : Awaits (ports_of old) (ports_of new) → AwaitsTheSame count_of into_of (λ t. target_over (ports_of t)) old new
  awaits_the_same same = record { ports = ports_stay same.leads; awaits = same.same }
