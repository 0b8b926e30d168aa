-- Each call of a join that reserves leaves it one.
use Rattle.std.proofs.Common.{◌≡◌, ℕ, ◌<◌, Bool, true, false, not, ◌&&◌, List, length, set, Option, Some, None, is_none, Result, Ok, Err, IfOk, OnErr, refl, ap, sym, ◌∙◌, subst, arith}
use Rattle.std.proofs.lemmas.Bool.{and_parts}
use Rattle.std.proofs.lemmas.List.{length-set, length-map}
use Rattle.flow_value.specs.declared.value.Value.{Value}
use Rattle.flow_value.specs.declared.message.MessageStatus.{MessageStatus}
use Rattle.flow_link.specs.declared.draft.BlockKind.{BlockKind}
use Rattle.flow_link.specs.declared.draft.BlockKind.TheVariants as kind
use Rattle.flow_link.specs.declared.phase.Move.{Move}
use Rattle.flow_link.specs.declared.stage.Refusal.TheVariants.{PortEnded}
use Rattle.flow_link.specs.declared.stage.TargetStage.TheVariants.{Free, Refused}
use Rattle.flow_link.specs.declared.traits.MakeFault.{MakeFault}
use Rattle.flow_link.specs.declared.traits.MakeFault.TheVariants as make_fault
use Rattle.flow_link.specs.declared.traits.WishAnswer.{WishAnswer}
use Rattle.flow_link.specs.Kinds.{unit_of}
use Rattle.flow_link.specs.Plan.{has_work, is_broadcast, is_write_once}
use Rattle.flow_link.specs.TargetCalls.{TargetCall, MayNote, Wants}
use Rattle.flow_intake.specs.Port.{PortState}
use Rattle.flow_intake.specs.Calls.{takes_next, asks, claims, releases}
use Rattle.flow_intake.specs.ByLink.{place_of, answered, arrives, arrives_at}
use Rattle.flow_outlet.specs.declared.ends.LinkRule.{LinkRule}
use Rattle.flow_group.specs.declared.round.Source.{Source}
use Rattle.flow_group.specs.Round.{RoundState, port_in, settles, claims_on}
use Rattle.flow_group.specs.Tuple.{has_tuple}
use Rattle.flow_group.proofs.RoundGoes.{pass_at}
use Rattle.flow_group.proofs.RoundTells.{round_moves_tell}
use Rattle.flow_block.specs.Block.{BlockState, port_at, with_port, copies_taken, makes_tuple}
use Rattle.flow_block.specs.JournalFits.{ports_due}
use Rattle.flow_block.specs.Peeks.{holds_nothing, may_make, may_work, has_next, has_unit}
use Rattle.flow_block.specs.Traits.{Makes, Made, Takes as BlockTakes, makes_alone, has_turn, makes_itself, goes_on_by_unit, makes_its_next, with_port_of, port_into, target_over, notes}
use Rattle.flow_block.proofs.PortsChange.{kept_at_one, kept_at_all}
use Rattle.flow_block.proofs.TargetMoves.{some_port, leads_there, shown_is}
use Rattle.flow_kinds.specs.ReservingJoin.{ReservingState, ReservingFits, all_reserve, none_queued, fresh_join}
use Rattle.flow_kinds.specs.RoundOrder.{RoundFits}
use Rattle.flow_kinds.specs.Wishes.{is_ask, is_claim, is_release, next_at, asks_at, claims_from, turned, releases_to, front_place, fails_now, after_wish, loses_front}
use Rattle.flow_kinds.proofs.BlockStays.{BlockStays, not_changed}
use Rattle.flow_kinds.proofs.CopiesNone.{copies_none}
use Rattle.flow_kinds.proofs.FreshRound.{round_fresh}
use Rattle.flow_kinds.proofs.PortRests.{rest_of, answered_rest, noted_rest}
use Rattle.flow_kinds.proofs.OffersAnswered.{port_keeps}
use Rattle.flow_kinds.proofs.RoundCalls.{ask_fits, claim_fits, release_fits}
use Rattle.flow_kinds.proofs.RoundFrames.{same_alike, fits_alike, tuple_keeps}
use Rattle.flow_kinds.proofs.RoundWishes.{fail_fits, noted_round, arrived_round}
use Rattle.flow_kinds.proofs.WishesTell.{IsWishing, asks_by_round, claims_by_round, releases_by_round, released_held, failing_tells, by_wish}

pub fresh_fits : (ports : List PortState) (sources : List Source) (rules : List LinkRule) → all_reserve ports ≡ true
    → holds_nothing ports ≡ true → ports_due ports ≡ 0 → none_queued ports ≡ true
    → ReservingFits (fresh_join ports sources rules).block (fresh_join ports sources rules).round
fresh_fits ports sources rules reserve empty due unqueued = record {
  kind_is = refl;
  reserves = λ p l. pass_at (λ (port : PortState). port.reserves) ports p l reserve;
  rounds = round_fresh sources ports empty due unqueued;
}

-- A port reserves as it was made to

reserves_so : (old new : PortState) → rest_of new ≡ rest_of old → new.reserves ≡ old.reserves
reserves_so old new same = ap (λ (port : PortState). port.reserves) same

arrived_reserves : (place : Option ℕ) (value : Value) (port : PortState) → (arrives_at place value port).reserves ≡ port.reserves
arrived_reserves None value port = refl
arrived_reserves (Some k) value port = refl

-- it makes a tuple
pub makes_tuples : (block : BlockState) → block.kind ≡ kind.Join → makes_its_next block ≡ makes_tuple block
makes_tuples block is = ap (λ (k : BlockKind). goes_on_by_unit (unit_of k) block) is

-- where it may make a tuple, a message waits at each port
has_tuple_now : (block : BlockState) → block.kind ≡ kind.Join → makes_itself block ≡ true → has_tuple block.ports ≡ true
has_tuple_now block is makes =
    let turn = (and_parts (makes_alone block.kind (length block.ports)) (has_turn (is_broadcast block.kind) block) makes).1 in
    let may : may_make block ≡ true = sym (ap (λ (k : BlockKind). has_turn (is_broadcast k) block) is) ∙ turn in
    let work = (and_parts (may_work block) (not (has_work block.kind)) may).0 in
    let next = (and_parts (is_none block.stopped && is_none block.fault) (has_next block) work).1 in
    sym (ap (λ (k : BlockKind). has_unit (unit_of k) block) is) ∙ next

module _ (old new : BlockState) (round : RoundState) (fits : ReservingFits old round) where
  -- what is about no link into it
  pub stays_fit : BlockStays old new → ReservingFits new round
  stays_fit stays = record {
    kind_is = stays.kind ∙ fits.kind_is;
    reserves = λ p l.
        ap (λ (port : PortState). port.reserves) (stays.ports.each p)
        ∙ fits.reserves p (let many = stays.ports.as_many in omega (arith, l, many));
    rounds = fits_alike round old.ports new.ports fits.rounds (same_alike old.ports new.ports stays.ports);
  }

  -- what changes one port
  one_fits : (later : RoundState) (p : ℕ) (port : PortState) → new.kind ≡ old.kind → new.ports ≡ set old.ports p port
      → port.reserves ≡ (port_in old.ports p).reserves → RoundFits later (set old.ports p port) → ReservingFits new later
  one_fits later p port kind ports same rounds = record {
    kind_is = kind ∙ fits.kind_is;
    reserves = subst (λ (now : List PortState). (q : ℕ) → q < length now → (port_in now q).reserves ≡ true) (sym ports)
        (λ q l. kept_at_one (λ (x : PortState). x.reserves) old.ports p q port same
        ∙ fits.reserves q (omega (arith, l, length-set old.ports p port)));
    rounds = subst (λ (now : List PortState). RoundFits later now) (sym ports) rounds;
  }

  -- and has the round settle
  settled_fits : (gone : Bool) (later : RoundState) (p : ℕ) (port : PortState) → later ≡ settles gone new.ports round → new.kind ≡ old.kind
      → new.ports ≡ set old.ports p port → port.reserves ≡ (port_in old.ports p).reserves
      → RoundFits (settles gone (set old.ports p port) round) (set old.ports p port) → ReservingFits new later
  settled_fits gone later p port is kind ports same rounds =
      one_fits later p port kind ports same
      (subst (λ (r : RoundState). RoundFits r (set old.ports p port)) (sym (is ∙ ap (λ (ps : List PortState). settles gone ps round) ports)) rounds)

  pub note_fits : (later : RoundState) (link : ℕ) (told : WishAnswer) → MayNote told (target_over old.ports link)
      → new ≡ with_port_of link (notes told link) old → later ≡ settles (loses_front told link old.ports) new.ports round → ReservingFits new later
  note_fits later link told may is goes =
      let p = port_into link old.ports in
      settled_fits (loses_front told link old.ports) later p (notes told link (port_at p old)) goes (ap (λ (b : BlockState). b.kind) is)
      (ap (λ (b : BlockState). b.ports) is) (reserves_so (port_at p old) (notes told link (port_at p old)) (noted_rest told link (port_at p old)))
      (noted_round round old.ports fits.rounds link told may)

  pub arrive_fits : (later : RoundState) (link header : ℕ) (value : Value) → Wants header (target_over old.ports link)
      → new ≡ copies_taken (with_port_of link (arrives link value) old) → later ≡ settles false new.ports round → ReservingFits new later
  arrive_fits later link header value wants is goes =
      let p = port_into link old.ports in
      let same = is ∙ copies_none (with_port_of link (arrives link value) old) (ap is_write_once fits.kind_is) in
      settled_fits false later p (arrives link value (port_at p old)) goes (ap (λ (b : BlockState). b.kind) same) (ap (λ (b : BlockState). b.ports) same)
      (arrived_reserves (place_of link (port_at p old).ends) value (port_at p old))
      (arrived_round round old.ports fits.rounds link header value wants)

  tuple_fits : Makes false old → new ≡ makes_its_next old → ReservingFits new round
  tuple_fits makes is =
      let same = is ∙ makes_tuples old fits.kind_is in
      let ports = ap (λ (b : BlockState). b.ports) same in
      record {
        kind_is = ap (λ (b : BlockState). b.kind) same ∙ fits.kind_is;
        reserves = subst (λ (now : List PortState). (q : ℕ) → q < length now → (port_in now q).reserves ≡ true) (sym ports)
            (λ q l. kept_at_all (λ (x : PortState). x.reserves) takes_next old.ports q (λ x. refl)
            ∙ fits.reserves q (omega (arith, l, length-map old.ports takes_next)));
        rounds = subst (λ (now : List PortState). RoundFits round now) (sym ports)
            (tuple_keeps round old.ports fits.rounds (has_tuple_now old fits.kind_is makes.by_itself));
      }

  pub make_fits : (result : Result Bool MakeFault) → Made result old new → ReservingFits new round
  make_fits (Ok true) made = tuple_fits made.0 made.1
  make_fits (Ok false) made = stays_fit (not_changed old new made.1)
  make_fits (Err make_fault.Ids) made = stays_fit (not_changed old new made.1)
  make_fits (Err make_fault.Memory) made = stays_fit (not_changed old new made.1)

pub offered_fits : {E : Type 0} (old new : BlockState) (round : RoundState) (link header : ℕ) (may_postpone : Bool) (result : Result MessageStatus E)
    → ReservingFits old round → target_over old.ports link ≡ Free
    → IfOk result (λ how. BlockTakes old (TargetCall.offered link header may_postpone how) new) → OnErr result (new ≡ old)
    → ReservingFits new round
offered_fits old new round link header may_postpone (Ok how) fits free takes kept =
    let p = port_into link old.ports in
    let some = some_port old.ports link (λ never. let no : Free ≡ Refused PortEnded = sym free ∙ never in cc) in
    let here = leads_there old.ports link some in
    one_fits old new round fits round p (answered link header how (port_at p old)) (ap (λ (b : BlockState). b.kind) takes.1)
    (ap (λ (b : BlockState). b.ports) takes.1) (reserves_so (port_at p old) (answered link header how (port_at p old)) (answered_rest link header how (port_at p old)))
    (port_keeps round old.ports fits.rounds p link header here (fits.reserves p here) (sym (shown_is old.ports link some) ∙ free) may_postpone how takes.0)
offered_fits old new round link header may_postpone (Err _) fits free takes kept = stays_fit old new round fits (not_changed old new kept)

-- A wish

module _ (join : ReservingState) (fits : ReservingFits join.block join.round) (failing : Bool) (fails : failing ≡ fails_now join) (p : ℕ)
    (wishing : IsWishing failing join.round join.block.ports p) where
  abbrev ports : List PortState
  ports = join.block.ports

  abbrev k : ℕ
  k = front_place p ports

  abbrev port : PortState
  port = port_in ports p

  abbrev next : Option Move
  next = next_at failing p join.round ports

  ask_fitting : is_ask next ≡ true → ReservingFits (asks_at p k join).block (asks_at p k join).round
  ask_fitting ask =
      one_fits join.block (with_port p (asks k) join.block) join.round fits join.round p (asks k port) refl refl refl
      (ask_fits join.round ports fits.rounds p k wishing.there wishing.own.there
      (round_moves_tell.asks p k join.round ports wishing.there (asks_by_round failing join.round ports p k wishing.own.front ask).1))

  claim_fitting : is_claim next ≡ true → ReservingFits (claims_from p k join).block (claims_from p k join).round
  claim_fitting claim =
      one_fits join.block (with_port p (claims k) join.block) join.round fits (claims_on join.round) p (claims k port) refl refl refl
      (claim_fits join.round ports fits.rounds p k wishing.there wishing.own.there
      (round_moves_tell.claims p k join.round ports (claims_by_round failing join.round ports p k wishing.own.front claim).1))

  released_by : (f : Bool) → failing ≡ f → is_release next ≡ true
      → RoundFits (settles false (set ports p (releases k port)) (turned f join)) (set ports p (releases k port))
  released_by false is release =
      let now = round_moves_tell.releases p k join.round ports (releases_by_round failing join.round ports p k wishing.own.front is release) in
      release_fits join.round ports fits.rounds p k wishing.there wishing.own.there now.some now.failed now.held
  released_by true is release =
      let tells = failing_tells join.round ports (sym fails ∙ is) in
      fail_fits join.round ports fits.rounds p k wishing.there wishing.own.there wishing.own.front
      (released_held failing join.round ports p k wishing.own.front release) tells.some tells.asking

  release_fitting : is_release next ≡ true → ReservingFits (releases_to failing p k join).block (releases_to failing p k join).round
  release_fitting release =
      one_fits join.block (with_port p (releases k) join.block) join.round fits (releases_to failing p k join).round p (releases k port) refl refl refl
      (released_by failing refl release)

pub wish_fits : (join : ReservingState) → ReservingFits join.block join.round → ReservingFits (after_wish join).block (after_wish join).round
wish_fits join fits = by_wish (λ told later. ReservingFits later.block later.round) join fits
    (λ failing p fails wishing. (
      ask_fitting join fits failing fails p wishing,
      (claim_fitting join fits failing fails p wishing, release_fitting join fits failing fails p wishing),
    ))
