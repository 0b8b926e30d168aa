-- What a wish tells, and what holds of how far the ports are.
use Rattle.std.proofs.Common.{◌≡◌, ℕ, ◌<◌, Bool, true, false, ◌&&◌, ◌||◌, cond, List, length, position, Option, Some, None, is_some, refl, ap, sym, ◌∙◌, arith}
use Rattle.std.proofs.lemmas.Bool.{and_parts}
use Rattle.flow_link.specs.Lists.{below}
use Rattle.flow_link.proofs.PlacesNamed.{place_none}
use Rattle.flow_link.specs.declared.phase.Move.{Move}
use Rattle.flow_link.specs.declared.phase.Move.TheVariants.{Ask, Release}
use Rattle.flow_link.specs.declared.stage.Refusal.{Refusal}
use Rattle.flow_link.specs.declared.stage.TargetStage.{TargetStage}
use Rattle.flow_link.specs.declared.stage.TargetStage.TheVariants.{Postponed, Holding}
use Rattle.flow_link.specs.declared.traits.Wish.{Wish}
use Rattle.flow_link.specs.declared.traits.Wish.TheVariants as wish
use Rattle.flow_intake.specs.Port.{PortState, link_in, is_holding}
use Rattle.flow_intake.specs.Calls.{first_of, is_at}
use Rattle.flow_group.specs.declared.round.RoundStep.{RoundStep}
use Rattle.flow_group.specs.declared.round.RoundStep.TheVariants as steps
use Rattle.flow_group.specs.Round.{RoundState, port_in, reserves, front_stage, all_held, held_move, asks_for, move_by}
use Rattle.flow_group.proofs.RoundStays.{levels_tell}
use Rattle.flow_group.proofs.RoundTells.{round_moves_tell}
use Rattle.flow_block.proofs.TargetMoves.{number_at, below_count}
use Rattle.flow_kinds.specs.ReservingJoin.{ReservingState, ReservingFits}
use Rattle.flow_kinds.specs.RoundOrder.{took_at}
use Rattle.flow_kinds.specs.Wishes.{is_ask, is_claim, is_release, front_at, move_from, front_move, asks_in_vain, is_failing, next_at, is_own, wishes_at, front_place, wish_at, fails_now, wishing_now, next_wish, after_wish}
use Rattle.flow_kinds.specs.WishLaws.{IsOver, AsksFor, ClaimsIt, ReleasesIt, WishesTell, PortsLevel}
use Rattle.flow_kinds.proofs.WishesTell.{IsWishing, wishing_at, asks_by_round, claims_by_round, releases_by_round, released_held, by_wish}

-- where the round does not fail, a port whose offer it would ask for is open

none_in_vain : (round : RoundState) (ports : List PortState) → is_failing round ports ≡ false → (p : ℕ) → p < length ports
    → asks_in_vain round ports p ≡ false
none_in_vain round ports fine p l =
    ap (asks_in_vain round ports) (sym (number_at (length ports) p l))
    ∙ place_none (asks_in_vain round ports) (below (length ports)) 0
    (nowhere (position (asks_in_vain round ports) (below (length ports))) fine) p (omega (arith, l, below_count (length ports)))
  where
    nowhere : (place : Option ℕ) → is_some place ≡ false → place ≡ None
    nowhere None e = refl
    nowhere (Some _) e = absurd (cc)

open_by : (asks : Bool) (refusing : Option Refusal) → asks ≡ true → (asks && is_some refusing) ≡ false → refusing ≡ None
open_by true None e f = refl
open_by true (Some why) e f = absurd (cc)
open_by false refusing e f = absurd (cc)

module _ (join : ReservingState) (failing : Bool) (fails : failing ≡ fails_now join) (p : ℕ)
    (wishing : IsWishing failing join.round join.block.ports p) where
  abbrev ports : List PortState
  ports = join.block.ports

  abbrev k : ℕ
  k = front_place p ports

  over : (link : ℕ) → link_in k (port_in ports p).ends ≡ link → IsOver link p k join
  over link named = record { there = wishing.there; place = wishing.own.there; named = named }

  asks_open : is_ask (next_at failing p join.round ports) ≡ true → (port_in ports p).refusing ≡ None
  asks_open ask =
      let fine : is_failing join.round ports ≡ false = sym fails ∙ (asks_by_round failing join.round ports p k wishing.own.front ask).0 in
      let asks : is_ask (front_move p join.round ports) ≡ true =
      ap (λ (f : Bool). is_ask (next_at f p join.round ports)) (sym (asks_by_round failing join.round ports p k wishing.own.front ask).0) ∙ ask in
      open_by (is_ask (front_move p join.round ports)) (port_in ports p).refusing asks (none_in_vain join.round ports fine p wishing.there)

-- the wish is told, and what comes of it
record AsksIf (join : ReservingState) (told : Wish) (later : ReservingState) : Type 0 where
  asks : (link : ℕ) → told ≡ wish.Ask link → after_wish join ≡ later → AsksFor link join
  claims : (link : ℕ) → told ≡ wish.Claim link → after_wish join ≡ later → ClaimsIt link join
  releases : (link : ℕ) → told ≡ wish.Release link → ReleasesIt link join
  consumes : (link : ℕ) → told ≡ wish.Consume link → ⊥

told_so : (join : ReservingState) → AsksIf join (next_wish join) (after_wish join)
told_so join = by_wish (AsksIf join) join
    (record { asks = λ link e. absurd (cc); claims = λ link e. absurd (cc); releases = λ link e. absurd (cc); consumes = λ link e. cc })
    (λ failing p fails wishing.
    let ports = join.block.ports in
    let k = front_place p ports in (
      λ ask. record {
        asks = λ link e is.
            AsksFor.asks p k (over join failing fails p wishing link (cc))
            (round_moves_tell.asks p k join.round ports wishing.there (asks_by_round failing join.round ports p k wishing.own.front ask).1)
            (asks_open join failing fails p wishing ask) is;
        claims = λ link e. absurd (cc);
        releases = λ link e. absurd (cc);
        consumes = λ link e. cc;
      },
      (
        λ claim. record {
          asks = λ link e. absurd (cc);
          claims = λ link e is.
              ClaimsIt.claims p k (over join failing fails p wishing link (cc))
              (round_moves_tell.claims p k join.round ports (claims_by_round failing join.round ports p k wishing.own.front claim).1) is;
          releases = λ link e. absurd (cc);
          consumes = λ link e. cc;
        },
        λ release. record {
          asks = λ link e. absurd (cc);
          claims = λ link e. absurd (cc);
          releases = λ link e.
              released join failing fails p wishing link (cc) release failing refl;
          consumes = λ link e. cc;
        },
      ),
    ))
  where
    released : (join : ReservingState) (failing : Bool) (fails : failing ≡ fails_now join) (p : ℕ)
        (wishing : IsWishing failing join.round join.block.ports p) (link : ℕ)
        → link_in (front_place p join.block.ports) (port_in join.block.ports p).ends ≡ link
        → is_release (next_at failing p join.round join.block.ports) ≡ true → (f : Bool) → failing ≡ f → ReleasesIt link join
    released join failing fails p wishing link named release true is =
        ReleasesIt.fails p (front_place p join.block.ports) (over join failing fails p wishing link named)
        (released_held failing join.round join.block.ports p (front_place p join.block.ports) wishing.own.front release) (sym fails ∙ is)
    released join failing fails p wishing link named release false is =
        let k = front_place p join.block.ports in
        let now = round_moves_tell.releases p k join.round join.block.ports
        (releases_by_round failing join.round join.block.ports p k wishing.own.front is release) in
        ReleasesIt.failed p k (over join failing fails p wishing link named) now.held now.failed

-- It goes on

abbrev is_wish : Option Move → Bool
is_wish next = is_ask next || (is_claim next || is_release next)

held_wish : (step : RoundStep) (all : Bool) → is_wish (held_move step all) ≡ is_some (held_move step all)
held_wish steps.Asks true = refl
held_wish steps.Asks false = refl
held_wish steps.Releases all = refl
held_wish steps.Claims all = refl

moved_wish : (round : RoundState) (port : PortState) (ports : List PortState) (stage : TargetStage)
    → is_wish (move_by round port ports stage) ≡ is_some (move_by round port ports stage)
moved_wish round port ports (Postponed i) = by (asks_for port round ports)
  where
    by : (b : Bool) → is_wish (cond b (Some Ask) None) ≡ is_some (cond b (Some Ask) None)
    by true = refl
    by false = refl
moved_wish round port ports (Holding i) = held_wish round.step (all_held ports)
moved_wish round port ports stage = refl

where_wish : (here : Bool) (next : Option Move) → is_wish next ≡ is_some next → is_wish (cond here next None) ≡ is_some (cond here next None)
where_wish true next same = same
where_wish false next same = refl

front_wish : (place : Option ℕ) (p : ℕ) (round : RoundState) (ports : List PortState)
    → is_wish (move_from place p round ports) ≡ is_some (move_from place p round ports)
front_wish None p round ports = refl
front_wish (Some k) p round ports =
    let port = port_in ports p in
    where_wish (reserves round && is_at k (first_of port.queue)) (move_by round port ports (front_stage port)) (moved_wish round port ports (front_stage port))

next_wishes : (failing : Bool) (p : ℕ) (round : RoundState) (ports : List PortState)
    → is_wish (next_at failing p round ports) ≡ is_some (next_at failing p round ports)
next_wishes true p round ports = where_wish (is_holding (front_stage (port_in ports p))) (Some Release) refl
next_wishes false p round ports = front_wish (front_at p ports) p round ports

told_some : (a c r : Bool) (link : ℕ) → (a || (c || r)) ≡ true
    → cond a (wish.Ask link) (cond c (wish.Claim link) (cond r (wish.Release link) wish.None)) ≡ wish.None → ⊥
told_some true c r link some e = cc
told_some false true r link some e = cc
told_some false false true link some e = cc
told_some false false false link some e = cc

going_on : (join : ReservingState) (p : ℕ) → p < length join.block.ports → wishes_at (fails_now join) join.round join.block.ports p ≡ true
    → next_wish join ≡ wish.None → ⊥
going_on join p l wishes none = by (wishing_now join) refl
  where
    by : (place : Option ℕ) → wishing_now join ≡ place → ⊥
    by None is =
        let test = wishes_at (fails_now join) join.round join.block.ports in
        let count = length join.block.ports in
        let refuted : test p ≡ false =
        ap test (sym (number_at count p l)) ∙ place_none test (below count) 0 is p (omega (arith, l, below_count count)) in
        let no : true ≡ false = sym wishes ∙ refuted in cc
    by (Some q) is =
        let ports = join.block.ports in
        let wishing = wishing_at (fails_now join) join.round ports q is in
        let next = next_at (fails_now join) q join.round ports in
        let some = (and_parts (is_some next) (is_own q (front_at q ports) ports) wishing.wishes).0 in
        let told : wish_at (fails_now join) (Some q) join ≡ wish.None =
        sym (ap (λ (place : Option ℕ). wish_at (fails_now join) place join) is) ∙ none in
        told_some (is_ask next) (is_claim next) (is_release next) (link_in (front_place q ports) (port_in ports q).ends)
        (next_wishes (fails_now join) q join.round ports ∙ some) told

pub wishes_tell : WishesTell
wishes_tell = record {
  asks = λ join link e. (told_so join).asks link e refl;
  claims = λ join link e. (told_so join).claims link e refl;
  releases = λ join link e. (told_so join).releases link e;
  never_consumes = λ join link e. (told_so join).consumes link e;
  goes_on = going_on;
}

-- How far the ports are

pub ports_level : (join : ReservingState) → ReservingFits join.block join.round → PortsLevel join
ports_level join fits =
    let ports = join.block.ports in
    record {
      near = λ p q pl ql. levels_tell.near join.round.step ports (took_at ports) fits.rounds.law p q pl ql;
      same = λ not p q pl ql. levels_tell.same join.round.step ports (took_at ports) fits.rounds.law not p q pl ql;
      still = λ none p q pl ql. levels_tell.still join.round.step ports (took_at ports) fits.rounds.law none p q pl ql;
    }
