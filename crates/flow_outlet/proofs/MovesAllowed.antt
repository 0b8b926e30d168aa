-- What an end does next by itself is what its calls allow.
use Rattle.std.proofs.Common.{◌≡◌, ℕ, ◌==◌, ◌&&◌, ◌||◌, not, cond, Bool, true, false, Option, Some, None, is_some, refl}
use Rattle.std.proofs.lemmas.Bool.{OnTrue_at}
use Rattle.flow_link.specs.declared.phase.LinkEnd.{LinkEnd}
use Rattle.flow_link.specs.declared.phase.Move.{Move}
use Rattle.flow_link.specs.declared.phase.Move.TheVariants.{Offer, Withdraw, Deny, Hold, Give, End}
use Rattle.flow_link.specs.declared.stage.SourceStage.{SourceStage}
use Rattle.flow_link.specs.declared.stage.SourceStage.TheVariants.{Free, Waiting, Accepted, Wished, AskedBy, Claimed}
use Rattle.flow_link.specs.declared.trace.Outcome.{Outcome}
use Rattle.flow_outlet.specs.End.{is_free, is_spoken_for, is_waiting, speaks_of}
use Rattle.flow_outlet.specs.Outlet.{OutletState, end_at, stage_at, may_offer, is_wanted, is_asked, is_wish, end_of, is_at, has_offer_out, free_move, move_at}
use Rattle.flow_outlet.specs.Moves.{MovesAreAllowed}
use Rattle.flow_outlet.proofs.TestsTell.{at_is}

if_so : (b : Bool) (m n : Move) → cond b (Some m) None ≡ Some n → m ≡ n
if_so true m n e = cc
if_so false m n e = cc

so : (b : Bool) (m n : Move) → cond b (Some m) None ≡ Some n → b ≡ true
so true m n e = refl
so false m n e = cc

-- a wish is answered so, or denied
answer_is : {Q : Type 0} (out free : Bool) (other m : Move) → cond out None (Some (cond free other Deny)) ≡ Some m
    → (free ≡ true → other ≡ m → Q) → (Deny ≡ m → Q) → Q
answer_is true free other m e f g = cc
answer_is false true other m e f g = f refl (let same : other ≡ m = cc in same)
answer_is false false other m e f g = g (let same : Deny ≡ m = cc in same)

-- a free end offers the head or ends the link
free_is : {Q : Type 0} (o : OutletState) (k : ℕ) (how : Option LinkEnd) (m : Move) → free_move o k how ≡ Some m
    → ((last : LinkEnd) → how ≡ Some last → End last ≡ m → Q) → (may_offer o ≡ Some k → Offer o.next ≡ m → Q) → Q
free_is o k (Some last) m e f g = f last refl (let same : End last ≡ m = cc in same)
free_is o k None m e f g =
    g (at_is (may_offer o) k (so (is_at (may_offer o) k) (Offer o.next) m e)) (if_so (is_at (may_offer o) k) (Offer o.next) m e)

module _ (o : OutletState) (k : ℕ) (stopped : Option Outcome) (held_up : Bool) where
  abbrev is_there : ℕ → Bool
  is_there i = i == o.next && not (is_some o.offer)

  abbrev takes_back : ℕ → Bool
  takes_back i = held_up || o.renewing || not (i == o.next)

  offers_at : (stage : SourceStage) (id : ℕ) → move_at o k stopped held_up stage ≡ Some (Offer id)
      → (may_offer o ≡ Some k) × (id ≡ o.next)
  offers_at Free id e = free_is o k (end_of (end_at o k) stopped) (Offer id) e (λ last is same. cc) (λ may same. (may, let equal : id ≡ o.next = cc in equal))
  offers_at (Wished i) id e = answer_is (has_offer_out o) (is_there i) Give (Offer id) e (λ _ same. cc) (λ same. cc)
  offers_at (AskedBy i) id e = answer_is (has_offer_out o) (is_there i) Hold (Offer id) e (λ _ same. cc) (λ same. cc)
  offers_at (Waiting i) id e = let same = if_so (takes_back i) Withdraw (Offer id) e in cc
  offers_at _ id e = cc

  gives_at : (stage : SourceStage) → (is_spoken_for stage ≡ true → speaks_of o.next stage ≡ true)
      → move_at o k stopped held_up stage ≡ Some Give → is_wanted o.next (is_some o.offer) stage ≡ true
  gives_at (Accepted i) head e = head refl
  gives_at (Claimed i) head e = head refl
  gives_at (Wished i) head e = answer_is (has_offer_out o) (is_there i) Give Give e (λ there _. there) (λ same. cc)
  gives_at (AskedBy i) head e = answer_is (has_offer_out o) (is_there i) Hold Give e (λ _ same. cc) (λ same. cc)
  gives_at Free head e = free_is o k (end_of (end_at o k) stopped) Give e (λ last is same. cc) (λ may same. cc)
  gives_at (Waiting i) head e = let same = if_so (takes_back i) Withdraw Give e in cc
  gives_at _ head e = cc

  holds_at : (stage : SourceStage) → move_at o k stopped held_up stage ≡ Some Hold
      → (is_asked o.next stage && not (is_some o.offer)) ≡ true
  holds_at (AskedBy i) e = answer_is (has_offer_out o) (is_there i) Hold Hold e (λ there _. there) (λ same. cc)
  holds_at (Wished i) e = answer_is (has_offer_out o) (is_there i) Give Hold e (λ _ same. cc) (λ same. cc)
  holds_at Free e = free_is o k (end_of (end_at o k) stopped) Hold e (λ last is same. cc) (λ may same. cc)
  holds_at (Waiting i) e = let same = if_so (takes_back i) Withdraw Hold e in cc
  holds_at _ e = cc

  denies_at : (stage : SourceStage) → move_at o k stopped held_up stage ≡ Some Deny → is_wish stage ≡ true
  denies_at (Wished _) e = refl
  denies_at (AskedBy _) e = refl
  denies_at Free e = free_is o k (end_of (end_at o k) stopped) Deny e (λ last is same. cc) (λ may same. cc)
  denies_at (Waiting i) e = let same = if_so (takes_back i) Withdraw Deny e in cc
  denies_at _ e = cc

  withdraws_at : (stage : SourceStage) → move_at o k stopped held_up stage ≡ Some Withdraw → is_waiting stage ≡ true
  withdraws_at (Waiting _) e = refl
  withdraws_at (Wished i) e = answer_is (has_offer_out o) (is_there i) Give Withdraw e (λ _ same. cc) (λ same. cc)
  withdraws_at (AskedBy i) e = answer_is (has_offer_out o) (is_there i) Hold Withdraw e (λ _ same. cc) (λ same. cc)
  withdraws_at Free e = free_is o k (end_of (end_at o k) stopped) Withdraw e (λ last is same. cc) (λ may same. cc)
  withdraws_at _ e = cc

  ends_at : (stage : SourceStage) (how : LinkEnd) → move_at o k stopped held_up stage ≡ Some (End how)
      → (is_free stage ≡ true) × (end_of (end_at o k) stopped ≡ Some how)
  ends_at Free how e = (
    refl,
    free_is o k (end_of (end_at o k) stopped) (End how) e (λ last is same. let equal : last ≡ how = cc in cc) (λ may same. cc),
  )
  ends_at (Wished i) how e = answer_is (has_offer_out o) (is_there i) Give (End how) e (λ _ same. cc) (λ same. cc)
  ends_at (AskedBy i) how e = answer_is (has_offer_out o) (is_there i) Hold (End how) e (λ _ same. cc) (λ same. cc)
  ends_at (Waiting i) how e = let same = if_so (takes_back i) Withdraw (End how) e in cc
  ends_at _ how e = cc

pub moves_are_allowed : MovesAreAllowed
moves_are_allowed = record {
  offers = λ pending stopped held_up o law k l id e. offers_at o k stopped held_up (stage_at o k) id e;
  gives = λ pending stopped held_up o law k l e. gives_at o k stopped held_up (stage_at o k)
      (λ out. OnTrue_at out (law.each k l).out_head) e;
  holds = λ pending stopped held_up o law k l e. holds_at o k stopped held_up (stage_at o k) e;
  denies = λ pending stopped held_up o law k l e. denies_at o k stopped held_up (stage_at o k) e;
  withdraws = λ pending stopped held_up o law k l e. withdraws_at o k stopped held_up (stage_at o k) e;
  ends = λ pending stopped held_up o law k l how e. ends_at o k stopped held_up (stage_at o k) how e;
}
