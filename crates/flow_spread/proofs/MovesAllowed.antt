-- What an end does next by itself is what its calls allow.
use Rattle.std.proofs.Common.{◌≡◌, ℕ, cond, Bool, true, false, Option, Some, None, refl, ◌∙◌, ap}
use Rattle.flow_link.specs.declared.phase.LinkEnd.{LinkEnd}
use Rattle.flow_link.specs.declared.phase.LinkEnd.TheVariants.{Plain}
use Rattle.flow_link.specs.declared.phase.Move.{Move}
use Rattle.flow_link.specs.declared.phase.Move.TheVariants.{Offer, Withdraw, Hold, Give, End}
use Rattle.flow_link.specs.declared.stage.SourceStage.{SourceStage}
use Rattle.flow_link.specs.declared.stage.SourceStage.TheVariants.{Free, Waiting, Accepted, Wished, AskedBy, Claimed}
use Rattle.flow_link.specs.declared.trace.Outcome.{Outcome}
use Rattle.flow_outlet.specs.End.{id_of, is_free, is_waiting, is_cut}
use Rattle.flow_outlet.specs.Outlet.{end_of, end_by}
use Rattle.flow_spread.specs.Spread.{SpreadState, link_at, stage_at, may_offer, is_wanted, is_asked_by, free_move, move_at}
use Rattle.flow_spread.specs.Moves.{MovesAreAllowed}
use Rattle.flow_spread.proofs.StagesTell.{number_same}

if_so : (b : Bool) (m n : Move) → cond b (Some m) None ≡ Some n → (b ≡ true) × (m ≡ n)
if_so true m n e = (refl, let same : m ≡ n = cc in same)
if_so false m n e = cc

-- a free end offers the element or ends the link
free_does : {Q : Type 0} (s : SpreadState) (k : ℕ) (how : Option LinkEnd) (m : Move) → free_move s k how ≡ Some m
    → ((last : LinkEnd) → how ≡ Some last → End last ≡ m → Q) → (how ≡ None → may_offer k s ≡ true → Offer s.id ≡ m → Q) → Q
free_does s k (Some last) m e f g = f last refl (let same : End last ≡ m = cc in same)
free_does s k None m e f g = let so = if_so (may_offer k s) (Offer s.id) m e in g refl so.0 so.1

-- a block that has stopped ends its links
goes_on : (cut passes : Bool) (stopped : Option Outcome) → cond cut (Some Plain) (end_by passes stopped) ≡ None → stopped ≡ None
goes_on true passes stopped e = cc
goes_on false passes None e = refl
goes_on false passes (Some outcome) e = cc

module _ (s : SpreadState) (k : ℕ) (stopped : Option Outcome) (held_up : Bool) where
  offers_at : (stage : SourceStage) (id : ℕ) → move_at s k stopped held_up stage ≡ Some (Offer id)
      → (may_offer k s ≡ true) × (id ≡ s.id) × (stopped ≡ None)
  offers_at Free id e =
      let link = link_at s k in
      free_does s k (end_of link stopped) (Offer id) e (λ last is same. cc)
      (λ none may same. (may, let equal : id ≡ s.id = cc in equal, goes_on (is_cut link) link.rule.passes stopped none))
  offers_at (Accepted _) id e = cc
  offers_at (Wished _) id e = cc
  offers_at (Claimed _) id e = cc
  offers_at (AskedBy _) id e = cc
  offers_at (Waiting i) id e = let so = if_so held_up Withdraw (Offer id) e in let no = so.1 in cc
  offers_at _ id e = cc

  gives_at : (stage : SourceStage) → ((i : ℕ) → id_of stage ≡ Some i → i ≡ s.id)
      → move_at s k stopped held_up stage ≡ Some Give → is_wanted s.id stage ≡ true
  gives_at (Accepted i) here e = let same : i ≡ s.id = here i refl in rw same (number_same s.id)
  gives_at (Wished i) here e = let same : i ≡ s.id = here i refl in rw same (number_same s.id)
  gives_at (Claimed i) here e = let same : i ≡ s.id = here i refl in rw same (number_same s.id)
  gives_at Free here e = free_does s k (end_of (link_at s k) stopped) Give e (λ last is same. cc) (λ none may same. cc)
  gives_at (AskedBy _) here e = cc
  gives_at (Waiting i) here e = let so = if_so held_up Withdraw Give e in let no = so.1 in cc
  gives_at _ here e = cc

  holds_at : (stage : SourceStage) → move_at s k stopped held_up stage ≡ Some Hold → is_asked_by stage ≡ true
  holds_at (AskedBy _) e = refl
  holds_at (Accepted _) e = cc
  holds_at (Wished _) e = cc
  holds_at (Claimed _) e = cc
  holds_at Free e = free_does s k (end_of (link_at s k) stopped) Hold e (λ last is same. cc) (λ none may same. cc)
  holds_at (Waiting i) e = let so = if_so held_up Withdraw Hold e in let no = so.1 in cc
  holds_at _ e = cc

  withdraws_at : (stage : SourceStage) → move_at s k stopped held_up stage ≡ Some Withdraw
      → (is_waiting stage ≡ true) × (held_up ≡ true)
  withdraws_at (Waiting _) e = (refl, (if_so held_up Withdraw Withdraw e).0)
  withdraws_at (Accepted _) e = cc
  withdraws_at (Wished _) e = cc
  withdraws_at (Claimed _) e = cc
  withdraws_at (AskedBy _) e = cc
  withdraws_at Free e = free_does s k (end_of (link_at s k) stopped) Withdraw e (λ last is same. cc) (λ none may same. cc)
  withdraws_at _ e = cc

  ends_at : (stage : SourceStage) (how : LinkEnd) → move_at s k stopped held_up stage ≡ Some (End how)
      → (is_free stage ≡ true) × (end_of (link_at s k) stopped ≡ Some how)
  ends_at Free how e = (
    refl,
    free_does s k (end_of (link_at s k) stopped) (End how) e (λ last is same. let equal : last ≡ how = cc in is ∙ ap Some equal)
        (λ none may same. cc),
  )
  ends_at (Accepted _) how e = cc
  ends_at (Wished _) how e = cc
  ends_at (Claimed _) how e = cc
  ends_at (AskedBy _) how e = cc
  ends_at (Waiting i) how e = let so = if_so held_up Withdraw (End how) e in let no = so.1 in cc
  ends_at _ how e = cc

pub moves_are_allowed : MovesAreAllowed
moves_are_allowed = record {
  offers = λ first pending stopped held_up s law k l id e. offers_at s k stopped held_up (stage_at s k) id e;
  gives = λ first pending stopped held_up s law k l e. gives_at s k stopped held_up (stage_at s k) (law.each k l).current e;
  holds = λ first pending stopped held_up s law k l e. holds_at s k stopped held_up (stage_at s k) e;
  withdraws = λ first pending stopped held_up s law k l e. withdraws_at s k stopped held_up (stage_at s k) e;
  ends = λ first pending stopped held_up s law k l how e. ends_at s k stopped held_up (stage_at s k) how e;
}
