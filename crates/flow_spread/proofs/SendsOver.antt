-- A copy that goes over a link in one call: what the source's moves and looks come to.
use Rattle.std.proofs.Common.{◌≡◌, ℕ, ◌<◌, ◌&&◌, not, List, length, false, ap, ◌∙◌}
use Rattle.std.proofs.lemmas.List.{get_or-set_same, set-set}
use Rattle.flow_link.specs.declared.phase.Phase.{Phase}
use Rattle.flow_link.specs.declared.phase.Phase.TheVariants.{Idle, Wanted, Opened}
use Rattle.flow_link.specs.Stage.{source_looks}
use Rattle.flow_outlet.specs.Outlet.{given_end}
use Rattle.flow_spread.specs.declared.end.CopyEnd.{CopyEnd}
use Rattle.flow_spread.specs.End.{no_end, is_answer, moved}
use Rattle.flow_spread.specs.Sends.{sends, sent_end}
use Rattle.flow_spread.specs.Spread.{SpreadState, end_at, changes, looks}

-- an end that was just put there changes again
changes_again : (s : SpreadState) (k : ℕ) (end : CopyEnd) (change : CopyEnd → CopyEnd) → k < length s.ends
    → changes k (change (end_at (changes k end s) k)) (changes k end s) ≡ changes k (change end) s
changes_again s k end change there =
    ap (λ (x : CopyEnd). changes k (change x) (changes k end s)) (get_or-set_same s.ends k end no_end there)
    ∙ ap (λ (ends : List CopyEnd). record s { ends = ends }) (set-set s.ends k end (change end))

module _ (s : SpreadState) (k : ℕ) where
  abbrev looked : Phase → CopyEnd → CopyEnd
  looked phase end =
      moved (record end.link { stage = source_looks end.link.stage phase })
      (end.owes && not (is_answer s.once (source_looks end.link.stage phase))) end

  abbrev gave : CopyEnd → CopyEnd
  gave end = moved (given_end s.id end.link) false end

  pub sends_is : k < length s.ends → sends k s ≡ changes k (sent_end s.id (end_at s k)) s
  sends_is there =
      let wanted = looked (Wanted s.id) (end_at s k) in
      let given = gave wanted in
      let opened = looked (Opened s.id) given in
      ap (λ (x : SpreadState). looks k Idle (looks k (Opened s.id) x)) (changes_again s k wanted gave there)
      ∙ ap (λ (x : SpreadState). looks k Idle x) (changes_again s k given (looked (Opened s.id)) there)
      ∙ changes_again s k opened (looked Idle) there
