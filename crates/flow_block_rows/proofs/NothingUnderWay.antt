-- Where no offer is out over a link, and none waits there; and that no offer comes to be out where a link goes elsewhere.
use Rattle.std.proofs.Common.{◌≡◌, ◌≢◌, ℕ, ◌<◌, ◌==◌, ltb, Bool, true, false, ◌&&◌, cond, length, refl, eqb-true, ne_eqb}
use Rattle.std.proofs.lemmas.Bool.{and_parts, ltb-true}
use Rattle.flow_link.specs.SourceCalls.{NothingOut, is_under_way}
use Rattle.flow_link.specs.declared.stage.SourceStage.{SourceStage}
use Rattle.flow_link.specs.declared.stage.SourceStage.TheVariants as source
use Rattle.flow_outlet.specs.End.{is_away, count_at}
use Rattle.flow_outlet.specs.Outlet.{OutletState, end_at}
use Rattle.flow_outlet.specs.ByLink.{place_of}
use Rattle.flow_spread.specs.End.{is_away_at, count_of}
use Rattle.flow_spread.specs.Spread.{SpreadState, is_at_rest, end_at as copy_at}
use Rattle.flow_spread.specs.ByLink.{place_of as copy_place}
use Rattle.flow_spread.proofs.CountsOfEnds.{none_there}
use Rattle.flow_block.specs.Block.{BlockState}
use Rattle.flow_block.specs.Traits.{is_ready, source_shown, end_shown, source_over, is_copy_ready, copy_shown, copy_over, shares, source_by, source_at}
use Rattle.flow_block_law.proofs.GoingOn.{nothing_away}

never_under_way : (ready : Bool) (next : ℕ) (stage : SourceStage) → is_away stage ≡ false
    → is_under_way (source_shown ready next stage) ≡ false
never_under_way ready next source.Free none = refl
never_under_way ready next source.Refused none = refl
never_under_way ready next (source.Ended how) none = refl
never_under_way ready next stage none = absurd (cc)

over_exits : (o : OutletState) → (count_at is_away o.ends == 0) ≡ true → NothingOut (source_over o)
over_exits o rest link = at (ltb (place_of link o.ends) (length o.ends))
  where
    at : (there : Bool)
        → is_under_way (cond there (end_shown (place_of link o.ends) (end_at o (place_of link o.ends)) o) source.Refused) ≡ false
    at true =
        let end = end_at o (place_of link o.ends) in
        never_under_way (is_ready (place_of link o.ends) end o) o.next end.stage (nothing_away o.ends (place_of link o.ends) rest)
    at false = refl

over_copies : (s : SpreadState) → is_at_rest s ≡ true → NothingOut (copy_over s)
over_copies s rest link = at (ltb (copy_place link s.ends) (length s.ends)) refl
  where
    at : (there : Bool) → ltb (copy_place link s.ends) (length s.ends) ≡ there
        → is_under_way (cond there (copy_shown (copy_at s (copy_place link s.ends)) s) source.Refused) ≡ false
    at true is =
        let end = copy_at s (copy_place link s.ends) in
        never_under_way (is_copy_ready s end) s.id end.link.stage
        (none_there is_away_at s.ends (copy_place link s.ends) (ltb-true (copy_place link s.ends) (length s.ends) is)
        (eqb-true (count_of is_away_at s.ends) 0 rest))
    at false is = refl

pub rests_tell : (block : BlockState) → (count_at is_away block.exits.ends == 0) ≡ true → is_at_rest block.copies ≡ true
    → NothingOut (source_at block)
rests_tell block exits copies = by (shares block)
  where
    by : (one : Bool) → NothingOut (source_by one block)
    by true = over_exits block.exits exits
    by false = over_copies block.copies copies
