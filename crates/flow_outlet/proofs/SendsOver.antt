-- What is left where the head went over a link in one call: one end counts it, and nothing is under way there.
use Rattle.std.proofs.Common.{◌≡◌, ℕ, ◌+◌, ◌<◌, ◌≤◌, ◌^◌, ◌||◌, Bool, true, false, List, ◌∷◌, length, set, get_or, drop, Option, Some, None, refl, sym, ◌∙◌, ap, arith}
use Rattle.std.proofs.lemmas.List.{length-set, set-set, get_or_read, get_or-set_same}
use Rattle.flow_value.specs.declared.value.Value.{Value}
use Rattle.flow_link.specs.declared.phase.Phase.{Phase}
use Rattle.flow_link.specs.declared.phase.Phase.TheVariants.{Idle, Wanted, Opened}
use Rattle.flow_link.specs.declared.stage.SourceStage.{SourceStage}
use Rattle.flow_link.specs.declared.stage.SourceStage.TheVariants.{Free, Posted, Out, Waiting, Accepted, Wished, AskedBy, Reserved, Claimed, Crossing, Refused, Ended}
use Rattle.flow_link.specs.Stage.{source_looks, source_is_released}
use Rattle.flow_outlet.specs.declared.ends.OutEnd.{OutEnd}
use Rattle.flow_outlet.specs.declared.group.Group.{Group}
use Rattle.flow_outlet.specs.End.{no_end, end_in, is_free, is_away, is_waiting, place_in, count_at}
use Rattle.flow_outlet.specs.Fits.{Fits}
use Rattle.flow_outlet.specs.Order.{IsNextOffer}
use Rattle.flow_outlet.specs.Outlet.{OutletState, first_of, rest_of, end_at, looks, gives, offer_kept, given_end, groups_after, weight_at, recounted}
use Rattle.flow_outlet.specs.Sends.{sends, sent_end}
use Rattle.flow_outlet.proofs.CursorMoves.{count_is}
use Rattle.flow_outlet.proofs.OutletFits.{weight_stays, fewer_groups}

free_not_away : (stage : SourceStage) → is_free stage ≡ true → is_away stage ≡ false
free_not_away Free e = refl
free_not_away (Posted _) e = cc
free_not_away (Out _) e = cc
free_not_away (Waiting _) e = cc
free_not_away (Accepted _) e = cc
free_not_away (Wished _) e = cc
free_not_away (AskedBy _) e = cc
free_not_away (Reserved _) e = cc
free_not_away (Claimed _) e = cc
free_not_away Crossing e = cc
free_not_away Refused e = cc
free_not_away (Ended _) e = cc

free_not_waiting : (stage : SourceStage) → is_free stage ≡ true → is_waiting stage ≡ false
free_not_waiting Free e = refl
free_not_waiting (Posted _) e = cc
free_not_waiting (Out _) e = cc
free_not_waiting (Waiting _) e = cc
free_not_waiting (Accepted _) e = cc
free_not_waiting (Wished _) e = cc
free_not_waiting (AskedBy _) e = cc
free_not_waiting (Reserved _) e = cc
free_not_waiting (Claimed _) e = cc
free_not_waiting Crossing e = cc
free_not_waiting Refused e = cc
free_not_waiting (Ended _) e = cc

-- an end that does not count before and after leaves the count
same_count : (test : SourceStage → Bool) (ends : List OutEnd) (k : ℕ) (end : OutEnd) (count : ℕ) → k < length ends
    → test (end_in ends k).stage ≡ false → test end.stage ≡ false
    → recounted count (test (end_in ends k).stage) (test end.stage) ≡ count
same_count test ends k end count l before after = rw (before, after) refl

module _ {ends : List OutEnd} {left : List Value} {next : ℕ} {parcel : Option Value} {groups : List Group} {room cursor away waiting spare space slots : ℕ} (fits : Fits ends left next parcel groups room cursor away waiting spare space slots) (k : ℕ) (l : k < length ends) (free : is_free (end_in ends k).stage ≡ true) (before : OutEnd) (is : before ≡ get_or ends k before) where
  was : before ≡ end_in ends k
  was = get_or_read ends k before l is no_end

  uncounted : (test : SourceStage → Bool) (count : ℕ) → count ≡ count_at test ends → test (end_in ends k).stage ≡ false
      → test Free ≡ false
      → count ≡ count_at test (set ends k (sent_end next before))
  uncounted test count e here there =
      let all = count_is test ends k (sent_end next before) l in
      let same = same_count test ends k (sent_end next before) (count_at test ends) l here there in
      e ∙ sym same ∙ all

  pub fits_sent : (value : Value) (rest : List Value) → left ≡ value ∷ rest
      → Fits (set ends k (sent_end next before)) rest (next + 1) None (groups_after next groups)
      (room + weight_at next groups)
      (0 + place_in (next + 1) (first_of rest) (drop 0 (set ends k (sent_end next before)))) away waiting spare space slots
  fits_sent value rest e = record {
    few = omega (arith, fits.few, length-set ends k (sent_end next before));
    cursor_is = omega arith;
    away_is = uncounted is_away away fits.away_is (free_not_away (end_in ends k).stage free) refl;
    waiting_is = uncounted is_waiting waiting fits.waiting_is (free_not_waiting (end_in ends k).stage free) refl;
    ids_begin = omega (arith, fits.ids_begin);
    ids_fit = let all : next + length (value ∷ rest) + spare ≤ 2 ^ 59 = rw e at fits.ids_fit in omega arith;
    values_fit = let all : length (value ∷ rest) + spare ≤ space = rw e at fits.values_fit in omega arith;
    groups_fit = omega (arith, fits.groups_fit, fewer_groups next groups);
    room_fits = omega (arith, fits.room_fits, weight_stays next groups);
    parcel_is = λ _ none. cc;
  }

-- A look and a give over a link whose end was just put there

looked_from : (o : OutletState) (k : ℕ) (end : OutEnd) (phase : Phase) → end_at o k ≡ end → looks k phase o
    ≡ record o {
      ends = set o.ends k (record end { stage = source_looks end.stage phase });
      offer = offer_kept k (source_looks end.stage phase) o.offer;
      renewing = o.renewing || source_is_released end.stage phase;
    }
looked_from o k end phase e =
    ap (λ (x : OutEnd). record o {
      ends = set o.ends k (record x { stage = source_looks x.stage phase });
      offer = offer_kept k (source_looks x.stage phase) o.offer;
      renewing = o.renewing || source_is_released x.stage phase;
    }) e

looked_at : (o : OutletState) (k : ℕ) (ends : List OutEnd) (end : OutEnd) (phase : Phase) → k < length ends
    → looks k phase (record o { ends = set ends k end })
    ≡ record o {
      ends = set ends k (record end { stage = source_looks end.stage phase });
      offer = offer_kept k (source_looks end.stage phase) o.offer;
      renewing = o.renewing || source_is_released end.stage phase;
    }
looked_at o k ends end phase l =
    looked_from (record o { ends = set ends k end }) k end phase (get_or-set_same ends k end no_end l)
    ∙ ap (λ (all : List OutEnd). record o {
      ends = all;
      offer = offer_kept k (source_looks end.stage phase) o.offer;
      renewing = o.renewing || source_is_released end.stage phase;
    })
    (set-set ends k end (record end { stage = source_looks end.stage phase }))

gave_at : (o : OutletState) (k : ℕ) (ends : List OutEnd) (end : OutEnd) → k < length ends
    → gives k (record o { ends = set ends k end }) ≡ record (gives k o) { ends = set ends k (given_end o.next end) }
gave_at o k ends end l = rw (get_or-set_same ends k end no_end l, set-set ends k end (given_end o.next end)) refl

abbrev offered_end : OutletState → ℕ → OutEnd
offered_end o k = record (end_at o k) { stage = Out o.next }

abbrev accepted_end : OutletState → ℕ → OutEnd
accepted_end o k = record (end_at o k) { stage = Accepted o.next }

-- the outlet after the head went over the link at place k
abbrev sent_at : ℕ → OutletState → OutletState
sent_at k o = record (gives k o) { ends = set o.ends k (sent_end o.next (end_at o k)) }

-- what the source's moves and looks make of an outlet, where they go over one link
sends_is : (o : OutletState) (k : ℕ) → k < length o.ends → sends k o ≡ sent_at k o
sends_is o k l =
    let given = given_end o.next (accepted_end o k) in
    ap (λ s. looks k Idle (looks k (Opened o.next) (gives k s)))
    (looked_at (record o { offer = Some k; renewing = false }) k o.ends (offered_end o k) (Wanted o.next) l)
    ∙ ap (λ s. looks k Idle (looks k (Opened o.next) s))
    (gave_at (record o { offer = offer_kept k (Accepted o.next) (Some k); renewing = false }) k o.ends (accepted_end o k) l)
    ∙ ap (λ s. looks k Idle s) (looked_at (gives k o) k o.ends given (Opened o.next) l)
    ∙ looked_at (gives k o) k o.ends given Idle l

-- an outlet whose parts are those
pub is_sent : (o : OutletState) (k : ℕ) → IsNextOffer o k → (before end : OutEnd) → before ≡ get_or o.ends k before
    → end ≡ sent_end o.next before → (value : Value) (rest : List Value) → o.left ≡ value ∷ rest
    → (parcel : Option Value) → parcel ≡ None → (groups : List Group) → groups ≡ groups_after o.next o.groups
    → (back : ℕ) → back ≡ weight_at o.next o.groups
    → record {
      ends = set o.ends k end;
      left = rest;
      next = o.next + 1;
      offer = o.offer;
      renewing = false;
      parcel = parcel;
      groups = groups;
      room = o.room + back;
      spare = o.spare;
    }
    ≡ sends k o
is_sent o k next before end is counts value rest e parcel none groups kept back weight =
    let was : before ≡ end_at o k = get_or_read o.ends k before next.there is no_end in
    let left : rest ≡ rest_of o.left = sym (ap rest_of e) in
    let after : end ≡ sent_end o.next (end_at o k) = counts ∙ ap (sent_end o.next) was in
    rw (sends_is o k next.there, after, left, none, kept, weight, next.none_out) refl
