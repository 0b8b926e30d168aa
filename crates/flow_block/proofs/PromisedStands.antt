-- What a link accepted it is given: what the exits promised over a link they have.
use Rattle.std.proofs.Common.{◌≡◌, ℕ, ◌<◌, ◌==◌, ltb, Bool, true, false, not, ◌&&◌, ◌||◌, cond, length, is_some, refl, ap, sym, ◌∙◌, subst}
use Rattle.std.proofs.lemmas.Bool.{lt-ltb}
use Rattle.flow_link.specs.declared.stage.SourceStage.{SourceStage}
use Rattle.flow_link.specs.SourceCalls.{MayConsume, is_promised}
use Rattle.flow_outlet.specs.Outlet.{OutletState, end_at, is_at, is_empty, has_offer_out}
use Rattle.flow_outlet.specs.ByLink.{place_of, has_room, is_kept_elsewhere, is_taken}
use Rattle.flow_block.specs.Traits.{is_ready, source_shown, source_over, may_take}
use Rattle.flow_link.specs.declared.stage.SourceStage.TheVariants as source
use Rattle.flow_block.proofs.SourceStands.{shown_known, known_where, first_of_four}

accepted_where : (ready same : Bool) (next i header : ℕ) (busy : Bool) → (i == next) ≡ same
    → MayConsume header busy (cond (ready && same) (source.Accepted i) source.Crossing)
    → (ready ≡ true) × (((i == next) ≡ true) × ((header == next) ≡ true))
accepted_where true true next i header busy is may = (refl, (is, subst (λ (n : ℕ). (n == next) ≡ true) may is))
accepted_where true false next i header busy is may = absurd may
accepted_where false same next i header busy is may = absurd may

reserved_where : (ready same : Bool) (next i header : ℕ) (busy : Bool) → (i == next) ≡ same
    → MayConsume header busy (cond (ready && same) (source.Reserved i) source.Crossing)
    → (ready ≡ true) × (((i == next) ≡ true) × ((header == next) ≡ true))
reserved_where true true next i header busy is may = (refl, (is, subst (λ (n : ℕ). (n == next) ≡ true) may is))
reserved_where true false next i header busy is may = absurd may
reserved_where false same next i header busy is may = absurd may

never_kept : (same : Bool) (i : ℕ) → is_promised (cond same (source.Waiting i) source.Free) ≡ true → ⊥
never_kept true i e = cc
never_kept false i e = cc

never_out : (both : Bool) (i : ℕ) → is_promised (cond both (source.Out i) source.Crossing) ≡ true → ⊥
never_out true i e = cc
never_out false i e = cc

-- it is ready, it is the next message, and the end takes it
pub promised_by : (ready busy : Bool) (next header : ℕ) (stage : SourceStage) → MayConsume header busy (source_shown ready next stage)
    → is_promised (source_shown ready next stage) ≡ true
    → (ready ≡ true) × (((header == next) ≡ true) × ((out : Bool) → is_taken next out stage ≡ true))
promised_by ready busy next header (source.Accepted i) may promised =
    let told = accepted_where ready (i == next) next i header busy refl may in (told.0, (told.1.1, λ out. told.1.0))
promised_by ready busy next header (source.Reserved i) may promised =
    let told = reserved_where ready (i == next) next i header busy refl may in (told.0, (told.1.1, λ out. told.1.0))
promised_by ready busy next header (source.Waiting i) may promised = absurd (never_kept (i == next) i promised)
promised_by ready busy next header (source.Out i) may promised = absurd (never_out (ready && i == next) i promised)
promised_by ready busy next header source.Free may promised = absurd may
promised_by ready busy next header (source.Posted _) may promised = absurd may
promised_by ready busy next header (source.Wished _) may promised = absurd may
promised_by ready busy next header (source.AskedBy _) may promised = absurd may
promised_by ready busy next header (source.Claimed _) may promised = absurd may
promised_by ready busy next header source.Crossing may promised = absurd may
promised_by ready busy next header source.Refused may promised = absurd may
promised_by ready busy next header (source.Ended _) may promised = absurd may

-- what is spoken for over the link itself is kept for no other
none_elsewhere : (some at out : Bool) → at ≡ true → (some && not at && not out) ≡ false
none_elsewhere true true out e = refl
none_elsewhere false at out e = refl
none_elsewhere some false out e = absurd (cc)

head_all : (there is some kept taken parcel room at : Bool) → (at && some && parcel && room) ≡ true → there ≡ true → is ≡ true
    → taken ≡ true → kept ≡ false
    → ((there && (not ((is && some) && not kept) || (taken && parcel && room))) && ((is && some) && not kept)) ≡ true
head_all true true true false true true true at ready t i k n = refl
head_all true true true false true true false true ready t i k n = absurd (cc)
head_all true true true false true false room true ready t i k n = absurd (cc)
head_all true true true true true parcel room true ready t i k n = absurd (cc)
head_all true true false kept taken parcel room true ready t i k n = absurd (cc)
head_all there is some kept taken parcel room false ready t i k n = absurd (cc)
head_all true true some kept false parcel room true ready t i k n = absurd (cc)
head_all true false some kept taken parcel room true ready t i k n = absurd (cc)
head_all false is some kept taken parcel room true ready t i k n = absurd (cc)

pub promised_head : (o : OutletState) (link header : ℕ) (busy : Bool) → MayConsume header busy (source_over o link)
    → is_promised (source_over o link) ≡ true → may_take link header o ≡ true
promised_head o link header busy may promised =
    let k = place_of link o.ends in
    let end = end_at o k in
    let there : k < length o.ends = known_where o k (source_over o link) refl
    (λ gone. subst (λ (stage : SourceStage). MayConsume header busy stage) (sym gone) may) in
    let shown = shown_known o k there in
    let told = promised_by (is_ready k end o) busy o.next header end.stage
    (subst (λ (stage : SourceStage). MayConsume header busy stage) shown may) (ap is_promised (sym shown) ∙ promised) in
    let mine = first_of_four (is_at o.offer k) (not (is_empty o.left)) (is_some o.parcel) (has_room end.rule.max end.given) told.0 in
    head_all (ltb k (length o.ends)) (header == o.next) (not (is_empty o.left)) (is_kept_elsewhere k o)
    (is_taken o.next (is_some o.offer) end.stage) (is_some o.parcel) (has_room end.rule.max end.given) (is_at o.offer k) told.0
    (lt-ltb k (length o.ends) there) told.1.0 (told.1.1 (is_some o.offer))
    (none_elsewhere (is_some o.offer) (is_at o.offer k) (has_offer_out o) mine)
