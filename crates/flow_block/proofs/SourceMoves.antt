-- How a block's stages at the links out of it change by the calls that name a link: it shares its messages out, or it copies.
use Rattle.std.proofs.Common.{◌≡◌, ℕ, ◌==◌, ◌&&◌, not, Bool, true, false, cond, List, [], ◌∷◌, IfSome, IfNone, IfOk, OnOk, inl, inr, Result, Ok, Err, Option, Some, None, is_some, refl, ap, sym, ◌∙◌, subst}
use Rattle.std.proofs.lemmas.Bool.{OnTrue_from, and_parts}
use Rattle.std.specs.Bool.{OnTrue}
use Rattle.flow_value.specs.declared.value.Value.{Value}
use Rattle.flow_value.specs.declared.message.MessageStatus.{MessageStatus}
use Rattle.flow_link.specs.declared.stage.SourceStage.{SourceStage}
use Rattle.flow_link.specs.declared.stage.SourceStage.TheVariants.{Out, Waiting, Reserved}
use Rattle.flow_link.specs.SourceCalls.{Offers, stage_answered, MayConsume, is_promised, GivesOver, ForgetsAll, GivesUp}
use Rattle.flow_link.specs.StagesMove.{MovesTo}
use Rattle.flow_outlet.specs.Outlet.{OutletState, is_empty, first_of, head_of, may_offer}
use Rattle.flow_outlet.specs.ByLink.{place_of, named_at, offers_at, answered, is_there as is_head_there, tests_consume, consumed}
use Rattle.flow_spread.specs.Spread.{next_place}
use Rattle.flow_spread.specs.ByLink.{place_of as copy_place, named_at as copy_named, answered as copy_answered, tests_consume as tests_copy, is_there}
use Rattle.flow_spread.proofs.NextOffer.{next_is}
use Rattle.flow_block.specs.Block.{BlockState, with_copies}
use Rattle.flow_block.specs.Traits.{source_over, carries, offers_over, copy_over, carries_copy, copies_over, offers_copy_at, shares, source_by, source_at, is_busy, busy_with, is_source_busy, may_take, gives_over, may_take_copy, copies_home, may_keep, keeps_head, releases_head, may_keep_copy, keeps_copy, releases_its_copy}
use Rattle.flow_block.proofs.CopyKept.{copy_keep_moves, copy_release_moves}
use Rattle.flow_block.proofs.CopyStands.{copy_answer_moves, copy_offer_moves, promised_copy, copy_consume_moves}
use Rattle.flow_block.proofs.HeadKept.{keep_moves, release_moves}
use Rattle.flow_block.proofs.SourceStands.{answer_moves, offer_moves, consume_moves, there_is_head}
use Rattle.flow_block.proofs.PromisedStands.{promised_head}

-- Where it shares its messages out

pub at_shared : (block : BlockState) → shares block ≡ true → source_at block ≡ source_over block.exits
at_shared block is = ap (λ (one : Bool). source_by one block) is

pub at_copied : (block : BlockState) → shares block ≡ false → source_at block ≡ copy_over block.copies
at_copied block is = ap (λ (one : Bool). source_by one block) is

-- what holds of the exits holds of the block
pub by_exits : (Moves : (ℕ → SourceStage) → (ℕ → SourceStage) → Type 0) (block new : BlockState) → shares block ≡ true → shares new ≡ true
    → Moves (source_over block.exits) (source_over new.exits) → Moves (source_at block) (source_at new)
by_exits Moves block new is new_is moves =
    subst (λ (stages : ℕ → SourceStage). Moves stages (source_at new)) (sym (at_shared block is))
    (subst (λ (stages : ℕ → SourceStage). Moves (source_over block.exits) stages) (sym (at_shared new new_is)) moves)

pub by_copies : (Moves : (ℕ → SourceStage) → (ℕ → SourceStage) → Type 0) (block new : BlockState) → shares block ≡ false → shares new ≡ false
    → Moves (copy_over block.copies) (copy_over new.copies) → Moves (source_at block) (source_at new)
by_copies Moves block new is new_is moves =
    subst (λ (stages : ℕ → SourceStage). Moves stages (source_at new)) (sym (at_copied block is))
    (subst (λ (stages : ℕ → SourceStage). Moves (copy_over block.copies) stages) (sym (at_copied new new_is)) moves)

-- The next offer

heads_offered : (o : OutletState) (place : Option ℕ) → may_offer o ≡ place
    → Offers (named_at o (offers_over o place)) (source_over o) (source_over (offers_at o (offers_over o place)))
heads_offered o None is = tt
heads_offered o (Some k) is = at (carries k o.ends) refl
  where
    at : (b : Bool) → carries k o.ends ≡ b
        → Offers (named_at o (cond b (Some k) None)) (source_over o) (source_over (offers_at o (cond b (Some k) None)))
    at true carried = offer_moves o k is carried
    at false carried = tt

copies_offered : (block : BlockState) (place : Option ℕ) → next_place block.copies ≡ place
    → Offers (copy_named block.copies (copies_over block.copies place)) (copy_over block.copies)
    (copy_over (offers_copy_at (copies_over block.copies place) block).copies)
copies_offered block None is = tt
copies_offered block (Some k) is = at (carries_copy k block.copies.ends) refl
  where
    at : (b : Bool) → carries_copy k block.copies.ends ≡ b
        → Offers (copy_named block.copies (cond b (Some k) None)) (copy_over block.copies)
        (copy_over (offers_copy_at (cond b (Some k) None) block).copies)
    at true carried = copy_offer_moves block.copies k (next_is block.copies k is) carried
    at false carried = tt

pub head_offers : (block : BlockState) → shares block ≡ true
    → Offers (named_at block.exits (offers_over block.exits (may_offer block.exits))) (source_at block)
    (source_at (record block { exits = offers_at block.exits (offers_over block.exits (may_offer block.exits)) }))
head_offers block is =
    let place = offers_over block.exits (may_offer block.exits) in
    by_exits (Offers (named_at block.exits place)) block (record block { exits = offers_at block.exits place }) is is
    (heads_offered block.exits (may_offer block.exits) refl)

kind_stays : (block : BlockState) (place : Option ℕ) → shares (offers_copy_at place block) ≡ shares block
kind_stays block None = refl
kind_stays block (Some k) = refl

pub copy_offers : (block : BlockState) → shares block ≡ false
    → Offers (copy_named block.copies (copies_over block.copies (next_place block.copies))) (source_at block)
    (source_at (offers_copy_at (copies_over block.copies (next_place block.copies)) block))
copy_offers block is =
    let place = copies_over block.copies (next_place block.copies) in
    by_copies (Offers (copy_named block.copies place)) block (offers_copy_at place block) is (kind_stays block place ∙ is)
    (copies_offered block (next_place block.copies) refl)

-- the offer that was made, or was not for want of memory
pub head_offered : {E : Type 0} (block : BlockState) → shares block ≡ true → (result : Result (Option (ℕ × ℕ)) E) (new : BlockState)
    → IfOk result (λ offer. offer ≡ named_at block.exits (offers_over block.exits (may_offer block.exits)))
    → OnOk result (new ≡ record block { exits = offers_at block.exits (offers_over block.exits (may_offer block.exits)) })
    → IfOk result (λ offer. Offers offer (source_at block) (source_at new))
head_offered block is (Err _) new named done = tt
head_offered block is (Ok offer) new named done = rw (named, done) (head_offers block is)

pub copy_offered : {E : Type 0} (block : BlockState) → shares block ≡ false → (result : Result (Option (ℕ × ℕ)) E) (new : BlockState)
    → IfOk result (λ offer. offer ≡ copy_named block.copies (copies_over block.copies (next_place block.copies)))
    → OnOk result (new ≡ offers_copy_at (copies_over block.copies (next_place block.copies)) block)
    → IfOk result (λ offer. Offers offer (source_at block) (source_at new))
copy_offered block is (Err _) new named done = tt
copy_offered block is (Ok offer) new named done = rw (named, done) (copy_offers block is)

-- The answer to an offer

pub head_answers : (block : BlockState) (link header : ℕ) → shares block ≡ true → source_at block link ≡ Out header → (status : MessageStatus)
    → MovesTo (stage_answered status header) link (source_at block)
    (source_at (record block { exits = answered status header (place_of link block.exits.ends) block.exits }))
head_answers block link header is asked status =
    let new = record block { exits = answered status header (place_of link block.exits.ends) block.exits } in
    let mine : source_over block.exits link ≡ Out header = subst (λ (stages : ℕ → SourceStage). stages link ≡ Out header) (at_shared block is) asked in
    by_exits (MovesTo (stage_answered status header) link) block new is is (answer_moves block.exits link header mine status)

pub copy_answers : (block : BlockState) (link header : ℕ) → shares block ≡ false → source_at block link ≡ Out header → (status : MessageStatus)
    → MovesTo (stage_answered status header) link (source_at block)
    (source_at (with_copies (copy_answered status header (copy_place link block.copies.ends) block.copies) block))
copy_answers block link header is asked status =
    let new = with_copies (copy_answered status header (copy_place link block.copies.ends) block.copies) block in
    let mine : copy_over block.copies link ≡ Out header = subst (λ (stages : ℕ → SourceStage). stages link ≡ Out header) (at_copied block is) asked in
    by_copies (MovesTo (stage_answered status header) link) block new is is (copy_answer_moves block.copies link header mine status)

-- A message that is given

-- what is known where a message is consumed
pub record Consumes (block new : BlockState) (link header : ℕ) (value : Option Value) : Type 0 where
  pub moves : IfSome value (λ _. GivesOver link header (source_at block) (source_at new))
  pub kept : IfNone value (new ≡ block)
  pub promised : is_promised (source_at block link) ≡ true → is_some value ≡ true

consumes_where : (block after : BlockState) (link header : ℕ) (value : Option Value) (take : Bool)
    → (take ≡ true → is_some value ≡ true) → (take ≡ true → GivesOver link header (source_at block) (source_at after))
    → (is_promised (source_at block link) ≡ true → take ≡ true)
    → Consumes block (cond take after block) link header (cond take value None)
consumes_where block after link header (Some v) true some gives promised = record { moves = gives refl; kept = tt; promised = λ _. refl }
consumes_where block after link header None true some gives promised = absurd (let wrong : false ≡ true = some refl in cc)
consumes_where block after link header value false some gives promised = record {
  moves = tt;
  kept = refl;
  promised = λ is. absurd (let wrong : false ≡ true = promised is in cc);
}

head_some : (o : OutletState) (link header : ℕ) → is_head_there (place_of link o.ends) header o ≡ true
    → is_some (consumed link header o) ≡ true
head_some o link header there =
    let head = there_is_head o (place_of link o.ends) header there in
    ap (λ (b : Bool). is_some (cond b (head_of o) None)) there
    ∙ first_some o.left (and_parts (header == o.next) (not (is_empty o.left)) head).1
  where
    first_some : (left : List Value) → not (is_empty left) ≡ true → is_some (first_of left) ≡ true
    first_some [] e = absurd (cc)
    first_some (v ∷ left) e = refl

pub head_consumes : (block : BlockState) (link header : ℕ) → shares block ≡ true
    → MayConsume header (is_source_busy block) (source_at block link)
    → Consumes block (cond (may_take link header block.exits) (gives_over link header block) block) link header
    (cond (may_take link header block.exits) (consumed link header block.exits) None)
head_consumes block link header is may =
    let o = block.exits in
    let busy : is_source_busy block ≡ is_busy o = ap (λ (one : Bool). busy_with one block) is in
    let mine : MayConsume header (is_busy o) (source_over o link) =
    subst (λ (b : Bool). MayConsume header b (source_over o link)) busy
    (subst (λ (stages : ℕ → SourceStage). MayConsume header (is_source_busy block) (stages link)) (at_shared block is) may) in
    consumes_where block (gives_over link header block) link header (consumed link header o) (may_take link header o)
    (λ take. head_some o link header
    (and_parts (tests_consume (place_of link o.ends) header o) (is_head_there (place_of link o.ends) header o) take).1)
    (λ take.
    let both = and_parts (tests_consume (place_of link o.ends) header o) (is_head_there (place_of link o.ends) header o) take in
    by_exits (GivesOver link header) block (gives_over link header block) is is (consume_moves o link header mine both.0 both.1))
    (λ promised. promised_head o link header (is_busy o) mine
    (subst (λ (stages : ℕ → SourceStage). is_promised (stages link) ≡ true) (at_shared block is) promised))

pub copy_consumes : (block : BlockState) (link header : ℕ) → shares block ≡ false
    → MayConsume header (is_source_busy block) (source_at block link)
    → Consumes block (cond (may_take_copy link header block.copies) (copies_home link header block) block) link header
    (cond (may_take_copy link header block.copies) block.copies.element None)
copy_consumes block link header is may =
    let s = block.copies in
    let k = copy_place link s.ends in
    let mine : MayConsume header (is_source_busy block) (copy_over s link) =
    subst (λ (stages : ℕ → SourceStage). MayConsume header (is_source_busy block) (stages link)) (at_copied block is) may in
    consumes_where block (copies_home link header block) link header s.element (may_take_copy link header s)
    (λ take. (and_parts (is_some s.element) (tests_copy k header s)
    (and_parts (is_some s.element && tests_copy k header s) (is_there k header s) take).0).0)
    (λ take. by_copies (GivesOver link header) block (copies_home link header block) is is
    (copy_consume_moves s link header (is_source_busy block) mine))
    (λ promised. promised_copy s link header (is_source_busy block) mine
    (subst (λ (stages : ℕ → SourceStage). is_promised (stages link) ≡ true) (at_copied block is) promised))

-- the same of what the call answered and left
pub gives_so : (block after new : BlockState) (link header : ℕ) (given value : Option Value) → Consumes block after link header given
    → value ≡ given → new ≡ after → IfSome value (λ _. GivesOver link header (source_at block) (source_at new))
gives_so block after new link header given value told value_is new_is = rw (value_is, new_is) told.moves

-- A message that is kept, or given up

-- what is known where a message is to be kept
pub record Keeps (block new : BlockState) (link header : ℕ) (kept : Bool) : Type 0 where
  pub moves : OnTrue kept (MovesTo (Reserved header) link (source_at block) (source_at new))
  pub same : kept ≡ false → new ≡ block

keeps_where : (block after : BlockState) (link header : ℕ) (keep : Bool)
    → (keep ≡ true → MovesTo (Reserved header) link (source_at block) (source_at after))
    → Keeps block (cond keep after block) link header keep
keeps_where block after link header true moves =
    record { moves = OnTrue_from true _ (λ _. moves refl); same = λ e. absurd (cc) }
keeps_where block after link header false moves = record { moves = tt; same = λ _. refl }

pub head_keeps : (block : BlockState) (link header : ℕ) → shares block ≡ true
    → Keeps block (cond (may_keep link header block.exits) (keeps_head link header block) block) link header
    (may_keep link header block.exits)
head_keeps block link header is =
    keeps_where block (keeps_head link header block) link header (may_keep link header block.exits)
    (λ keep. by_exits (MovesTo (Reserved header) link) block (keeps_head link header block) is is (keep_moves block.exits link header keep))

pub copy_keeps : (block : BlockState) (link header : ℕ) → shares block ≡ false
    → Keeps block (cond (may_keep_copy link header block.copies) (keeps_copy link header block) block) link header
    (may_keep_copy link header block.copies)
copy_keeps block link header is =
    keeps_where block (keeps_copy link header block) link header (may_keep_copy link header block.copies)
    (λ keep. by_copies (MovesTo (Reserved header) link) block (keeps_copy link header block) is is
    (copy_keep_moves block.copies link header keep))

-- the same of what the call answered and left
pub keeps_so : (block after new : BlockState) (link header : ℕ) (keep kept : Bool) → Keeps block after link header keep → kept ≡ keep
    → new ≡ after → Keeps block new link header kept
keeps_so block after new link header keep kept told kept_is new_is =
    subst (λ (k : Bool). Keeps block new link header k) (sym kept_is)
    (subst (λ (b : BlockState). Keeps block b link header keep) (sym new_is) told)

pub head_kept : (block : BlockState) (link header : ℕ) → shares block ≡ true → source_at block link ≡ Reserved header
    → source_over block.exits link ≡ Reserved header
head_kept block link header is kept = subst (λ (stages : ℕ → SourceStage). stages link ≡ Reserved header) (at_shared block is) kept

pub copy_kept : (block : BlockState) (link header : ℕ) → shares block ≡ false → source_at block link ≡ Reserved header
    → copy_over block.copies link ≡ Reserved header
copy_kept block link header is kept = subst (λ (stages : ℕ → SourceStage). stages link ≡ Reserved header) (at_copied block is) kept

pub head_releases : (block : BlockState) (link header : ℕ) → shares block ≡ true → source_at block link ≡ Reserved header
    → GivesUp link header (source_at block) (source_at (releases_head link header block))
head_releases block link header is kept =
    inr (by_exits (ForgetsAll link header) block (releases_head link header block) is is
    (release_moves block.exits link header (head_kept block link header is kept)))

pub copy_releases : (block : BlockState) (link header : ℕ) → shares block ≡ false → source_at block link ≡ Reserved header
    → GivesUp link header (source_at block) (source_at (releases_its_copy link header block))
copy_releases block link header is kept =
    inl (by_copies (MovesTo (Waiting header) link) block (releases_its_copy link header block) is is
    (copy_release_moves block.copies link header (copy_kept block link header is kept)))
