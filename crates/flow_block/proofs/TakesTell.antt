-- What the tests of the calls by link tell: whether a block gives a message over a link, and what the call makes of it then.
use Rattle.std.proofs.Common.{◌≡◌, ℕ, ◌-◌, ◌==◌, ltb, Bool, true, false, not, ◌&&◌, ◌||◌, ◌↔◌, cond, List, [], ◌∷◌, length, map, Option, Some, None, is_some, option_copied, refl, ap, ap₂, sym, ◌∙◌, subst}
use Rattle.std.proofs.lemmas.Bool.{OnTrue_at, OnTrue_from, and_parts, and_right, ltb-true, lt-ltb}
use denote.Ref.{Bor}
use Rattle.flow_value.specs.declared.value.Value.{Value}
use Rattle.flow_link.specs.LinkOk.{HasRoom}
use Rattle.flow_intake.specs.Port.{PortState}
use Rattle.flow_intake.specs.Calls.{gives_room}
use Rattle.flow_outlet.specs.Outlet.{OutletState, may_offer, is_empty, first_of, head_of}
use Rattle.flow_outlet.specs.ByLink.{place_of, named_at, offers_at, offer_named, offers_next, gives_home as gives_head_home, has_room, is_there, tests_consume, consumed, consumes, MayConsume, MayReserve, tests_reserve, reserved, reserves, keeps}
use Rattle.flow_outlet.proofs.TestsTell.{consume_tells, reserve_tells}
use Rattle.flow_spread.specs.Spread.{SpreadState, end_at}
use Rattle.flow_spread.specs.ByLink.{gives_home, place_of as copy_place, is_there as is_copy_there, tests_take as tests_copy_take, tests_consume as tests_copy, consumed as copy_consumed, consumes as copy_consumes, MayConsume as MayConsumeCopy, MayTake as MayTakeCopy}
use Rattle.flow_block.specs.Block.{BlockState, comes_back, with_copies}
use Rattle.flow_block.specs.Copies.{copies_weight}
use Rattle.flow_block.specs.Traits.{carries, offers_over, may_take, gives_over, may_keep, keeps_head, may_take_copy, copies_home}
use Rattle.flow_block.proofs.SourceStands.{given_there, there_is_head}

-- two tests of one thing are the same
same_test : {P : Type 0} (a b : Bool) → ((a ≡ true) ↔ P) → ((b ≡ true) ↔ P) → a ≡ b
same_test true b told tells = sym (tells.1 (told.0 refl))
same_test false true told tells = told.1 (tells.0 refl)
same_test false false told tells = refl

-- The head

-- what a call comes to that would give the head over a link
pub record GivesHead (link header : ℕ) (old : BlockState) (result : Option Value) (new : BlockState) : Type 0 where
  pub given : result ≡ cond (may_take link header old.exits) (consumed link header old.exits) None
  pub left : new ≡ cond (may_take link header old.exits) (gives_over link header old) old

never_none : (values : List Value) → not (is_empty values) ≡ true → first_of values ≡ None → ⊥
never_none [] some none = cc
never_none (value ∷ values) some none = cc

module _ (link header : ℕ) {block old : BlockState} (is : block ≡ old) (asked : Bool) (tells : (asked ≡ true) ↔ MayConsume link header block.exits) where
  abbrev place : ℕ
  place = place_of link block.exits.ends

  tested : (told : Bool) → asked ≡ told → tests_consume place header block.exits ≡ told
  tested told asked_is = sym (same_test asked (tests_consume place header block.exits) tells (consume_tells link header block.exits)) ∙ asked_is

  takes_where : asked ≡ true → may_take link header block.exits ≡ is_there place header block.exits
  takes_where asks = ap (λ (may : Bool). may && is_there place header block.exits) (tested true asks)

  none_where : may_take link header block.exits ≡ false → GivesHead link header block None block
  none_where takes = record {
    given = sym (ap (λ (takes : Bool). cond takes (consumed link header block.exits) None) takes);
    left = sym (ap (λ (takes : Bool). cond takes (gives_over link header block) block) takes);
  }

  -- it may not be asked for
  pub head_refused : asked ≡ false → GivesHead link header old None old
  head_refused refuses =
      subst (λ (block : BlockState). GivesHead link header block None block) is
      (none_where (ap (λ (may : Bool). may && is_there place header block.exits) (tested false refuses)))

  gone : (there : Bool) → is_there place header block.exits ≡ there → consumed link header block.exits ≡ None
      → is_there place header block.exits ≡ false
  gone false is none = is
  gone true is none =
      let head : head_of block.exits ≡ None = sym (ap (λ (there : Bool). cond there (head_of block.exits) None) is) ∙ none in
      let some = (and_parts (header == block.exits.next) (not (is_empty block.exits.left)) (there_is_head block.exits place header is)).1 in
      absurd (never_none block.exits.left some head)

  -- it has gone elsewhere
  pub head_gone : asked ≡ true → consumed link header block.exits ≡ None → (exits : OutletState) → exits ≡ consumes link header block.exits
      → GivesHead link header old None (record block { exits = exits })
  head_gone asks none exits exits_is =
      let there = gone (is_there place header block.exits) refl none in
      let stays = exits_is ∙ ap (λ (there : Bool). cond there (gives_head_home place header block.exits) block.exits) there in
      let so = none_where (takes_where asks ∙ there) in
      subst (λ (old : BlockState). GivesHead link header old None (record block { exits = exits })) is
      (record { given = so.given; left = ap (λ (exits : OutletState). record block { exits = exits }) stays ∙ so.left })

  -- it goes over the link, and room comes back
  pub head_given : asked ≡ true → {value seen : Value} {after exits : OutletState} {ports : List PortState}
      → consumed link header block.exits ≡ Some value → seen ≡ value → after ≡ consumes link header block.exits
      → exits ≡ record after { room = 0 } → ports ≡ comes_back after block.copies block.kind (Some seen) block.ports
      → GivesHead link header old (Some value) (record block { exits = exits; ports = ports })
  head_given asks {value} {seen} {after} {exits} {ports} consumed_is seen_is after_is exits_is ports_is =
      let takes = takes_where asks ∙ given_there block.exits link header value consumed_is in
      let told = exits_is ∙ ap (λ (after : OutletState). record after { room = 0 }) after_is in
      let back = ports_is
      ∙ ap₂ (λ (after : OutletState) (head : Option Value). comes_back after block.copies block.kind head block.ports) after_is
      (ap Some seen_is ∙ sym consumed_is) in
      subst (λ (old : BlockState). GivesHead link header old (Some value) (record block { exits = exits; ports = ports })) is (record {
        given = sym consumed_is ∙ sym (ap (λ (takes : Bool). cond takes (consumed link header block.exits) None) takes);
        left = ap₂ (λ (exits : OutletState) (ports : List PortState). record block { exits = exits; ports = ports }) told back
            ∙ sym (ap (λ (takes : Bool). cond takes (gives_over link header block) block) takes);
      })

-- The next offer

-- what a call comes to that would offer the head over the next link
pub record OffersHead (old : BlockState) (offer : Option (ℕ × ℕ)) (new : BlockState) : Type 0 where
  pub named : offer ≡ named_at old.exits (offers_over old.exits (may_offer old.exits))
  pub done : new ≡ record old { exits = offers_at old.exits (offers_over old.exits (may_offer old.exits)) }

carried : (o : OutletState) (place : Option ℕ) → is_some (offers_over o place) ≡ true → offers_over o place ≡ place
carried o None some = refl
carried o (Some k) some = by (carries k o.ends) refl
  where
    by : (may : Bool) → carries k o.ends ≡ may → offers_over o (Some k) ≡ Some k
    by true is = ap (λ (may : Bool). cond may (Some k) None) is
    by false is =
        let none : is_some (offers_over o (Some k)) ≡ false = ap (λ (may : Bool). is_some (cond may (Some k) None)) is in
        absurd (let wrong : true ≡ false = sym some ∙ none in cc)

none_carried : (place : Option ℕ) → is_some place ≡ false → place ≡ None
none_carried None none = refl
none_carried (Some k) none = absurd (cc)

module _ {block old : BlockState} (is : block ≡ old) (carries : Bool) (told : carries ≡ is_some (offers_over old.exits (may_offer old.exits))) where
  told_here : carries ≡ is_some (offers_over block.exits (may_offer block.exits))
  told_here =
      told ∙ sym (ap (λ (block : BlockState). is_some (offers_over block.exits (may_offer block.exits))) is)

  -- over none
  pub none_offered : carries ≡ false → OffersHead old None old
  none_offered none =
      let nowhere = none_carried (offers_over block.exits (may_offer block.exits)) (sym told_here ∙ none) in
      subst (λ (block : BlockState). OffersHead block None block) is (record {
        named = sym (ap (named_at block.exits) nowhere);
        done = sym (ap (λ (place : Option ℕ). record block { exits = offers_at block.exits place }) nowhere);
      })

  pub head_offered : carries ≡ true → {offer : Option (ℕ × ℕ)} {exits : OutletState} → offer ≡ offer_named block.exits
      → exits ≡ offers_next block.exits → OffersHead old offer (record block { exits = exits })
  head_offered some {offer} {exits} named exits_are =
      let there = carried block.exits (may_offer block.exits) (sym told_here ∙ some) in
      subst (λ (old : BlockState). OffersHead old offer (record block { exits = exits })) is (record {
        named = named ∙ sym (ap (named_at block.exits) there);
        done = ap (λ (exits : OutletState). record block { exits = exits }) exits_are
            ∙ sym (ap (λ (place : Option ℕ). record block { exits = offers_at block.exits place }) there);
      })

-- what a call comes to that would keep the head for a link
pub record KeepsHead (link header : ℕ) (old : BlockState) (result : Bool) (new : BlockState) : Type 0 where
  pub told : result ≡ may_keep link header old.exits
  pub left : new ≡ cond (may_keep link header old.exits) (keeps_head link header old) old

module _ (link header : ℕ) {block old : BlockState} (is : block ≡ old) (waits : Bool) (waiting : (waits ≡ true) ↔ MayReserve link header block.exits) where
  abbrev asked_at : ℕ
  asked_at = place_of link block.exits.ends

  waits_so : (told : Bool) → waits ≡ told → tests_reserve asked_at header block.exits ≡ told
  waits_so told waits_is =
      sym (same_test waits (tests_reserve asked_at header block.exits) waiting (reserve_tells link header block.exits)) ∙ waits_is

  not_kept : may_keep link header block.exits ≡ false → KeepsHead link header block false block
  not_kept keeps = record {
    told = sym keeps;
    left = sym (ap (λ (keeps : Bool). cond keeps (keeps_head link header block) block) keeps);
  }

  -- the link's target does not wait for it
  pub never_waits : waits ≡ false → KeepsHead link header old false old
  never_waits none =
      subst (λ (block : BlockState). KeepsHead link header block false block) is
      (not_kept (ap (λ (waits : Bool). waits && tests_consume asked_at header block.exits && reserved header block.exits)
      (waits_so false none)))

  module _ (asked : Bool) (tells : (asked ≡ true) ↔ MayConsume link header block.exits) where
    crosses : (told : Bool) → asked ≡ told → tests_consume asked_at header block.exits ≡ told
    crosses told asked_is =
        sym (same_test asked (tests_consume asked_at header block.exits) tells (consume_tells link header block.exits)) ∙ asked_is

    -- it may not cross there
    pub never_crosses : asked ≡ false → KeepsHead link header old false old
    never_crosses refuses =
        let none = and_right (tests_reserve asked_at header block.exits) (tests_consume asked_at header block.exits) (crosses false refuses) in
        subst (λ (block : BlockState). KeepsHead link header block false block) is
        (not_kept (ap (λ (may : Bool). may && reserved header block.exits) none))

    kept_or_not : (kept : Bool) → reserved header block.exits ≡ kept
        → record block { exits = reserves link header block.exits }
        ≡ cond kept (record block { exits = reserves link header block.exits }) block
    kept_or_not true is = refl
    kept_or_not false is =
        ap (λ (kept : Bool). record block { exits = cond kept (keeps asked_at header block.exits) block.exits }) is

    -- it is kept, or is kept for another
    pub head_kept : waits ≡ true → asked ≡ true → {result : Bool} {exits : OutletState} → result ≡ reserved header block.exits
        → exits ≡ reserves link header block.exits → KeepsHead link header old result (record block { exits = exits })
    head_kept some asks {result} {exits} told exits_is =
        let keeps : may_keep link header block.exits ≡ reserved header block.exits =
        ap₂ (λ (waits may : Bool). waits && may && reserved header block.exits) (waits_so true some) (crosses true asks) in
        subst (λ (old : BlockState). KeepsHead link header old result (record block { exits = exits })) is (record {
          told = told ∙ sym keeps;
          left = ap (λ (exits : OutletState). record block { exits = exits }) exits_is
              ∙ kept_or_not (reserved header block.exits) refl
              ∙ sym (ap (λ (keeps : Bool). cond keeps (keeps_head link header block) block) keeps);
        })

-- The element

room_tells : (max : Option ℕ) (given : ℕ) → (has_room max given ≡ true) ↔ HasRoom max given
room_tells None given = (λ _. tt, λ _. refl)
room_tells (Some max) given = (λ e. ltb-true given max e, λ less. lt-ltb given max less)

take_tells : (k : ℕ) (s : SpreadState) → (tests_copy_take k s ≡ true) ↔ MayTakeCopy k s
take_tells k s =
    let end = end_at s k in
    let room = room_tells end.link.rule.max end.link.given in (
      λ e.
          let both = and_parts (is_some end.share) (has_room end.link.rule.max end.link.given) e in
          record { ready = both.0; room = room.0 both.1 },
      λ may. ap₂ (λ (share room : Bool). share && room) may.ready (room.1 may.room),
    )

there_then : (known there takes : Bool) → (known && (not there || takes)) ≡ true → (known ≡ true) × (there ≡ true → takes ≡ true)
there_then true true true e = (refl, λ _. refl)
there_then true true false e = absurd (cc)
there_then true false takes e = (refl, λ is. absurd (cc))
there_then false there takes e = absurd (cc)

then_there : (known there takes : Bool) → known ≡ true → (there ≡ true → takes ≡ true) → (known && (not there || takes)) ≡ true
then_there true true takes is all = all refl
then_there true false takes is all = refl
then_there false there takes is all = absurd (cc)

copy_tells : (link header : ℕ) (s : SpreadState)
    → (tests_copy (copy_place link s.ends) header s ≡ true) ↔ MayConsumeCopy link header s
copy_tells link header s =
    let k = copy_place link s.ends in (
      λ e.
          let all = there_then (ltb k (length s.ends)) (is_copy_there k header s) (tests_copy_take k s) e in
          record {
            known = ltb-true k (length s.ends) all.0;
            there = OnTrue_from (is_copy_there k header s) (MayTakeCopy k s) (λ is. (take_tells k s).0 (all.1 is));
          },
      λ may. then_there (ltb k (length s.ends)) (is_copy_there k header s) (tests_copy_take k s) (lt-ltb k (length s.ends) may.known)
          (λ is. (take_tells k s).1 (OnTrue_at is may.there)),
    )

-- what a call comes to that would give a copy of the element over a link
pub record GivesCopy (link header : ℕ) (old : BlockState) (result : Option Value) (new : BlockState) : Type 0 where
  pub given : result ≡ cond (may_take_copy link header old.copies) old.copies.element None
  pub left : new ≡ cond (may_take_copy link header old.copies) (copies_home link header old) old

pub some_copied : (element : Option (Bor Value)) → is_some (option_copied element) ≡ is_some element
some_copied None = refl
some_copied (Some _) = refl

module _ (link header : ℕ) {block old : BlockState} (is : block ≡ old) where
  abbrev at : ℕ
  at = copy_place link block.copies.ends

  abbrev some : Bool
  some = is_some block.copies.element

  no_copy_where : may_take_copy link header block.copies ≡ false → GivesCopy link header block None block
  no_copy_where takes = record {
    given = sym (ap (λ (takes : Bool). cond takes block.copies.element None) takes);
    left = sym (ap (λ (takes : Bool). cond takes (copies_home link header block) block) takes);
  }

  -- there is no element
  pub no_element : some ≡ false → GivesCopy link header old None old
  no_element none =
      subst (λ (block : BlockState). GivesCopy link header block None block) is
      (no_copy_where (ap (λ (some : Bool). some && tests_copy at header block.copies && is_copy_there at header block.copies) none))

  module _ (asked : Bool) (tells : (asked ≡ true) ↔ MayConsumeCopy link header block.copies) where
    copy_tested : (told : Bool) → asked ≡ told → tests_copy at header block.copies ≡ told
    copy_tested told asked_is =
        sym (same_test asked (tests_copy at header block.copies) tells (copy_tells link header block.copies)) ∙ asked_is

    -- it may not be asked for
    pub copy_refused : asked ≡ false → GivesCopy link header old None old
    copy_refused refuses =
        let none = and_right some (tests_copy at header block.copies) (copy_tested false refuses) in
        subst (λ (block : BlockState). GivesCopy link header block None block) is
        (no_copy_where (ap (λ (may : Bool). may && is_copy_there at header block.copies) none))

    copy_takes : some ≡ true → asked ≡ true → may_take_copy link header block.copies ≡ is_copy_there at header block.copies
    copy_takes is asks =
        ap₂ (λ (some may : Bool). some && may && is_copy_there at header block.copies) is (copy_tested true asks)

    not_there : (there : Bool) → is_copy_there at header block.copies ≡ there → some ≡ true
        → copy_consumed link header block.copies ≡ None → is_copy_there at header block.copies ≡ false
    not_there false is _ none = is
    not_there true is element none =
        let same = sym (ap (λ (there : Bool). is_some (cond there block.copies.element None)) is) ∙ ap is_some none in
        absurd (let wrong : true ≡ false = sym element ∙ same in cc)

    -- it is not the element any more, or the link does not wait for it
    pub copy_gone : some ≡ true → asked ≡ true → copy_consumed link header block.copies ≡ None
        → (copies : SpreadState) → copies ≡ copy_consumes link header block.copies
        → GivesCopy link header old None (record block { copies = copies })
    copy_gone element asks none copies copies_is =
        let there = not_there (is_copy_there at header block.copies) refl element none in
        let stays = copies_is ∙ ap (λ (there : Bool). cond there (gives_home at header block.copies) block.copies) there in
        let so = no_copy_where (copy_takes element asks ∙ there) in
        subst (λ (old : BlockState). GivesCopy link header old None (record block { copies = copies })) is
        (record { given = so.given; left = ap (λ (copies : SpreadState). record block { copies = copies }) stays ∙ so.left })

    its_there : (there : Bool) → is_copy_there at header block.copies ≡ there → {value : Value}
        → copy_consumed link header block.copies ≡ Some value → is_copy_there at header block.copies ≡ true
    its_there true is some = is
    its_there false is some =
        let none = sym (ap (λ (there : Bool). cond there block.copies.element None) is) in
        absurd (let wrong = none ∙ some in cc)

    -- it goes over the link, and room comes back
    pub copy_given : some ≡ true → asked ≡ true → {value : Value} {copies : SpreadState} {ports : List PortState} {counted : ℕ}
        → copy_consumed link header block.copies ≡ Some value → copies ≡ copy_consumes link header block.copies
        → counted ≡ copies_weight block.copies → ports ≡ map (gives_room (counted - copies_weight copies)) block.ports
        → GivesCopy link header old (Some value) (record block { copies = copies; ports = ports })
    copy_given element asks {value} {copies} {ports} {counted} consumed_is copies_is counted_is ports_is =
        let there = its_there (is_copy_there at header block.copies) refl consumed_is in
        let takes = copy_takes element asks ∙ there in
        let home = copies_is ∙ ap (λ (there : Bool). cond there (gives_home at header block.copies) block.copies) there in
        let back = ports_is
        ∙ ap₂ (λ (counted : ℕ) (copies : SpreadState). map (gives_room (counted - copies_weight copies)) block.ports) counted_is home in
        let value_is = sym consumed_is ∙ ap (λ (there : Bool). cond there block.copies.element None) there in
        subst (λ (old : BlockState). GivesCopy link header old (Some value) (record block { copies = copies; ports = ports })) is (record {
          given = value_is ∙ sym (ap (λ (takes : Bool). cond takes block.copies.element None) takes);
          left = ap₂ (λ (copies : SpreadState) (ports : List PortState). record block { copies = copies; ports = ports }) home back
              ∙ sym (ap (λ (takes : Bool). cond takes (copies_home link header block) block) takes);
        })

-- what it copies comes to stand so, and room comes back where the element counts no more
pub copies_changed : {block old : BlockState} → block ≡ old → (change : SpreadState → SpreadState) → {copies : SpreadState}
    → {ports : List PortState} {counted : ℕ} → copies ≡ change block.copies → counted ≡ copies_weight block.copies
    → ports ≡ map (gives_room (counted - copies_weight copies)) block.ports
    → record block { copies = copies; ports = ports } ≡ with_copies (change old.copies) old
copies_changed {block} {old} is change {copies} {ports} {counted} copies_are counted_is ports_are =
    ap₂ (λ (copies : SpreadState) (ports : List PortState). record block { copies = copies; ports = ports }) copies_are
    (ports_are
    ∙ ap₂ (λ (counted : ℕ) (copies : SpreadState). map (gives_room (counted - copies_weight copies)) block.ports) counted_is copies_are)
    ∙ ap (λ (block : BlockState). with_copies (change block.copies) block) is
