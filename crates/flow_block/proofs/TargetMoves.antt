-- How a block's stages at the links into it change by the calls that name a link: the port into which the link leads changes.
use Rattle.std.proofs.Common.{◌≡◌, ◌≢◌, ℕ, zero, suc, ◌+◌, ◌<◌, Bool, true, false, get_or, List, [], ◌∷◌, drop, ◌-◌, length, set, position, Option, Some, None, unwrap_or, Result, Ok, Err, IfOk, refl, ap, sym, ◌∙◌, subst, arith, eqb-true}
use Rattle.std.proofs.lemmas.Bool.{and_parts}
use Rattle.std.proofs.lemmas.List.{length-set, get_or_read, get_or-set_same}
use Rattle.std.proofs.lemmas.List.Quantifiers.{position-Some}
use Rattle.flow_value.specs.declared.value.Value.{Value}
use Rattle.flow_value.specs.declared.message.MessageStatus.{MessageStatus}
use Rattle.flow_link.specs.declared.stage.Refusal.TheVariants.{PortEnded}
use Rattle.flow_link.specs.declared.stage.TargetStage.{TargetStage}
use Rattle.flow_link.specs.declared.stage.TargetStage.TheVariants as target
use Rattle.flow_link.specs.Lists.{numbers_from, below}
use Rattle.flow_link.specs.StagesMove.{MovesBy, MovesTo}
use Rattle.flow_link.specs.TargetCalls.{StandsAfter, Wants, Consumes, Wishes, MayNote, stage_noted}
use Rattle.flow_link.specs.declared.traits.Wish.{Wish}
use Rattle.flow_link.specs.declared.traits.WishAnswer.{WishAnswer}
use Rattle.flow_intake.specs.Port.{PortState, fresh_port}
use Rattle.flow_intake.specs.Calls.{answer_to, next_place}
use Rattle.flow_intake.specs.ByLink.{place_of, next_wish, consumes_next, answered, arrives}
use Rattle.flow_spread.specs.Spread.{puts}
use Rattle.flow_block.specs.Copies.{copies_weight}
use Rattle.flow_block.specs.Block.{BlockState, port_in, port_at, copies_taken, copies_at_once, copies_where, copies_next}
use Rattle.flow_block.specs.Traits.{port_shown, shown_over, has_link, port_into, target_over, notes, names_itself, leads_to, wishes_at, wishing_port, wish_named}
use Rattle.flow_link.proofs.PlacesNamed.{place_set, place_is}
use Rattle.flow_block.proofs.PortsChange.{kept_at_one}
use Rattle.flow_block.proofs.TargetStands.{SameLinks, PortMoves, PortChanges, answer_moves, arrive_moves, not_noted, note_moves, consume_at}

-- The port of a link

read_over : (ports : List PortState) (link : ℕ) → 0 < length ports → target_over ports link ≡ shown_over (port_in ports (port_into link ports)) link
read_over [] link some = absurd (omega arith)
read_over (port ∷ ports) link some = refl

-- where no port is, it takes nothing
pub some_port : (ports : List PortState) (link : ℕ) → (target_over ports link ≡ target.Refused PortEnded → ⊥) → 0 < length ports
some_port [] link known = absurd (known refl)
some_port (port ∷ ports) link known = omega arith

module _ (ports : List PortState) (link : ℕ) (old new : PortState) (links : SameLinks link old new) where
  same_where : (place : Option ℕ) → position (has_link link) ports ≡ place → unwrap_or place 0 < length ports
      → old ≡ port_in ports (unwrap_or place 0) → (has_link link new ≡ has_link link old)
      → port_into link (set ports (unwrap_or place 0) new) ≡ unwrap_or place 0
  same_where place at l read same =
      ap (λ (p : Option ℕ). unwrap_or p 0)
      (place_set (has_link link) ports (unwrap_or place 0) new (fresh_port None) (same ∙ ap (has_link link) read) ∙ at)

  -- the link has an end at the first port now
  new_where : (at : position (has_link link) ports ≡ None) → 0 < length ports → has_link link new ≡ true → port_into link (set ports 0 new) ≡ 0
  new_where at l has =
      let near : 0 < length (set ports 0 new) = omega (arith, l, length-set ports 0 new) in
      ap (λ (p : Option ℕ). unwrap_or p 0)
      (place_is (has_link link) (set ports 0 new) 0 (fresh_port None) near (λ k earlier. absurd (omega (arith, earlier)))
      (ap (has_link link) (get_or-set_same ports 0 new (fresh_port None) l) ∙ has))

  own_where : (place : Option ℕ) → position (has_link link) ports ≡ place → unwrap_or place 0 < length ports
      → old ≡ port_in ports (unwrap_or place 0) → (was is : Bool) → has_link link old ≡ was → has_link link new ≡ is
      → port_into link (set ports (unwrap_or place 0) new) ≡ unwrap_or place 0
  own_where place at l read true is was_is is_is = same_where place at l read (links.own was_is ∙ sym was_is)
  own_where place at l read false false was_is is_is = same_where place at l read (is_is ∙ sym was_is)
  own_where None at l read false true was_is is_is = new_where at l is_is
  own_where (Some p) at l read false true was_is is_is =
      let has : has_link link (port_in ports p) ≡ true = (position-Some (has_link link) ports p (fresh_port None) at).1 in
      let none : has_link link (port_in ports p) ≡ false = ap (has_link link) (sym read) ∙ was_is in
      absurd (cc)

  module _ (some : 0 < length ports) (read : old ≡ port_in ports (port_into link ports)) (there : port_into link ports < length ports) where
    abbrev after : List PortState
    after = set ports (port_into link ports) new

    some_after : 0 < length after
    some_after = omega (arith, some, length-set ports (port_into link ports) new)

    own_stays : port_into link after ≡ port_into link ports
    own_stays = own_where (position (has_link link) ports) refl there read (has_link link old) (has_link link new) refl refl

    pub before_here : target_over ports link ≡ shown_over old link
    before_here = read_over ports link some ∙ ap (λ (port : PortState). shown_over port link) (sym read)

    pub after_here : target_over after link ≡ shown_over new link
    after_here =
        read_over after link some_after
        ∙ ap (λ (p : ℕ). shown_over (port_in after p) link) own_stays
        ∙ ap (λ (port : PortState). shown_over port link) (get_or-set_same ports (port_into link ports) new (fresh_port None) there)

    pub after_elsewhere : (other : ℕ) → other ≢ link → shown_over new other ≡ shown_over old other → target_over after other ≡ target_over ports other
    after_elsewhere other apart stays =
        let leads : port_into other after ≡ port_into other ports =
        ap (λ (p : Option ℕ). unwrap_or p 0)
        (place_set (has_link other) ports (port_into link ports) new (fresh_port None) (links.others other apart ∙ ap (has_link other) read)) in
        read_over after other some_after
        ∙ ap (λ (p : ℕ). shown_over (port_in after p) other) leads
        ∙ kept_at_one (λ (port : PortState). shown_over port other) ports (port_into link ports) (port_into other ports) new
        (stays ∙ ap (λ (port : PortState). shown_over port other) read)
        ∙ sym (read_over ports other some)

    pub changes_by : (Move : TargetStage → TargetStage → Type 0) → MovesBy Move link (shown_over old) (shown_over new)
        → MovesBy Move link (target_over ports) (target_over after)
    changes_by Move moved = record {
      here = subst (λ (stage : TargetStage). Move stage (target_over after link)) (sym before_here)
          (subst (λ (stage : TargetStage). Move (shown_over old link) stage) (sym after_here) moved.here);
      elsewhere = λ other apart. after_elsewhere other apart (moved.elsewhere other apart);
    }

-- At the block

into_there : (ports : List PortState) (link : ℕ) → 0 < length ports → (place : Option ℕ) → position (has_link link) ports ≡ place
    → unwrap_or place 0 < length ports
into_there ports link some None at = some
into_there ports link some (Some p) at = (position-Some (has_link link) ports p (fresh_port None) at).0

pub leads_there : (ports : List PortState) (link : ℕ) → 0 < length ports → port_into link ports < length ports
leads_there ports link some = into_there ports link some (position (has_link link) ports) refl

module _ (ports : List PortState) (link : ℕ) (some : 0 < length ports) where
  abbrev into : PortState
  into = port_in ports (port_into link ports)

  pub shown_is : target_over ports link ≡ shown_over into link
  shown_is = read_over ports link some

  pub port_changes : (Move : TargetStage → TargetStage → Type 0) (new : PortState) → PortChanges Move link into new
      → MovesBy Move link (target_over ports) (target_over (set ports (port_into link ports) new))
  port_changes Move new moved = changes_by ports link into new moved.links some refl (leads_there ports link some) Move moved.moves

  pub port_goes : (stage : TargetStage) (new : PortState) → PortMoves stage link into new
      → MovesTo stage link (target_over ports) (target_over (set ports (port_into link ports) new))
  port_goes stage new moved =
      let there = leads_there ports link some in
      record {
        here = after_here ports link into new moved.links some refl there ∙ moved.here;
        elsewhere = λ other apart. after_elsewhere ports link into new moved.links some refl there other apart (moved.elsewhere other apart);
      }

-- an offer is answered
free_some : (ports : List PortState) (link : ℕ) → target_over ports link ≡ target.Free → 0 < length ports
free_some ports link free = some_port ports link (λ never. let e : target.Free ≡ target.Refused PortEnded = sym free ∙ never in cc)

ports_answer : (ports : List PortState) (link header : ℕ) (may_postpone : Bool) → target_over ports link ≡ target.Free
    → (status : MessageStatus) → status ≡ answer_to may_postpone (port_in ports (port_into link ports))
    → MovesBy (λ _ stage. StandsAfter may_postpone status header stage) link (target_over ports)
    (target_over (set ports (port_into link ports) (answered link header status (port_in ports (port_into link ports)))))
ports_answer ports link header may_postpone free status told =
    let some = free_some ports link free in
    let port = port_in ports (port_into link ports) in
    port_changes ports link some (λ _ stage. StandsAfter may_postpone status header stage) (answered link header status port)
    (answer_moves port link header may_postpone (sym (shown_is ports link some) ∙ free) status (sym told))

-- what a change of the first port leaves, where its ends stay
same_shown : (place : Option ℕ) (port : PortState) (waiting : List Value) (load : ℕ)
    → port_shown place (record port { waiting = waiting; load = load }) ≡ port_shown place port
same_shown None port waiting load = refl
same_shown (Some k) port waiting load = refl

kept_first : (ports : List PortState) (waiting : List Value) (load : ℕ) (link : ℕ)
    → target_over (set ports 0 (record (port_in ports 0) { waiting = waiting; load = load })) link ≡ target_over ports link
kept_first [] waiting load link = refl
kept_first (first ∷ ports) waiting load link =
    let all = first ∷ ports in
    let new = record first { waiting = waiting; load = load } in
    ap (λ (place : Option ℕ). shown_over (port_in (set all 0 new) (unwrap_or place 0)) link)
    (place_set (has_link link) all 0 new (fresh_port None) refl)
    ∙ kept_at_one (λ (port : PortState). shown_over port link) all 0 (port_into link all) new
    (same_shown (place_of link first.ends) first waiting load)

copied_stays : (block : BlockState) (first : Option Value) (link : ℕ)
    → target_over (copies_next first block).ports link ≡ target_over block.ports link
copied_stays block None link = refl
copied_stays block (Some value) link =
    let port = port_at 0 block in
    kept_first block.ports (drop 1 port.waiting) (port.load - (1 - copies_weight (puts value block.copies))) link

at_once_stays : (block : BlockState) (once : Bool) (link : ℕ)
    → target_over (copies_where once block).ports link ≡ target_over block.ports link
at_once_stays block true link = copied_stays block _ link
at_once_stays block false link = refl

-- the stages stay where the block copies at once what it took
taken_stays : (block : BlockState) (link : ℕ) → target_over (copies_taken block).ports link ≡ target_over block.ports link
taken_stays block link = at_once_stays block (copies_at_once block) link

pub taken_moves : (block new : BlockState) (link : ℕ) (before : List PortState) → new ≡ copies_taken block
    → MovesTo target.Free link (target_over before) (target_over block.ports)
    → MovesTo target.Free link (target_over before) (target_over new.ports)
taken_moves block new link before is moved =
    let stays : (other : ℕ) → target_over new.ports other ≡ target_over block.ports other = λ other.
    ap (λ (b : BlockState). target_over b.ports other) is ∙ taken_stays block other in
    record {
      here = stays link ∙ moved.here;
      elsewhere = λ other apart. stays other ∙ moved.elsewhere other apart;
    }

wanted_some : (header : ℕ) (ports : List PortState) (link : ℕ) → Wants header (target_over ports link) → 0 < length ports
wanted_some header ports link wants =
    some_port ports link (λ never. subst (λ (stage : TargetStage). Wants header stage) never wants)

-- what the block wants its port does
pub shown_wanted : (header : ℕ) (ports : List PortState) (link : ℕ) → Wants header (target_over ports link)
    → Wants header (shown_over (port_in ports (port_into link ports)) link)
shown_wanted header ports link wants =
    subst (λ (stage : TargetStage). Wants header stage) (shown_is ports link (wanted_some header ports link wants)) wants

pub wanted_there : (header : ℕ) (ports : List PortState) (link : ℕ) → Wants header (target_over ports link) → port_into link ports < length ports
wanted_there header ports link wants = leads_there ports link (wanted_some header ports link wants)

-- a message comes
ports_take : (ports : List PortState) (link header : ℕ) (value : Value) → Wants header (target_over ports link)
    → MovesTo target.Free link (target_over ports)
    (target_over (set ports (port_into link ports) (arrives link value (port_in ports (port_into link ports)))))
ports_take ports link header value wants =
    let port = port_in ports (port_into link ports) in
    port_goes ports link (wanted_some header ports link wants) target.Free (arrives link value port)
    (arrive_moves port link header value (place_of link port.ends) refl (shown_wanted header ports link wants))

noted_some : (answer : WishAnswer) (ports : List PortState) (link : ℕ) → MayNote answer (target_over ports link) → 0 < length ports
noted_some answer ports link may =
    some_port ports link (λ never. not_noted answer (Some PortEnded) (subst (λ (stage : TargetStage). MayNote answer stage) never may))

-- what may be noted of the block may be of its port
port_notes : (answer : WishAnswer) (ports : List PortState) (link : ℕ) → MayNote answer (target_over ports link)
    → MayNote answer (shown_over (port_in ports (port_into link ports)) link)
port_notes answer ports link may =
    subst (λ (stage : TargetStage). MayNote answer stage) (shown_is ports link (noted_some answer ports link may)) may

-- a wish is answered
ports_note : (ports : List PortState) (link : ℕ) (answer : WishAnswer) → MayNote answer (target_over ports link)
    → MovesTo (stage_noted answer (target_over ports link)) link (target_over ports)
    (target_over (set ports (port_into link ports) (notes answer link (port_in ports (port_into link ports)))))
ports_note ports link answer may =
    let some = noted_some answer ports link may in
    let port = port_in ports (port_into link ports) in
    subst (λ (stage : TargetStage). MovesTo (stage_noted answer stage) link (target_over ports)
    (target_over (set ports (port_into link ports) (notes answer link port))))
    (sym (shown_is ports link some))
    (port_goes ports link some (stage_noted answer (shown_over port link)) (notes answer link port)
    (note_moves port link answer (port_notes answer ports link may)))

-- The same of a port that was read, and written back at its place

module _ (ports now : List PortState) (same : ports ≡ now) (link p : ℕ) (at : p ≡ port_into link ports) (old : PortState) (read : old ≡ get_or ports p old) where
  module _ (some : 0 < length now) where
    pub near : p < length ports
    near = subst (λ (n : ℕ). n < length ports) (sym at) (leads_there ports link (subst (λ (ps : List PortState). 0 < length ps) (sym same) some))

    old_is : old ≡ port_in ports (port_into link ports)
    old_is = get_or_read ports p old near read (fresh_port None) ∙ ap (port_in ports) at

    carried : (P : List PortState → List PortState → Type 0) (change : PortState → PortState) (new : PortState) → new ≡ change old
        → ((ps : List PortState) → ps ≡ now → P ps (set ps (port_into link ps) (change (port_in ps (port_into link ps))))) → P now (set ports p new)
    carried P change new is proof =
        subst (λ (before : List PortState). P before (set ports p new)) same
        (subst (λ (q : ℕ). P ports (set ports q new)) (sym at)
        (subst (λ (n : PortState). P ports (set ports (port_into link ports) n)) (sym (is ∙ ap change old_is)) (proof ports same)))

  pub offer_moves : {E : Type 0} (result : Result MessageStatus E) (header : ℕ) (may_postpone : Bool) (new : PortState)
      → target_over now link ≡ target.Free
      → IfOk result (λ status. status ≡ answer_to may_postpone old) → IfOk result (λ status. new ≡ answered link header status old)
      → IfOk result (λ status. MovesBy (λ _ stage. StandsAfter may_postpone status header stage) link (target_over now) (target_over (set ports p new)))
  offer_moves (Err _) header may_postpone new free told is = tt
  offer_moves (Ok status) header may_postpone new free told is =
      let some = free_some now link free in
      carried some (λ before after. MovesBy (λ _ stage. StandsAfter may_postpone status header stage) link (target_over before) (target_over after))
      (answered link header status) new is
      (λ ps kept. ports_answer ps link header may_postpone
      (subst (λ (n : List PortState). target_over n link ≡ target.Free) (sym kept) free) status
      (told ∙ ap (answer_to may_postpone) (old_is some
      ∙ ap (λ (n : List PortState). port_in n (port_into link n)) (same ∙ sym kept))))

  pub hand_moves : (header : ℕ) (value : Value) (new : PortState) → Wants header (target_over now link) → new ≡ arrives link value old
      → MovesTo target.Free link (target_over now) (target_over (set ports p new))
  hand_moves header value new wants is =
      carried (wanted_some header now link wants) (λ before after. MovesTo target.Free link (target_over before) (target_over after))
      (arrives link value) new is
      (λ ps kept. ports_take ps link header value (subst (λ (n : List PortState). Wants header (target_over n link)) (sym kept) wants))

  pub answer_noted : (answer : WishAnswer) (new : PortState) → MayNote answer (target_over now link) → new ≡ notes answer link old
      → MovesTo (stage_noted answer (target_over now link)) link (target_over now) (target_over (set ports p new))
  answer_noted answer new may is =
      carried (noted_some answer now link may)
      (λ before after. MovesTo (stage_noted answer (target_over before link)) link (target_over before) (target_over after))
      (notes answer link) new is
      (λ ps kept. ports_note ps link answer (subst (λ (n : List PortState). MayNote answer (target_over n link)) (sym kept) may))

  pub free_near : target_over now link ≡ target.Free → p < length ports
  free_near free = near (free_some now link free)

  pub wanted_near : (header : ℕ) → Wants header (target_over now link) → p < length ports
  wanted_near header wants = near (wanted_some header now link wants)

  pub noted_near : (answer : WishAnswer) → MayNote answer (target_over now link) → p < length ports
  noted_near answer may = near (noted_some answer now link may)

-- The next wish

numbers_at : (first count k : ℕ) → k < count → get_or (numbers_from first count) k 0 ≡ first + k
numbers_at first zero k l = absurd (omega (arith, l))
numbers_at first (suc count) zero l = omega arith
numbers_at first (suc count) (suc k) l =
    let next = numbers_at (suc first) count k (omega (arith, l)) in omega (arith, next)

pub number_at : (count k : ℕ) → k < count → get_or (below count) k 0 ≡ k
number_at count k l = let is = numbers_at 0 count k l in omega (arith, is)

numbers_count : (first count : ℕ) → length (numbers_from first count) ≡ count
numbers_count first zero = refl
numbers_count first (suc count) = ap suc (numbers_count (suc first) count)

pub below_count : (count : ℕ) → length (below count) ≡ count
below_count count = numbers_count 0 count

pub record IsWishing (ports : List PortState) (p : ℕ) : Type 0 where
  pub there : p < length ports
  pub wishes : wishes_at ports p ≡ true

pub wishing_is : (ports : List PortState) (p : ℕ) → wishing_port ports ≡ Some p → IsWishing ports p
wishing_is ports p is =
    let first = position-Some (wishes_at ports) (below (length ports)) p 0 is in
    let there : p < length ports = omega (arith, first.0, below_count (length ports)) in
    record {
      there = there;
      wishes = ap (wishes_at ports) (sym (number_at (length ports) p there)) ∙ first.1;
    }

consumes_over : (ports : List PortState) (p : ℕ) (offer : Option (ℕ × ℕ)) → p < length ports → next_wish (port_in ports p) ≡ offer
    → names_itself (next_place (port_in ports p)) (port_in ports p) ≡ true → leads_to p offer ports ≡ true
    → Wishes (wish_named offer) (target_over ports) (target_over (set ports p (consumes_next (port_in ports p))))
consumes_over ports p None l is own leads = absurd (cc)
consumes_over ports p (Some offer) l is own leads =
    let port = port_in ports p in
    let some : 0 < length ports = omega (arith, l) in
    let here : port_into offer.0 ports ≡ p = eqb-true (port_into offer.0 ports) p leads in
    let changes = consume_at port offer.0 offer.1 (next_place port) own is in
    subst (λ (q : ℕ). MovesBy Consumes offer.0 (target_over ports) (target_over (set ports q (consumes_next port)))) here
    (port_changes ports offer.0 some Consumes (consumes_next port)
    (subst (λ (q : ℕ). PortChanges Consumes offer.0 (port_in ports q) (consumes_next port)) (sym here) changes))

wishes_moves : (ports : List PortState) (p : ℕ) → wishing_port ports ≡ Some p
    → Wishes (wish_named (next_wish (port_in ports p))) (target_over ports) (target_over (set ports p (consumes_next (port_in ports p))))
wishes_moves ports p is =
    let wishing = wishing_is ports p is in
    let port = port_in ports p in
    let both = and_parts (names_itself (next_place port) port) (leads_to p (next_wish port) ports) wishing.wishes in
    consumes_over ports p (next_wish port) wishing.there refl both.0 both.1

-- and is written back at its place
pub wish_moves : (ports now : List PortState) → ports ≡ now → (p : ℕ) → wishing_port ports ≡ Some p → (old new : PortState)
    → old ≡ get_or ports p old → new ≡ consumes_next old → (told : Wish) → told ≡ wish_named (next_wish old)
    → Wishes told (target_over now) (target_over (set ports p new))
wish_moves ports now same p wishing old new read is told told_is =
    let old_is : old ≡ port_in ports p = get_or_read ports p old (wishing_is ports p wishing).there read (fresh_port None) in
    subst (λ (before : List PortState). Wishes told (target_over before) (target_over (set ports p new))) same
    (subst (λ (wished : Wish). Wishes wished (target_over ports) (target_over (set ports p new))) (sym (told_is ∙ ap (λ (n : PortState). wish_named (next_wish n)) old_is))
    (subst (λ (n : PortState). Wishes (wish_named (next_wish (port_in ports p))) (target_over ports) (target_over (set ports p n)))
    (sym (is ∙ ap consumes_next old_is)) (wishes_moves ports p wishing)))
