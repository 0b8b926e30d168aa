-- What a stage tells of the head: whether it speaks of it, and why the head goes past its end.
use Rattle.std.proofs.Common.{◌≡◌, ◌≢◌, ℕ, ◌<◌, ◌==◌, ◌||◌, ◌&&◌, not, Bool, true, false, cond, Option, Some, None, refl, ◌∙◌, ap, arith}
use Rattle.std.proofs.lemmas.Bool.{OnTrue_at, false_from_ne_true}
use Rattle.std.proofs.lemmas.Bool.Decides.{nat_tests}
use Rattle.flow_value.specs.declared.value.Value.{Value}
use Rattle.flow_link.specs.declared.phase.LinkEnd.{LinkEnd}
use Rattle.flow_link.specs.declared.phase.LinkEnd.TheVariants.{Plain}
use Rattle.flow_link.specs.declared.stage.SourceStage.{SourceStage}
use Rattle.flow_link.specs.declared.stage.SourceStage.TheVariants.{Free, Posted, Out, Waiting, Accepted, Wished, AskedBy, Reserved, Claimed, Crossing, Refused, Ended}
use Rattle.flow_outlet.specs.declared.ends.OutEnd.{OutEnd}
use Rattle.flow_outlet.specs.End.{id_of, is_id, speaks_of, is_spoken_for, is_over, is_free, is_waiting, is_cut, is_passed, rejects}
use Rattle.flow_outlet.specs.Outlet.{offer_kept, is_at, is_wish}
use Rattle.flow_outlet.specs.Law.{EndLaw, is_put_off, is_posted, is_refused, may_go_past}

-- The message that a stage speaks of

pub same_number : (a b : ℕ) → (a == b) ≡ true → a ≡ b
same_number a b e = grind (arith, nat_tests)

pub number_same : (a : ℕ) → (a == a) ≡ true
number_same a = grind (arith, nat_tests)

pub number_below : (a b : ℕ) → a < b → (a == b) ≡ false
number_below a b l = grind (arith, nat_tests)

-- a stage that speaks of a message has its id
pub speaks_id : (id : ℕ) (stage : SourceStage) → speaks_of id stage ≡ true → id_of stage ≡ Some id
speaks_id id (Posted i) e = ap Some (same_number i id e)
speaks_id id (Out i) e = ap Some (same_number i id e)
speaks_id id (Waiting i) e = ap Some (same_number i id e)
speaks_id id (Accepted i) e = ap Some (same_number i id e)
speaks_id id (Wished i) e = ap Some (same_number i id e)
speaks_id id (AskedBy i) e = ap Some (same_number i id e)
speaks_id id (Reserved i) e = ap Some (same_number i id e)
speaks_id id (Claimed i) e = ap Some (same_number i id e)
speaks_id id Free e = cc
speaks_id id Crossing e = cc
speaks_id id Refused e = cc
speaks_id id (Ended _) e = cc

pub is_id_of : (id : ℕ) (o : Option ℕ) → o ≡ Some id → is_id id o ≡ true
is_id_of id o e = rw e (number_same id)

pub id_speaks : (id : ℕ) (stage : SourceStage) → id_of stage ≡ Some id → speaks_of id stage ≡ true
id_speaks id stage e = is_id_of id (id_of stage) e

-- a message that a stage speaks of is spoken for, or was put off
pub out_or_off : (stage : SourceStage) (i : ℕ) → is_posted stage ≡ false → id_of stage ≡ Some i → is_spoken_for stage ≡ false
    → is_put_off stage ≡ true
out_or_off (Posted _) i p e n = cc
out_or_off (Out _) i p e n = cc
out_or_off (Waiting _) i p e n = refl
out_or_off (Accepted _) i p e n = cc
out_or_off (Wished _) i p e n = refl
out_or_off (AskedBy _) i p e n = refl
out_or_off (Reserved _) i p e n = cc
out_or_off (Claimed _) i p e n = cc
out_or_off Free i p e n = cc
out_or_off Crossing i p e n = cc
out_or_off Refused i p e n = cc
out_or_off (Ended _) i p e n = cc

pub any_true : {Q : Type 0} (a b c d e : Bool) → (a ≡ true → Q) → (b ≡ true → Q) → (c ≡ true → Q) → (d ≡ true → Q) → (e ≡ true → Q)
    → (a || b || c || d || e) ≡ true → Q
any_true true b c d e f g h i j eq = f refl
any_true false true c d e f g h i j eq = g refl
any_true false false true d e f g h i j eq = h refl
any_true false false false true e f g h i j eq = i refl
any_true false false false false true f g h i j eq = j refl
any_true false false false false false f g h i j eq = cc

pub record NoneTrue (a b c d e : Bool) : Type 0 where
  pub over : a ≡ false
  pub cut : b ≡ false
  pub spoken : c ≡ false
  pub given_up : d ≡ false
  pub rejected : e ≡ false

pub none_true : (a b c d e : Bool) → (a || b || c || d || e) ≡ false → NoneTrue a b c d e
none_true false false false false false eq = record { over = refl; cut = refl; spoken = refl; given_up = refl; rejected = refl }
none_true true _ _ _ _ eq = cc
none_true false true _ _ _ eq = cc
none_true false false true _ _ eq = cc
none_true false false false true _ eq = cc
none_true false false false false true eq = cc

pub past_rejecting : (a b c d : Bool) → a ≡ true → (a || not b || c || d) ≡ true
past_rejecting true _ _ _ e = refl
past_rejecting false _ _ _ e = cc

pub past_unsteady : (a b c d : Bool) → b ≡ false → (a || not b || c || d) ≡ true
past_unsteady true _ _ _ e = refl
past_unsteady false false _ _ e = refl
past_unsteady false true _ _ e = cc

pub past_cut : (a b c d : Bool) → c ≡ true → (a || not b || c || d) ≡ true
past_cut true _ _ _ e = refl
past_cut false false _ _ e = refl
past_cut false true true _ e = refl
past_cut _ _ false _ e = cc

pub past_refused : (a b c d : Bool) → d ≡ true → (a || not b || c || d) ≡ true
past_refused true _ _ _ e = refl
past_refused false false _ _ e = refl
past_refused false true true _ e = refl
past_refused false true false true e = refl
past_refused _ _ _ false e = cc

-- that a message may go past an end stays so, while the end is refused as before
pub past_stays : (a b c d d' : Bool) → (d ≡ true → d' ≡ true) → (a || not b || c || d) ≡ true → (a || not b || c || d') ≡ true
past_stays true _ _ _ _ f e = refl
past_stays false false _ _ _ f e = refl
past_stays false true true _ _ f e = refl
past_stays false true false true d' f e = f refl
past_stays false true false false d' f e = cc

pub over_then : (end : OutEnd) → is_over end.stage ≡ true → ((how : LinkEnd) → end.stage ≡ Ended how → is_cut end ≡ true)
    → (stage : SourceStage) → end.stage ≡ stage → (head : Option Value) → may_go_past head end ≡ true
over_then end over ended Refused e head = past_refused (rejects end.rule.when head) end.rule.steady (is_cut end) (is_refused end.stage) (rw e refl)
over_then end over ended (Ended how) e head = past_cut (rejects end.rule.when head) end.rule.steady (is_cut end) (is_refused end.stage) (ended how e)
over_then end over ended Free e head = let none : false ≡ true = rw e at over in cc
over_then end over ended (Posted _) e head = let none : false ≡ true = rw e at over in cc
over_then end over ended (Out _) e head = let none : false ≡ true = rw e at over in cc
over_then end over ended (Waiting _) e head = let none : false ≡ true = rw e at over in cc
over_then end over ended (Accepted _) e head = let none : false ≡ true = rw e at over in cc
over_then end over ended (Wished _) e head = let none : false ≡ true = rw e at over in cc
over_then end over ended (AskedBy _) e head = let none : false ≡ true = rw e at over in cc
over_then end over ended (Reserved _) e head = let none : false ≡ true = rw e at over in cc
over_then end over ended (Claimed _) e head = let none : false ≡ true = rw e at over in cc
over_then end over ended Crossing e head = let none : false ≡ true = rw e at over in cc

pub cut_then : (cut : Bool) (by : Option LinkEnd) (how : LinkEnd) → cond cut (Some Plain) by ≡ Some how → by ≡ None → cut ≡ true
cut_then true by how e n = refl
cut_then false by how e n = cc

-- where no offer is out and the block goes on, what goes past an end rightly goes past it
pub goes_past_well : {next : ℕ} {head : Option Value} {pending : Bool} {k : ℕ} (end : OutEnd)
    → EndLaw next head None pending None k end → is_passed next head end ≡ true → may_go_past head end ≡ true
goes_past_well {next} {head} end law passed =
    let a = rejects end.rule.when head in
    let d = is_refused end.stage in
    let unsteady = λ (e : end.rule.steady ≡ false). past_unsteady a end.rule.steady (is_cut end) d e in
    any_true (is_over end.stage) (is_cut end) (speaks_of next end.stage) (end.declined == next) a
    (λ over. over_then end over (λ how e. cut_then (is_cut end) None how (law.ended how e) refl) end.stage refl head)
    (λ cut. past_cut a end.rule.steady (is_cut end) d cut)
    (λ speaks.
    let not_out : is_spoken_for end.stage ≡ false = false_from_ne_true (is_spoken_for end.stage)
    (λ out. let none : None ≡ Some _ = OnTrue_at out law.out in let never : ⊥ = cc in never) in
    unsteady (OnTrue_at (out_or_off end.stage next law.offers (speaks_id next end.stage speaks) not_out) law.put_off))
    (λ up. unsteady (OnTrue_at up law.given_up_late))
    (λ rejected. past_rejecting a end.rule.steady (is_cut end) d rejected)
    passed

-- The offer that is out, after a look

pub kept_where : (mine out : Bool) (offer : Option ℕ) → out ≡ true → cond (mine && not out) None offer ≡ offer
kept_where true true offer e = refl
kept_where false true offer e = refl
kept_where true false offer e = cc
kept_where false false offer e = cc

pub kept_mine : (k : ℕ) (stage : SourceStage) (offer : Option ℕ) → is_spoken_for stage ≡ true → offer ≡ Some k → offer_kept k stage offer ≡ Some k
kept_mine k stage offer out mine = kept_where (is_at offer k) (is_spoken_for stage) offer out ∙ mine

pub kept_off : (mine out : Bool) (offer : Option ℕ) → mine ≡ false → cond (mine && not out) None offer ≡ offer
kept_off true out offer e = cc
kept_off false out offer e = refl

pub elsewhere_at : (k j : ℕ) (offer : Option ℕ) → j ≢ k → offer ≡ Some j → is_at offer k ≡ false
elsewhere_at k j offer other e = rw e (false_from_ne_true (j == k) (λ same. other (same_number j k same)))

pub kept_other : (k j : ℕ) (stage : SourceStage) (offer : Option ℕ) → j ≢ k → offer ≡ Some j → offer_kept k stage offer ≡ Some j
kept_other k j stage offer other e = kept_off (is_at offer k) (is_spoken_for stage) offer (elsewhere_at k j offer other e) ∙ e

pub was_there : (mine out : Bool) (offer : Option ℕ) (j : ℕ) → cond (mine && not out) None offer ≡ Some j → offer ≡ Some j
was_there true true offer j e = e
was_there false out offer j e = e
was_there true false offer j e = cc

pub was_offer : (k : ℕ) (stage : SourceStage) (offer : Option ℕ) (j : ℕ) → offer_kept k stage offer ≡ Some j → offer ≡ Some j
was_offer k stage offer j e = was_there (is_at offer k) (is_spoken_for stage) offer j e

pub still_out : (mine out : Bool) (offer : Option ℕ) (k : ℕ) → cond (mine && not out) None offer ≡ Some k → mine ≡ true → out ≡ true
still_out true true offer k e m = refl
still_out true false offer k e m = cc
still_out false out offer k e m = cc

pub at_itself : (offer : Option ℕ) (k : ℕ) → offer ≡ Some k → is_at offer k ≡ true
at_itself offer k e = rw e (number_same k)

pub kept_out : (k : ℕ) (stage : SourceStage) (offer : Option ℕ) → offer_kept k stage offer ≡ Some k → is_spoken_for stage ≡ true
kept_out k stage offer e =
    still_out (is_at offer k) (is_spoken_for stage) offer k e (at_itself offer k (was_offer k stage offer k e))

pub out_speaks : (stage : SourceStage) (next : ℕ) → is_spoken_for stage ≡ true → ((i : ℕ) → id_of stage ≡ Some i → i ≡ next)
    → speaks_of next stage ≡ true
out_speaks (Out i) next e f = let same : i ≡ next = f i refl in rw same (number_same next)
out_speaks (Accepted i) next e f = let same : i ≡ next = f i refl in rw same (number_same next)
out_speaks Free next e f = cc
out_speaks (Posted _) next e f = cc
out_speaks (Waiting _) next e f = cc
out_speaks (Wished _) next e f = cc
out_speaks (AskedBy _) next e f = cc
out_speaks (Reserved i) next e f = let same : i ≡ next = f i refl in rw same (number_same next)
out_speaks (Claimed i) next e f = let same : i ≡ next = f i refl in rw same (number_same next)
out_speaks Crossing next e f = cc
out_speaks Refused next e f = cc
out_speaks (Ended _) next e f = cc

-- What a test of a stage tells

pub free_is : (stage : SourceStage) → is_free stage ≡ true → stage ≡ Free
free_is Free e = refl
free_is (Posted _) e = cc
free_is (Out _) e = cc
free_is (Waiting _) e = cc
free_is (Accepted _) e = cc
free_is (Wished _) e = cc
free_is (AskedBy _) e = cc
free_is (Reserved _) e = cc
free_is (Claimed _) e = cc
free_is Crossing e = cc
free_is Refused e = cc
free_is (Ended _) e = cc

pub wish_home : (stage : SourceStage) → is_wish stage ≡ true → (is_spoken_for stage ≡ false) × (is_refused stage ≡ false)
wish_home (Wished _) e = (refl, refl)
wish_home (AskedBy _) e = (refl, refl)
wish_home Free e = cc
wish_home (Posted _) e = cc
wish_home (Out _) e = cc
wish_home (Waiting _) e = cc
wish_home (Accepted _) e = cc
wish_home (Reserved _) e = cc
wish_home (Claimed _) e = cc
wish_home Crossing e = cc
wish_home Refused e = cc
wish_home (Ended _) e = cc

pub record Waits (stage : SourceStage) : Type 0 where
  pub id : ℕ
  pub is : stage ≡ Waiting id

pub waits_for : (stage : SourceStage) → is_waiting stage ≡ true → Waits stage
waits_for (Waiting i) e = record { id = i; is = refl }
waits_for Free e = cc
waits_for (Posted _) e = cc
waits_for (Out _) e = cc
waits_for (Accepted _) e = cc
waits_for (Wished _) e = cc
waits_for (AskedBy _) e = cc
waits_for (Reserved _) e = cc
waits_for (Claimed _) e = cc
waits_for Crossing e = cc
waits_for Refused e = cc
waits_for (Ended _) e = cc
