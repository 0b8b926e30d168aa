-- What the network does leaves what is posted, but for a value that was posted to the target and is turned down.
use Rattle.std.proofs.Common.{◌≡◌, ◌≤◌, cond, Bool, true, false, take, refl, ◌∙◌, arith}
use Rattle.flow_link.specs.declared.phase.Phase.{Phase}
use Rattle.flow_link.specs.Stage.{source_looks}
use Rattle.flow_link.proofs.ListTests.{front_refl}
use Rattle.flow_outlet.specs.Law.{is_posted}
use Rattle.flow_input.specs.Input.{InputState, InputCall, after_input, is_of_net, is_turned_down, stands_at, takes_back}
use Rattle.flow_input.specs.InputKeeps.{PostedIsKept, PostedStays}
use Rattle.flow_input.proofs.InputLists.{front_taken, front_through, front_within, not_so, taken_short}
use Rattle.flow_input.proofs.InputLooks.{down_posted, look_finds}

-- the same list and ending, and at least as many given
stays_so : (old new : InputState) → new.posted ≡ old.posted → new.ending ≡ old.ending → old.sent ≤ new.sent
    → (is_posted old.stage ≡ false → is_posted new.stage ≡ false) → PostedStays old new
stays_so old new same ending more stage = record {
  same_ending = ending;
  more = more;
  front = rw same (front_refl old.posted);
  given = rw same (front_taken old.posted old.sent);
  unposted = λ p. (same, stage p);
}

look_stays : (input : InputState) (phase : Phase) (down : Bool) → is_turned_down input.stage phase ≡ down
    → PostedStays input (cond down (takes_back input) (stands_at (source_looks input.stage phase) input))
look_stays input phase true is = record {
  same_ending = refl;
  more = omega arith;
  front = front_taken input.posted input.sent;
  given = front_refl (take input.sent input.posted);
  unposted = λ p. absurd (let posted = down_posted input.stage phase is in cc);
}
look_stays input phase false is =
    stays_so input (stands_at (source_looks input.stage phase) input) refl refl (omega arith)
    (λ p. not_so (is_posted (source_looks input.stage phase)) (λ e. let was = (look_finds input.stage phase).posted e in cc))

call_stays : (input : InputState) (call : InputCall) → is_of_net call ≡ true → PostedStays input (after_input call input)
call_stays input InputCall.offer e = stays_so input (after_input InputCall.offer input) refl refl (omega arith) (λ p. refl)
call_stays input InputCall.give e = stays_so input (after_input InputCall.give input) refl refl (omega arith) (λ p. refl)
call_stays input (InputCall.end_link how) e = stays_so input (after_input (InputCall.end_link how) input) refl refl (omega arith) (λ p. refl)
call_stays input (InputCall.look phase) e = look_stays input phase (is_turned_down input.stage phase) refl
call_stays input _ e = absurd (cc)

further : (first mid last : InputState) → PostedStays first mid → PostedStays mid last → PostedStays first last
further first mid last head tail =
    let given = take first.sent first.posted in
    let short = taken_short first.posted first.sent in
    let within = front_within given mid.posted mid.sent head.given (omega (arith, short, head.more)) in
    record {
      same_ending = tail.same_ending ∙ head.same_ending;
      more = omega (arith, head.more, tail.more);
      front = front_through last.posted mid.posted first.posted tail.front head.front;
      given = front_through given (take mid.sent mid.posted) last.posted within tail.given;
      unposted = λ p. let one = head.unposted p in let two = tail.unposted one.1 in (two.0 ∙ one.0, two.1);
    }

pub posted_is_kept : PostedIsKept
posted_is_kept = record {
  same = λ input. stays_so input input refl refl (omega arith) (λ p. p);
  stays = call_stays;
  further = further;
}
