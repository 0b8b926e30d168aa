-- A way in that comes back out of a future which is pending is the one that was put in, later.
use Rattle.std.proofs.Common.{◌≡◌, Bool, true, false, List, [], ◌∷◌, Option, Some, None, Result, Ok, Err, IsSomeAnd, refl, sym, ◌∙◌, ap, subst}
use Rattle.flow_value.specs.declared.value.Value.{Value}
use Rattle.flow_poll.specs.Held.{sending, to_send}
use Rattle.flow_poll.specs.Sends.{Begun, HasOne, IsUnbegunFor, SendView, Sends}
use Rattle.flow_poll.specs.declared.send.Delivery.{Delivery}
use Rattle.flow_poll.specs.declared.send.SendFault.{SendFault}
use Rattle.flow_poll.specs.declared.send.SendFault.TheVariants.{Busy, Ids, Memory}
use Rattle.flow_poll.specs.declared.send.SendRefusal.{SendRefusal}
use Rattle.flow_poll.specs.declared.send.SendRefusal.TheVariants as refusal
use Rattle.flow_poll.specs.declared.send_async.SendAsync.{SendAsync}

-- why no value would be begun by a port that stands so
reason : (begun : List Begun) (has_id : Bool)
    → (fault : SendFault) × ((view : SendView) → view.begun ≡ begun → IsUnbegunFor fault has_id view)
reason [] true = (Memory, λ view is. (is, refl))
reason [] false = (Ids, λ view is. (is, refl))
reason (begun ∷ others) has_id = (Busy, λ view is none. cc)

-- an answer by which nothing has changed
answers : (has_id : Bool) (view : SendView) (may_postpone : Bool) (value : Option Value)
    → (answer : Result Delivery SendRefusal) × Sends has_id view may_postpone value answer view
answers has_id view may_postpone (Some value) =
    let why = reason view.begun has_id in
    (Err (refusal.NotBegun value why.0), (refl, (why.1 view refl, refl)))
answers has_id view may_postpone None =
    (Err refusal.Memory, λ begun is. ap (λ all. record { accepted = view.accepted; begun = all }) is)

module _ {T : Type 0} (sends : T → SendView) (has_id : T → Bool) (goes_on : T → T → Type 0) where
  -- what a future that sends may give
  abbrev pub MayGive : SendAsync T → T × Result Delivery SendRefusal → Type 0
  MayGive future given = IsSomeAnd (sending future) (λ port.
      Sends (has_id port) (sends port) true (to_send future) given.1 (sends given.0) × goes_on port given.0)

  -- it may give its port as it is
  gives_back : (future : SendAsync T) (port : T) → goes_on port port → sending future ≡ Some port
      → (answer : Result Delivery SendRefusal) × MayGive future (port, answer)
  gives_back future port stays is =
      let same = answers (has_id port) (sends port) true (to_send future) in (
        same.0,
        subst (λ held. IsSomeAnd held (λ from.
            Sends (has_id from) (sends from) true (to_send future) same.0 (sends port) × goes_on from port)) (sym is) (same.1, stays),
      )

  pub sent_back : (old new : SendAsync T) (first last : T) → goes_on last last
      → ((given : T × Result Delivery SendRefusal) → MayGive new given → MayGive old given)
      → sending old ≡ Some first → sending new ≡ Some last → goes_on first last
  sent_back old new first last stays no_more was is =
      let back = gives_back new last stays is in
      let gave = no_more (last, back.0) back.1 in
      (subst (λ held. IsSomeAnd held (λ from.
      Sends (has_id from) (sends from) true (to_send old) back.0 (sends last) × goes_on from last)) was gave).1
