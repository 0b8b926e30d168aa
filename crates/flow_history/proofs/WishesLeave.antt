-- A wish of a join that reserves leaves all but where its own end stands: what waits and what is left stay, and each port is in order.
use Rattle.std.proofs.Common.{◌≡◌, ℕ, false, List, [], ◌++◌, length, set, refl, ap, sym, subst, ◌∙◌, append-nil}
use Rattle.flow_link.specs.declared.traits.Wish.{Wish}
use Rattle.flow_link.specs.declared.traits.Wish.TheVariants as wish
use Rattle.flow_intake.specs.Port.{PortState, link_in}
use Rattle.flow_intake.specs.PortLaw.{PortLaw, has_ended}
use Rattle.flow_intake.specs.Calls.{asks, claims, releases}
use Rattle.flow_intake.proofs.CallsKeepOrder.{moves_keep}
use Rattle.flow_group.specs.Round.{port_in}
use Rattle.flow_outlet.specs.Outlet.{OutletState}
use Rattle.flow_block.specs.Block.{port_at}
use Rattle.flow_kinds.specs.ReservingJoin.{ReservingState}
use Rattle.flow_kinds.specs.WishLaws.{AsksFor}
use Rattle.flow_kinds.specs.Wishes.{front_place, next_wish, after_wish}
use Rattle.flow_kinds.proofs.WishesTell.{by_wish, claimed_held, released_held}
use Rattle.flow_kinds.proofs.WishLaws.{wishes_tell}
use Rattle.flow_history.specs.History.{Gift, History, took_at, given}
use Rattle.flow_history.specs.Kept.{any_link}
use Rattle.flow_history.proofs.CallsLeave.{Ordered, Leaves, nothing_leaves, one_ordered}
use Rattle.flow_history.proofs.Still.{SamePort, Kept, still_at_one, kept_still, weighs_left}

-- what is left to give, and its kind
pub wish_exits : (join : ReservingState) → (after_wish join).block.exits ≡ join.block.exits
wish_exits join = by_wish (λ told later. later.block.exits ≡ join.block.exits) join refl
    (λ failing p fails wishing. (λ ask. refl, (λ claim. refl, λ release. refl)))

pub wish_kind : (join : ReservingState) → (after_wish join).block.kind ≡ join.block.kind
wish_kind join = by_wish (λ told later. later.block.kind ≡ join.block.kind) join refl
    (λ failing p fails wishing. (λ ask. refl, (λ claim. refl, λ release. refl)))

module _ (took : ℕ → ℕ) (join : ReservingState) (law : Ordered took join.block.ports) where
  -- one port changes, and what waits there stays
  one_leaves : (p : ℕ) (port : PortState) → SamePort (port_at p join.block) port
      → (PortLaw any_link (took p) (port_at p join.block) → PortLaw any_link (took p) port)
      → Leaves took join.block (record join.block { ports = set join.block.ports p port })
  one_leaves p port same keeps = record {
    still = still_at_one join.block p port same;
    jobs = refl;
    recorded = refl;
    fault = refl;
    ordered = one_ordered took join.block.ports p port law (λ there before. keeps before);
  }

  -- where it asks for nothing
  others_leave : ((link : ℕ) → next_wish join ≡ wish.Ask link → ⊥) → Leaves took join.block (after_wish join).block
  others_leave =
      by_wish (λ told later. ((link : ℕ) → told ≡ wish.Ask link → ⊥) → Leaves took join.block later.block) join (λ none. nothing_leaves took join.block law)
      (λ failing p fails wishing.
      let ports = join.block.ports in
      let k = front_place p ports in
      let port = port_in ports p in
      let own = wishing.own in (
        λ ask none. absurd (none (link_in k port.ends) refl),
        (
          λ claim none.
              one_leaves p (claims k port) (record { waiting = refl; ended = λ e. e; capacity = refl })
              (λ before.
              moves_keep.claim any_link (took p) port before k own.there
              (claimed_held failing join.round ports p k own.front claim)),
          λ release none.
              one_leaves p (releases k port) (record { waiting = refl; ended = λ e. e; capacity = refl })
              (λ before.
              moves_keep.release any_link (took p) port before k own.there
              (released_held failing join.round ports p k own.front release)),
        ),
      ))

  -- what it asks for waits in front of a port that is open and has room
  asked_leaves : (link : ℕ) → AsksFor link join → Leaves took join.block (after_wish join).block
  asked_leaves link (AsksFor.asks p k over now unended is) =
      let port = port_in join.block.ports p in
      subst (λ (later : ReservingState). Leaves took join.block later.block) (sym is)
      (one_leaves p (asks k port) (record { waiting = refl; ended = λ e. e; capacity = refl })
      (λ before. moves_keep.ask any_link (took p) port before k over.place now.waits now.room (ap has_ended unended)))

  pub wish_leaves : Leaves took join.block (after_wish join).block
  wish_leaves = by (next_wish join) refl
    where
      by : (told : Wish) → next_wish join ≡ told → Leaves took join.block (after_wish join).block
      by (wish.Ask link) is = asked_leaves link (wishes_tell.asks join link is)
      by (wish.Consume link) is = others_leave (λ other asks. let no : wish.Consume link ≡ wish.Ask other = sym is ∙ asks in cc)
      by (wish.Claim link) is = others_leave (λ other asks. let no : wish.Claim link ≡ wish.Ask other = sym is ∙ asks in cc)
      by (wish.Release link) is = others_leave (λ other asks. let no : wish.Release link ≡ wish.Ask other = sym is ∙ asks in cc)
      by wish.None is = others_leave (λ other asks. let no : wish.None ≡ wish.Ask other = sym is ∙ asks in cc)

-- so what was kept is kept
pub wish_kept : (h : History) (join : ReservingState) → Kept false h join.block
    → Kept false (record h { gave = h.gave ++ [] }) (after_wish join).block
wish_kept h join kept =
    let leaves = wish_leaves (λ p. length (took_at h p)) join kept.in_order in
    let exits = wish_exits join in
    kept_still false h (h.gave ++ []) join.block (after_wish join).block kept leaves.still leaves.ordered
    (λ one.
    kept.messages.shared one
    ∙ ap (λ (o : OutletState). given h.gave ++ o.left) (sym exits)
    ∙ ap (λ (gave : List Gift). given gave ++ (after_wish join).block.exits.left) (sym (append-nil h.gave)))
    (λ alone.
    subst (λ (o : OutletState). o.groups ≡ weighs_left join.block.kind (port_at 0 join.block).capacity o.next o.left) (sym exits)
    (kept.weighs alone))
