-- What the room that comes back with a head leaves of the ports: all of each but its load.
use Rattle.std.proofs.Common.{◌≡◌, ℕ, zero, suc, ◌+◌, ◌-◌, ◌<◌, ◌≤◌, min, cond, is_some, false, List, [], ◌∷◌, length, Option, Some, None, option_map, refl, ap, sym, ◌∙◌, arith, subst}
use Rattle.flow_value.specs.declared.value.Value.{Value}
use Rattle.flow_link.specs.declared.draft.BlockKind.{BlockKind}
use Rattle.flow_intake.specs.Ended.{of_lower_link, fault_at_ends}
use Rattle.flow_intake.specs.Port.{PortState}
use Rattle.flow_intake.specs.Calls.{gives_room}
use Rattle.flow_outlet.specs.Fits.{weight_of}
use Rattle.flow_outlet.specs.Outlet.{OutletState}
use Rattle.flow_spread.specs.Spread.{SpreadState}
use Rattle.flow_block.specs.Block.{port_in, is_batched_join, row_count, room_at, gives_each, comes_back}
use Rattle.flow_block.specs.Copies.{copies_weight}
use Rattle.flow_block.specs.JournalFits.{port_due, ports_due}
use Rattle.flow_block.specs.Peeks.{link_fault, fault_at_ports}
use Rattle.flow_block.proofs.RoomFits.{no_rows}

module _ (room weight : ℕ) (counts : ℕ → ℕ) where
  abbrev back_to : ℕ → PortState → ℕ
  back_to p port = room_at room weight (counts p) port

  length_each : (first : ℕ) (ports : List PortState) → length (gives_each room weight counts first ports) ≡ length ports
  length_each first [] = refl
  length_each first (port ∷ ports) = ap suc (length_each (suc first) ports)

  kept_at_each : {A : Type 0} (f : PortState → A) (first : ℕ) (ports : List PortState) (q : ℕ)
      → ((back : ℕ) (port : PortState) → f (gives_room back port) ≡ f port)
      → f (port_in (gives_each room weight counts first ports) q) ≡ f (port_in ports q)
  kept_at_each f first [] q same = refl
  kept_at_each f first (port ∷ ports) zero same = same (back_to first port) port
  kept_at_each f first (port ∷ ports) (suc q) same = kept_at_each f (suc first) ports q same

  port_of_each : (first : ℕ) (ports : List PortState) (q : ℕ) → q < length ports
      → port_in (gives_each room weight counts first ports) q
      ≡ gives_room (back_to (first + q) (port_in ports q)) (port_in ports q)
  port_of_each first [] q there = absurd (omega (arith, there))
  port_of_each first (port ∷ ports) zero there =
      let same : first ≡ first + 0 = omega arith in
      ap (λ (p : ℕ). gives_room (back_to p port) port) same
  port_of_each first (port ∷ ports) (suc q) there =
      let same : suc first + q ≡ first + suc q = omega arith in
      port_of_each (suc first) ports q (omega (arith, there))
      ∙ ap (λ (p : ℕ). gives_room (back_to p (port_in ports q)) (port_in ports q)) same

  due_each : (first : ℕ) (ports : List PortState) → ports_due (gives_each room weight counts first ports) ≡ ports_due ports
  due_each first [] = refl
  due_each first (port ∷ ports) = ap (λ (due : ℕ). port_due port + due) (due_each (suc first) ports)

  seen_each : (first : ℕ) (ports : List PortState)
      → link_fault (gives_each room weight counts first ports) ≡ link_fault ports
  seen_each first [] = refl
  seen_each first (port ∷ ports) =
      ap (λ (later : Option (ℕ × ℕ)). of_lower_link (fault_at_ends port.ends) later) (seen_each (suc first) ports)

rows_fit : (room weight count load waiting : ℕ) → room ≤ load - waiting
    → room + min count (load - waiting - room - weight) ≤ load - waiting
rows_fit room weight count load waiting fits = omega (arith, fits)

module _ (exits : OutletState) (copies : SpreadState) (kind : BlockKind) (head : Option Value) where
  -- how much comes back at a port
  abbrev pub back_at : ℕ → PortState → ℕ
  back_at q port = room_at exits.room (weight_of exits.groups + copies_weight copies) (row_count kind head q) port

  pub length_back : (ports : List PortState) → length (comes_back exits copies kind head ports) ≡ length ports
  length_back ports = length_each exits.room (weight_of exits.groups + copies_weight copies) (row_count kind head) 0 ports

  pub kept_back : {A : Type 0} (f : PortState → A) (ports : List PortState) (q : ℕ)
      → ((back : ℕ) (port : PortState) → f (gives_room back port) ≡ f port)
      → f (port_in (comes_back exits copies kind head ports) q) ≡ f (port_in ports q)
  kept_back f ports q same =
      kept_at_each exits.room (weight_of exits.groups + copies_weight copies) (row_count kind head) f 0 ports q same

  pub port_back : (ports : List PortState) (q : ℕ) → q < length ports
      → port_in (comes_back exits copies kind head ports) q ≡ gives_room (back_at q (port_in ports q)) (port_in ports q)
  port_back ports q there =
      let same : 0 + q ≡ q = omega arith in
      port_of_each exits.room (weight_of exits.groups + copies_weight copies) (row_count kind head) 0 ports q there
      ∙ ap (λ (p : ℕ). gives_room (back_at p (port_in ports q)) (port_in ports q)) same

  pub each_after_back : (P : ℕ → PortState → Type 0) (ports : List PortState)
      → ((q : ℕ) → q < length ports → P q (gives_room (back_at q (port_in ports q)) (port_in ports q)))
      → (q : ℕ) → q < length (comes_back exits copies kind head ports) → P q (port_in (comes_back exits copies kind head ports) q)
  each_after_back P ports each q there =
      let below : q < length ports = subst (λ (count : ℕ). q < count) (length_back ports) there in
      subst (λ (port : PortState). P q port) (sym (port_back ports q below)) (each q below)

  pub due_back : (ports : List PortState) → ports_due (comes_back exits copies kind head ports) ≡ ports_due ports
  due_back ports = due_each exits.room (weight_of exits.groups + copies_weight copies) (row_count kind head) 0 ports

  pub seen_over_back : (ports : List PortState)
      → fault_at_ports (comes_back exits copies kind head ports) ≡ fault_at_ports ports
  seen_over_back ports =
      ap (λ (fault : Option (ℕ × ℕ)). option_map (λ (f : ℕ × ℕ). f.1) fault)
      (seen_each exits.room (weight_of exits.groups + copies_weight copies) (row_count kind head) 0 ports)

  -- where no group is given, the same room comes back at each port
  pub back_plain : is_batched_join kind ≡ false → (q : ℕ) (port : PortState) → back_at q port ≡ exits.room
  back_plain other q port = rw (no_rows kind head other q) (omega arith)

  -- what comes back at a port was counted there, where what comes back at all of them was
  pub back_fits : (capacity : Option ℕ) (q : ℕ) (port : PortState)
      → cond (is_some capacity) exits.room 0 ≤ port.load - length port.waiting
      → cond (is_some capacity) (back_at q port) 0 ≤ port.load - length port.waiting
  back_fits None q port fits = omega arith
  back_fits (Some limit) q port fits =
      rows_fit exits.room (weight_of exits.groups + copies_weight copies) (row_count kind head q) port.load (length port.waiting)
      fits
