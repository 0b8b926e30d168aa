-- Where an exchange of an end missed, it stays so until the end does more.
use Rattle.std.proofs.Common.{◌≡◌, ℕ, ◌<◌, eqb, Bool, true, false, List, length, get_or, set, refl, sym, ap, ◌∙◌, subst}
use Rattle.std.proofs.lemmas.Bool.{eqb-false, eqb-true}
use Rattle.std.proofs.lemmas.List.{get_or-set_other, get_or-set_same}
use Rattle.std.specs.declared.alloc.Global.{Global}
use Rattle.std.specs.declared.vec.Vec.{Vec}
use Rattle.flow_block.specs.Node.{NodeState}
use Rattle.flow_wire.specs.Ends.{SourceOf, TargetOf}
use Rattle.flow_task.specs.Misses.{HasMissedIn, HasMissedOut, InMissed, InsMissStill, OutMissed, OutsMissStill}
use Rattle.flow_task.specs.Turns.{InIsStill, OutIsStill, PortIsStill}

-- Out of a block

pub out_missed : (outs : List SourceOf) (k : ℕ) (end : SourceOf) → k < length outs → HasMissedOut end → OutMissed (set outs k end) k
out_missed outs k end small missed none = subst HasMissedOut (sym (get_or-set_same outs k end none small)) missed

outs_by : (same : Bool) (outs : List SourceOf) (k j : ℕ) (end : SourceOf) → eqb j k ≡ same → k < length outs → HasMissedOut end
    → OutMissed outs j → OutMissed (set outs k end) j
outs_by true outs k j end is small missed was none =
    subst (λ (i : ℕ). OutMissed (set outs k end) i) (sym (eqb-true j k is)) (out_missed outs k end small missed) none
outs_by false outs k j end is small missed was none =
    subst HasMissedOut (sym (get_or-set_other outs k j end none (eqb-false j k is))) (was none)

pub outs_miss_still : (outs : List SourceOf) (k : ℕ) (end : SourceOf) → k < length outs → HasMissedOut end
    → OutsMissStill outs (set outs k end)
outs_miss_still outs k end small missed j was = outs_by (eqb j k) outs k j end refl small missed was

pub out_still_then : (k : ℕ) (node : NodeState) (before after : List SourceOf) → OutsMissStill before after → OutIsStill k node before
    → OutIsStill k node after
out_still_then k node before after stay still next found = let so = still next found in (so.0, stay k so.1)

-- Into a block

module _ (ins : List (Vec TargetOf Global)) (p k : ℕ) (row changed : Vec TargetOf Global) (end : TargetOf) (here : row ≡ get_or ins p row)
    (is : changed.items ≡ set row.items k end) (port : p < length ins) (small : k < length row.items) (missed : HasMissedIn end) where
  pub in_missed : InMissed (set ins p changed) p k
  in_missed no_port none =
      subst (λ (it : Vec TargetOf Global). HasMissedIn (get_or it.items k none)) (sym (get_or-set_same ins p changed no_port port))
      (subst HasMissedIn (sym (ap (λ (ends : List TargetOf). get_or ends k none) is ∙ get_or-set_same row.items k end none small)) missed)

  at_place : (same : Bool) (j : ℕ) → eqb j k ≡ same → InMissed ins p j → InMissed (set ins p changed) p j
  at_place true j found was no_port none =
      subst (λ (i : ℕ). InMissed (set ins p changed) p i) (sym (eqb-true j k found)) in_missed no_port none
  at_place false j found was no_port none =
      subst (λ (it : Vec TargetOf Global). HasMissedIn (get_or it.items j none)) (sym (get_or-set_same ins p changed no_port port))
      (subst HasMissedIn (sym (ap (λ (ends : List TargetOf). get_or ends j none) is ∙ get_or-set_other row.items k j end none (eqb-false j k found)))
      (subst (λ (it : Vec TargetOf Global). HasMissedIn (get_or it.items j none)) (sym here) (was row none)))

  at_port : (same : Bool) (q j : ℕ) → eqb q p ≡ same → InMissed ins q j → InMissed (set ins p changed) q j
  at_port true q j found was no_port none =
      subst (λ (i : ℕ). InMissed (set ins p changed) i j) (sym (eqb-true q p found))
      (at_place (eqb j k) j refl (subst (λ (i : ℕ). InMissed ins i j) (eqb-true q p found) was)) no_port none
  at_port false q j found was no_port none =
      subst (λ (it : Vec TargetOf Global). HasMissedIn (get_or it.items j none))
      (sym (get_or-set_other ins p q changed no_port (eqb-false q p found))) (was no_port none)

  pub ins_miss_still : InsMissStill ins (set ins p changed)
  ins_miss_still q j was = at_port (eqb q p) q j refl was

pub in_still_then : (p k : ℕ) (node : NodeState) (before after : List (Vec TargetOf Global)) → InsMissStill before after
    → InIsStill p k node before → InIsStill p k node after
in_still_then p k node before after stay still next found = let so = still next found in (so.0, stay p k so.1)

pub port_still_then : (p : ℕ) (node : NodeState) (before after : List (Vec TargetOf Global)) → InsMissStill before after
    → PortIsStill p node before → PortIsStill p node after
port_still_then p node before after stay still k low = in_still_then p k node before after stay (still k low)
