-- Nothing that is put is lost: values are given in order or left, and weights come back or are kept.
use Rattle.std.proofs.Common.{◌≡◌, ◌+◌, List, [], ◌∷◌, ◌++◌, length, refl, sym, ◌∙◌, ap, arith, append_assoc}
use Rattle.std.proofs.lemmas.List.{append-nil}
use Rattle.flow_value.specs.declared.value.Value.{Value}
use Rattle.flow_outlet.specs.Fits.{weight_of}
use Rattle.flow_outlet.specs.Outlet.{OutletState, first_of, rest_of}
use Rattle.flow_outlet.specs.History.{Call, after, put_by, listed, given_by, weight_by, told_by, after_all, put_in, given_in, weight_in, told_in, NothingIsLost}
use Rattle.flow_outlet.proofs.OutletFits.{room_put, weight_stays}

given_first : (left : List Value) → left ++ [] ≡ listed (first_of left) ++ rest_of left
given_first [] = refl
given_first (value ∷ left) = append-nil (value ∷ left)

one_call : (call : Call) (o : OutletState) → o.left ++ put_by call ≡ given_by call o ++ (after call o).left
one_call (Call.put values weight) o = refl
one_call (Call.set_aside count) o = append-nil o.left
one_call (Call.put_aside values weight) o = refl
one_call (Call.give k) o = given_first o.left
one_call Call.prepare o = append-nil o.left
one_call (Call.offer k) o = append-nil o.left
one_call (Call.look k phase) o = append-nil o.left
one_call (Call.hold k) o = append-nil o.left
one_call (Call.deny k) o = append-nil o.left
one_call (Call.withdraw k) o = append-nil o.left
one_call (Call.«end» k how) o = append-nil o.left
one_call Call.room_back o = append-nil o.left

values_kept : (calls : List Call) (o : OutletState) → o.left ++ put_in calls ≡ given_in calls o ++ (after_all calls o).left
values_kept [] o = append-nil o.left
values_kept (call ∷ calls) o =
    sym (append_assoc o.left (put_by call) (put_in calls)) ∙ ap (λ values. values ++ put_in calls) (one_call call o)
    ∙ append_assoc (given_by call o) (after call o).left (put_in calls)
    ∙ ap (λ values. given_by call o ++ values) (values_kept calls (after call o))
    ∙ sym (append_assoc (given_by call o) (given_in calls (after call o)) (after_all calls (after call o)).left)

one_weight : (call : Call) (o : OutletState)
    → o.room + weight_of o.groups + weight_by call ≡ told_by call o + ((after call o).room + weight_of (after call o).groups)
one_weight (Call.put values weight) o =
    omega (arith, room_put (o.next + length o.left) (length values) weight o.room o.groups)
one_weight (Call.set_aside count) o = omega arith
one_weight (Call.put_aside values weight) o =
    omega (arith, room_put (o.next + length o.left) (length values) weight o.room o.groups)
one_weight (Call.give k) o = omega (arith, weight_stays o.next o.groups)
one_weight Call.prepare o = omega arith
one_weight (Call.offer k) o = omega arith
one_weight (Call.look k phase) o = omega arith
one_weight (Call.hold k) o = omega arith
one_weight (Call.deny k) o = omega arith
one_weight (Call.withdraw k) o = omega arith
one_weight (Call.«end» k how) o = omega arith
one_weight Call.room_back o = omega arith

weights_kept : (calls : List Call) (o : OutletState)
    → o.room + weight_of o.groups + weight_in calls
    ≡ told_in calls o + ((after_all calls o).room + weight_of (after_all calls o).groups)
weights_kept [] o = omega arith
weights_kept (call ∷ calls) o = omega (arith, one_weight call o, weights_kept calls (after call o))

pub nothing_is_lost : NothingIsLost
nothing_is_lost = record { values = values_kept; weights = weights_kept }
