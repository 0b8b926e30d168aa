-- The messages that make the next row, copied and taken off one by one.
use Rattle.std.proofs.Common.{◌≡◌, ℕ, zero, suc, ◌+◌, List, [], ◌∷◌, length, take, drop, refl, ap, sym, arith}
use Rattle.std.proofs.Math.Seq.{drop-nil}
use Rattle.flow_value.specs.declared.value.Value.{Value}

pub take_count : (size : ℕ) (values : List Value) → take (length (take size values)) values ≡ take size values
take_count zero values = refl
take_count (suc size) [] = refl
take_count (suc size) (value ∷ values) = ap (λ (vs : List Value). value ∷ vs) (take_count size values)

pub drop_count : (size : ℕ) (values : List Value) → drop (length (take size values)) values ≡ drop size values
drop_count zero values = refl
drop_count (suc size) [] = refl
drop_count (suc size) (value ∷ values) = drop_count size values

pub drop_next : (count : ℕ) (values : List Value) → drop 1 (drop count values) ≡ drop (count + 1) values
drop_next zero values = refl
drop_next (suc count) [] = sym (drop-nil (suc count + 1))
drop_next (suc count) (value ∷ values) =
    let one : suc count + 1 ≡ suc (count + 1) = omega arith in
    rw one (drop_next count values)
