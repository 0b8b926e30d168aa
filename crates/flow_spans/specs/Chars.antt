-- Characters among bytes.
use Rattle.std.specs.Prelude.{ℕ, Bool, not, ◌&&◌, nat_le, nat_lt}

-- the byte is not one of those that continue a character
abbrev pub begins_char : ℕ → Bool
begins_char byte = not (nat_le 128 byte && nat_lt byte 192)
