-- Plain bytes: those that are no control bytes, no double quote and no backslash; and those of them that are ASCII.
use Rattle.std.specs.Prelude.{ℕ, ◌==◌, leb, ltb, not, ◌&&◌, Bool, true, List, [], ◌∷◌}

abbrev pub is_plain_byte : ℕ → Bool
is_plain_byte byte = leb 32 byte && not (byte == 34) && not (byte == 92) && not (byte == 127)

abbrev pub all_plain : List ℕ → Bool
all_plain [] = true
all_plain (byte ∷ bytes) = is_plain_byte byte && all_plain bytes

abbrev pub is_plain_ascii : ℕ → Bool
is_plain_ascii byte = is_plain_byte byte && ltb byte 128

abbrev pub all_plain_ascii : List ℕ → Bool
all_plain_ascii [] = true
all_plain_ascii (byte ∷ bytes) = is_plain_ascii byte && all_plain_ascii bytes
