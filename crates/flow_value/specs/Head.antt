-- The head of a short text: how many bytes it has, and 128 more where all of them are plain.
use Rattle.std.specs.Prelude.{ℕ, ◌%◌, leb, Bool, List, take}

abbrev pub count_in : ℕ → ℕ
count_in head = head % 128

abbrev pub says_plain : ℕ → Bool
says_plain head = leb 128 head

-- the bytes of a short text stand at the beginning of its cells
abbrev pub bytes_in : ℕ → List ℕ → List ℕ
bytes_in head cells = take (count_in head) cells
