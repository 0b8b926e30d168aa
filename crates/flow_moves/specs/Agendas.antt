-- What a contract sees of an agenda.
use Rattle.std.specs.Prelude.{ℕ, vec_len}
use Rattle.flow_moves.specs.declared.agenda.Agenda.{Agenda}

-- how many spots stand on it, but for the one that comes first
abbrev pub spot_count : Agenda → ℕ
spot_count agenda = vec_len agenda.spots
