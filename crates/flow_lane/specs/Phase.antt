-- The words that store the phases of a lane.
use Rattle.std.specs.Prelude.{◌≡◌, ℕ, List, [], ◌∷◌}
use Rattle.flow_lane.specs.declared.phase.LanePhase.{LanePhase}
use Rattle.flow_lane.specs.declared.phase.LanePhase.TheVariants.{Free, Job, Working, Result, Fetching, Ended}

abbrev pub word_of_phase : LanePhase → ℕ
word_of_phase Free = 0
word_of_phase Job = 1
word_of_phase Working = 2
word_of_phase Result = 3
word_of_phase Fetching = 4
word_of_phase Ended = 5

-- the word is one of a phase
abbrev pub IsWord : ℕ → Type 0
IsWord n = (phase : LanePhase) × (n ≡ word_of_phase phase)

-- the words of a table: that of the phase, and seven that nobody moves, so that words of two tables never share a cache line
abbrev pub words_of : ℕ → List ℕ
words_of word = word ∷ 0 ∷ 0 ∷ 0 ∷ 0 ∷ 0 ∷ 0 ∷ 0 ∷ []
