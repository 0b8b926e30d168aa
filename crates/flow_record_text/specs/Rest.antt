-- What is left of a text of which some bytes were read before.
use Rattle.std.specs.Prelude.{ℕ, List, drop, Option}
use Rattle.std.specs.Io.KnownBytes.{prepend_known}
use Rattle.flow_record_text.specs.declared.rest.Rest.{Rest}

-- those from a place on, and then what the reader has, where that is known
abbrev pub rest_remaining : {R : Type 0} → (R → Option (List ℕ)) → Rest R → Option (List ℕ)
rest_remaining known rest = prepend_known (drop rest.at rest.front.items) (known rest.reader)
