-- That the ports which a draft names are numbers of 16 bits.
use Rattle.std.specs.Prelude.{◌≡◌, ℕ, ◌<◌, ◌^◌, List, length, get_or, unwrap_or}
use Rattle.flow_link.specs.declared.draft.LinkDef.{LinkDef}

-- the port that a link leads to is one
abbrev pub PortFits : LinkDef → Type 0
PortFits link = unwrap_or link.port 0 < 2 ^ 16

-- so is that of each link of a draft
abbrev pub PortsFit : List LinkDef → Type 0
PortsFit links = (l : ℕ) (link : LinkDef) → l < length links → link ≡ get_or links l link → PortFits link
