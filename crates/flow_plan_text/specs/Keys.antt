-- The keys that each part of a network's text has, what their values are, and what can be wrong with the keys of a table.
use Rattle.std.specs.Prelude.{ℕ, leb, ℤ, pos, negsuc, Bool, true, false, not, ◌&&◌, ◌||◌, List, [], ◌∷◌, codes, Option, Some, None, cond, if◌then◌else◌, is_some, option_and_then}
use Rattle.std.specs.List.{list_any}
use Rattle.std.specs.Str.{bytes_eq}
use Rattle.flow_link.specs.declared.draft.BlockKind.{BlockKind}
use Rattle.flow_link.specs.declared.draft.BlockKind.TheVariants.{Buffer, Broadcast, WriteOnce, Action, Transform, TransformMany, Batch, Join, BatchedJoin}
use Rattle.toml.specs.Data.{Data, Items, no_items, item, Members, no_members, member, get_member, as_str, as_bool, as_integer, as_array, as_table}
use Rattle.flow_plan_text.specs.declared.network.keys.Part.{Part}
use Rattle.flow_plan_text.specs.declared.network.keys.Part.TheVariants.{Top, Block, Link}
use Rattle.flow_plan_text.specs.declared.network.keys.Form.{Form}
use Rattle.flow_plan_text.specs.declared.network.keys.Form.TheVariants.{Boolean, Integer, Count, Text, Kind, Texts, Tables}
use Rattle.flow_plan_text.specs.declared.network.keys.Check.{Check}
use Rattle.flow_plan_text.specs.declared.network.keys.Check.TheVariants.{UnknownKey, MissingKey, WrongType}

-- a key, what its value is, and whether it is required
pub record Rule : Type 0 where
  pub name : List ℕ
  pub form : Form
  pub required : Bool

abbrev pub required : List ℕ → Form → Rule
required name form = record { name = name; form = form; required = true }

abbrev pub optional : List ℕ → Form → Rule
optional name form = record { name = name; form = form; required = false }

-- the keys of each part
abbrev pub rules_of : Part → List Rule
rules_of Top = required (codes "format") Integer ∷ required (codes "block") Tables ∷ optional (codes "link") Tables ∷ []
rules_of Block = required (codes "name") Text ∷ required (codes "kind") Kind ∷ optional (codes "input") Boolean ∷ optional (codes "capacity") Count
    ∷ optional (codes "work") Texts ∷ optional (codes "lanes") Count ∷ optional (codes "size") Count
    ∷ optional (codes "ports") Count ∷ optional (codes "greedy") Boolean ∷ []
rules_of Link = required (codes "from") Text ∷ required (codes "to") Text ∷ optional (codes "port") Count ∷ optional (codes "when") Text
    ∷ optional (codes "max") Count ∷ optional (codes "propagate") Boolean ∷ []

-- the kind that a word names
abbrev pub kind_named : List ℕ → Option BlockKind
kind_named word =
    if bytes_eq word (codes "buffer") then Some Buffer
    else if bytes_eq word (codes "broadcast") then Some Broadcast
    else if bytes_eq word (codes "write_once") then Some WriteOnce
    else if bytes_eq word (codes "action") then Some Action
    else if bytes_eq word (codes "transform") then Some Transform
    else if bytes_eq word (codes "transform_many") then Some TransformMany
    else if bytes_eq word (codes "batch") then Some Batch
    else if bytes_eq word (codes "join") then Some Join
    else if bytes_eq word (codes "batched_join") then Some BatchedJoin
    else None

-- each item passes the test
abbrev pub all_items : (Data → Bool) → Items → Bool
all_items test no_items = true
all_items test (item d ds) = test d && all_items test ds

-- the value is an array of such items
abbrev pub is_array_of : (Data → Bool) → Data → Bool
is_array_of test d = elim (as_array d) [ None ↦ false | Some ds ↦ all_items test ds ]

abbrev pub is_text : Data → Bool
is_text d = is_some (as_str d)

abbrev pub is_table : Data → Bool
is_table d = is_some (as_table d)

-- the integer as a count: from 0 to 4,294,967,295
abbrev pub count_from : ℤ → Option ℕ
count_from (pos n) = cond (leb n 4294967295) (Some n) None
count_from (negsuc n) = None

-- the count that a value is
abbrev pub as_count : Data → Option ℕ
as_count d = option_and_then count_from (as_integer d)

-- the value is of this form
abbrev pub fits : Form → Data → Bool
fits Boolean d = is_some (as_bool d)
fits Integer d = is_some (as_integer d)
fits Count d = is_some (as_count d)
fits Text d = is_text d
fits Kind d = is_some (option_and_then kind_named (as_str d))
fits Texts d = is_array_of is_text d
fits Tables d = is_array_of is_table d

-- the part has this key
abbrev pub knows : Part → List ℕ → Bool
knows part key = list_any (λ rule. bytes_eq rule.name key) (rules_of part)

-- the table has a key that the part has not
abbrev pub has_unknown : Part → Members → Bool
has_unknown part no_members = false
has_unknown part (member key d ms) = not (knows part key) || has_unknown part ms

-- the table lacks this key, which is required
abbrev pub is_missed : Members → Rule → Bool
is_missed ms rule = rule.required && not (is_some (get_member rule.name ms))

-- the table has at this key another value than it wants
abbrev pub is_misfit : Members → Rule → Bool
is_misfit ms rule = elim (get_member rule.name ms) [ None ↦ false | Some d ↦ not (fits rule.form d) ]

-- this is wrong with the table
abbrev pub is_wrong : Check → Part → Members → Bool
is_wrong UnknownKey part ms = has_unknown part ms
is_wrong MissingKey part ms = list_any (is_missed ms) (rules_of part)
is_wrong WrongType part ms = list_any (is_misfit ms) (rules_of part)
