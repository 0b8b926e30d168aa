-- The faults of a network's text that are told before any function or predicate is read, and which of them comes first.
use Rattle.std.specs.Prelude.{ℕ, ◌+◌, ◌==◌, ℤ, pos, negsuc, Bool, false, List, codes, Option, Some, None, cond, if◌then◌else◌, option_map}
use Rattle.toml.specs.Data.{Data, Items, no_items, item, Members, get_member, as_integer, as_array, as_table}
use Rattle.flow_fault_text.specs.declared.fault.TextFault.{TextFault}
use Rattle.flow_fault_text.specs.declared.fault.TextFault.TheVariants as fault
use Rattle.flow_fault_text.specs.declared.fault.TextPlace.{TextPlace}
use Rattle.flow_fault_text.specs.declared.fault.TextPlace.TheVariants as place
use Rattle.flow_plan_text.specs.declared.network.keys.Part.{Part}
use Rattle.flow_plan_text.specs.declared.network.keys.Part.TheVariants.{Top, Block, Link}
use Rattle.flow_plan_text.specs.declared.network.keys.Check.{Check}
use Rattle.flow_plan_text.specs.declared.network.keys.Check.TheVariants.{UnknownKey, MissingKey, WrongType}
use Rattle.flow_plan_text.specs.Keys.{all_items, is_table, is_wrong}

-- the first of two, if there is one
abbrev pub or_else : {A : Type 0} → Option A → Option A → Option A
or_else (Some a) _ = Some a
or_else None b = b

-- the tables of an array of tables, and none of anything else
abbrev pub tables_of : Data → Items
tables_of d = elim (as_array d) [ None ↦ no_items | Some ds ↦ cond (all_items is_table ds) ds no_items ]

-- the tables at this key
abbrev pub section : List ℕ → Members → Items
section key top = elim (get_member key top) [ None ↦ no_items | Some d ↦ tables_of d ]

-- the number, from n, of the first item that passes the test
abbrev pub first_from : (Data → Bool) → ℕ → Items → Option ℕ
first_from test n no_items = None
first_from test n (item d ds) = cond (test d) (Some n) (first_from test (n + 1) ds)

-- this is wrong with the table that the item is
abbrev pub is_wrong_in : Check → Part → Data → Bool
is_wrong_in check part d = elim (as_table d) [ None ↦ false | Some ms ↦ is_wrong check part ms ]

-- the first place where this is wrong: the top, then the blocks in order, then the links
abbrev pub first_place : Check → Members → Option TextPlace
first_place check top =
    if is_wrong check Top top then Some place.Top
    else or_else (option_map place.Block (first_from (is_wrong_in check Block) 0 (section (codes "block") top)))
    (option_map place.Link (first_from (is_wrong_in check Link) 0 (section (codes "link") top)))

-- the one format that there is
abbrev pub is_format : ℤ → Bool
is_format (pos n) = n == 1
is_format (negsuc n) = false

-- what is wrong with the format
abbrev pub format_fault : Members → Option TextFault
format_fault top = elim (get_member (codes "format") top) [
  | None ↦ Some (fault.MissingKey place.Top)
  | Some d ↦ elim (as_integer d) [ None ↦ Some (fault.WrongType place.Top) | Some z ↦ cond (is_format z) None (Some fault.BadFormat) ]
]

-- the first fault: the format's, then unknown keys, missing keys and wrong types, each over the whole text
abbrev pub first_fault : Members → Option TextFault
first_fault top =
    or_else (format_fault top)
    (or_else (option_map fault.UnknownKey (first_place UnknownKey top))
    (or_else (option_map fault.MissingKey (first_place MissingKey top))
    (option_map fault.WrongType (first_place WrongType top))))
