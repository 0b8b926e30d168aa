-- What a network's text is read as: its draft, or what it is refused for.
use Rattle.std.specs.Prelude.{◌≡◌, ℕ, ◌⊎◌, zero, suc, Bool, false, not, ◌&&◌, List, [], ◌∷◌, codes, Option, Some, None, Ok, Err, option_and_then, IsUtf8}
use Rattle.flow_link.specs.declared.draft.BlockDef.{BlockDef}
use Rattle.flow_link.specs.declared.draft.BlockKind.{BlockKind}
use Rattle.flow_link.specs.declared.draft.Draft.{Draft}
use Rattle.flow_link.specs.declared.draft.LinkDef.{LinkDef}
use Rattle.flow_value.specs.ReadsAs.{ReadsAs}
use Rattle.flow_value.specs.When.{SpellsWhen}
use Rattle.flow_value.specs.declared.steps.Steps.{Steps}
use Rattle.flow_value.specs.declared.steps.StepsError.TheVariants.{BadStep}
use Rattle.flow_value.specs.declared.when.When.{When}
use Rattle.toml.specs.Data.{Data, Items, no_items, item, Members, get_member, get_item, as_str, as_bool, as_array, as_table}
use Rattle.toml.specs.Parse.{parse_document}
use Rattle.flow_plan_text.specs.Keys.{kind_named, as_count, is_wrong}
use Rattle.flow_plan_text.specs.Passes.{section, first_fault}
use Rattle.flow_fault_text.specs.declared.fault.TextFault.{TextFault}
use Rattle.flow_fault_text.specs.declared.fault.TextFault.TheVariants.{Syntax, BadWork, BadWhen}
use Rattle.flow_fault_text.specs.declared.fault.TextPlace.TheVariants as place
use Rattle.flow_fault_text.specs.declared.fault.TextRefusal.{TextRefusal}
use Rattle.flow_fault_text.specs.declared.fault.TextRefusal.TheVariants.{Fault, Memory}
use Rattle.flow_plan_text.specs.declared.network.keys.Part.{Part}
use Rattle.flow_plan_text.specs.declared.network.keys.Check.TheVariants.{MissingKey, WrongType}

-- the text at a key
abbrev pub text_at : List ℕ → Members → Option (List ℕ)
text_at key ms = option_and_then as_str (get_member key ms)

-- the kind that the key `kind` names
abbrev pub kind_at : Members → Option BlockKind
kind_at ms = option_and_then kind_named (text_at (codes "kind") ms)

-- the boolean at a key
abbrev pub choice_at : List ℕ → Members → Option Bool
choice_at key ms = option_and_then as_bool (get_member key ms)

-- and false where there is none
abbrev pub flag_at : List ℕ → Members → Bool
flag_at key ms = elim (choice_at key ms) [ None ↦ false | Some b ↦ b ]

-- the count at a key
abbrev pub count_at : List ℕ → Members → Option ℕ
count_at key ms = option_and_then as_count (get_member key ms)

-- the texts of an array, in order
abbrev pub texts : Items → List (List ℕ)
texts no_items = []
texts (item d ds) = elim (as_str d) [ None ↦ texts ds | Some s ↦ s ∷ texts ds ]

abbrev pub texts_of : Data → List (List ℕ)
texts_of d = elim (as_array d) [ None ↦ [] | Some ds ↦ texts ds ]

-- the function at the key `work`
abbrev pub IsWork : Members → Option Steps → Type 0
IsWork ms None = get_member (codes "work") ms ≡ None
IsWork ms (Some steps) = (d : Data) × (get_member (codes "work") ms ≡ Some d) × ReadsAs (texts_of d) (Ok steps)

-- a step at the key `work` is none
abbrev pub HasBadWork : Members → Type 0
HasBadWork ms = (d : Data) × (get_member (codes "work") ms ≡ Some d) × ((at : ℕ) × ReadsAs (texts_of d) (Err (BadStep at)))

-- the predicate at the key `when`
abbrev pub IsWhen : Members → Option When → Type 0
IsWhen ms None = text_at (codes "when") ms ≡ None
IsWhen ms (Some when) = (text : List ℕ) × (text_at (codes "when") ms ≡ Some text) × SpellsWhen text when

-- the text at the key `when` is no predicate
abbrev pub HasBadWhen : Members → Type 0
HasBadWhen ms = (text : List ℕ) × (text_at (codes "when") ms ≡ Some text) × ((when : When) → SpellsWhen text when → ⊥)

-- the block that a table is; what has no key is absent
pub record IsBlock (ms : Members) (block : BlockDef Steps) : Type 0 where
  pub name : text_at (codes "name") ms ≡ Some block.name
  pub kind : kind_at ms ≡ Some block.kind
  pub input : block.input ≡ flag_at (codes "input") ms
  pub output : block.output ≡ false
  pub capacity : block.capacity ≡ count_at (codes "capacity") ms
  pub work : IsWork ms block.work
  pub lanes : block.lanes ≡ count_at (codes "lanes") ms
  pub size : block.size ≡ count_at (codes "size") ms
  pub ports : block.ports ≡ count_at (codes "ports") ms
  pub greedy : block.greedy ≡ choice_at (codes "greedy") ms

-- the link that a table is
pub record IsLink (ms : Members) (link : LinkDef) : Type 0 where
  pub from : text_at (codes "from") ms ≡ Some link.from
  pub to : text_at (codes "to") ms ≡ Some link.to
  pub port : link.port ≡ count_at (codes "port") ms
  pub when : IsWhen ms link.when
  pub max : link.max ≡ count_at (codes "max") ms
  pub propagate : link.propagate ≡ flag_at (codes "propagate") ms

-- the items are tables, and each is the one of the list at its place
abbrev pub AreEach : {A : Type 0} → (Members → A → Type 0) → Items → List A → Type 0
AreEach Is no_items [] = Unit {0}
AreEach Is (item d ds) (x ∷ xs) = ((ms : Members) × (as_table d ≡ Some ms) × Is ms x) × AreEach Is ds xs
AreEach Is _ _ = ⊥

-- the items before this place
abbrev pub items_before : ℕ → Items → Items
items_before zero _ = no_items
items_before (suc n) no_items = no_items
items_before (suc n) (item d ds) = item d (items_before n ds)

-- the table at this place is bad, and each of those before it is read
pub record IsFirstBad {A : Type 0} (IsBad : Members → Type 0) (Is : Members → A → Type 0) (tables : Items) (n : ℕ) : Type 0 where
  pub table : Members
  pub stands : (d : Data) × (get_item n tables ≡ Some d) × (as_table d ≡ Some table)
  pub bad : IsBad table
  pub read_before : (made : List A) × AreEach Is (items_before n tables) made

-- the block at this place has a step that is none, and those before it are read
abbrev pub IsFirstBadWork : Items → ℕ → Type 0
IsFirstBadWork tables n = IsFirstBad HasBadWork IsBlock tables n

-- the link at this place has a predicate that is none, and those before it are read
abbrev pub IsFirstBadWhen : Items → ℕ → Type 0
IsFirstBadWhen tables n = IsFirstBad HasBadWhen IsLink tables n

-- nothing is missing in the table, and each value is what its key wants
abbrev pub is_sound : Part → Members → Bool
is_sound part ms = not (is_wrong MissingKey part ms) && not (is_wrong WrongType part ms)

abbrev pub is_sound_in : Part → Data → Bool
is_sound_in part d = elim (as_table d) [ None ↦ false | Some ms ↦ is_sound part ms ]

-- the text is TOML, none of its keys is at fault, and its tables are the blocks and links of the draft
pub record IsReadAs (text : List ℕ) (draft : Draft Steps) : Type 0 where
  pub encoded : IsUtf8 text
  pub top : Members
  pub parsed : parse_document text ≡ Some top
  pub faultless : first_fault top ≡ None
  pub blocks : AreEach IsBlock (section (codes "block") top) draft.blocks.items
  pub links : AreEach IsLink (section (codes "link") top) draft.links.items

-- the fault is that of the first block with a step that is none
abbrev pub IsFaultOfWork : Members → TextFault → Type 0
IsFaultOfWork top fault = (n : ℕ) × (fault ≡ BadWork (place.Block n)) × IsFirstBadWork (section (codes "block") top) n

-- all blocks are read, and the fault is that of the first link with a predicate that is none
pub record IsFaultOfWhen (top : Members) (fault : TextFault) : Type 0 where
  pub blocks : (made : List (BlockDef Steps)) × AreEach IsBlock (section (codes "block") top) made
  pub link : (n : ℕ) × (fault ≡ BadWhen (place.Link n)) × IsFirstBadWhen (section (codes "link") top) n

-- the text is TOML, and this is its first fault
pub record HasFault (text : List ℕ) (fault : TextFault) : Type 0 where
  pub encoded : IsUtf8 text
  pub top : Members
  pub parsed : parse_document text ≡ Some top
  pub first : (first_fault top ≡ Some fault) ⊎ ((first_fault top ≡ None) × (IsFaultOfWork top fault ⊎ IsFaultOfWhen top fault))

-- the text is no TOML
abbrev pub IsSyntaxFault : List ℕ → TextFault → Type 0
IsSyntaxFault text fault = (fault ≡ Syntax) × (IsUtf8 text → parse_document text ≡ None)

-- why a text is refused; of when memory is out nothing is said
abbrev pub IsRefusedFor : List ℕ → TextRefusal → Type 0
IsRefusedFor text (Fault fault) = IsSyntaxFault text fault ⊎ HasFault text fault
IsRefusedFor text Memory = Unit {0}
