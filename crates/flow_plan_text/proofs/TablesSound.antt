-- Where a text has no fault, its tables are sound.
use Rattle.std.proofs.Common.{◌≡◌, ℕ, ◌+◌, Bool, true, false, not, List, codes, Option, Some, None, cond, option_map, refl}
use Rattle.std.specs.Prelude.{if◌then◌else◌}
use Rattle.std.proofs.lemmas.Bool.{and_parts, and_from}
use Rattle.toml.specs.Data.{Data, Items, Members, no_items, item, string, integer, float, boolean, datetime, array, table, get_member, as_array}
use Rattle.flow_plan_text.specs.Keys.{all_items, is_table, is_wrong}
use Rattle.flow_plan_text.specs.Passes.{or_else, tables_of, section, first_from, is_wrong_in, first_place, first_fault, format_fault}
use Rattle.flow_plan_text.specs.Read.{is_sound_in}
use Rattle.flow_fault_text.specs.declared.fault.TextFault.TheVariants as fault
use Rattle.flow_fault_text.specs.declared.fault.TextPlace.TheVariants as place
use Rattle.flow_plan_text.specs.declared.network.keys.Check.{Check}
use Rattle.flow_plan_text.specs.declared.network.keys.Check.TheVariants.{UnknownKey, MissingKey, WrongType}
use Rattle.flow_plan_text.specs.declared.network.keys.Part.{Part}
use Rattle.flow_plan_text.specs.declared.network.keys.Part.TheVariants.{Top, Block, Link}

both_none : {A : Type 0} (a b : Option A) → or_else a b ≡ None → (a ≡ None) × (b ≡ None)
both_none (Some x) b h = absurd (cc)
both_none None b h = (refl, h)

map_none : {A B : Type 0} (f : A → B) (o : Option A) → option_map f o ≡ None → o ≡ None
map_none f (Some x) h = absurd (cc)
map_none f None h = refl

place_parts : (b : Bool) (o p : Option ℕ) → (if b then Some place.Top else or_else (option_map place.Block o) (option_map place.Link p)) ≡ None → (o ≡ None) × (p ≡ None)
place_parts true o p h = absurd (cc)
place_parts false o p h =
    let parts = both_none (option_map place.Block o) (option_map place.Link p) h in
    (map_none place.Block o parts.0, map_none place.Link p parts.1)

-- no block and no link has this wrong
nowhere : (check : Check) (top : Members) → first_place check top ≡ None
    → (first_from (is_wrong_in check Block) 0 (section (codes "block") top) ≡ None) × (first_from (is_wrong_in check Link) 0 (section (codes "link") top) ≡ None)
nowhere check top h = place_parts (is_wrong check Top top) _ _ h

later_none : (top : Members) → first_fault top ≡ None → (first_place MissingKey top ≡ None) × (first_place WrongType top ≡ None)
later_none top h =
    let format = both_none (format_fault top) _ h in
    let unknown = both_none (option_map fault.UnknownKey (first_place UnknownKey top)) _ format.1 in
    let missing = both_none (option_map fault.MissingKey (first_place MissingKey top)) _ unknown.1 in
    (map_none fault.MissingKey _ missing.0, map_none fault.WrongType _ missing.1)

not_first : (b : Bool) (n : ℕ) (o : Option ℕ) → cond b (Some n) o ≡ None → (not b ≡ true) × (o ≡ None)
not_first true n o h = absurd (cc)
not_first false n o h = (refl, h)

none_wrong : (test : Data → Bool) (n : ℕ) (ds : Items) → first_from test n ds ≡ None → all_items (λ d. not (test d)) ds ≡ true
none_wrong test n no_items h = refl
none_wrong test n (item d ds) h =
    let parts = not_first (test d) n (first_from test (n + 1) ds) h in
    and_from (not (test d)) _ parts.0 (none_wrong test (n + 1) ds parts.1)

tables_only : (b : Bool) (ds : Items) → all_items is_table ds ≡ b → all_items is_table (cond b ds no_items) ≡ true
tables_only true ds h = h
tables_only false ds h = refl

array_only : (o : Option Items) → all_items is_table (elim o [ None ↦ no_items | Some ds ↦ cond (all_items is_table ds) ds no_items ]) ≡ true
array_only None = refl
array_only (Some ds) = tables_only (all_items is_table ds) ds refl

member_only : (o : Option Data) → all_items is_table (elim o [ None ↦ no_items | Some d ↦ tables_of d ]) ≡ true
member_only None = refl
member_only (Some d) = array_only (as_array d)

-- what stands at the key has only tables
section_only : (key : List ℕ) (top : Members) → all_items is_table (section key top) ≡ true
section_only key top = member_only (get_member key top)

sound_item : (part : Part) (d : Data) → is_table d ≡ true → not (is_wrong_in MissingKey part d) ≡ true → not (is_wrong_in WrongType part d) ≡ true
    → is_sound_in part d ≡ true
sound_item part (string s) h m w = h
sound_item part (integer z) h m w = h
sound_item part (float x) h m w = h
sound_item part (boolean b) h m w = h
sound_item part (datetime t) h m w = h
sound_item part (array ds) h m w = h
sound_item part (table ms) h m w = and_from _ _ m w

sound_items : (part : Part) (ds : Items) → all_items is_table ds ≡ true → all_items (λ d. not (is_wrong_in MissingKey part d)) ds ≡ true
    → all_items (λ d. not (is_wrong_in WrongType part d)) ds ≡ true → all_items (is_sound_in part) ds ≡ true
sound_items part no_items h m w = refl
sound_items part (item d ds) h m w =
    let hs = and_parts _ _ h in
    let ms = and_parts _ _ m in
    let ws = and_parts _ _ w in
    and_from _ _ (sound_item part d hs.0 ms.0 ws.0) (sound_items part ds hs.1 ms.1 ws.1)

-- the blocks of a text without a fault are sound
pub sound_blocks : (top : Members) → first_fault top ≡ None → all_items (is_sound_in Block) (section (codes "block") top) ≡ true
sound_blocks top h =
    let later = later_none top h in
    sound_items Block (section (codes "block") top) (section_only (codes "block") top)
    (none_wrong (is_wrong_in MissingKey Block) 0 (section (codes "block") top) (nowhere MissingKey top later.0).0)
    (none_wrong (is_wrong_in WrongType Block) 0 (section (codes "block") top) (nowhere WrongType top later.1).0)

-- and so are its links
pub sound_links : (top : Members) → first_fault top ≡ None → all_items (is_sound_in Link) (section (codes "link") top) ≡ true
sound_links top h =
    let later = later_none top h in
    sound_items Link (section (codes "link") top) (section_only (codes "link") top)
    (none_wrong (is_wrong_in MissingKey Link) 0 (section (codes "link") top) (nowhere MissingKey top later.0).1)
    (none_wrong (is_wrong_in WrongType Link) 0 (section (codes "link") top) (nowhere WrongType top later.1).1)
