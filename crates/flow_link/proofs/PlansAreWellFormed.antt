-- The plan of a draft that has no fault by the format is well-formed.
use Rattle.std.proofs.Common.{◌≡◌, ℕ, zero, suc, ◌+◌, ◌<◌, ◌≤◌, Bool, true, false, cond, not, ◌&&◌, ◌||◌, List, [], ◌∷◌, ◌++◌, length, map, Option, Some, None, get_or, take, is_none, is_some, unwrap_or, ◌==◌, ltb, refl, ap, sym, ◌∙◌, subst, arith}
use Rattle.std.specs.List.{find, position}
use Rattle.std.specs.Str.{bytes_eq}
use Rattle.std.proofs.lemmas.Bool.{eqb-true, eq-eqb, ltb-false, leb-false, and_from, and_parts, not-false, or_parts, and_right}
use Rattle.std.proofs.lemmas.List.{get_or-map, get_or-take, get_or_default, length-take-le}
use Rattle.std.proofs.lemmas.List.Folds.{find-append}
use Rattle.std.proofs.lemmas.Slice.Eq.{bytes_eq-Decides}
use Rattle.flow_link.specs.declared.draft.BlockDef.{BlockDef}
use Rattle.flow_link.specs.declared.draft.LinkDef.{LinkDef}
use Rattle.flow_link.specs.declared.draft.BlockKind.{BlockKind}
use Rattle.flow_link.specs.declared.draft.BlockKind.TheVariants.{Action, Batch, Join, BatchedJoin}
use Rattle.flow_link.specs.declared.plan.Link.{Link}
use Rattle.flow_link.specs.declared.plan.LinkSource.{LinkSource}
use Rattle.flow_link.specs.declared.plan.LinkSource.TheVariants.{Block as at_block, Input}
use Rattle.flow_link.specs.declared.plan.LinkTarget.{LinkTarget}
use Rattle.flow_link.specs.declared.plan.LinkTarget.TheVariants.{Port as at_port, Exit}
use Rattle.flow_link.specs.declared.plan.PlanFault.TheVariants.{Limit, DuplicateName, UnknownBlock, Port, NoOutput, BadOption, CapacityBelowSize, SharedSource, Cycle}
use Rattle.flow_link.specs.declared.plan.Place.TheVariants.{Block, Link as at_link}
use Rattle.flow_link.specs.Layout.{input_link, input_links, exit_link, exit_links, outer_links, between_of}
use Rattle.flow_link.specs.Lists.{some, below}
use Rattle.flow_link.specs.Plan.{block_named, block_in, link_in, begins_at, ends_at, ends_at_port, named_link, named_links, planned_links, no_link, ports_by_kind, port_count, is_reserving, no_block}
use Rattle.flow_link.specs.PlanFaults.{allows, input_rule, output_rule, capacity_rule, work_rule, lanes_rule, size_rule, ports_rule, greedy_rule, keys_fit, ranges_fit, is_name, options_fit, lacks_port, lacks_output, is_in, holds_no_group, gives_nothing, leads, walks, shares_with, sources, targets, stands, first_plan_fault}
use Rattle.flow_link.specs.WellFormed.{IsWellFormed}
use Rattle.flow_link.proofs.FirstInOrder.{position_is_first}
use Rattle.flow_link.proofs.EachLinkOf.{Each, Fails, each_append, each_input, each_exit, each_named, in_front, none_at}
use Rattle.flow_link.proofs.FirstOfEachFault.{named_link_at, length-named_links, none_front, none_back, fails_from}
use Rattle.flow_link.proofs.LinksLaidOut.{between_named, named_low}
use Rattle.flow_link.proofs.LongWalks.{never_reached}
use Rattle.flow_link.proofs.RoundsOfWalks.{some_here_below, some_same_below}
use Rattle.flow_link.proofs.ListTests.{never_both, not_both}

-- of tests that fail

nowhere : {A : Type 0} (o : Option A) → is_some o ≡ false → o ≡ None
nowhere None e = refl
nowhere (Some a) e = cc

stands_first : {A : Type 0} (b : Bool) (x : A) → cond b (Some x) None ≡ None → b ≡ false
stands_first true x e = cc
stands_first false x e = refl

none_of_some : {A : Type 0} (test : A → Bool) (xs : List A) (i : ℕ) (d : A) → some test xs ≡ false → i < length xs → test (get_or xs i d) ≡ false
none_of_some test [] i d e low = absurd (omega arith)
none_of_some test (x ∷ xs) zero d e low = (or_parts (test x) (some test xs) e).0
none_of_some test (x ∷ xs) (suc i) d e low = none_of_some test xs i d (or_parts (test x) (some test xs) e).1 (omega arith)

none_below_of : (test : ℕ → Bool) (count k : ℕ) → some test (below count) ≡ false → k < count → test k ≡ false
none_below_of test count k e low =
    let go : (b : Bool) → test k ≡ b → test k ≡ false =
    λ b. elim b as (λ v. test k ≡ v → test k ≡ false) [ true ↦ λ here. never_both (some test (below count)) (some_here_below test count k low here) e | false ↦ λ here. here ] in
    go (test k) refl

-- a test passes nowhere in a list in which nothing is found
none_in_list : {A : Type 0} (test : A → Bool) (xs : List A) (i : ℕ) (d : A) → position test xs ≡ None → i < length xs → test (get_or xs i d) ≡ false
none_in_list test xs i d e low =
    let place = λ (k : ℕ). test (get_or xs k d) in
    let zeroth : i ≡ 0 + i = omega arith in
    ap place zeroth
    ∙ fails_from place 0 (length xs) i low (position_is_first test place xs (λ k other small. ap test (get_or_default xs k d other small)) ∙ e)

pub front_of : {A : Type 0} (test : A → Bool) (a b : List A) → find test (a ++ b) ≡ None → find test a ≡ None
front_of test a b e = none_front _ _ (sym (find-append test a b) ∙ e)

pub back_of : {A : Type 0} (test : A → Bool) (a b : List A) → find test (a ++ b) ≡ None → find test b ≡ None
back_of test a b e = none_back _ _ (sym (find-append test a b) ∙ e)

first_two : (a b c d e f g h : Bool) → (a && b && c && d && e && f && g && h) ≡ true → (a ≡ true) × (b ≡ true)
first_two a b c d e f g h all =
    and_parts a b (and_parts (a && b) c (and_parts (a && b && c) d (and_parts (a && b && c && d) e (and_parts (a && b && c && d && e) f
    (and_parts (a && b && c && d && e && f) g (and_parts (a && b && c && d && e && f && g) h all).0).0).0).0).0).0

-- links that all fail a test behind others
some_none_in : (test : Link → Bool) (links : List Link) → Each (Fails test) links → some test links ≡ false
some_none_in test [] h = refl
some_none_in test (link ∷ links) h =
    let rest = some_none_in test links (λ l small. h (suc l) (omega arith)) in
    let here : test link ≡ false = h 0 (omega arith) in
    rw here rest

some_front : (test : Link → Bool) (first last : List Link) → Each (Fails test) last → some test (first ++ last) ≡ some test first
some_front test [] last h = some_none_in test last h
some_front test (link ∷ first) last h = ap (λ b. test link || b) (some_front test first last h)

walks_front : (first last : List Link) (count : ℕ) → ((a b : ℕ) → leads (first ++ last) a b ≡ leads first a b)
    → (steps a b : ℕ) → walks (first ++ last) count steps a b ≡ walks first count steps a b
walks_front first last count same zero a b = refl
walks_front first last count same (suc steps) a b =
    ap (λ x. x || some (λ c. leads (first ++ last) a c && walks (first ++ last) count steps c b) (below count)) (same a b)
    ∙ ap (λ x. leads first a b || x) (some_same_below (λ c. leads (first ++ last) a c && walks (first ++ last) count steps c b) (λ c. leads first a c && walks first count steps c b) count
    (λ c low. ap (λ x. x && walks (first ++ last) count steps c b) (same a c) ∙ ap (λ x. leads first a c && x) (walks_front first last count same steps c b)))

-- a kind with options that fit
room_of : (kind : BlockKind) (capacity size : Option ℕ) (c s : ℕ) → kind ≡ Batch → capacity ≡ Some c → size ≡ Some s
    → holds_no_group kind capacity size ≡ false → s ≤ c
room_of kind capacity size c s ek ec es e =
    ltb-false c s (sym (ap (λ k. holds_no_group k capacity size) ek ∙ ap (λ x. holds_no_group Batch x size) ec ∙ ap (holds_no_group Batch (Some c)) es) ∙ e)

has_a_port : (kind : BlockKind) (ports : Option ℕ) → allows (input_rule kind) true ≡ true → 0 < ports_by_kind kind ports
has_a_port Join ports e = cc
has_a_port BatchedJoin ports e = cc
has_a_port _ ports e = omega arith

gives : (kind : BlockKind) → gives_nothing kind ≡ false → kind ≡ Action → ⊥
gives kind e is = never_both (gives_nothing kind) (ap gives_nothing is) e

has_output : (kind : BlockKind) → allows (output_rule kind) true ≡ true → kind ≡ Action → ⊥
has_output kind e is = never_both (allows (output_rule kind) true) e (ap (λ k. allows (output_rule k) true) is)

-- the parts of an end
abbrev target_of : LinkTarget → ℕ
target_of (at_port t p) = t
target_of Exit = 0

abbrev port_of : LinkTarget → ℕ
port_of (at_port t p) = p
port_of Exit = 0

abbrev source_of : LinkSource → ℕ
source_of (at_block s) = s
source_of (Input s) = s

abbrev is_exit : LinkTarget → Bool
is_exit (at_port t p) = false
is_exit Exit = true

abbrev is_input : LinkSource → Bool
is_input (at_block s) = false
is_input (Input s) = true

module _ {W : Type 0} (blocks : List (BlockDef W)) where
  -- what is to hold of each link
  abbrev Enters : Link → Type 0
  Enters link = (b port : ℕ) → link.target ≡ at_port b port → (b < length blocks) × (port < port_count (block_in blocks b))

  abbrev Leaves : Link → Type 0
  Leaves link = (b : ℕ) → link.source ≡ at_block b → (b < length blocks) × ((block_in blocks b).kind ≡ Action → ⊥)

  abbrev Carries : Link → Type 0
  Carries link = is_in 1 2147483647 link.max ≡ true

  abbrev Posted : Link → Type 0
  Posted link = (b : ℕ) → link.source ≡ Input b → (ends_at_port b 0 link.target ≡ true) × ((block_in blocks b).input ≡ true)

  abbrev Received : Link → Type 0
  Received link = (b : ℕ) → link.source ≡ at_block b → link.target ≡ Exit → (block_in blocks b).output ≡ true

  -- the link leads from this block into this port
  abbrev leads_into : ℕ → ℕ → ℕ → Link → Bool
  leads_into s t p link = begins_at s link.source && ends_at_port t p link.target

  port_there : (found : Option ℕ) (links : List LinkDef) (target port : ℕ) → is_none found ≡ false → lacks_port blocks links found (at_port target port) ≡ false
      → target ≡ unwrap_or found 0 → port < port_count (block_in blocks target)
  port_there None links target port known has is = cc
  port_there (Some b) links target port known has is = subst (λ (n : ℕ). port < port_count (block_in blocks n)) (sym is) (leb-false (port_count (block_in blocks b)) port has)

  gives_there : (found : Option ℕ) (links : List LinkDef) (source : ℕ) → is_none found ≡ false → lacks_output blocks links found ≡ false
      → source ≡ unwrap_or found 0 → (block_in blocks source).kind ≡ Action → ⊥
  gives_there None links source known has is = cc
  gives_there (Some b) links source known has is = subst (λ (n : ℕ). (block_in blocks n).kind ≡ Action → ⊥) (sym is) (gives (block_in blocks b).kind has)

module _ {W : Type 0} where
  keys_of : (block : BlockDef W) → options_fit block ≡ true → keys_fit block ≡ true
  keys_of block e = (and_parts (is_name block.name) (keys_fit block) (and_parts (is_name block.name && keys_fit block) (ranges_fit block) e).0).1

  -- the block's kind has what is there
  outer_keys : (block : BlockDef W) → options_fit block ≡ true → (allows (input_rule block.kind) block.input ≡ true) × (allows (output_rule block.kind) block.output ≡ true)
  outer_keys block e =
      first_two (allows (input_rule block.kind) block.input) (allows (output_rule block.kind) block.output)
      (allows (capacity_rule block.kind) (is_some block.capacity)) (allows (work_rule block.kind) (is_some block.work))
      (allows (lanes_rule block.kind) (is_some block.lanes)) (allows (size_rule block.kind) (is_some block.size))
      (allows (ports_rule block.kind) (is_some block.ports)) (allows (greedy_rule block.kind) (is_some block.greedy)) (keys_of block e)

  input_allowed : (block : BlockDef W) → options_fit block ≡ true → block.input ≡ true → allows (input_rule block.kind) true ≡ true
  input_allowed block e on = ap (allows (input_rule block.kind)) (sym on) ∙ (outer_keys block e).0

  output_allowed : (block : BlockDef W) → options_fit block ≡ true → block.output ≡ true → allows (output_rule block.kind) true ≡ true
  output_allowed block e on = ap (allows (output_rule block.kind)) (sym on) ∙ (outer_keys block e).1

is_port : (t p : ℕ) (target : LinkTarget) → ends_at_port t p target ≡ true → target ≡ at_port t p
is_port t p (at_port n q) e =
    let both = and_parts (n == t) (q == p) e in
    ap (λ k. at_port k q) (eqb-true n t both.0) ∙ ap (at_port t) (eqb-true q p both.1)
is_port t p Exit e = cc

-- no fault stands
module _ {W : Type 0} (blocks : List (BlockDef W)) (links : List LinkDef) where
  record NoneStands : Type 0 where
    limit : stands blocks links Limit ≡ false
    name : (b : ℕ) → b < length blocks → stands blocks links (DuplicateName b) ≡ false
    unknown : (l : ℕ) → l < length links → stands blocks links (UnknownBlock l) ≡ false
    port : (l : ℕ) → l < length links → stands blocks links (Port l) ≡ false
    output : (l : ℕ) → l < length links → stands blocks links (NoOutput l) ≡ false
    block : (b : ℕ) → b < length blocks → stands blocks links (BadOption (Block b)) ≡ false
    link : (l : ℕ) → l < length links → stands blocks links (BadOption (at_link l)) ≡ false
    size : (b : ℕ) → b < length blocks → stands blocks links (CapacityBelowSize b) ≡ false
    shared : (b : ℕ) → b < length blocks → stands blocks links (SharedSource b) ≡ false
    cycle : stands blocks links Cycle ≡ false

  none_stands : first_plan_fault blocks links ≡ None → NoneStands
  none_stands fine =
      let test = stands blocks links in
      let bs = below (length blocks) in
      let ls = below (length links) in
      let bad_block = λ (b : ℕ). BadOption (Block b) in
      let bad_link = λ (l : ℕ). BadOption (at_link l) in
      let names = (Limit ∷ []) ++ map DuplicateName bs in
      let unknown = names ++ map UnknownBlock ls in
      let ports = unknown ++ map Port ls in
      let outputs = ports ++ map NoOutput ls in
      let bad_blocks = outputs ++ map bad_block bs in
      let bad_links = bad_blocks ++ map bad_link ls in
      let sizes = bad_links ++ map CapacityBelowSize bs in
      let shared = sizes ++ map SharedSource bs in
      let to_shared = front_of test shared (Cycle ∷ []) fine in
      let to_sizes = front_of test sizes (map SharedSource bs) to_shared in
      let to_links = front_of test bad_links (map CapacityBelowSize bs) to_sizes in
      let to_blocks = front_of test bad_blocks (map bad_link ls) to_links in
      let to_outputs = front_of test outputs (map bad_block bs) to_blocks in
      let to_ports = front_of test ports (map NoOutput ls) to_outputs in
      let to_unknown = front_of test unknown (map Port ls) to_ports in
      let to_names = front_of test names (map UnknownBlock ls) to_unknown in
      record {
        limit = stands_first (test Limit) Limit (front_of test (Limit ∷ []) (map DuplicateName bs) to_names);
        name = λ b low. none_at test DuplicateName (length blocks) b low (back_of test (Limit ∷ []) (map DuplicateName bs) to_names);
        unknown = λ l low. none_at test UnknownBlock (length links) l low (back_of test names (map UnknownBlock ls) to_unknown);
        port = λ l low. none_at test Port (length links) l low (back_of test unknown (map Port ls) to_ports);
        output = λ l low. none_at test NoOutput (length links) l low (back_of test ports (map NoOutput ls) to_outputs);
        block = λ b low. none_at test bad_block (length blocks) b low (back_of test outputs (map bad_block bs) to_blocks);
        link = λ l low. none_at test bad_link (length links) l low (back_of test bad_blocks (map bad_link ls) to_links);
        size = λ b low. none_at test CapacityBelowSize (length blocks) b low (back_of test bad_links (map CapacityBelowSize bs) to_sizes);
        shared = λ b low. none_at test SharedSource (length blocks) b low (back_of test sizes (map SharedSource bs) to_shared);
        cycle = stands_first (test Cycle) Cycle (back_of test shared (Cycle ∷ []) fine);
      }

-- a link of the draft at which no fault of its names, and none of its port, stands
module _ {W : Type 0} (blocks : List (BlockDef W)) (links : List LinkDef) (l : ℕ) (link : LinkDef) (low : l < length links) (is : link ≡ get_or links l link) where
  named_at : link_in (named_links blocks links) l ≡ named_link blocks link
  named_at = named_link_at blocks links l link low ∙ ap (named_link blocks) (sym is)

  -- both its names are known
  pub known_at : stands blocks links (UnknownBlock l) ≡ false
      → (is_none (block_named blocks link.from) ≡ false) × (is_none (block_named blocks link.to) ≡ false)
  known_at none =
      let from : get_or (map (λ x. block_named blocks x.from) links) l (Some 0) ≡ block_named blocks link.from =
      get_or-map (λ x. block_named blocks x.from) links l link (Some 0) low ∙ ap (λ x. block_named blocks x.from) (sym is) in
      let to : get_or (map (λ x. block_named blocks x.to) links) l (Some 0) ≡ block_named blocks link.to =
      get_or-map (λ x. block_named blocks x.to) links l link (Some 0) low ∙ ap (λ x. block_named blocks x.to) (sym is) in
      let both = or_parts (is_none (get_or (sources blocks links) l (Some 0))) (is_none (get_or (targets blocks links) l (Some 0))) none in
      (ap is_none (sym from) ∙ both.0, ap is_none (sym to) ∙ both.1)

  -- its target is there, and has its port
  pub target_there : stands blocks links (UnknownBlock l) ≡ false → unwrap_or (block_named blocks link.to) 0 < length blocks
  target_there unknown = named_low blocks link.to (known_at unknown).1

  pub port_has : stands blocks links (UnknownBlock l) ≡ false → stands blocks links (Port l) ≡ false
      → unwrap_or link.port 0 < port_count (block_in blocks (unwrap_or (block_named blocks link.to) 0))
  port_has unknown port =
      let found = block_named blocks link.to in
      let place : get_or (targets blocks links) l None ≡ found =
      get_or-map (λ x. block_named blocks x.to) links l link None low ∙ ap (λ x. block_named blocks x.to) (sym is) in
      let has : lacks_port blocks links found (named_link blocks link).target ≡ false =
      ap (λ x. lacks_port blocks links x (named_link blocks link).target) (sym place)
      ∙ ap (λ x. lacks_port blocks links (get_or (targets blocks links) l None) x.target) (sym named_at) ∙ port in
      port_there blocks found links (unwrap_or found 0) (unwrap_or link.port 0) (known_at unknown).1 has refl

module _ {W : Type 0} (blocks : List (BlockDef W)) (links : List LinkDef) (none : NoneStands blocks links) where
  options : (b : ℕ) → b < length blocks → options_fit (block_in blocks b) ≡ true
  options b low = not-false (options_fit (block_in blocks b)) (none.block b low)

  names_differ : (a b : ℕ) → a < b → b < length blocks → (block_in blocks a).name ≡ (block_in blocks b).name → ⊥
  names_differ a b first low same =
      let name = (block_in blocks b).name in
      let nowhere_before : position (λ block. bytes_eq block.name name) (take b blocks) ≡ None = nowhere _ (none.name b low) in
      let count : length (take b blocks) ≡ b = length-take-le b blocks (omega arith) in
      let fails = none_in_list (λ block. bytes_eq block.name name) (take b blocks) a no_block nowhere_before (omega arith) in
      let at : get_or (take b blocks) a no_block ≡ block_in blocks a = get_or-take b blocks a no_block first in
      never_both (bytes_eq (block_in blocks a).name name) ((bytes_eq-Decides (block_in blocks a).name name).1 same) (ap (λ x. bytes_eq x.name name) (sym at) ∙ fails)

  known : (l : ℕ) (link : LinkDef) → l < length links → link ≡ get_or links l link
      → (is_none (block_named blocks link.from) ≡ false) × (is_none (block_named blocks link.to) ≡ false)
  known l link low is = known_at blocks links l link low is (none.unknown l low)

  enters_named : (l : ℕ) (link : LinkDef) → l < length links → link ≡ get_or links l link → Enters blocks (named_link blocks link)
  enters_named l link low is = λ b port e.
      let here : unwrap_or (block_named blocks link.to) 0 ≡ b = ap target_of e in
      let there : unwrap_or link.port 0 ≡ port = ap port_of e in
      let few = target_there blocks links l link low is (none.unknown l low) in
      let some_port = port_has blocks links l link low is (none.unknown l low) (none.port l low) in (
        subst (λ (n : ℕ). n < length blocks) here few,
        subst (λ (n : ℕ). n < port_count (block_in blocks b)) there (subst (λ (n : ℕ). unwrap_or link.port 0 < port_count (block_in blocks n)) here some_port),
      )

  leaves_named : (l : ℕ) (link : LinkDef) → l < length links → link ≡ get_or links l link → Leaves blocks (named_link blocks link)
  leaves_named l link low is = λ b e.
      let found = block_named blocks link.from in
      let place : get_or (sources blocks links) l None ≡ found =
      get_or-map (λ x. block_named blocks x.from) links l link None low ∙ ap (λ x. block_named blocks x.from) (sym is) in
      let here : unwrap_or found 0 ≡ b = ap source_of e in (
        subst (λ (n : ℕ). n < length blocks) here (named_low blocks link.from (known l link low is).0),
        gives_there blocks found links b (known l link low is).0 (ap (lacks_output blocks links) (sym place) ∙ none.output l low) (sym here),
      )

  carries_named : (l : ℕ) (link : LinkDef) → l < length links → link ≡ get_or links l link → Carries blocks (named_link blocks link)
  carries_named l link low is =
      ap (λ x. is_in 1 2147483647 x.max) (sym (named_at blocks links l link low is)) ∙ not-false _ (none.link l low)

  enters_input : (b : ℕ) → b < length blocks → (block_in blocks b).input ≡ true → Enters blocks (input_link (0 + b))
  enters_input b low on = λ t port e.
      let zeroth : b ≡ 0 + b = omega arith in
      let here : b ≡ t = zeroth ∙ ap target_of e in
      let first : 0 ≡ port = ap port_of e in
      let block = block_in blocks b in
      let there : 0 < port_count block = has_a_port block.kind block.ports (input_allowed block (options b low) on) in (
        subst (λ (n : ℕ). n < length blocks) here low,
        subst (λ (n : ℕ). n < port_count (block_in blocks t)) first (subst (λ (n : ℕ). 0 < port_count (block_in blocks n)) here there),
      )

  leaves_exit : (b : ℕ) → b < length blocks → (block_in blocks b).output ≡ true → Leaves blocks (exit_link (0 + b))
  leaves_exit b low on = λ s e.
      let zeroth : b ≡ 0 + b = omega arith in
      let here : b ≡ s = zeroth ∙ ap source_of e in (
        subst (λ (n : ℕ). n < length blocks) here low,
        subst (λ (n : ℕ). (block_in blocks n).kind ≡ Action → ⊥) here (has_output (block_in blocks b).kind (output_allowed (block_in blocks b) (options b low) on)),
      )

  -- the links of the draft, of the inputs and of the exits
  each_planned : (P : Link → Type 0) → ((l : ℕ) (link : LinkDef) → l < length links → link ≡ get_or links l link → P (named_link blocks link))
      → ((b : ℕ) → b < length blocks → (block_in blocks b).input ≡ true → P (input_link (0 + b)))
      → ((b : ℕ) → b < length blocks → (block_in blocks b).output ≡ true → P (exit_link (0 + b))) → Each P (planned_links blocks links)
  each_planned P named input exit =
      each_append P (named_links blocks links) (outer_links blocks) (each_named blocks links P named)
      (each_append P (input_links 0 blocks) (exit_links 0 blocks) (each_input P 0 blocks input) (each_exit P 0 blocks exit))

  enters : Each (Enters blocks) (planned_links blocks links)
  enters = each_planned (Enters blocks) enters_named enters_input (λ b low on t port e. never_both true refl (ap is_exit e))

  leaves : Each (Leaves blocks) (planned_links blocks links)
  leaves = each_planned (Leaves blocks) leaves_named (λ b low on s e. never_both true refl (ap is_input e)) leaves_exit

  posted : Each (Posted blocks) (planned_links blocks links)
  posted = each_planned (Posted blocks) (λ l link low is b e. never_both true refl (sym (ap is_input e)))
      (λ b low on t e.
      let zeroth : b ≡ 0 + b = omega arith in
      let here : b ≡ t = zeroth ∙ ap source_of e in
      let same : 0 + b ≡ t = omega arith in
      (and_from ((0 + b) == t) (0 == 0) (eq-eqb (0 + b) t same) refl, subst (λ (n : ℕ). (block_in blocks n).input ≡ true) here on))
      (λ b low on t e. never_both true refl (sym (ap is_input e)))

  received : Each (Received blocks) (planned_links blocks links)
  received = each_planned (Received blocks) (λ l link low is b e out. never_both true refl (sym (ap is_exit out)))
      (λ b low on t e out. never_both true refl (sym (ap is_exit out)))
      (λ b low on t e out.
      let zeroth : b ≡ 0 + b = omega arith in
      subst (λ (n : ℕ). (block_in blocks n).output ≡ true) (zeroth ∙ ap source_of e) on)

  -- a link that leads from a block into a port of a block stands in the draft
  in_draft : (s t p l : ℕ) → l < length (planned_links blocks links)
      → (link_in (planned_links blocks links) l).source ≡ at_block s → (link_in (planned_links blocks links) l).target ≡ at_port t p
      → (l < length (named_links blocks links)) × (leads_into blocks s t p (link_in (named_links blocks links) l) ≡ true)
  in_draft s t p l small es et =
      in_front (leads_into blocks s t p) (named_links blocks links) (outer_links blocks) l
      (each_append (Fails (leads_into blocks s t p)) (input_links 0 blocks) (exit_links 0 blocks)
      (each_input (Fails (leads_into blocks s t p)) 0 blocks (λ b low on. refl)) (each_exit (Fails (leads_into blocks s t p)) 0 blocks (λ b low on. and_right ((0 + b) == s) false refl)))
      small
      (and_from (begins_at s (link_in (planned_links blocks links) l).source) (ends_at_port t p (link_in (planned_links blocks links) l).target)
      (ap (begins_at s) es ∙ eq-eqb s s refl) (ap (ends_at_port t p) et ∙ and_from (t == t) (p == p) (eq-eqb t t refl) (eq-eqb p p refl)))

  one_port : (k l s join p q : ℕ) → k < length (planned_links blocks links) → l < length (planned_links blocks links) → is_reserving (block_in blocks join) ≡ true
      → (link_in (planned_links blocks links) k).source ≡ at_block s → (link_in (planned_links blocks links) k).target ≡ at_port join p
      → (link_in (planned_links blocks links) l).source ≡ at_block s → (link_in (planned_links blocks links) l).target ≡ at_port join q → p ≡ q
  one_port k l s join p q small smaller reserves sk tk sl tl =
      let named = named_links blocks links in
      let one = link_in named k in
      let two = link_in named l in
      let in_k = in_draft s join p k small sk tk in
      let in_l = in_draft s join q l smaller sl tl in
      let at_k = and_parts (begins_at s one.source) (ends_at_port join p one.target) in_k.1 in
      let at_l = and_parts (begins_at s two.source) (ends_at_port join q two.target) in_l.1 in
      let source_low : s < length blocks = (leaves k small s sk).0 in
      let join_low : join < length blocks = (enters k small join p tk).0 in
      let test = λ (source : ℕ) (link : Link). begins_at source link.source && shares_with source join link.target named in
      let other = λ (link : Link). begins_at s link.source && ends_at join link.target && not (ends_at_port join p link.target) in
      let no_source : some (λ source. some (test source) named) (below (length blocks)) ≡ false =
      not_both (is_reserving (block_in blocks join)) _ (none.shared join join_low) reserves in
      let from_here : some (test s) named ≡ false = none_below_of (λ source. some (test source) named) (length blocks) s no_source source_low in
      let not_shared : shares_with s join one.target named ≡ false = not_both (begins_at s one.source) _ (none_of_some (test s) named k no_link from_here in_k.0) at_k.0 in
      let not_into : shares_with s join (at_port join p) named ≡ false = ap (λ x. shares_with s join x named) (sym (is_port join p one.target at_k.1)) ∙ not_shared in
      let no_other : some other named ≡ false = not_both (join == join) (some other named) not_into (eq-eqb join join refl) in
      let at_two : (begins_at s two.source && ends_at join two.target && not (ends_at_port join p two.target)) ≡ false = none_of_some other named l no_link no_other in_l.0 in
      let port_two : two.target ≡ at_port join q = is_port join q two.target at_l.1 in
      let into_join : ends_at join two.target ≡ true = ap (ends_at join) port_two ∙ eq-eqb join join refl in
      let same_port : not (ends_at_port join p two.target) ≡ false =
      not_both (begins_at s two.source && ends_at join two.target) (not (ends_at_port join p two.target)) at_two
      (and_from (begins_at s two.source) (ends_at join two.target) at_l.0 into_join) in
      let both = and_parts (join == join) (q == p) (ap (ends_at_port join p) (sym port_two) ∙ not-false (ends_at_port join p two.target) same_port) in
      sym (eqb-true q p both.1)

  same_leads : (a b : ℕ) → leads (planned_links blocks links) a b ≡ leads (named_links blocks links) a b
  same_leads a b =
      let test = λ (link : Link). begins_at a link.source && ends_at b link.target in
      some_front test (named_links blocks links) (outer_links blocks)
      (each_append (Fails test) (input_links 0 blocks) (exit_links 0 blocks)
      (each_input (Fails test) 0 blocks (λ k low on. refl)) (each_exit (Fails test) 0 blocks (λ k low on. and_right ((0 + k) == a) false refl)))

  no_cycle : (steps b : ℕ) → b < length blocks → walks (planned_links blocks links) (length blocks) steps b b ≡ false
  no_cycle steps b low =
      walks_front (named_links blocks links) (outer_links blocks) (length blocks) same_leads steps b b
      ∙ never_reached (named_links blocks links) (length blocks) b steps b low
      (none_below_of (λ k. walks (named_links blocks links) (length blocks) (length blocks) k k) (length blocks) b none.cycle low)

  well_formed : IsWellFormed blocks (planned_links blocks links)
  well_formed =
      let limits = or_parts (ltb 256 (length blocks)) (ltb 1024 (length links)) none.limit in
      let few : length links ≤ 1024 = ltb-false 1024 (length links) limits.1 in
      let between : length (between_of blocks (planned_links blocks links)) ≡ length links = ap length (between_named blocks links) ∙ length-named_links blocks links in
      record {
        few_blocks = ltb-false 256 (length blocks) limits.0;
        few_links = omega arith;
        names_differ = names_differ;
        options = options;
        room = λ b capacity size low ek ec es. room_of (block_in blocks b).kind (block_in blocks b).capacity (block_in blocks b).size capacity size ek ec es (none.size b low);
        enters = λ l b port small e. enters l small b port e;
        leaves = λ l b small e. leaves l small b e;
        posted = λ l b small e. posted l small b e;
        received = λ l b small e out. received l small b e out;
        max = each_planned (Carries blocks) carries_named (λ b low on. refl) (λ b low on. refl);
        one_port = one_port;
        no_cycle = no_cycle;
      }

module _ {W : Type 0} (blocks : List (BlockDef W)) (links : List LinkDef) where
  -- a draft without a fault by the format has a plan that is well-formed
  pub well_formed_along : (planned : List Link) → planned ≡ planned_links blocks links → first_plan_fault blocks links ≡ None → IsWellFormed blocks planned
  well_formed_along planned ep fine =
      subst (λ (all : List Link). IsWellFormed blocks all) (sym ep) (well_formed blocks links (none_stands blocks links fine))
