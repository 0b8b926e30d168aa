-- Where each fault of a draft stands first, by going through its blocks or links.
use Rattle.std.proofs.Common.{◌≡◌, ℕ, zero, suc, ◌+◌, ◌<◌, Bool, true, false, cond, not, ◌||◌, List, [], ◌∷◌, ◌++◌, length, map, Option, Some, None, get_or, take, is_none, is_some, refl, ap, sym, ◌∙◌, subst, arith}
use Rattle.std.specs.List.{find, position}
use Rattle.std.specs.Option.{option_or, option_map}
use Rattle.std.proofs.lemmas.List.{get_or-map, get_or_default}
use Rattle.std.proofs.lemmas.List.Folds.{find-append}
use Rattle.flow_link.specs.declared.draft.BlockDef.{BlockDef}
use Rattle.flow_link.specs.declared.draft.LinkDef.{LinkDef}
use Rattle.flow_link.specs.declared.plan.Link.{Link}
use Rattle.flow_link.specs.declared.plan.PlanFault.{PlanFault}
use Rattle.flow_link.specs.declared.plan.PlanFault.TheVariants.{Limit, DuplicateName, UnknownBlock, Port, NoOutput, BadOption, CapacityBelowSize, SharedSource, Cycle}
use Rattle.flow_link.specs.declared.plan.Place.TheVariants.{Block, Link as at_link}
use Rattle.flow_link.specs.Lists.{numbers_from, below}
use Rattle.flow_link.specs.Plan.{block_named, block_in, link_in, named_link, named_links, planned_links}
use Rattle.flow_link.specs.PlanFaults.{lacks_port, lacks_output, is_in, holds_no_group, shares_among, stands, first_plan_fault}
use Rattle.flow_link.specs.FaultOrder.{first_at, name_faults, end_faults, option_faults, is_bad_block, shared_first, fault_of_ways}
use Rattle.flow_link.specs.Layout.{IsLaidOut}
use Rattle.flow_link.proofs.LinksLaidOut.{laid_out_of}
use Rattle.flow_link.proofs.FirstInOrder.{position_is_first}

module _ {W : Type 0} (blocks : List (BlockDef W)) where
  pub named_link_at : (links : List LinkDef) (l : ℕ) (d : LinkDef) → l < length links
      → link_in (named_links blocks links) l ≡ named_link blocks (get_or links l d)
  named_link_at [] l d low = absurd (omega arith)
  named_link_at (link ∷ links) zero d low = refl
  named_link_at (link ∷ links) (suc l) d low = named_link_at links l d (omega arith)

  pub length-named_links : (links : List LinkDef) → length (named_links blocks links) ≡ length links
  length-named_links [] = refl
  length-named_links (link ∷ links) = ap suc (length-named_links links)

  pub unknown_by_position : (links : List LinkDef)
      → first_at blocks links UnknownBlock (length links)
      ≡ position (λ link. is_none (block_named blocks link.from) || is_none (block_named blocks link.to)) links
  unknown_by_position links = position_is_first (λ link. is_none (block_named blocks link.from) || is_none (block_named blocks link.to))
      (λ l. stands blocks links (UnknownBlock l)) links
      (λ l d low. rw (get_or-map (λ link. block_named blocks link.from) links l d (Some 0) low, get_or-map (λ link. block_named blocks link.to) links l d (Some 0) low) refl)

  pub port_by_position : (links : List LinkDef)
      → first_at blocks links Port (length links)
      ≡ position (λ link. lacks_port blocks [] (block_named blocks link.to) (named_link blocks link).target) links
  port_by_position links = position_is_first (λ link. lacks_port blocks [] (block_named blocks link.to) (named_link blocks link).target)
      (λ l. stands blocks links (Port l)) links
      (λ l d low. rw (get_or-map (λ link. block_named blocks link.to) links l d None low, named_link_at links l d low) refl)

  pub output_by_position : (links : List LinkDef)
      → first_at blocks links NoOutput (length links)
      ≡ position (λ link. lacks_output blocks [] (block_named blocks link.from)) links
  output_by_position links = position_is_first (λ link. lacks_output blocks [] (block_named blocks link.from))
      (λ l. stands blocks links (NoOutput l)) links
      (λ l d low. rw (get_or-map (λ link. block_named blocks link.from) links l d None low) refl)

  pub bad_block_by_position : (links : List LinkDef)
      → first_at blocks links (λ b. BadOption (Block b)) (length blocks) ≡ position is_bad_block blocks
  unfolding is_bad_block
  bad_block_by_position links = position_is_first is_bad_block
      (λ b. stands blocks links (BadOption (Block b))) blocks
      (λ b d low. ap is_bad_block (get_or_default blocks b _ d low))

  pub bad_link_by_position : (links : List LinkDef)
      → first_at blocks links (λ l. BadOption (at_link l)) (length links) ≡ position (λ link. not (is_in 1 2147483647 link.max)) links
  bad_link_by_position links = position_is_first (λ link. not (is_in 1 2147483647 link.max))
      (λ l. stands blocks links (BadOption (at_link l))) links
      (λ l d low. ap (λ x. not (is_in 1 2147483647 x.max)) (named_link_at links l d low))

  pub small_batch_by_position : (links : List LinkDef)
      → first_at blocks links CapacityBelowSize (length blocks) ≡ position (λ block. holds_no_group block.kind block.capacity block.size) blocks
  small_batch_by_position links = position_is_first (λ block. holds_no_group block.kind block.capacity block.size)
      (λ b. stands blocks links (CapacityBelowSize b)) blocks
      (λ b d low. ap (λ block. holds_no_group block.kind block.capacity block.size) (get_or_default blocks b _ d low))

  -- a block's name is looked for among those before it
  pub repeats_at : (b : ℕ) (block : BlockDef W) (name : List ℕ) (found : Option ℕ) → b < length blocks
      → block ≡ get_or blocks b block → name ≡ block.name → found ≡ block_named (take b blocks) name
      → is_some (block_named (take b blocks) (block_in blocks b).name) ≡ is_some found
  repeats_at b block name found low is named finds =
      let same : (block_in blocks b).name ≡ name = ap (λ x. x.name) (get_or_default blocks b _ block low ∙ sym is) ∙ sym named in
      rw same (ap is_some (sym finds))

-- the first that passes of the images of a list
pub find_of_images : {A B : Type 0} (test : B → Bool) (image : A → B) (xs : List A)
    → find test (map image xs) ≡ option_map image (find (λ x. test (image x)) xs)
find_of_images test image [] = refl
find_of_images {A} {B} test image (x ∷ xs) =
    let rest = find_of_images test image xs in
    let P : Bool → Type 0 = λ b. cond b (Some (image x)) (find test (map image xs)) ≡ option_map image (cond b (Some x) (find (λ y. test (image y)) xs)) in
    elim (test (image x)) as P [ true ↦ refl | false ↦ rest ]

pub option_or_assoc : {A : Type 0} (x y z : Option A) → option_or (option_or x y) z ≡ option_or x (option_or y z)
option_or_assoc None y z = refl
option_or_assoc (Some a) y z = refl

-- the faults of two kinds, one kind after the other
pub first_of_two : (test : PlanFault → Bool) (one two : ℕ → PlanFault) (m n : ℕ) (x y : Option ℕ)
    → find (λ k. test (one k)) (below m) ≡ x → find (λ k. test (two k)) (below n) ≡ y
    → find test (map one (below m) ++ map two (below n)) ≡ option_or (option_map one x) (option_map two y)
first_of_two test one two m n x y ex ey =
    rw (find-append test (map one (below m)) (map two (below n)), find_of_images test one (below m), find_of_images test two (below n), ex, ey) refl

-- groups of faults, one after another
pub first_of_groups : {A : Type 0} (test : A → Bool) (a p n b l c s y : List A)
    → find test (a ++ p ++ n ++ b ++ l ++ c ++ s ++ y)
    ≡ option_or (find test a) (option_or (find test (p ++ n)) (option_or (find test (b ++ l)) (option_or (find test c) (option_or (find test s) (find test y)))))
first_of_groups test a p n b l c s y = simp (find-append, option_or_assoc)

cond_of : {A : Type 0} (b c : Bool) (x y z : A) → b ≡ c → y ≡ z → cond b x y ≡ cond c x z
cond_of b c x y z e f = cc

fails_after : (test : ℕ → Bool) (first count k : ℕ) → k < suc count → test first ≡ false
    → ((j : ℕ) → j < count → test (suc first + j) ≡ false) → test (first + k) ≡ false
fails_after test first count zero low here rest =
    let e : first + 0 ≡ first = omega arith in
    ap test e ∙ here
fails_after test first count (suc k) low here rest =
    let e : first + suc k ≡ suc first + k = omega arith in
    ap test e ∙ rest k (omega arith)

-- no number below passes where none is found
pub fails_from : (test : ℕ → Bool) (first count k : ℕ) → k < count
    → find test (numbers_from first count) ≡ None → test (first + k) ≡ false
fails_from test first zero k low e = absurd (omega arith)
fails_from test first (suc count) k low e =
    let go : (b : Bool) → test first ≡ b → cond b (Some first) (find test (numbers_from (suc first) count)) ≡ None → test (first + k) ≡ false =
    λ b. elim b as (λ v. test first ≡ v → cond v (Some first) (find test (numbers_from (suc first) count)) ≡ None → test (first + k) ≡ false)
    [ true ↦ λ here wrong. cc | false ↦ λ here rest. fails_after test first count k low here (λ j small. fails_from test (suc first) count j small rest) ] in
    go (test first) refl e

-- the first fault of each group, from the first place of each fault
module _ {W : Type 0} (blocks : List (BlockDef W)) (links : List LinkDef) where
  pub first_name_fault : (limit : Bool) (repeated unknown : Option ℕ)
      → stands blocks links Limit ≡ limit
      → first_at blocks [] DuplicateName (length blocks) ≡ repeated
      → position (λ link. is_none (block_named blocks link.from) || is_none (block_named blocks link.to)) links ≡ unknown
      → find (stands blocks links) (name_faults blocks links)
      ≡ cond limit (Some Limit) (option_or (option_map DuplicateName repeated) (option_map UnknownBlock unknown))
  first_name_fault limit repeated unknown el er eu =
      cond_of (stands blocks links Limit) limit (Some Limit) _ _ el
      (first_of_two (stands blocks links) DuplicateName UnknownBlock (length blocks) (length links) repeated unknown er
      (unknown_by_position blocks links ∙ eu))

  pub first_end_fault : (port output : Option ℕ)
      → position (λ link. lacks_port blocks [] (block_named blocks link.to) (named_link blocks link).target) links ≡ port
      → position (λ link. lacks_output blocks [] (block_named blocks link.from)) links ≡ output
      → find (stands blocks links) (end_faults blocks links) ≡ option_or (option_map Port port) (option_map NoOutput output)
  first_end_fault port output ep eo =
      first_of_two (stands blocks links) Port NoOutput (length links) (length links) port output
      (port_by_position blocks links ∙ ep) (output_by_position blocks links ∙ eo)

  pub first_option_fault : (block link : Option ℕ)
      → position is_bad_block blocks ≡ block
      → position (λ x. not (is_in 1 2147483647 x.max)) links ≡ link
      → find (stands blocks links) (option_faults blocks links)
      ≡ option_or (option_map (λ b. BadOption (Block b)) block) (option_map (λ l. BadOption (at_link l)) link)
  first_option_fault block link eb el =
      first_of_two (stands blocks links) (λ b. BadOption (Block b)) (λ l. BadOption (at_link l)) (length blocks) (length links) block link
      (bad_block_by_position blocks links ∙ eb) (bad_link_by_position blocks links ∙ el)

pub none_front : {A : Type 0} (x y : Option A) → option_or x y ≡ None → x ≡ None
none_front None y e = refl
none_front (Some a) y e = cc

pub none_back : {A : Type 0} (x y : Option A) → option_or x y ≡ None → y ≡ None
none_back None y e = e
none_back (Some a) y e = cc

pub none_behind : {A : Type 0} (b : Bool) (x : A) (o : Option A) → cond b (Some x) o ≡ None → o ≡ None
none_behind true x o e = cc
none_behind false x o e = e

pub none_image : {A B : Type 0} (image : A → B) (x : Option A) → option_map image x ≡ None → x ≡ None
none_image image None e = refl
none_image image (Some a) e = cc

-- the last two faults are looked for one after the other
ways_first : (shared : Option ℕ) (cycle : Bool)
    → option_or (option_map SharedSource shared) (cond cycle (Some Cycle) None) ≡ shared_first shared cycle
ways_first (Some b) cycle = refl
ways_first None cycle = refl

module _ {W : Type 0} (blocks : List (BlockDef W)) (links : List LinkDef) where
  -- the first batch that has no room for a group
  first_small_batch : (small : Option ℕ) → position (λ block. holds_no_group block.kind block.capacity block.size) blocks ≡ small
      → find (stands blocks links) (map CapacityBelowSize (below (length blocks))) ≡ option_map CapacityBelowSize small
  first_small_batch small es =
      find_of_images (stands blocks links) CapacityBelowSize (below (length blocks))
      ∙ ap (option_map CapacityBelowSize) (small_batch_by_position blocks links ∙ es)

  -- how links lead: a join whose source is shared, or a cycle
  first_way : find (stands blocks links) (map SharedSource (below (length blocks)))
      ≡ option_map SharedSource (find (shares_among blocks (named_links blocks links)) (below (length blocks)))
  first_way = find_of_images (stands blocks links) SharedSource (below (length blocks))

  -- the first fault, from the first of each group
  pub first_fault_of : (names ends options : Option PlanFault) (small : Option ℕ) (ways : Option PlanFault)
      → find (stands blocks links) (name_faults blocks links) ≡ names
      → find (stands blocks links) (end_faults blocks links) ≡ ends
      → find (stands blocks links) (option_faults blocks links) ≡ options
      → position (λ block. holds_no_group block.kind block.capacity block.size) blocks ≡ small
      → fault_of_ways blocks (named_links blocks links) ≡ ways
      → first_plan_fault blocks links ≡ option_or names (option_or ends (option_or options (option_or (option_map CapacityBelowSize small) ways)))
  first_fault_of names ends options small ways en ee eo es ew =
      let test = stands blocks links in
      let b = below (length blocks) in
      let l = below (length links) in
      let c = find test (map CapacityBelowSize b) in
      let s = find test (map SharedSource b) in
      let y = find test (Cycle ∷ []) in
      let found = find (shares_among blocks (named_links blocks links)) b in
      let groups : first_plan_fault blocks links ≡ option_or (find test (name_faults blocks links)) (option_or (find test (end_faults blocks links)) (option_or (find test (option_faults blocks links)) (option_or c (option_or s y)))) =
      first_of_groups test (name_faults blocks links) (map Port l) (map NoOutput l) (map (λ k. BadOption (Block k)) b) (map (λ k. BadOption (at_link k)) l)
      (map CapacityBelowSize b) (map SharedSource b) (Cycle ∷ []) in
      let last : option_or s y ≡ ways =
      ap (λ v. option_or v y) first_way ∙ ways_first found (test Cycle) ∙ ew in
      groups
      ∙ ap (λ v. option_or v (option_or (find test (end_faults blocks links)) (option_or (find test (option_faults blocks links)) (option_or c (option_or s y))))) en
      ∙ ap (λ v. option_or names (option_or v (option_or (find test (option_faults blocks links)) (option_or c (option_or s y))))) ee
      ∙ ap (λ v. option_or names (option_or ends (option_or v (option_or c (option_or s y))))) eo
      ∙ ap (λ v. option_or names (option_or ends (option_or options (option_or v (option_or s y))))) (first_small_batch small es)
      ∙ ap (λ v. option_or names (option_or ends (option_or options (option_or (option_map CapacityBelowSize small) v)))) last

  -- how links lead is told of the links that the draft's links become
  pub ways_told : (named : List Link) (found : Option PlanFault) → named ≡ named_links blocks links → found ≡ fault_of_ways blocks named
      → fault_of_ways blocks (named_links blocks links) ≡ found
  ways_told named found en ef = ap (fault_of_ways blocks) (sym en) ∙ sym ef

  -- where no fault is first, all names are known
  pub known_where_none : first_plan_fault blocks links ≡ None
      → position (λ link. is_none (block_named blocks link.from) || is_none (block_named blocks link.to)) links ≡ None
  known_where_none e =
      let test = stands blocks links in
      let names : find test (name_faults blocks links) ≡ None =
      none_front _ _ (sym (first_fault_of _ _ _ _ _ refl refl refl refl refl) ∙ e) in
      let rest : find test (map DuplicateName (below (length blocks)) ++ map UnknownBlock (below (length links))) ≡ None =
      none_behind (test Limit) Limit (find test (map DuplicateName (below (length blocks)) ++ map UnknownBlock (below (length links)))) names in
      let unknown : find test (map UnknownBlock (below (length links))) ≡ None =
      none_back _ _ (sym (find-append test (map DuplicateName (below (length blocks))) (map UnknownBlock (below (length links)))) ∙ rest) in
      sym (unknown_by_position blocks links)
      ∙ none_image UnknownBlock _ (sym (find_of_images test UnknownBlock (below (length links))) ∙ unknown)

  -- the first fault of the same blocks and links
  pub first_fault_along : (bs : List (BlockDef W)) (ls : List LinkDef) → bs ≡ blocks → ls ≡ links
      → first_plan_fault bs ls ≡ first_plan_fault blocks links
  first_fault_along bs ls eb el = ap (λ x. first_plan_fault x ls) eb ∙ ap (λ x. first_plan_fault blocks x) el

  -- the links of a plan of the same blocks and links
  pub planned_along : (bs : List (BlockDef W)) (ls : List LinkDef) (planned : List Link) → bs ≡ blocks → ls ≡ links
      → planned ≡ planned_links bs ls → planned ≡ planned_links blocks links
  planned_along bs ls planned eb el ep = ep ∙ ap (λ x. planned_links x ls) eb ∙ ap (λ x. planned_links blocks x) el

  -- a plan is laid out where its draft has no fault
  pub laid_out_where_none : (planned : List Link) → planned ≡ planned_links blocks links → first_plan_fault blocks links ≡ None
      → IsLaidOut blocks planned
  laid_out_where_none planned ep e = subst (λ (all : List Link). IsLaidOut blocks all) (sym ep) (laid_out_of blocks links (known_where_none e))
