-- What the calls that led to a block that copies tell of its element, and of what each link was given.
use Rattle.std.proofs.Common.{◌≡◌, ℕ, ◌+◌, ◌<◌, ◌≤◌, true, false, List, [], ◌∷◌, ◌++◌, length, map, refl, ap, sym, subst, ◌∙◌, arith, append-nil, append_assoc}
use Rattle.std.proofs.lemmas.List.{length-append, length-map}
use Rattle.flow_value.specs.declared.value.Value.{Value}
use Rattle.flow_link.specs.declared.plan.LinkSource.TheVariants.{Block}
use Rattle.flow_link.specs.declared.trace.Mark.{Mark}
use Rattle.flow_link.specs.Layout.{Layout}
use Rattle.flow_link.specs.Plan.{link_in, is_write_once}
use Rattle.flow_link.specs.Trace.{gave_over}
use Rattle.flow_outlet.specs.History.{listed}
use Rattle.flow_spread.specs.declared.end.CopyEnd.{CopyEnd}
use Rattle.flow_spread.specs.Copied.{Call, Course, after, after_all, put_by, put_in, given_in, LinkHas}
use Rattle.flow_spread.specs.Law.{SpreadLaw}
use Rattle.flow_spread.specs.Spread.{SpreadState, link_at}
use Rattle.flow_spread.proofs.LinksCopied.{each_link_has}
use Rattle.flow_block.specs.Block.{BlockState}
use Rattle.flow_block_law.specs.Copier.{Copier, copier_start}
use Rattle.flow_block.specs.Planned.{is_out_of, links_from, rule_of, out_place}
use Rattle.flow_block_law.proofs.CopierHolds.{copies_lawful, rule_is}
use Rattle.flow_block_law.proofs.PlacesOfLinks.{there_at_source}
use Rattle.flow_link.proofs.PlacesOfNumbers.{place_below}

-- Any calls

once_after : (call : Call) (c : Course) → (after call c).spread.once ≡ c.spread.once
once_after (Call.put value) c = refl
once_after (Call.prepare k) c = refl
once_after (Call.offer k) c = refl
once_after (Call.look k phase) c = refl
once_after (Call.give k) c = refl
once_after (Call.hold k) c = refl
once_after (Call.withdraw k) c = refl
once_after (Call.«end» k how) c = refl
once_after (Call.answer k header status) c = refl
once_after Call.fault c = refl
once_after (Call.stop outcome) c = refl

once_stays : (calls : List Call) (c : Course) → (after_all calls c).spread.once ≡ c.spread.once
once_stays [] c = refl
once_stays (call ∷ calls) c = once_stays calls (after call c) ∙ once_after call c

-- ids count what is put
count_after : (call : Call) (c : Course) → (after call c).spread.id ≡ c.spread.id + length (put_by call)
count_after (Call.put value) c = refl
count_after (Call.prepare k) c = omega arith
count_after (Call.offer k) c = omega arith
count_after (Call.look k phase) c = omega arith
count_after (Call.give k) c = omega arith
count_after (Call.hold k) c = omega arith
count_after (Call.withdraw k) c = omega arith
count_after (Call.«end» k how) c = omega arith
count_after (Call.answer k header status) c = omega arith
count_after Call.fault c = omega arith
count_after (Call.stop outcome) c = omega arith

counts_all : (calls : List Call) (c : Course) → (after_all calls c).spread.id ≡ c.spread.id + length (put_in calls)
counts_all [] c = omega arith
counts_all (call ∷ calls) c =
    let later = counts_all calls (after call c) in
    let first = count_after call c in
    omega (arith, later, first, length-append (put_by call) (put_in calls))

-- the newest of these elements is the one that is there
pub record NewestOf (elements : List Value) (s : SpreadState) : Type 0 where
  pub older : List Value
  pub newest : older ++ listed s.element ≡ elements

newest_same : (elements : List Value) (s : SpreadState) → NewestOf elements s → NewestOf (elements ++ []) s
newest_same elements s is = subst (λ (all : List Value). NewestOf all s) (sym (append-nil elements)) is

newest_after : (call : Call) (c : Course) (elements : List Value) → NewestOf elements c.spread
    → NewestOf (elements ++ put_by call) (after call c).spread
newest_after (Call.put value) c elements is = record { older = elements; newest = refl }
newest_after (Call.prepare k) c elements is =
    newest_same elements (after (Call.prepare k) c).spread (record { older = is.older; newest = is.newest })
newest_after (Call.offer k) c elements is =
    newest_same elements (after (Call.offer k) c).spread (record { older = is.older; newest = is.newest })
newest_after (Call.look k phase) c elements is =
    newest_same elements (after (Call.look k phase) c).spread (record { older = is.older; newest = is.newest })
newest_after (Call.give k) c elements is =
    newest_same elements (after (Call.give k) c).spread (record { older = is.older; newest = is.newest })
newest_after (Call.hold k) c elements is =
    newest_same elements (after (Call.hold k) c).spread (record { older = is.older; newest = is.newest })
newest_after (Call.withdraw k) c elements is =
    newest_same elements (after (Call.withdraw k) c).spread (record { older = is.older; newest = is.newest })
newest_after (Call.«end» k how) c elements is =
    newest_same elements (after (Call.«end» k how) c).spread (record { older = is.older; newest = is.newest })
newest_after (Call.answer k header status) c elements is =
    newest_same elements (after (Call.answer k header status) c).spread (record { older = is.older; newest = is.newest })
newest_after Call.fault c elements is = newest_same elements c.spread is
newest_after (Call.stop outcome) c elements is = newest_same elements c.spread is

newest_in : (calls : List Call) (c : Course) (elements : List Value) → NewestOf elements c.spread
    → NewestOf (elements ++ put_in calls) (after_all calls c).spread
newest_in [] c elements is = newest_same elements c.spread is
newest_in (call ∷ calls) c elements is =
    subst (λ (all : List Value). NewestOf all (after_all calls (after call c)).spread)
    (append_assoc elements (put_by call) (put_in calls))
    (newest_in calls (after call c) (elements ++ put_by call) (newest_after call c elements is))

-- The calls of a block

module _ {W : Type 0} (layout : Layout W) (b : ℕ) (block : BlockState) (journal : List Mark)
    (c : Copier layout b block journal) where
  abbrev pub elements : List Value
  elements = put_in c.calls

  abbrev start : Course
  start = copier_start layout b block.kind

  pub once_is : block.copies.once ≡ is_write_once block.kind
  once_is = sym (ap (λ (run : Course). run.spread.once) c.leads_here) ∙ once_stays c.calls start

  pub count_is : block.copies.id ≡ length elements
  count_is =
      let none : 0 + length elements ≡ length elements = omega arith in
      sym (ap (λ (run : Course). run.spread.id) c.leads_here) ∙ counts_all c.calls start ∙ none

  pub newest_is : NewestOf elements block.copies
  newest_is =
      subst (λ (run : Course). NewestOf elements run.spread) c.leads_here
      (newest_in c.calls start [] (record { older = []; newest = refl }))

  -- what takes once has taken one message at most
  pub at_most_one : is_write_once block.kind ≡ true → length elements ≤ 1
  at_most_one once =
      let law : SpreadLaw 1 c.pending block.stopped block.copies = copies_lawful layout b block journal c in
      let few = law.only_one (once_is ∙ once) in
      omega (arith, few, count_is)

  -- what a link was given, as the marks tell it
  pub has : (k : ℕ) → k < length block.copies.ends
      → LinkHas (gave_over (link_at block.copies k).rule.id journal) elements k block.copies
  has k here =
      let rules = map (rule_of layout) (links_from layout b) in
      let there : k < length rules =
      omega (arith, (rule_is layout b block journal c k here).0, length-map (links_from layout b) (rule_of layout)) in
      let by_calls = each_link_has.each (is_write_once block.kind) false rules 1 (omega arith) (omega arith)
      c.calls c.allowed k there in
      subst (λ (given : List Value). LinkHas given elements k block.copies) (sym (c.gave_is k here))
      (subst (λ (run : Course). LinkHas (given_in k c.calls start) elements k run.spread) c.leads_here by_calls)

  -- each link out of the block has its end at its place
  pub record HasCopyEnd (l : ℕ) : Type 0 where
    pub there : out_place layout b l < length block.copies.ends
    pub rule_is : (link_at block.copies (out_place layout b l)).rule ≡ rule_of layout l

  count_ends : length block.copies.ends ≡ length (links_from layout b)
  count_ends =
      sym (length-map block.copies.ends (λ (end : CopyEnd). end.link.rule))
      ∙ ap length c.rules ∙ length-map (links_from layout b) (rule_of layout)

  pub copy_end_of : (l : ℕ) → l < length layout.links → (link_in layout.links l).source ≡ Block b → HasCopyEnd l
  copy_end_of l small begins =
      let is = place_below (is_out_of layout b) (length layout.links) l small
      (there_at_source b (link_in layout.links l).source begins) in
      let there : out_place layout b l < length block.copies.ends = omega (arith, count_ends, is.there) in
      record {
        there = there;
        rule_is = (rule_is layout b block journal c (out_place layout b l) there).1 ∙ ap (rule_of layout) is.is_there;
      }
