-- A block that takes one message in all: what is known of it before it took that, and after.
use Rattle.std.proofs.Common.{◌≡◌, ℕ, suc, ◌+◌, ◌^◌, ◌<◌, ◌≤◌, ◌==◌, Bool, true, false, not, ◌&&◌, ◌||◌, List, [], ◌∷◌, ◌++◌, length, Option, Some, None, is_some, Result, refl, ap, ap₂, sym, ◌∙◌, arith, eq-eqb}
use Rattle.std.proofs.lemmas.Bool.{and_parts, and_from, OnTrue_at}
use Rattle.flow_value.specs.declared.when.When.{When}
use Rattle.flow_value.specs.declared.value.Value.{Value}
use Rattle.flow_link.specs.declared.stage.SourceStage.{SourceStage}
use Rattle.flow_link.specs.declared.stage.SourceStage.TheVariants as source
use Rattle.flow_link.specs.declared.trace.Mark.{Mark}
use Rattle.flow_link.specs.Layout.{Layout}
use Rattle.flow_link.specs.Plan.{is_write_once, is_one_taker}
use Rattle.flow_link.specs.Trace.{took}
use Rattle.flow_link.proofs.KindsTell.{kind_tells}
use Rattle.flow_outlet.specs.End.{is_waiting}
use Rattle.flow_outlet.specs.History.{listed}
use Rattle.flow_outlet.specs.Law.{admits_head}
use Rattle.flow_outlet.specs.Outlet.{is_empty}
use Rattle.flow_spread.specs.declared.end.CopyEnd.{CopyEnd}
use Rattle.flow_spread.specs.End.{count_of, owes_it, is_busy, is_busy_at, is_waiting_at, end_in}
use Rattle.flow_spread.specs.Law.{SpreadLaw, speaks}
use Rattle.flow_spread.specs.Spread.{SpreadState, end_at, is_spread_free}
use Rattle.flow_link.proofs.ListTests.{never_both}
use Rattle.flow_link.specs.declared.trace.Outcome.{Outcome}
use Rattle.flow_link.proofs.TestsTell.{none_unless}
use Rattle.flow_block.specs.Node.{NodeState}
use Rattle.flow_block.specs.Block.{BlockState, held_by}
use Rattle.flow_block_law.specs.Copier.{Copier}
use Rattle.flow_block.specs.Copies.{copies_left, weight_by, copies_weight, none_waits}
use Rattle.flow_block_law.specs.NodeLaw.{has_its_message, NodeLaw}
use Rattle.flow_block.specs.Peeks.{is_written}
use Rattle.flow_block_law.proofs.CopiesCalled.{elements, newest_is, once_is, count_is}
use Rattle.flow_block_law.proofs.CopierHolds.{copies_lawful}

-- Before it took its message

none_counted : (test : CopyEnd → Bool) (ends : List CopyEnd) → ((k : ℕ) → k < length ends → test (end_in ends k) ≡ false)
    → count_of test ends ≡ 0
none_counted test [] none = refl
none_counted test (end ∷ ends) none =
    let rest = none_counted test ends (λ k there. none (suc k) (omega (arith, there))) in
    rw (none 0 (omega arith), rest) refl

none_admitted : (when : When) (element : Option Value) → element ≡ None → admits_head when element ≡ false
none_admitted when element none = rw none refl

busy_speaks : (stage : SourceStage) → speaks stage ≡ false → is_busy stage ≡ false
busy_speaks source.Free e = refl
busy_speaks source.Refused e = refl
busy_speaks source.Crossing e = refl
busy_speaks (source.Ended how) e = refl
busy_speaks (source.Waiting i) e = refl
busy_speaks _ e = absurd (cc)

waiting_speaks : (stage : SourceStage) → speaks stage ≡ false → is_waiting stage ≡ false
waiting_speaks (source.Waiting i) e = absurd (cc)
waiting_speaks _ e = refl

neither : (speaks owes : Bool) → ((speaks || owes) ≡ true → ⊥) → (speaks ≡ false) × (owes ≡ false)
neither false false never = (refl, refl)
neither true owes never = absurd (never refl)
neither false true never = absurd (never refl)

module _ (pending : Bool) (stopped : Option Outcome) (copies : SpreadState) (law : SpreadLaw 1 pending stopped copies)
    (none : copies.element ≡ None) where
  unconcerned : (k : ℕ) → k < length copies.ends
      → (speaks (end_at copies k).link.stage ≡ false) × ((end_at copies k).owes ≡ false)
  unconcerned k there =
      let end = end_at copies k in
      neither (speaks end.link.stage) end.owes (λ concerned.
      let admitted : admits_head end.link.rule.when copies.element ≡ true =
      OnTrue_at concerned (law.each k there).admitted in
      let never : false ≡ true = sym (none_admitted end.link.rule.when copies.element none) ∙ admitted in
      cc)

  none_owes : count_of owes_it copies.ends ≡ 0
  none_owes = none_counted owes_it copies.ends (λ k there. (unconcerned k there).1)

  none_busy : count_of is_busy_at copies.ends ≡ 0
  none_busy = none_counted is_busy_at copies.ends (λ k there. busy_speaks (end_at copies k).link.stage (unconcerned k there).0)

  none_waiting : count_of is_waiting_at copies.ends ≡ 0
  none_waiting =
      none_counted is_waiting_at copies.ends (λ k there. waiting_speaks (end_at copies k).link.stage (unconcerned k there).0)

-- what has no element yet may take its first
pub record MayPutFirst (copies : SpreadState) : Type 0 where
  pub free : is_spread_free copies ≡ true
  pub waits : none_waits copies ≡ true
  pub ids : copies.id + 1 < 2 ^ 59

unset : (once : Bool) (element : Option Value) → element ≡ None → not (once && is_some element) ≡ true
unset true element none = rw none refl
unset false element none = refl

pub may_put_first : (pending : Bool) (stopped : Option Outcome) (copies : SpreadState) → SpreadLaw 1 pending stopped copies
    → copies.element ≡ None → MayPutFirst copies
may_put_first pending stopped copies law none =
    let owes = eq-eqb (count_of owes_it copies.ends) 0 (none_owes pending stopped copies law none) in
    let busy = eq-eqb (count_of is_busy_at copies.ends) 0 (none_busy pending stopped copies law none) in
    record {
      free = and_from (count_of owes_it copies.ends == 0 && count_of is_busy_at copies.ends == 0)
          (not (copies.once && is_some copies.element))
          (and_from (count_of owes_it copies.ends == 0) (count_of is_busy_at copies.ends == 0) owes busy)
          (unset copies.once copies.element none);
      waits = eq-eqb (count_of is_waiting_at copies.ends) 0 (none_waiting pending stopped copies law none);
      ids = omega (arith, law.none_yet none);
    }

-- After it

weighs_nothing : (once : Bool) (element : Option Value) (left : ℕ) → once ≡ true → weight_by once (is_some element) left ≡ 0
    → element ≡ None
weighs_nothing true None left is none = refl
weighs_nothing true (Some value) left is none = absurd (omega (arith, none))
weighs_nothing false element left is none = absurd (cc)

some_taken : (older held : List Value) (element : Option Value) → is_some element ≡ true
    → is_empty ((older ++ listed element) ++ held) ≡ false
some_taken older held None some = absurd (cc)
some_taken [] held (Some value) some = refl
some_taken (first ∷ older) held (Some value) some = refl

none_in : (values : List Value) → length values ≡ 0 → values ≡ []
none_in [] e = refl
none_in (value ∷ values) e = absurd (omega (arith, e))

module _ {W : Type 0} (layout : Layout W) (b : ℕ) (block : BlockState) (journal : List Mark)
    (c : Copier layout b block journal) where
  -- where it counts nothing, it has none
  pub no_element : is_write_once block.kind ≡ true → copies_weight block.copies ≡ 0 → block.copies.element ≡ None
  no_element once none =
      weighs_nothing block.copies.once block.copies.element (copies_left block.copies)
      (once_is layout b block journal c ∙ once) none

  has_taken : is_some block.copies.element ≡ true → is_empty (took journal) ≡ false
  has_taken some =
      let newest = newest_is layout b block journal c in
      ap (λ (taken : List Value). is_empty taken)
      (c.took_is ∙ ap (λ (put : List Value). put ++ held_by block) (sym newest.newest))
      ∙ some_taken newest.older (held_by block) block.copies.element some

  -- then it may take its first
  pub may_put_yet : is_write_once block.kind ≡ true → copies_weight block.copies ≡ 0 → MayPutFirst block.copies
  may_put_yet once none =
      may_put_first c.pending block.stopped block.copies (copies_lawful layout b block journal c) (no_element once none)

  none_before : block.copies.element ≡ None → elements layout b block journal c ≡ []
  none_before none =
      let law = copies_lawful layout b block journal c in
      none_in (elements layout b block journal c) (omega (arith, count_is layout b block journal c, law.none_yet none))

  -- what took its message and holds none has its element
  pub written_back : has_its_message block.kind journal ≡ true → held_by block ≡ [] → is_written block ≡ true
  written_back has none =
      let both = and_parts (is_write_once block.kind) (not (is_empty (took journal))) has in
      and_from (is_write_once block.kind) (is_some block.copies.element) both.0
      (some_where (is_some block.copies.element) refl (not_so (is_empty (took journal)) both.1))
    where
      not_so : (so : Bool) → not so ≡ true → so ≡ false
      not_so false e = refl
      not_so true e = absurd (cc)

      some_where : (some : Bool) → is_some block.copies.element ≡ some → is_empty (took journal) ≡ false → some ≡ true
      some_where true is taken = refl
      some_where false is taken =
          let nothing : took journal ≡ [] =
          c.took_is ∙ ap₂ (λ (put held : List Value). put ++ held) (none_before (none_unless block.copies.element is)) none in
          never_both (is_empty (took journal)) (ap (λ (taken : List Value). is_empty taken) nothing) taken

  -- what overwrites its element counts it while it is left
  pub weight_left : is_write_once block.kind ≡ false → copies_weight block.copies ≡ copies_left block.copies
  weight_left many =
      ap (λ (once : Bool). weight_by once (is_some block.copies.element) (copies_left block.copies))
      (once_is layout b block journal c ∙ many)

  -- what has its element took it
  pub written_tells : is_written block ≡ true → has_its_message block.kind journal ≡ true
  written_tells written =
      let both = and_parts (is_write_once block.kind) (is_some block.copies.element) written in
      and_from (is_write_once block.kind) (not (is_empty (took journal))) both.0 (ap not (has_taken both.1))

weighs_one : (once some : Bool) (left : ℕ) → once ≡ true → some ≡ true → weight_by once some left ≡ 1
weighs_one true true left once some = refl
weighs_one true false left once some = absurd (cc)
weighs_one false some left once is = absurd (cc)

-- Of a node in order

same_tests : (a b : Bool) → (a ≡ true → b ≡ true) → (b ≡ true → a ≡ true) → a ≡ b
same_tests true b there back = sym (there refl)
same_tests false true there back = back refl
same_tests false false there back = refl

module _ {W : Type 0} (layout : Layout W) (meaning : ℕ → Value → Result (List Value) ℕ) (b : ℕ) (node : NodeState)
    (law : NodeLaw layout meaning b node) where
  -- and it counts
  pub written_weighs : is_written node.block ≡ true → copies_weight node.block.copies ≡ 1
  written_weighs written =
      let copies = node.block.copies in
      let both = and_parts (is_write_once node.block.kind) (is_some copies.element) written in
      let copier = law.copies.copier (kind_tells is_write_once true is_one_taker false refl node.block.kind both.0) in
      weighs_one copies.once (is_some copies.element) (copies_left copies)
      (once_is layout b node.block node.journal copier ∙ both.0) both.1

  -- what counts of it is there
  pub weighs_written : is_write_once node.block.kind ≡ true → 1 ≤ copies_weight node.block.copies → is_written node.block ≡ true
  weighs_written once counts =
      let copies = node.block.copies in
      let copier = law.copies.copier (kind_tells is_write_once true is_one_taker false refl node.block.kind once) in
      and_from (is_write_once node.block.kind) (is_some copies.element) once
      (counted copies.once (is_some copies.element) (copies_left copies)
      (once_is layout b node.block node.journal copier ∙ once) counts)
    where
      counted : (once some : Bool) (left : ℕ) → once ≡ true → 1 ≤ weight_by once some left → some ≡ true
      counted true true left is counts = refl
      counted true false left is counts = absurd (omega (arith, counts))
      counted false some left is counts = absurd (cc)

  -- its marks tell that it took its message just where it has its element
  pub message_is : has_its_message node.block.kind node.journal ≡ is_written node.block
  message_is =
      let of_once : is_write_once node.block.kind ≡ true → Copier layout b node.block node.journal =
      λ once. law.copies.copier (kind_tells is_write_once true is_one_taker false refl node.block.kind once) in
      same_tests (has_its_message node.block.kind node.journal) (is_written node.block)
      (λ has.
      let once = (and_parts (is_write_once node.block.kind) (not (is_empty (took node.journal))) has).0 in
      written_back layout b node.block node.journal (of_once once) has (law.none_held once))
      (λ written.
      let once = (and_parts (is_write_once node.block.kind) (is_some node.block.copies.element) written).0 in
      written_tells layout b node.block node.journal (of_once once) written)
