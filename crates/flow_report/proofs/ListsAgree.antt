-- Which lists of a lawful run are the same, by its laws and by how long they are.
use Rattle.std.proofs.Common.{◌≡◌, ◌≢◌, ℕ, ◌+◌, ◌<◌, ◌≤◌, ◌==◌, ◌&&◌, ◌||◌, not, ◌⊎◌, inl, inr, Bool, true, false, cond, ltb, List, [], ◌∷◌, ◌++◌, length, map, filter, Option, Some, Result, Ok, refl, ap, sym, ◌∙◌, subst, arith, length-append, eqb-true, eq-eqb}
use Rattle.std.proofs.lemmas.Bool.{and_parts, ltb-true}
use Rattle.std.proofs.lemmas.Bool.Decides.{eqb_tells}
use Rattle.std.proofs.lemmas.List.{append-nil}
use Rattle.flow_value.specs.declared.value.Value.{Value}
use Rattle.flow_value.specs.Same.{same_value, same_value-Decides}
use Rattle.flow_link.specs.declared.draft.BlockKind.{BlockKind}
use Rattle.flow_link.specs.declared.draft.BlockKind.TheVariants.{Buffer, Broadcast, Action}
use Rattle.flow_link.specs.declared.plan.LinkSource.{LinkSource}
use Rattle.flow_link.specs.declared.plan.LinkSource.TheVariants.{Block, Input}
use Rattle.flow_link.specs.declared.plan.LinkTarget.{LinkTarget}
use Rattle.flow_link.specs.declared.plan.LinkTarget.TheVariants.{Port, Exit}
use Rattle.flow_link.specs.declared.trace.Mark.{Mark}
use Rattle.flow_link.specs.declared.trace.Mark.TheVariants.{Took, Gave, Complete, Fault, Done}
use Rattle.flow_value.specs.When.{admits}
use Rattle.flow_value.specs.declared.when.When.{When}
use Rattle.flow_value.specs.declared.when.When.TheVariants.{Any}
use Rattle.flow_link.specs.Copies.{elements, broadcasts_over, newest_left, owes, carried_of, up_to, carries_all, copies, copies_as}
use Rattle.flow_link.specs.Making.{result_of, results_of, is_made, block_result, worked, makes, makes_as}
use Rattle.flow_link.specs.Plan.{begins_at, ends_at_port, port_count, ports_by_kind}
use Rattle.flow_link.specs.Trace.{Run, took, took_at, took_over, gave, gave_over, given_over, given_by, taken_by, block_of, link_of, link_numbers, trace_of, marks_of, held_at, left_at}
use Rattle.flow_link.specs.WellFormed.{IsWellFormed}
use Rattle.flow_link.specs.Lists.{every, is_empty, same_values, is_subsequence, concat}
use Rattle.flow_link.proofs.ListTests.{passes_below}
use Rattle.flow_lawful.specs.Law.{is_own_mark}
use Rattle.flow_lawful.specs.Lawful.{Lawful}
use Rattle.flow_report.specs.SameLists.{AllTaken, LeadsAlone, LeavesAlone, CarriesEach, hands_on}

-- Lists

same_values_tell : (us vs : List Value) → same_values us vs ≡ true → us ≡ vs
same_values_tell [] [] e = refl
same_values_tell [] (v ∷ vs) e = absurd (cc)
same_values_tell (u ∷ us) [] e = absurd (cc)
same_values_tell (u ∷ us) (v ∷ vs) e =
    let both = and_parts (same_value u v) (same_values us vs) e in
    ap (λ first. first ∷ us) ((same_value-Decides u v).0 both.0) ∙ ap (λ rest. v ∷ rest) (same_values_tell us vs both.1)

none-left : {A : Type 0} (xs : List A) → length xs ≡ 0 → xs ≡ []
none-left [] e = refl
none-left (x ∷ xs) e = absurd (omega (arith, e))

-- what is struck out of a list is no longer, and is all of it where it is as long
part_no_longer : (us vs : List Value) → is_subsequence us vs ≡ true → length us ≤ length vs
part_no_longer [] vs e = omega arith
part_no_longer (u ∷ us) [] e = absurd (cc)
part_no_longer (u ∷ us) (v ∷ vs) e = by_same (same_value u v) (part_no_longer us vs) (part_no_longer (u ∷ us) vs) e
  where
    by_same : (same : Bool) → (is_subsequence us vs ≡ true → length us ≤ length vs) → (is_subsequence (u ∷ us) vs ≡ true → length (u ∷ us) ≤ length vs)
        → elim same [ true ↦ is_subsequence us vs | false ↦ is_subsequence (u ∷ us) vs ] ≡ true → length (u ∷ us) ≤ length (v ∷ vs)
    by_same true here later is = let rest = here is in omega (arith, rest)
    by_same false here later is = let rest = later is in omega (arith, rest)

part_as_long : (us vs : List Value) → is_subsequence us vs ≡ true → length vs ≤ length us → us ≡ vs
part_as_long [] [] e long = refl
part_as_long [] (v ∷ vs) e long = absurd (omega (arith, long))
part_as_long (u ∷ us) [] e long = absurd (cc)
part_as_long (u ∷ us) (v ∷ vs) e long = by_same (same_value u v) refl (λ is. part_as_long us vs is (omega (arith, long))) e
  where
    by_same : (same : Bool) → same_value u v ≡ same → (is_subsequence us vs ≡ true → us ≡ vs)
        → elim same [ true ↦ is_subsequence us vs | false ↦ is_subsequence (u ∷ us) vs ] ≡ true → u ∷ us ≡ v ∷ vs
    by_same true here rest is = ap (λ first. first ∷ us) ((same_value-Decides u v).0 here) ∙ ap (λ last. v ∷ last) (rest is)
    by_same false here rest is = let less = part_no_longer (u ∷ us) vs is in absurd (omega (arith, less, long))

-- so of what was given over one link, and in all
one_link_less : (l : ℕ) (marks : List Mark) → length (gave_over l marks) ≤ length (gave marks)
one_link_less l [] = omega arith
one_link_less l (Gave link value ∷ marks) = in_turn (link == l) (one_link_less l marks)
  where
    in_turn : (b : Bool) → length (gave_over l marks) ≤ length (gave marks) → length (cond b (value ∷ gave_over l marks) (gave_over l marks)) ≤ length (value ∷ gave marks)
    in_turn true less = omega (arith, less)
    in_turn false less = omega (arith, less)
one_link_less l (Took _ _ _ ∷ marks) = one_link_less l marks
one_link_less l (Complete _ ∷ marks) = one_link_less l marks
one_link_less l (Fault _ ∷ marks) = one_link_less l marks
one_link_less l (Done ∷ marks) = one_link_less l marks

all_over_one : (l : ℕ) (marks : List Mark) → length (gave marks) ≤ length (gave_over l marks) → gave_over l marks ≡ gave marks
all_over_one l [] long = refl
all_over_one l (Gave link value ∷ marks) long = in_turn (link == l) (all_over_one l marks) long
  where
    in_turn : (b : Bool) → (length (gave marks) ≤ length (gave_over l marks) → gave_over l marks ≡ gave marks)
        → length (value ∷ gave marks) ≤ length (cond b (value ∷ gave_over l marks) (gave_over l marks))
        → cond b (value ∷ gave_over l marks) (gave_over l marks) ≡ value ∷ gave marks
    in_turn true rest long = ap (λ last. value ∷ last) (rest (omega (arith, long)))
    in_turn false rest long = let less = one_link_less l marks in absurd (omega (arith, less, long))
all_over_one l (Took _ _ _ ∷ marks) long = all_over_one l marks long
all_over_one l (Complete _ ∷ marks) long = all_over_one l marks long
all_over_one l (Fault _ ∷ marks) long = all_over_one l marks long
all_over_one l (Done ∷ marks) long = all_over_one l marks long

-- a link that lets each value cross carries all
each_passes : (values : List Value) → filter (admits Any) values ≡ values
each_passes [] = refl
each_passes (value ∷ values) = ap (λ (rest : List Value). value ∷ rest) (each_passes values)

-- Ports

target_is : (b p : ℕ) (target : LinkTarget) → ends_at_port b p target ≡ true → target ≡ Port b p
target_is b p (Port n q) e =
    let both = and_parts (n == b) (q == p) e in
    ap (λ (t : ℕ). Port t q) (eqb-true n b both.0) ∙ ap (λ (k : ℕ). Port b k) (eqb-true q p both.1)
target_is b p Exit e = absurd (cc)

pub source_is : (b : ℕ) (source : LinkSource) → begins_at b source ≡ true → source ≡ Block b
source_is b (Block n) e = ap Block (eqb-true n b e)
source_is b (Input n) e = absurd (cc)

same_port : (b p q : ℕ) (target : LinkTarget) → ends_at_port b p target ≡ true → ends_at_port b q target ≡ true → p ≡ q
same_port b p q target e f = let first = sym (target_is b p target e) ∙ target_is b q target f in cc

module _ {W : Type 0} (run : Run W) (b : ℕ) where
  -- what a port with one link into it took is what came over the link
  same_test : (p l port link : ℕ) (value : Value) → LeadsAlone run b p l → is_own_mark run b (Took port link value) ≡ true → (port == p) ≡ (link == l)
  same_test p l port link value one own = in_turn (eqb_tells port p) (eqb_tells link l)
    where
      both : (ltb link (length run.layout.links) ≡ true) × (ends_at_port b port (link_of run link).target ≡ true)
      both = and_parts (ltb link (length run.layout.links)) (ends_at_port b port (link_of run link).target) own

      in_turn : ((port == p ≡ true) × (port ≡ p)) ⊎ ((port == p ≡ false) × (port ≢ p)) → ((link == l ≡ true) × (link ≡ l)) ⊎ ((link == l ≡ false) × (link ≢ l))
          → (port == p) ≡ (link == l)
      in_turn (inl at) (inl over) = at.0 ∙ sym over.0
      in_turn (inl at) (inr over) =
          absurd (over.1 (one.alone link (ltb-true link (length run.layout.links) both.0)
          (subst (λ (q : ℕ). ends_at_port b q (link_of run link).target ≡ true) at.1 both.1)))
      in_turn (inr at) (inl over) =
          absurd (at.1 (same_port b port p (link_of run l).target
          (subst (λ (k : ℕ). ends_at_port b port (link_of run k).target ≡ true) over.1 both.1) one.leads))
      in_turn (inr at) (inr over) = at.0 ∙ sym over.0

  took_alone : (p l : ℕ) → LeadsAlone run b p l → (marks : List Mark) → every (is_own_mark run b) marks ≡ true → took_over l marks ≡ took_at p marks
  took_alone p l one [] own = refl
  took_alone p l one (Took port link value ∷ marks) own =
      let both = and_parts (is_own_mark run b (Took port link value)) (every (is_own_mark run b) marks) own in
      ap (λ (t : Bool). cond t (value ∷ took_over l marks) (took_over l marks)) (sym (same_test p l port link value one both.0))
      ∙ ap (λ (rest : List Value). cond (port == p) (value ∷ rest) rest) (took_alone p l one marks both.1)
  took_alone p l one (Gave link value ∷ marks) own = took_alone p l one marks (and_parts (is_own_mark run b (Gave link value)) (every (is_own_mark run b) marks) own).1
  took_alone p l one (Complete port ∷ marks) own = took_alone p l one marks (and_parts (is_own_mark run b (Complete port)) (every (is_own_mark run b) marks) own).1
  took_alone p l one (Fault number ∷ marks) own = took_alone p l one marks own
  took_alone p l one (Done ∷ marks) own = took_alone p l one marks own

  -- the links into a block with one port lead to that port
  abbrev pub OnePort : Type 0
  OnePort = (l q : ℕ) → l < length run.layout.links → (link_of run l).target ≡ Port b q → q ≡ 0

  -- what a block with one port took is what it took there
  module _ (at_first : OnePort) where
    took_first : (marks : List Mark) → every (is_own_mark run b) marks ≡ true → took marks ≡ took_at 0 marks
    took_first [] own = refl
    took_first (Took port link value ∷ marks) own =
        let both = and_parts (is_own_mark run b (Took port link value)) (every (is_own_mark run b) marks) own in
        let its = and_parts (ltb link (length run.layout.links)) (ends_at_port b port (link_of run link).target) both.0 in
        let zeroth : port ≡ 0 = at_first link port (ltb-true link (length run.layout.links) its.0) (target_is b port (link_of run link).target its.1) in
        ap (λ (rest : List Value). value ∷ rest) (took_first marks both.1)
        ∙ ap (λ (t : Bool). cond t (value ∷ took_at 0 marks) (took_at 0 marks)) (sym (eq-eqb port 0 zeroth))
    took_first (Gave link value ∷ marks) own = took_first marks (and_parts (is_own_mark run b (Gave link value)) (every (is_own_mark run b) marks) own).1
    took_first (Complete port ∷ marks) own = took_first marks (and_parts (is_own_mark run b (Complete port)) (every (is_own_mark run b) marks) own).1
    took_first (Fault number ∷ marks) own = took_first marks own
    took_first (Done ∷ marks) own = took_first marks own

  -- what a block with one link out of it gave is what it gave over that link
  gave_alone : (l : ℕ) → LeavesAlone run b l → (marks : List Mark) → every (is_own_mark run b) marks ≡ true → gave_over l marks ≡ gave marks
  gave_alone l one [] own = refl
  gave_alone l one (Gave link value ∷ marks) own =
      let both = and_parts (is_own_mark run b (Gave link value)) (every (is_own_mark run b) marks) own in
      let its = and_parts (ltb link (length run.layout.links)) (begins_at b (link_of run link).source) both.0 in
      let here : link ≡ l = one link (ltb-true link (length run.layout.links) its.0) its.1 in
      ap (λ (t : Bool). cond t (value ∷ gave_over l marks) (gave_over l marks)) (eq-eqb link l here)
      ∙ ap (λ (rest : List Value). value ∷ rest) (gave_alone l one marks both.1)
  gave_alone l one (Took port link value ∷ marks) own = gave_alone l one marks (and_parts (is_own_mark run b (Took port link value)) (every (is_own_mark run b) marks) own).1
  gave_alone l one (Complete port ∷ marks) own = gave_alone l one marks (and_parts (is_own_mark run b (Complete port)) (every (is_own_mark run b) marks) own).1
  gave_alone l one (Fault number ∷ marks) own = gave_alone l one marks own
  gave_alone l one (Done ∷ marks) own = gave_alone l one marks own

  -- Blocks
  module _ (lawful : Lawful run) (low : b < length run.layout.blocks) where
    own_marks : every (is_own_mark run b) (marks_of run b) ≡ true
    own_marks = passes_below _ (length run.layout.blocks) b lawful.one_taker.own_marks low

    makes_its : makes run b ≡ true
    makes_its = passes_below _ (length run.layout.blocks) b lawful.making.each_block low

    copies_its : copies run b ≡ true
    copies_its = passes_below _ (length run.layout.blocks) b lawful.copies.each_block low

    module _ (at_first : OnePort) where
      -- a buffer that gave over one link as many as it took gave just these
      buffer_hands_on : (l : ℕ) → (block_of run b).kind ≡ Buffer → length (gave_over l (marks_of run b)) ≡ length (took (marks_of run b))
          → gave_over l (marks_of run b) ≡ took_at 0 (marks_of run b)
      buffer_hands_on l kind long =
          let marks = marks_of run b in
          let all : took marks ≡ (gave marks ++ left_at run b) ++ held_at run b 0 =
          same_values_tell (took marks) ((gave marks ++ left_at run b) ++ held_at run b 0) (sym (ap (makes_as run b) kind) ∙ makes_its) in
          let count : length (took marks) ≡ length (gave marks) + length (left_at run b) + length (held_at run b 0) =
          ap length all ∙ length-append (gave marks ++ left_at run b) (held_at run b 0)
          ∙ ap (λ (n : ℕ). n + length (held_at run b 0)) (length-append (gave marks) (left_at run b)) in
          let less = one_link_less l marks in
          let no_left : left_at run b ≡ [] = none-left (left_at run b) (omega (arith, count, less, long)) in
          let no_held : held_at run b 0 ≡ [] = none-left (held_at run b 0) (omega (arith, count, less, long)) in
          all_over_one l marks (omega (arith, count, less, long))
          ∙ sym (append-nil (gave marks)) ∙ sym (append-nil (gave marks ++ []))
          ∙ ap (λ (left : List Value). (gave marks ++ left) ++ []) (sym no_left)
          ∙ ap (λ (held : List Value). (gave marks ++ left_at run b) ++ held) (sym no_held)
          ∙ sym all ∙ took_first at_first marks own_marks

      -- so did one with nothing held and nothing left, where no other link leaves it
      buffer_gave_all : (l : ℕ) → (block_of run b).kind ≡ Buffer → LeavesAlone run b l → left_at run b ≡ [] → held_at run b 0 ≡ []
          → gave_over l (marks_of run b) ≡ took_at 0 (marks_of run b)
      buffer_gave_all l kind one no_left no_held =
          let marks = marks_of run b in
          let all : took marks ≡ (gave marks ++ left_at run b) ++ held_at run b 0 =
          same_values_tell (took marks) ((gave marks ++ left_at run b) ++ held_at run b 0) (sym (ap (makes_as run b) kind) ∙ makes_its) in
          gave_alone l one marks own_marks
          ∙ sym (append-nil (gave marks)) ∙ sym (append-nil (gave marks ++ []))
          ∙ ap (λ (left : List Value). (gave marks ++ left) ++ []) (sym no_left)
          ∙ ap (λ (held : List Value). (gave marks ++ left_at run b) ++ held) (sym no_held)
          ∙ sym all ∙ took_first at_first marks own_marks

      is_part : (begins part steady sole : Bool) → begins ≡ true → not begins || (part && steady && sole) ≡ true → part ≡ true
      is_part true part steady sole is over = (and_parts part steady (and_parts (part && steady) sole over).0).0
      is_part false part steady sole is over = absurd (cc)

      -- a broadcast block that gave over a link as many as it took gave just these
      broadcast_hands_on : (l : ℕ) → (block_of run b).kind ≡ Broadcast → l < length run.layout.links → (link_of run l).source ≡ Block b
          → begins_at b (link_of run l).source ≡ true
          → length (gave_over l (marks_of run b)) ≡ length (took (marks_of run b))
          → gave_over l (marks_of run b) ≡ took_at 0 (marks_of run b)
      broadcast_hands_on l kind there from begins long =
          let marks = marks_of run b in
          let held = held_at run b 0 in
          let test = sym (ap (copies_as run b) kind) ∙ copies_its in
          let both = and_parts (same_values (took marks) (elements run b ++ held) && newest_left run b) (every (broadcasts_over run b) (link_numbers run)) test in
          let first = and_parts (same_values (took marks) (elements run b ++ held)) (newest_left run b) both.0 in
          let over : broadcasts_over run b l ≡ true = passes_below (broadcasts_over run b) (length run.layout.links) l both.1 there in
          let all : took marks ≡ elements run b ++ held = same_values_tell (took marks) (elements run b ++ held) first.0 in
          let given : given_over run l ≡ gave_over l marks = ap (given_by run l) from in
          let part : is_subsequence (given_over run l) (elements run b) ≡ true = is_part (begins_at b (link_of run l).source) (is_subsequence (given_over run l) (elements run b)) _ _ begins over in
          let count : length (took marks) ≡ length (elements run b) + length held = ap length all ∙ length-append (elements run b) held in
          let same_length : length (given_over run l) ≡ length (took marks) = ap length given ∙ long in
          let less = part_no_longer (given_over run l) (elements run b) part in
          let no_held : held ≡ [] = none-left held (omega (arith, count, less, same_length)) in
          sym given ∙ part_as_long (given_over run l) (elements run b) part (omega (arith, count, same_length))
          ∙ sym (append-nil (elements run b)) ∙ ap (λ (rest : List Value). elements run b ++ rest) (sym no_held)
          ∙ sym all ∙ took_first at_first marks own_marks

      is_carried : (begins part steady all sole : Bool) → begins ≡ true → steady ≡ true → not begins || (part && (not steady || all) && sole) ≡ true → all ≡ true
      is_carried true part true all sole is each over = (and_parts part all (and_parts (part && all) sole over).0).1
      is_carried true part false all sole is each over = absurd (cc)
      is_carried false part steady all sole is each over = absurd (cc)

      no_exception : (all owed less refused front : Bool) → owed ≡ false → refused ≡ false → all || (owed && less) || (refused && front) ≡ true → all ≡ true
      no_exception true owed less refused front nothing takes is = refl
      no_exception false true less refused front nothing takes is = absurd (cc)
      no_exception false false less true front nothing takes is = absurd (cc)
      no_exception false false less false front nothing takes is = absurd (cc)

      -- so did one with nothing held and nothing left, over a link that carries each copy
      broadcast_gave_all : (l : ℕ) → (block_of run b).kind ≡ Broadcast → l < length run.layout.links → (link_of run l).source ≡ Block b
          → begins_at b (link_of run l).source ≡ true → CarriesEach run l → left_at run b ≡ [] → held_at run b 0 ≡ []
          → gave_over l (marks_of run b) ≡ took_at 0 (marks_of run b)
      broadcast_gave_all l kind there from begins each no_left no_held =
          let marks = marks_of run b in
          let held = held_at run b 0 in
          let test = sym (ap (copies_as run b) kind) ∙ copies_its in
          let both = and_parts (same_values (took marks) (elements run b ++ held) && newest_left run b) (every (broadcasts_over run b) (link_numbers run)) test in
          let first = and_parts (same_values (took marks) (elements run b ++ held)) (newest_left run b) both.0 in
          let over : broadcasts_over run b l ≡ true = passes_below (broadcasts_over run b) (length run.layout.links) l both.1 there in
          let all : took marks ≡ elements run b ++ held = same_values_tell (took marks) (elements run b ++ held) first.0 in
          let given : given_over run l ≡ gave_over l marks = ap (given_by run l) from in
          let carried : carries_all run b l ≡ true = is_carried (begins_at b (link_of run l).source) _ _ (carries_all run b l) _ begins each.steady over in
          let owed : owes run b ≡ false = ap (λ (left : List Value). not (is_empty left)) no_left in
          let whole : same_values (given_over run l) (carried_of (link_of run l) (elements run b)) ≡ true =
          no_exception (same_values (given_over run l) (carried_of (link_of run l) (elements run b))) _ _ _ _ owed each.refused carried in
          sym given ∙ same_values_tell (given_over run l) (carried_of (link_of run l) (elements run b)) whole
          ∙ ap (λ (max : Option ℕ). up_to max (filter (admits (link_of run l).when) (elements run b))) each.max
          ∙ ap (λ (when : When). filter (admits when) (elements run b)) each.when
          ∙ each_passes (elements run b)
          ∙ sym (append-nil (elements run b)) ∙ ap (λ (rest : List Value). elements run b ++ rest) (sym no_held)
          ∙ sym all ∙ took_first at_first marks own_marks

      -- an action that gives each message back, and holds none, records just what it took
      each_back : (result : Value → Result (List Value) ℕ) → ((value : Value) → result value ≡ Ok (value ∷ []))
          → (values : List Value) → results_of result values ≡ Some (map (λ (value : Value). value ∷ []) values)
      each_back result back [] = refl
      each_back result back (value ∷ values) = rw (back value, each_back result back values) refl

      all_back : (values : List Value) → concat (map (λ (value : Value). value ∷ []) values) ≡ values
      all_back [] = refl
      all_back (value ∷ values) = ap (λ (rest : List Value). value ∷ rest) (all_back values)

      action_records : (block_of run b).kind ≡ Action → ((value : Value) → block_result run b value ≡ Ok (value ∷ [])) → held_at run b 0 ≡ []
          → (trace_of run b).recorded ≡ took_at 0 (marks_of run b)
      action_records kind back no_held =
          let marks = marks_of run b in
          let recorded = (trace_of run b).recorded in
          let test = sym (ap (makes_as run b) kind) ∙ makes_its in
          let work = and_parts _ _ test in
          let parts = and_parts (same_values (took marks) (worked run b ++ held_at run b 0)) (is_made (results_of (block_result run b) (worked run b)) recorded) work.0 in
          let all : took marks ≡ worked run b ++ held_at run b 0 = same_values_tell (took marks) (worked run b ++ held_at run b 0) parts.0 in
          let made : is_made (Some (map (λ (value : Value). value ∷ []) (worked run b))) recorded ≡ true =
          sym (ap (λ (results : Option (List (List Value))). is_made results recorded) (each_back (block_result run b) back (worked run b))) ∙ parts.1 in
          sym (same_values_tell (concat (map (λ (value : Value). value ∷ []) (worked run b))) recorded made)
          ∙ all_back (worked run b) ∙ sym (append-nil (worked run b)) ∙ ap (λ (rest : List Value). worked run b ++ rest) (sym no_held)
          ∙ sym all ∙ took_first at_first marks own_marks

-- a block of one of these kinds has one port
module _ {W : Type 0} (run : Run W) (b : ℕ) (lawful : Lawful run) (well : IsWellFormed run.layout.blocks run.layout.links) (low : b < length run.layout.blocks) where
  one_port : (kind : BlockKind) → (block_of run b).kind ≡ kind → ((ports : Option ℕ) → ports_by_kind kind ports ≡ 1) → OnePort run b
  one_port kind is one l q there to =
      let within : q < port_count (block_of run b) = (well.enters l b q there to).1 in
      let count : port_count (block_of run b) ≡ 1 = ap (λ (kind : BlockKind). ports_by_kind kind (block_of run b).ports) is ∙ one (block_of run b).ports in
      omega (arith, within, count)

  -- a block that hands its messages on, and gave as many over a link as it took, gave just these
  pub handed_on : (l : ℕ) → l < length run.layout.links → begins_at b (link_of run l).source ≡ true → hands_on (block_of run b).kind ≡ true
      → length (gave_over l (marks_of run b)) ≡ length (took (marks_of run b)) → gave_over l (marks_of run b) ≡ took_at 0 (marks_of run b)
  handed_on l there begins on long = by_kind (block_of run b).kind refl on
    where
      by_kind : (kind : BlockKind) → (block_of run b).kind ≡ kind → hands_on kind ≡ true → gave_over l (marks_of run b) ≡ took_at 0 (marks_of run b)
      by_kind Buffer is on = buffer_hands_on run b lawful low (one_port Buffer is (λ ports. refl)) l is long
      by_kind Broadcast is on = broadcast_hands_on run b lawful low (one_port Broadcast is (λ ports. refl)) l is there (source_is b (link_of run l).source begins) begins long
      by_kind _ is on = absurd (cc)

  -- the same of a block with nothing held and nothing left, by its links
  pub buffer_gave : (l : ℕ) → (block_of run b).kind ≡ Buffer → LeavesAlone run b l → left_at run b ≡ [] → held_at run b 0 ≡ []
      → gave_over l (marks_of run b) ≡ took_at 0 (marks_of run b)
  buffer_gave l is one no_left no_held =
      buffer_gave_all run b lawful low (one_port Buffer is (λ ports. refl)) l is one no_left no_held

  pub broadcast_gave : (l : ℕ) → (block_of run b).kind ≡ Broadcast → l < length run.layout.links → begins_at b (link_of run l).source ≡ true
      → CarriesEach run l → left_at run b ≡ [] → held_at run b 0 ≡ [] → gave_over l (marks_of run b) ≡ took_at 0 (marks_of run b)
  broadcast_gave l is there begins each no_left no_held =
      broadcast_gave_all run b lawful low (one_port Broadcast is (λ ports. refl)) l is there (source_is b (link_of run l).source begins) begins each no_left no_held

  pub recorded_all : (block_of run b).kind ≡ Action → ((value : Value) → run.meaning b value ≡ Ok (value ∷ [])) → held_at run b 0 ≡ []
      → (trace_of run b).recorded ≡ took_at 0 (marks_of run b)
  recorded_all is back no_held =
      action_records run b lawful low (one_port Action is (λ ports. refl)) is
      (λ value. ap (λ (kind : BlockKind). result_of kind (run.meaning b value)) is ∙ back value) no_held

-- where all was taken, a port took what was given over the one link that leads there, if it comes from a block
pub port_took : {W : Type 0} (run : Run W) (b p l s : ℕ) → AllTaken run → Lawful run → b < length run.layout.blocks → LeadsAlone run b p l
    → (link_of run l).source ≡ Block s → given_over run l ≡ took_at p (marks_of run b)
port_took run b p l s all lawful low one from =
    let to : (link_of run l).target ≡ Port b p = target_is b p (link_of run l).target one.leads in
    all l s b p one.there from to ∙ ap (taken_by run l) to ∙ took_alone run b p l one (marks_of run b) (own_marks run b lawful low)
