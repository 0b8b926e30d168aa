-- The rows that a batch makes: what one more of them leaves true, and what was given before a port's Complete.
use Rattle.std.proofs.Common.{◌≡◌, ℕ, zero, suc, ◌<◌, ◌≤◌, leb, ltb, ◌==◌, cond, not, Bool, true, false, ◌&&◌, ◌||◌, List, [], ◌∷◌, ◌++◌, length, take, drop, refl, ap, ◌∙◌, arith, eq-eqb}
use Rattle.std.proofs.lemmas.Bool.{and_from, and_parts, or_left, or_right, leb-true, leb-false}
use Rattle.std.proofs.Math.ListN.{drop_of_length-le}
use Rattle.flow_value.specs.declared.value.Value.{Value}
use Rattle.flow_link.specs.declared.trace.Mark.{Mark}
use Rattle.flow_link.specs.declared.trace.Mark.TheVariants.{Took, Gave, Complete, Fault, Done}
use Rattle.flow_link.specs.JournalGrows.{given_by_mark}
use Rattle.flow_link.specs.Lists.{every}
use Rattle.flow_link.specs.Making.{are_groups, row_weight, before_complete}
use Rattle.flow_link.specs.Trace.{gave, has_complete}
use Rattle.flow_link.proofs.OneMoreMark.{every_more}
use Rattle.flow_outlet.specs.Outlet.{is_empty}
use Rattle.flow_block_law.specs.NodeLaw.{is_whole}

-- What was given before a port's Complete

-- a mark by which nothing is given
none_alone : (p : ℕ) (mark : Mark) → given_by_mark (λ link. true) mark ≡ [] → gave (before_complete p (mark ∷ [])) ≡ []
none_alone p (Took port l v) none = refl
none_alone p (Gave l v) none = absurd (cc)
none_alone p (Complete port) none = elim (port == p) as (λ here. gave (cond here [] (Complete port ∷ [])) ≡ []) [ true ↦ refl | false ↦ refl ]
none_alone p (Fault n) none = refl
none_alone p Done none = refl

given_before : (p port : ℕ) (marks later : List Mark) (here : Bool) → gave later ≡ gave marks
    → gave (cond here [] (Complete port ∷ later)) ≡ gave (cond here [] (Complete port ∷ marks))
given_before p port marks later true same = refl
given_before p port marks later false same = same

pub none_before : (p : ℕ) (marks : List Mark) (mark : Mark) → given_by_mark (λ link. true) mark ≡ []
    → gave (before_complete p (marks ++ mark ∷ [])) ≡ gave (before_complete p marks)
none_before p [] mark none = none_alone p mark none
none_before p (Took port l v ∷ marks) mark none = none_before p marks mark none
none_before p (Gave l v ∷ marks) mark none = ap (λ (vs : List Value). v ∷ vs) (none_before p marks mark none)
none_before p (Complete port ∷ marks) mark none =
    given_before p port (before_complete p marks) (before_complete p (marks ++ mark ∷ [])) (port == p)
    (none_before p marks mark none)
none_before p (Fault n ∷ marks) mark none = none_before p marks mark none
none_before p (Done ∷ marks) mark none = none_before p marks mark none

-- one more value is given, which passes a test while the port is unended
pub passes_before : (test : Value → Bool) (p : ℕ) (marks : List Mark) (l : ℕ) (value : Value)
    → every test (gave (before_complete p marks)) ≡ true → (has_complete p marks ≡ false → test value ≡ true)
    → every test (gave (before_complete p (marks ++ Gave l value ∷ []))) ≡ true
passes_before test p [] l value all last = and_from (test value) true (last refl) refl
passes_before test p (Took port k v ∷ marks) l value all last = passes_before test p marks l value all last
passes_before test p (Gave k v ∷ marks) l value all last =
    let both = and_parts (test v) (every test (gave (before_complete p marks))) all in
    and_from (test v) (every test (gave (before_complete p (marks ++ Gave l value ∷ [])))) both.0
    (passes_before test p marks l value both.1 last)
passes_before test p (Complete port ∷ marks) l value all last =
    elim (port == p) as (λ here. every test (gave (cond here [] (Complete port ∷ before_complete p marks))) ≡ true
    → (here || has_complete p marks ≡ false → test value ≡ true)
    → every test (gave (cond here [] (Complete port ∷ before_complete p (marks ++ Gave l value ∷ [])))) ≡ true) [
      | true ↦ λ before unended. refl
      | false ↦ λ before unended. passes_before test p marks l value before unended
    ] all last
passes_before test p (Fault n ∷ marks) l value all last = passes_before test p marks l value all last
passes_before test p (Done ∷ marks) l value all last = passes_before test p marks l value all last

-- Rows

-- one more row, where those before it are whole
pub groups_more : (size : ℕ) (rows : List Value) (row : Value) → every (is_whole size) rows ≡ true
    → ltb 0 (row_weight row) ≡ true → leb (row_weight row) size ≡ true → are_groups row_weight size (rows ++ row ∷ []) ≡ true
groups_more size [] row all some fits = and_from (ltb 0 (row_weight row)) (leb (row_weight row) size) some fits
groups_more size (first ∷ []) row all some fits =
    let both = and_parts (is_whole size first) true all in
    and_from (is_whole size first) (are_groups row_weight size (row ∷ [])) both.0
    (and_from (ltb 0 (row_weight row)) (leb (row_weight row) size) some fits)
groups_more size (first ∷ second ∷ rows) row all some fits =
    let both = and_parts (is_whole size first) (every (is_whole size) (second ∷ rows)) all in
    and_from (is_whole size first) (are_groups row_weight size ((second ∷ rows) ++ row ∷ [])) both.0
    (groups_more size (second ∷ rows) row both.1 some fits)

pub every_of : (test : Value → Bool) (front : List Value) (value : Value) (rest : List Value)
    → every test (front ++ value ∷ rest) ≡ true → test value ≡ true
every_of test [] value rest all = (and_parts (test value) (every test rest) all).0
every_of test (first ∷ front) value rest all =
    every_of test front value rest (and_parts (test first) (every test (front ++ value ∷ rest)) all).1

-- the next row has messages, and no more than a row has
pub group_there : (size : ℕ) (held : List Value) → 0 < size → is_empty held ≡ false → 0 < length (take size held)
group_there size [] some there = absurd (cc)
group_there zero (value ∷ held) some there = absurd (omega arith)
group_there (suc size) (value ∷ held) some there = omega arith

pub group_fits : (size : ℕ) (held : List Value) → length (take size held) ≤ size
group_fits zero held = omega arith
group_fits (suc size) [] = omega arith
group_fits (suc size) (value ∷ held) = let rest = group_fits size held in omega (arith, rest)

pub group_whole : (size : ℕ) (held : List Value) → size ≤ length held → length (take size held) ≡ size
group_whole zero held enough = refl
group_whole (suc size) [] enough = absurd (omega arith)
group_whole (suc size) (value ∷ held) enough = ap suc (group_whole size held (omega (arith, enough)))

-- either the next row is whole, or it is the rest, and the port has completed
pub whole_or_last : (complete : Bool) (size : ℕ) (rows held : List Value) (row : Value) (enough : Bool)
    → leb size (length held) ≡ enough → (enough || complete) ≡ true → row_weight row ≡ length (take size held)
    → every (is_whole size) rows ≡ true
    → ((complete && is_empty (drop size held)) || every (is_whole size) (rows ++ row ∷ [])) ≡ true
whole_or_last complete size rows held row true here some weighs all =
    or_right (complete && is_empty (drop size held)) (every (is_whole size) (rows ++ row ∷ []))
    (every_more (is_whole size) rows row all
    (eq-eqb (row_weight row) size (weighs ∙ group_whole size held (leb-true size (length held) here))))
whole_or_last complete size rows held row false here some weighs all =
    let short = leb-false size (length held) here in
    or_left (complete && is_empty (drop size held)) (every (is_whole size) (rows ++ row ∷ []))
    (and_from complete (is_empty (drop size held)) some
    (ap is_empty (drop_of_length-le held (omega (arith, short)))))

-- what the tests of a group tell
pub group_tells : (held : List Value) (enough ended : Bool) → (not (is_empty held) && (enough || ended)) ≡ true
    → (is_empty held ≡ false) × ((enough || ended) ≡ true)
group_tells [] enough ended e = absurd (cc)
group_tells (value ∷ held) enough ended e = (refl, e)
