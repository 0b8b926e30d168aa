-- How lists that are sorted by link grow by one more mark.
use Rattle.std.proofs.Common.{◌≡◌, ◌≢◌, ◌<◌, ◌≤◌, ◌+◌, ◌==◌, ◌⊎◌, inl, inr, ℕ, zero, suc, cond, true, false, List, [], ◌∷◌, ◌++◌, length, map, take, get_or, refl, ap, sym, ◌∙◌, arith}
use Rattle.std.proofs.Math.ListN.{set}
use Rattle.std.proofs.lemmas.List.{append-nil, map-set, map-append, length-map, get_or-map}
use Rattle.std.proofs.lemmas.Bool.Decides.{eqb_tells}
use Rattle.std.specs.Borrow.{Bor}
use Rattle.std.specs.declared.vec.Vec.{Vec}
use Rattle.flow_value.specs.declared.value.Value.{Value}
use Rattle.flow_link.specs.declared.trace.Mark.{Mark}
use Rattle.flow_link.specs.declared.trace.Mark.TheVariants.{Took, Gave, Complete, Fault, Done}
use Rattle.flow_link.specs.Lists.{numbers_from, below}
use Rattle.flow_link.specs.Trace.{gave_over}
use Rattle.flow_link.proofs.JournalsGrow.{gave_more}
use Rattle.flow_link.proofs.ListTests.{below_more}
use Rattle.flow_report.proofs.ListsGrow.{take-next}
use Rattle.flow_report.specs.Given.{values_of, lists_of, given_lists}

-- what a function gives at one of the numbers from a first one on
at_number : {B : Type 0} (f : ℕ → B) (first count place : ℕ) (d : B) → place < count → get_or (map f (numbers_from first count)) place d ≡ f (first + place)
at_number f first zero place d within = absurd (omega arith)
at_number f first (suc count) zero d within =
    let here : first ≡ first + 0 = omega arith in
    ap f here
at_number f first (suc count) (suc place) d within =
    let here : suc first + place ≡ first + suc place = omega arith in
    at_number f (suc first) count place d (omega arith) ∙ ap f here

length-numbers : {B : Type 0} (f : ℕ → B) (first count : ℕ) → length (map f (numbers_from first count)) ≡ count
length-numbers f first zero = refl
length-numbers f first (suc count) = ap suc (length-numbers f (suc first) count)

-- two functions that agree on these numbers
same_numbers : {B : Type 0} (f h : ℕ → B) (first count : ℕ) → ((n : ℕ) → first ≤ n → n < first + count → f n ≡ h n) → map f (numbers_from first count) ≡ map h (numbers_from first count)
same_numbers f h first zero same = refl
same_numbers f h first (suc count) same =
    let head : f first ≡ h first = same first (omega arith) (omega arith) in
    let rest = same_numbers f h (suc first) count (λ n low high. same n (omega arith) (omega arith)) in
    ap (λ x. x ∷ map f (numbers_from (suc first) count)) head ∙ ap (λ xs. h first ∷ xs) rest

-- two functions that agree on all of these numbers but one
set_number : {B : Type 0} (f h : ℕ → B) (first count place : ℕ) → place < count → ((n : ℕ) → n ≢ first + place → f n ≡ h n)
    → set (map f (numbers_from first count)) place (h (first + place)) ≡ map h (numbers_from first count)
set_number f h first zero place within same = absurd (omega arith)
set_number f h first (suc count) zero within same =
    let here : first + 0 ≡ first = omega arith in
    let rest = same_numbers f h (suc first) count (λ n low high. same n (λ at. omega (arith, at))) in
    ap (λ n. h n ∷ map f (numbers_from (suc first) count)) here ∙ ap (λ xs. h first ∷ xs) rest
set_number f h first (suc count) (suc place) within same =
    let here : first + suc place ≡ suc first + place = omega arith in
    let head : f first ≡ h first = same first (λ at. omega (arith, at)) in
    let rest = set_number f h (suc first) count place (omega arith) (λ n away. same n (λ at. away (at ∙ here))) in
    ap (λ n. f first ∷ set (map f (numbers_from (suc first) count)) place (h n)) here
    ∙ ap (λ x. x ∷ set (map f (numbers_from (suc first) count)) place (h (suc first + place))) head
    ∙ ap (λ xs. h first ∷ xs) rest

given_at : (links : ℕ) (marks : List Mark) (link : ℕ) → link < links → get_or (given_lists links marks) link [] ≡ gave_over link marks
given_at links marks link within =
    let here : 0 + link ≡ link = omega arith in
    at_number (λ l. gave_over l marks) 0 links link [] within ∙ ap (λ l. gave_over l marks) here

length_given : (links : ℕ) (marks : List Mark) → length (given_lists links marks) ≡ links
length_given links marks = length-numbers (λ l. gave_over l marks) 0 links

-- what one more mark gives over a link
here_more : (link : ℕ) (value : Value) (marks : List Mark) → gave_over link (marks ++ Gave link value ∷ []) ≡ gave_over link marks ++ value ∷ []
here_more link value marks = gave_more (λ l. l == link) marks (Gave link value) ∙ ap (λ last. gave_over link marks ++ last) (told (eqb_tells link link))
  where
    told : ((link == link ≡ true) × (link ≡ link)) ⊎ ((link == link ≡ false) × (link ≢ link)) → cond (link == link) (value ∷ []) [] ≡ value ∷ []
    told (inl same) = ap (λ b. cond b (value ∷ []) []) same.0
    told (inr apart) = absurd (apart.1 refl)

other_more : (link l : ℕ) (value : Value) (marks : List Mark) → l ≢ link → gave_over l marks ≡ gave_over l (marks ++ Gave link value ∷ [])
other_more link l value marks other = sym (gave_more (λ m. m == l) marks (Gave link value) ∙ ap (λ last. gave_over l marks ++ last) (told (eqb_tells link l)) ∙ append-nil (gave_over l marks))
  where
    told : ((link == l ≡ true) × (link ≡ l)) ⊎ ((link == l ≡ false) × (link ≢ l)) → cond (link == l) (value ∷ []) [] ≡ []
    told (inl same) = absurd (other (sym same.1))
    told (inr apart) = ap (λ b. cond b (value ∷ []) []) apart.0

-- the list of a link
pub list_at : {Z : Type 0} (lists : List (Vec (Bor Value) Z)) (list : Vec (Bor Value) Z) (link : ℕ) (marks : List Mark)
    → lists_of lists ≡ given_lists (length lists) marks → link < length lists → list ≡ get_or lists link list → values_of list.items ≡ gave_over link marks
list_at lists list link marks sorted within place =
    ap (λ list. values_of list.items) place ∙ sym (get_or-map (λ list. values_of list.items) lists link list [] within)
    ∙ ap (λ all. get_or all link []) sorted ∙ given_at (length lists) marks link within

-- as many lists as they were sorted into
length_sorted : {Z : Type 0} (lists : List (Vec (Bor Value) Z)) (links : ℕ) (marks : List Mark) → lists_of lists ≡ given_lists links marks → links ≡ length lists
length_sorted lists links marks sorted = sym (sym (length-map lists (λ list. values_of list.items)) ∙ ap length sorted ∙ length_given links marks)

pub sorted_whole : {Z : Type 0} (lists : List (Vec (Bor Value) Z)) (links : ℕ) (marks : List Mark) → lists_of lists ≡ given_lists links marks → lists_of lists ≡ given_lists (length lists) marks
sorted_whole lists links marks sorted = sorted ∙ ap (λ n. given_lists n marks) (length_sorted lists links marks sorted)

-- a mark that gave over a link with a list: the value comes last there
pub sorted_here : {Z : Type 0} (lists : List (Vec (Bor Value) Z)) (old new : Vec (Bor Value) Z) (link : ℕ) (value : Value) (marks : List Mark)
    → lists_of lists ≡ given_lists (length lists) marks → link < length lists → old ≡ get_or lists link old → values_of new.items ≡ values_of old.items ++ value ∷ []
    → lists_of (set lists link new) ≡ given_lists (length lists) (marks ++ Gave link value ∷ [])
sorted_here lists old new link value marks sorted within place grown =
    let count = length lists in
    let here : link ≡ 0 + link = omega arith in
    let before = list_at lists old link marks sorted within place in
    let more : ℕ → List Value = λ l. gave_over l (marks ++ Gave link value ∷ []) in
    let after : values_of new.items ≡ more (0 + link) =
    grown ∙ ap (λ front. front ++ value ∷ []) before ∙ sym (here_more link value marks) ∙ ap more here in
    map-set (λ list. values_of list.items) lists link new
    ∙ ap (λ all. set all link (values_of new.items)) sorted ∙ ap (λ last. set (given_lists count marks) link last) after
    ∙ set_number (λ l. gave_over l marks) more 0 count link within (λ l away. other_more link l value marks (λ at. away (at ∙ here)))

-- a mark that gave over a link with no list
pub sorted_other : (links link : ℕ) (value : Value) (marks : List Mark) → links ≤ link → given_lists links marks ≡ given_lists links (marks ++ Gave link value ∷ [])
sorted_other links link value marks out =
    same_numbers (λ l. gave_over l marks) (λ l. gave_over l (marks ++ Gave link value ∷ [])) 0 links (λ l low high. other_more link l value marks (λ at. omega (arith, at)))

-- a mark that gave nothing
gives_none : (links : ℕ) (mark : Mark) (marks : List Mark) → ((l : ℕ) → gave_over l (mark ∷ []) ≡ []) → given_lists links marks ≡ given_lists links (marks ++ mark ∷ [])
gives_none links mark marks none =
    same_numbers (λ l. gave_over l marks) (λ l. gave_over l (marks ++ mark ∷ [])) 0 links
    (λ l low high. sym (gave_more (λ m. m == l) marks mark ∙ ap (λ last. gave_over l marks ++ last) (none l) ∙ append-nil (gave_over l marks)))

pub sorted_none : (links : ℕ) (mark : Mark) (marks : List Mark) → ((link : ℕ) (value : Value) → mark ≡ Gave link value → ⊥) → given_lists links marks ≡ given_lists links (marks ++ mark ∷ [])
sorted_none links (Gave link value) marks other = absurd (other link value refl)
sorted_none links (Took port link value) marks other = gives_none links (Took port link value) marks (λ l. refl)
sorted_none links (Complete port) marks other = gives_none links (Complete port) marks (λ l. refl)
sorted_none links (Fault number) marks other = gives_none links (Fault number) marks (λ l. refl)
sorted_none links Done marks other = gives_none links Done marks (λ l. refl)

-- one more list, of a link over which nothing was given yet
pub nothing_more : {Z : Type 0} (lists : List (Vec (Bor Value) Z)) (new : Vec (Bor Value) Z) (links : ℕ) → lists_of lists ≡ given_lists links [] → new.items ≡ []
    → lists_of (lists ++ new ∷ []) ≡ given_lists (links + 1) []
nothing_more lists new links before none =
    map-append (λ list. values_of list.items) lists (new ∷ []) ∙ ap (λ last. lists_of lists ++ last ∷ []) (ap values_of none) ∙ ap (λ front. front ++ [] ∷ []) before
    ∙ sym (ap (map (λ link. gave_over link [])) (below_more links) ∙ map-append (λ link. gave_over link []) (below links) (links ∷ []))

-- one more mark of a journal
pub sorted_next : {Z : Type 0} (old new : List (Vec (Bor Value) Z)) (links : ℕ) (journal : List Mark) (at : ℕ) (mark : Mark) → at < length journal → mark ≡ get_or journal at mark
    → lists_of old ≡ given_lists links (take at journal) → ((marks : List Mark) → lists_of old ≡ given_lists (length old) marks → lists_of new ≡ given_lists (length old) (marks ++ mark ∷ []))
    → lists_of new ≡ given_lists links (take (at + 1) journal)
sorted_next old new links journal at mark within is sorted step =
    let count = length_sorted old links (take at journal) sorted in
    let before = step (take at journal) (sorted_whole old links (take at journal) sorted) in
    before ∙ ap (λ n. given_lists n (take at journal ++ mark ∷ [])) (sym count) ∙ ap (given_lists links) (sym (take-next journal at mark within is))
