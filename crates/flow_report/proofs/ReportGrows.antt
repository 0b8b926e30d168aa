-- How a report grows by one more line, and which links are those of inputs and exits.
use Rattle.std.proofs.Common.{◌≡◌, ◌<◌, ◌≤◌, ◌+◌, ◌-◌, zero-add, ℕ, suc, zero, map, cond, count_by, List, [], ◌∷◌, ◌++◌, length, take, get_or, refl, ap, sym, ◌∙◌, arith, append_assoc, length-append, Option, Bool, true, false}
use Rattle.std.proofs.lemmas.List.{append-nil, map-append, length-take, get_or-append-add, get_or_default}
use Rattle.std.proofs.Math.ListN.{get_or-append}
use Rattle.std.proofs.lemmas.List.Sums.{sum_by-append, sum_by-cons, sum_by-take-le}
use Rattle.std.proofs.Math.Seq.{take-length}
use Rattle.std.proofs.lemmas.List.Elements.{filter-append}
use Rattle.std.specs.List.{filter, concat}
use Rattle.std.specs.Io.KnownBytes.{Appends}
use Rattle.flow_link.proofs.ListTests.{below_more}
use Rattle.flow_link.specs.Lists.{below}
use Rattle.flow_link.specs.declared.draft.BlockDef.{BlockDef}
use Rattle.flow_link.specs.Layout.{input_link as the_input_link, input_links, IsLaidOut, between_of, exit_link as the_exit_link, exit_links, outer_links}
use Rattle.flow_link.specs.declared.plan.Link.{Link}
use Rattle.flow_link.specs.Plan.{block_in, link_in, no_block, no_link}
use Rattle.flow_report.specs.Report.{is_input, is_output}
use Rattle.flow_report.proofs.ListsGrow.{take-next}
use Rattle.flow_report.proofs.PrintedGrows.{appends-both}

-- one more line
concat-more : (lines : List (List ℕ)) (line : List ℕ) → concat (lines ++ line ∷ []) ≡ concat lines ++ line
concat-more [] line = append-nil line
concat-more (x ∷ lines) line = ap (λ rest. x ++ rest) (concat-more lines line) ∙ sym (append_assoc x (concat lines) line)

pub lines-more : (f : ℕ → List ℕ) (n : ℕ) (old mid new : Option (List ℕ)) → Appends old mid (concat (map f (below n))) → Appends mid new (f n)
    → Appends old new (concat (map f (below (n + 1))))
lines-more f n old mid new before last =
    let grown : concat (map f (below (n + 1))) ≡ concat (map f (below n)) ++ f n =
    ap (λ ns. concat (map f ns)) (below_more n) ∙ ap concat (map-append f (below n) (n ∷ [])) ∙ concat-more (map f (below n)) (f n) in
    rw grown (appends-both old mid new _ _ before last)

-- the same, of the numbers that pass
pub lines-more_if : (test : ℕ → Bool) (f : ℕ → List ℕ) (n : ℕ) (old mid new : Option (List ℕ)) → test n ≡ true
    → Appends old mid (concat (map f (filter test (below n)))) → Appends mid new (f n) → Appends old new (concat (map f (filter test (below (n + 1)))))
lines-more_if test f n old mid new passes before last =
    let kept : filter test (below (n + 1)) ≡ filter test (below n) ++ n ∷ [] =
    ap (filter test) (below_more n) ∙ filter-append test (below n) (n ∷ []) ∙ ap (λ b. filter test (below n) ++ cond b (n ∷ []) []) passes in
    let grown : concat (map f (filter test (below (n + 1)))) ≡ concat (map f (filter test (below n))) ++ f n =
    ap (λ ns. concat (map f ns)) kept ∙ ap concat (map-append f (filter test (below n)) (n ∷ [])) ∙ concat-more (map f (filter test (below n))) (f n) in
    rw grown (appends-both old mid new _ _ before last)

pub lines-same : (test : ℕ → Bool) (n : ℕ) → test n ≡ false → filter test (below (n + 1)) ≡ filter test (below n)
lines-same test n fails =
    ap (filter test) (below_more n) ∙ filter-append test (below n) (n ∷ []) ∙ ap (λ b. filter test (below n) ++ cond b (n ∷ []) []) fails ∙ append-nil _

-- one more block that is counted, or not
pub count-next : {A : Type 0} (test : A → Bool) (xs : List A) (at : ℕ) (x : A) → at < length xs → x ≡ get_or xs at x
    → count_by test (take (at + 1) xs) ≡ count_by test (take at xs) + cond (test x) 1 0
count-next test xs at x within is =
    ap (count_by test) (take-next xs at x within is) ∙ sum_by-append (λ y. cond (test y) 1 0) (take at xs) (x ∷ [])
    ∙ ap (λ n. count_by test (take at xs) + n) (zero-add (cond (test x) 1 0))

pub count-all : {A : Type 0} (test : A → Bool) (xs : List A) (n : ℕ) → n ≡ length xs → count_by test (take n xs) ≡ count_by test xs
count-all test xs n all = ap (count_by test) (ap (λ m. take m xs) all ∙ take-length xs)

pub count-before : {A : Type 0} (test : A → Bool) (xs : List A) (at : ℕ) (x : A) → at < length xs → x ≡ get_or xs at x → test x ≡ true
    → count_by test (take at xs) < count_by test xs
count-before test xs at x within is passes =
    let grown : count_by test (take (at + 1) xs) ≡ count_by test (take at xs) + 1 = count-next test xs at x within is ∙ ap (λ b. count_by test (take at xs) + cond b 1 0) passes in
    omega (arith, grown, sum_by-take-le (λ y. cond (test y) 1 0) xs (at + 1))

pub count-few : {A : Type 0} (test : A → Bool) (xs : List A) (at : ℕ) → count_by test (take at xs) ≤ count_by test xs
count-few test xs at = sum_by-take-le (λ y. cond (test y) 1 0) xs at

-- inputs and exits are what the outer links are for
length-inputs : {W : Type 0} (first : ℕ) (blocks : List (BlockDef W)) → length (input_links first blocks) ≡ count_by is_input blocks
length-inputs first [] = refl
length-inputs first (block ∷ blocks) =
    length-append (cond block.input (the_input_link first ∷ []) []) (input_links (suc first) blocks)
    ∙ ap (λ n. length (cond block.input (the_input_link first ∷ []) []) + n) (length-inputs (suc first) blocks)
    ∙ ap (λ n. n + count_by is_input blocks) (one block.input)
    ∙ sym (sum_by-cons (λ (b : BlockDef _). cond (is_input b) 1 0) block blocks)
  where
    one : (b : Bool) → length (cond b (the_input_link first ∷ []) []) ≡ cond b 1 0
    one true = refl
    one false = refl

length-exits : {W : Type 0} (first : ℕ) (blocks : List (BlockDef W)) → length (exit_links first blocks) ≡ count_by is_output blocks
length-exits first [] = refl
length-exits first (block ∷ blocks) =
    length-append (cond block.output (the_exit_link first ∷ []) []) (exit_links (suc first) blocks)
    ∙ ap (λ n. length (cond block.output (the_exit_link first ∷ []) []) + n) (length-exits (suc first) blocks)
    ∙ ap (λ n. n + count_by is_output blocks) (one block.output)
    ∙ sym (sum_by-cons (λ (b : BlockDef _). cond (is_output b) 1 0) block blocks)
  where
    one : (b : Bool) → length (cond b (the_exit_link first ∷ []) []) ≡ cond b 1 0
    one true = refl
    one false = refl

pub length-outer : {W : Type 0} (blocks : List (BlockDef W)) → length (outer_links blocks) ≡ count_by is_input blocks + count_by is_output blocks
length-outer blocks =
    length-append (input_links 0 blocks) (exit_links 0 blocks) ∙ ap (λ n. n + length (exit_links 0 blocks)) (length-inputs 0 blocks)
    ∙ ap (λ n. count_by is_input blocks + n) (length-exits 0 blocks)

one-plus : (n : ℕ) → 1 + n ≡ suc n
one-plus n = omega arith

in-place : {W : Type 0} (blocks : List (BlockDef W)) (b : ℕ) → b < length blocks → block_in blocks b ≡ get_or blocks b (block_in blocks b)
in-place blocks b within = get_or_default blocks b no_block (block_in blocks b) within

-- the link of an input stands at its number
input-link_at : {W : Type 0} (first : ℕ) (blocks : List (BlockDef W)) (b : ℕ) (d : Link) → b < length blocks → (block_in blocks b).input ≡ true
    → get_or (input_links first blocks) (count_by is_input (take b blocks)) d ≡ the_input_link (first + b)
input-link_at first [] b d within on = absurd (omega arith)
input-link_at first (block ∷ blocks) zero d within on =
    let here : first + 0 ≡ first = omega arith in
    rw (on, here) refl
input-link_at first (block ∷ blocks) (suc b) d within on =
    let place : suc first + b ≡ first + suc b = omega arith in
    let rest = input-link_at (suc first) blocks b d (omega arith) on in
    ap (λ n. get_or (input_links first (block ∷ blocks)) n d) (sum_by-cons (λ (x : BlockDef _). cond (is_input x) 1 0) block (take b blocks))
    ∙ behind block.input ∙ rest ∙ ap the_input_link place
  where
    behind : (on : Bool) → get_or (cond on (the_input_link first ∷ []) [] ++ input_links (suc first) blocks) (cond on 1 0 + count_by is_input (take b blocks)) d
        ≡ get_or (input_links (suc first) blocks) (count_by is_input (take b blocks)) d
    behind true = ap (λ n. get_or (the_input_link first ∷ input_links (suc first) blocks) n d) (one-plus (count_by is_input (take b blocks)))
    behind false = ap (λ n. get_or (input_links (suc first) blocks) n d) (zero-add (count_by is_input (take b blocks)))

pub outer-fit : {W : Type 0} (blocks : List (BlockDef W)) (links : List Link) → IsLaidOut blocks links → length (outer_links blocks) ≤ length links
outer-fit blocks links laid_out =
    let all = ap length laid_out.in_order ∙ length-append (between_of blocks links) (outer_links blocks) in
    omega (arith, all)

pub laid-out_input : {W : Type 0} (blocks : List (BlockDef W)) (links : List Link) (b : ℕ) → IsLaidOut blocks links → b < length blocks → (block_in blocks b).input ≡ true
    → link_in links (length links - length (outer_links blocks) + count_by is_input (take b blocks)) ≡ the_input_link b
laid-out_input blocks links b laid_out within on =
    let before = count-before is_input blocks b (block_in blocks b) within (in-place blocks b within) on in
    let count = length links - length (outer_links blocks) in
    let front : length (between_of blocks links) ≡ count = length-take count links ∙ omega arith in
    let inner : count_by is_input (take b blocks) < length (input_links 0 blocks) = omega (arith, length-inputs 0 blocks, before) in
    let place : count + count_by is_input (take b blocks) ≡ length (between_of blocks links) + count_by is_input (take b blocks) = omega (arith, front) in
    let here : 0 + b ≡ b = omega arith in
    ap (λ all. get_or all (count + count_by is_input (take b blocks)) no_link) laid_out.in_order
    ∙ ap (λ n. get_or (between_of blocks links ++ outer_links blocks) n no_link) place
    ∙ get_or-append-add (between_of blocks links) (outer_links blocks) (count_by is_input (take b blocks)) no_link
    ∙ get_or-append (input_links 0 blocks) (exit_links 0 blocks) no_link (count_by is_input (take b blocks)) inner
    ∙ input-link_at 0 blocks b no_link within on ∙ ap the_input_link here
