-- What has passed block by block has passed in all.
use Rattle.std.proofs.Common.{◌≡◌, ℕ, ◌+◌, ◌<◌, Bool, true, false, sym}
use Rattle.std.proofs.lemmas.Bool.{false_from_ne_true}
use Rattle.flow_link.specs.Lists.{every, below}
use Rattle.flow_link.proofs.ListTests.{every_below, passes_below}
use Rattle.flow_net.proofs.FindersTell.{one_more}

pub one_more_passes : (test : ℕ → Bool) (n : ℕ) → every test (below n) ≡ true → true ≡ test n → every test (below (n + 1)) ≡ true
one_more_passes test n before here =
    every_below test (n + 1) (one_more (λ (k : ℕ). test k ≡ true) n (λ k small. passes_below test n k before small) (cc))

pub one_fails : (test : ℕ → Bool) (count k : ℕ) → k < count → false ≡ test k → false ≡ every test (below count)
one_fails test count k small here = sym (false_from_ne_true (every test (below count)) (λ all. let passes = passes_below test count k all small in cc))
