-- The one number that passes a test, as far as all were tried.
use Rattle.std.proofs.Common.{◌≡◌, ℕ, ◌+◌, ◌<◌, Bool, true, false, Option, Some, None, IfSome, is_some, length, refl, arith}
use Rattle.flow_link.proofs.ListTests.{never_both}
use Rattle.flow_link.specs.Plan.{ends_at_port}
use Rattle.flow_link.specs.Trace.{Run, link_of}
use Rattle.flow_net.proofs.FindersTell.{one_more}
use Rattle.flow_report.specs.SameLists.{LeadsAlone}

pub record FoundBelow (test : ℕ → Bool) (found : Option ℕ) (n : ℕ) : Type 0 where
  pub passes : IfSome found (λ k. (k < n) × (test k ≡ true))
  pub alone : (k : ℕ) → k < n → test k ≡ true → found ≡ Some k

module _ (test : ℕ → Bool) where
  pub none_found : FoundBelow test None 0
  none_found = record { passes = tt; alone = λ k low is. absurd (omega (arith, low)) }

  pub found_first : (found : Option ℕ) (n : ℕ) → FoundBelow test found n → is_some found ≡ false → test n ≡ true → FoundBelow test (Some n) (n + 1)
  found_first None n before none is = record {
    passes = (omega arith, is);
    alone = one_more (λ k. test k ≡ true → Some n ≡ Some k) n (λ k low so. let no = before.alone k low so in absurd (cc)) (λ so. refl);
  }
  found_first (Some k) n before none is = absurd (cc)

  pub found_same : (found : Option ℕ) (n : ℕ) → FoundBelow test found n → test n ≡ false → FoundBelow test found (n + 1)
  found_same found n before fails = record {
    passes = further found before.passes;
    alone = one_more (λ k. test k ≡ true → found ≡ Some k) n before.alone (λ so. never_both (test n) so fails);
  }
    where
      further : (found : Option ℕ) → IfSome found (λ k. (k < n) × (test k ≡ true)) → IfSome found (λ k. (k < n + 1) × (test k ≡ true))
      further None passes = tt
      further (Some k) passes = (omega (arith, passes.0), passes.1)

-- the one link that was found among all leads alone
pub found_alone : {W : Type 0} (run : Run W) (b p n : ℕ) (found : Option ℕ) → n ≡ length run.layout.links
    → FoundBelow (λ k. ends_at_port b p (link_of run k).target) found n → IfSome found (LeadsAlone run b p)
found_alone run b p n None all before = tt
found_alone run b p n (Some l) all before = record {
  there = omega (arith, all, before.passes.0);
  leads = before.passes.1;
  alone = λ k low is. let same = before.alone k (omega (arith, all, low)) is in cc;
}
