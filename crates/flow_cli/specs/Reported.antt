-- What was run and reported, or why nothing was, where network and records stand in one text.
use Rattle.std.specs.Prelude.{◌≡◌, ℕ, List, Option, Some, None, IfSome}
use Rattle.flow_run.specs.Ran.{IsReported, IsUnreported}
use Rattle.flow_run.specs.Split.{IsSplit}
use Rattle.flow_run.specs.declared.outcome.Ran.{Ran}
use Rattle.flow_run.specs.declared.outcome.RunRefusal.{RunRefusal}

-- a network was run, and the report of it written; of the text and the records nothing is said
abbrev pub IsReportedOfAny : ℕ → ℕ → (List ℕ → Type 0) → Ran → Type 0
IsReportedOfAny workers limit Written ran = (text : List ℕ) × IsReported text None workers limit Written ran

-- a text was read whole, the network before its cut was run over the records behind it, and that was written; the text is what
-- the reader has, where that is known
pub record IsReportedIn (known : Option (List ℕ)) (workers limit : ℕ) (Written : List ℕ → Type 0) (ran : Ran) : Type 0 where
  pub text : List ℕ
  pub whole : IfSome known (λ bytes. text ≡ bytes)
  pub before : List ℕ
  pub after : List ℕ
  pub split : IsSplit text before after
  pub reported : IsReported before (Some after) workers limit Written ran

-- there was no run or no report, for this reason; of the text and the records nothing is said
abbrev pub IsRefusedOfAny : ℕ → ℕ → RunRefusal → Type 0
IsRefusedOfAny workers limit refusal = (text : List ℕ) × IsUnreported text None workers limit refusal

-- a text was read whole, and there was no run or no report of the network before its cut over the records behind it, for this
-- reason; the text is what the reader has, where that is known
pub record IsRefusedIn (known : Option (List ℕ)) (workers limit : ℕ) (refusal : RunRefusal) : Type 0 where
  pub text : List ℕ
  pub whole : IfSome known (λ bytes. text ≡ bytes)
  pub before : List ℕ
  pub after : List ℕ
  pub split : IsSplit text before after
  pub refused : IsUnreported before (Some after) workers limit refusal
