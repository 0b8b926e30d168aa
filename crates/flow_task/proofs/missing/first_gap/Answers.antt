use Rattle.std.proofs.Common.{rules, ◌≡◌, ℕ, ◌+◌, ◌-◌, length, map, sym, ◌∙◌, subst, arith}
use Rattle.std.proofs.lemmas.List.{get_or_default}
use Rattle.flow_link.specs.Lists.{numbers_from}
use Rattle.flow_task.specs.Absent.{AllDiffer, HasAll, IsGap}
use Rattle.flow_task.proofs.Gaps.{Counted, counted_has, gap_here, gap_after, none_after, told_none, told_some}
use Rattle.flow_task.proofs.missing.first_gap.Goals as goal

pub returns-then-number-expected-clause-missing : goal.returns-then-number-expected-clause-missing
returns-then-number-expected-clause-missing g c =
    let i = c.loop-part.invariant in
    let r = c.requires in
    let other : g.T.Numbered.says c.part-item.result ≡ c.args.first + c.loop-part.part-index → ⊥ = λ same. absurd (search rules) in
    λ differ. subst (IsGap g.T.Numbered.says c.args.first c.args.end c.args.parts.now) (sym i.0)
    (gap_here g.T.Numbered.says c.args.parts.now c.args.first c.args.end c.loop-part.part-index c.part-item.result (omega arith)
    (λ d. get_or_default c.args.parts.now c.loop-part.part-index d c.part-item.result (omega arith) ∙ sym c.part-item.is)
    i.1.1 other r.low r.high r.rise differ)

pub returns-then-number-expected-clause-before : goal.returns-then-number-expected-clause-before
returns-then-number-expected-clause-before g c =
    let i = c.loop-part.invariant in
    subst (λ (n : ℕ). HasAll g.T.Numbered.says c.args.first n c.args.parts.now) (sym i.0)
    (counted_has g.T.Numbered.says c.args.parts.now c.args.first c.loop-part.part-index (search rules) i.1.1)

pub returns-clause-all : goal.returns-clause-all
returns-clause-all g c =
    let i = c.loop-part.invariant in
    let done : c.loop-part.part-index ≡ length c.args.parts.now = omega (arith, c.loop-part-test.false, c.loop-part.auto.part-index-end) in
    let counted = subst (λ (n : ℕ). Counted g.T.Numbered.says c.args.first n c.args.parts.now) done i.1.1 in
    told_none (map g.T.Numbered.says c.args.parts.now ≡ numbers_from c.args.first (c.args.end - c.args.first)) _ _ _ _ c.then_some.ensures (λ more.
    none_after g.T.Numbered.says c.args.parts.now c.args.first c.args.end counted (omega (arith, more, i.0, i.1.0, done)))

pub returns-clause-missing : goal.returns-clause-missing
returns-clause-missing g c =
    let i = c.loop-part.invariant in
    let done : c.loop-part.part-index ≡ length c.args.parts.now = omega (arith, c.loop-part-test.false, c.loop-part.auto.part-index-end) in
    let counted = subst (λ (n : ℕ). Counted g.T.Numbered.says c.args.first n c.args.parts.now) done i.1.1 in
    let last : c.loop-part.expected ≡ c.args.first + length c.args.parts.now = omega (arith, i.0, done) in
    told_some (λ n. AllDiffer g.T.Numbered.says c.args.parts.now → IsGap g.T.Numbered.says c.args.first c.args.end c.args.parts.now n) _ _ _ _ c.then_some.ensures (λ less differ.
    subst (IsGap g.T.Numbered.says c.args.first c.args.end c.args.parts.now) (sym last)
    (gap_after g.T.Numbered.says c.args.parts.now c.args.first c.args.end counted (omega (arith, less, last))))

pub returns-clause-before : goal.returns-clause-before
returns-clause-before g c =
    let i = c.loop-part.invariant in
    told_some (λ n. HasAll g.T.Numbered.says c.args.first n c.args.parts.now) _ _ _ _ c.then_some.ensures (λ less.
    subst (λ (n : ℕ). HasAll g.T.Numbered.says c.args.first n c.args.parts.now) (sym i.0)
    (counted_has g.T.Numbered.says c.args.parts.now c.args.first c.loop-part.part-index (omega (arith, c.loop-part.auto.part-index-end)) i.1.1))
