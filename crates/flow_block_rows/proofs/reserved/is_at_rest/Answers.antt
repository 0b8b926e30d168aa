use Rattle.std.proofs.Common.{◌≡◌, ◌==◌, ℕ, Bool, true, false, ap, sym, ◌∙◌}
use Rattle.std.specs.Bool.{OnTrue}
use Rattle.flow_link.specs.SourceCalls.{NothingOut}
use Rattle.flow_outlet.specs.End.{is_away, count_at}
use Rattle.flow_spread.specs.Spread.{is_at_rest}
use Rattle.flow_block.specs.Block.{BlockState}
use Rattle.flow_block.specs.Traits.{source_at}
use Rattle.flow_block_rows.proofs.NothingUnderWay.{rests_tell}
use Rattle.flow_block_rows.proofs.reserved.is_at_rest.Goals as goal

told : (rests : Bool) (block : BlockState) → (count_at is_away block.exits.ends == 0) ≡ true → rests ≡ is_at_rest block.copies
    → OnTrue rests (NothingOut (source_at block))
told true block exits is = rests_tell block exits (sym is)
told false block exits is = tt

pub returns-then-away_count-eq0 : goal.returns-then-away_count-eq0
returns-then-away_count-eq0 c =
    told c.is_at_rest.result c.args.block.now (ap (λ (n : ℕ). n == 0) (sym c.away_count.ensures ∙ c.if-away_count-eq0.true))
    (c.is_at_rest.ensures ∙ ap is_at_rest c.copies.ensures)
