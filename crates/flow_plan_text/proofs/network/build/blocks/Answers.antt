use Rattle.std.proofs.lemmas.Result.{err_from_is_err_and}
use Rattle.toml.specs.View.{view, table_view}
use Rattle.flow_plan_text.specs.Read.{IsBlock, is_sound_in}
use Rattle.flow_plan_text.specs.declared.network.keys.Part.TheVariants.{Block}
use Rattle.flow_plan_text.proofs.TablesRead.{all_at, table_known, table_sound, each_more, blocks_refused}
use Rattle.flow_plan_text.proofs.network.build.blocks.Goals as goal

pub table_of-table-requires : goal.table_of-table-requires
table_of-table-requires c =
    table_known Block (view c.index-tables-number.result)
    (all_at (is_sound_in Block) c.args.tables.now c.loop-number.number c.index-tables-number.result c.requires c.loop-number-test.true c.index-tables-number.is)

pub block-requires : goal.block-requires
block-requires c =
    table_sound Block (view c.index-tables-number.result) (table_view c.table_of-table.result.now)
    (all_at (is_sound_in Block) c.args.tables.now c.loop-number.number c.index-tables-number.result c.requires c.loop-number-test.true c.index-tables-number.is)
    c.table_of-table.ensures

pub loop-number-preserved : goal.loop-number-preserved
loop-number-preserved c =
    rw c.in_ok-push.ensures.items
    (each_more IsBlock c.args.tables.now c.loop-number.number c.loop-number.blocks.items c.index-tables-number.result
    (table_view c.table_of-table.result.now) c.in_ok-block.block c.loop-number.invariant c.loop-number-test.true c.index-tables-number.is c.table_of-table.ensures c.in_ok-block.ensures)

pub returns-in_err-block : goal.returns-in_err-block
returns-in_err-block c =
    let p = err_from_is_err_and c.from_residual.result c.from_residual.ensures.1 in
    rw (p.1, p.2)
    (blocks_refused c.args.tables.now c.loop-number.number c.index-tables-number.result (table_view c.table_of-table.result.now)
    c.loop-number.blocks.items c.in_err-block.field-0.0 c.loop-number-test.true c.index-tables-number.is c.table_of-table.ensures c.in_err-block.ensures c.loop-number.invariant)
