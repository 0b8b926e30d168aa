use Rattle.std.proofs.lemmas.Result.{err_from_is_err_and}
use Rattle.toml.specs.View.{view, table_view}
use Rattle.flow_plan_text.specs.Read.{IsLink, is_sound_in}
use Rattle.flow_plan_text.specs.declared.network.keys.Part.TheVariants.{Link}
use Rattle.flow_plan_text.proofs.TablesRead.{all_at, table_known, table_sound, each_more, links_refused}
use Rattle.flow_plan_text.proofs.network.build.links.Goals as goal

pub table_of-table-requires : goal.table_of-table-requires
table_of-table-requires c =
    table_known Link (view c.index-tables-number.result)
    (all_at (is_sound_in Link) c.args.tables.now c.loop-number.number c.index-tables-number.result c.requires c.loop-number-test.true c.index-tables-number.is)

pub link-requires : goal.link-requires
link-requires c =
    table_sound Link (view c.index-tables-number.result) (table_view c.table_of-table.result.now)
    (all_at (is_sound_in Link) c.args.tables.now c.loop-number.number c.index-tables-number.result c.requires c.loop-number-test.true c.index-tables-number.is)
    c.table_of-table.ensures

pub loop-number-preserved : goal.loop-number-preserved
loop-number-preserved c =
    rw c.in_ok-push.ensures.items
    (each_more IsLink c.args.tables.now c.loop-number.number c.loop-number.links.items c.index-tables-number.result
    (table_view c.table_of-table.result.now) c.in_ok-link.link c.loop-number.invariant c.loop-number-test.true c.index-tables-number.is c.table_of-table.ensures c.in_ok-link.ensures)

pub returns-in_err-link : goal.returns-in_err-link
returns-in_err-link c =
    let p = err_from_is_err_and c.from_residual.result c.from_residual.ensures.1 in
    rw (p.1, p.2)
    (links_refused c.args.tables.now c.loop-number.number c.index-tables-number.result (table_view c.table_of-table.result.now)
    c.loop-number.links.items c.in_err-link.field-0.0 c.loop-number-test.true c.index-tables-number.is c.table_of-table.ensures c.in_err-link.ensures c.loop-number.invariant)
