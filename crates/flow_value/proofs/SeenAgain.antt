-- A row whose values are seen is the row again.
use Rattle.std.proofs.Common.{◌≡◌}
use Rattle.flow_value.specs.Items.{Items}
use Rattle.flow_value.specs.View.{items_from, values_of, items_from-values_of}

pub row_again : (items : Items) → items_from (values_of items) ≡ items
row_again items = items_from-values_of items
