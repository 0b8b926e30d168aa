-- A network is lawful when each of its parts keeps its own laws.
use Rattle.flow_lawful.specs.Composes.{Composes}
use Rattle.flow_lawful.proofs.LinksByParts.{links_keep, marks_keep, blocks_make}
use Rattle.flow_lawful.proofs.CopiesByParts.{copies_keep, order_keeps}
use Rattle.flow_lawful.proofs.EndingsByParts.{counts_keep, ends_keep}

pub composes : (W : Type 0) → Composes W
composes W run ends keep = record {
  shape = keep.shape;
  link_law = links_keep run ends keep;
  one_taker = marks_keep run ends keep;
  making = blocks_make run ends keep;
  counts = counts_keep run ends keep;
  copies = copies_keep run ends keep;
  endings = ends_keep run ends keep;
  link_order = order_keeps run ends keep;
}
