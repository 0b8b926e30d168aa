-- What a handle holds owns what a box of it does.
use mir.Syntax.{impl, tnil, dnil}
use mathlib.Core.List.{[]}
use Rattle.std_alloc.proofs.BoxSteps.Form.{Bx}
use Rattle.std_heap.specs.contracts.Global as heap
use Rattle.std_heap.specs.contracts.GlobalAllocator.TheImpl.{ghosts, dict}
use Rattle.std_heap.proofs.Global.TheLaws as heap_laws
use Rattle.bevelrose_c.specs.contracts.network.Network as held
use Rattle.bevelrose_c.proofs.network.Network.TheLaws as held_laws

abbrev pub E : Bx
E = record {
  row = held.the_row;
  laws = held_laws.the_row_laws;
  al = record { row = heap.the_row; laws = heap_laws.the_row_laws; g = ghosts; d = dict; drops = impl [] tnil dnil };
}
