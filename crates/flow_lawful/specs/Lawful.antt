-- A run is lawful: it has the shape of its network, and every law of its links and blocks holds.
use Rattle.flow_link.specs.Trace.{Run}
use Rattle.flow_lawful.specs.Shape.{Shape}
use Rattle.flow_lawful.specs.Law.{LinkLaw, OneTaker, Counts, LinkOrder}
use Rattle.flow_link.specs.Making.{Making}
use Rattle.flow_link.specs.Copies.{Copies}
use Rattle.flow_lawful.specs.Endings.{Endings}

pub record Lawful {W : Type 0} (run : Run W) : Type 0 where
  pub shape : Shape run
  pub link_law : LinkLaw run
  pub one_taker : OneTaker run
  pub making : Making run
  pub counts : Counts run
  pub copies : Copies run
  pub endings : Endings run
  pub link_order : LinkOrder run
