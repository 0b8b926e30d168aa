use Rattle.flow_report.proofs.PlainText.{plain_is}
use Rattle.flow_report.proofs.value_text.is_plain.Goals as goal

pub returns : goal.returns
returns c = rw c.is_plain_byte.ensures (plain_is c.args.byte)
