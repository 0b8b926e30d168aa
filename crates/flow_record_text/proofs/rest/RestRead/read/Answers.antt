use Rattle.std.proofs.Common.{rules, ◌≤◌, length, arith}
use Rattle.flow_record_text.proofs.RestRead.{over-read}
use Rattle.flow_record_text.proofs.rest.RestRead.read.Goals as goal

pub returns-then-self-len-clause-bytes : goal.returns-then-self-len-clause-bytes
returns-then-self-len-clause-bytes g c =
    let over : length c.args.self.now.front.items ≤ c.args.self.now.at = search rules in
    over-read c.args.self.now.front.items c.args.self.now.at _ _ _ _ over c.read.ensures.bytes
