use Rattle.std.proofs.Common.{rules, ◌≡◌, ◌+◌, map, sym, ap, ◌∙◌, subst, arith}
use Rattle.flow_task.specs.Parts.{AllWatchesOf, watched_block}
use Rattle.flow_task.proofs.Makes.{numbers_on, watches_on}
use Rattle.flow_task.proofs.board.Board.make_watches.Goals as goal

pub loop-block-preserved : goal.loop-block-preserved
loop-block-preserved g c =
    let i = c.loop-block.invariant in
    let watches = c.loop-block.watches.items in
    let grown = c.push_reserved.ensures.items in
    let first : watched_block c.make_watch.result ≡ 0 + c.loop-block.block = (let is = c.make_watch.ensures.block in omega (arith, is)) in
    record {
      of = subst (AllWatchesOf c.args.self.now) (sym grown)
          (watches_on c.args.self.now watches c.make_watch.result i.of c.make_watch.ensures.of);
      blocks = ap (map watched_block) grown ∙ numbers_on watched_block 0 c.loop-block.block watches c.make_watch.result i.blocks first;
      count = search rules;
      room = search rules;
    }
