use Rattle.flow_crew.proofs.ComesBack.{back_at_once, back_further}
use Rattle.flow_open.proofs.tasks.turn_all.Goals.{in-None, in-Some+in-Ok-eq0+then-was_calm+then-news, in-Some+in-Err}
use Rattle.flow_open.proofs.tasks.turn_all.Goals as goal

pub loop-init : goal.loop-init
loop-init g c = back_at_once _ _ c.requires.of

pub loop-preserved-in-Ok-eq0 : goal.loop-preserved-in-Ok-eq0
loop-preserved-in-Ok-eq0 g c = back_further _ _ _ _ c.loop.invariant c.turn_once.ensures.back

pub loop-preserved : goal.loop-preserved
loop-preserved g c = back_further _ _ _ _ c.loop.invariant c.turn_once.ensures.back

pub returns : goal.returns
returns g c = record {
  back = elim c.match-next.branch [
    | in-None w ↦ rw w.tasks-is c.loop.invariant
    | in-Some+in-Ok-eq0+then-was_calm+then-news w ↦ rw w.tasks-is (back_further _ _ _ _ c.loop.invariant w.turn_once.ensures.back)
    | in-Some+in-Err w ↦ rw w.tasks-is (back_further _ _ _ _ c.loop.invariant w.turn_once.ensures.back)
  ];
}
