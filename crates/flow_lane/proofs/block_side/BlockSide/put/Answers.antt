use Rattle.std.proofs.Common.{rules, ◌≡◌, refl}
use Rattle.flow_lane.specs.Items.{as_job, as_result, state_of, state_in, ticket_of}
use Rattle.flow_lane.specs.Sides.{filling, putting}
use Rattle.flow_lane.specs.Views.{block_in}
use Rattle.flow_lane.proofs.BlockStepsKeep.{is_now, out_seat, put_is, puts, quiet_now, takes_out, was_free, written}
use Rattle.flow_lane.proofs.JobsInSlots.{one_job}
use Rattle.flow_lane.proofs.StandingsTell.{told_now}
use Rattle.flow_lane.proofs.block_side.BlockSide.put.Goals as goal

pub load-found-requires : goal.load-found-requires
load-found-requires g c = (search rules, search rules, takes_out as_job as_result state_of state_in _ _ c.self.inside.seat.me c.self.invariant.me_is c.self.invariant.quiet)

pub store-requires : goal.store-requires
store-requires g c =
    let me = c.self.inside.seat.me in
    let told = c.load-found.ensures.2 in
    let same : c.load-found.result ≡ c.word_of-free.result = search rules in
    let stage = was_free me told.0 _ _ c.self.invariant.quiet told.1 c.word_of-free.ensures same told.3 in
    let out = out_seat me _ told.0 _ _ c.self.invariant.me_is stage told.1 c.word_of-free.ensures same told.2 in
    let now = written _ _ _ _ _ out c.exchange.ensures.3 in
    (search rules, search rules, puts as_job as_result state_of state_in _ _ _ (filling (block_in me.0)) c.args.job _ one_job now refl c.word_of.ensures)

pub invariant_of-self-2 : goal.invariant_of-self-2
invariant_of-self-2 g c =
    let me = c.self.inside.seat.me in
    let told = c.load-found.ensures.2 in
    let same : c.load-found.result ≡ c.word_of-free.result = search rules in
    let stage = was_free me told.0 _ _ c.self.invariant.quiet told.1 c.word_of-free.ensures same told.3 in
    let out = out_seat me _ told.0 _ _ c.self.invariant.me_is stage told.1 c.word_of-free.ensures same told.2 in
    let now = written _ _ _ _ _ out c.exchange.ensures.3 in
    let side = putting (state_of c.args.job) (block_in me.0) in
    let is = put_is as_job as_result state_of state_in _ _ (filling (block_in me.0)) c.args.job now c.store.ensures.2 in record {
      words = search rules;
      slots = search rules;
      me_is = is_now _ side is;
      quiet = quiet_now _ side _ is tt;
      told = told_now ticket_of _ side _ _ is (search rules);
    }
