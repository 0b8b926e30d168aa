-- Each call keeps the outlet's law.
use Rattle.flow_outlet.specs.Keeps.{CallsKeepLaw, GivesInOrder}
use Rattle.flow_outlet.proofs.OffersKeepLaw.{looks_keep, offers_keep, puts_keep, sets_aside_keep, puts_aside_keep, prepares_keep, room_keeps}
use Rattle.flow_outlet.proofs.EndsKeepLaw.{given_admitted, given_in_order, gives_keep, fresh_keeps, holds_keep, denies_keep, withdraws_keep, ends_keep, fault_keeps, stop_keeps}

pub gives_in_order : GivesInOrder
gives_in_order = record {
  admitted = λ pending stopped o law k here may. given_admitted o law k here may;
  earlier = λ pending stopped o law k here may. given_in_order o law k here may;
}

pub calls_keep_law : CallsKeepLaw
calls_keep_law = record {
  fresh = fresh_keeps;
  put = puts_keep;
  set_aside = sets_aside_keep;
  put_aside = puts_aside_keep;
  prepare = prepares_keep;
  room_back = room_keeps;
  offer = offers_keep;
  look = λ pending stopped o law k here. looks_keep o law k here;
  give = λ pending stopped o law k here may room. gives_keep o law k here may room;
  hold = λ pending stopped o law k here may. holds_keep o law k here may;
  deny = λ pending stopped o law k here wish. denies_keep o law k here wish;
  withdraw = λ pending stopped o law k here wait up. withdraws_keep o law k here wait up;
  ends = λ pending stopped o law k here how free e. ends_keep o law k here how free e;
  fault = fault_keeps;
  stop = stop_keeps;
}
