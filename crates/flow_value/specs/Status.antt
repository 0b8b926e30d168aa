-- The numbers of the answers to an offer.
use Rattle.std.specs.Prelude.{ℕ}
use Rattle.flow_value.specs.declared.message.MessageStatus.{MessageStatus}
use Rattle.flow_value.specs.declared.message.MessageStatus.TheVariants.{Accepted, Declined, Postponed, NotAvailable, DecliningPermanently}

abbrev pub status_number : MessageStatus → ℕ
status_number Accepted = 0
status_number Declined = 1
status_number Postponed = 2
status_number NotAvailable = 3
status_number DecliningPermanently = 4
