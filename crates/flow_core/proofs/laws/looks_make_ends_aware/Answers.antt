use Rattle.flow_core.proofs.AllLook.{all_looks_keep, looks_leave_posted, looks_write_no_mark}
use Rattle.flow_core.proofs.NetworksInOrder.{nets_in_order_are_lawful}
use Rattle.flow_core.proofs.laws.looks_make_ends_aware.Goals as goal

pub returns-clause-lawful : goal.returns-clause-lawful
returns-clause-lawful g c = nets_in_order_are_lawful _

pub returns-clause-keeps : goal.returns-clause-keeps
returns-clause-keeps g c = all_looks_keep _

pub returns-clause-marks : goal.returns-clause-marks
returns-clause-marks g c = looks_write_no_mark _

pub returns-clause-posted : goal.returns-clause-posted
returns-clause-posted g c = looks_leave_posted _
