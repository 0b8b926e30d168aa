-- How a network tells the fault of an outlet.
use Rattle.flow_outlet.specs.declared.fault.OutletFault.{OutletFault}
use Rattle.flow_outlet.specs.declared.fault.OutletFault.TheVariants as outlet
use Rattle.flow_net.specs.declared.fault.NetFault.{NetFault}
use Rattle.flow_net.specs.declared.fault.NetFault.TheVariants as net

abbrev pub fault_of : OutletFault → NetFault
fault_of outlet.Ids = net.Ids
fault_of outlet.Memory = net.Memory
