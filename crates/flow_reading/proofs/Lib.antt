pub mod PortsGrow
