pub mod FirstInPass
pub mod KeyTestsTell
pub mod NoPlanFor
pub mod TablesRead
pub mod TablesSound
