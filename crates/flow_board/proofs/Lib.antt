pub mod AllLooked
pub mod AskedNoMore
pub mod EventsGrow
pub mod JobsLooked
pub mod JournalsBegin
pub mod PartsKept
pub mod TakenAtHome
pub mod TargetsTake
