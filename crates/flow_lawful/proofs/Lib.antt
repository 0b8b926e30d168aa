pub mod CopiesByParts
pub mod EndingsByParts
pub mod LawfulByParts
pub mod LinksAtRest
pub mod LinksByParts
pub mod QuietByParts
