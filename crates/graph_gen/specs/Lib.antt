pub mod MadeGraph
pub mod Laws
