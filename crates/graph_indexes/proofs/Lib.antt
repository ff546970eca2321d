pub mod StockLaws
pub mod ChainLaws
pub mod MarkLaws
