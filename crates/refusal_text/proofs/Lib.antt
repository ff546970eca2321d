mod RefusalFacts
mod PairFacts
mod OrderFacts
