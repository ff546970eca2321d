pub mod HintRule
pub mod HintLaws
pub mod HintQueues
pub mod Hints
pub mod HintLists
pub mod Rounds
