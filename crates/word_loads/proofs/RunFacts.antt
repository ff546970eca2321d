-- What is cited here of how the state of a run is proved to stay sound, beside its laws.
pub use Rattle.run_state.proofs.Ranks.{cell_of_point}
pub use Rattle.run_state.proofs.Sharing.{changes_or_reads}
pub use Rattle.run_state.proofs.Taken.{column_space_is}
