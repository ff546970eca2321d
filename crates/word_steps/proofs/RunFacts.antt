-- What is cited here of how the state of a run is proved to stay sound, beside its laws.
pub use Rattle.run_state.proofs.Columns.{column_back-sound, column_out-sound, column_unused-sound, had_not_home, had_one, had_there, home_one}
pub use Rattle.run_state.proofs.Locks.{free-sound, hold-sound, let_go-sound}
pub use Rattle.run_state.proofs.Phases.{arrive-sound}
pub use Rattle.run_state.proofs.QuietTrace.{clock_small}
pub use Rattle.run_state.proofs.Ranks.{cell_of_point}
pub use Rattle.run_state.proofs.Reading.{column_read-sound, read_leaves}
pub use Rattle.run_state.proofs.Sharing.{change_accesses, changes_or_reads}
pub use Rattle.run_state.proofs.Stages.{claim-sound, close-sound, ending-sound, issue-sound, unclaim-sound}
pub use Rattle.run_state.proofs.Start.{start_is_sound}
pub use Rattle.run_state.proofs.Taken.{column_space_is}
pub use Rattle.run_state.proofs.Times.{draw-sound}
pub use Rattle.run_state.proofs.Work.{sight_cells, sight_does}
