-- What is cited here of how the state of a run is proved to stay sound, beside its laws.
pub use Rattle.run_state.proofs.QuietTrace.{clock_small}
pub use Rattle.run_state.proofs.Told.{kept_is_ended}
