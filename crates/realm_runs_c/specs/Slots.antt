-- How many event slots a run has, where a caller asks for some, or leaves it to the run.
use Rattle.std.specs.Prelude.{ℕ, max, cond, ◌==◌}
use Rattle.event_table.specs.declared.limits.TheConstants.{MAX_SLOTS}
use Rattle.realm_runs_c.specs.declared.starting.TheConstants.{DEFAULT_SLOTS}

-- how many slots a run has: those that are asked for, and where 0 are the greater of 256 and the need
abbrev pub slots_for : ℕ → ℕ → ℕ
slots_for asked need = cond (asked == 0) (max need DEFAULT_SLOTS) asked

-- how many it may have at most: those that are asked for, and where 0 are the most that a table has
abbrev pub most_slots : ℕ → ℕ
most_slots asked = cond (asked == 0) MAX_SLOTS asked
