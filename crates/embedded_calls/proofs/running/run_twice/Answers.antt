use Rattle.std.proofs.Common.{◌∙◌, ap}
use Rattle.embedded_calls.specs.declared.running.Reading.{Reading}
use Rattle.embedded_calls.specs.Readings.{reading_from}
use Rattle.embedded_calls.proofs.Evaluated.{first_reading, second_reading}
use Rattle.embedded_calls.proofs.running.run_twice.Goals as goal

pub returns-clause-first : goal.returns-clause-first
returns-clause-first c = c.in_ok-first.ensures.reading ∙ first_reading

pub returns-clause-second : goal.returns-clause-second
returns-clause-second c = c.in_ok-second.ensures.reading ∙ (ap (λ (r : Reading). reading_from r.accounts) (c.in_ok-first.ensures.reading ∙ first_reading) ∙ second_reading)
