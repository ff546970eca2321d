use Rattle.std.proofs.Common.{sym, arith}
use Rattle.std.specs.Prelude.{◌/◌}
use Rattle.refused_words.proofs.CallFacts.{event_part, fixed_part, column_part, space_part}
use Rattle.refused_words.proofs.places.access_place.Goals as goal

pub returns-then-k-accesses : goal.returns-then-k-accesses
returns-then-k-accesses c = sym (event_part c.args.accesses c.args.k (omega arith))

pub returns-then-part-eq0 : goal.returns-then-part-eq0
returns-then-part-eq0 c = sym (fixed_part c.args.accesses c.args.k (c.args.k / 3) (omega arith) (omega arith))

pub returns-then-k-accesses-2 : goal.returns-then-k-accesses-2
returns-then-k-accesses-2 c = sym (event_part c.args.accesses c.args.k (omega arith))

pub returns-then-part-eq1 : goal.returns-then-part-eq1
returns-then-part-eq1 c = sym (column_part c.args.accesses c.args.k (c.args.k / 3) (omega arith) (omega arith))

pub returns : goal.returns
returns c = sym (space_part c.args.accesses c.args.k (c.args.k / 3) (omega arith) (omega arith))
