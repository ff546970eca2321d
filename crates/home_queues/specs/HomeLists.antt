-- What contracts see of all parts.
use Rattle.std.specs.Prelude.{ℕ, List, ◌++◌, slice_index, sum_by}
use Rattle.home_queues.specs.Hints.{HintsValue}
use Rattle.home_queues.specs.declared.home_queues.HomeQueues.{HomeQueues}
use Rattle.home_queues.specs.declared.home_list.HomeList.{HomeList}

abbrev pub lines_of : HomeQueues → ℕ
lines_of q = q.lines

-- the parts for the workers, and all parts
abbrev pub used_of : HomeList → List HintsValue
used_of l = l.parts.items

abbrev pub parts_of : HomeList → List HintsValue
parts_of l = l.parts.items ++ l.others.items

-- how often the number was put in, and taken, by all these parts
abbrev pub pushed_over : List HintsValue → ℕ → ℕ
pushed_over parts x = sum_by (λ p. slice_index p.pushed x) parts

abbrev pub taken_over : List HintsValue → ℕ → ℕ
taken_over parts x = sum_by (λ p. slice_index p.taken x) parts
