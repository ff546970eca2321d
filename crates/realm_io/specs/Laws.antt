-- What follows from how texts were written: parts one after another, and a text of which a rest is left.
use Rattle.std.specs.Prelude.{ℕ, List, ◌++◌, Result, IsErr, ◌≡◌, [], Option, ◌≤◌}
use Rattle.realm_io.specs.SinkState.{SinkState}
use Rattle.realm_io.specs.Written.{Stopped, Wrote, Writes, Progress}
use Rattle.realm_io.specs.Told.{with_more, TookPrefix}
use Rattle.realm_io.specs.Counts.{Rose}

-- a text whose first part stopped has stopped
abbrev pub StoppedInFirstPart : Type 0
StoppedInFirstPart = (r s : SinkState) (a b : List ℕ) → Stopped r s a → Stopped r s (a ++ b)

-- a text whose second part stopped has stopped
abbrev pub StoppedInSecondPart : Type 0
StoppedInSecondPart = (r s t : SinkState) (a b : List ℕ) → Wrote r s a → Stopped s t b → Stopped r t (a ++ b)

-- after a part that was written, the answer to the next is the answer to both
abbrev pub WritesPartByPart : Type 0 → Type 0 → Type 0
WritesPartByPart X E = (r s t : SinkState) (a b : List ℕ) (e : Result X E) → Wrote r s a → Writes s t e b → Writes r t e (a ++ b)

-- an error is the answer to a text that stopped
abbrev pub ErrorWhereStopped : Type 0 → Type 0 → Type 0
ErrorWhereStopped X E = (r s : SinkState) (a : List ℕ) (e : Result X E) → IsErr e → Stopped r s a → Writes r s e a

-- a part of the rest that was written leaves what is behind it
abbrev pub ProgressByPart : Type 0
ProgressByPart = (r s t : SinkState) (whole rest a later : List ℕ) → Progress r s whole rest → rest ≡ a ++ later → Wrote s t a → Progress r t whole later

-- a text stopped where a part of its rest did
abbrev pub StoppedInRest : Type 0
StoppedInRest = (r s t : SinkState) (whole rest a later : List ℕ) → Progress r s whole rest → rest ≡ a ++ later → Stopped s t a → Stopped r t whole

-- a text of which no rest is left was written
abbrev pub WrittenWithoutRest : Type 0
WrittenWithoutRest = (r s : SinkState) (whole : List ℕ) → Progress r s whole [] → Wrote r s whole

-- the answer to a text is that to the same bytes spelled otherwise
abbrev pub WritesSameBytes : Type 0 → Type 0 → Type 0
WritesSameBytes X E = (r s : SinkState) (a b : List ℕ) (e : Result X E) → a ≡ b → Writes r s e a → Writes r s e b

-- and where one of them stopped, so did the other
abbrev pub StoppedSameBytes : Type 0
StoppedSameBytes = (r s : SinkState) (a b : List ℕ) → a ≡ b → Stopped r s a → Stopped r s b

-- no bytes more change nothing
abbrev pub NothingMore : Type 0
NothingMore = (told : Option (List ℕ)) → with_more told [] ≡ told

-- where a prefix of a second part was taken, a prefix of both parts was
abbrev pub PrefixOfBoth : Type 0
PrefixOfBoth = (first before after : Option (List ℕ)) (a b : List ℕ) → before ≡ with_more first a → TookPrefix before after b → TookPrefix first after (a ++ b)

-- a count that rose since one time rose since each earlier one
abbrev pub RoseSinceEarlier : Type 0
RoseSinceEarlier = (first before after : ℕ) → first ≤ before → Rose before after → Rose first after
