-- What stands in the places of `Held`.
use Rattle.std.specs.Prelude.{◌≡◌, Option, Some, None}
use Rattle.index_spaces.specs.declared.held.Entry.{Entry}
use Rattle.index_spaces.specs.declared.held.Entry.TheVariants.{Free, Own, Share}
use Rattle.index_spaces.specs.Held.{HeldEntry}

-- the entry of a place
abbrev pub entry_in : Entry → Option HeldEntry
entry_in Free = None
entry_in (Own c x) = Some (record { number = c; column = x; share = None })
entry_in (Share c s) = Some (record { number = c; column = s.column; share = Some s.lending })

-- of shares a place has one
abbrev pub HasOneShare : Entry → Type 0
HasOneShare (Share c s) = s.count ≡ 1
HasOneShare _ = Unit {0}
