-- What holds of a core besides the core that it shows: most steps leave the room for its outcome as it was.

-- another core is shown, with other columns and holders and another trace
pub with_trace : {C D K L H J T U E A P : Type 0} → record { core : C; kept : K; held : H; trace : T; ends : E; answers : A; phases : P } → D → L → J → U → record { core : D; kept : L; held : J; trace : U; ends : E; answers : A; phases : P }
with_trace old new columns holders longer = record { core = new; kept = columns; held = holders; trace = longer; ends = old.ends; answers = old.answers; phases = old.phases }

-- with other columns and holders alone
pub with_columns : {C D K L H J T E A P : Type 0} → record { core : C; kept : K; held : H; trace : T; ends : E; answers : A; phases : P } → D → L → J → record { core : D; kept : L; held : J; trace : T; ends : E; answers : A; phases : P }
with_columns old new columns holders = with_trace old new columns holders old.trace

-- with none of them
pub with_core : {C D K H T E A P : Type 0} → record { core : C; kept : K; held : H; trace : T; ends : E; answers : A; phases : P } → D → record { core : D; kept : K; held : H; trace : T; ends : E; answers : A; phases : P }
with_core old new = with_columns old new old.kept old.held
