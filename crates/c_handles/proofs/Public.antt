-- The law that the proofs of other crates cite, as specs/ states it.
use contract.Running.{tables, tables_of}
use denote.Triple.Clauses.{closing}
use denote.Triple.Spec.{triple_of}
use denote.Triple.Table.{entered}
use prog.Wp.{Tables}
use Rattle.c_handles.specs.Moving.{FieldsMove, moving, ended, says_of}
use Rattle.c_handles.proofs.Moving.{moved}

pub fields_move : {M : Type 1} → FieldsMove M
unfolding tables_of
fields_move 𝓤 𝓛 𝓜 𝓡 From To k to from S Said said closed =
    let 𝓣 : Tables 𝓤 𝓛.H = tables_of 𝓤 𝓛.H 𝓜 (tables 𝓤 𝓛.H 𝓜 𝓡 𝓡.env) in
    entered 𝓤 𝓛.H (triple_of 𝓛 (ended From To).signature (closing 𝓛 (ended From To) (says_of 𝓛 Said))) 𝓣.C 𝓣.Λ k (moving to from) closed
    (moved 𝓛 𝓣 to from S Said said)
