-- `into_pointer` takes the two fields out of the handle, and what they own goes with them.
use mathlib.Core.Path.{◌≡◌, refl}
use Rattle.c_handles.proofs.Public.{fields_move}
use Rattle.c_handles.specs.Moving.{Moved, moved_by}
use Rattle.c_handles.specs.Ownership.{box_or_null_owns}
use Rattle.c_handles.specs.contracts.box_or_null.BoxOrNull as BoxOrNull
use Rattle.run_handles.specs.contracts.held.Held as Held
use Rattle.run_handles.specs.contracts.held.Held.into_pointer.Key.{name as #self}
use Rattle.run_handles.specs.contracts.token.Token as Token
use Rattle.run_handles.proofs.held.Held.into_pointer.Statement as stated
use Rattle.run_handles.proofs.held.Held.into_pointer.Code as code

abbrev fields : Moved (Held.the_row) (BoxOrNull.the_row Token.the_row)
fields = moved_by _ _ (λ x. x.at) (λ x. x.alloc) (λ x. box_or_null_owns Token.the_row x.alloc x.at x.value) (λ x. record { at = x.at; alloc = x.alloc; value = x.value }) (λ x vs. refl) (λ x vs. refl) (λ x. tt) (λ x f. refl)

pub into_pointer_spec : {M : Type 1} → stated.statement M
into_pointer_spec 𝓤 𝓛 𝓜 𝓡 wired = fields_move 𝓤 𝓛 𝓜 𝓡 _ _ #self (BoxOrNull.the_type Token.the_row).name (Held.the_type).name fields (λ x r. r.value ≡ x.value) (λ x. refl) (code.unfolded 𝓤 𝓛.H 𝓜 𝓡 wired)
