-- A kernel that fits the held columns, access by access.
use Rattle.std.proofs.Common.{◌≡◌, ℕ, false, List, [], ◌∷◌, map, None, refl, sym, ◌∙◌}
use Rattle.std.specs.Prelude.{nat_eq, Contains}
use Rattle.std.specs.List.{list_any}
use Rattle.std.proofs.lemmas.Bool.{or_parts, eq-eqb, false≢true}
use Rattle.index_spaces.specs.Held.{HeldList, lending_at}
use Rattle.basics.proofs.ListFacts.{contains_here, contains_there}
use Rattle.graph_terms.specs.declared.verb.Access.{Access}
use Rattle.graph_terms.specs.declared.verb.Mode.{Mode}
use Rattle.graph_terms.specs.declared.verb.Mode.TheVariants.{Read}
use Rattle.graph_terms.specs.declared.table.Kernel.{Kernel}
use Rattle.graph_terms.specs.Graph.{GraphValue}
use Rattle.graph_terms.specs.Access.{is_read, kernel_accesses}
use Rattle.graph_terms.specs.Fits.{repeats}
use Rattle.kernel_table.specs.Kernels.{FitsHeld, FitsEach, HoldsOverSpace, EachHeld, NotAmong, EachOnce, WhereRead, OwnTarget}

each_held : (g : GraphValue) (held : HeldList) (xs : List Access) → ((a : Access) → Contains xs a → HoldsOverSpace g held a.column a.space) → EachHeld g held xs
each_held g held [] h = tt
each_held g held (a ∷ xs) h = (h a (contains_here a xs), each_held g held xs (λ b c. h b (contains_there a xs b c)))

not_among : (c : ℕ) (xs : List Access) → list_any (nat_eq c) (map (λ (a : Access). a.column) xs) ≡ false → NotAmong c xs
not_among c [] h = tt
not_among c (a ∷ xs) h = let p = or_parts (nat_eq c a.column) _ h in (λ e. false≢true (sym p.0 ∙ eq-eqb c a.column e), not_among c xs p.1)

each_once : (xs : List Access) → repeats nat_eq (map (λ (a : Access). a.column) xs) ≡ false → EachOnce xs
each_once [] h = tt
each_once (a ∷ xs) h = let p = or_parts (list_any (nat_eq a.column) (map (λ (b : Access). b.column) xs)) _ h in (not_among a.column xs p.0, each_once xs p.1)

own_target : (held : HeldList) (xs : List Access) → ((a : Access) → Contains xs a → is_read a.mode ≡ false → lending_at held a.column ≡ None) → OwnTarget held xs
own_target held [] h = tt
own_target held (a ∷ xs) h = by_mode a.mode (OwnTarget held xs) (lending_at held a.column ≡ None) (h a (contains_here a xs)) (own_target held xs (λ b c. h b (contains_there a xs b c)))
  where
    by_mode : (m : Mode) (R W : Type 0) → (is_read m ≡ false → W) → R → WhereRead m R W
    by_mode Read R W own rest = rest
    by_mode _ R W own rest = own refl

pub fits_each : (g : GraphValue) (held : HeldList) (kernel : Kernel) → FitsHeld g held kernel → FitsEach g held kernel
fits_each g held kernel fits =
    (each_held g held (kernel_accesses kernel) (λ a c. (fits.declared a c, fits.columns a c)), each_once (kernel_accesses kernel) fits.distinct, own_target held (kernel_accesses kernel) fits.own)
