-- The spaces of columns, declaration by declaration.
use Rattle.std.proofs.Common.{◌≡◌, ℕ, zero, suc, ◌+◌, ◌<◌, ◌≤◌, List, [], ◌∷◌, ◌++◌, length, map, take, replicate, append-nil, refl, sym, ◌∙◌, ap, arith}
use Rattle.std.specs.Prelude.{Option, Some, None, slice_get, flat_map}
use Rattle.std.specs.Option.{option_map_or}
use Rattle.std.proofs.lemmas.Option.{same_Some}
use Rattle.std.proofs.lemmas.Grind.{flat_map-append}
use Rattle.basics.proofs.ListParts.{take_more}
use Rattle.graph_terms.specs.declared.decl.Decl.{Decl}
use Rattle.graph_terms.specs.declared.decl.Decl.TheVariants.{Inst}
use Rattle.graph_terms.specs.declared.decl.ColumnInfo.{ColumnInfo}
use Rattle.graph_terms.specs.Graph.{GraphValue, columns, columns_of, column_space, space_at}

-- the spaces of columns, declaration by declaration
pub spaces_step : (ds : List Decl) (k : ℕ) (d : Decl) → slice_get ds k ≡ Some d →
    map (λ (x : ColumnInfo). x.space) (flat_map columns_of (take (k + 1) ds)) ≡ map (λ (x : ColumnInfo). x.space) (flat_map columns_of (take k ds)) ++ map (λ (x : ColumnInfo). x.space) (columns_of d)
spaces_step ds k d at =
    ap (λ xs. map (λ (x : ColumnInfo). x.space) (flat_map columns_of xs)) (take_more ds k d at)
    ∙ (ap (map (λ (x : ColumnInfo). x.space)) (flat_map-append columns_of (take k ds) (d ∷ []))
    ∙ (spread (flat_map columns_of (take k ds)) (columns_of d ++ [])
    ∙ ap (λ xs. map (λ (x : ColumnInfo). x.space) (flat_map columns_of (take k ds)) ++ map (λ (x : ColumnInfo). x.space) xs) (append-nil (columns_of d))))
  where
    spread : (xs ys : List ColumnInfo) → map (λ (x : ColumnInfo). x.space) (xs ++ ys) ≡ map (λ (x : ColumnInfo). x.space) xs ++ map (λ (x : ColumnInfo). x.space) ys
    spread [] ys = refl
    spread (x ∷ xs) ys = ap (λ zs. x.space ∷ zs) (spread xs ys)

-- as many spaces as fields
pub fields_spaces : (name : List ℕ) (space : ℕ) (fields : List (List ℕ)) → map (λ (x : ColumnInfo). x.space) (columns_of (Inst name space fields)) ≡ replicate (length fields) space
fields_spaces name space [] = refl
fields_spaces name space (f ∷ fs) = ap (λ xs. space ∷ xs) (fields_spaces name space fs)

pub replicate_more : (k x : ℕ) → replicate (k + 1) x ≡ replicate k x ++ x ∷ []
replicate_more k x = ap (λ n. replicate n x) (let e : k + 1 ≡ suc k = omega arith in e) ∙ one k
  where
    one : (k : ℕ) → replicate (suc k) x ≡ replicate k x ++ x ∷ []
    one zero = refl
    one (suc k) = ap (λ xs. x ∷ xs) (one k)

-- the space of a column among them
pub space_got : (g : GraphValue) (wholes : List ℕ) (c s : ℕ) → wholes ≡ map (λ (x : ColumnInfo). x.space) (columns g) → c < length (columns g) → slice_get wholes c ≡ Some s → space_at g s ≡ column_space g c
space_got g wholes c s are below at = by_columns (columns g) c below (ap (λ xs. slice_get xs c) (sym are) ∙ at)
  where
    by_columns : (cs : List ColumnInfo) (c : ℕ) → c < length cs → slice_get (map (λ (x : ColumnInfo). x.space) cs) c ≡ Some s → space_at g s ≡ option_map_or (λ (x : ColumnInfo). space_at g x.space) (slice_get cs c) []
    by_columns [] c low e = absurd (omega (arith, low))
    by_columns (x ∷ xs) zero low e = ap (space_at g) (sym (same_Some x.space s e))
    by_columns (x ∷ xs) (suc c) low e = by_columns xs c (omega (arith, low)) e
