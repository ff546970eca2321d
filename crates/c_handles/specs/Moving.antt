-- A function that takes a struct of a pointer and the heap's allocator apart, and makes another such struct of the two. What the one owns, the other owns.
use mathlib.Core.Path.{◌≡◌}
use mathlib.Core.List.{List, [], ◌∷◌}
use Prim.Native.Nat.{ℕ}
use seplogic.Ra.Ura.{Ura}
use mir.Syntax.{Fn, Ty, ty_ptr, ty_struct, tnil, tcons, local, value_local, place, field, copy, assign, rv_opd, aggregate, seq, return}
use mir.Val.{Val}
use base.Logic.{emp}
use base.Fml.{Fml, ftrue, fsep}
use prog.Model.{Model}
use prog.Routine.{Callee}
use prog.Wp.{Closed}
use contract.Running.{Running, tables}
use types.Logic.{Logic}
use contract.Monad.{fact}
use denote.Exit.{yes, Last, left}
use denote.Param.{param, layout}
use denote.RattleType.{RattleType}
use denote.RawPtr.{Ptr, RawPtr}
use denote.Signature.{plain}
use denote.Struct.Struct.{Struct}
use denote.Struct.Owning.{Owning, shape}
use denote.Triple.Clauses.{Ended, Clauses, closing}
use denote.Triple.Spec.{Meets}
use Rattle.std.specs.Global.{Global}
use Rattle.std.specs.contracts.boxed.Box as Box
use Rattle.std_heap.specs.contracts.Global as Heap
use Rattle.std_heap.specs.contracts.GlobalAllocator.TheImpl.{ghosts}

abbrev pub two : Owning
two = Box.the_type RawPtr (param 1 Heap.the_row) ghosts

-- what a struct of two such fields owns, where the pointer owns `heap`
abbrev pub owned : Ptr → Global → Fml → List Val → Fml
owned p a heap vs = fsep ((Struct (shape two)).own_val (p, (a, tt)) vs) heap

abbrev pub pair : List ℕ → Ty
pair name = ty_struct name (tcons ty_ptr (tcons (layout Heap.the_row) tnil))

abbrev pub moving : List ℕ → List ℕ → Fn
moving to from = record {
  lifetimes = 0;
  outlives = [];
  ty_params = [];
  givens = 0;
  params = 1;
  locals = local (pair to) value_local ∷ local (pair from) value_local ∷ local ty_ptr value_local ∷ local (layout Heap.the_row) value_local ∷ local ty_ptr value_local ∷ [];
  body = seq (assign (place 2 []) (rv_opd (copy (place 1 (field 0 ∷ [])))))
      (seq (assign (place 3 []) (rv_opd (copy (place 1 (field 1 ∷ [])))))
      (seq (assign (place 4 []) (rv_opd (copy (place 2 []))))
      (seq (assign (place 0 []) (aggregate (copy (place 4 []) ∷ copy (place 3 []) ∷ [])))
      return)));
}

-- the structs before and after, as rows, and of a value before: its fields, what its pointer owns, and the value after
pub record Moved (From To : RattleType) : Type 1 where
  pub at : From.Denot → Ptr
  pub alloc : From.Denot → Global
  pub heap : From.Denot → Fml
  pub after : From.Denot → To.Denot
  pub owned_before : (x : From.Denot) (vs : List Val) → From.own_val x vs ≡ owned (at x) (alloc x) (heap x) vs
  pub owned_after : (x : From.Denot) (vs : List Val) → owned (at x) (alloc x) (heap x) vs ≡ To.own_val (after x) vs
  pub last : (x : From.Denot) → Last (From.exit yes) x
  pub silent : (x : From.Denot) (f : Last (From.exit yes) x) → left (From.exit yes) x f ≡ ftrue

module _ (From To : RattleType) where
  abbrev pub moved_by : (at : From.Denot → Ptr) (alloc : From.Denot → Global) (heap : From.Denot → Fml) (after : From.Denot → To.Denot)
      → ((x : From.Denot) (vs : List Val) → From.own_val x vs ≡ owned (at x) (alloc x) (heap x) vs) → ((x : From.Denot) (vs : List Val) → owned (at x) (alloc x) (heap x) vs ≡ To.own_val (after x) vs)
      → ((x : From.Denot) → Last (From.exit yes) x) → ((x : From.Denot) (f : Last (From.exit yes) x) → left (From.exit yes) x f ≡ ftrue) → Moved From To
  moved_by at alloc heap after before behind last silent = record { «at» = at; «alloc» = alloc; «heap» = heap; «after» = after; owned_before = before; owned_after = behind; «last» = last; «silent» = silent }

abbrev pub ended : RattleType → RattleType → Ended
ended From To = record { signature = record { lifetimes = 0; outlives = []; params = plain (λ _. From) ∷ []; result = plain (λ _. To) }; kept = (yes, tt) }

module _ {M : Type 1} {𝓤 : Ura M} (𝓛 : Logic 𝓤) {From To : RattleType} where
  abbrev pub says_of : (From.Denot → To.Denot → Type 0) → Clauses 𝓤 (ended From To)
  says_of Said κs args = record { ghost = Unit {0}; requires = λ _. emp 𝓤; ensures = λ _ res end. fact 𝓤 (Said args.0 res) }

-- such a function meets a contract that its last value keeps
abbrev pub FieldsMove : Type 1 → Type 2
FieldsMove M = (𝓤 : Ura M) (𝓛 : Logic 𝓤) (𝓜 : Model 𝓤 𝓛.H) (𝓡 : Running 𝓤 𝓛.H 𝓜) (From To : RattleType) (k : Callee) (to from : List ℕ) (S : Moved From To) (Said : From.Denot → To.Denot → Type 0)
    → ((x : From.Denot) → Said x (S.after x))
    → Closed 𝓤 𝓛.H (tables 𝓤 𝓛.H 𝓜 𝓡 𝓡.env).C (tables 𝓤 𝓛.H 𝓜 𝓡 𝓡.env).Λ k (moving to from)
    → Meets 𝓛 (ended From To).signature (𝓡.run (𝓡.env k)) (closing 𝓛 (ended From To) (says_of 𝓛 Said))
