-- The fields of an instance, column by column.
use Rattle.std.proofs.Common.{◌≡◌, ℕ, ◌+◌, ◌<◌, List, [], ◌∷◌, ◌++◌, length, take, refl, sym, ◌∙◌, ap, arith}
use Rattle.std.specs.Prelude.{Option, Some, None, cond, codes, flat_map, slice_get, option_map}
use Rattle.std.specs.Option.{option_map_or}
use Rattle.std.specs.Str.{bytes_eq}
use Rattle.std.proofs.lemmas.Option.{none-some, same_Some}
use Rattle.std.proofs.lemmas.List.{append-nil}
use Rattle.std.proofs.lemmas.Grind.{flat_map-append}
use Rattle.basics.proofs.ListParts.{take_more, got_beyond}
use Rattle.graph_terms.specs.declared.decl.ColumnInfo.{ColumnInfo}
use Rattle.explain_top.specs.Fields.{field_in, field_of}

-- by the names of a column
pub named_field : (inst : List ℕ) (o : Option ColumnInfo) (of field : List ℕ) → option_map (λ (x : ColumnInfo). x.inst) o ≡ Some of → option_map (λ (x : ColumnInfo). x.field) o ≡ Some field →
    field_in inst of field ≡ option_map_or (field_of inst) o []
named_field inst None of field a b = absurd (none-some of a)
named_field inst (Some x) of field a b = ap (λ w. field_in inst w field) (sym (same_Some x.inst of a)) ∙ ap (field_in inst x.inst) (sym (same_Some x.field field b))

field_by : (inst : List ℕ) (cs : List ColumnInfo) (k : ℕ) (mid new : List ℕ) (o : Option ColumnInfo) → slice_get cs k ≡ o → k < length cs → mid ≡ flat_map (field_of inst) (take k cs) → new ≡ mid ++ option_map_or (field_of inst) o [] →
    new ≡ flat_map (field_of inst) (take (k + 1) cs)
field_by inst cs k mid new None got below first second = absurd (let past = got_beyond cs k got in omega (arith, below, past))
field_by inst cs k mid new (Some x) got below first second =
    second ∙ (ap (λ z. z ++ field_of inst x) first
    ∙ sym (ap (flat_map (field_of inst)) (take_more cs k x got) ∙ (flat_map-append (field_of inst) (take k cs) (x ∷ []) ∙ ap (λ z. flat_map (field_of inst) (take k cs) ++ z) (append-nil (field_of inst x)))))

-- that of one more column
pub field_more : (inst : List ℕ) (cs : List ColumnInfo) (k : ℕ) (mid new : List ℕ) → k < length cs → mid ≡ flat_map (field_of inst) (take k cs) → new ≡ mid ++ option_map_or (field_of inst) (slice_get cs k) [] →
    new ≡ flat_map (field_of inst) (take (k + 1) cs)
field_more inst cs k mid new below first second = field_by inst cs k mid new (slice_get cs k) refl below first second
