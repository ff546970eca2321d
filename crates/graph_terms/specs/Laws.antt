-- What holds of verbs, lines and graphs whose items fit.
use Rattle.std.specs.Prelude.{◌≡◌, ℕ, true, Some, Bool, slice_get, ◌<◌, length, ◌⊎◌, false, List, Contains, None, ◌++◌, filter_map, flat_map, [], ◌∷◌, ◌≤◌, ◌+◌, ◌||◌, not, ◌↔◌, IsTrue, ◌-◌, nat_le, take, get_or, zip, slice_index, map}
use Rattle.graph_terms.specs.declared.verb.Verb.{Verb}
use Rattle.graph_terms.specs.declared.verb.Verb.TheVariants.{Acquire, Release, Phase, User, Arrive}
use Rattle.graph_terms.specs.Graph.{upgraded_format, is_acquire_of, is_shared, is_release_of, GraphValue, verb_at, line_passes, is_phase, ends_user, never_comes_as, locks, space_of, named_spaces, space_at, barriers, columns_of, columns, is_user, column_space, data_columns_of, data_columns}
use Rattle.graph_terms.specs.Reservations.{Acquires, Releases, both_shared}
use Rattle.graph_terms.specs.declared.verb.Line.{Line}
use Rattle.std.specs.List.{list_any}
use Rattle.graph_terms.specs.Fits.{IsGraph, first_reason, line_fault, line_unknown, named_lines, DeclsFit, LinesFit, with_decl, decl_fault, IsDecl, is_decl_named, with_line, IsLine, is_beyond, on_unlike, names_many, format_lacks, verb_unlike, access_outside}
use Rattle.graph_terms.specs.declared.why.Why.{Why}
use Rattle.graph_terms.specs.declared.format.Format.{Format}
use Rattle.graph_terms.specs.declared.decl.Decl.{Decl}
use Rattle.graph_terms.specs.declared.verb.Edge.{Edge}
use Rattle.graph_terms.specs.Edges.{line_edges, EndsUpTo, edges, edges_after, edge, last_place}
use Rattle.index_spaces.specs.Space.{IsSpace, IsWithin}
use Rattle.graph_terms.specs.declared.decl.ColumnInfo.{ColumnInfo}
use Rattle.graph_terms.specs.Spelling.{spelled, decl_words, decls_text, head, line_words}
use Rattle.graph_terms.specs.declared.verb.EdgeKind.TheVariants.{Passes}
use Rattle.graph_terms.specs.Access.{verb_accesses, access, accesses_of}
use Rattle.index_spaces.specs.Laws.{PointsAreListed}
use Rattle.graph_terms.specs.declared.verb.Access.{Access}
use Rattle.graph_terms.specs.declared.format.Format.TheVariants.{Three}
use Rattle.graph_terms.specs.Format.{rank, has_since}
use Rattle.graph_terms.specs.Limits.{AllowsNoMore, limits, limits_of_three}
use Rattle.graph_terms.specs.Name.{is_name, is_name_in}
use Rattle.graph_terms.specs.Table.{verb_parts, verb_places, is_row, kind_places, any_placed, Placed, verb_kind, verb_of, NumbersFit}
use Rattle.graph_terms.specs.declared.table.Kind.{Kind}
use Rattle.graph_terms.specs.declared.table.Place.{Place}
use Rattle.graph_terms.specs.declared.table.Place.TheVariants.{Column, Space}
use Rattle.graph_terms.specs.declared.verb.Mode.{Mode}

-- a verb that acquires a reservation is that acquire
abbrev pub AcquireByTest : Type 0
AcquireByTest = (l : ℕ) (v : Verb) → is_acquire_of l v ≡ true → v ≡ Acquire l (is_shared v)

-- a verb that releases an acquire is that release
abbrev pub ReleaseByTest : Type 0
ReleaseByTest = (q : ℕ) (v : Verb) → is_release_of q v ≡ true → v ≡ Release q

-- the verb of a line that acquires a reservation is that acquire
abbrev pub VerbOfAcquire : Type 0
VerbOfAcquire = (g : GraphValue) (q l : ℕ) → Acquires g q l → verb_at g q ≡ Some (Acquire l (line_passes is_shared g q))

-- the verb of a line that releases an acquire is that release
abbrev pub VerbOfRelease : Type 0
VerbOfRelease = (g : GraphValue) (r q : ℕ) → Releases g r q → verb_at g r ≡ Some (Release q)

-- a line with the verb of an acquire acquires its reservation
abbrev pub AcquiresByVerb : Type 0
AcquiresByVerb = (g : GraphValue) (q l : ℕ) (s : Bool) → verb_at g q ≡ Some (Acquire l s) → Acquires g q l

-- a line with the verb of a release releases its acquire
abbrev pub ReleasesByVerb : Type 0
ReleasesByVerb = (g : GraphValue) (r q : ℕ) → verb_at g r ≡ Some (Release q) → Releases g r q

-- a line that passes a test of verbs has a verb that does
abbrev pub PassingLineHasVerb : Type 0
PassingLineHasVerb = (t : Verb → Bool) (g : GraphValue) (i : ℕ) → line_passes t g i ≡ true → (v : Verb) × (verb_at g i ≡ Some v) × (t v ≡ true)

-- a line passes a test where its verb does
abbrev pub LinePassesAsVerb : Type 0
LinePassesAsVerb = (t : Verb → Bool) (g : GraphValue) (i : ℕ) (v : Verb) → verb_at g i ≡ Some v → line_passes t g i ≡ t v

-- a verb in a graph is that of a line
abbrev pub VerbHasLine : Type 0
VerbHasLine = (g : GraphValue) (i : ℕ) (v : Verb) → verb_at g i ≡ Some v → (l : Line) × (slice_get g.lines i ≡ Some l) × (l.verb ≡ v)

-- a verb stands at a place below the number of lines
abbrev pub VerbsAreBelowEnd : Type 0
VerbsAreBelowEnd = (g : GraphValue) (i : ℕ) (v : Verb) → verb_at g i ≡ Some v → i < length g.lines

-- so does a line that passes a test
abbrev pub PassingLinesAreBelowEnd : Type 0
PassingLinesAreBelowEnd = (t : Verb → Bool) (g : GraphValue) (i : ℕ) → line_passes t g i ≡ true → i < length g.lines

-- a line releases one acquire at most
abbrev pub ReleasesOneAcquire : Type 0
ReleasesOneAcquire = (g : GraphValue) (r a b : ℕ) → Releases g r a → Releases g r b → a ≡ b

-- a line acquires one reservation at most
abbrev pub AcquiresOneReservation : Type 0
AcquiresOneReservation = (g : GraphValue) (q a b : ℕ) → Acquires g q a → Acquires g q b → a ≡ b

-- whether two acquires are both shared is asked of the two alike
abbrev pub BothSharedEitherWay : Type 0
BothSharedEitherWay = (g : GraphValue) (q k : ℕ) → both_shared g q k ≡ both_shared g k q

-- a verb that passes as a phase is one
abbrev pub PhaseByTest : Type 0
PhaseByTest = (v : Verb) → is_phase v ≡ true → (b : ℕ) × (v ≡ Phase b)

-- a verb acquires a reservation, or it acquires none
abbrev pub AcquiresOrNot : Type 0
AcquiresOrNot = (v : Verb) → ((l : ℕ) × (s : Bool) × (v ≡ Acquire l s)) ⊎ ((l : ℕ) → is_acquire_of l v ≡ true → ⊥)

-- a line that never comes is a phase, or a user event that no line ends
abbrev pub NeverComesAs : Type 0
NeverComesAs = (g : GraphValue) (i : ℕ) (v : Verb) → never_comes_as g i v ≡ true →
    (is_phase v ≡ true) ⊎ ((v ≡ User) × (list_any (λ (l : Line). ends_user i l.verb) g.lines ≡ false))

-- the reservation that an acquire names is declared
abbrev pub ReservationOfVerbDeclared : Type 0
ReservationOfVerbDeclared = (g : GraphValue) → IsGraph g → (i k : ℕ) (l : Line) → slice_get g.lines i ≡ Some l → (s : Bool) → l.verb ≡ Acquire k s →
    k < length (locks g)

-- the reservation that a line acquires is declared
abbrev pub ReservationOfLineDeclared : Type 0
ReservationOfLineDeclared = (g : GraphValue) → IsGraph g → (i k : ℕ) → Acquires g i k → k < length (locks g)

-- a release names an acquire
abbrev pub ReleaseNamesAcquire : Type 0
ReleaseNamesAcquire = (g : GraphValue) → IsGraph g → (r q : ℕ) → Releases g r q → (l : ℕ) × Acquires g q l

-- an acquire has one release at most
abbrev pub OneRelease : Type 0
OneRelease = (g : GraphValue) → IsGraph g → (q r s : ℕ) → Releases g r q → Releases g s q → r ≡ s

-- where no reason refuses, each test fails
abbrev pub NoReasonNoFault : Type 0
NoReasonNoFault = (ts : List (Bool × Why)) → first_reason ts ≡ None → (t : Bool × Why) → Contains ts t → t.0 ≡ false

-- a line that fits names nothing unknown
abbrev pub FittingLinesNameKnown : Type 0
FittingLinesNameKnown = (g : GraphValue) (l : Line) → line_fault g l ≡ None → line_unknown g l ≡ false

-- a line that fits names lines above it
abbrev pub NamedLinesAreAbove : Type 0
NamedLinesAreAbove = (g : GraphValue) (l : Line) → line_fault g l ≡ None → (k : ℕ) → Contains (named_lines l.verb ++ l.on) k → k < length g.lines

-- the edges that a line gives lead no further than to itself
abbrev pub EdgesReachNoFurther : Type 0
EdgesReachNoFurther = (fm : Format) (decls : List Decl) (before : List Line) (l : Line) →
    line_fault (record { format = fm; decls = decls; lines = before }) l ≡ None → (x : Edge) → Contains (line_edges before l) x → EndsUpTo (length before) x

-- the edges of a graph are between its lines
abbrev pub EdgesJoinLines : Type 0
EdgesJoinLines = (g : GraphValue) → IsGraph g → (x : Edge) → Contains (edges g) x → (x.from < length g.lines) × (x.to < length g.lines)

-- the spaces of declarations that fit are spaces
abbrev pub DeclaredSpacesAreSpaces : Type 0
DeclaredSpacesAreSpaces = (fm : Format) (before ds : List Decl) → DeclsFit fm before ds → (x : List ℕ × List (ℕ × ℕ)) → Contains (filter_map space_of ds) x →
    IsSpace x.1

-- each line of lines that fit fits after some of them
abbrev pub LinesFitInPlace : Type 0
LinesFitInPlace = (fm : Format) (decls : List Decl) (before ls : List Line) → LinesFit fm decls before ls → (k : ℕ) (l : Line) → slice_get ls k ≡ Some l →
    (b : List Line) × (line_fault (record { format = fm; decls = decls; lines = b }) l ≡ None)

-- the space of each number is a space
abbrev pub NumberedSpacesAreSpaces : Type 0
NumberedSpacesAreSpaces = (g : GraphValue) → IsGraph g → (s : ℕ) → s < length (named_spaces g) → IsSpace (space_at g s)

-- the barrier of a phase is declared
abbrev pub BarrierOfPhaseDeclared : Type 0
BarrierOfPhaseDeclared = (g : GraphValue) → IsGraph g → (i b : ℕ) (l : Line) → slice_get g.lines i ≡ Some l → l.verb ≡ Phase b → b < length (barriers g)

-- the space of each column of declarations that fit is declared among them or before
abbrev pub SpacesOfColumnsDeclared : Type 0
SpacesOfColumnsDeclared = (fm : Format) (before ds : List Decl) → DeclsFit fm before ds → (x : ColumnInfo) → Contains (flat_map columns_of ds) x →
    x.space < length (filter_map space_of (before ++ ds))

-- the space of each column of a graph is declared
abbrev pub SpaceOfColumnDeclared : Type 0
SpaceOfColumnDeclared = (g : GraphValue) → IsGraph g → (c : ℕ) (x : ColumnInfo) → slice_get (columns g) c ≡ Some x → x.space < length (named_spaces g)

-- the same of the columns of data
abbrev pub SpacesOfDataDeclared : Type 0
SpacesOfDataDeclared = (fm : Format) (before ds : List Decl) → DeclsFit fm before ds → (x : ColumnInfo) → Contains (flat_map data_columns_of ds) x →
    x.space < length (filter_map space_of (before ++ ds))

abbrev pub SpaceOfDataDeclared : Type 0
SpaceOfDataDeclared = (g : GraphValue) → IsGraph g → (c : ℕ) (x : ColumnInfo) → slice_get (data_columns g) c ≡ Some x → x.space < length (named_spaces g)

-- a graph without lines and a declaration that fits are a graph
abbrev pub FittingDeclarationStays : Type 0
FittingDeclarationStays = (g : GraphValue) (d : Decl) → IsGraph g → IsDecl d → IsTrue (is_decl_named g.format d) → g.lines ≡ [] → decl_fault g d ≡ None →
    IsGraph (with_decl g d)

-- a graph and a line that fits are a graph
abbrev pub FittingLineStays : Type 0
FittingLineStays = (g : GraphValue) (l : Line) → IsGraph g → IsLine l → IsTrue (is_name_in g.format l.name) → line_fault g l ≡ None → IsGraph (with_line g l)

-- the text of declarations grows by that of the next
abbrev pub TextOfOneMoreDeclaration : Type 0
TextOfOneMoreDeclaration = (fm : Format) (b ds : List Decl) (d : Decl) →
    decls_text fm b (ds ++ d ∷ []) ≡ decls_text fm b ds ++ spelled (decl_words (record { format = fm; decls = b ++ ds; lines = [] }) d)

-- the text so far grows by that of a declaration
abbrev pub HeadWithDeclaration : Type 0
HeadWithDeclaration = (g : GraphValue) (d : Decl) → g.lines ≡ [] → head (with_decl g d) ≡ head g ++ spelled (decl_words g d)

-- the text so far grows by that of a line
abbrev pub HeadWithLine : Type 0
HeadWithLine = (g : GraphValue) (l : Line) → head (with_line g l) ≡ head g ++ spelled (line_words g l)

-- declarations are at most as many as the bytes of their text
abbrev pub DeclarationsBelowBytes : Type 0
DeclarationsBelowBytes = (fm : Format) (before ds : List Decl) → length ds ≤ length (decls_text fm before ds)

-- the first line, the declarations and the lines are at most as many as the bytes of the text so far
abbrev pub ItemsBelowBytes : Type 0
ItemsBelowBytes = (g : GraphValue) → 1 + length g.decls + length g.lines ≤ length (head g)

-- within the limits the text so far is short
abbrev pub ShortWithinLimits : Type 0
ShortWithinLimits = (g : GraphValue) (b : Bool) → (b || is_beyond g) ≡ false → length (head g) ≤ (limits g.format).text

-- a later format limits no quantity more
abbrev pub LaterFormatsAllowMore : Type 0
LaterFormatsAllowMore = (f h : Format) → has_since f h ≡ true → AllowsNoMore (limits f) (limits h)

-- format 3 allows the most
abbrev pub FormatThreeAllowsMost : Type 0
FormatThreeAllowsMost = (f : Format) → AllowsNoMore (limits f) limits_of_three

-- the edges of each line are among those of all lines
abbrev pub EdgesOfEachLine : Type 0
EdgesOfEachLine = (before ls : List Line) (k : ℕ) (l : Line) → slice_get ls k ≡ Some l →
    (b : List Line) × (length b ≡ length before + k) × ((e : Edge) → Contains (line_edges b l) e → Contains (edges_after before ls) e)

-- an arrival gives an edge to its phase
abbrev pub EdgeOfArrival : Type 0
EdgeOfArrival = (g : GraphValue) (i p v w : ℕ) → verb_at g i ≡ Some (Arrive p v w) → Contains (edges g) (edge i p Passes)

-- of a line that fits what it names is of its kind, what it waits for is allowed, and its format has its verb
abbrev pub FittingKind : Type 0
FittingKind = (g : GraphValue) (l : Line) → line_fault g l ≡ None →
    (verb_unlike g l.verb ≡ false) × (on_unlike g.format l.verb l.on ≡ false) × (format_lacks g.format l.verb ≡ false)

-- a user event that an edge enters is ended by a line
abbrev pub EndedUserEvent : Type 0
EndedUserEvent = (g : GraphValue) → IsGraph g → (e : Edge) → Contains (edges g) e → line_passes is_user g e.to ≡ true →
    list_any (λ (x : Line). ends_user e.to x.verb) g.lines ≡ true

-- the edges of one more line come last
abbrev pub EdgesOfOneMoreLine : Type 0
EdgesOfOneMoreLine = (g : GraphValue) (l : Line) → edges (with_line g l) ≡ edges g ++ line_edges g.lines l

-- an arrival accesses no column
abbrev pub ArrivalsAccessNothing : Type 0
ArrivalsAccessNothing = (p v w : ℕ) → verb_accesses (Arrive p v w) ≡ []

-- an arrival names its phase alone
abbrev pub ArrivalsNamePhase : Type 0
ArrivalsNamePhase = (p v w : ℕ) → named_lines (Arrive p v w) ≡ p ∷ []

-- an access is outside of its column where its space is not within that of the column
abbrev pub OutsideBySpaces : Type 0
OutsideBySpaces = PointsAreListed → (g : GraphValue) (a : Access) (b : Bool) → IsTrue b ↔ IsWithin (space_at g a.space) (column_space g a.column) →
    not b ≡ access_outside g a

-- where the last line passes, it is the last that does
abbrev pub LastPlaceAtEnd : Type 0
LastPlaceAtEnd = (test : Verb → Bool) (ls : List Line) (n : ℕ) (d : Line) → 0 < n → n ≤ length ls → test (get_or ls (n - 1) d).verb ≡ true →
    last_place test 0 (take n ls) None ≡ Some (n - 1)

-- where it does not, the last that does is that of the lines before
abbrev pub LastPlaceBelowEnd : Type 0
LastPlaceBelowEnd = (test : Verb → Bool) (ls : List Line) (n : ℕ) (d : Line) → 0 < n → n ≤ length ls → test (get_or ls (n - 1) d).verb ≡ false →
    last_place test 0 (take n ls) None ≡ last_place test 0 (take (n - 1) ls) None

-- a format has what those have that it follows
abbrev pub SinceByRank : Type 0
SinceByRank = (since format : Format) → has_since since format ≡ nat_le (rank since) (rank format)

-- format 3 has what each format brought
abbrev pub FormatThreeIsLast : Type 0
FormatThreeIsLast = (f : Format) → has_since f Three ≡ true

-- the format in which a graph is written anew has what its own brought
abbrev pub UpgradedFormatIsLater : Type 0
UpgradedFormatIsLater = (f : Format) → has_since f (upgraded_format f) ≡ true

-- a verb of a format is one of each later format
abbrev pub LaterFormatsHaveVerbs : Type 0
LaterFormatsHaveVerbs = (f h : Format) → has_since f h ≡ true → (v : Verb) → format_lacks f v ≡ false → format_lacks h v ≡ false

-- events behind `on` that a format takes are ones that each later format takes
abbrev pub LaterFormatsTakeEvents : Type 0
LaterFormatsTakeEvents = (f h : Format) → has_since f h ≡ true → (v : Verb) (on : List ℕ) → on_unlike f v on ≡ false → on_unlike h v on ≡ false

-- events that are not too many for a format are not too many for a later one
abbrev pub LaterFormatsNameMore : Type 0
LaterFormatsNameMore = (f h : Format) → has_since f h ≡ true → (v : Verb) (on : List ℕ) → names_many f v on ≡ false → names_many h v on ≡ false

-- a name of a format is one of each later format
abbrev pub LaterFormatsHaveNames : Type 0
LaterFormatsHaveNames = (f h : Format) → has_since f h ≡ true → (w : List ℕ) → is_name_in f w ≡ true → is_name_in h w ≡ true

-- a name of formats 1 and 2 is one of format 3
abbrev pub NamesAreLongNames : Type 0
NamesAreLongNames = (w : List ℕ) → is_name w ≡ true → is_name_in Three w ≡ true

-- a declaration whose names are those of a format has names of each later format
abbrev pub LaterFormatsHaveDeclarations : Type 0
LaterFormatsHaveDeclarations = (f h : Format) → has_since f h ≡ true → (d : Decl) → is_decl_named f d ≡ true → is_decl_named h d ≡ true

-- a verb has a part for each place of its row
abbrev pub PartForEachPlace : Type 0
PartForEachPlace = (v : Verb) → length (verb_parts v) ≡ length (verb_places v)

-- the places of a verb are a row
abbrev pub RowsOfVerbs : Type 0
RowsOfVerbs = (v : Verb) → is_row (verb_places v) ≡ true

-- the places of a kind are a row
abbrev pub RowsOfKinds : Type 0
RowsOfKinds = (k : Kind) → is_row (kind_places k) ≡ true

-- where no number passes a test in its place, none does at any place
abbrev pub NonePlacedPasses : Type 0
NonePlacedPasses = (t : Place → ℕ → Bool) (ps : List Place) (ns : List ℕ) → any_placed t (zip ps ns) ≡ false → (k : ℕ) (p : Place) (n : ℕ) →
    slice_get ps k ≡ Some p → slice_get ns k ≡ Some n → t p n ≡ false

-- the column in a place has its access
abbrev pub AccessOfColumn : Type 0
AccessOfColumn = (ps : List Place) (ns : List ℕ) (k : ℕ) (mode : Mode) (over c : ℕ) → slice_get ps k ≡ Some (Column mode over) → slice_get ns k ≡ Some c →
    Contains (accesses_of ps ns) (access c (slice_index ns over) mode)

-- the space in a place of a row is that of an access
abbrev pub AccessOfSpace : Type 0
AccessOfSpace = (ps : List Place) (ns : List ℕ) → is_row ps ≡ true → length ns ≡ length ps → (k n : ℕ) → slice_get ps k ≡ Some Space → slice_get ns k ≡ Some n →
    (a : Access) × Contains (accesses_of ps ns) a × (a.space ≡ n)

-- a column of a row is over a space of it
abbrev pub ColumnsOverSpaces : Type 0
ColumnsOverSpaces = (ps : List Place) → is_row ps ≡ true → (k : ℕ) (mode : Mode) (over : ℕ) → slice_get ps k ≡ Some (Column mode over) →
    slice_get ps over ≡ Some Space

-- where no access passes a test, each fails it
abbrev pub NoAccessPasses : Type 0
NoAccessPasses = (t : Access → Bool) (ps : List Place) (ns : List ℕ) → list_any t (accesses_of ps ns) ≡ false → (a : Access) → Contains (accesses_of ps ns) a →
    t a ≡ false

-- words that are the same in each place are the same
abbrev pub SameInEachPlace : Type 0
SameInEachPlace = (f h : Place → ℕ → List ℕ) (ps : List Place) (ns : List ℕ) →
    ((k : ℕ) (p : Place) (n : ℕ) → slice_get ps k ≡ Some p → slice_get ns k ≡ Some n → f p n ≡ h p n) →
    map (λ (q : Placed). f q.0 q.1) (zip ps ns) ≡ map (λ (q : Placed). h q.0 q.1) (zip ps ns)

-- the verb of a kind has that kind
abbrev pub KindOfItsVerb : Type 0
KindOfItsVerb = (k : Kind) (ns : List ℕ) → NumbersFit k ns → verb_kind (verb_of k ns) ≡ Some k

-- the verb of a kind has the parts that it was made of
abbrev pub PartsOfItsVerb : Type 0
PartsOfItsVerb = (k : Kind) (ns : List ℕ) → NumbersFit k ns → length ns ≡ length (kind_places k) → verb_parts (verb_of k ns) ≡ ns

-- the verb that is made of a verb's kind and parts is that verb
abbrev pub VerbOfItsParts : Type 0
VerbOfItsParts = (v : Verb) (k : Kind) → verb_kind v ≡ Some k → verb_of k (verb_parts v) ≡ v

-- a verb has at most three accesses
abbrev pub FewAccesses : Type 0
FewAccesses = (v : Verb) → length (verb_accesses v) ≤ 3
