-- What is tried to order two lines that race, and the graph in which it is followed.
use Rattle.std.specs.Prelude.{ℕ, ◌+◌, ◌==◌, nat_lt, Bool, cond, not, ◌&&◌, List, [], ◌∷◌, ◌++◌, length, reverse, find, slice_get, Option, Some, None}
use Rattle.std.specs.Option.{option_map_or}
use Rattle.std.specs.List.{list_any}
use Rattle.graph_terms.specs.declared.format.Format.{Format}
use Rattle.graph_terms.specs.declared.format.Format.TheVariants.{Three}
use Rattle.graph_terms.specs.declared.verb.Line.{Line}
use Rattle.graph_terms.specs.Graph.{GraphValue}
use Rattle.graph_meaning.specs.Laws.{waiting_for}
use Rattle.tried_advice.specs.declared.form.Form.{Form}
use Rattle.tried_advice.specs.declared.form.Form.TheVariants.{OnLine, Between}

-- the events behind the `on` of line i
abbrev pub on_at : GraphValue → ℕ → List ℕ
on_at g i = option_map_or (λ (l : Line). l.on) (slice_get g.lines i) []

-- the event that a form lets line n wait for besides
abbrev pub event_for : Form → ℕ → Option ℕ
event_for (OnLine line event) n = cond (n == line) (Some event) None
event_for (Between before line after) n = cond (n == line) (Some before) (cond (n == after) (Some line) None)

-- events and one more, where there is one
abbrev pub with_event : List ℕ → Option ℕ → List ℕ
with_event events None = events
with_event events (Some event) = events ++ event ∷ []

-- line n as a form has it: the same but for what it waits for
abbrev pub changed : Form → ℕ → Line → Line
changed form n l = waiting_for (with_event l.on (event_for form n)) l

-- these lines so, the first of them being line n
abbrev pub changed_from : Form → ℕ → List Line → List Line
changed_from form n [] = []
changed_from form n (l ∷ ls) = changed form n l ∷ changed_from form (n + 1) ls

-- line i waits for no event behind `on`
abbrev pub is_free : GraphValue → ℕ → Bool
is_free g i = length (on_at g i) == 0

-- each line that a form lets wait for an event more waits for none there
abbrev pub are_free : GraphValue → Form → Bool
are_free g (OnLine line event) = is_free g line
are_free g (Between before line after) = is_free g line && is_free g after

-- the format in which a form is tried: that of the graph, or format 3 where several events come to stand behind `on`
abbrev pub tried_format : GraphValue → Form → Format
tried_format g form = cond (are_free g form) g.format Three

-- the graph in which a form is followed
abbrev pub applied : GraphValue → Form → GraphValue
applied g form = record { format = tried_format g form; decls = g.decls; lines = changed_from form 0 g.lines }

-- the last of some acquires that is none of the others
abbrev pub lone_acquire : List ℕ → List ℕ → Option ℕ
lone_acquire others acquires = find (λ k. not (list_any (λ q. q == k) others)) (reverse acquires)

-- line i and line e, for which acquire q waits: line i comes between the two, or line e waits for it
abbrev pub outer_forms : ℕ → ℕ → Option ℕ → List Form
outer_forms i q None = []
outer_forms i q (Some e) = cond (nat_lt i e) (OnLine e i) (Between e i q) ∷ []

-- line j lies in the section of acquire q, and line i does not: the acquire waits for line i, or line i comes between the acquire and line j
abbrev pub section_forms : GraphValue → ℕ → ℕ → Option ℕ → List Form
section_forms g i j None = []
section_forms g i j (Some q) = cond (nat_lt i q) (OnLine q i ∷ outer_forms i q (slice_get (on_at g q) 0)) (Between q i j ∷ [])

-- what is tried for lines i and j, three forms at most: line j waits for line i, or what the sections ask for in which they lie
abbrev pub tried_forms : GraphValue → ℕ → ℕ → List ℕ → List ℕ → List Form
tried_forms g i j qs ks = OnLine j i ∷ section_forms g i j (lone_acquire qs ks)
