-- What a command line asks for: the matches of one simple command, and what its values mean.
use Rattle.std.specs.Prelude.{◌≡◌, Bool, List, [], String, string_bytes, map, ◌∷◌, Option, Some, None, option_map, option_and_then, codes, if◌then◌else◌}
use Rattle.std.specs.Option.{option_map_or}
use Rattle.std.specs.Global.{Global}
use Rattle.std.specs.Str.{bytes_eq}
use Rattle.clap.specs.Words.{App, Row, Rule, Text, new_app, new_rule, with_rule, matches_of, first_of, fault_of, Kinds}
use Rattle.clap.specs.declared.builder.action.ArgAction.TheVariants.{SetTrue}
use Rattle.command_line.specs.Number.{number_of, number_between}
use Rattle.command_line.specs.declared.request.TheConstants.{MAX_WORKERS, MAX_SLOTS, MAX_SIZE}
use Rattle.command_line.specs.declared.request.Action.{Action}
use Rattle.command_line.specs.declared.request.Action.TheVariants.{Run, Check, Eval, Make, Audit, Timeline, Upgrade, Session}
use Rattle.command_line.specs.declared.request.Engine.{Engine}
use Rattle.command_line.specs.declared.request.Engine.TheVariants.{Words, Lock}
use Rattle.command_line.specs.declared.request.HintKind.{HintKind}
use Rattle.command_line.specs.declared.request.HintKind.TheVariants.{Queue, Homes}
use Rattle.command_line.specs.declared.request.Request.{Request}

-- an option with one value, and a flag
abbrev pub option_rule : Text → Rule
option_rule name = record (new_rule name) { long = Some name }

abbrev pub flag_rule : Text → Rule
flag_rule name = record (new_rule name) { long = Some name; action = Some SetTrue }

-- the command without its arguments: it has no flags for help and the version
abbrev pub bare_command : App
bare_command = record { top = record (new_app (codes "realm")).top { disable_help_flag = Bool.true; disable_version_flag = Bool.true }; subs = [] }

-- the simple command: an action, seven options with one value each, and three flags
abbrev pub realm_command : App
realm_command = with_rule (with_rule (with_rule (with_rule (with_rule (with_rule (with_rule (with_rule (with_rule (with_rule (with_rule bare_command
    (record (new_rule (codes "ACTION")) { required = Bool.true }))
    (option_rule (codes "workers")))
    (option_rule (codes "slots")))
    (option_rule (codes "engine")))
    (option_rule (codes "hints")))
    (option_rule (codes "seed")))
    (option_rule (codes "size")))
    (flag_rule (codes "trace")))
    (flag_rule (codes "text")))
    (option_rule (codes "to")))
    (flag_rule (codes "columns"))

-- the action that a word names
abbrev pub action_by_word : Text → Option Action
action_by_word word =
    if bytes_eq word (codes "run") then Some Run
    else if bytes_eq word (codes "check") then Some Check
    else if bytes_eq word (codes "eval") then Some Eval
    else if bytes_eq word (codes "make") then Some Make
    else if bytes_eq word (codes "audit") then Some Audit
    else if bytes_eq word (codes "timeline") then Some Timeline
    else if bytes_eq word (codes "upgrade") then Some Upgrade
    else if bytes_eq word (codes "session") then Some Session
    else None

-- the engine that a word names
abbrev pub engine_by_word : Text → Option Engine
engine_by_word word =
    if bytes_eq word (codes "words") then Some Words
    else if bytes_eq word (codes "lock") then Some Lock
    else None

-- the kind of hints that a word names
abbrev pub hint_kind_by_word : Text → Option HintKind
hint_kind_by_word word =
    if bytes_eq word (codes "queue") then Some Queue
    else if bytes_eq word (codes "homes") then Some Homes
    else None

-- that a word names format 3, the only one that an upgrade can be asked for
abbrev pub three_by_word : Text → Option Bool
three_by_word word = if bytes_eq word (codes "3") then Some Bool.true else None

-- the value of an option where its text is read, the default where it isn't given, and none where its text can't be read
abbrev pub value_or : {X : Type 0} → X → (Text → Option X) → Option Text → Option X
value_or default read given = option_map_or read given (Some default)

-- whether a flag was given
abbrev pub is_set : Option Text → Bool
is_set given = option_map_or (λ word. bytes_eq word (codes "true")) given Bool.false

-- what the matches ask for, and nothing where a value is out of the table
abbrev pub request_in : List Row → Option Request
request_in rows =
    option_and_then (λ action.
    option_and_then (λ workers.
    option_and_then (λ slots.
    option_and_then (λ engine.
    option_and_then (λ hints.
    option_and_then (λ seed.
    option_and_then (λ size.
    option_map (λ to_three. record {
      «action» = action;
      «workers» = workers;
      «slots» = slots;
      «engine» = engine;
      «hints» = hints;
      «seed» = seed;
      «size» = size;
      trace = is_set (first_of (codes "trace") rows);
      text = is_set (first_of (codes "text") rows);
      «to_three» = to_three;
      columns = is_set (first_of (codes "columns") rows);
    })
    (value_or Bool.false three_by_word (first_of (codes "to") rows)))
    (value_or 100 (number_between 1 MAX_SIZE) (first_of (codes "size") rows)))
    (value_or 1 number_of (first_of (codes "seed") rows)))
    (value_or Queue hint_kind_by_word (first_of (codes "hints") rows)))
    (value_or Words engine_by_word (first_of (codes "engine") rows)))
    (value_or None (λ word. option_map (λ n. Some n) (number_between 1 MAX_SLOTS word)) (first_of (codes "slots") rows)))
    (value_or 4 (number_between 0 MAX_WORKERS) (first_of (codes "workers") rows)))
    (option_and_then action_by_word (first_of (codes "ACTION") rows))

-- a request where the command finds no fault in the words
abbrev pub if_faultless : Kinds → Option Request → Option Request
if_faultless [] request = request
if_faultless (kind ∷ kinds) request = None

-- what the words ask for: nothing where the command refuses them or a value is out of the table
abbrev pub request_of : List Text → Option Request
request_of words = if_faultless (fault_of realm_command words) (request_in (matches_of realm_command words))

-- the same of words as the code has them
abbrev pub request_of_words : List (String Global) → Option Request
request_of_words words = request_of (map (λ word. string_bytes word) words)

-- the words ask for this
abbrev pub Asks : List (String Global) → Request → Type 0
Asks words request = request_of_words words ≡ Some request
