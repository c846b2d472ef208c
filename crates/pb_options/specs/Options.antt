-- What a command line says, read as `clap` reads it.
use Rattle.std.specs.Prelude.{◌≡◌, ◌≤◌, ◌⊎◌, ℕ, [], List, codes, Option, Some, None, Bool, true}
use Rattle.std.specs.Prelude.{false, is_some, unwrap_or, option_map, string_bytes}
use Rattle.std.specs.Str.Parse.{IsNumeral, digits_value, without_leading_plus}
use Rattle.clap.specs.Words.{App, IsAmong, Kinds, Row, Rule, Text, app_of, first_of, new_app}
use Rattle.clap.specs.Words.{new_rule, with_rule, with_subcommand}
use Rattle.clap.specs.declared.builder.command.Command.{Command}
use Rattle.clap.specs.declared.builder.command.Command.TheViews.{out-Command}
use Rattle.clap.specs.declared.builder.action.ArgAction.TheVariants.{Set}
use Rattle.clap.specs.declared.error.kind.ErrorKind.{ErrorKind}
use Rattle.clap.specs.declared.error.kind.ErrorKind.TheVariants.{DisplayHelp, DisplayVersion}
use Rattle.clap.specs.declared.error.kind.ErrorKind.TheVariants.{OutOfMemory}
use Rattle.pb_options.specs.declared.words.Calling.{Calling}
use Rattle.pb_options.specs.declared.words.Handover.{Handover}
use Rattle.pb_options.specs.declared.words.Handover.TheVariants.{Word, Input}
use Rattle.pb_options.specs.declared.words.LineFault.{LineFault}
use Rattle.pb_options.specs.declared.words.LineFault.TheVariants.{Help, Version, Line, NoMemory}
use Rattle.pb_options.specs.declared.words.Options.{Options}
use Rattle.pb_options.specs.declared.words.Options.TheVariants.{Check, Run}
use Rattle.pb_options.specs.declared.words.Source.{Source}
use Rattle.pb_options.specs.declared.words.Source.TheVariants.{Answers, Modules}
use Rattle.pb_options.specs.declared.words.Subject.{Subject}

-- the command has no argument for its subcommands too
abbrev pub IsLocal : Command → Type 0
IsLocal c = (out-Command c).has_globals ≡ false

-- the command takes arguments more, of which none is for its subcommands too
pub record Extends (with_more : App → App) (old new : Command) : Type 0 where
  pub app : app_of new ≡ with_more (app_of old)
  pub local : IsLocal old → IsLocal new

-- `--name VALUE`
abbrev pub option_rule : Text → Rule
option_rule name = record (new_rule name) { long = Some name; action = Some Set }

abbrev pub book_rule : Rule
book_rule = record (new_rule (codes "book")) { required = true; action = Some Set }

-- also `-i VALUE`
abbrev pub inventory_rule : Rule
inventory_rule = record (option_rule (codes "inventory")) { short = Some 105; required = true }

-- also `-s VALUE`
abbrev pub signatures_rule : Rule
signatures_rule = record (option_rule (codes "signatures")) { short = Some 115 }

-- also `-f VALUE`
abbrev pub forks_rule : Rule
forks_rule = record (option_rule (codes "forks")) { short = Some 102 }

abbrev pub answers_rule : Rule
answers_rule = option_rule (codes "answers")

abbrev pub modules_rule : Rule
modules_rule = option_rule (codes "modules")

abbrev pub arguments_rule : Rule
arguments_rule = option_rule (codes "arguments")

abbrev pub timeout_rule : Rule
timeout_rule = option_rule (codes "timeout")

abbrev pub with_files : App → App
with_files a = with_rule (with_rule (with_rule a book_rule) inventory_rule) signatures_rule

abbrev pub with_sources : App → App
with_sources a = with_rule (with_rule (with_rule a forks_rule) answers_rule) modules_rule

abbrev pub with_callings : App → App
with_callings a = with_rule (with_rule a arguments_rule) timeout_rule

abbrev pub check_app : App
check_app = with_files (new_app (codes "check"))

abbrev pub run_app : App
run_app = with_callings (with_sources (with_files (new_app (codes "run"))))

-- a command is wanted, or the version
abbrev pub top_app : App
top_app = record {
  top = record (new_app (codes "playcheck")).top
      { subcommand_required = true; has_version = true };
  subs = [];
}

-- the program's command line: playcheck check .. or playcheck run ..
abbrev pub playcheck_app : App
playcheck_app = with_subcommand (with_subcommand top_app check_app.top) run_app.top

-- the files are the values of their options
pub record NamesFiles (rows : List Row) (s : Subject) : Type 0 where
  pub book : string_bytes s.book ≡ unwrap_or (first_of (codes "book") rows) []
  pub inventory : string_bytes s.inventory ≡ unwrap_or (first_of (codes "inventory") rows) []
  pub signatures : option_map string_bytes s.signatures ≡ first_of (codes "signatures") rows

abbrev pub most_forks : ℕ
most_forks = 256

abbrev pub default_forks : ℕ
default_forks = 5

-- the number that the numeral writes, the default where there is none
abbrev pub IsForkCount : Option Text → ℕ → Type 0
IsForkCount None n = n ≡ default_forks
IsForkCount (Some t) n =
    IsNumeral 10 (without_leading_plus t) × (n ≡ digits_value 10 (without_leading_plus t))

-- the one of the two options that is there
abbrev pub NamesSource : List Row → Source → Type 0
NamesSource rows (Answers s) = (first_of (codes "answers") rows ≡ Some (string_bytes s))
    × (first_of (codes "modules") rows ≡ None)
NamesSource rows (Modules s) = (first_of (codes "modules") rows ≡ Some (string_bytes s))
    × (first_of (codes "answers") rows ≡ None)

-- as a word where nothing is said of it
abbrev pub NamesHandover : Option Text → Handover → Type 0
NamesHandover None h = h ≡ Word
NamesHandover (Some t) Word = t ≡ codes "word"
NamesHandover (Some t) Input = t ≡ codes "stdin"

-- a week
abbrev pub most_seconds : ℕ
most_seconds = 604800

-- the number of seconds that the numeral writes, none where there is no numeral
abbrev pub IsTimeout : Option Text → Option ℕ → Type 0
IsTimeout None o = o ≡ None
IsTimeout (Some t) None = ⊥
IsTimeout (Some t) (Some n) = IsNumeral 10 (without_leading_plus t)
    × ((n ≡ digits_value 10 (without_leading_plus t)) × ((1 ≤ n) × (n ≤ most_seconds)))

-- of calls something is said only where programs are called
abbrev pub MaySayCalling : List Row → Type 0
MaySayCalling rows = (is_some (first_of (codes "modules") rows) ≡ true)
    ⊎ ((first_of (codes "arguments") rows ≡ None) × (first_of (codes "timeout") rows ≡ None))

pub record SaysCalling (rows : List Row) (c : Calling) : Type 0 where
  pub may : MaySayCalling rows
  pub handover : NamesHandover (first_of (codes "arguments") rows) c.handover
  pub timeout : IsTimeout (first_of (codes "timeout") rows) c.timeout

-- the options are the values that were found for the command that was named
abbrev pub Says : Option (Text × List Row) → Options → Type 0
Says None o = ⊥
Says (Some found) (Check s) = (found.0 ≡ codes "check") × NamesFiles found.1 s
Says (Some found) (Run s n a c) =
    (found.0 ≡ codes "run") × (NamesFiles found.1 s
    × (IsForkCount (first_of (codes "forks") found.1) n
    × (NamesSource found.1 a × SaysCalling found.1 c)))

-- a run has a fork at least, and not too many
abbrev pub HasForks : Options → Type 0
HasForks (Check s) = Unit {0}
HasForks (Run s n a c) = (1 ≤ n) × (n ≤ most_forks)

-- neither help nor the version is asked for, and memory is there
abbrev pub is_mistake : ErrorKind → Bool
is_mistake DisplayHelp = false
is_mistake DisplayVersion = false
is_mistake OutOfMemory = false
is_mistake k = true

-- the fault is the one of this kind, want of memory aside
abbrev pub IsOfKind : LineFault → ErrorKind → Type 0
IsOfKind (Help text) k = k ≡ DisplayHelp
IsOfKind (Version text) k = k ≡ DisplayVersion
IsOfKind (Line text) k = is_mistake k ≡ true
IsOfKind NoMemory k = Unit {0}

-- a mistake in the words, where that is so; want of memory aside
abbrev pub IsMistakeWhere : Type 0 → LineFault → Type 0
IsMistakeWhere P (Help text) = ⊥
IsMistakeWhere P (Version text) = ⊥
IsMistakeWhere P (Line text) = P
IsMistakeWhere P NoMemory = Unit {0}

-- no number of forks, no source of answers and no way to call is named
abbrev pub NamesNoForks : List Row → Type 0
NamesNoForks rows =
    (n : ℕ) → IsForkCount (first_of (codes "forks") rows) n → 1 ≤ n → n ≤ most_forks → ⊥

abbrev pub NamesNoSource : List Row → Type 0
NamesNoSource rows = (s : Source) → NamesSource rows s → ⊥

abbrev pub SaysNoCalling : List Row → Type 0
SaysNoCalling rows = (c : Calling) → SaysCalling rows c → ⊥

-- what was found for the command that was named, if one was, says no options
abbrev pub SaysNone : Option (Text × List Row) → Type 0
SaysNone found = (o : Options) → Says found o → HasForks o → ⊥

-- the fault is one of these, which `clap` finds in the words, or, where it finds none, that what is
-- found says no options; want of memory aside
abbrev pub IsRefusal : Kinds → Option (Text × List Row) → LineFault → Type 0
IsRefusal ks found (Help text) = IsAmong DisplayHelp ks
IsRefusal ks found (Version text) = IsAmong DisplayVersion ks
IsRefusal ks found (Line text) =
    ((ks ≡ []) × SaysNone found) ⊎ ((k : ErrorKind) × (IsAmong k ks × (is_mistake k ≡ true)))
IsRefusal ks found NoMemory = Unit {0}
