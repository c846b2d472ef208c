-- What the ways of all hosts come to.
use Rattle.std.specs.Prelude.{◌≡◌, ℕ, List, Bool, false, nat_le, map, Option, Some, None}
use Rattle.std.specs.Prelude.{option_map, string_bytes}
use Rattle.pb_language.specs.Expression.{Name}
use Rattle.pb_language.specs.Program.{Inventory, Program}
use Rattle.pb_language.specs.Scope.{Later, View}
use Rattle.pb_language.specs.Tables.{all_walked}
use Rattle.pb_language.specs.Verdict.{Refusal, Verdict, code_of, offence_verdict}
use Rattle.pb_language.specs.Verdict.{settled_verdict}
use Rattle.pb_forms.specs.FitView.{fault_view}
use Rattle.pb_walks.specs.Alone.{plays_read_others}
use Rattle.pb_alike.specs.Named.{plays_read_name}
use Rattle.pb_others.specs.Others.{book_reads_theirs, plays_read_theirs}
use Rattle.pb_play.specs.Plays.{play_view}
use Rattle.pb_play.specs.declared.play.Play.{Play}
use Rattle.pb_walks.specs.Notified.{HostsNameHandlers}
use Rattle.pb_tables.specs.declared.outcome.HostFault.{HostFault}
use Rattle.pb_tables.specs.declared.outcome.Outcome.{Outcome}
use Rattle.pb_tables.specs.declared.outcome.Reads.{Reads}
use Rattle.pb_tables.specs.declared.outcome.Reads.TheVariants.{Others, Own, Nameless}

-- whatever hosts see of each other, each text that notifies names a handler
abbrev pub AlwaysNamesHandlers : Inventory → Program → Type 0
AlwaysNamesHandlers i ps =
    (views : List View) (ls : List (List Later)) → HostsNameHandlers (all_walked i ps views ls)

-- the variables of other hosts that no text of the book reads, none of the plays does
abbrev pub ReadsAsWritten : List Play → Program → Type 0
ReadsAsWritten written ps = (ns : List Name)
    → book_reads_theirs ns (map play_view written) ≡ false → plays_read_theirs ns ps ≡ false

-- no text of the plays reads what it is said that none does
abbrev pub ReadsNoMore : Reads → Program → Type 0
ReadsNoMore (Others written) ps = ReadsAsWritten written.now ps
ReadsNoMore Own ps = plays_read_others ps ≡ false
ReadsNoMore Nameless ps = (plays_read_others ps ≡ false) × (plays_read_name ps ≡ false)

abbrev pub host_offence : HostFault → Refusal
host_offence f = record {
  code = code_of (fault_view f.fault.unfit);
  line = f.fault.line;
  host = Some (string_bytes f.host);
}

-- there is a fault at that line or a lesser one
abbrev pub stands_by : Option HostFault → ℕ → Bool
stands_by None n = false
stands_by (Some f) n = nat_le f.fault.line n

-- the first fault, then kinds that aren't settled, then the budget
abbrev pub outcome_verdict : Outcome → Verdict
outcome_verdict o =
    offence_verdict (option_map host_offence o.fault) (settled_verdict o.is_settled o.calls)
