-- Which books are accepted, with which budget, and which are refused.
use Rattle.pb_language.specs.Book.{Book, Registry}
use Rattle.pb_language.specs.Plays.{program_of}
use Rattle.pb_language.specs.Program.{Inventory}
use Rattle.pb_language.specs.Rules.{rules_offence}
use Rattle.pb_language.specs.Verdict.{Verdict, flow_verdict, offence_verdict}

-- first the rules that need no flow, then what the ways of each host show
abbrev pub judged : Registry → Inventory → Book → Verdict
judged ms inventory b = offence_verdict (rules_offence ms inventory b)
    (flow_verdict (program_of ms inventory b) inventory)
