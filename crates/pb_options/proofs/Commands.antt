-- A command with two or three arguments more.
use Rattle.std.proofs.Common.{◌≡◌, false, ◌||◌, refl, ap₂, ◌∙◌}
use Rattle.clap.specs.Words.{AddsArg, App, Rule, app_of, rule_of, with_rule}
use Rattle.clap.specs.declared.builder.arg.Arg.{Arg}
use Rattle.clap.specs.declared.builder.command.Command.{Command}
use Rattle.pb_options.specs.Options.{Extends, IsLocal}

-- the argument reads words by this rule, and isn't there for subcommands too
pub record Reads (a : Arg) (r : Rule) : Type 0 where
  pub local : a.global ≡ false
  pub rule : rule_of a ≡ r

added : (old new : Command) (a : Arg) (app : App) (r : Rule) → AddsArg old a new → Reads a r → app_of old ≡ app → app_of new ≡ with_rule app r
added old new a app r more reads is = more.shape reads.local ∙ ap₂ with_rule is reads.rule

stays_local : (old new : Command) (a : Arg) (r : Rule) → AddsArg old a new → Reads a r → IsLocal old → IsLocal new
stays_local old new a r more reads local = more.globals ∙ ap₂ ◌||◌ local reads.local

pub Extends-two : (one two three : Command) (a b : Arg) (r s : Rule) → AddsArg one a two → AddsArg two b three → Reads a r → Reads b s
    → Extends (λ app. with_rule (with_rule app r) s) one three
Extends-two one two three a b r s first second is_r is_s = record {
  app = added two three b (with_rule (app_of one) r) s second is_s (added one two a (app_of one) r first is_r refl);
  local = λ here. stays_local two three b s second is_s (stays_local one two a r first is_r here);
}

pub Extends-three : (one two three four : Command) (a b d : Arg) (r s t : Rule) → AddsArg one a two → AddsArg two b three → AddsArg three d four
    → Reads a r → Reads b s → Reads d t → Extends (λ app. with_rule (with_rule (with_rule app r) s) t) one four
Extends-three one two three four a b d r s t first second third is_r is_s is_t = record {
  app =
      added three four d (with_rule (with_rule (app_of one) r) s) t third is_t
      (added two three b (with_rule (app_of one) r) s second is_s (added one two a (app_of one) r first is_r refl));
  local = λ here. stays_local three four d t third is_t (stays_local two three b s second is_s (stays_local one two a r first is_r here));
}
