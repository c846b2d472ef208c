use Rattle.std.proofs.Common.{subst, sym}
use Rattle.pb_language.specs.Book.{Registry}
use Rattle.pb_language.specs.Expansion.{trees}
use Rattle.pb_language.specs.Plays.{append_parts}
use Rattle.pb_task.specs.Tasks.{Resolves}
use Rattle.pb_template.specs.Entries.{entries_view}
use Rattle.pb_judgement.proofs.TasksRead.{answers_as, named_as}
use Rattle.pb_judgement.proofs.laws.reads_as_it_does.Goals as goal

pub returns-clause-does : goal.returns-clause-does
returns-clause-does c = λ ms s p t same found.
    let f = trees (append_parts (entries_view t.vars.items) s.scope) in
    let found_here : Resolves s.registry t.work = subst (λ (rs : Registry). Resolves rs t.work) (sym same) found in record {
      answers = answers_as s.registry f t.work (entries_view t.arguments.items) found_here;
      named = named_as s.registry f t.work (entries_view t.arguments.items) found_here;
    }
