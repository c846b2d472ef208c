use Rattle.std.proofs.Common.{◌≡◌, None, codes, not, ap, sym, ◌∙◌}
use Rattle.pb_language.specs.TaskForm.{code_where, is_known_work}
use Rattle.pb_sig.specs.Modules.{modules_of}
use Rattle.pb_task.specs.Doings.{doing_view}
use Rattle.pb_task.proofs.Works.{known_doing}
use Rattle.pb_task.proofs.offence.unknown_offence.Goals as goal

pub returns-in-Some : goal.returns-in-Some
returns-in-Some c =
    ap (λ b. code_where (not b) 6 None) (sym (known_doing (modules_of c.args.registry.now) c.args.name.now (doing_view c.in-Some.field-0) c.in-Some.ensures.given))
