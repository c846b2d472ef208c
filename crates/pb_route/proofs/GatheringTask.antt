-- The task that gathers facts.
use Rattle.std.proofs.Common.{◌≡◌, ◌∙◌, ℕ, [], Some, None, String, Vec, Global, codes, refl, ap, sym}
use Rattle.std.specs.declared.sync.Arc.{Arc}
use Rattle.pb_language.specs.Book.{Registry}
use Rattle.pb_language.specs.Plays.{gathering_task}
use Rattle.pb_sig.proofs.Found.{module_at-name, module_at-own}
use Rattle.pb_sig.specs.ModuleView.{known_view}
use Rattle.pb_sig.specs.Modules.{module_at}
use Rattle.pb_sig.specs.declared.registry.Known.{Known}
use Rattle.pb_syntax.specs.declared.expr.Expr.{Expr}
use Rattle.pb_task.specs.Tasks.{task_view}
use Rattle.pb_task.specs.declared.task.Task.{Task}
use Rattle.pb_task.specs.declared.task.Work.TheVariants.{Module}
use Rattle.pb_template.specs.declared.entry.Entry.{Entry}
use Rattle.pb_route.specs.Routes.{Gathers}

-- it calls that module, and nothing else is given
abbrev calling : ℕ → Arc Known Global → Vec Entry Global → Vec Expr Global → Vec Entry Global → Vec (Arc (String Global) Global) Global → Task
calling l m arguments when vars notify = record {
  line = l;
  work = Module m;
  arguments = arguments;
  when = when;
  loop_over = None;
  register = None;
  vars = vars;
  notify = notify;
  changed_when = None;
  failed_when = None;
  attempts = None;
  ignore_errors = None;
}

pub setup-gathers : (ms : Registry) (l : ℕ) (m : Arc Known Global) (k : Known) (arguments : Vec Entry Global) (when : Vec Expr Global) (vars : Vec Entry Global) (notify : Vec (Arc (String Global) Global) Global)
    → m.value ≡ k → Some (known_view k) ≡ module_at (codes "setup") ms → arguments.items ≡ [] → when.items ≡ [] → vars.items ≡ [] → notify.items ≡ []
    → Gathers ms (Some l) (Some (calling l m arguments when vars notify))
setup-gathers ms l m k arguments when vars notify is found a w v n =
    let at : module_at (codes "setup") ms ≡ Some (known_view m.value) = sym found ∙ ap (λ (x : Known). Some (known_view x)) (sym is) in
    let named : (known_view m.value).name ≡ codes "setup" = module_at-name (codes "setup") ms (known_view m.value) at in
    let told : task_view (calling l m arguments when vars notify) ≡ gathering_task l = rw (a, w, v, n, named) refl in
    (told, module_at-own (codes "setup") ms (known_view m.value) at)
