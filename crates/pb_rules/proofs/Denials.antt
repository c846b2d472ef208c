-- Books whose texts read others, or the host's own name, or have some root: what a question doesn't hold of.
use Rattle.std.proofs.Common.{◌≡◌, List, [], ◌∷◌, Bool, not, ◌||◌, Option, Some, None, refl, sym, ap, ◌∙◌}
use Rattle.pb_language.specs.Book.{TaskData}
use Rattle.pb_language.specs.Expansion.{trees}
use Rattle.pb_language.specs.Expression.{Name, Expression, Expressions, Root}
use Rattle.pb_language.specs.Rules.{expanded_reads, of_task, task_at_site, task_expressions}
use Rattle.pb_language.specs.Sites.{Site}
use Rattle.pb_walks.specs.Alone.{any_reads_others_there, site_reads_others}
use Rattle.pb_alike.specs.Named.{any_reads_name_there, expanded_reads_name, site_reads_name}
use Rattle.pb_others.specs.Rooted.{any_site_has_root, expanded_has_root, site_has_root}
use Rattle.pb_vars.specs.Reads.{Read, expanded_every_read, is_own}
use Rattle.pb_vars.proofs.Own.{own-expanded}
use Rattle.pb_rules.specs.Denied.{any_denied, site_denied}
use Rattle.pb_rules.specs.Named.{reads_no_name}
use Rattle.pb_rules.specs.Theirs.{none_holds}
use Rattle.pb_rules.proofs.Nameless.{name-expanded}
use Rattle.pb_rules.proofs.Rooted.{rooted-expanded}

same-of : (o : Option TaskData) (f h : TaskData → Bool) → ((t : TaskData) → f t ≡ h t) → of_task o f ≡ of_task o h
same-of None f h e = refl
same-of (Some t) f h e = e t

-- what is asked of all expressions of a task is that the question doesn't hold somewhere
module _ (f : Read → Bool) (asks : (Name → Option Expression) → Expressions → Bool) (same : (t : Name → Option Expression) (es : Expressions) → asks t es ≡ not (expanded_every_read t f es)) where
  site-same : (s : Site) → site_denied f s ≡ of_task (task_at_site s.thing) (λ t. asks (trees s.scope) (task_expressions s.conditions t))
  site-same s = same-of (task_at_site s.thing) _ _ (λ t. sym (same (trees s.scope) (task_expressions s.conditions t)))

pub others-denied : (ss : List Site) → any_denied is_own ss ≡ any_reads_others_there ss
others-denied [] = refl
others-denied (s ∷ ss) = ap (λ b. b || any_denied is_own ss) (site-same is_own expanded_reads own-expanded s) ∙ ap (λ b. site_reads_others s || b) (others-denied ss)

pub name-denied : (ss : List Site) → any_denied reads_no_name ss ≡ any_reads_name_there ss
name-denied [] = refl
name-denied (s ∷ ss) = ap (λ b. b || any_denied reads_no_name ss) (site-same reads_no_name expanded_reads_name name-expanded s) ∙ ap (λ b. site_reads_name s || b) (name-denied ss)

pub rooted-denied : (q : Root → Bool) (ss : List Site) → any_denied (none_holds q) ss ≡ any_site_has_root q ss
rooted-denied q [] = refl
rooted-denied q (s ∷ ss) =
    ap (λ b. b || any_denied (none_holds q) ss) (site-same (none_holds q) (expanded_has_root q) (rooted-expanded q) s) ∙ ap (λ b. site_has_root q s || b) (rooted-denied q ss)
