-- The lines of a book, judged one after the other.
use Rattle.std.proofs.Common.{◌≡◌, ◌∙◌, ℕ, ◌+◌, ◌<◌, ◌≤◌, List, ◌++◌, drop, get_or, length, map, Option, Some, None, sym, ap, subst}
use Rattle.std.proofs.lemmas.List.{drop_all}
use Rattle.pb_language.specs.Book.{Registry}
use Rattle.pb_play.specs.Sound.{AreSound, as_list}
use Rattle.pb_syntax.proofs.Left.{drop-at}
use Rattle.pb_task.specs.declared.task.Task.{Task}
use Rattle.pb_rules.specs.Broken.{Asked, broken_at, first_broken, site_broken, sooner}
use Rattle.pb_rules.specs.Sites.{IsResolvedThere, site_view, task_of, tasks_at}
use Rattle.pb_rules.specs.declared.broken.Broken.{Broken}
use Rattle.pb_rules.specs.declared.site.Site.{Site}
use Rattle.pb_rules.proofs.Least.{sooner-none, sooner-through}

first-sound : (ms : Registry) (o : Option Task) (ts : List Task) → AreSound ms (as_list o ++ ts) → IsResolvedThere ms o × AreSound ms ts
first-sound ms None ts h = (tt, h)
first-sound ms (Some t) ts h = (h.0.0, h.1)

-- up to that line they were judged
pub record AreJudged (ms : Registry) (qs : List Asked) (ss : List Site) (i : ℕ) (o : Option Broken) : Type 0 where
  pub sound : AreSound ms (tasks_at (drop i ss))
  pub found : sooner o (first_broken qs (map site_view (drop i ss))) ≡ first_broken qs (map site_view ss)

pub judged-one : (ms : Registry) (qs : List Asked) (ss : List Site) (i : ℕ) (s : Site) (o b p : Option Broken) → AreJudged ms qs ss i o → i < length ss → s ≡ get_or ss i s
    → (IsResolvedThere ms (task_of s.thing) → b ≡ broken_at (site_view s).line (site_broken qs (site_view s))) → p ≡ sooner o b → AreJudged ms qs ss (i + 1) p
judged-one ms qs ss i s o b p h lt e f g =
    let rest = drop (i + 1) ss in
    let all = drop-at ss i s lt e in
    let parts = first-sound ms (task_of s.thing) (tasks_at rest) (subst (λ xs. AreSound ms (tasks_at xs)) all h.sound) in
    let others = first_broken qs (map site_view rest) in
    record {
      sound = parts.1;
      found = ap (λ x. sooner x others) g ∙ sooner-through o b others ∙ ap (λ x. sooner o (sooner x others)) (f parts.0) ∙ ap (λ xs. sooner o (first_broken qs (map site_view xs))) (sym all) ∙ h.found;
    }

pub judged-all : (ms : Registry) (qs : List Asked) (ss : List Site) (i : ℕ) (o : Option Broken) → AreJudged ms qs ss i o → length ss ≤ i → o ≡ first_broken qs (map site_view ss)
judged-all ms qs ss i o h past = sym (sooner-none o) ∙ ap (λ xs. sooner o (first_broken qs (map site_view xs))) (sym (drop_all i ss past)) ∙ h.found
