-- The task of the definitions that a prepared task is.
use Rattle.std.specs.Prelude.{◌≡◌, option_map, string_bytes}
use Rattle.pb_language.specs.Expansion.{all_expanded}
use Rattle.pb_language.specs.Plays.{expanded_option, expanded_list, expanded_attempts}
use Rattle.pb_language.specs.Task.{Task}
use Rattle.pb_syntax.specs.Aliases.{Trees, trees_in}
use Rattle.pb_syntax.specs.ExprView.{expr_view, exprs_view, parts_view}
use Rattle.pb_task.specs.Tasks.{attempts_view}
use Rattle.pb_start.specs.Actions.{action_view}
use Rattle.pb_start.specs.declared.prepared.Prepared.{Prepared}

-- the whole tree of each name of `vars` that the task reads
abbrev pub trees_of : Prepared → Trees
trees_of p = trees_in (parts_view p.names.items)

-- it is this task, at its place in its play
pub record Prepares (p : Prepared) (t : Task) : Type 0 where
  pub action : t.action ≡ action_view (trees_of p) p.action
  pub conditions : t.conditions ≡ all_expanded (trees_of p) (exprs_view p.conditions.items)
  pub loop : t.loop ≡ expanded_option (trees_of p) (option_map expr_view p.loop_over)
  pub register : t.register ≡ option_map (λ n. string_bytes n.value) p.register
  pub changed_when : t.changed_when
      ≡ expanded_list (trees_of p) (option_map (λ es. exprs_view es.items) p.changed_when)
  pub failed_when : t.failed_when
      ≡ expanded_list (trees_of p) (option_map (λ es. exprs_view es.items) p.failed_when)
  pub attempts : t.attempts
      ≡ expanded_attempts (trees_of p) (option_map attempts_view p.attempts)
  pub ignores : t.ignores ≡ p.ignores
  pub rescued : t.rescued ≡ p.rescued
  pub depth : t.depth ≡ p.depth
