use denote.Ref.{Bor}
use Rattle.std.proofs.Common.{◌≡◌, ◌∙◌, Bool, true, false, not, Option, Some, None, option_map, refl, sym, ap, subst}
use Rattle.std.specs.Prelude.{unwrap_or}
use Rattle.pb_semantics.specs.Keeps.{is_among}
use Rattle.pb_language.specs.Expansion.{all_expanded, trees}
use Rattle.pb_language.specs.Expression.{Expressions, no_parts}
use Rattle.pb_language.specs.Plays.{append_expressions, expanded_attempts, expanded_list, expanded_option}
use Rattle.pb_language.specs.Rules.{part_names}
use Rattle.pb_flow.specs.Nodes.{around_view}
use Rattle.pb_route.specs.Station.{lone_registry, stands_round}
use Rattle.pb_syntax.specs.Aliases.{Trees, trees_in}
use Rattle.pb_syntax.specs.ExprView.{expr_view, exprs_view, parts_view}
use Rattle.pb_syntax.specs.declared.expr.Expr.{Expr}
use Rattle.pb_task.specs.Tasks.{task_view}
use Rattle.pb_vars.specs.Borrowed.{borrowed_view}
use Rattle.pb_vars.specs.InScope.{in_scope}
use Rattle.pb_reads.specs.Done.{evaluated}
use Rattle.pb_reads.specs.Needed.{AreSameAt, IsReached}
use Rattle.pb_reads.specs.Roots.{all_roots}
use Rattle.pb_reads.specs.Round.{conditions_round}
use Rattle.pb_reads.specs.RootsView.{roots_view}
use Rattle.pb_start.specs.Items.{read_no_item}
use Rattle.pb_prepare.specs.Order.{has_order}
use Rattle.pb_prepare.specs.Roots.{roots_at}
use Rattle.pb_prepare.proofs.Same.{same-action, same-attempts, same-changed, same-conditions, same-failed, same-loop}
use Rattle.pb_prepare.proofs.task.prepare.Goals as goal

borrowed : (o : Option (Bor Expr)) → option_map (λ e. expr_view e.now) o ≡ option_map expr_view (option_map (λ e. e.now) o)
borrowed None = refl
borrowed (Some e) = refl

unlike : (a b : Bool) → b ≡ not a → b ≡ false → a ≡ true
unlike true b e h = refl
unlike false b e h = absurd (cc)

pub invariant_of-result : goal.invariant_of-result
invariant_of-result c = record {
  no_item = λ off.
      ap read_no_item (c.in_ok-names.ensures ∙ ap borrowed_view (c.as_slice-2.ensures.value ∙ sym c.as_slice-3.ensures.value))
      ∙ unlike (read_no_item (borrowed_view c.as_slice-3.result.now)) c.in_ok-read_item.field-0 c.in_ok-read_item.ensures off;
}

pub returns-clause-item : goal.returns-clause-item
returns-clause-item c =
    c.in_ok-read_item.ensures
    ∙ ap (λ ps. not (read_no_item ps)) (sym (c.in_ok-names.ensures ∙ ap borrowed_view (c.as_slice-2.ensures.value ∙ sym c.as_slice-3.ensures.value)))

pub returns-clause-names : goal.returns-clause-names
returns-clause-names c = λ n among.
    let s = c.args.station.now in
    let t = s.task.now in
    let when = exprs_view t.when.items in
    let roots : roots_view c.as_slice.result.now ≡ roots_at s =
    ap roots_view c.as_slice.ensures.value ∙ c.in_ok-roots.ensures (lone_registry t.work) no_parts ∙ ap (λ a. all_roots (evaluated (append_expressions (around_view (lone_registry t.work) no_parts a).conditions when) (task_view t))) c.deref-around.ensures in
    let names : parts_view c.in_ok-names.field-0.items ≡ borrowed_view c.in_ok-reached.reached.items = c.in_ok-names.ensures ∙ ap borrowed_view c.as_slice-2.ensures.value in
    subst (λ rs. IsReached (in_scope s.vars) rs n) roots (c.in_ok-reached.ensures.needed n (ap (λ ps. is_among n (part_names ps)) (sym names) ∙ among))

pub returns-clause-task : goal.returns-clause-task
returns-clause-task c = λ ordered.
    let s = c.args.station.now in
    let t = s.task.now in
    let d = task_view t in
    let ms = lone_registry t.work in
    let when = exprs_view t.when.items in
    let cs : Expressions = append_expressions (stands_round s).conditions when in
    let f : Trees = trees_in (parts_view c.in_ok-names.field-0.items) in
    let g : Trees = trees (in_scope s.vars) in
    let roots : roots_view c.as_slice.result.now ≡ all_roots (evaluated cs d) =
    ap roots_view c.as_slice.ensures.value ∙ c.in_ok-roots.ensures ms no_parts ∙ ap (λ a. all_roots (evaluated (append_expressions (around_view ms no_parts a).conditions when) d)) c.deref-around.ensures in
    let names : parts_view c.in_ok-names.field-0.items ≡ borrowed_view c.in_ok-reached.reached.items = c.in_ok-names.ensures ∙ ap borrowed_view c.as_slice-2.ensures.value in
    let same : AreSameAt (all_roots (evaluated cs d)) f g =
    subst (λ rs. AreSameAt rs f g) roots (subst (λ ps. AreSameAt (roots_view c.as_slice.result.now) (trees_in ps) g) (sym names) (c.in_ok-reached.ensures.enough c.requires.station.short)) in
    let work = same-action f g cs d same ms in
    let conditions : exprs_view c.in_ok-conditions.field-0.items ≡ cs =
    c.in_ok-conditions.ensures ∙ ap (λ a. append_expressions (conditions_round a) (exprs_view c.deref.result.now)) c.deref-around.ensures ∙ ap (λ es. append_expressions (stands_round s).conditions (exprs_view es)) c.deref.ensures.value in
    record {
      action = sym (c.in_ok-action.ensures f (ap has_order work ∙ ordered) ∙ work);
      conditions = sym (ap (all_expanded f) conditions ∙ same-conditions f g cs d same);
      loop = sym (ap (expanded_option f) (c.in_ok-option.ensures ∙ borrowed c.as_ref.result ∙ ap (option_map expr_view) c.as_ref.ensures.value) ∙ same-loop f g cs d same);
      register = sym c.in_ok-shared.ensures;
      changed_when = sym (ap (expanded_list f) c.in_ok-list.ensures ∙ same-changed f g cs d same);
      failed_when = sym (ap (expanded_list f) c.in_ok-list-2.ensures ∙ same-failed f g cs d same);
      attempts = sym (ap (expanded_attempts f) c.in_ok-attempts.ensures ∙ same-attempts f g cs d same);
      ignores = sym (c.ignores.ensures ∙ ap (λ a. unwrap_or t.ignore_errors a.ignores) c.deref-around.ensures);
      rescued = sym (ap (λ a. a.rescued) c.deref-around.ensures);
      depth = sym (ap (λ a. a.depth) c.deref-around.ensures);
    }
