use Rattle.std.proofs.Common.{◌≡◌, ◌++◌, List, map, drop, String, Global, string_bytes}
use Rattle.pb_language.specs.Evaluation.{eval, eval_all, eval_any, eval_items, eval_parts, eval_text}
use Rattle.pb_language.specs.Expansion.{expanded, all_expanded, parts_expanded}
use Rattle.pb_value.specs.View.{items_view, fields_view, fields_of}
use Rattle.pb_syntax.specs.ExprView.{expr_view, exprs_view, parts_view}
use Rattle.pb_eval.specs.OwnWorld.{shown}
use Rattle.pb_syntax.specs.declared.expr.Expr.{Expr}
use Rattle.pb_eval.proofs.Outcomes.{after_items, after_fields}
use Rattle.pb_eval.proofs.MadeTexts.{after_text}
use Rattle.pb_eval.proofs.eval.+eval.Given as goal

abbrev pub invariant-all_of-loop-operand : goal.invariant-all_of-loop-operand
invariant-all_of-loop-operand g l =
    eval_all (g.V.Vars.world l.vars) (all_expanded (g.V.Vars.trees l.vars) (exprs_view l.operands)) ≡ eval_all (g.V.Vars.world l.vars) (all_expanded (g.V.Vars.trees l.vars) (exprs_view (drop l.operand-index l.operands)))

abbrev pub invariant-any_of-loop-operand : goal.invariant-any_of-loop-operand
invariant-any_of-loop-operand g l =
    eval_any (g.V.Vars.world l.vars) (all_expanded (g.V.Vars.trees l.vars) (exprs_view l.operands)) ≡ eval_any (g.V.Vars.world l.vars) (all_expanded (g.V.Vars.trees l.vars) (exprs_view (drop l.operand-index l.operands)))

abbrev pub invariant-list_of-loop-item : goal.invariant-list_of-loop-item
invariant-list_of-loop-item g l =
    eval_items (g.V.Vars.world l.vars) (all_expanded (g.V.Vars.trees l.vars) (exprs_view l.items)) ≡ after_items (items_view l.values.items) (eval_items (g.V.Vars.world l.vars) (all_expanded (g.V.Vars.trees l.vars) (exprs_view (drop l.item-index l.items))))

abbrev pub invariant-text_of-loop-part : goal.invariant-text_of-loop-part
invariant-text_of-loop-part g l =
    eval_text (g.V.Vars.world l.vars) (all_expanded (g.V.Vars.trees l.vars) (exprs_view l.parts)) ≡ after_text (string_bytes l.text) (eval_text (g.V.Vars.world l.vars) (all_expanded (g.V.Vars.trees l.vars) (exprs_view (drop l.part-index l.parts))))

abbrev pub invariant-record_of-loop-name : goal.invariant-record_of-loop-name
invariant-record_of-loop-name g l =
    (done : List (String Global × Expr)) × (l.fields.entries ≡ done ++ l.name-iterator)
    × (fields_view l.values.entries ≡ fields_of (map (λ m. (m.0, shown (eval (g.V.Vars.world l.vars) (expanded (g.V.Vars.trees l.vars) (expr_view m.1))))) done))
    × (eval_parts (g.V.Vars.world l.vars) (parts_expanded (g.V.Vars.trees l.vars) (parts_view l.fields.entries)) ≡ after_fields (fields_view l.values.entries) (eval_parts (g.V.Vars.world l.vars) (parts_expanded (g.V.Vars.trees l.vars) (parts_view l.name-iterator))))
