use Rattle.std.proofs.Common.{◌≡◌, Bool, not, ◌&&◌, cond, Option, Some, None, is_some, map, sym, ap, ap₂, ◌∙◌}
use Rattle.pb_language.specs.Expression.{Name}
use Rattle.pb_language.specs.Give.{any_failed, message_of}
use Rattle.pb_start.specs.Prepared.{trees_of}
use Rattle.pb_syntax.specs.ExprView.{expr_view}
use Rattle.pb_finish.specs.Endings.{final_view, written}
use Rattle.pb_finish.proofs.Comes.{looped-expanded}
use Rattle.pb_finish.proofs.outcome.outcome_of.Goals as goal

pub returns : goal.returns
returns c = λ t d.
    let es = map final_view c.args.results.now in
    let looped : is_some t.loop ≡ is_some c.args.prepared.now.loop_over = ap is_some d.loop ∙ looped-expanded (trees_of c.args.prepared.now) expr_view c.args.prepared.now.loop_over in
    let failing : c.is_failing-fails.result ≡ (any_failed es && not t.ignores) = c.is_failing-fails.ensures ∙ ap₂ (λ a b. a && not b) c.any_failed-failed.ensures (sym d.ignores) in
    record {
      changed = c.any_changed-changed.ensures;
      failed = c.any_failed-failed.ensures;
      skipped = c.all_skipped-skipped.ensures;
      writes = λ vars. c.in_ok-writes.ensures t.loop vars looped ∙ ap₂ (λ (r : Option Name) (b : Bool). written r t.loop b es vars) (sym d.register) failing;
      failure = c.in_ok-failure.ensures t.loop looped ∙ ap (λ b. cond b (Some (message_of t.loop es)) None) failing;
    }
