use Rattle.std.proofs.Common.{◌≡◌, ◌∙◌, ◌&&◌, true, cond, ap, sym, subst}
use Rattle.pb_value.specs.View.{view, fields_view}
use Rattle.pb_task.specs.Standings.{standing_view}
use Rattle.pb_semantics.specs.Keeps.{is_among}
use Rattle.pb_language.specs.Keywords.{keywords_of}
use Rattle.pb_language.specs.TaskForm.{fit_keywords, fits_keyword}
use Rattle.pb_task.proofs.Works.{is-so}
use Rattle.pb_task.proofs.form.fit_keywords.Goals as goal

pub loop-key-preserved : goal.loop-key-preserved
loop-key-preserved c =
    let s = standing_view c.args.standing in
    let v = view c.in-Some.value.now in
    let fits = is-so _ (sym c.if-is_misfit.false ∙ c.is_misfit.ensures) in
    let named = subst (λ n. cond (is_among n (keywords_of s)) (fits_keyword s n v) true ≡ true) c.as_str.ensures.value fits in
    c.loop-key.invariant ∙ ap (λ es. fit_keywords s (fields_view es)) c.in-Some.ensures.steps ∙ ap (λ q. q && fit_keywords s (fields_view c.next.new.self)) named
