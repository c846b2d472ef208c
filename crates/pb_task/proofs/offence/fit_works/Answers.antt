use Rattle.std.proofs.Common.{◌≡◌, ◌∙◌, ◌&&◌, true, false, ap, sym}
use Rattle.pb_value.specs.View.{view, fields_view}
use Rattle.pb_task.specs.Standings.{standing_view}
use Rattle.pb_sig.specs.Modules.{modules_of}
use Rattle.pb_language.specs.TaskForm.{fit_works, fits_work, without_prefix, works_in}
use Rattle.pb_task.proofs.Works.{works-no, works-yes}
use Rattle.std.proofs.Common.{string_bytes}
use Rattle.pb_task.proofs.offence.fit_works.Goals as goal

pub returns-then-not-fits_work : goal.returns-then-not-fits_work
returns-then-not-fits_work c =
    let ms = modules_of c.args.registry.now in
    let s = standing_view c.args.standing in
    let all = fields_view c.args.fields.now.entries in
    let left = fields_view c.next.new.self in
    let n = string_bytes c.in-Some.key.now in
    let v = view c.in-Some.value.now in
    let next = ap (λ es. works_in s (fields_view es)) c.in-Some.ensures.steps ∙ works-yes s n _ v left _ c.as_str.ensures.value c.is_work.ensures c.if-is_work.true in
    let name = c.without_prefix-name.ensures ∙ ap without_prefix c.as_str-then-is_work.ensures.value in
    let misfit : fits_work ms s all (without_prefix n) v ≡ false = ap (λ m. fits_work ms s all m v) (sym name) ∙ sym c.fits_work.ensures ∙ c.if-not-fits_work.true in
    sym (c.loop-key.invariant ∙ ap (fit_works ms s all) next ∙ ap (λ q. q && fit_works ms s all (works_in s left)) misfit)

pub loop-key-preserved-else-not-fits_work : goal.loop-key-preserved-else-not-fits_work
loop-key-preserved-else-not-fits_work c =
    let ms = modules_of c.args.registry.now in
    let s = standing_view c.args.standing in
    let all = fields_view c.args.fields.now.entries in
    let left = fields_view c.next.new.self in
    let n = string_bytes c.in-Some.key.now in
    let v = view c.in-Some.value.now in
    let next = ap (λ es. works_in s (fields_view es)) c.in-Some.ensures.steps ∙ works-yes s n _ v left _ c.as_str.ensures.value c.is_work.ensures c.if-is_work.true in
    let name = c.without_prefix-name.ensures ∙ ap without_prefix c.as_str-then-is_work.ensures.value in
    let fits : fits_work ms s all (without_prefix n) v ≡ true = ap (λ m. fits_work ms s all m v) (sym name) ∙ sym c.fits_work.ensures ∙ c.if-not-fits_work.false in
    c.loop-key.invariant ∙ ap (fit_works ms s all) next ∙ ap (λ q. q && fit_works ms s all (works_in s left)) fits

pub loop-key-preserved : goal.loop-key-preserved
loop-key-preserved c =
    let ms = modules_of c.args.registry.now in
    let s = standing_view c.args.standing in
    let all = fields_view c.args.fields.now.entries in
    let left = fields_view c.next.new.self in
    let n = string_bytes c.in-Some.key.now in
    let next = ap (λ es. works_in s (fields_view es)) c.in-Some.ensures.steps ∙ works-no s n _ (view c.in-Some.value.now) left _ c.as_str.ensures.value c.is_work.ensures c.if-is_work.false in
    c.loop-key.invariant ∙ ap (fit_works ms s all) next
