use Rattle.std.proofs.Common.{◌≡◌, [], map, sym, ap, ◌∙◌}
use Rattle.std.proofs.lemmas.List.{map_push, nil_from_length}
use Rattle.pb_language.specs.Give.{end_all, end_own}
use Rattle.pb_finish.specs.Endings.{final_view}
use Rattle.pb_finish.specs.Results.{result_view}
use Rattle.pb_finish.proofs.Statused.{after_ended, ended-step, ended-done}
use Rattle.pb_finish.proofs.statuses.end_results.Goals as goal

pub loop-item-preserved : goal.loop-item-preserved
loop-item-preserved g c = λ t d xs h.
    let w = g.V.Vars.world c.args.vars.now in
    let done = map final_view c.loop-item.all.items in
    let rest = end_all w t (map result_view c.next.new.self.rest.items) in
    ap (λ es. after_ended (map final_view es) rest) c.in_ok-push.ensures.items
    ∙ ap (λ es. after_ended es rest) (map_push final_view c.loop-item.all.items c.in_ok-ended.ended)
    ∙ ended-step done c.in_ok-ended.ended (end_own w t (result_view c.in-Some.item)) rest xs (c.in_ok-ended.ensures t d)
    (sym (ap (λ os. after_ended done (end_all w t (map result_view os))) c.in-Some.ensures.steps.0) ∙ c.loop-item.invariant t d xs h)

pub returns : goal.returns
returns g c = λ t d xs h.
    let w = g.V.Vars.world c.args.vars.now in
    let done = map final_view c.loop-item.all.items in
    let it = c.loop-item.item-iterator.rest in
    let left : it.items ≡ [] = nil_from_length it.items (sym it.ok.0 ∙ c.in-None.ensures.steps.0) in
    ended-done done xs (sym (ap (λ os. after_ended done (end_all w t (map result_view os))) left) ∙ c.loop-item.invariant t d xs h)
