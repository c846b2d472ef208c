use Rattle.std.proofs.Common.{◌∙◌, option_map, ap, sym}
use Rattle.pb_value.specs.View.{view, fields_view}
use Rattle.pb_task.specs.Standings.{standing_view}
use Rattle.std.proofs.Common.{string_bytes}
use Rattle.pb_semantics.specs.Data.{field}
use Rattle.pb_language.specs.TaskForm.{lone, without_prefix, works_in}
use Rattle.pb_task.proofs.Works.{entry_before, lone-before, lone-second, mapped-some, none-before, works-no, works-yes}
use Rattle.pb_task.proofs.work.lone_work.Goals as goal

pub returns-then-is_some : goal.returns-then-is_some
returns-then-is_some c =
    let s = standing_view c.args.standing in
    let left = fields_view c.next.new.self in
    let n = string_bytes c.in-Some.key.now in
    let v = view c.in-Some.value.now in
    let o = option_map (λ e. (e.0.now, view e.1.now)) c.loop-key.found in
    let next = ap (λ es. works_in s (fields_view es)) c.in-Some.ensures.steps ∙ works-yes s n _ v left _ c.as_str.ensures.value c.is_work.ensures c.if-is_work.true in
    let some = mapped-some (λ e. (e.0.now, view e.1.now)) c.loop-key.found ∙ sym c.is_some.ensures ∙ c.if-is_some.true in
    sym (ap lone (c.loop-key.invariant ∙ ap (entry_before o) next) ∙ lone-second o (without_prefix n) v (works_in s left) some)

pub loop-key-preserved-then-is_work : goal.loop-key-preserved-then-is_work
loop-key-preserved-then-is_work c =
    let s = standing_view c.args.standing in
    let left = fields_view c.next.new.self in
    let n = string_bytes c.in-Some.key.now in
    let v = view c.in-Some.value.now in
    let o = option_map (λ e. (e.0.now, view e.1.now)) c.loop-key.found in
    let next = ap (λ es. works_in s (fields_view es)) c.in-Some.ensures.steps ∙ works-yes s n _ v left _ c.as_str.ensures.value c.is_work.ensures c.if-is_work.true in
    let none = mapped-some (λ e. (e.0.now, view e.1.now)) c.loop-key.found ∙ sym c.is_some.ensures ∙ c.if-is_some.false in
    let name = c.without_prefix.ensures ∙ ap without_prefix c.as_str-then-is_work.ensures.value in
    c.loop-key.invariant ∙ ap (entry_before o) next ∙ none-before o (field (without_prefix n) v (works_in s left)) none ∙ ap (λ m. field m v (works_in s left)) (sym name)

pub loop-key-preserved : goal.loop-key-preserved
loop-key-preserved c =
    let s = standing_view c.args.standing in
    let left = fields_view c.next.new.self in
    let n = string_bytes c.in-Some.key.now in
    let next = ap (λ es. works_in s (fields_view es)) c.in-Some.ensures.steps ∙ works-no s n _ (view c.in-Some.value.now) left _ c.as_str.ensures.value c.is_work.ensures c.if-is_work.false in
    c.loop-key.invariant ∙ ap (entry_before (option_map (λ e. (e.0.now, view e.1.now)) c.loop-key.found)) next

pub returns : goal.returns
returns c =
    let s = standing_view c.args.standing in
    let o = option_map (λ e. (e.0.now, view e.1.now)) c.loop-key.found in
    sym (ap lone (c.loop-key.invariant ∙ ap (λ es. entry_before o (works_in s (fields_view es))) c.in-None.ensures.steps.0) ∙ lone-before o)
