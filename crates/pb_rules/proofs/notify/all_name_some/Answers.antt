use Rattle.std.proofs.Common.{◌≡◌, ◌∙◌, ◌<◌, ◌+◌, ◌&&◌, ℕ, List, Bool, drop, get_or, length, string_bytes, ap, sym, String, Global}
use Rattle.std.specs.declared.sync.Arc.{Arc}
use Rattle.std.specs.List.{list_any}
use Rattle.pb_language.specs.Notify.{HandlerNames, all_notified, is_named, names_something}
use Rattle.pb_syntax.proofs.Left.{drop-at}
use Rattle.pb_task.specs.Tasks.{names_view}
use Rattle.pb_rules.specs.Handlers.{handlers_names}
use Rattle.pb_rules.proofs.Notified.{text-names}
use Rattle.pb_rules.proofs.notify.all_name_some.Goals as goal

next : (hs : List HandlerNames) (ts : List (Arc (String Global) Global)) (i : ℕ) (t : Arc (String Global) Global) (b : Bool) → i < length ts → t ≡ get_or ts i t → b ≡ list_any (is_named (string_bytes t.value)) hs
    → names_something (all_notified hs (names_view (drop i ts))) ≡ (b && names_something (all_notified hs (names_view (drop (i + 1) ts))))
next hs ts i t b lt e h =
    let rest = names_view (drop (i + 1) ts) in
    ap (λ xs. names_something (all_notified hs (names_view xs))) (drop-at ts i t lt e) ∙ text-names (string_bytes t.value) rest hs ∙ ap (λ q. q && names_something (all_notified hs rest)) (sym h)

pub returns-then-not-names_some : goal.returns-then-not-names_some
returns-then-not-names_some c =
    let hs = handlers_names c.args.handlers.now in
    let t = c.text-item.result in
    let i = c.loop-text.text-index in
    let is : c.as_str.result.now ≡ string_bytes t.value = c.as_str.ensures.value ∙ ap string_bytes c.deref.ensures in
    let found = c.names_some.ensures ∙ ap (λ n. list_any (is_named n) hs) is in
    sym (next hs c.args.texts.now i t c.names_some.result c.loop-text-test.true c.text-item.is found ∙ ap (λ b. b && names_something (all_notified hs (names_view (drop (i + 1) c.args.texts.now)))) c.if-not-names_some.true)
    ∙ c.loop-text.invariant

pub loop-text-preserved : goal.loop-text-preserved
loop-text-preserved c =
    let hs = handlers_names c.args.handlers.now in
    let t = c.text-item.result in
    let i = c.loop-text.text-index in
    let is : c.as_str.result.now ≡ string_bytes t.value = c.as_str.ensures.value ∙ ap string_bytes c.deref.ensures in
    let found = c.names_some.ensures ∙ ap (λ n. list_any (is_named n) hs) is in
    sym (next hs c.args.texts.now i t c.names_some.result c.loop-text-test.true c.text-item.is found ∙ ap (λ b. b && names_something (all_notified hs (names_view (drop (i + 1) c.args.texts.now)))) c.if-not-names_some.false)
    ∙ c.loop-text.invariant
