use Rattle.std.proofs.Common.{◌≡◌, ◌∙◌, ◌+◌, ◌++◌, ◌∷◌, [], List, Vec, Global, drop, map, ap, sym, add-one}
use Rattle.std.proofs.lemmas.List.{map-append}
use Rattle.pb_language.specs.Book.{HandlerData}
use Rattle.pb_language.specs.BookForm.{changed}
use Rattle.pb_sig.specs.Modules.{modules_of}
use Rattle.pb_template.proofs.Built.{values-next}
use Rattle.pb_value.specs.View.{view, items_view}
use Rattle.pb_play.specs.Handlers.{handler_read}
use Rattle.pb_play.specs.Plays.{handler_view}
use Rattle.pb_play.specs.declared.play.Handler.{Handler}
use Rattle.pb_play.proofs.Blocks.{more-read}
use Rattle.pb_play.proofs.Handlers.{behind_these, handler-first, handler-refused}
use Rattle.pb_play.proofs.Refusals.{passed-on}
use Rattle.pb_play.proofs.Sounds.{more-handlers}
use Rattle.pb_play.proofs.handler.handlers_in.Goals as goal

pub returns-in_err-handler-clause-given : goal.returns-in_err-handler-clause-given
returns-in_err-handler-clause-given c =
    let l = c.loop-item in
    let ms = modules_of c.args.registry.now in
    let vs = c.args.items.now in
    let v = c.item-item.result in
    let hs = map handler_view l.handlers.items in
    let rest = items_view (drop (l.item-index + 1) vs) in
    let next = ap (λ xs. behind_these ms l.next hs (items_view xs)) (values-next vs l.item-index v c.loop-item-test.true c.item-item.is) in
    passed-on (λ (r : Vec Handler Global × _). (map handler_view r.0.items, r.1)) c.from_residual.result c.in_err-handler.field-0.0 _ _ c.from_residual.ensures.1 c.in_err-handler.ensures.given
    (λ o h. l.invariant.given ∙ ap (changed (λ xs. hs ++ xs)) (next ∙ handler-refused ms l.next hs (view v) rest o (ap (λ (es : List Handler). handler_read ms l.next (map handler_view es) (view v)) (sym c.as_slice.ensures.value) ∙ h)))

pub loop-item-preserved : goal.loop-item-preserved
loop-item-preserved c =
    let l = c.loop-item in
    let ms = modules_of c.args.registry.now in
    let vs = c.args.items.now in
    let v = c.item-item.result in
    let hs = map handler_view l.handlers.items in
    let h = handler_view c.in_ok-handler.handler in
    let rest = items_view (drop (l.item-index + 1) vs) in
    let next = ap (λ xs. behind_these ms l.next hs (items_view xs)) (values-next vs l.item-index v c.loop-item-test.true c.item-item.is) in
    let first = handler-first ms l.next hs (view v) rest h (ap (λ (es : List Handler). handler_read ms l.next (map handler_view es) (view v)) (sym c.as_slice.ensures.value) ∙ c.in_ok-handler.ensures.given)
    ∙ ap (λ n. changed (λ xs. h ∷ xs) (behind_these ms n (hs ++ h ∷ []) rest)) (sym (add-one l.next)) in
    let all : c.push.new.self.items ≡ l.handlers.items ++ c.in_ok-handler.handler ∷ [] = c.in_ok-push.ensures.items in
    let more : map handler_view c.push.new.self.items ≡ hs ++ h ∷ [] = ap (map handler_view) all ∙ map-append handler_view l.handlers.items (c.in_ok-handler.handler ∷ []) in record {
      given = l.invariant.given ∙ ap (changed (λ xs. hs ++ xs)) (next ∙ first) ∙ more-read hs h (behind_these ms (l.next + 1) (hs ++ h ∷ []) rest)
          ∙ ap (λ (xs : List HandlerData). changed (λ ys. xs ++ ys) (behind_these ms (l.next + 1) xs rest)) (sym more);
      sound = more-handlers ms l.handlers.items c.push.new.self.items c.in_ok-handler.handler all l.invariant.sound c.in_ok-handler.ensures.sound;
    }
