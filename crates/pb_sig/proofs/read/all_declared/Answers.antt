use Rattle.std.proofs.Common.{◌≡◌, ◌+◌, ◌<◌, ◌++◌, ◌∷◌, [], List, Some, Ok, Result, arith, length, drop, map, true, refl, sym, ap, ◌∙◌, add-one, drop-cons}
use Rattle.std.proofs.lemmas.List.{map_push}
use Rattle.pb_semantics.proofs.Bools.{and-both}
use Rattle.pb_semantics.specs.Signature.{ModuleData}
use Rattle.pb_language.specs.Judgement.{is_lawful}
use Rattle.pb_value.specs.View.{items_view}
use Rattle.pb_sig.specs.Drafts.{draft_view}
use Rattle.pb_sig.specs.ModuleView.{are_lawful_modules, shared_view}
use Rattle.pb_sig.specs.Signatures.{Offence, judged_module, modules_after, then_more}
use Rattle.pb_sig.proofs.Laws.{are_lawful_modules-append}
use Rattle.pb_sig.proofs.read.all_declared.Goals as goal

pub loop-item-preserved : goal.loop-item-preserved
loop-item-preserved c =
    let i = c.loop-item.item-index in
    let d = c.item-item.result in
    let items = c.args.items.now in
    let found = c.loop-item.found.items in
    let m = shared_view c.in_ok-module.module in
    let ms = map shared_view found in
    let rest = items_view (drop (i + 1) items) in
    let within : i < length items = omega arith in
    let next : drop i items ≡ d ∷ drop (i + 1) items = rw (add-one, drop-cons items i d, ← c.item-item.is) refl in
    let pushed : map shared_view c.push.new.self.items ≡ ms ++ m ∷ [] = ap (map shared_view) c.in_ok-push.ensures.items ∙ map_push shared_view found c.in_ok-module.module in
    let more : ModuleData → Result (List ModuleData) Offence = λ k. modules_after (ms ++ k ∷ []) rest in
    let draft = draft_view c.in_ok-draft.draft in
    let judged : judged_module ms (Some draft) ≡ Ok m = ap (λ xs. judged_module (map shared_view xs) (Some draft)) (sym c.as_slice.ensures.value) ∙ c.in_ok-module.ensures.given in record {
      given = ap (λ ks. modules_after ks rest) pushed
          ∙ sym (ap (λ xs. modules_after ms (items_view xs)) next ∙ ap (λ o. then_more (judged_module ms o) more) c.in_ok-draft.ensures ∙ ap (λ r. then_more r more) judged) ∙ c.loop-item.invariant.given;
      lawful = ap are_lawful_modules pushed ∙ are_lawful_modules-append ms (m ∷ []) c.loop-item.invariant.lawful (and-both (is_lawful m) true c.in_ok-module.ensures.lawful refl);
    }
