use Rattle.std.proofs.Common.{◌≡◌, ◌∙◌, ◌+◌, ◌++◌, ◌∷◌, [], ℕ, List, Global, String, drop, string_bytes, append-nil, append_assoc, ap, sym}
use Rattle.std.specs.declared.sync.Arc.{Arc}
use Rattle.pb_semantics.specs.Data.{item}
use Rattle.pb_language.specs.BookForm.{words_from, words_of_each}
use Rattle.pb_task.specs.Tasks.{names_view}
use Rattle.pb_template.proofs.Built.{values-next}
use Rattle.pb_value.proofs.Views.{view-Text}
use Rattle.pb_value.specs.View.{view, items_view}
use Rattle.pb_play.specs.Plays.{words_in}
use Rattle.pb_play.proofs.head.texts_in.Goals as goal

words-push : (ts : List (Arc (String Global) Global)) (t : Arc (String Global) Global) (r : List (List ℕ)) → words_in (names_view ts) ++ (words_from [] (string_bytes t.value) ++ r) ≡ words_in (names_view (ts ++ t ∷ [])) ++ r
words-push [] t r = ap (λ ws. ws ++ r) (sym (append-nil (words_from [] (string_bytes t.value))))
words-push (x ∷ ts) t r =
    append_assoc (words_from [] (string_bytes x.value)) (words_in (names_view ts)) (words_from [] (string_bytes t.value) ++ r)
    ∙ ap (λ ws. words_from [] (string_bytes x.value) ++ ws) (words-push ts t r)
    ∙ sym (append_assoc (words_from [] (string_bytes x.value)) (words_in (names_view (ts ++ t ∷ []))) r)

pub loop-item-preserved : goal.loop-item-preserved
loop-item-preserved c =
    let l = c.loop-item in
    let vs = c.args.items.now in
    let v = c.item-item.result in
    let rest = items_view (drop (l.item-index + 1) vs) in
    let t = c.in_ok-clone-in-Text.field-0 in
    let known = ap view c.in-Text.is ∙ view-Text c.in-Text.text in
    let next = ap (λ xs. words_of_each (items_view xs)) (values-next vs l.item-index v c.loop-item-test.true c.item-item.is) ∙ ap (λ d. words_of_each (item d rest)) known in
    let same : string_bytes c.in-Text.text.value ≡ string_bytes t.value = sym (ap (λ (s : String Global). string_bytes s) c.in_ok-clone-in-Text.ensures.cases) in
    let all : c.push.new.self.items ≡ l.texts.items ++ t ∷ [] = c.in_ok-push-in-Text.ensures.items in
    l.invariant ∙ ap (λ ws. words_in (names_view l.texts.items) ++ ws) (next ∙ ap (λ bs. words_from [] bs ++ words_of_each rest) same)
    ∙ words-push l.texts.items t (words_of_each rest)
    ∙ ap (λ (ts : List (Arc (String Global) Global)). words_in (names_view ts) ++ words_of_each rest) (sym all)
