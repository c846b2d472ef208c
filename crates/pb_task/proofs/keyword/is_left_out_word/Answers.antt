use Rattle.std.proofs.Common.{◌≡◌, ◌∙◌, ◌||◌, true, false, ap, sym}
use Rattle.pb_semantics.specs.Keeps.{is_among}
use Rattle.pb_language.specs.Keywords.{left_out_words, misplaced_words}
use Rattle.pb_task.specs.Standings.{standing_view}
use Rattle.pb_task.proofs.Works.{is_among-joined}
use Rattle.pb_task.proofs.keyword.is_left_out_word.Goals as goal

pub returns-then-is_one_of : goal.returns-then-is_one_of
returns-then-is_one_of c =
    let m = misplaced_words (standing_view c.args.standing) in
    let among : is_among c.args.key.now left_out_words ≡ true = sym c.is_one_of.ensures ∙ c.if-is_one_of.true in
    c.if-is_one_of.true ∙ sym (is_among-joined c.args.key.now left_out_words m ∙ ap (λ q. q || is_among c.args.key.now m) among)

pub returns-else-is_one_of : goal.returns-else-is_one_of
returns-else-is_one_of c =
    let m = misplaced_words (standing_view c.args.standing) in
    let none : is_among c.args.key.now left_out_words ≡ false = sym c.is_one_of.ensures ∙ c.if-is_one_of.false in
    c.is_misplaced.ensures ∙ sym (is_among-joined c.args.key.now left_out_words m ∙ ap (λ q. q || is_among c.args.key.now m) none)
