-- What a run sees of an event is what is said of it.
use Rattle.std.proofs.Common.{◌≡◌, List, [], ◌∷◌, map, Option, Some, None, refl, sym, ap, ap₂, ◌∙◌}
use Rattle.pb_language.specs.Machine as machine
use Rattle.pb_language.specs.Give as language
use Rattle.pb_finish.specs.Answers.{answer_data}
use Rattle.pb_finish.specs.declared.answer.Answer.{Answer}
use Rattle.pb_finish.specs.declared.answer.Answer.TheVariants as answers
use Rattle.pb_finish.specs.declared.answer.Why.{Why}
use Rattle.pb_run.specs.Follows.{EventView, event_view, why_of}
use Rattle.pb_run.specs.declared.event.Event.{Event}
use Rattle.pb_run.specs.declared.event.Event.TheVariants as events
use Rattle.pb_journal.specs.Said.{Told, object, unreachable, broken, Said, start, give, turn, stop, told_by, said_by}

abbrev told_answer : Told → language.Answer
told_answer (object d) = language.object d
told_answer unreachable = language.unreachable
told_answer (broken why) = language.broken

abbrev told_why : Told → Option Why
told_why (object d) = None
told_why unreachable = None
told_why (broken why) = Some why

abbrev as_seen : Said → EventView
as_seen (start k) = (machine.start k, [])
as_seen (give k ts) = (machine.give k (map told_answer ts), map told_why ts)
as_seen turn = (machine.turn, [])
as_seen stop = (machine.stop, [])

answer_seen : (a : Answer) → answer_data a ≡ told_answer (told_by a)
answer_seen (answers.Object v) = refl
answer_seen answers.Unreachable = refl
answer_seen (answers.Broken why) = refl

why_seen : (a : Answer) → why_of a ≡ told_why (told_by a)
why_seen (answers.Object v) = refl
why_seen answers.Unreachable = refl
why_seen (answers.Broken why) = refl

answers_seen : (rs : List Answer) → map answer_data rs ≡ map told_answer (map told_by rs)
answers_seen [] = refl
answers_seen (a ∷ rs) = ap₂ (λ (x : language.Answer) (xs : List language.Answer). x ∷ xs) (answer_seen a) (answers_seen rs)

whys_seen : (rs : List Answer) → map why_of rs ≡ map told_why (map told_by rs)
whys_seen [] = refl
whys_seen (a ∷ rs) = ap₂ (λ (x : Option Why) (xs : List (Option Why)). x ∷ xs) (why_seen a) (whys_seen rs)

event_seen : (e : Event) → event_view e ≡ as_seen (said_by e)
event_seen (events.Start k) = refl
event_seen (events.Give k rs) = ap₂ (λ (xs : List language.Answer) (ws : List (Option Why)). (machine.give k xs, ws)) (answers_seen rs.items) (whys_seen rs.items)
event_seen events.Turn = refl
event_seen events.Stop = refl

pub same_seen : (e other : Event) → said_by e ≡ said_by other → event_view e ≡ event_view other
same_seen e other same = event_seen e ∙ ap as_seen same ∙ sym (event_seen other)
