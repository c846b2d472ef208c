use Rattle.std.proofs.Common.{◌≡◌, ◌∙◌, ◌+◌, ◌++◌, ◌∷◌, [], List, suc, drop, map, ap, sym, add-one}
use Rattle.std.proofs.lemmas.List.{map-append}
use Rattle.pb_language.specs.Book.{PlayData}
use Rattle.pb_language.specs.BookForm.{book_read, changed, plays_in}
use Rattle.pb_sig.specs.Modules.{modules_of}
use Rattle.pb_template.proofs.Built.{values-next}
use Rattle.pb_value.specs.View.{view, items_view}
use Rattle.pb_play.specs.Plays.{play_view}
use Rattle.pb_play.proofs.Blocks.{more-read}
use Rattle.pb_play.proofs.Plays.{play-first}
use Rattle.pb_play.specs.Sound.{play_tasks}
use Rattle.pb_play.proofs.Sounds.{one-more}
use Rattle.pb_play.proofs.read.plays_in.Goals as goal

pub loop-earlier-preserved : goal.loop-earlier-preserved
loop-earlier-preserved c =
    let l = c.loop-earlier in
    let ms = modules_of c.args.registry.now in
    let vs = c.args.items.now in
    let v = c.index-items-earlier.result in
    let rest = items_view (drop (l.earlier + 1) vs) in
    let done = map play_view l.plays.items in
    let p = play_view c.in_ok-play.play in
    let n = c.in_ok-play.next in
    let i = l.earlier in
    let next = ap (λ xs. plays_in ms i l.line (items_view xs)) (values-next vs l.earlier v c.loop-earlier-test.true c.index-items-earlier.is) in
    let first = play-first ms i l.line n (view v) rest p c.in_ok-play.ensures.given in
    let all : c.push.new.self.items ≡ l.plays.items ++ c.in_ok-play.play ∷ [] = c.in_ok-push.ensures.items in record {
      given = l.invariant.given ∙ ap (λ r. book_read (changed (λ xs. done ++ xs) r)) (next ∙ first) ∙ ap book_read (more-read done p (plays_in ms (suc i) n rest))
          ∙ ap (λ k. book_read (changed (λ xs. (done ++ p ∷ []) ++ xs) (plays_in ms k n rest))) (sym (add-one i))
          ∙ ap (λ (ps : List PlayData). book_read (changed (λ xs. ps ++ xs) (plays_in ms (i + 1) n rest))) (sym (ap (map play_view) all ∙ map-append play_view l.plays.items (c.in_ok-play.play ∷ [])));
      sound = one-more ms play_tasks l.plays.items c.push.new.self.items c.in_ok-play.play all l.invariant.sound c.in_ok-play.ensures.sound;
    }
