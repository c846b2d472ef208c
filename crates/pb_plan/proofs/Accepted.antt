-- The plays of a book that was accepted: they have few steps.
use Rattle.std.proofs.Common.{◌≡◌, ◌≤◌, ℕ, List, [], ◌∷◌, length, map, true, Option, Some, None, refl, sym, ap, ap₂}
use Rattle.std.specs.List.{All}
use Rattle.std.proofs.lemmas.List.{length-map}
use Rattle.pb_semantics.proofs.Bools.{untrue}
use Rattle.pb_semantics.specs.Limits.{most_play_steps}
use Rattle.pb_language.specs.Book.{PlayData, Registry}
use Rattle.pb_language.specs.Plays.{program_of}
use Rattle.pb_language.specs.Rules.{rules_offence}
use Rattle.pb_language.specs.Sites.{steps_of}
use Rattle.pb_language.specs.Verdict.{Refusal, Verdict, flow_verdict, offence_verdict}
use Rattle.pb_sig.specs.Modules.{modules_of}
use Rattle.pb_inventory.specs.Inventory.{inventory_view}
use Rattle.pb_play.specs.Plays.{handler_view, play_view}
use Rattle.pb_play.specs.declared.play.Play.{Play}
use Rattle.pb_book.specs.Books.{book_view, plays_of}
use Rattle.pb_steps.specs.Words.{play_plan}
use Rattle.pb_verify.proofs.FewSteps.{few_steps}
use Rattle.pb_verify.specs.Judges.{is_accepted}
use Rattle.pb_verify.specs.Meaning.{accepts}
use Rattle.pb_verify.specs.declared.checked.Accepted.{Accepted}

none-told : (n : ℕ) (o : Option Refusal) (v : Verdict) → accepts n (offence_verdict o v) ≡ true → o ≡ None
none-told n None v h = refl
none-told n (Some r) v h = untrue h

pub accepted-few : (a : Accepted) → is_accepted a ≡ true → All (λ p. steps_of (play_view p) ≤ most_play_steps) (plays_of a.book)
accepted-few a h =
    let ms = modules_of a.registry in
    let i = inventory_view a.inventory in
    let ruled = none-told a.budget (rules_offence ms i (book_view a.book)) (flow_verdict (program_of ms i (book_view a.book)) i) h in
    few_steps ms i (plays_of a.book) ruled

pub plans-of-views : (ms : Registry) (ps : List Play) → map (λ p. play_plan ms (play_view p)) ps ≡ map (play_plan ms) (map play_view ps)
plans-of-views ms [] = refl
plans-of-views ms (p ∷ ps) = ap (λ os. play_plan ms (play_view p) ∷ os) (plans-of-views ms ps)

pub handlers-of-views : (ps : List Play) → map (λ (p : Play). length p.handlers.items) ps ≡ map (λ (q : PlayData). length q.handlers) (map play_view ps)
handlers-of-views [] = refl
handlers-of-views (p ∷ ps) = ap₂ (λ (k : ℕ) (ks : List ℕ). k ∷ ks) (sym (length-map p.handlers.items handler_view)) (handlers-of-views ps)
