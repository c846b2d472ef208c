-- In a book that was accepted each word of a pattern names a group or a host.
use Rattle.std.proofs.Common.{◌≡◌, ℕ, List, [], ◌∷◌, ◌++◌, Bool, true, false, not, ◌&&◌, cond, map, Option, Some, None, refl, sym, ap, ◌∙◌}
use Rattle.std.specs.List.{list_all}
use Rattle.pb_semantics.proofs.Bools.{and-both, untrue}
use Rattle.pb_language.specs.Book.{Book, Registry}
use Rattle.pb_language.specs.Program.{Inventory}
use Rattle.pb_language.specs.Rules.{breaks_chains, breaks_give, breaks_known, breaks_names, breaks_notify, breaks_order, breaks_parameters, first_line, rules_offence, too_many_steps, vars_names, words_known}
use Rattle.pb_language.specs.Sites.{Site, play_sites, sites_of}
use Rattle.pb_language.specs.Verdict.{Refusal, Verdict, earlier, flow_verdict, offence_verdict}
use Rattle.pb_language.proofs.Accepted.{earlier_none}
use Rattle.pb_language.specs.Plays.{program_of}
use Rattle.pb_sig.specs.Modules.{modules_of}
use Rattle.pb_inventory.specs.Inventory.{inventory_view}
use Rattle.pb_play.specs.Plays.{play_view}
use Rattle.pb_play.specs.declared.play.Play.{Play}
use Rattle.pb_book.specs.Books.{book_view, plays_of}
use Rattle.pb_verify.specs.Judges.{is_accepted}
use Rattle.pb_verify.specs.Meaning.{accepts}
use Rattle.pb_verify.specs.declared.checked.Accepted.{Accepted}
use Rattle.pb_batches.specs.Batches.{are_known}

unbroken : (q : Bool) (r : Refusal) → cond (not q) (Some r) None ≡ None → q ≡ true
unbroken true r e = refl
unbroken false r e = absurd (cc)

rest_unbroken : (c : ℕ) (f : Site → Bool) (xs ys : List Site) → first_line c f (xs ++ ys) ≡ None → first_line c f ys ≡ None
rest_unbroken c f [] ys e = e
rest_unbroken c f (x ∷ xs) ys e =
    rest_unbroken c f xs ys (earlier_none (cond (f x) (Some (record { code = c; line = x.line; host = None })) None) (first_line c f (xs ++ ys)) e).1

known_from : (v : Inventory) (ps : Book) → first_line 6 (λ s. breaks_known v s s.thing) (sites_of ps) ≡ None → list_all (λ p. words_known v p.pattern) ps ≡ true
known_from v [] e = refl
known_from v (p ∷ ps) e =
    let here : Refusal = record { code = 6; line = p.line; host = None } in
    let first = earlier_none (cond (not (words_known v p.pattern)) (Some here) None) _ e in
    and-both (words_known v p.pattern) (list_all (λ q. words_known v q.pattern) ps) (unbroken (words_known v p.pattern) here first.0)
    (known_from v ps (rest_unbroken 6 (λ s. breaks_known v s s.thing) (play_sites p) (sites_of ps) e))

-- where no rule is broken
words_are_known : (ms : Registry) (v : Inventory) (b : Book) → rules_offence ms v b ≡ None → list_all (λ p. words_known v p.pattern) b ≡ true
words_are_known ms v b e =
    let lines = sites_of b in
    let last = earlier (first_line 12 (λ s. breaks_order s s.thing) lines) (first_line 9 breaks_give lines) in
    let known = first_line 6 (λ s. breaks_known v s s.thing) lines in
    let from_known = earlier known (earlier (first_line 5 breaks_notify lines) last) in
    let from_chains = earlier (first_line 10 breaks_chains lines) from_known in
    let from_names = earlier (first_line 8 (breaks_names (vars_names lines)) lines) from_chains in
    let from_parameters = earlier (first_line 7 (breaks_parameters ms) lines) from_names in
    let second = earlier_none (too_many_steps 0 b) from_parameters e in
    let third = earlier_none (first_line 7 (breaks_parameters ms) lines) from_names second.1 in
    let fourth = earlier_none (first_line 8 (breaks_names (vars_names lines)) lines) from_chains third.1 in
    let fifth = earlier_none (first_line 10 breaks_chains lines) from_known fourth.1 in
    known_from v b (earlier_none known (earlier (first_line 5 breaks_notify lines) last) fifth.1).0

none_told : (n : ℕ) (o : Option Refusal) (v : Verdict) → accepts n (offence_verdict o v) ≡ true → o ≡ None
none_told n None v h = refl
none_told n (Some r) v h = untrue h

seen_known : (v : Inventory) (ps : List Play) → list_all (λ p. words_known v p.pattern) (map play_view ps) ≡ are_known v ps
seen_known v [] = refl
seen_known v (p ∷ ps) = ap (λ q. words_known v (play_view p).pattern && q) (seen_known v ps)

pub accepted_known : (a : Accepted) → is_accepted a ≡ true → are_known (inventory_view a.inventory) (plays_of a.book) ≡ true
accepted_known a h =
    let ms = modules_of a.registry in
    let v = inventory_view a.inventory in
    let ruled = none_told a.budget (rules_offence ms v (book_view a.book)) (flow_verdict (program_of ms v (book_view a.book)) v) h in
    sym (seen_known v (plays_of a.book)) ∙ words_are_known ms v (book_view a.book) ruled
