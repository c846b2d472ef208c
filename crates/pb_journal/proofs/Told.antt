-- A line says what was written.
use Rattle.std.proofs.Common.{◌≡◌, ℕ, List, [], ◌∷◌, map, Option, Some, None, cond, codes, pos, is_some, option_map, option_and_then, ◌||◌, refl, ap, ◌∙◌}
use Rattle.pb_semantics.specs.Data.{Data, Items, Fields, null, boolean, int, text, list, rec, opaque, item, field_value, put_field}
use Rattle.pb_value.specs.View.{items_of}
use Rattle.pb_finish.specs.declared.answer.Answer.{Answer}
use Rattle.pb_finish.specs.declared.answer.Why.TheVariants as whys
use Rattle.pb_language.proofs.GivenFields.{at_put_field}
use Rattle.pb_journal.specs.Said.{Told, object, unreachable, broken, Said, start, give, turn, stop, told_by, told_data, told_items, told_of, one_field, all_told, as_items, as_place, as_text, said_in, said_onto, said_word}

-- an object that is written as it was given, or under a name
rec_back : (fs : Fields) (o u b : Option Data) → field_value (codes "object") fs ≡ o → field_value (codes "unreachable") fs ≡ u → field_value (codes "broken") fs ≡ b
    → told_of (cond (is_some o || is_some u || is_some b) (one_field (codes "object") (rec fs)) (rec fs)) ≡ Some (object (rec fs))
rec_back fs (Some d) u b eo eu eb = refl
rec_back fs None (Some d) b eo eu eb = refl
rec_back fs None None (Some d) eo eu eb = refl
rec_back fs None None None eo eu eb = rw (eo, eu, eb) refl

told_back : (t : Told) → told_of (told_data t) ≡ Some t
told_back (object (rec fs)) = rec_back fs (field_value (codes "object") fs) (field_value (codes "unreachable") fs) (field_value (codes "broken") fs) refl refl refl
told_back (object (list ds)) = refl
told_back (object (text w)) = refl
told_back (object null) = refl
told_back (object (boolean b)) = refl
told_back (object (int z)) = refl
told_back (object opaque) = refl
told_back unreachable = refl
told_back (broken whys.NotJson) = refl
told_back (broken whys.TooLong) = refl
told_back (broken whys.NoAnswer) = refl
told_back (broken whys.TooSlow) = refl

all_told_back : (ts : List Told) → all_told (told_items ts) ≡ Some ts
all_told_back [] = refl
all_told_back (t ∷ ts) =
    ap (λ (o : Option Told). option_and_then (λ u. option_map (λ us. u ∷ us) (all_told (told_items ts))) o) (told_back t)
    ∙ ap (option_map (λ us. t ∷ us)) (all_told_back ts)

pub told_each : (rs : List Answer) → items_of (map (λ r. told_data (told_by r)) rs) ≡ told_items (map told_by rs)
told_each [] = refl
told_each (r ∷ rs) = ap (λ (is : Items). item (told_data (told_by r)) is) (told_each rs)

-- by the word that is put last
by_word : (word : List ℕ) (fs put : Fields) → field_value (codes "event") put ≡ Some (text word) → said_in put ≡ said_word word put
by_word word fs put is = ap (λ (o : Option Data). option_and_then (λ w. said_word w put) (option_and_then as_text o)) is

-- what is put over other fields is said
pub said_back : (s : Said) (fs : Fields) → said_in (said_onto s fs) ≡ Some s
said_back (start k) fs =
    let host = int (pos k) in
    let placed = put_field (codes "host") host fs in
    by_word (codes "start") fs (said_onto (start k) fs) (at_put_field (codes "event") (codes "event") (text (codes "start")) placed)
    ∙ ap (λ (o : Option Data). option_map start (option_and_then as_place o)) (at_put_field (codes "host") (codes "event") (text (codes "start")) placed ∙ at_put_field (codes "host") (codes "host") host fs)
said_back (give k ts) fs =
    let host = int (pos k) in
    let told = list (told_items ts) in
    let answered = put_field (codes "answers") told fs in
    let placed = put_field (codes "host") host answered in
    let put = said_onto (give k ts) fs in
    by_word (codes "give") fs put (at_put_field (codes "event") (codes "event") (text (codes "give")) placed)
    ∙ ap (λ (o : Option Data). option_and_then (λ k. option_map (give k) (option_and_then all_told (option_and_then as_items (field_value (codes "answers") put)))) (option_and_then as_place o)) (at_put_field (codes "host") (codes "event") (text (codes "give")) placed ∙ at_put_field (codes "host") (codes "host") host answered)
    ∙ ap (λ (o : Option Data). option_map (give k) (option_and_then all_told (option_and_then as_items o)))
    (at_put_field (codes "answers") (codes "event") (text (codes "give")) placed ∙ at_put_field (codes "answers") (codes "host") host answered ∙ at_put_field (codes "answers") (codes "answers") told fs)
    ∙ ap (option_map (give k)) (all_told_back ts)
said_back turn fs = by_word (codes "turn") fs (said_onto turn fs) (at_put_field (codes "event") (codes "event") (text (codes "turn")) fs)
said_back stop fs = by_word (codes "stop") fs (said_onto stop fs) (at_put_field (codes "event") (codes "event") (text (codes "stop")) fs)
