-- What is written, one after the other.
use Rattle.std.proofs.Common.{◌≡◌, ℕ, List, [], ◌∷◌, ◌++◌, map, Bool, cond, Option, Some, None, string_bytes, codes, refl, ap}
use Rattle.pb_semantics.specs.Data.{Data, Fields, no_fields, field, put_all, put_field, rec, item, text}
use Rattle.pb_language.specs.Give.{with_changes, result_items, failure_text}
use Rattle.pb_language.specs.Start.{all_changes}
use Rattle.pb_value.proofs.Fields.{Entry}
use Rattle.pb_value.specs.Append.{append_fields}
use Rattle.pb_value.specs.View.{view, items_of, fields_view}
use Rattle.pb_finish.specs.Endings.{final_view, text_in}
use Rattle.pb_finish.specs.declared.statuses.FinalResult.{FinalResult}

pub append_fields-push : (ws : List Entry) (e : Entry) (fs : Fields) → append_fields (fields_view (ws ++ e ∷ [])) fs ≡ append_fields (fields_view ws) (field (string_bytes e.0) (view e.1) fs)
append_fields-push [] e fs = refl
append_fields-push (w ∷ ws) e fs = ap (field (string_bytes w.0) (view w.1)) (append_fields-push ws e fs)

pub put_all-push : (ws : List Entry) (e : Entry) (vars : Fields) → put_all (fields_view (ws ++ e ∷ [])) vars ≡ put_field (string_bytes e.0) (view e.1) (put_all (fields_view ws) vars)
put_all-push [] e vars = refl
put_all-push (w ∷ ws) e vars = put_all-push ws e (put_field (string_bytes w.0) (view w.1) vars)

pub put_all-append : (a b vars : Fields) → put_all (append_fields a b) vars ≡ put_all b (put_all a vars)
put_all-append no_fields b vars = refl
put_all-append (field n d a) b vars = put_all-append a b (put_field n d vars)

pub put_all-changes : (fs vars : Fields) → put_all fs vars ≡ with_changes (all_changes fs) vars
put_all-changes no_fields vars = refl
put_all-changes (field n d fs) vars = put_all-changes fs (put_field n d vars)

pub items_of-results : (es : List FinalResult) → items_of (map (λ e. rec (final_view e).fields) es) ≡ result_items (map final_view es)
items_of-results [] = refl
items_of-results (e ∷ es) = ap (item (rec (final_view e).fields)) (items_of-results es)

pub text-there : (u : Bool) (s : List ℕ) (o : Option Data) → Some s ≡ text_in o → s ≡ failure_text u o
text-there u s None h = absurd (cc)
text-there u s (Some (text t)) h = cc
text-there u s (Some d) h = absurd (cc)

pub text-none : (u : Bool) (o : Option Data) → None ≡ text_in o → cond u (codes "failed_when condition was true") (codes "until condition was not met") ≡ failure_text u o
text-none u None h = refl
text-none u (Some (text t)) h = absurd (cc)
text-none u (Some d) h = refl
