-- The value of a form beside the values of its operands.
use Rattle.std.proofs.Common.{◌≡◌, ℕ, ℤ, List, [], ◌∷◌, ◌++◌, Bool, true, false, ◌||◌, int_lt, int_le, Some, None, refl, sym, ap, ◌∙◌}
use Rattle.pb_semantics.specs.Data.{Data, Items, Fields, boolean, int, text, list, rec, opaque, no_items, item, no_fields, field}
use Rattle.pb_language.specs.Evaluates.{is_unreadable}
use Rattle.pb_language.specs.Expression.{Comparison, equal, less, at_most, more, at_least, Expressions, no_expressions, expression}
use Rattle.pb_language.specs.World.{World}
use Rattle.pb_language.specs.Evaluation.{Outcome, Stuck, value, stuck, wrong_sort, then_go, only_boolean, and_then, or_then, holds_opaque, ordered, compared, found_in, joined, put_item, put_part, eval, eval_all, eval_any}
use Rattle.pb_value.specs.Append.{append_fields}
use Rattle.pb_value.specs.View.{view, items_view, truth}
use Rattle.pb_value.specs.declared.value.Value.{Value}
use Rattle.pb_eval.specs.OwnWorld.{shown}

or_right : (b : Bool) → (b || true) ≡ true
or_right true = refl
or_right false = refl

-- an operand without a value may as well be opaque, where what is opaque spoils the form
pub one-by : (h : Data → Outcome) (r d : Data) (o : Outcome) → shown (h opaque) ≡ opaque → r ≡ shown (h d) → d ≡ shown o → r ≡ shown (then_go o h)
one-by h r d (stuck s) spoils is told = is ∙ ap (λ x. shown (h x)) told ∙ spoils
one-by h r d (value e) spoils is told = is ∙ ap (λ x. shown (h x)) told

strict : (h : Data → Data → Outcome) (o p : Outcome) → ((x : Data) → shown (h opaque x) ≡ opaque) → ((x : Data) → shown (h x opaque) ≡ opaque)
    → shown (h (shown o) (shown p)) ≡ shown (then_go o (λ x. then_go p (h x)))
strict h (stuck s) p first second = first (shown p)
strict h (value d) (stuck s) first second = second d
strict h (value d) (value e) first second = refl

both-by : (h : Data → Data → Outcome) (r d e : Data) (o p : Outcome) → ((x : Data) → shown (h opaque x) ≡ opaque) → ((x : Data) → shown (h x opaque) ≡ opaque)
    → r ≡ shown (h d e) → d ≡ shown o → e ≡ shown p → r ≡ shown (then_go o (λ x. then_go p (h x)))
both-by h r d e o p first second is one two =
    is ∙ ap (λ x. shown (h x e)) one ∙ ap (λ x. shown (h (shown o) x)) two ∙ strict h o p first second

ordered-opaque : (f : ℤ → ℤ → Bool) (d : Data) → shown (ordered f d opaque) ≡ opaque
ordered-opaque f (int z) = refl
ordered-opaque f d = refl

compared-first : (c : Comparison) (e : Data) → shown (compared c opaque e) ≡ opaque
compared-first equal e = refl
compared-first less e = refl
compared-first at_most e = refl
compared-first more e = refl
compared-first at_least e = refl

compared-second : (c : Comparison) (d : Data) → shown (compared c d opaque) ≡ opaque
compared-second equal d = rw (or_right (holds_opaque d)) refl
compared-second less d = ordered-opaque _ d
compared-second at_most d = ordered-opaque _ d
compared-second more d = ordered-opaque _ d
compared-second at_least d = ordered-opaque _ d

pub compared-by : (c : Comparison) (r d e : Data) (o p : Outcome) → r ≡ shown (compared c d e) → d ≡ shown o → e ≡ shown p
    → r ≡ shown (then_go o (λ x. then_go p (compared c x)))
compared-by c r d e o p = both-by (compared c) r d e o p (compared-first c) (compared-second c)

found-first : (e : Data) → shown (found_in opaque e) ≡ opaque
found-first (list es) = refl
found-first e = refl

found-second : (d : Data) → shown (found_in d opaque) ≡ opaque
found-second (text s) = refl
found-second d = refl

pub found-by : (r d e : Data) (o p : Outcome) → r ≡ shown (found_in d e) → d ≡ shown o → e ≡ shown p → r ≡ shown (then_go o (λ x. then_go p (found_in x)))
found-by r d e o p = both-by found_in r d e o p found-first found-second

joined-second : (d : Data) → shown (joined d opaque) ≡ opaque
joined-second (list ds) = refl
joined-second d = refl

pub joined-by : (r d e : Data) (o p : Outcome) → r ≡ shown (joined d e) → d ≡ shown o → e ≡ shown p → r ≡ shown (then_go o (λ x. then_go p (joined x)))
joined-by r d e o p = both-by joined r d e o p (λ x. refl) joined-second

-- an order the other way round
ordered-back : (f : ℤ → ℤ → Bool) (d e : Data) → shown (ordered f e d) ≡ shown (ordered (λ y z. f z y) d e)
ordered-back f (int y) (int z) = refl
ordered-back f (int y) e = refl
ordered-back f d (int z) = refl
ordered-back f d e = refl

pub more-less : (d e : Data) → shown (compared less e d) ≡ shown (compared more d e)
more-less d e = ordered-back (λ y z. int_lt y z) d e

pub at_least-at_most : (d e : Data) → shown (compared at_most e d) ≡ shown (compared at_least d e)
at_least-at_most d e = ordered-back (λ y z. int_le y z) d e

only-once : (o : Outcome) → then_go (then_go o only_boolean) only_boolean ≡ then_go o only_boolean
only-once (stuck s) = refl
only-once (value (boolean b)) = refl
only-once (value d) = refl

-- a chain of `and`
and_only : (o p : Outcome) → then_go (then_go o (λ d. and_then d p)) only_boolean ≡ then_go o (λ d. and_then d p)
and_only (stuck s) p = refl
and_only (value (boolean true)) p = only-once p
and_only (value (boolean false)) p = refl
and_only (value d) p = refl

all_only : (w : World) (es : Expressions) → then_go (eval_all w es) only_boolean ≡ eval_all w es
all_only w no_expressions = refl
all_only w (expression e es) = and_only (eval w e) (eval_all w es)

pub and-true : (w : World) (o : Outcome) (es : Expressions) → truth (shown o) ≡ Some true → then_go o (λ d. and_then d (eval_all w es)) ≡ eval_all w es
and-true w (stuck s) es e = cc
and-true w (value (boolean true)) es e = all_only w es
and-true w (value (boolean false)) es e = cc
and-true w (value d) es e = cc

pub and-false : (o p : Outcome) → truth (shown o) ≡ Some false → shown (then_go o (λ d. and_then d p)) ≡ boolean false
and-false (stuck s) p e = cc
and-false (value (boolean true)) p e = cc
and-false (value (boolean false)) p e = refl
and-false (value d) p e = cc

pub and-spoilt : (o p : Outcome) → truth (shown o) ≡ None → shown (then_go o (λ d. and_then d p)) ≡ opaque
and-spoilt (stuck s) p e = refl
and-spoilt (value (boolean b)) p e = cc
and-spoilt (value d) p e = refl

-- a chain of `or`
or_only : (o p : Outcome) → then_go (then_go o (λ d. or_then d p)) only_boolean ≡ then_go o (λ d. or_then d p)
or_only (stuck s) p = refl
or_only (value (boolean true)) p = refl
or_only (value (boolean false)) p = only-once p
or_only (value d) p = refl

any_only : (w : World) (es : Expressions) → then_go (eval_any w es) only_boolean ≡ eval_any w es
any_only w no_expressions = refl
any_only w (expression e es) = or_only (eval w e) (eval_any w es)

pub or-false : (w : World) (o : Outcome) (es : Expressions) → truth (shown o) ≡ Some false → then_go o (λ d. or_then d (eval_any w es)) ≡ eval_any w es
or-false w (stuck s) es e = cc
or-false w (value (boolean true)) es e = cc
or-false w (value (boolean false)) es e = any_only w es
or-false w (value d) es e = cc

pub or-true : (o p : Outcome) → truth (shown o) ≡ Some true → shown (then_go o (λ d. or_then d p)) ≡ boolean true
or-true (stuck s) p e = cc
or-true (value (boolean true)) p e = refl
or-true (value (boolean false)) p e = cc
or-true (value d) p e = cc

pub or-spoilt : (o p : Outcome) → truth (shown o) ≡ None → shown (then_go o (λ d. or_then d p)) ≡ opaque
or-spoilt (stuck s) p e = refl
or-spoilt (value (boolean b)) p e = cc
or-spoilt (value d) p e = refl

-- a part that may be read goes into the whole, and one that may not spoils it
abbrev with_first_item : Data → Outcome → Outcome
with_first_item d (value (list ds)) = value (list (item d ds))
with_first_item d (value e) = stuck wrong_sort
with_first_item d (stuck s) = stuck s

abbrev with_first_field : List ℕ → Data → Outcome → Outcome
with_first_field n d (value (rec fs)) = value (rec (field n d fs))
with_first_field n d (value e) = stuck wrong_sort
with_first_field n d (stuck s) = stuck s

put-item : (d : Data) (p : Outcome) → is_unreadable d ≡ false → put_item d p ≡ with_first_item d p
put-item opaque p e = cc
put-item d (value (list ds)) e = refl
put-item d (value x) e = refl
put-item d (stuck s) e = refl

put-part : (n : List ℕ) (d : Data) (p : Outcome) → is_unreadable d ≡ false → put_part n d p ≡ with_first_field n d p
put-part n opaque p e = cc
put-part n d (value (rec fs)) e = refl
put-part n d (value x) e = refl
put-part n d (stuck s) e = refl

readable-item : (o p : Outcome) → is_unreadable (shown o) ≡ false → then_go o (λ d. put_item d p) ≡ with_first_item (shown o) p
readable-item (stuck s) p e = cc
readable-item (value d) p e = put-item d p e

readable-part : (n : List ℕ) (o p : Outcome) → is_unreadable (shown o) ≡ false → then_go o (λ d. put_part n d p) ≡ with_first_field n (shown o) p
readable-part n (stuck s) p e = cc
readable-part n (value d) p e = put-part n d p e

-- the items of a list before the rest of it
abbrev pub after_items : Items → Outcome → Outcome
after_items no_items o = o
after_items (item d ds) o = with_first_item d (after_items ds o)

after_items-stuck : (ds : Items) (s : Stuck) → after_items ds (stuck s) ≡ stuck s
after_items-stuck no_items s = refl
after_items-stuck (item d ds) s = rw (after_items-stuck ds s) refl

pub items-spoilt : (ds : Items) (o p : Outcome) → is_unreadable (shown o) ≡ true → shown (after_items ds (then_go o (λ d. put_item d p))) ≡ opaque
items-spoilt ds (stuck s) p e = rw (after_items-stuck ds s) refl
items-spoilt ds (value opaque) p e = rw (after_items-stuck ds wrong_sort) refl
items-spoilt ds (value d) p e = cc

items-more : (vs : List Value) (v : Value) (p : Outcome) → after_items (items_view vs) (with_first_item (view v) p) ≡ after_items (items_view (vs ++ v ∷ [])) p
items-more [] v p = refl
items-more (w ∷ vs) v p = ap (with_first_item (view w)) (items-more vs v p)

pub items-step : (vs : List Value) (v : Value) (o p : Outcome) → view v ≡ shown o → is_unreadable (shown o) ≡ false
    → after_items (items_view vs) (then_go o (λ d. put_item d p)) ≡ after_items (items_view (vs ++ v ∷ [])) p
items-step vs v o p h e =
    ap (after_items (items_view vs)) (readable-item o p e ∙ ap (λ d. with_first_item d p) (sym h)) ∙ items-more vs v p

pub items-end : (ds : Items) → after_items ds (value (list no_items)) ≡ value (list ds)
items-end no_items = refl
items-end (item d ds) = rw (items-end ds) refl

-- the fields of a record before the rest of it
abbrev pub after_fields : Fields → Outcome → Outcome
after_fields no_fields o = o
after_fields (field n d fs) o = with_first_field n d (after_fields fs o)

after_fields-stuck : (fs : Fields) (s : Stuck) → after_fields fs (stuck s) ≡ stuck s
after_fields-stuck no_fields s = refl
after_fields-stuck (field n d fs) s = rw (after_fields-stuck fs s) refl

pub fields-spoilt : (fs : Fields) (n : List ℕ) (o p : Outcome) → is_unreadable (shown o) ≡ true → shown (after_fields fs (then_go o (λ d. put_part n d p))) ≡ opaque
fields-spoilt fs n (stuck s) p e = rw (after_fields-stuck fs s) refl
fields-spoilt fs n (value opaque) p e = rw (after_fields-stuck fs wrong_sort) refl
fields-spoilt fs n (value d) p e = cc

fields-more : (fs : Fields) (n : List ℕ) (d : Data) (p : Outcome) → after_fields fs (with_first_field n d p) ≡ after_fields (append_fields fs (field n d no_fields)) p
fields-more no_fields n d p = refl
fields-more (field m e fs) n d p = ap (with_first_field m e) (fields-more fs n d p)

pub fields-step : (fs : Fields) (n : List ℕ) (o p : Outcome) → is_unreadable (shown o) ≡ false
    → after_fields fs (then_go o (λ d. put_part n d p)) ≡ after_fields (append_fields fs (field n (shown o) no_fields)) p
fields-step fs n o p e = ap (after_fields fs) (readable-part n o p e) ∙ fields-more fs n (shown o) p

pub fields-end : (fs : Fields) → after_fields fs (value (rec no_fields)) ≡ value (rec fs)
fields-end no_fields = refl
fields-end (field n d fs) = rw (fields-end fs) refl
