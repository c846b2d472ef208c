-- What a test teaches is so in each world in which it has that answer.
use Rattle.std.proofs.Common.{◌≡◌, List, Bool, true, false, not, ◌⊎◌, inl, inr, ⊎_elim, refl, ap}
use Rattle.pb_semantics.specs.Data.{Data, boolean}
use Rattle.pb_semantics.specs.Kind.{nowhere, spot}
use Rattle.pb_semantics.proofs.Bools.{untrue}
use Rattle.pb_language.specs.Expression.{Name, Status, Expression, negation, conjunction, disjunction, in_batch, defined, path_status, Expressions, no_expressions, expression}
use Rattle.pb_language.specs.World.{World}
use Rattle.pb_language.specs.Evaluation.{Outcome, value, stuck, Look, there, absent, failing, then_go, value_below, is_value, read, is_there, only_boolean, negated, and_then, or_then, status_of, eval, look, eval_all, eval_any}
use Rattle.pb_language.specs.Scope.{Scope}
use Rattle.pb_language.specs.Narrow.{cases_with, answers, on_results, changed_spot, changed_at, there_spot, defined_at, any_teaches, narrow, narrow_each, narrow_some}
use Rattle.pb_language.specs.Knows.{Knows, TestTeaches}
use Rattle.pb_language.proofs.Taught.{kept_changed, kept_answered, kept_defined}
use Rattle.pb_language.proofs.Scopes.{SameGround, either_scope, turned_ground, ground_through, ground_narrow, ground_some}
use Rattle.pb_language.proofs.Known.{Teaches, answered_wells, well_narrow, well_narrow_some, knows_first, knows_second, knows_active, knows_teach, knows_present}

-- tests of a path
defined_there : (ns : List Name) (p : Look) → is_there ns p ≡ value (boolean true) → (d : Data) × (p ≡ there d) × (is_value (value_below ns d) ≡ true)
defined_there ns (there d) h = let x : is_value (value_below ns d) ≡ true = cc in (d, refl, x)
defined_there ns absent h = let x : false ≡ true = cc in untrue x
defined_there ns (failing y) h = absurd (cc)

answered_there : (ns : List Name) (s : Status) (b : Bool) (p : Look) → then_go (read ns p) (status_of s) ≡ value (boolean b) → (d : Data) × (p ≡ there d) × ((e : Data) → value_below ns d ≡ value e → status_of s e ≡ value (boolean b))
answered_there ns s b (there d) h = (d, refl, λ e i. rw i at h)
answered_there ns s b absent h = absurd (cc)
answered_there ns s b (failing y) h = absurd (cc)

defined_teaches : (ns : List Name) (d : Data) → is_value (value_below ns d) ≡ true → Teaches d (there_spot (defined_at ns))
defined_teaches ns d i nowhere w h = untrue h
defined_teaches ns d i (spot a k) w h = kept_defined ns d k w i h

answer_teaches : (ns : List Name) (s : Status) (b : Bool) (d : Data) → ((e : Data) → value_below ns d ≡ value e → status_of s e ≡ value (boolean b)) → Teaches d (changed_spot (changed_at ns (on_results (cases_with (answers s b)))))
answer_teaches ns s b d g nowhere w h = untrue h
answer_teaches ns s b d g (spot a k) w h = kept_changed ns (on_results (cases_with (answers s b))) d k (λ e j x v y. kept_answered s b e j (g e x) v y) w h

-- operators
not_swap : (c b : Bool) → not c ≡ b → c ≡ not b
not_swap true b h = rw (← h) refl
not_swap false b h = rw (← h) refl

negated_of : (o : Outcome) (b : Bool) → then_go o negated ≡ value (boolean b) → o ≡ value (boolean (not b))
negated_of (value (boolean c)) b h = let i : not c ≡ b = cc in ap (λ x. value (boolean x)) (not_swap c b i)
negated_of (value d) b h = absurd (cc)
negated_of (stuck y) b h = absurd (cc)

only_of : (o : Outcome) (b : Bool) → then_go o only_boolean ≡ value (boolean b) → o ≡ value (boolean b)
only_of (value (boolean c)) b h = h
only_of (value d) b h = absurd (cc)
only_of (stuck y) b h = absurd (cc)

both_of : (o p : Outcome) → then_go o (λ d. and_then d p) ≡ value (boolean true) → (o ≡ value (boolean true)) × (p ≡ value (boolean true))
both_of (value (boolean true)) p h = (refl, only_of p true h)
both_of (value (boolean false)) p h = let x : false ≡ true = cc in untrue x
both_of (value d) p h = absurd (cc)
both_of (stuck y) p h = absurd (cc)

neither_of : (o p : Outcome) → then_go o (λ d. or_then d p) ≡ value (boolean false) → (o ≡ value (boolean false)) × (p ≡ value (boolean false))
neither_of (value (boolean false)) p h = (refl, only_of p false h)
neither_of (value (boolean true)) p h = let x : false ≡ true = cc in untrue x
neither_of (value d) p h = absurd (cc)
neither_of (stuck y) p h = absurd (cc)

not_both_of : (o p : Outcome) → then_go o (λ d. and_then d p) ≡ value (boolean false) → (o ≡ value (boolean false)) ⊎ ((o ≡ value (boolean true)) × (p ≡ value (boolean false)))
not_both_of (value (boolean true)) p h = inr (refl, only_of p false h)
not_both_of (value (boolean false)) p h = inl refl
not_both_of (value d) p h = absurd (cc)
not_both_of (stuck y) p h = absurd (cc)

one_of : (o p : Outcome) → then_go o (λ d. or_then d p) ≡ value (boolean true) → (o ≡ value (boolean true)) ⊎ ((o ≡ value (boolean false)) × (p ≡ value (boolean true)))
one_of (value (boolean false)) p h = inr (refl, only_of p true h)
one_of (value (boolean true)) p h = inl refl
one_of (value d) p h = absurd (cc)
one_of (stuck y) p h = absurd (cc)

-- the last of a chain decides it
last_false : (o : Outcome) → then_go o (λ d. and_then d (value (boolean true))) ≡ value (boolean false) → o ≡ value (boolean false)
last_false o h = ⊎_elim (λ x. x) (λ y. let z : false ≡ true = wrong y.1 in untrue z) (not_both_of o (value (boolean true)) h) where
  wrong : value (boolean true) ≡ value (boolean false) → false ≡ true
  wrong e = cc

last_true : (o : Outcome) → then_go o (λ d. or_then d (value (boolean false))) ≡ value (boolean true) → o ≡ value (boolean true)
last_true o h = ⊎_elim (λ x. x) (λ y. let z : false ≡ true = wrong y.1 in untrue z) (one_of o (value (boolean false)) h) where
  wrong : value (boolean false) ≡ value (boolean true) → false ≡ true
  wrong e = cc

-- the grounds of both ways are the same
some_ground : (c : Scope) (e : Expression) (es : Expressions) (b : Bool) → SameGround (narrow c e b) (narrow_some (narrow c e (not b)) es b)
some_ground c e es b =
    ground_through (narrow c e b) c (narrow_some (narrow c e (not b)) es b) (turned_ground c (narrow c e b) (ground_narrow e c b))
    (ground_through c (narrow c e (not b)) (narrow_some (narrow c e (not b)) es b) (ground_narrow e c (not b)) (ground_some es (narrow c e (not b)) b))

module _ (w : World) where
  mutual
    pub teaches : (e : Expression) (c : Scope) (b : Bool) → Knows w c → eval w e ≡ value (boolean b) → Knows w (narrow c e b)
    teaches (negation e) c b m h = teaches e c (not b) m (negated_of (eval w e) b h)
    teaches (conjunction es) c true m h = all_teach es c m h
    teaches (conjunction es) c false m h = either_scope (Knows w) (any_teaches es) (narrow_some c es false) c (not_all_teach es c m h) m
    teaches (disjunction es) c true m h = either_scope (Knows w) (any_teaches es) (narrow_some c es true) c (any_teach es c m h) m
    teaches (disjunction es) c false m h = none_teach es c m h
    teaches (in_batch t) c true m h = knows_active w c t m h
    teaches (defined r ns) c true m h =
        let there_now = defined_there ns (look w r) h in
        knows_present w c r ns there_now.0 m (defined_teaches ns there_now.0 there_now.2) there_now.1 h
    teaches (path_status s r ns) c b m h =
        let there_now = answered_there ns s b (look w r) h in
        knows_teach w c (changed_spot (changed_at ns (on_results (cases_with (answers s b))))) r there_now.0 m (answered_wells ns s b) (answer_teaches ns s b there_now.0 there_now.2) there_now.1
    teaches e c b m h = m

    all_teach : (es : Expressions) (c : Scope) → Knows w c → eval_all w es ≡ value (boolean true) → Knows w (narrow_each c es true)
    all_teach no_expressions c m h = m
    all_teach (expression e es) c m h =
        let both = both_of (eval w e) (eval_all w es) h in
        all_teach es (narrow c e true) (teaches e c true m both.0) both.1

    none_teach : (es : Expressions) (c : Scope) → Knows w c → eval_any w es ≡ value (boolean false) → Knows w (narrow_each c es false)
    none_teach no_expressions c m h = m
    none_teach (expression e es) c m h =
        let both = neither_of (eval w e) (eval_any w es) h in
        none_teach es (narrow c e false) (teaches e c false m both.0) both.1

    not_all_teach : (es : Expressions) (c : Scope) → Knows w c → eval_all w es ≡ value (boolean false) → Knows w (narrow_some c es false)
    not_all_teach no_expressions c m h = m
    not_all_teach (expression e no_expressions) c m h = teaches e c false m (last_false (eval w e) h)
    not_all_teach (expression e (expression f es)) c m h =
        let one = narrow c e false in
        let later = narrow_some (narrow c e true) (expression f es) false in
        ⊎_elim (λ x. knows_first w one later (well_narrow_some (expression f es) (narrow c e true) false (well_narrow e c true m.well)) (teaches e c false m x))
        (λ y. knows_second w one later (well_narrow e c false m.well) (some_ground c e (expression f es) false) (not_all_teach (expression f es) (narrow c e true) (teaches e c true m y.0) y.1))
        (not_both_of (eval w e) (eval_all w (expression f es)) h)

    any_teach : (es : Expressions) (c : Scope) → Knows w c → eval_any w es ≡ value (boolean true) → Knows w (narrow_some c es true)
    any_teach no_expressions c m h = m
    any_teach (expression e no_expressions) c m h = teaches e c true m (last_true (eval w e) h)
    any_teach (expression e (expression f es)) c m h =
        let one = narrow c e true in
        let later = narrow_some (narrow c e false) (expression f es) true in
        ⊎_elim (λ x. knows_first w one later (well_narrow_some (expression f es) (narrow c e false) true (well_narrow e c false m.well)) (teaches e c true m x))
        (λ y. knows_second w one later (well_narrow e c true m.well) (some_ground c e (expression f es) true) (any_teach (expression f es) (narrow c e false) (teaches e c false m y.0) y.1))
        (one_of (eval w e) (eval_any w (expression f es)) h)

pub test_teaches : TestTeaches
test_teaches w c e b m h = teaches w e c b m h
