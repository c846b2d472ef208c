-- What is known after a task of what it makes.
use Rattle.std.proofs.Common.{◌≡◌, ◌∙◌, Bool, true, false, Some, None, refl, sym, ap, subst}
use Rattle.pb_semantics.specs.Kind.{KindData, Slots}
use Rattle.pb_semantics.proofs.Bools.{untrue}
use Rattle.pb_language.specs.Cases.{with_register, with_sets, failing_cases}
use Rattle.pb_language.specs.Judgement.{Exit, dead, live, going_exit, failing_exit, going_slots, failing_slots, has_case, has_going, live_if, task_sets}
use Rattle.pb_language.specs.Setting.{Setting}
use Rattle.pb_language.specs.Task.{Task}
use Rattle.pb_language.specs.Walk.{failing_from, going_from}
use Rattle.pb_lattice.specs.Environments.{is_dead}
use Rattle.pb_kind.specs.KindView.{kind_view}
use Rattle.pb_outlook.specs.Standing.{known_of}
use Rattle.pb_transfer.specs.Written.{AreSame, sets_view, where_led}
use Rattle.pb_transfer.proofs.Same.{led_sets, same_through}
use Rattle.pb_visit.specs.Made.{IsFailing, IsGoing}
use Rattle.pb_visit.specs.declared.transfer.Made.{Made}

-- no way leads on
same_dead : (d e : Exit) → is_dead d ≡ true → is_dead e ≡ true → AreSame d e
same_dead dead dead h i = tt
same_dead (live ss) e h i = untrue h
same_dead dead (live ss) h i = untrue i

dead_if : (q : Bool) (ss : Slots) → q ≡ false → is_dead (live_if q ss) ≡ true
dead_if true ss h = untrue (sym h)
dead_if false ss h = refl

live_at : (q : Bool) (ss : Slots) → q ≡ true → live_if q ss ≡ live ss
live_at q ss h = ap (λ b. live_if b ss) h

pub goes_nowhere : (st : Setting) (t : Task) (d e : Exit) → is_dead d ≡ true → is_dead e ≡ false → IsGoing st t (known_of e) None → AreSame d (going_from st t e)
goes_nowhere st t d dead h alive i = untrue (sym alive)
goes_nowhere st t d (live env) h alive i = same_dead d (going_exit st t env) h (dead_if (has_going t t.loop) (going_slots st t env) i)

pub fails_nowhere : (st : Setting) (t : Task) (d e : Exit) → is_dead d ≡ true → is_dead e ≡ false → IsFailing st t (known_of e) None → AreSame d (failing_from st t e)
fails_nowhere st t d dead h alive i = untrue (sym alive)
fails_nowhere st t d (live env) h alive i = same_dead d (failing_exit st t env) h (dead_if (has_case (failing_cases t)) (failing_slots st t env) i)

-- with what is made
pub goes_somewhere : (st : Setting) (t : Task) (m : Made) (e after last : Exit) → is_dead e ≡ false → IsGoing st t (known_of e) (Some m)
    → AreSame after (where_led (with_register t.register (kind_view m.result)) e) → AreSame last (where_led (with_sets (sets_view m.sets.items)) after) → AreSame last (going_from st t e)
goes_somewhere st t m dead after last alive i h j = untrue (sym alive)
goes_somewhere st t m (live env) after last alive i h j =
    let put = with_register t.register (kind_view m.result) env in
    let all = same_through last (where_led (with_sets (sets_view m.sets.items)) after) (live (with_sets (sets_view m.sets.items) put)) j (led_sets (sets_view m.sets.items) after (live put) h) in
    let made : live (with_sets (sets_view m.sets.items) put) ≡ going_exit st t env =
    ap (λ s. live (with_sets s put)) i.1.sets ∙ ap (λ k. live (with_sets (task_sets st t env) (with_register t.register k env))) i.1.result
    ∙ sym (live_at (has_going t t.loop) (going_slots st t env) i.0) in
    subst (AreSame last) made all

pub fails_somewhere : (st : Setting) (t : Task) (k : KindData) (e after : Exit) → is_dead e ≡ false → IsFailing st t (known_of e) (Some k)
    → AreSame after (where_led (with_register t.register k) e) → AreSame after (failing_from st t e)
fails_somewhere st t k dead after alive i h = untrue (sym alive)
fails_somewhere st t k (live env) after alive i h =
    let made : live (with_register t.register k env) ≡ failing_exit st t env =
    ap (λ x. live (with_register t.register x env)) i.1 ∙ sym (live_at (has_case (failing_cases t)) (failing_slots st t env) i.0) in
    subst (AreSame after) made h
