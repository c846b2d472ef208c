-- What is known where a task stands.
use Rattle.std.specs.Prelude.{ℕ, [], Bool, true, cond, Option, Some, None, codes}
use Rattle.pb_semantics.specs.Kind.{KindData, Slots, Spot, no_slots, slot_at}
use Rattle.pb_language.specs.Expansion.{trees}
use Rattle.pb_language.specs.Expression.{Name, Parts}
use Rattle.pb_language.specs.Judgement.{Exit, dead, live}
use Rattle.pb_language.specs.Scope.{with_slot}
use Rattle.pb_language.specs.Setting.{Setting, named_slots, scope_at, with_failure_slot}
use Rattle.pb_kind.specs.KindView.{is_always, kind_view}
use Rattle.pb_kind.specs.declared.kind.Kind.{Kind}
use Rattle.pb_kind.specs.declared.kind.Slot.{Slot}
use Rattle.pb_taught.specs.Before.{Before}
use Rattle.pb_outlook.specs.declared.standing.Given.{Given}

-- what is known of the failure in a `rescue` part
abbrev pub failure_spot : Spot
failure_spot = slot_at (codes "ansible_failed_result") (with_failure_slot 1 no_slots)

-- what is known of the host's variables
abbrev pub known_of : Exit → Slots
known_of dead = no_slots
known_of (live ss) = ss

abbrev pub with_known : Name → Option (Slot Kind) → Slots → Slots
with_known n None ss = ss
with_known n (Some s) ss = with_slot n (is_always s.presence) (kind_view s.kind) ss

abbrev pub with_given : Option Given → Slots → Slots
with_given None ss = ss
with_given (Some g) ss = with_slot g.name.now (is_always g.slot.presence) (kind_view g.slot.kind) ss

-- with a result of that kind under the name that the task registers, if there is one
abbrev pub with_result : Option Name → KindData → Slots → Slots
with_result None k ss = ss
with_result (Some n) k ss = with_slot n true k ss

-- the host's own names: those that are always there, its variables, the item, and the result under
-- the name that the task registers
abbrev pub own_names : Setting → ℕ → Exit → Option (Slot Kind) → Option Given → Slots
own_names st depth e item result = with_given result
    (with_known (codes "item") item (named_slots st depth (known_of e)))

-- what is known before any test; a Start sees what active hosts have, a Give doesn't
abbrev pub before_at : Setting → Parts → ℕ → Bool → Slots → Before
before_at st vars place is_start own = record {
  scope = scope_at st (cond is_start st.laters []) place own;
  trees = trees vars;
}
