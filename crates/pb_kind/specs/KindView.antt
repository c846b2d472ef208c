-- The kind that a `Kind` stands for.
use Rattle.std.specs.Prelude.{List, [], ◌∷◌, map, String, string_bytes, Bool, true, false}
use Rattle.std.specs.declared.alloc.Global.{Global}
use Rattle.pb_semantics.specs.Kind.{KindData, never, nulls, booleans, ints, texts, hosts, lists}
use Rattle.pb_semantics.specs.Kind.{recs, results, anything, Slots, no_slots, slot, Cases, no_cases}
use Rattle.pb_semantics.specs.Kind.{one, ok_shape, failure_shape, skipped_shape}
use Rattle.pb_semantics.specs.Kind as k
use Rattle.pb_kind.specs.declared.kind.Presence.{Presence}
use Rattle.pb_kind.specs.declared.kind.Presence.TheVariants.{Always, Maybe}
use Rattle.pb_kind.specs.declared.kind.Shape.{Shape}
use Rattle.pb_kind.specs.declared.kind.Shape.TheVariants as shape
use Rattle.pb_kind.specs.declared.kind.Slot.{Slot}
use Rattle.pb_kind.specs.declared.kind.Case.{Case}
use Rattle.pb_kind.specs.declared.kind.Kind.{Kind, fold-Kind}
use Rattle.pb_kind.specs.declared.kind.Kind.TheOpen.{Kind-F}

abbrev pub is_always : Presence → Bool
is_always Always = true
is_always Maybe = false

abbrev pub shape_view : Shape → k.Shape
shape_view shape.Ok = ok_shape
shape_view shape.Failure = failure_shape
shape_view shape.Skipped = skipped_shape

abbrev pub slots_of : List (String Global × Slot KindData) → Slots
slots_of [] = no_slots
slots_of (m ∷ ms) = slot (string_bytes m.0) (is_always m.1.presence) m.1.kind (slots_of ms)

abbrev pub cases_of : List (Case KindData) → Cases
cases_of [] = no_cases
cases_of (c ∷ cs) =
    one (string_bytes c.action.value) (shape_view c.shape) c.failed c.fields (cases_of cs)

-- one level, with each kind inside already seen as its data
abbrev pub kind_step : Kind-F KindData → KindData
kind_step Kind-F.Never = never
kind_step Kind-F.Null = nulls
kind_step Kind-F.Bool = booleans
kind_step Kind-F.Int = ints
kind_step Kind-F.Text = texts
kind_step (Kind-F.Host s) = hosts (map (λ n. string_bytes n) s.value.keys)
kind_step (Kind-F.List k n) = lists k.value.parts n
kind_step (Kind-F.Rec m) = recs (slots_of m.value.parts.entries)
kind_step (Kind-F.Result cs r) = results (cases_of cs.value.parts.items) r.value
kind_step Kind-F.Any = anything

abbrev pub kind_view : Kind → KindData
kind_view = fold-Kind KindData kind_step

abbrev pub slots_view : List (String Global × Slot Kind) → Slots
slots_view ms =
    slots_of (map (λ m. (m.0, record { presence = m.1.presence; kind = kind_view m.1.kind })) ms)

abbrev pub cases_view : List (Case Kind) → Cases
cases_view cs = cases_of (map
    (λ c. record {
      action = c.action;
      shape = c.shape;
      failed = c.failed;
      fields = kind_view
          c.fields;
    }) cs)
