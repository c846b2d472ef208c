-- What a module of a file means before it is judged, and what a slot says of a field.
use Rattle.std.specs.Prelude.{None, map, string_bytes}
use Rattle.pb_semantics.specs.Kind.{Spot, recs, spot}
use Rattle.pb_semantics.specs.Signature.{ModuleData}
use Rattle.pb_kind.specs.KindView.{is_always, kind_view, slots_view}
use Rattle.pb_kind.specs.declared.kind.Kind.{Kind}
use Rattle.pb_kind.specs.declared.kind.Slot.{Slot}
use Rattle.pb_sig.specs.Views.{parameter_view}
use Rattle.pb_sig.specs.declared.draft.Draft.{Draft}

abbrev pub draft_view : Draft → ModuleData
draft_view m = record {
  name = string_bytes m.name;
  params = map parameter_view m.parameters.items;
  ok = recs (slots_view m.ok.entries);
  failure = recs (slots_view m.failure.entries);
  free = None;
}

abbrev pub slot_spot : Slot Kind → Spot
slot_spot s = spot (is_always s.presence) (kind_view s.kind)
