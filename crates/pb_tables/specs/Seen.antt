-- What others see of a host, as a record.
use Rattle.std.specs.Prelude.{String}
use Rattle.std.specs.BTreeMap.{BTreeMap}
use Rattle.std.specs.declared.alloc.Global.{Global}
use Rattle.std.specs.declared.sync.Arc.{Arc}
use Rattle.pb_semantics.specs.Kind.{KindData, recs}
use Rattle.pb_kind.specs.KindView.{slots_view}
use Rattle.pb_kind.specs.declared.kind.Kind.{Kind}
use Rattle.pb_kind.specs.declared.kind.Slot.{Slot}

abbrev pub seen_record : Arc (BTreeMap (String Global) (Slot Kind)) Global → KindData
seen_record m = recs (slots_view m.value.entries)
