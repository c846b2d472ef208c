-- What slots stand for that are copied.
use Rattle.std.proofs.Common.{◌≡◌, List, [], ◌∷◌, string_bytes, refl, ap}
use Rattle.std.specs.List.{AllZip}
use Rattle.pb_semantics.specs.Kind.{slot}
use Rattle.pb_kind.specs.KindView.{is_always, kind_view, slots_view}
use Rattle.pb_kind.proofs.KindLemmas.{SlotEntry}

pub slots_view-copy : (es ds : List SlotEntry) → AllZip (λ e d. (string_bytes d.0 ≡ string_bytes e.0) × ((d.1.presence ≡ e.1.presence) × (kind_view d.1.kind ≡ kind_view e.1.kind))) es ds → slots_view ds ≡ slots_view es
slots_view-copy [] [] h = refl
slots_view-copy [] (d ∷ ds) h = absurd h
slots_view-copy (e ∷ es) [] h = absurd h
slots_view-copy (e ∷ es) (d ∷ ds) h = rw (h.0.0, h.0.1.0, h.0.1.1) (ap (slot (string_bytes e.0) (is_always e.1.presence) (kind_view e.1.kind)) (slots_view-copy es ds h.1))
