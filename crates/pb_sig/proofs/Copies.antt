-- A copy of the fields means what they mean.
use Rattle.std.proofs.Common.{◌≡◌, List, [], ◌∷◌, string_bytes, refl}
use Rattle.std.specs.List.{AllZip}
use Rattle.pb_value.specs.View.{view, fields_view}
use Rattle.pb_kind.specs.KindView.{kind_view, slots_view}
use Rattle.pb_value.proofs.Fields.{Entry}
use Rattle.pb_kind.proofs.KindLemmas.{SlotEntry}

pub fields_view-copy : (es fs : List Entry) → AllZip (λ (p q : Entry). (string_bytes q.0 ≡ string_bytes p.0) × (view q.1 ≡ view p.1)) es fs → fields_view fs ≡ fields_view es
fields_view-copy [] [] h = refl
fields_view-copy [] (f ∷ fs) h = absurd h
fields_view-copy (e ∷ es) [] h = absurd h
fields_view-copy (e ∷ es) (f ∷ fs) h = rw (h.0.0, h.0.1, fields_view-copy es fs h.1) refl

pub slots_view-copy : (es fs : List SlotEntry) → AllZip (λ (p q : SlotEntry). (string_bytes q.0 ≡ string_bytes p.0) × ((q.1.presence ≡ p.1.presence) × (kind_view q.1.kind ≡ kind_view p.1.kind))) es fs → slots_view fs ≡ slots_view es
slots_view-copy [] [] h = refl
slots_view-copy [] (f ∷ fs) h = absurd h
slots_view-copy (e ∷ es) [] h = absurd h
slots_view-copy (e ∷ es) (f ∷ fs) h = rw (h.0.0, h.0.1.0, h.0.1.1, slots_view-copy es fs h.1) refl
