-- What is found once a task's writes are joined to what is known.
use Rattle.std.specs.Prelude.{◌≡◌, true, ◌&&◌, Option, Some, None}
use Rattle.pb_semantics.specs.Kind.{KindData, Slots, Spot, is_there, put_slot, recs, spot}
use Rattle.pb_semantics.specs.Below.{below}
use Rattle.pb_semantics.specs.Well.{Well, are_once}
use Rattle.pb_language.specs.Cases.{Sets}
use Rattle.pb_language.specs.Expression.{Name}
use Rattle.pb_language.specs.Scope.{spot_kind}
use Rattle.pb_language.specs.Tables.{with_writes, writes_below, written_spot}
use Rattle.pb_kind.specs.KindView.{is_always, kind_view, slots_view}
use Rattle.pb_kind.specs.declared.kind.Kind.{Kind}
use Rattle.pb_kind.specs.declared.kind.Slot.{Slot}
use Rattle.pb_walks.specs.Agree.{SlotsAgree}
use Rattle.pb_find.specs.declared.find.Find.{Find}

-- the slot that a write makes of what is known, or none where that has the kind already
abbrev pub Grown : Spot → KindData → Option (Slot Kind) → Type 0
Grown s k None = (is_there s ≡ true) × (below k (spot_kind s) ≡ true)
Grown s k (Some x) = spot (is_always x.presence) (kind_view x.kind) ≡ written_spot s k

-- the slots with that one, if there is one
abbrev pub IsPut : Name → Option (Slot Kind) → Slots → Slots → Type 0
IsPut n None ss ts = ts ≡ ss
IsPut n (Some x) ss ts = (ts ≡ put_slot n (is_always x.presence) (kind_view x.kind) ss)
    × (are_once ts ≡ true)

-- what is found once these are written, after what was found before
pub record Written (r : Sets) (view : Slots) (old new : Find) : Type 0 where
  pub fault : new.fault ≡ old.fault
  pub next : SlotsAgree (slots_view new.next.entries) (with_writes r (slots_view old.next.entries))
  pub well : Well (recs (slots_view new.next.entries))
  pub settled : new.is_settled ≡ old.is_settled && writes_below r view
  pub same : new.is_same ≡ true
      → (old.is_same ≡ true) × (slots_view new.next.entries ≡ slots_view old.next.entries)
