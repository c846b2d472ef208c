-- What is known of a name, or of results, where a kind is joined to another.
use Rattle.std.specs.Prelude.{◌≡◌, ℕ, List, Bool, true, false, Option, None, Some, String, cond}
use Rattle.std.specs.Prelude.{◌&&◌, string_bytes}
use Rattle.std.specs.Str.{bytes_eq}
use Rattle.std.specs.declared.alloc.Global.{Global}
use denote.Ref.{Bor}
use Rattle.pb_semantics.specs.Kind.{Cases, KindData, Slots, Spot, is_listed, no_slots, nowhere}
use Rattle.pb_semantics.specs.Kind.{results, slot}
use Rattle.pb_semantics.specs.Join.{join_spot}
use Rattle.pb_semantics.specs.Grown.{met}
use Rattle.pb_kind.specs.Found.{spot_view}
use Rattle.pb_kind.specs.declared.kind.Slot.{Slot}
use Rattle.pb_kind.specs.declared.kind.Kind.{Kind}

-- what both know, of which the first leads or else comes second
abbrev pub met_spot : Bool → Spot → Spot → Spot
met_spot true s t = join_spot s t
met_spot false s t = join_spot t s

-- what an entry says of a name
abbrev pub spot_of : List ℕ → Option (Bor (String Global) × Bor (Slot Kind)) → Spot
spot_of n None = nowhere
spot_of n (Some e) = cond (bytes_eq n (string_bytes e.0.now)) (spot_view (Some e.1)) nowhere

-- a result of the second cases adds nothing to one of the first where its record adds nothing
abbrev pub NoneNew : Bool → Cases → Cases → Type 0
NoneNew b cs ds =
    (q r : KindData) → met b q r ≡ r → met b (results ds q) (results cs r) ≡ results cs r

-- whether the first list each field that is certain among the second
abbrev pub lists_sure : Slots → Slots → Bool
lists_sure ss no_slots = true
lists_sure ss (slot n a k ts) = cond a (is_listed n ss) true && lists_sure ss ts
