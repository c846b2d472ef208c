-- A lawful shape is a record with no final status of its own, and each of its fields counts.
use Rattle.std.proofs.Common.{◌≡◌, true, false, BTreeMap, String, Global, codes, refl, rules}
use Rattle.std.specs.Prelude.{◌&&◌, not}
use Rattle.std.specs.declared.sync.Arc.{Arc}
use Rattle.pb_semantics.specs.Kind.{KindData, Slots, recs, is_listed, slot_at}
use Rattle.pb_semantics.specs.Signature.{is_certain_boolean}
use Rattle.pb_semantics.proofs.Bools.{and-left, and-right, not-true}
use Rattle.pb_language.specs.Cases.{are_plain, is_lawful_shape, shape_slots, slots_of}
use Rattle.pb_kind.specs.KindView.{kind_view}
use Rattle.pb_kind.specs.declared.kind.Slot.{Slot}
use Rattle.pb_kind.specs.declared.kind.Kind.{Kind, the_lemmas as kind_lemmas}
use Rattle.pb_kind.specs.declared.kind.Kind as Kind-of
use Rattle.pb_value.specs.declared.weight.Weighed.{Weighed}

-- what is no record keeps no law
pub unlawful : (k : Kind) → ((m : Arc (Weighed (BTreeMap (String Global) (Slot Kind))) Global) → k ≡ Kind-of.Rec m → ⊥) → is_lawful_shape (kind_view k) ≡ false
unlawful k other = search (rules, kind_lemmas)

pub unfailed_shape : (ss : Slots) → is_lawful_shape (recs ss) ≡ true → is_listed (codes "failed") ss ≡ false
unfailed_shape ss h =
    let certain = is_certain_boolean (slot_at (codes "changed") ss) in
    let unfailed = not (is_listed (codes "failed") ss) in
    let unskipped = not (is_listed (codes "skipped") ss) in
    not-true (is_listed (codes "failed") ss)
    (and-left unfailed unskipped (and-right certain (unfailed && unskipped) (and-right (are_plain ss) (certain && (unfailed && unskipped)) h)))

pub shape_slots-lawful : (k : KindData) → is_lawful_shape k ≡ true → shape_slots k ≡ slots_of k
shape_slots-lawful k h = rw h refl
