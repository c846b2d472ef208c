-- The kinds of results beside their cases.
use Rattle.std.proofs.Common.{◌≡◌, Bool, true, false, cond, refl, sym, ap, codes}
use Rattle.std.proofs.Common.{rules}
use Rattle.std.specs.Str.{bytes_eq}
use Rattle.pb_semantics.specs.Kind.{Slots, booleans, no_slots, slot, recs, put_slot, is_listed}
use Rattle.pb_semantics.proofs.Bools.{untrue}
use Rattle.pb_language.specs.Expression.{Name}
use Rattle.pb_language.specs.Cases.{ended_kind}
use Rattle.pb_language.specs.Scope.{without_slot}
use Rattle.pb_kind.specs.KindView.{kind_view}
use Rattle.pb_kind.specs.declared.kind.Kind as Kind-of
use Rattle.pb_kind.specs.declared.kind.Kind.{the_lemmas as kind_lemmas}

unlisted_first : (q r : Bool) → cond q true r ≡ false → (q ≡ false) × (r ≡ false)
unlisted_first true r h = untrue (sym h)
unlisted_first false r h = (refl, h)

-- a name that isn't there can be taken out
without_unlisted : (n : Name) (ss : Slots) → is_listed n ss ≡ false → without_slot n ss ≡ ss
without_unlisted n no_slots h = refl
without_unlisted n (slot m a k ss) h =
    let x = unlisted_first (bytes_eq n m) (is_listed n ss) h in
    rw x.0 (ap (slot m a k) (without_unlisted n ss x.1))

pub kind_view-Bool : kind_view Kind-of.Bool ≡ booleans
kind_view-Bool = search (rules, kind_lemmas)

-- a shape that has no final status yet, with it
pub recs-ended : (ss : Slots) → is_listed (codes "failed") ss ≡ false → recs (put_slot (codes "failed") true booleans ss) ≡ ended_kind ss
recs-ended ss h = ap (λ us. recs (put_slot (codes "failed") true booleans us)) (sym (without_unlisted (codes "failed") ss h))
