-- What the laws of a file of signatures say in the words of modules.
use Rattle.std.proofs.Common.{◌≡◌, List, [], ◌∷◌, ◌++◌, Bool, true, false, codes, refl, ap, ◌∙◌}
use Rattle.std.specs.Prelude.{◌&&◌, not}
use Rattle.pb_semantics.specs.Kind.{KindData, Slots, recs, is_listed, slot_at}
use Rattle.pb_semantics.specs.Signature.{ModuleData, is_shape, is_failure_shape, are_free, is_certain_boolean, is_certain_text, has_message}
use Rattle.pb_semantics.proofs.Bools.{and-left, and-right, and-both, neither-left, neither-right, untrue}
use Rattle.pb_language.specs.Cases.{are_plain, is_lawful_shape}
use Rattle.pb_language.specs.Judgement.{is_lawful}
use Rattle.pb_kind.specs.KindView.{slots_view}
use Rattle.pb_sig.specs.Drafts.{draft_view}
use Rattle.pb_sig.specs.Lawful.{IsLawful}
use Rattle.pb_sig.specs.ModuleView.{are_lawful_modules}
use Rattle.pb_sig.specs.Signatures.{are_lawful, keeps_laws, lists_any, result_fields}
use Rattle.pb_sig.specs.declared.draft.Draft.{Draft}
use Rattle.pb_sig.proofs.Plain.{free_slots}

is_false : (b : Bool) → not b ≡ true → b ≡ false
is_false true h = untrue h
is_false false h = refl

changed : (ss : Slots) → are_lawful ss ≡ true → is_certain_boolean (slot_at (codes "changed") ss) ≡ true
changed ss h = and-left (is_certain_boolean (slot_at (codes "changed") ss)) (not (lists_any result_fields ss)) h

none_listed : (ss : Slots) → are_lawful ss ≡ true → lists_any result_fields ss ≡ false
none_listed ss h = is_false (lists_any result_fields ss) (and-right (is_certain_boolean (slot_at (codes "changed") ss)) (not (lists_any result_fields ss)) h)

not_failed : (ss : Slots) → are_lawful ss ≡ true → is_listed (codes "failed") ss ≡ false
not_failed ss h = neither-left (is_listed (codes "failed") ss) _ (none_listed ss h)

not_skipped : (ss : Slots) → are_lawful ss ≡ true → is_listed (codes "skipped") ss ≡ false
not_skipped ss h = neither-left (is_listed (codes "skipped") ss) _ (neither-right (is_listed (codes "failed") ss) _ (none_listed ss h))

-- a lawful shape is a shape, and one of failures where `msg` is always there
pub is_shape-lawful : (k : KindData) → is_lawful_shape k ≡ true → is_shape k ≡ true
is_shape-lawful (recs ss) h =
    let certain = is_certain_boolean (slot_at (codes "changed") ss) in
    let unfailed = not (is_listed (codes "failed") ss) in
    let unskipped = not (is_listed (codes "skipped") ss) in
    let rest = and-right (are_plain ss) (certain && (unfailed && unskipped)) h in
    let free = free_slots ss (and-left (are_plain ss) (certain && (unfailed && unskipped)) h) in
    and-both (are_free ss) (certain && unfailed) free
    (and-both certain unfailed (and-left certain (unfailed && unskipped) rest) (and-left unfailed unskipped (and-right certain (unfailed && unskipped) rest)))
is_shape-lawful k h = h

pub is_failure_shape-lawful : (k : KindData) → is_lawful_shape k ≡ true → has_message k ≡ true → is_failure_shape k ≡ true
is_failure_shape-lawful k h g = and-both (is_shape k) (has_message k) (is_shape-lawful k h) g

lawful_shape : (ss : Slots) → are_plain ss ≡ true → are_lawful ss ≡ true → is_lawful_shape (recs ss) ≡ true
lawful_shape ss p h =
    and-both (are_plain ss) _ p (and-both (is_certain_boolean (slot_at (codes "changed") ss)) _ (changed ss h)
    (and-both (not (is_listed (codes "failed") ss)) _ (ap not (not_failed ss h)) (ap not (not_skipped ss h))))

-- a draft that keeps the laws makes a module that does
pub IsLawful-draft : (m : Draft) (ok failure : KindData) → ok ≡ recs (slots_view m.ok.entries) → failure ≡ recs (slots_view m.failure.entries) → keeps_laws (draft_view m) ≡ true → IsLawful ok failure
IsLawful-draft m ok failure fine bad laws =
    let ss = slots_view m.ok.entries in
    let ts = slots_view m.failure.entries in
    let plain_ok = and-left (are_plain ss) (are_plain ts) m.plain in
    let plain_failure = and-right (are_plain ss) (are_plain ts) m.plain in
    let lawful_ok = and-left (are_lawful ss) _ laws in
    let rest = and-right (are_lawful ss) (are_lawful ts && is_certain_text (slot_at (codes "msg") ts)) laws in
    let lawful_failure = and-left (are_lawful ts) _ rest in
    let message = and-right (are_lawful ts) (is_certain_text (slot_at (codes "msg") ts)) rest in record {
      lawful = ap (λ k. is_lawful_shape k && is_lawful_shape failure) fine ∙ ap (λ k. is_lawful_shape (recs ss) && is_lawful_shape k) bad
          ∙ and-both (is_lawful_shape (recs ss)) (is_lawful_shape (recs ts)) (lawful_shape ss plain_ok lawful_ok) (lawful_shape ts plain_failure lawful_failure);
      message = ap has_message bad ∙ message;
    }

pub are_lawful_modules-append : (ms ns : List ModuleData) → are_lawful_modules ms ≡ true → are_lawful_modules ns ≡ true → are_lawful_modules (ms ++ ns) ≡ true
are_lawful_modules-append [] ns h g = g
are_lawful_modules-append (m ∷ ms) ns h g =
    and-both (is_lawful m) (are_lawful_modules (ms ++ ns)) (and-left (is_lawful m) (are_lawful_modules ms) h) (are_lawful_modules-append ms ns (and-right (is_lawful m) (are_lawful_modules ms) h) g)
