-- Records with a field that is put in, and the cases that a result keeps with its final statuses.
use Rattle.std.proofs.Common.{◌≡◌, Bool, true, false, ◌&&◌, ◌||◌, cond, bytes_eq, Option, Some, None, codes, ⊎_elim, refl, sym, ap, ◌∙◌, true≢false}
use Rattle.std.specs.Ordering.{nat_cmp, match_ordering}
use Rattle.std.specs.declared.cmp.Ordering.{Ordering}
use Rattle.std.specs.declared.cmp.Ordering.TheVariants.{Less, Equal, Greater}
use Rattle.std.specs.Cmp.Lexicographic.{slice_cmp}
use Rattle.pb_semantics.specs.Data.{Data, Fields, boolean, rec, no_fields, field, field_value, put_field}
use Rattle.pb_semantics.specs.Kind.{KindData, Slots, Cases, Shape, Spot, booleans, recs, no_cases, one, nowhere, spot, slot_at, ok_shape, failure_shape, skipped_shape, is_skipped}
use Rattle.pb_semantics.specs.Keeps.{keeps, cases_kept, has_status, flag_is, spot_ok, Models}
use Rattle.pb_semantics.specs.Join.{append_cases}
use Rattle.pb_semantics.specs.Signature.{is_certain_boolean}
use Rattle.pb_semantics.specs.Well.{are_once}
use Rattle.pb_semantics.proofs.Bools.{untrue, and-left, and-right, and-both, or-left, or-right, or-cases}
use Rattle.pb_semantics.proofs.Names.{same_name, same_flag, own_flag}
use Rattle.pb_semantics.proofs.PutSlots.{equal_name, greater_name}
use Rattle.pb_language.specs.Expression.{Name}
use Rattle.pb_language.specs.Scope.{with_slot, with_spot}
use Rattle.pb_language.specs.Narrow.{cases_with}
use Rattle.pb_language.specs.Cases.{ended_kind, either_status, perhaps_failed}
use Rattle.pb_language.specs.Judgement.{has_case}
use Rattle.pb_language.proofs.WithSlot.{at_with, once_with, record_models, models_kept, swapped, twice}
use Rattle.pb_language.proofs.Taught.{failed_flag, left_one, later_one}

-- a field that is put in
at_put_step : (o : Ordering) (p n m : Name) (d e : Data) (fs gs : Fields) → slice_cmp nat_cmp n m ≡ o → field_value p gs ≡ cond (bytes_eq p n) (Some d) (field_value p fs)
    → field_value p (match_ordering o (field n d (field m e fs)) (field m d fs) (field m e gs)) ≡ cond (bytes_eq p n) (Some d) (cond (bytes_eq p m) (Some e) (field_value p fs))
at_put_step Less p n m d e fs gs c h = refl
at_put_step Equal p n m d e fs gs c h = rw (equal_name n m c) (twice (bytes_eq p m) (Some d) (Some e) (field_value p fs))
at_put_step Greater p n m d e fs gs c h =
    rw h (swapped (bytes_eq p m) (bytes_eq p n) (Some e) (Some d) (field_value p fs) (λ x y. greater_name n m c (sym (same_name p n y) ∙ same_name p m x)))

pub at_put_field : (p n : Name) (d : Data) (fs : Fields) → field_value p (put_field n d fs) ≡ cond (bytes_eq p n) (Some d) (field_value p fs)
at_put_field p n d no_fields = refl
at_put_field p n d (field m e fs) = at_put_step (slice_cmp nat_cmp n m) p n m d e fs (put_field n d fs) refl (at_put_field p n d fs)

put_ok : (q : Bool) (p n : Name) (d : Data) (o : Option Data) (ss : Slots) → bytes_eq p n ≡ q → spot_ok (Some d) (slot_at n ss) ≡ true → spot_ok o (slot_at p ss) ≡ true → spot_ok (cond q (Some d) o) (slot_at p ss) ≡ true
put_ok true p n d o ss e h later = rw (same_name p n e) h
put_ok false p n d o ss e h later = later

-- a value that is put where it may stand
pub models_put : (n : Name) (d : Data) (fs : Fields) (ss : Slots) → Models fs ss → spot_ok (Some d) (slot_at n ss) ≡ true → Models (put_field n d fs) ss
models_put n d fs ss m h = record { at = λ p. rw (at_put_field p n d fs) (put_ok (bytes_eq p n) p n d (field_value p fs) ss refl h (m.at p)) }

both_ok : (q : Bool) (d : Data) (o : Option Data) (s t : Spot) → spot_ok (Some d) s ≡ true → spot_ok o t ≡ true → spot_ok (cond q (Some d) o) (cond q s t) ≡ true
both_ok true d o s t h i = h
both_ok false d o s t h i = i

-- and where it is known of then
pub models_put_with : (n : Name) (d : Data) (fs : Fields) (s : Spot) (ss : Slots) → Models fs ss → spot_ok (Some d) s ≡ true → Models (put_field n d fs) (with_spot n s ss)
models_put_with n d fs nowhere ss m h = untrue h
models_put_with n d fs (spot a k) ss m h = record { at = λ p. rw (at_put_field p n d fs, at_with p n a k ss) (both_ok (bytes_eq p n) d (field_value p fs) (spot a k) (slot_at p ss) h (m.at p)) }

pub kept_put : (n : Name) (d : Data) (fs : Fields) (ss : Slots) → are_once ss ≡ true → keeps (rec fs) (recs ss) ≡ true → spot_ok (Some d) (slot_at n ss) ≡ true → keeps (rec (put_field n d fs)) (recs ss) ≡ true
kept_put n d fs ss o h i = models_kept (put_field n d fs) ss o (models_put n d fs ss (record_models fs ss h) i)

pub kept_put_with : (n : Name) (d : Data) (fs : Fields) (k : KindData) (ss : Slots) → are_once ss ≡ true → keeps (rec fs) (recs ss) ≡ true → keeps d k ≡ true → keeps (rec (put_field n d fs)) (recs (with_slot n true k ss)) ≡ true
kept_put_with n d fs k ss o h i = models_kept (put_field n d fs) (with_slot n true k ss) (once_with n true k ss o) (models_put_with n d fs (spot true k) ss (record_models fs ss h) i)

-- the final statuses
abbrev pub ended_fields : Bool → Bool → Fields → Fields
ended_fields c f fs = put_field (codes "failed") (boolean f) (put_field (codes "changed") (boolean c) fs)

pub failed_field : (f : Bool) (fs : Fields) → field_value (codes "failed") (put_field (codes "failed") (boolean f) fs) ≡ Some (boolean f)
failed_field f fs = at_put_field (codes "failed") (codes "failed") (boolean f) fs

-- a record of the kind stays one with either status
abbrev pub Ends : KindData → Type 0
Ends k = (fs : Fields) (c f : Bool) → keeps (rec fs) k ≡ true → keeps (rec (ended_fields c f fs)) k ≡ true

certain_boolean : (s : Spot) (b : Bool) → is_certain_boolean s ≡ true → spot_ok (Some (boolean b)) s ≡ true
certain_boolean (spot true booleans) b h = refl
certain_boolean (spot true k) b h = untrue h
certain_boolean (spot false k) b h = untrue h
certain_boolean nowhere b h = untrue h

pub ends_kind : (ss : Slots) → are_once ss ≡ true → is_certain_boolean (slot_at (codes "changed") ss) ≡ true → Ends (ended_kind ss)
ends_kind ss o h fs c f i =
    let us = with_slot (codes "failed") true booleans ss in
    let once = once_with (codes "failed") true booleans ss o in
    kept_put (codes "failed") (boolean f) (put_field (codes "changed") (boolean c) fs) us once
    (kept_put (codes "changed") (boolean c) fs us once i (rw (at_with (codes "changed") (codes "failed") true booleans ss) (certain_boolean (slot_at (codes "changed") ss) c h)))
    (rw (at_with (codes "failed") (codes "failed") true booleans ss) refl)

abbrev pub EndsEach : Cases → Type 0
EndsEach no_cases = Unit {0}
EndsEach (one m sh fl k cs) = (is_skipped sh ≡ false) × Ends k × EndsEach cs

has_ended : (sh : Shape) (f : Bool) (fs : Fields) → is_skipped sh ≡ false → field_value (codes "failed") fs ≡ Some (boolean f) → has_status sh f fs ≡ true
has_ended ok_shape f fs h e = rw e (own_flag f)
has_ended failure_shape f fs h e = rw e (own_flag f)
has_ended skipped_shape f fs h e = absurd (true≢false h)

either_one : (f : Bool) (m : Name) (sh : Shape) (k : KindData) (fs : Fields) (cs : Cases) → has_status sh f fs ≡ true → keeps (rec fs) k ≡ true → cases_kept fs (one m sh false k (one m sh true k cs)) ≡ true
either_one false m sh k fs cs h i = or-left (has_status sh false fs && keeps (rec fs) k) _ (and-both (has_status sh false fs) (keeps (rec fs) k) h i)
either_one true m sh k fs cs h i =
    let here = has_status sh true fs && keeps (rec fs) k in
    or-right (has_status sh false fs && keeps (rec fs) k) (here || cases_kept fs cs) (or-left here (cases_kept fs cs) (and-both (has_status sh true fs) (keeps (rec fs) k) h i))

later_either : (m : Name) (sh : Shape) (k : KindData) (fs : Fields) (cs : Cases) → cases_kept fs cs ≡ true → cases_kept fs (one m sh false k (one m sh true k cs)) ≡ true
later_either m sh k fs cs h =
    let here = has_status sh true fs && keeps (rec fs) k in
    or-right (has_status sh false fs && keeps (rec fs) k) (here || cases_kept fs cs) (or-right here (cases_kept fs cs) h)

-- either status is one of the cases
pub ends_either : (cs : Cases) (fs : Fields) (c f : Bool) → EndsEach cs → cases_kept fs cs ≡ true → cases_kept (ended_fields c f fs) (either_status cs) ≡ true
ends_either no_cases fs c f w h = untrue h
ends_either (one m sh fl k cs) fs c f w h =
    let gs = ended_fields c f fs in
    ⊎_elim (λ x. either_one f m sh k gs (either_status cs) (has_ended sh f gs w.0 (failed_field f (put_field (codes "changed") (boolean c) fs))) (w.1 fs c f (and-right (has_status sh fl fs) (keeps (rec fs) k) x)))
    (λ y. later_either m sh k gs (either_status cs) (ends_either cs fs c f w.2 y)) (or-cases (has_status sh fl fs && keeps (rec fs) k) (cases_kept fs cs) h)

pub flag_same : (fl : Bool) (o : Option Data) → flag_is fl o ≡ true → fl ≡ flag_is true o
flag_same fl None h = untrue h
flag_same fl (Some (boolean c)) h = same_flag fl c h
flag_same fl (Some d) h = untrue h

-- the status that it has stays its case's
pub ends_own : (cs : Cases) (fs : Fields) (c f : Bool) → f ≡ flag_is true (field_value (codes "failed") fs) → EndsEach cs → cases_kept fs cs ≡ true → cases_kept (ended_fields c f fs) cs ≡ true
ends_own no_cases fs c f e w h = untrue h
ends_own (one m sh fl k cs) fs c f e w h =
    let gs = ended_fields c f fs in
    let status = has_status sh fl fs in
    ⊎_elim (λ x.
    let same : f ≡ fl = e ∙ sym (flag_same fl (field_value (codes "failed") fs) (failed_flag sh fl fs (and-left status (keeps (rec fs) k) x))) in
    or-left (has_status sh fl gs && keeps (rec gs) k) (cases_kept gs cs)
    (and-both (has_status sh fl gs) (keeps (rec gs) k) (has_ended sh fl gs w.0 (failed_field f (put_field (codes "changed") (boolean c) fs) ∙ ap (λ b. Some (boolean b)) same)) (w.1 fs c f (and-right status (keeps (rec fs) k) x))))
    (λ y. or-right (has_status sh fl gs && keeps (rec gs) k) (cases_kept gs cs) (ends_own cs fs c f e w.2 y)) (or-cases (status && keeps (rec fs) k) (cases_kept fs cs) h)

pub ends_each_either : (cs : Cases) → EndsEach cs → EndsEach (either_status cs)
ends_each_either no_cases w = tt
ends_each_either (one m sh fl k cs) w = (w.0, w.1, (w.0, w.1, ends_each_either cs w.2))

-- a result that may be that of a last attempt
pub still_kept : (cs : Cases) (fs : Fields) → cases_kept fs cs ≡ true → cases_kept fs (perhaps_failed cs) ≡ true
still_kept no_cases fs h = h
still_kept (one m sh true k cs) fs h =
    let here = has_status sh true fs && keeps (rec fs) k in
    let rest = cases_kept fs (perhaps_failed cs) in
    ⊎_elim (λ x. or-left here rest x) (λ y. or-right here rest (still_kept cs fs y)) (or-cases here (cases_kept fs cs) h)
still_kept (one m sh false k cs) fs h =
    let here = has_status sh false fs && keeps (rec fs) k in
    ⊎_elim (λ x. or-left here _ x) (λ y. later_either m sh k fs (perhaps_failed cs) (still_kept cs fs y)) (or-cases here (cases_kept fs cs) h)

-- and one that is
pub last_kept : (cs : Cases) (fs : Fields) (c : Bool) → EndsEach cs → cases_kept fs cs ≡ true → cases_kept (ended_fields c true fs) (perhaps_failed cs) ≡ true
last_kept no_cases fs c w h = untrue h
last_kept (one m sh true k cs) fs c w h =
    let gs = ended_fields c true fs in
    let here = has_status sh true gs && keeps (rec gs) k in
    let rest = cases_kept gs (perhaps_failed cs) in
    ⊎_elim (λ x. or-left here rest (and-both (has_status sh true gs) (keeps (rec gs) k) (has_ended sh true gs w.0 (failed_field true (put_field (codes "changed") (boolean c) fs))) (w.1 fs c true (and-right (has_status sh true fs) (keeps (rec fs) k) x))))
    (λ y. or-right here rest (last_kept cs fs c w.2 y)) (or-cases (has_status sh true fs && keeps (rec fs) k) (cases_kept fs cs) h)
last_kept (one m sh false k cs) fs c w h =
    let gs = ended_fields c true fs in
    ⊎_elim (λ x. either_one true m sh k gs (perhaps_failed cs) (has_ended sh true gs w.0 (failed_field true (put_field (codes "changed") (boolean c) fs))) (w.1 fs c true (and-right (has_status sh false fs) (keeps (rec fs) k) x)))
    (λ y. later_either m sh k gs (perhaps_failed cs) (last_kept cs fs c w.2 y)) (or-cases (has_status sh false fs && keeps (rec fs) k) (cases_kept fs cs) h)

-- cases
pub kept_left : (fs : Fields) (cs ds : Cases) → cases_kept fs cs ≡ true → cases_kept fs (append_cases cs ds) ≡ true
kept_left fs no_cases ds h = untrue h
kept_left fs (one m sh fl k cs) ds h =
    let here = has_status sh fl fs && keeps (rec fs) k in
    let rest = cases_kept fs (append_cases cs ds) in
    ⊎_elim (λ x. or-left here rest x) (λ y. or-right here rest (kept_left fs cs ds y)) (or-cases here (cases_kept fs cs) h)

pub kept_right : (fs : Fields) (cs ds : Cases) → cases_kept fs ds ≡ true → cases_kept fs (append_cases cs ds) ≡ true
kept_right fs no_cases ds h = h
kept_right fs (one m sh fl k cs) ds h = or-right (has_status sh fl fs && keeps (rec fs) k) (cases_kept fs (append_cases cs ds)) (kept_right fs cs ds h)

-- those with its own failed status
pub kept_status : (f : Bool → Bool) (b : Bool) (fs : Fields) (cs : Cases) → f b ≡ true → field_value (codes "failed") fs ≡ Some (boolean b) → cases_kept fs cs ≡ true → cases_kept fs (cases_with (λ sh fl k. f fl) cs) ≡ true
kept_status f b fs no_cases i e h = h
kept_status f b fs (one m sh fl k cs) i e h =
    let status = has_status sh fl fs in
    ⊎_elim (λ x.
    let flag : flag_is fl (Some (boolean b)) ≡ true = rw e at (failed_flag sh fl fs (and-left status (keeps (rec fs) k) x)) in
    left_one (f fl) m sh fl k fs (cases_with (λ sh fl k. f fl) cs) (ap f (same_flag fl b flag) ∙ i) x)
    (λ y. later_one (f fl) m sh fl k fs (cases_with (λ sh fl k. f fl) cs) (kept_status f b fs cs i e y)) (or-cases (status && keeps (rec fs) k) (cases_kept fs cs) h)

pub kept_has : (fs : Fields) (cs : Cases) → cases_kept fs cs ≡ true → has_case cs ≡ true
kept_has fs no_cases h = h
kept_has fs (one m sh fl k cs) h = refl
