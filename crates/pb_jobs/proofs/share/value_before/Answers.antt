use Rattle.std.proofs.Common.{◌≡◌, ◌∙◌, true, [], length, sym, ap, refl}
use Rattle.std.proofs.lemmas.Option.{slice_get_read}
use Rattle.pb_semantics.specs.Data.{Data, Fields, null, field, no_fields}
use Rattle.pb_semantics.specs.Equal.{data_eq}
use Rattle.pb_semantics.proofs.Bools.{and-both}
use Rattle.pb_value.specs.View.{view}
use Rattle.pb_finish.proofs.SameFields.{same-fields}
use Rattle.pb_jobs.proofs.share.value_before.Goals as goal

abbrev value_in : Fields → Data
value_in no_fields = null
value_in (field n d fs) = d

-- values that the test of equality calls the same are the same
same : (d e : Data) → data_eq d e ≡ true → d ≡ e
same d e h = ap value_in (same-fields (field [] d no_fields) (field [] e no_fields) (and-both (data_eq d e) true h refl))

pub returns-in_ok-clone-in-Some-get : goal.returns-in_ok-clone-in-Some-get
returns-in_ok-clone-in-Some-get c =
    let ws = c.args.values.now in
    let w = c.in-Some.field-0.now in
    let first = c.in-Some.ensures.item in
    let equal : data_eq (view c.in-Some-get.earlier.now) (view w.1) ≡ true = sym c.equal.ensures ∙ c.if-equal.true in
    (w, slice_get_read ws (length ws) 0 w refl first.3.0 first.1, c.in_ok-clone-in-Some-get.ensures.cases ∙ same (view c.in-Some-get.earlier.now) (view w.1) equal)
