-- What the admitted results of a task's items stand for.
use Rattle.std.specs.Prelude.{◌≡◌, List, [], ◌∷◌, map, Bool, true, false, Option, Some, None}
use Rattle.std.specs.Prelude.{option_map, string_bytes, codes}
use Rattle.pb_semantics.specs.Data.{Data, Fields, boolean, put_field}
use Rattle.pb_semantics.specs.Kind.{Shape}
use Rattle.pb_language.specs.Give as language
use Rattle.pb_language.specs.Give.{admitted, breached, unreached, with_own, admit_entry}
use Rattle.pb_language.specs.Give.{admit_answer}
use Rattle.pb_language.specs.Start as started
use Rattle.pb_language.specs.Start.{Changes, no_changes, change, all_changes, unchanged, calls}
use Rattle.pb_language.specs.Task.{Action}
use Rattle.pb_kind.specs.KindView.{shape_view}
use Rattle.pb_value.specs.View.{view}
use Rattle.pb_start.specs.Blocks.{block_fields}
use Rattle.pb_finish.specs.Answers.{IsFaultOf, first_of, other_answers}
use Rattle.pb_finish.specs.Breaches.{IsFirstBreach}
use Rattle.pb_finish.specs.declared.answer.Answer.{Answer}
use Rattle.pb_finish.specs.declared.assignments.Assignment.{Assignment}
use Rattle.pb_finish.specs.declared.assignments.Assignments.{Assignments}
use Rattle.pb_finish.specs.declared.assignments.Assignments.TheVariants as assigns
use Rattle.pb_finish.specs.declared.admission.Admitted.{Admitted}
use Rattle.pb_finish.specs.declared.admission.Admitted.TheVariants as admission
use Rattle.pb_finish.specs.declared.admission.AdmittedItem.{AdmittedItem}
use Rattle.pb_finish.specs.declared.admission.AdmittedItem.TheVariants as items
use Rattle.pb_finish.specs.declared.admission.ItemResult.{ItemResult}

-- what is set name by name; one with no value stays as it was
abbrev pub changes_view : List Assignment → Changes
changes_view [] = no_changes
changes_view (a ∷ more) =
    change (string_bytes a.name) (option_map view a.value) (changes_view more)

abbrev pub assignments_view : Assignments → Changes
assignments_view assigns.Nothing = no_changes
assignments_view (assigns.Facts fs) = all_changes (block_fields fs)
assignments_view (assigns.Gathered facts) = changes_view facts.items

-- the fields of an action that isn't failed
abbrev pub acted_fields : Fields
acted_fields = put_field (codes "failed") (boolean false) unchanged

abbrev pub own_with : Option Data → Shape → Fields → Changes → language.Own
own_with o sh fs gs = record { item = o; shape = sh; fields = fs; sets = gs }

abbrev pub result_view : ItemResult → language.Own
result_view r = own_with (option_map view r.item) (shape_view r.shape) (block_fields r.fields)
    (assignments_view r.assigns)

abbrev pub admitted_view : Admitted → language.Admitted
admitted_view (admission.Results rs) = admitted (map result_view rs.items)
admitted_view (admission.Breached b) = breached
admitted_view admission.Unreached = unreached

-- what is made of one item, before the others
abbrev pub put_item : AdmittedItem → language.Admitted → language.Admitted
put_item (items.Result r) a = with_own (result_view r) a
put_item (items.Breached q) a = breached
put_item items.Unreached a = unreached

-- a result, or a breach, before the others
abbrev pub put_result : Option ItemResult → language.Admitted → language.Admitted
put_result None a = breached
put_result (Some r) a = with_own (result_view r) a

abbrev pub is_call_entry : started.Entry → Bool
is_call_entry (calls d) = true
is_call_entry e = false

abbrev pub answers_after : Bool → List language.Answer → List language.Answer
answers_after true xs = other_answers xs
answers_after false xs = xs

-- this is made of a call where its answer is this one
abbrev pub IsCallAdmitted : AdmittedItem → Action → Option Data → Option language.Answer → Type 0
IsCallAdmitted k a i o = (go : List language.Answer → language.Admitted)
    (xs : List language.Answer) → first_of xs ≡ o
    → admit_answer i a xs (λ own ys. with_own own (go ys)) ≡ put_item k (go (other_answers xs))

-- this is made of a pass where the next answer is this one
abbrev pub IsAdmitted : AdmittedItem → Action → started.Pass → Option language.Answer → Type 0
IsAdmitted k a p o = (go : List language.Answer → language.Admitted) (xs : List language.Answer)
    → first_of xs ≡ o → admit_entry a p.item p.entry go xs
    ≡ put_item k (go (answers_after (is_call_entry p.entry) xs))

-- a breach tells what is wrong with this answer
abbrev pub Explains : AdmittedItem → Option Answer → Type 0
Explains (items.Breached q) o = IsFaultOf q o
Explains k o = Unit {0}

-- a breach is the first
abbrev pub AllExplained : Admitted → Action → List started.Pass → List Answer → Type 0
AllExplained (admission.Breached b) a ps xs = IsFirstBreach a ps xs b
AllExplained k a ps xs = Unit {0}
