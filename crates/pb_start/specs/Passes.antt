-- What a Start finds, beside the definitions' plan.
use Rattle.std.specs.Prelude.{◌≡◌, List, [], ◌∷◌, ◌++◌, Bool, true, false, map, option_map}
use Rattle.pb_semantics.specs.Data.{Data}
use Rattle.pb_semantics.specs.Kind.{Shape, ok_shape, failure_shape}
use Rattle.pb_language.specs.Evaluation.{Outcome, value}
use Rattle.pb_language.specs.Start as language
use Rattle.pb_language.specs.Start.{Plan, planned, Made, made, skips, calls, acts, no_changes}
use Rattle.pb_language.specs.Start.{all_changes, unchanged, unchanged_with}
use Rattle.pb_value.specs.View.{view, fields_view}
use Rattle.pb_start.specs.declared.passes.Entry.{Entry}
use Rattle.pb_start.specs.declared.passes.Entry.TheVariants as entries
use Rattle.pb_start.specs.declared.passes.Pass.{Pass}

abbrev pub shape_of : Bool → Shape
shape_of true = failure_shape
shape_of false = ok_shape

abbrev pub entry_view : Entry → language.Entry
entry_view entries.Skips = skips
entry_view (entries.Calls v) = calls (view v)
entry_view entries.Shows = acts ok_shape unchanged no_changes
entry_view (entries.Sets fs) =
    acts ok_shape unchanged (all_changes (fields_view fs.value.parts.entries))
entry_view (entries.Says f m) = acts (shape_of f) (unchanged_with (view m)) no_changes

abbrev pub pass_view : Pass → language.Pass
pass_view p = record { item = option_map view p.item; entry = entry_view p.entry }

-- where something is made, it is this
abbrev pub IsMade : Entry → Made → Type 0
IsMade e m = (x : language.Entry) → m ≡ made x → entry_view e ≡ x

-- where the outcome has a value, it is this
abbrev pub IsValue : Data → Outcome → Type 0
IsValue d o = (x : Data) → o ≡ value x → d ≡ x

-- where there is a plan, it has these passes
abbrev pub ArePlanned : List Pass → Plan → Type 0
ArePlanned ps plan = (qs : List language.Pass) → plan ≡ planned qs → map pass_view ps ≡ qs

-- the arguments of a call, alone
abbrev pub entry_arguments : language.Entry → List Data
entry_arguments (calls d) = d ∷ []
entry_arguments e = []

-- of all calls of the passes
abbrev pub call_arguments : List language.Pass → List Data
call_arguments [] = []
call_arguments (p ∷ ps) = entry_arguments p.entry ++ call_arguments ps
