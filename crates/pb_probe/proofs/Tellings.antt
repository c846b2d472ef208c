-- What is told of hosts, of groups and of their names, one more at a time.
use Rattle.std.proofs.Common.{◌≡◌, ◌∙◌, ◌<◌, ◌+◌, ◌++◌, ◌∷◌, [], ℕ, zero, suc, List, Option, Some, None, Result, true, get_or, length, map, nat_lt, option_map, slice_get, take, refl, sym, ap, arith}
use Rattle.std.proofs.lemmas.Bool.{ltb-true}
use Rattle.std.proofs.lemmas.List.{map_push, take_more}
use Rattle.std.proofs.lemmas.Option.{get_or_from_slice_get, slice_get-get_or, slice_get-map}
use Rattle.std.specs.List.{list_all}
use Rattle.pb_semantics.specs.Data.{Data, Fields, item, no_fields, rec, text}
use Rattle.pb_semantics.specs.Gives.{FaultGives}
use Rattle.pb_semantics.proofs.Bools.{and-left, and-right}
use Rattle.pb_language.specs.Expression.{Name}
use Rattle.pb_language.specs.Program.{Inventory}
use Rattle.pb_language.specs.Setting.{names_list}
use Rattle.pb_language.specs.World.{HostVariables}
use Rattle.pb_value.specs.View.{items_of}
use Rattle.pb_inventory.specs.Words.{FileOffence}
use Rattle.pb_probe.specs.Told.{told_of}

-- the list of names, each in something of its own
pub items_of-names : {X : Type 0} (f : X → Name) (xs : List X) → items_of (map (λ x. text (f x)) xs) ≡ names_list (map f xs)
items_of-names f [] = refl
items_of-names f (x ∷ xs) = ap (item (text (f x))) (items_of-names f xs)

-- each of the places is below the limit
pub placed-at : (limit : ℕ) (ps : List ℕ) (k d : ℕ) → list_all (λ i. nat_lt i limit) ps ≡ true → k < length ps → get_or ps k d < limit
placed-at limit [] k d h lt = absurd (omega (arith, lt))
placed-at limit (p ∷ ps) zero d h lt = ltb-true p limit (and-left (nat_lt p limit) (list_all (λ i. nat_lt i limit) ps) h)
placed-at limit (p ∷ ps) (suc k) d h lt = placed-at limit ps k d (and-right (nat_lt p limit) (list_all (λ i. nat_lt i limit) ps) h) (omega (arith, lt))

-- the name of the host at a place
pub named-at : (hs : List HostVariables) (i : ℕ) (n : Name) → option_map (λ (h : HostVariables). h.name) (slice_get hs i) ≡ Some n → get_or (map (λ (h : HostVariables). h.name) hs) i [] ≡ n
named-at hs i n e = get_or_from_slice_get (map (λ (h : HostVariables). h.name) hs) i n [] (slice_get-map (λ (h : HostVariables). h.name) hs i ∙ e)

-- one more host is told
pub told-more : (f : HostVariables → Fields) (hs : List HostVariables) (i : ℕ) (fs : Fields) → i < length hs → option_map f (slice_get hs i) ≡ Some fs
    → map (λ h. rec (f h)) (take (i + 1) hs) ≡ map (λ h. rec (f h)) (take i hs) ++ rec fs ∷ []
told-more f hs i fs lt e =
    let d : HostVariables = record { name = []; variables = no_fields } in
    let x : HostVariables = get_or hs i d in
    let g : HostVariables → Data = λ h. rec (f h) in
    let same : Some (f x) ≡ Some fs = ap (option_map f) (sym (slice_get-get_or hs i d lt)) ∙ e in
    let own : f x ≡ fs = cc in
    ap (map g) (take_more hs i d lt) ∙ map_push g (take i hs) x ∙ ap (λ ys. map g (take i hs) ++ rec ys ∷ []) own

-- what is told of a fault is what is told of the text that has it
pub fault-told : (o : Option (Result Inventory FileOffence)) (d : Result Inventory FileOffence) (fs : Fields) → FaultGives o d → option_map told_of o ≡ Some fs → fs ≡ told_of d
fault-told None d fs gives e = absurd (cc)
fault-told (Some x) d fs gives e =
    let own : told_of x ≡ fs = cc in
    sym own ∙ ap told_of (sym gives)
