-- The tasks of nodes where they stand, one more at a time.
use Rattle.std.proofs.Common.{◌≡◌, ◌∙◌, ℕ, ◌+◌, ◌<◌, Result, Ok, Err, IfOk, List, [], ◌∷◌, ◌++◌, get_or, length, map, take, sym, ap}
use Rattle.std.proofs.lemmas.List.{map-append, map_more}
use Rattle.pb_language.specs.Task.{Task}
use Rattle.pb_flow.specs.declared.graph.Node.{Node}
use Rattle.pb_route.specs.Station.{station_task}
use Rattle.pb_route.specs.declared.station.Station.{Station}

pub if-ok : {A E : Type 0} (r : Result A E) (P Q : A → Type 0) → IfOk r P → ((a : A) → P a → Q a) → IfOk r Q
if-ok (Ok a) P Q p f = f a p
if-ok (Err e) P Q p f = tt

pub more-stations : (f : Node → Task) (ss ts : List Station) (s : Station) (ns : List Node) (i : ℕ) (n : Node) → ts ≡ ss ++ s ∷ [] → i < length ns → n ≡ get_or ns i n → map station_task ss ≡ map f (take i ns) → station_task s ≡ f n
    → map station_task ts ≡ map f (take (i + 1) ns)
more-stations f ss ts s ns i n more lt is before same =
    ap (map station_task) more ∙ map-append station_task ss (s ∷ []) ∙ ap (λ xs. xs ++ station_task s ∷ []) before
    ∙ ap (λ t. map f (take i ns) ++ t ∷ []) (same ∙ ap f is) ∙ sym (map_more f ns i n lt)
