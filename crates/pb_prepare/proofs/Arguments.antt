-- Arguments in the order of their names.
use Rattle.std.proofs.Common.{◌≡◌, ◌∙◌, ℕ, ◌+◌, ◌<◌, List, [], ◌∷◌, ◌++◌, length, get_or, take, drop, map, true, cond, Option, String, Global, Ordering, Less, Equal, Greater, string_bytes, string_cmp, refl, sym, ap, subst}
use Rattle.std.specs.BTreeMap.{insert_entry}
use Rattle.std.proofs.lemmas.List.{map-append, take_more, take-append-drop}
use Rattle.std.specs.List.Sorted.{IsStrictlySortedBy}
use Rattle.std.specs.Ordering.{is_lt}
use Rattle.pb_semantics.proofs.Bools.{and-left, and-right}
use Rattle.pb_semantics.specs.Signature.{ModuleData}
use Rattle.pb_semantics.proofs.Names.{own_name}
use Rattle.pb_language.specs.Expansion.{parts_expanded}
use Rattle.std.specs.declared.sync.Arc.{Arc}
use Rattle.pb_language.specs.Expression.{Expression, Name, Parts}
use Rattle.pb_language.specs.Plays.{action_of, module_named}
use Rattle.pb_language.specs.Rules.{part_names}
use Rattle.pb_syntax.specs.ExprView.{expr_view, parts_view}
use Rattle.pb_syntax.specs.declared.expr.Expr.{Expr}
use Rattle.pb_syntax.proofs.Ascending.{Above, Ascending}
use Rattle.pb_syntax.proofs.Bound.{inserted-last, map-pushed, names_in, parts-pushed}
use Rattle.pb_syntax.proofs.Left.{drop-at}
use Rattle.pb_language.specs.Task.{call_of, set_fact}
use Rattle.pb_route.specs.Station.{lone_registry}
use Rattle.pb_sig.specs.ModuleView.{known_view}
use Rattle.pb_sig.specs.declared.registry.Known.{Known}
use Rattle.pb_task.specs.Tasks.{work_view}
use Rattle.pb_task.specs.declared.task.Work.{Work}
use Rattle.pb_task.specs.declared.task.Work.TheVariants.{Module, SetFact}
use Rattle.pb_prepare.specs.Order.{has_order}
use Rattle.pb_template.specs.Entries.{are_ascending, entry_names, is_below, entries_view}
use Rattle.pb_template.specs.declared.entry.Entry.{Entry}

-- the arguments as the entries of a map
abbrev pub argument_entries : List Entry → List (String Global × Expr)
argument_entries xs = map (λ a. (a.name.value, a.value)) xs

pub parts_of-arguments : (xs : List Entry) → parts_view (argument_entries xs) ≡ entries_view xs
parts_of-arguments [] = refl
parts_of-arguments (a ∷ xs) = rw (parts_of-arguments xs) refl

less : (o : Ordering) → is_lt o ≡ true → o ≡ Less
less Less h = refl
less Equal h = cc
less Greater h = cc

above-below : (n : String Global) (xs : List Entry) → is_below (string_bytes n) (entry_names xs) ≡ true → Above n (argument_entries xs)
above-below n [] h = tt
above-below n (a ∷ xs) h =
    let here : is_lt (string_cmp n a.name.value) ≡ true = and-left _ (is_below (string_bytes n) (entry_names xs)) h in
    (less (string_cmp n a.name.value) here, above-below n xs (and-right (is_lt (string_cmp n a.name.value)) _ h))

-- they stand in a map's order
pub ascending-arguments : (xs : List Entry) → are_ascending (entry_names xs) ≡ true → Ascending (argument_entries xs)
unfolding IsStrictlySortedBy
ascending-arguments [] h = tt
ascending-arguments (a ∷ xs) h =
    (above-below a.name.value xs (and-left _ (are_ascending (entry_names xs)) h), ascending-arguments xs (and-right (is_below (string_bytes a.name.value) (entry_names xs)) _ h))

-- one argument more, bound, behind those that are bound
pub bound-next : (xs : List Entry) (i : ℕ) (a : Entry) (built new : List (String Global × Expr)) (k : String Global) (v : Expr) → i < length xs → a ≡ get_or xs i a → Ascending (argument_entries xs)
    → string_bytes k ≡ string_bytes a.name.value → expr_view v ≡ expr_view a.value → new ≡ insert_entry string_cmp built k v
    → names_in built ≡ names_in (argument_entries (take i xs)) → parts_view built ≡ parts_view (argument_entries (take i xs))
    → (names_in new ≡ names_in (argument_entries (take (i + 1) xs))) × (parts_view new ≡ parts_view (argument_entries (take (i + 1) xs)))
bound-next xs i a built new k v lt at asc name value put names parts =
    let done = argument_entries (take i xs) in
    let e : String Global × Expr = (a.name.value, a.value) in
    let more = argument_entries (drop (i + 1) xs) in
    let whole : argument_entries xs ≡ done ++ e ∷ more =
    ap argument_entries (sym (take-append-drop i xs)) ∙ map-append (λ (x : Entry). (x.name.value, x.value)) (take i xs) (drop i xs) ∙ ap (λ ys. done ++ argument_entries ys) (drop-at xs i a lt at) in
    let next : argument_entries (take (i + 1) xs) ≡ done ++ e ∷ [] =
    ap argument_entries (take_more xs i a lt ∙ ap (λ x. take i xs ++ x ∷ []) (sym at)) ∙ map-append (λ (x : Entry). (x.name.value, x.value)) (take i xs) (a ∷ []) in
    let last : new ≡ built ++ (k, v) ∷ [] = put ∙ inserted-last built done k v e more names name (subst Ascending whole asc) in (
      ap names_in last ∙ map-pushed (λ (x : String Global × Expr). string_bytes x.0) (λ (x : String Global × Expr). string_bytes x.0) built done (k, v) e names name ∙ ap names_in (sym next),
      ap parts_view last ∙ parts-pushed built done (k, v) e parts name value ∙ ap parts_view (sym next),
    )

-- a task's arguments keep their names when they are expanded
pub names-kept : (f : Name → Option Expression) (xs : List Entry) → part_names (parts_expanded f (entries_view xs)) ≡ entry_names xs
names-kept f [] = refl
names-kept f (x ∷ xs) = ap (λ ns. string_bytes x.name.value ∷ ns) (names-kept f xs)

-- a module is found under its name in the registry that has it alone
pub module-found : (m : ModuleData) → module_named m.name (m ∷ []) ≡ m
module-found m = ap (λ b. cond b m (module_named m.name [])) (own_name m.name)

module _ (f : Name → Option Expression) (xs : List Entry) (bound : Parts) (same : are_ascending (entry_names xs) ≡ true → bound ≡ entries_view xs) where
  ordered-same : are_ascending (part_names (parts_expanded f (entries_view xs))) ≡ true → parts_expanded f bound ≡ parts_expanded f (entries_view xs)
  ordered-same h = ap (parts_expanded f) (same (ap are_ascending (sym (names-kept f xs)) ∙ h))

  pub call-bound : (w : Work) (m : Arc Known Global) (d : ModuleData) → w ≡ Module m → d ≡ known_view m.value → has_order (action_of (lone_registry w) f (work_view w (entries_view xs))) ≡ true
      → call_of d (parts_expanded f bound) ≡ action_of (lone_registry w) f (work_view w (entries_view xs))
  call-bound w m d is known ordered =
      let h : are_ascending (part_names (parts_expanded f (entries_view xs))) ≡ true = ap (λ x. has_order (action_of (lone_registry x) f (work_view x (entries_view xs)))) (sym is) ∙ ordered in
      ap (call_of d) (ordered-same h) ∙ ap (λ k. call_of k (parts_expanded f (entries_view xs))) (known ∙ sym (module-found (known_view m.value))) ∙ ap (λ x. action_of (lone_registry x) f (work_view x (entries_view xs))) (sym is)

  pub set-bound : (w : Work) → w ≡ SetFact → has_order (action_of (lone_registry w) f (work_view w (entries_view xs))) ≡ true → set_fact (parts_expanded f bound) ≡ action_of (lone_registry w) f (work_view w (entries_view xs))
  set-bound w is ordered =
      let h : are_ascending (part_names (parts_expanded f (entries_view xs))) ≡ true = ap (λ x. has_order (action_of (lone_registry x) f (work_view x (entries_view xs)))) (sym is) ∙ ordered in
      ap set_fact (ordered-same h) ∙ ap (λ x. action_of (lone_registry x) f (work_view x (entries_view xs))) (sym is)
