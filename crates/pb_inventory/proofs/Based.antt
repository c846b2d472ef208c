-- What hosts have of the bases that their groups give them.
use Rattle.std.proofs.Common.{◌≡◌, ◌∙◌, ℕ, zero, suc, ◌+◌, ◌<◌, ◌≤◌, List, [], ◌∷◌, ◌++◌, Bool, true, get_or, length, map, option_map, slice_get, Some, String, Global, BTreeMap, sym, ap, ap₂, refl, subst, arith}
use Rattle.std.specs.Prelude.{◌&&◌, ◌==◌, nat_lt}
use Rattle.std.specs.Cmp.Lexicographic.{pointwise}
use Rattle.std.specs.List.{All}
use Rattle.std.specs.declared.sync.Arc.{Arc}
use Rattle.std.proofs.lemmas.Bool.Decides.{nat_tests}
use Rattle.std.proofs.lemmas.List.{get_or_append_left, length-append, length-map, map-append}
use Rattle.std.proofs.lemmas.List.Folds.{list_all-append}
use Rattle.std.proofs.lemmas.Option.{get_or_from_slice_get, slice_get-map, slice_get_within}
use Rattle.pb_semantics.specs.Data.{Fields}
use Rattle.std.proofs.lemmas.Bool.{eqb-true}
use Rattle.pb_semantics.proofs.Bools.{and-left, and-right, and-both, untrue}
use Rattle.pb_value.specs.View.{fields_view}
use Rattle.pb_inventory.specs.HostGroups.{layer_views}
use Rattle.pb_inventory.specs.Views.{AreBased, are_numbered, base_at, base_lists, kept_layers, laid, laid_layers, layered}
use Rattle.pb_inventory.specs.declared.bases.Base.{Base}
use Rattle.pb_inventory.specs.declared.inventory.Host.{Host}

-- what a host's base says, and its own over it
abbrev pub laid_of : List (List Fields) → String Global × Host → Fields
laid_of ls e = laid (layered (base_at ls e.1.base)) (fields_view e.1.own.value.entries)

abbrev pub kept_of : String Global × Host → Fields
kept_of e = layered (layer_views e.1.layers.items)

numbered-more : (n m : ℕ) → n ≤ m → (es : List (String Global × Host)) → are_numbered n es ≡ true → are_numbered m es ≡ true
numbered-more n m le [] h = refl
numbered-more n m le (e ∷ es) h =
    let here : nat_lt e.1.base n ≡ true = and-left (nat_lt e.1.base n) (are_numbered n es) h in
    and-both (nat_lt e.1.base m) (are_numbered m es) (grind (arith, nat_tests, here, le)) (numbered-more n m le es (and-right (nat_lt e.1.base n) (are_numbered n es) h))

laid-more : (ls more : List (List Fields)) (es : List (String Global × Host)) → are_numbered (length ls) es ≡ true → laid_layers (ls ++ more) es ≡ laid_layers ls es
laid-more ls more [] h = refl
laid-more ls more (e ∷ es) h =
    let test : nat_lt e.1.base (length ls) ≡ true = and-left (nat_lt e.1.base (length ls)) (are_numbered (length ls) es) h in
    let few : e.1.base < length ls = grind (arith, nat_tests, test) in
    ap₂ (λ x xs. x ∷ xs) (ap (λ b. laid (layered b) (fields_view e.1.own.value.entries)) (get_or_append_left ls more [] e.1.base few))
    (laid-more ls more es (and-right (nat_lt e.1.base (length ls)) (are_numbered (length ls) es) h))

-- one host more, where there may be more bases
pub based-next : (bs more cs : List Base) (es : List (String Global × Host)) (e : String Global × Host) → AreBased (base_lists bs) es → cs ≡ bs ++ more → e.1.base < length cs
    → laid_of (base_lists cs) e ≡ kept_of e → AreBased (base_lists cs) (es ++ e ∷ [])
based-next bs more cs es e based all few same =
    let ls = base_lists bs in
    let lists : base_lists cs ≡ ls ++ base_lists more = ap base_lists all ∙ map-append (λ (b : Base). layer_views b.layers.items) bs more in
    let count : length (base_lists cs) ≡ length cs = length-map cs (λ (b : Base). layer_views b.layers.items) in
    let longer : length (base_lists cs) ≡ length ls + length (base_lists more) = ap length lists ∙ length-append ls (base_lists more) in
    let before : are_numbered (length (base_lists cs)) es ≡ true = numbered-more (length ls) (length (base_lists cs)) (omega (arith, longer)) es based.numbered in
    let here : nat_lt e.1.base (length (base_lists cs)) ≡ true = grind (arith, nat_tests, few, count) in
    record {
      numbered = list_all-append (λ (h : String Global × Host). nat_lt h.1.base (length (base_lists cs))) es (e ∷ []) ∙ and-both _ _ before (and-both _ _ here refl);
      laid = map-append (laid_of (base_lists cs)) es (e ∷ []) ∙ ap₂ (λ xs x. xs ++ x ∷ []) (ap (λ l. laid_layers l es) lists ∙ laid-more ls (base_lists more) es based.numbered ∙ based.laid) same
          ∙ sym (map-append kept_of es (e ∷ []));
    }

-- what the host at a place has
pub based-at : (ls : List (List Fields)) (es : List (String Global × Host)) (i : ℕ) (e : String Global × Host) → are_numbered (length ls) es ≡ true → laid_layers ls es ≡ kept_layers es
    → Some e ≡ slice_get es i → (e.1.base < length ls) × (laid_of ls e ≡ kept_of e)
based-at ls [] i e h same found = absurd (cc)
based-at ls (x ∷ es) zero e h same found =
    let is : e ≡ x = cc in
    let test : nat_lt x.1.base (length ls) ≡ true = and-left (nat_lt x.1.base (length ls)) (are_numbered (length ls) es) h in
    let few : x.1.base < length ls = grind (arith, nat_tests, test) in
    let one : laid_of ls x ≡ kept_of x = cc in
    rw (is) (few, one)
based-at ls (x ∷ es) (suc i) e h same found =
    let rest : laid_layers ls es ≡ kept_layers es = cc in
    based-at ls es i e (and-right (nat_lt x.1.base (length ls)) (are_numbered (length ls) es) h) rest found

-- numbers that are the same one by one
pub same-numbers : (ns ms : List ℕ) → pointwise (λ a b. a == b) ns ms ≡ true → ns ≡ ms
same-numbers [] [] h = refl
same-numbers [] (m ∷ ms) h = untrue h
same-numbers (n ∷ ns) [] h = untrue h
same-numbers (n ∷ ns) (m ∷ ms) h =
    let rest = pointwise (λ a b. a == b) ns ms in
    ap₂ (λ x xs. x ∷ xs) (eqb-true n m (and-left (n == m) rest h)) (same-numbers ns ms (and-right (n == m) rest h))
