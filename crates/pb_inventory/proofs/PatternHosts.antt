-- The hosts that the words of patterns find, by their places.
use Rattle.std.proofs.Common.{◌≡◌, ℕ, suc, ◌+◌, ◌<◌, List, [], ◌∷◌, ◌++◌, length, get_or, map, drop, drop-cons, true, false, ◌&&◌, cond, add-one, Option, Some, None, Result, Vec, String, Global, string_bytes, is_some, option_map, slice_range, refl, sym, ap, subst, ◌∙◌, inl, inr, arith}
use Rattle.std.specs.Prelude.{◌||◌, IfSome, nat_eq, nat_lt, unwrap_or}
use Rattle.std.specs.List.{All, list_all, position}
use Rattle.std.specs.Map.{keys_of, lookup}
use Rattle.std.specs.Result.{IsErrAnd}
use Rattle.std.specs.Str.{bytes_eq}
use Rattle.std.specs.declared.sync.Arc.{Arc}
use Rattle.std.proofs.lemmas.Bool.Decides.{nat_tests}
use Rattle.std.proofs.lemmas.Bool.{eqb-true, false≢true, or_cases}
use Rattle.std.proofs.lemmas.List.Elements.{All-weaker}
use Rattle.std.proofs.lemmas.List.Sums.{AllPass-from_list_all}
use Rattle.std.proofs.lemmas.Result.{err_from_is_err_and}
use Rattle.pb_semantics.proofs.Bools.{and-left, and-right}
use Rattle.pb_semantics.specs.Gives.{FaultGives, Gives}
use Rattle.pb_language.specs.BookForm.{turned, word_met, words_from}
use Rattle.pb_language.specs.Expression.{Name}
use Rattle.pb_language.specs.Plays.{add_hosts, group_named, is_host, pattern_hosts, word_hosts}
use Rattle.pb_language.specs.Program.{Inventory}
use Rattle.pb_language.specs.Rules.{words_known}
use Rattle.pb_language.specs.World.{HostVariables}
use Rattle.pb_inventory.specs.Documents.{key_names, names_view}
use Rattle.pb_inventory.specs.Families.{add_numbers}
use Rattle.pb_inventory.specs.Numbered.{are_apart, name_of, named}
use Rattle.pb_inventory.specs.Patterns.{hosts_found, no_hosts, patterns_words, words_left}
use Rattle.pb_inventory.specs.Views.{are_placed, group_view, host_names, host_view}
use Rattle.pb_inventory.specs.declared.fault.PatternFault.{PatternFault}
use Rattle.pb_inventory.specs.declared.fault.PatternFault.TheVariants.{NoMemory, Unknown}
use Rattle.pb_inventory.specs.declared.inventory.Host.{Host}
use Rattle.pb_inventory.proofs.HostAt.{names-of_views}
use Rattle.pb_inventory.proofs.Keys.{found-named}
use Rattle.pb_inventory.proofs.Members.{place-of}
use Rattle.pb_inventory.proofs.NamedMembers.{AreWithin, named-add_numbers}

-- ---- groups and hosts by their names

-- the group that is looked up
pub group-found : (hs : List Name) (n : Name) (es : List (String Global × Vec ℕ Global))
    → group_named n (map (group_view hs) es) ≡ option_map (λ ms. named hs ms.items) (lookup (λ k. bytes_eq n (string_bytes k)) es)
group-found hs n [] = refl
group-found hs n (e ∷ es) =
    let rest = lookup (λ k. bytes_eq n (string_bytes k)) es in
    elim (bytes_eq n (string_bytes e.0)) as (λ b. cond b (Some (named hs e.1.items)) (group_named n (map (group_view hs) es)) ≡ option_map (λ ms. named hs ms.items) (cond b (Some e.1) rest)) [
      | true ↦ refl
      | false ↦ group-found hs n es
    ]

below-all : (count : ℕ) (ps : List ℕ) → list_all (λ i. nat_lt i count) ps ≡ true → All (λ p. p < count) ps
below-all count ps h = All-weaker (λ p. nat_lt p count ≡ true) (λ p. p < count) (λ p e. grind (arith, nat_tests, e)) ps (AllPass-from_list_all (λ i. nat_lt i count) ps h)

-- its members are hosts
pub group-placed : (n : Name) (count : ℕ) (es : List (String Global × Vec ℕ Global)) (ms : Vec ℕ Global) → lookup (λ k. bytes_eq n (string_bytes k)) es ≡ Some ms → are_placed count es ≡ true → All (λ p. p < count) ms.items
group-placed n count [] ms h placed = absurd (cc)
group-placed n count (e ∷ es) ms h placed =
    elim (bytes_eq n (string_bytes e.0)) as (λ b. cond b (Some e.1) (lookup (λ k. bytes_eq n (string_bytes k)) es) ≡ Some ms → All (λ p. p < count) ms.items) [
      | true ↦ λ first.
          let same : e.1 ≡ ms = cc in
          subst (λ (v : Vec ℕ Global). All (λ p. p < count) v.items) same (below-all count e.1.items (and-left (list_all (λ i. nat_lt i count) e.1.items) (are_placed count es) placed))
      | false ↦ λ later. group-placed n count es ms later (and-right (list_all (λ i. nat_lt i count) e.1.items) (are_placed count es) placed)
    ] h

-- whether a host of the name is there
pub host-there : (n : Name) (es : List (String Global × Host)) → is_some (lookup (λ k. bytes_eq n (string_bytes k)) es) ≡ is_host n (map host_view es)
host-there n [] = refl
host-there n (e ∷ es) = elim (bytes_eq n (string_bytes e.0)) as (λ b. is_some (cond b (Some e.1) (lookup (λ k. bytes_eq n (string_bytes k)) es)) ≡ (b || is_host n (map host_view es))) [
  | true ↦ refl
  | false ↦ host-there n es
]

key_names-of : (es : List (String Global × Host)) → key_names (keys_of es) ≡ host_names es
key_names-of [] = refl
key_names-of (e ∷ es) = ap (λ ns. string_bytes e.0 ∷ ns) (key_names-of es)

-- and the place that is found is that of the name
pub place-named : (n : Name) (es : List (String Global × Host)) (r : Option ℕ) → r ≡ position (λ k. bytes_eq n (string_bytes k)) (keys_of es) → IfSome r (λ p. name_of (map (λ (h : HostVariables). h.name) (map host_view es)) p ≡ n)
place-named n es None e = tt
place-named n es (Some p) e = ap (λ ns. name_of ns p) (names-of_views es ∙ sym (key_names-of es)) ∙ found-named n (keys_of es) p (sym e)

-- ---- one word, and more words

pub within-all : (hs : List Name) (count : ℕ) (ps : List ℕ) → All (λ p. p < count) ps → count ≡ length hs → AreWithin hs ps
within-all hs count ps all e = λ j h. let q = place-of j ps h in omega (arith, subst (λ n. n < count) q.3 (all q.0 0 q.2), e)

module _ (v : Inventory) where
  abbrev names : List Name
  names = map (λ h. h.name) v.hosts

  abbrev one : List Name → Option (List Name) → Option (List Name)
  one ns o = cond (is_some o && true) (Some (add_hosts ns (unwrap_or o []))) None

  pub found-group : are_apart names ≡ true → (w : Name) (ps ms qs : List ℕ) → AreWithin names ps → AreWithin names ms → group_named w v.groups ≡ Some (named names ms) → qs ≡ add_numbers ps ms
      → hosts_found v (named names ps) (w ∷ []) ≡ Some (named names qs)
  found-group apart w ps ms qs within others group e =
      ap (λ o. one (named names ps) (word_hosts v w o)) group ∙ ap Some (sym (named-add_numbers names apart ps ms within others) ∙ ap (named names) (sym e))

  lone-within : (p : ℕ) → p < length names → AreWithin names (p ∷ [])
  lone-within p lt = λ j h. elim (or_cases (nat_eq j p) false h) [ inl e ↦ rw (eqb-true j p e) lt | inr e ↦ absurd (false≢true e) ]

  pub found-host : are_apart names ≡ true → (w : Name) (ps : List ℕ) (p : ℕ) (qs : List ℕ) → AreWithin names ps → p < length names → name_of names p ≡ w → group_named w v.groups ≡ None → is_host w v.hosts ≡ true
      → qs ≡ add_numbers ps (p ∷ []) → hosts_found v (named names ps) (w ∷ []) ≡ Some (named names qs)
  found-host apart w ps p qs within lt name group there e =
      ap (λ o. one (named names ps) (word_hosts v w o)) group
      ∙ ap (λ b. one (named names ps) (cond b (Some (w ∷ [])) None)) there
      ∙ ap (λ n. Some (add_hosts (named names ps) (n ∷ []))) (sym name)
      ∙ ap Some (sym (named-add_numbers names apart ps (p ∷ []) within (lone-within p lt)) ∙ ap (named names) (sym e))

  pub found-unknown : (w : Name) (ns : List Name) → group_named w v.groups ≡ None → is_host w v.hosts ≡ false → hosts_found v ns (w ∷ []) ≡ None
  found-unknown w ns group none = ap (λ o. one ns (word_hosts v w o)) group ∙ ap (λ b. one ns (cond b (Some (w ∷ [])) None)) none

  abbrev added : List Name → Name → List Name
  added ns w = add_hosts ns (unwrap_or (word_hosts v w (group_named w v.groups)) [])

  -- more words find more hosts
  pub found-more : (ns ms ws xs : List Name) → hosts_found v ns ws ≡ Some ms → hosts_found v ns (ws ++ xs) ≡ hosts_found v ms xs
  found-more ns ms [] xs h = let e : ns ≡ ms = cc in ap (λ os. hosts_found v os xs) e
  found-more ns ms (w ∷ ws) xs h =
      let os = added ns w in
      elim (is_some (word_hosts v w (group_named w v.groups))) as (λ b. cond (b && words_known v ws) (Some (pattern_hosts v os ws)) None ≡ Some ms
      → cond (b && words_known v (ws ++ xs)) (Some (pattern_hosts v os (ws ++ xs))) None ≡ hosts_found v ms xs) [
        | true ↦ λ e. found-more os ms ws xs e
        | false ↦ λ e. absurd (cc)
      ] h

  -- none are found behind a word that is not known
  found-none : (ns ws xs : List Name) → hosts_found v ns ws ≡ None → hosts_found v ns (ws ++ xs) ≡ None
  found-none ns [] xs h = absurd (cc)
  found-none ns (w ∷ ws) xs h =
      let os = added ns w in
      elim (is_some (word_hosts v w (group_named w v.groups))) as (λ b. cond (b && words_known v ws) (Some (pattern_hosts v os ws)) None ≡ None
      → cond (b && words_known v (ws ++ xs)) (Some (pattern_hosts v os (ws ++ xs))) None ≡ None) [
        | true ↦ λ e. found-none os ws xs e
        | false ↦ λ e. refl
      ] h

  -- a fault stays what it is
  pub fault-more : (f : PatternFault) (ns ws xs : List Name) → FaultGives (no_hosts f) (hosts_found v ns ws) → FaultGives (no_hosts f) (hosts_found v ns (ws ++ xs))
  fault-more Unknown ns ws xs h = found-none ns ws xs h
  fault-more NoMemory ns ws xs h = tt

-- a fault that is passed on says what it said
pub passed-fault : {A : Type 0} (f : A → Option (List Name)) (r : Result A PatternFault) (e : PatternFault) (d : Option (List Name)) → IsErrAnd r (λ x. x ≡ e) → FaultGives (no_hosts e) d → Gives f no_hosts r d
passed-fault f r e d is h = let p = err_from_is_err_and r is in rw (p.1, p.2) h

-- ---- the words of a text

-- the first of the words that are left, and those behind it
pub word-left : (v : Inventory) (ns : List Name) (start : Option (List Name)) (text bytes piece word : List ℕ) (from to : ℕ) → bytes ≡ text
    → words_left from bytes ≡ word_met (turned [] (slice_range bytes from to)) ∷ words_left (to + 1) bytes → piece ≡ slice_range text from to → word ≡ word_met (turned [] piece)
    → hosts_found v ns (words_left from text) ≡ start → hosts_found v ns (word ∷ words_left (to + 1) text) ≡ start
word-left v ns start text bytes piece word from to same first cut trimmed left =
    let words = subst (λ (bs : List ℕ). words_left from bs ≡ word_met (turned [] (slice_range bs from to)) ∷ words_left (to + 1) bs) same first in
    ap (λ w. hosts_found v ns (w ∷ words_left (to + 1) text)) (trimmed ∙ ap (λ bs. word_met (turned [] bs)) cut) ∙ ap (hosts_found v ns) (sym words) ∙ left

-- ---- several patterns

-- the words of the next, and those of the patterns behind it
pub pattern-left : (v : Inventory) (ns : List Name) (start : Option (List Name)) (ps : List (Arc (String Global) Global)) (i : ℕ) (p : Arc (String Global) Global) (text : List ℕ) → i < length ps → p ≡ get_or ps i p → text ≡ string_bytes p.value
    → hosts_found v ns (patterns_words (names_view (drop i ps))) ≡ start → hosts_found v ns (words_from [] text ++ patterns_words (names_view (drop (i + 1) ps))) ≡ start
pattern-left v ns start ps i p text lt e same left =
    let next : drop i ps ≡ p ∷ drop (i + 1) ps = drop-cons ps i p lt ∙ rw (add-one i) (ap (λ x. x ∷ drop (suc i) ps) (sym e)) in
    ap (λ bs. hosts_found v ns (words_from [] bs ++ patterns_words (names_view (drop (i + 1) ps)))) same ∙ ap (λ xs. hosts_found v ns (patterns_words (names_view xs))) (sym next) ∙ left
