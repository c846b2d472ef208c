-- What is known of the host at a place.
use Rattle.std.proofs.Common.{◌≡◌, ◌∙◌, ℕ, zero, suc, ◌<◌, List, [], ◌∷◌, ◌++◌, true, false, Some, String, Global, ap, map, length, option_map, slice_get, string_bytes, take, refl, sym, arith}
use Rattle.std.specs.Prelude.{◌||◌}
use Rattle.std.specs.Str.{bytes_eq}
use Rattle.std.proofs.lemmas.Option.{slice_get-map}
use Rattle.indexmap.specs.IndexMap.{insert_entry}
use Rattle.pb_semantics.specs.Data.{Fields}
use Rattle.pb_semantics.specs.Keeps.{is_among}
use Rattle.pb_language.specs.Expression.{Name}
use Rattle.pb_language.specs.Inventories.{host_variables}
use Rattle.pb_language.specs.World.{HostVariables}
use Rattle.pb_language.specs.Written.{Document}
use Rattle.pb_inventory.specs.Numbered.{are_apart, name_of}
use Rattle.pb_inventory.specs.Views.{host_names, host_view, kept_groups}
use Rattle.pb_inventory.specs.declared.inventory.Host.{Host}
use Rattle.pb_inventory.proofs.Keys.{insert-new}
use Rattle.pb_inventory.proofs.Apart.{apart_first, apart_rest, differs, is_among-name_of}

pub host-at : {A : Type 0} (f : HostVariables → A) (es : List (String Global × Host)) (i : ℕ) (e : String Global × Host) → Some e ≡ slice_get es i
    → option_map f (slice_get (map host_view es) i) ≡ Some (f (host_view e))
host-at f es i e found = ap (option_map f) (slice_get-map host_view es i ∙ ap (option_map host_view) (sym found))

pub names-of_views : (es : List (String Global × Host)) → map (λ (h : HostVariables). h.name) (map host_view es) ≡ host_names es
names-of_views [] = refl
names-of_views (e ∷ es) = ap (λ ns. string_bytes e.0 ∷ ns) (names-of_views es)

-- what is kept of each host is that of its name
pub kept-at : (f : Name → List Name) (es : List (String Global × Host)) (i : ℕ) (e : String Global × Host) → kept_groups es ≡ map f (host_names es) → Some e ≡ slice_get es i
    → f (string_bytes e.0) ≡ map (λ g. string_bytes g.value) e.1.groups.items
kept-at f es i e kept found =
    let groups = λ (h : String Global × Host). map (λ g. string_bytes g.value) h.1.groups.items in
    let left : slice_get (kept_groups es) i ≡ Some (groups e) = slice_get-map groups es i ∙ ap (option_map groups) (sym found) in
    let name : slice_get (host_names es) i ≡ Some (string_bytes e.0) = slice_get-map (λ h. string_bytes h.0) es i ∙ ap (option_map (λ h. string_bytes h.0)) (sym found) in
    let right : slice_get (map f (host_names es)) i ≡ Some (f (string_bytes e.0)) = slice_get-map f (host_names es) i ∙ ap (option_map f) name in
    let both : Some (f (string_bytes e.0)) ≡ Some (groups e) = sym right ∙ ap (λ xs. slice_get xs i) (sym kept) ∙ left in
    (cc)

-- ---- hosts that are put in their order

-- the names of hosts that have their variables
pub names-of_variables : (d : Document) (ns : List Name) → map (λ (h : HostVariables). h.name) (map (host_variables d) ns) ≡ ns
names-of_variables d [] = refl
names-of_variables d (n ∷ ns) = ap (λ ms. n ∷ ms) (names-of_variables d ns)

-- no name stands before its place
pub new-name : (hs : List Name) (i : ℕ) → i < length hs → are_apart hs ≡ true → is_among (name_of hs i) (take i hs) ≡ false
new-name [] i lt apart = absurd (omega (arith, lt))
new-name (h ∷ hs) zero lt apart = refl
new-name (h ∷ hs) (suc i) lt apart =
    let few : i < length hs = omega (arith, lt) in
    ap (λ b. b || is_among (name_of hs i) (take i hs)) (differs (name_of hs i) h hs (is_among-name_of hs i few) (apart_first h hs apart)) ∙ new-name hs i few (apart_rest h hs apart)

-- the next host goes behind those before it
pub hosts-more : (d : Document) (hs : List Name) (es : List (String Global × Host)) (i : ℕ) (k : String Global) (h : Host) → are_apart hs ≡ true → i < length hs → string_bytes k ≡ name_of hs i
    → map host_view es ≡ map (host_variables d) (take i hs) → insert_entry (λ a b. bytes_eq (string_bytes a) (string_bytes b)) es k h ≡ es ++ (k, h) ∷ []
hosts-more d hs es i k h apart lt name so =
    let names : host_names es ≡ take i hs = sym (names-of_views es) ∙ ap (map (λ x. x.name)) so ∙ names-of_variables d (take i hs) in
    insert-new es k h (ap (λ n. is_among n (host_names es)) name ∙ ap (is_among (name_of hs i)) names ∙ new-name hs i lt apart)

-- a host is what it is named and what its layers give
pub host_is : {n m : Name} {vs us : Fields} → n ≡ m → vs ≡ us → ◌≡◌ {A = HostVariables} (record { name = n; variables = vs }) (record { name = m; variables = us })
host_is e f = rw (e, f) refl
