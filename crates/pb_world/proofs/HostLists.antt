-- Lists of the names of hosts and of groups, as values.
use Rattle.std.proofs.Common.{◌≡◌, ◌∙◌, ℕ, zero, suc, ◌+◌, ◌<◌, List, [], ◌∷◌, ◌++◌, length, get_or, map, take, Option, Some, None, option_map, slice_get, unwrap_or, add-one, refl, sym, ap, subst}
use Rattle.std.proofs.lemmas.List.{get_or_default, length-map, map-append, take_more}
use Rattle.std.proofs.Math.ListN.{get_or-map}
use Rattle.pb_semantics.specs.Data.{Data, list, text}
use Rattle.pb_language.specs.Expression.{Name}
use Rattle.pb_language.specs.Setting.{names_list}
use Rattle.pb_language.specs.World.{HostVariables}
use Rattle.pb_inventory.specs.Numbered.{name_of, named}
use Rattle.pb_value.specs.View.{items_of, items_view, view}
use Rattle.pb_value.specs.declared.value.Value.{Value}
use Rattle.pb_world.specs.Constants.{host_names}
use Rattle.pb_world.specs.Hosts.{names_of_hosts}
use Rattle.pb_world.specs.declared.constants.HostConstants.{HostConstants}

items-of-texts : (ns : List Name) → items_of (map text ns) ≡ names_list ns
items-of-texts [] = refl
items-of-texts (n ∷ ns) = rw (items-of-texts ns) refl

-- a list of texts
pub list-of-texts : (vs : List Value) (ns : List Name) → map view vs ≡ map text ns → list (items_view vs) ≡ list (names_list ns)
list-of-texts vs ns h = ap (λ ds. list (items_of ds)) h ∙ ap list (items-of-texts ns)

-- what is said of the host at a place
pub host-value : (f : HostConstants → Data) (g : Name → Data) (hs : List HostConstants) (ns : List Name) (k : ℕ) (x : HostConstants) → map f hs ≡ map g ns → k < length hs → x ≡ get_or hs k x → f x ≡ g (name_of ns k)
host-value f g hs ns k x same within is =
    let count : length hs ≡ length (map g ns) = sym (length-map hs f) ∙ ap length same in
    ap f is ∙ sym (get_or-map f hs k x) ∙ ap (λ ds. get_or ds k (f x)) same ∙ get_or_default (map g ns) k (f x) (g []) (subst (λ n. k < n) count within) ∙ get_or-map g ns k []

-- one name more
pub name-next : (hs : List HostConstants) (ns : List Name) (ms : List ℕ) (i d : ℕ) (x : HostConstants) (done : List Value) (v : Value) → host_names hs ≡ map text ns → i < length ms → get_or ms i d < length hs → x ≡ get_or hs (get_or ms i d) x
    → view v ≡ view x.name → map view done ≡ map text (named ns (take i ms)) → map view (done ++ v ∷ []) ≡ map text (named ns (take (i + 1) ms))
name-next hs ns ms i d x done v same lt within is clone h =
    let m = get_or ms i d in
    map-append view done (v ∷ []) ∙ ap (λ ds. ds ++ view v ∷ []) h ∙ ap (λ y. map text (named ns (take i ms)) ++ y ∷ []) (clone ∙ host-value (λ (h : HostConstants). view h.name) text hs ns m x same within is)
    ∙ sym (ap (λ ks. map text (named ns ks)) (take_more ms i d lt) ∙ ap (map text) (map-append (name_of ns) (take i ms) (m ∷ [])) ∙ map-append text (named ns (take i ms)) (name_of ns m ∷ []))

taken : {A : Type 0} (xs : List A) (i : ℕ) (x : A) → slice_get xs i ≡ Some x → take (suc i) xs ≡ take i xs ++ x ∷ []
taken [] i x h = absurd (cc)
taken (y ∷ ys) zero x h = let same : y ≡ x = cc in ap (λ z. z ∷ []) same
taken (y ∷ ys) (suc i) x h = ap (λ zs. y ∷ zs) (taken ys i x h)

-- what is made of one more of them
module _ {A B C D : Type 0} (f : A → D) (p : B → C) (q : C → D) (done : List A) (bs : List B) (i : ℕ) (x : A) (h : map f done ≡ map q (map p (take i bs))) where
  made : (o : Option B) → slice_get bs i ≡ o → option_map (λ b. q (p b)) o ≡ Some (f x) → map f (done ++ x ∷ []) ≡ map q (map p (take (i + 1) bs))
  made None is told = absurd (cc)
  made (Some b) is told =
      let same : q (p b) ≡ f x = cc in
      map-append f done (x ∷ []) ∙ ap (λ ds. ds ++ f x ∷ []) h ∙ ap (λ d. map q (map p (take i bs)) ++ d ∷ []) (sym same)
      ∙ sym (ap (λ k. map q (map p (take k bs))) (add-one i) ∙ ap (λ ys. map q (map p ys)) (taken bs i b is) ∙ ap (map q) (map-append p (take i bs) (b ∷ [])) ∙ map-append q (map p (take i bs)) (p b ∷ []))

  pub made-next : option_map (λ b. q (p b)) (slice_get bs i) ≡ Some (f x) → map f (done ++ x ∷ []) ≡ map q (map p (take (i + 1) bs))
  made-next told = made (slice_get bs i) refl told

abbrev text_or : Data → List ℕ
text_or (text s) = s
text_or d = []

pub same-text : (s u : List ℕ) → text s ≡ text u → s ≡ u
same-text s u e = ap text_or e

pub name-at : (hs : List HostVariables) (k : ℕ) (h : HostVariables) → slice_get hs k ≡ Some h → name_of (names_of_hosts hs) k ≡ h.name
name-at [] k h e = cc
name-at (x ∷ hs) zero h e = ap (λ o. (unwrap_or o x).name) e
name-at (x ∷ hs) (suc k) h e = name-at hs k h e
