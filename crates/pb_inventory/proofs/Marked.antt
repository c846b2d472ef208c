-- Hosts that are marked by their places where their names are listed.
use Rattle.std.proofs.Common.{◌≡◌, ℕ, zero, suc, ◌+◌, ◌<◌, List, [], ◌∷◌, ◌++◌, length, get_or, set, take, drop, drop-cons, String, Global, string_bytes, Bool, true, false, add-one, refl, sym, ap, ◌∙◌, arith, inl, inr}
use Rattle.std.specs.Prelude.{◌||◌, cond}
use Rattle.std.specs.List.{filter, list_all}
use Rattle.std.specs.declared.sync.Arc.{Arc}
use Rattle.std.specs.Str.{bytes_eq}
use Rattle.std.proofs.lemmas.Bool.{cases_eq, or_right}
use Rattle.std.proofs.lemmas.List.{append-nil, get_or-set_other}
use Rattle.std.proofs.lemmas.List.Elements.{filter-append}
use Rattle.std.proofs.lemmas.Grind.{get_or-set_at}
use Rattle.pb_semantics.specs.Keeps.{is_among}
use Rattle.pb_semantics.proofs.Bools.{and-right}
use Rattle.pb_semantics.proofs.Names.{own_name}
use Rattle.pb_language.specs.Expression.{Name}
use Rattle.pb_inventory.specs.Documents.{names_view}
use Rattle.pb_inventory.specs.Numbered.{are_apart, name_of}
use Rattle.pb_inventory.proofs.Apart.{name_of-same, unlike}
use Rattle.pb_inventory.proofs.Listed.{is_among-append}

or-false : (a b c : Bool) → c ≡ false → a || (b || c) ≡ a || b
or-false true b c h = refl
or-false false true c h = refl
or-false false false c h = h

abbrev pub AreMarked : List Name → List Name → List Bool → List Bool → Type 0
AreMarked hs ns olds marks = (i : ℕ) → i < length hs → get_or marks i false ≡ get_or olds i false || is_among (name_of hs i) ns

-- one more name marks its host
pub marked-more : (hs ns : List Name) (olds marks : List Bool) (p : ℕ) (n : Name) → are_apart hs ≡ true → p < length hs → p < length marks → name_of hs p ≡ n → AreMarked hs ns olds marks → AreMarked hs (ns ++ n ∷ []) olds (set marks p true)
marked-more hs ns olds marks p n apart few lt name has = λ i least. elim (cases_eq i p) [
  | inl e ↦
      let here : name_of hs i ≡ n = ap (name_of hs) e ∙ name in
      let there : is_among (name_of hs i) (ns ++ n ∷ []) ≡ true = is_among-append (name_of hs i) ns (n ∷ []) ∙ or_right (is_among (name_of hs i) ns) (bytes_eq (name_of hs i) n || false) (ap (λ m. bytes_eq m n || false) here ∙ ap (λ b. b || false) (own_name n)) in
      get_or-set_at marks p i true false e lt ∙ sym (or_right (get_or olds i false) (is_among (name_of hs i) (ns ++ n ∷ [])) there)
  | inr ne ↦
      let other = ap (λ b. b || false) (unlike (name_of hs i) n (λ e. ne (name_of-same hs apart i p least few (e ∙ sym name)))) in
      get_or-set_other marks p i true false ne ∙ has i least ∙ sym (or-false (get_or olds i false) (is_among (name_of hs i) ns) (bytes_eq (name_of hs i) n || false) other)
      ∙ ap (λ b. get_or olds i false || b) (sym (is_among-append (name_of hs i) ns (n ∷ [])))
]

taken-name : (hs : List Name) (i : ℕ) → i < length hs → take (suc i) hs ≡ take i hs ++ name_of hs i ∷ []
taken-name [] i lt = absurd (omega (arith, lt))
taken-name (h ∷ hs) zero lt = refl
taken-name (h ∷ hs) (suc i) lt = ap (λ ns. h ∷ ns) (taken-name hs i (omega (arith, lt)))

-- one more of the names
pub taken-next : (hs : List Name) (i : ℕ) → i < length hs → take (i + 1) hs ≡ take i hs ++ name_of hs i ∷ []
taken-next hs i lt = ap (λ n. take n hs) (add-one i) ∙ taken-name hs i lt

-- a host that doesn't pass is left out
pub filter-skip : (f : Name → Bool) (hs : List Name) (i : ℕ) → i < length hs → f (name_of hs i) ≡ false → filter f (take (i + 1) hs) ≡ filter f (take i hs)
filter-skip f hs i lt e =
    let left : filter f (name_of hs i ∷ []) ≡ [] = ap (λ b. cond b (name_of hs i ∷ []) []) e in
    ap (filter f) (taken-next hs i lt) ∙ filter-append f (take i hs) (name_of hs i ∷ []) ∙ ap (λ ns. filter f (take i hs) ++ ns) left ∙ append-nil (filter f (take i hs))

-- what holds of all that are left holds of all behind the first of them
pub all-left : (f : Name → Bool) (ns : List (Arc (String Global) Global)) (i : ℕ) (n : Arc (String Global) Global) → i < length ns → n ≡ get_or ns i n → list_all f (names_view (drop i ns)) ≡ true → list_all f (names_view (drop (i + 1) ns)) ≡ true
all-left f ns i n lt e h =
    let next : drop i ns ≡ n ∷ drop (i + 1) ns = drop-cons ns i n lt ∙ rw (add-one i) (ap (λ x. x ∷ drop (suc i) ns) (sym e)) in
    and-right (f (string_bytes n.value)) (list_all f (names_view (drop (i + 1) ns))) (sym (ap (λ xs. list_all f (names_view xs)) next) ∙ h)
