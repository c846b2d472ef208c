-- What the inventory says of hosts' variables, base by base and host by host, where hosts share it.
use Rattle.std.proofs.Common.{◌≡◌, ℕ, zero, suc, ◌+◌, ◌<◌, ◌≤◌, List, [], ◌∷◌, ◌++◌, length, get_or, map, take, drop, Bool, true, false, cond, bytes_eq, Option, Some, None, option_map, slice_get, Result, Ok, Err, IfOk, String, Global, BTreeMap, Vec, All, refl, sym, ap, ap₂, subst, ◌∙◌, arith}
use Rattle.std.specs.declared.sync.Arc.{Arc}
use Rattle.std.proofs.lemmas.List.{length-map, map-append, take_more}
use Rattle.std.proofs.lemmas.List.Elements.{All-head, All-push, All-tail, All-weaker}
use Rattle.std.proofs.lemmas.Option.{get_or_from_slice_get, slice_get-get_or, slice_get-map, slice_get_read, slice_get_within}
use Rattle.pb_semantics.specs.Data.{Fields, no_fields, field}
use Rattle.pb_semantics.specs.Kind.{KindData, Slots, Spot, no_slots, nowhere, slot, slot_at, spot, put_slot}
use Rattle.pb_semantics.proofs.Names.{same_name}
use Rattle.pb_semantics.proofs.PutSlots.{at_put}
use Rattle.pb_language.specs.Expression.{Name}
use Rattle.pb_language.specs.Kinds.{known_kind, known_slots}
use Rattle.pb_language.specs.World.{HostVariables}
use Rattle.pb_kind.specs.KindView.{slots_view}
use Rattle.pb_kind.specs.declared.kind.Kind.{Kind}
use Rattle.pb_kind.specs.declared.kind.Slot.{Slot}
use Rattle.pb_value.specs.declared.value.Value.{Value}
use Rattle.pb_inventory.specs.HostGroups.{layer_views}
use Rattle.pb_inventory.specs.Inventory.{bases_view}
use Rattle.pb_inventory.specs.Views.{base_at, laid, layered}
use Rattle.pb_inventory.specs.declared.inventory.Inventory.{Inventory}
use Rattle.pb_hosts.specs.Given.{IsFirst, IsGiven, slots_given}
use Rattle.pb_hosts.specs.Tables.{shared_slots, slots_of_each, with_layer, with_slots}
use Rattle.pb_hosts.specs.declared.given.Given.{Given}
use Rattle.pb_hosts.proofs.Layers.{known_laid, known_layered, layers_put, rising_known, with_layers}
use Rattle.pb_hosts.proofs.Rising.{Rising, above_nowhere, rising_put, same_rising}

-- what others say of a name goes before
abbrev over : Spot → Spot → Spot
over nowhere s = s
over (spot a k) s = spot a k

over_later : (q : Bool) (a : Bool) (k : KindData) (t s : Spot) → (q ≡ true → t ≡ nowhere) → over t (cond q (spot a k) s) ≡ over (cond q (spot a k) t) s
over_later true a k t s h = ap (λ x. over x (spot a k)) (h refl)
over_later false a k t s h = refl

over_both : (q : Bool) (a : Bool) (k : KindData) (t s : Spot) → over t (cond q (spot a k) s) ≡ over (over t (cond q (spot a k) nowhere)) s
over_both true a k nowhere s = refl
over_both true a k (spot b j) s = refl
over_both false a k nowhere s = refl
over_both false a k (spot b j) s = refl

over_none : (s : Spot) → over s nowhere ≡ s
over_none nowhere = refl
over_none (spot a k) = refl

at_slots : (p : Name) (ss ts : Slots) → Rising ts → slot_at p (with_slots ss ts) ≡ over (slot_at p ts) (slot_at p ss)
at_slots p ss no_slots r = refl
at_slots p ss (slot n a k ts) r =
    at_slots p (put_slot n a k ss) ts r.1 ∙ ap (over (slot_at p ts)) (at_put p n a k ss)
    ∙ over_later (bytes_eq p n) a k (slot_at p ts) (slot_at p ss) (λ h. ap (λ m. slot_at m ts) (same_name p n h) ∙ above_nowhere n ts r.0)

at_layer : (p : Name) (ss : Slots) (fs : Fields) → slot_at p (with_layer ss fs) ≡ over (slot_at p (with_layer no_slots fs)) (slot_at p ss)
at_layer p ss no_fields = refl
at_layer p ss (field n d fs) =
    let k = known_kind d in
    let t = slot_at p (with_layer no_slots fs) in
    at_layer p (put_slot n true k ss) fs ∙ ap (over t) (at_put p n true k ss) ∙ over_both (bytes_eq p n) true k t (slot_at p ss)
    ∙ ap (λ x. over x (slot_at p ss)) (sym (at_layer p (put_slot n true k no_slots) fs))

rising_slots : (ss ts : Slots) → Rising ss → Rising (with_slots ss ts)
rising_slots ss no_slots r = r
rising_slots ss (slot n a k ts) r = rising_slots (put_slot n a k ss) ts (rising_put n a k ss r)

rising_layer : (ss : Slots) (fs : Fields) → Rising ss → Rising (with_layer ss fs)
rising_layer ss no_fields r = r
rising_layer ss (field n d fs) r = rising_layer (put_slot n true (known_kind d) ss) fs (rising_put n true (known_kind d) ss r)

-- a layer over what is known is what is known of the layer, over it
layer_over : (ss : Slots) (fs : Fields) → Rising ss → with_layer ss fs ≡ with_slots ss (with_layer no_slots fs)
layer_over ss fs r =
    let own = with_layer no_slots fs in
    let rises : Rising own = rising_layer no_slots fs tt in
    same_rising (with_layer ss fs) (with_slots ss own) (rising_layer ss fs r) (rising_slots ss own r) (λ p. at_layer p ss fs ∙ sym (at_slots p ss own rises))

-- the variables of a host are known by its base and its own
pub own_known : (xs : List HostVariables) (p : ℕ) (vs fs : Fields) (own : Slots) → option_map (λ h. h.variables) (slice_get xs p) ≡ Some (laid vs fs) → own ≡ with_layer no_slots fs
    → option_map (λ h. known_slots h.variables) (slice_get xs p) ≡ Some (with_slots (known_slots vs) own)
own_known xs p vs fs own e all = inner (slice_get xs p) e where
  whole : known_slots (laid vs fs) ≡ with_slots (known_slots vs) own
  whole = known_laid vs fs ∙ layer_over (known_slots vs) fs (rising_known vs) ∙ ap (with_slots (known_slots vs)) (sym all)

  inner : (o : Option HostVariables) → option_map (λ h. h.variables) o ≡ Some (laid vs fs) → option_map (λ h. known_slots h.variables) o ≡ Some (with_slots (known_slots vs) own)
  inner None h = absurd (cc)
  inner (Some x) h = let f : x.variables ≡ laid vs fs = cc in ap (λ v. Some (known_slots v)) f ∙ ap Some whole

-- one more of two lists that say the same
pub one_more : {X Y Z : Type 0} (f : X → Z) (g : Y → Z) (xs us : List X) (x : X) (ys : List Y) (i : ℕ) (d : Y) → i < length ys → map f xs ≡ map g (take i ys) → f x ≡ g (get_or ys i d) → us ≡ xs ++ x ∷ []
    → map f us ≡ map g (take (i + 1) ys)
one_more f g xs us x ys i d lt so_far here more =
    ap (map f) more ∙ map-append f xs (x ∷ []) ∙ ap₂ (λ zs z. zs ++ z ∷ []) so_far here
    ∙ sym (ap (map g) (take_more ys i d lt) ∙ map-append g (take i ys) (get_or ys i d ∷ []))

-- all layers of a base
pub base_known : (ls : List (Arc (BTreeMap (String Global) Value) Global)) (i : ℕ) (ss : Slots) (base : List Fields) → length ls ≤ i
    → with_layers ss (layer_views (drop i ls)) ≡ with_layers no_slots (layer_views ls) → base ≡ layer_views ls → ss ≡ known_slots (layered base)
base_known ls i ss base le left all =
    layers_put ls i ss (with_layers no_slots (layer_views ls)) le left ∙ sym (known_layered (layer_views ls)) ∙ ap (λ bs. known_slots (layered bs)) (sym all)

-- a base that is read
pub base_read : {X Y Z : Type 0} (f : X → Z) (g : Y → Z) (xs : List X) (ys : List Y) (i : ℕ) (x : X) (d : Y) → map f xs ≡ map g ys → i < length ys → x ≡ get_or xs i x → f x ≡ g (get_or ys i d)
base_read f g xs ys i x d e lt at =
    let few : length xs ≡ length ys = sym (length-map xs f) ∙ ap length e ∙ length-map ys g in
    let mine : slice_get (map f xs) i ≡ Some (f x) = slice_get-map f xs i ∙ ap (option_map f) (slice_get_read xs (length xs) i x refl (omega (arith, few, lt)) at) in
    let other : slice_get (map g ys) i ≡ Some (g (get_or ys i d)) = slice_get-map g ys i ∙ ap (option_map g) (slice_get-get_or ys i d lt) in
    let both : Some (f x) ≡ Some (g (get_or ys i d)) = sym mine ∙ ap (λ zs. slice_get zs i) e ∙ other in
    cc

-- of one of them
pub held : {X : Type 0} (P : X → Type 0) (xs : List X) (x : X) → All P xs → ((p : ℕ) × (slice_get xs p ≡ Some x)) → P x
held P xs x all at = subst P (get_or_from_slice_get xs at.0 x x at.1) (all at.0 x (slice_get_within xs at.0 x at.1))

pub alike : (i : Inventory) (e : Given) (b : ℕ) (own : Slots) → IsGiven i e → e.base ≡ b → slots_view e.own.entries ≡ own
    → slots_view e.known.value.entries ≡ with_slots (known_slots (layered (base_at (bases_view i) b))) own
alike i e b own h base mine = h ∙ ap₂ (λ n ss. with_slots (known_slots (layered (base_at (bases_view i) n))) ss) base mine

in_longer : {X : Type 0} (xs ys : List X) (i : ℕ) (x : X) → slice_get xs i ≡ Some x → slice_get (xs ++ ys) i ≡ Some x
in_longer [] ys i x h = absurd (cc)
in_longer (y ∷ xs) ys zero x h = h
in_longer (y ∷ xs) ys (suc i) x h = in_longer xs ys i x h

at_last : {X : Type 0} (xs : List X) (x : X) (n : ℕ) → n ≡ length xs → slice_get (xs ++ x ∷ []) n ≡ Some x
at_last [] x zero h = refl
at_last [] x (suc n) h = absurd (omega (arith, h))
at_last (y ∷ xs) x zero h = absurd (omega (arith, h))
at_last (y ∷ xs) x (suc n) h = at_last xs x n (omega (arith, h))

abbrev slots_known : Given → Slots
slots_known g = slots_view g.known.value.entries

given_more : (gs : List Given) (g : Given) → slots_given (gs ++ g ∷ []) ≡ slots_given gs ++ slots_known g ∷ []
given_more gs g = map-append slots_known gs (g ∷ [])

-- the first stays so when there are more
first_later : (gs : List Given) (x e : Given) → IsFirst (slots_given gs) e → IsFirst (slots_given (gs ++ x ∷ [])) e
first_later gs x e h = ap (λ ss. slice_get ss e.first) (given_more gs x) ∙ in_longer (slots_given gs) (slots_known x ∷ []) e.first (slots_known e) h

-- one that shares what is known of an earlier one
pub first_shared : (gs : List Given) (e g : Given) → IsFirst (slots_given gs) e → g.first ≡ e.first → slots_known g ≡ slots_known e → IsFirst (slots_given (gs ++ g ∷ [])) g
first_shared gs e g h at same = ap (slice_get (slots_given (gs ++ g ∷ []))) at ∙ first_later gs g e h ∙ ap Some (sym same)

-- one that stands for itself
pub first_itself : (gs : List Given) (g : Given) → g.first ≡ length gs → IsFirst (slots_given (gs ++ g ∷ [])) g
first_itself gs g at =
    ap (λ ss. slice_get ss g.first) (given_more gs g) ∙ at_last (slots_given gs) (slots_known g) g.first (at ∙ sym (length-map gs slots_known))

-- with one more
pub firsts_more : (gs us : List Given) (g : Given) → All (IsFirst (slots_given gs)) gs → us ≡ gs ++ g ∷ [] → IsFirst (slots_given (gs ++ g ∷ [])) g → All (IsFirst (slots_given us)) us
firsts_more gs us g all more one =
    let so_far : All (IsFirst (slots_given (gs ++ g ∷ []))) gs = All-weaker (IsFirst (slots_given gs)) (IsFirst (slots_given (gs ++ g ∷ []))) (λ e h. first_later gs g e h) gs all in
    subst (λ (vs : List Given). All (IsFirst (slots_given vs)) vs) (sym more) (All-push (IsFirst (slots_given (gs ++ g ∷ []))) gs g so_far one)

-- of each the slots of the one that stands for it are its own
firsts_alike : (ss : List Slots) (gs : List Given) → All (IsFirst ss) gs → shared_slots ss (map (λ g. g.first) gs) ≡ slots_given gs
firsts_alike ss [] all = refl
firsts_alike ss (g ∷ gs) all =
    ap₂ (λ x xs. x ∷ xs) (get_or_from_slice_get ss g.first (slots_known g) no_slots (All-head (IsFirst ss) g gs all)) (firsts_alike ss gs (All-tail (IsFirst ss) g gs all))

-- what is said of a result, from all that is said of it
pub shared_says : {E : Type 0} (r : Result Given E) (e : Given) (b : ℕ) (own : BTreeMap (String Global) (Slot Kind)) (Q : Given → Type 0) → IfOk r (λ g. g.base ≡ b) → IfOk r (λ g. g.own ≡ own) → IfOk r (λ g. g.known.value ≡ e.known.value)
    → IfOk r (λ g. g.first ≡ e.first) → ((g : Given) → g.base ≡ b → g.own ≡ own → slots_known g ≡ slots_known e → g.first ≡ e.first → Q g) → IfOk r Q
shared_says (Ok g) e b own Q h i j k q = q g h i (ap (λ m. slots_view m.entries) j) k
shared_says (Err x) e b own Q h i j k q = tt

nobody : HostVariables
nobody = record { name = []; variables = no_fields }

-- one host more
pub host_more : (xs : List HostVariables) (i : ℕ) (gs us : List Given) (g : Given) → i < length xs → slots_given gs ≡ map (λ h. known_slots h.variables) (take i xs)
    → option_map (λ h. known_slots h.variables) (slice_get xs i) ≡ Some (slots_known g) → us ≡ gs ++ g ∷ [] → slots_given us ≡ map (λ h. known_slots h.variables) (take (i + 1) xs)
host_more xs i gs us g lt so_far here more =
    let x = get_or xs i nobody in
    let found : Some (known_slots x.variables) ≡ Some (slots_known g) = ap (option_map (λ h. known_slots h.variables)) (sym (slice_get-get_or xs i nobody lt)) ∙ here in
    let same : slots_known g ≡ known_slots x.variables = cc in
    one_more slots_known (λ h. known_slots h.variables) gs us g xs i nobody lt so_far same more

-- what is known of each, and which of them stands for it
abbrev Shares : Type 0
Shares = Vec (Arc (BTreeMap (String Global) (Slot Kind)) Global) Global × Vec ℕ Global

pub all_known : {E : Type 0} (r : Result Shares E) (ss ts : List Slots) → IfOk r (λ p. slots_of_each p.0.items ≡ ss) → ss ≡ ts → IfOk r (λ p. slots_of_each p.0.items ≡ ts)
all_known (Ok p) ss ts h e = h ∙ e
all_known (Err x) ss ts h e = tt

pub all_shared : {E : Type 0} (r : Result Shares E) (gs : List Given) → All (IsFirst (slots_given gs)) gs → IfOk r (λ p. slots_of_each p.0.items ≡ slots_given gs) → IfOk r (λ p. p.1.items ≡ map (λ g. g.first) gs)
    → IfOk r (λ p. shared_slots (slots_of_each p.0.items) p.1.items ≡ slots_of_each p.0.items)
all_shared (Ok p) gs all known firsts = ap₂ (λ ss ns. shared_slots ss ns) known firsts ∙ firsts_alike (slots_given gs) gs all ∙ sym known
all_shared (Err x) gs all known firsts = tt
