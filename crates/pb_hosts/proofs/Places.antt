-- What is found at the place of a host, or by its name.
use Rattle.std.proofs.Common.{◌≡◌, ℕ, zero, suc, ◌<◌, ◌≤◌, List, [], ◌∷◌, length, get_or, map, Bool, true, false, cond, bytes_eq, Some, option_map, slice_get, String, Global, BTreeMap, refl, sym, ap, ◌∙◌, arith}
use Rattle.std.specs.Prelude.{unwrap_or, ◌||◌}
use Rattle.std.specs.List.{All}
use Rattle.std.specs.declared.sync.Arc.{Arc}
use Rattle.std.proofs.lemmas.List.Elements.{All-head, All-tail}
use Rattle.std.proofs.lemmas.Option.{slice_get-map, slice_get_past, slice_get_read, get_or_from_slice_get}
use Rattle.pb_semantics.specs.Kind.{Slots, no_slots, recs}
use Rattle.pb_semantics.specs.Keeps.{is_among}
use Rattle.pb_semantics.specs.Well.{Well}
use Rattle.pb_semantics.proofs.Names.{own_name}
use Rattle.pb_language.specs.Expression.{Name}
use Rattle.pb_language.specs.Kinds.{known_slots}
use Rattle.pb_language.specs.Plays.{is_host}
use Rattle.pb_language.specs.Scope.{Since, has_view, later_of, no_since, view_of}
use Rattle.pb_language.specs.Tables.{known_views}
use Rattle.pb_language.specs.Wells.{WellViews}
use Rattle.pb_language.specs.World.{HostVariables}
use Rattle.pb_kind.specs.KindView.{slots_view}
use Rattle.pb_kind.specs.declared.kind.Kind.{Kind}
use Rattle.pb_kind.specs.declared.kind.Slot.{Slot}
use Rattle.pb_inventory.specs.Inventory.{inventory_view}
use Rattle.pb_inventory.specs.Numbered.{are_apart, name_of}
use Rattle.pb_inventory.specs.declared.inventory.Inventory.{Inventory}
use Rattle.pb_inventory.proofs.Apart.{apart_first, apart_rest, differs, is_among-name_of}
use Rattle.pb_inventory.proofs.HostAt.{names-of_views}
use Rattle.pb_hosts.specs.Tables.{host_names, laters_from, since_view, slots_in, slots_of_each, views_from}
use Rattle.pb_hosts.specs.declared.lasting.Lasting.{Lasting}

-- the hosts of an inventory have their own names
pub apart_hosts : (i : Inventory) → are_apart (host_names (inventory_view i)) ≡ true
apart_hosts i = ap are_apart (names-of_views i.hosts.entries) ∙ i.apart

here : (n h : Name) → h ≡ n → bytes_eq n h ≡ true
here n h e = ap (λ m. bytes_eq m h) (sym e) ∙ own_name h

further : (h : Name) (hs : List Name) (p : ℕ) (n : Name) → are_apart (h ∷ hs) ≡ true → p < length hs → name_of hs p ≡ n → bytes_eq n h ≡ false
further h hs p n apart lt e = differs n h hs (ap (λ m. is_among m hs) (sym e) ∙ is_among-name_of hs p lt) (apart_first h hs apart)

below_rest : (h : Name) (hs : List Name) (p : ℕ) → suc p < length (h ∷ hs) → p < length hs
below_rest h hs p lt = omega (arith, lt)

none_below : {A : Type 0} (p : ℕ) → p < 0 → A
none_below p lt = absurd (omega (arith, lt))

pub view_at : (hs : List Name) (ss : List Slots) (p : ℕ) (n : Name) → are_apart hs ≡ true → p < length hs → name_of hs p ≡ n → view_of n (views_from hs ss) ≡ unwrap_or (slice_get ss p) no_slots
view_at [] ss p n apart lt e = none_below p lt
view_at (h ∷ hs) [] p n apart lt e = refl
view_at (h ∷ hs) (s ∷ ss) zero n apart lt e = ap (λ b. cond b s (view_of n (views_from hs ss))) (here n h e)
view_at (h ∷ hs) (s ∷ ss) (suc p) n apart lt e =
    let few = below_rest h hs p lt in
    ap (λ b. cond b s (view_of n (views_from hs ss))) (further h hs p n apart few e) ∙ view_at hs ss p n (apart_rest h hs apart) few e

pub later_at : (hs : List Name) (ls : List Since) (p : ℕ) (n : Name) → are_apart hs ≡ true → p < length hs → name_of hs p ≡ n → later_of n (laters_from hs ls) ≡ unwrap_or (slice_get ls p) no_since
later_at [] ls p n apart lt e = none_below p lt
later_at (h ∷ hs) [] p n apart lt e = refl
later_at (h ∷ hs) (l ∷ ls) zero n apart lt e = ap (λ b. cond b l (later_of n (laters_from hs ls))) (here n h e)
later_at (h ∷ hs) (l ∷ ls) (suc p) n apart lt e =
    let few = below_rest h hs p lt in
    ap (λ b. cond b l (later_of n (laters_from hs ls))) (further h hs p n apart few e) ∙ later_at hs ls p n (apart_rest h hs apart) few e

not_first : (a b : Bool) → a || b ≡ false → a ≡ false
not_first true b h = h
not_first false b h = refl

not_rest : (a b : Bool) → a || b ≡ false → b ≡ false
not_rest true b h = absurd (cc)
not_rest false b h = h

pub no_view : (hs : List Name) (ss : List Slots) (n : Name) → is_among n hs ≡ false → view_of n (views_from hs ss) ≡ no_slots
no_view [] ss n h = refl
no_view (m ∷ hs) [] n h = refl
no_view (m ∷ hs) (s ∷ ss) n h = ap (λ b. cond b s (view_of n (views_from hs ss))) (not_first (bytes_eq n m) (is_among n hs) h) ∙ no_view hs ss n (not_rest (bytes_eq n m) (is_among n hs) h)

pub no_later : (hs : List Name) (ls : List Since) (n : Name) → is_among n hs ≡ false → later_of n (laters_from hs ls) ≡ no_since
no_later [] ls n h = refl
no_later (m ∷ hs) [] n h = refl
no_later (m ∷ hs) (l ∷ ls) n h = ap (λ b. cond b l (later_of n (laters_from hs ls))) (not_first (bytes_eq n m) (is_among n hs) h) ∙ no_later hs ls n (not_rest (bytes_eq n m) (is_among n hs) h)

pub view_there : (hs : List Name) (ss : List Slots) (n : Name) → length ss ≡ length hs → is_among n hs ≡ has_view n (views_from hs ss)
view_there [] ss n e = refl
view_there (m ∷ hs) [] n e = absurd (omega (arith, e))
view_there (m ∷ hs) (s ∷ ss) n e = ap (λ b. bytes_eq n m || b) (view_there hs ss n (omega (arith, e)))

pub host_among : (n : Name) (xs : List HostVariables) → is_host n xs ≡ is_among n (map (λ h. h.name) xs)
host_among n [] = refl
host_among n (x ∷ xs) = ap (λ b. bytes_eq n x.name || b) (host_among n xs)

-- the name of the host at a place
pub name_there : (xs : List HostVariables) (p : ℕ) (n : Name) → option_map (λ h. h.name) (slice_get xs p) ≡ Some n → name_of (map (λ h. h.name) xs) p ≡ n
name_there xs p n e = get_or_from_slice_get (map (λ h. h.name) xs) p n [] (slice_get-map (λ h. h.name) xs p ∙ e)

pub host_there : {A : Type 0} (f : Name → A) (xs : List HostVariables) (p : ℕ) → p < length xs → option_map (λ h. f h.name) (slice_get xs p) ≡ Some (f (name_of (map (λ h. h.name) xs) p))
host_there f [] p lt = none_below p lt
host_there f (x ∷ xs) zero lt = refl
host_there f (x ∷ xs) (suc p) lt = host_there f xs p (omega (arith, lt))

pub view_slots_at : (hs : List Name) (ss : List Slots) (p : ℕ) → length ss ≡ length hs → p < length hs → option_map (λ v. v.slots) (slice_get (views_from hs ss) p) ≡ slice_get ss p
view_slots_at [] ss p e lt = none_below p lt
view_slots_at (h ∷ hs) [] p e lt = absurd (omega (arith, e))
view_slots_at (h ∷ hs) (s ∷ ss) zero e lt = refl
view_slots_at (h ∷ hs) (s ∷ ss) (suc p) e lt = view_slots_at hs ss p (omega (arith, e)) (below_rest h hs p lt)

pub slots_of_views : (hs : List Name) (ss : List Slots) → length ss ≡ length hs → slots_in (views_from hs ss) ≡ ss
slots_of_views [] [] e = refl
slots_of_views [] (s ∷ ss) e = absurd (omega (arith, e))
slots_of_views (h ∷ hs) [] e = refl
slots_of_views (h ∷ hs) (s ∷ ss) e = ap (λ ts. s ∷ ts) (slots_of_views hs ss (omega (arith, e)))

-- the inventory's table
pub known_views_from : (xs : List HostVariables) → known_views xs ≡ views_from (map (λ h. h.name) xs) (map (λ h. known_slots h.variables) xs)
known_views_from [] = refl
known_views_from (x ∷ xs) = ap (λ vs. record { host = x.name; slots = known_slots x.variables } ∷ vs) (known_views_from xs)

-- slots of each host, each well formed
pub views_well : (hs : List Name) (ss : List Slots) → All (λ us. Well (recs us)) ss → WellViews (views_from hs ss)
views_well [] ss w g = (refl, tt)
views_well (h ∷ hs) [] w g = (refl, tt)
views_well (h ∷ hs) (s ∷ ss) w g =
    either (bytes_eq g h) s (view_of g (views_from hs ss)) (All-head (λ us. Well (recs us)) s ss w) (views_well hs ss (All-tail (λ us. Well (recs us)) s ss w) g) where
      either : (q : Bool) (us ts : Slots) → Well (recs us) → Well (recs ts) → Well (recs (cond q us ts))
      either true us ts v x = v
      either false us ts v x = x

-- an element that is read
pub slots_at : (ms : List (Arc (BTreeMap (String Global) (Slot Kind)) Global)) (p : ℕ) (m : Arc (BTreeMap (String Global) (Slot Kind)) Global) → p < length ms → m ≡ get_or ms p m → slice_get (slots_of_each ms) p ≡ Some (slots_view m.value.entries)
slots_at ms p m lt e = slice_get-map (λ (x : Arc (BTreeMap (String Global) (Slot Kind)) Global). slots_view x.value.entries) ms p ∙ ap (option_map (λ x. slots_view x.value.entries)) (slice_get_read ms (length ms) p m refl lt e)

-- what is known of a host by its name
pub view_read : (hs : List Name) (ms : List (Arc (BTreeMap (String Global) (Slot Kind)) Global)) (p : ℕ) (n : Name) (m : Arc (BTreeMap (String Global) (Slot Kind)) Global) → are_apart hs ≡ true → length ms ≡ length hs → p < length hs
    → name_of hs p ≡ n → m ≡ get_or ms p m → slots_view m.value.entries ≡ view_of n (views_from hs (slots_of_each ms))
view_read hs ms p n m apart size lt name e =
    sym (view_at hs (slots_of_each ms) p n apart lt name ∙ ap (λ o. unwrap_or o no_slots) (slots_at ms p m (omega (arith, size)) e))

-- what a host has later by its name
pub later_read : (hs : List Name) (ns : List Name) (ls : List (Arc Lasting Global)) (p : ℕ) (n : Name) (l : Arc Lasting Global) → are_apart hs ≡ true → p < length ls → p < length hs → name_of hs p ≡ n
    → l ≡ get_or ls p l → later_of n (laters_from hs (map (λ x. since_view ns x.value) ls)) ≡ since_view ns l.value
later_read hs ns ls p n l apart few lt name e =
    later_at hs (map (λ x. since_view ns x.value) ls) p n apart lt name
    ∙ ap (λ o. unwrap_or o no_since) (slice_get-map (λ (x : Arc Lasting Global). since_view ns x.value) ls p ∙ ap (option_map (λ x. since_view ns x.value)) (slice_get_read ls (length ls) p l refl few e))

pub later_past : (hs : List Name) (ns : List Name) (ls : List (Arc Lasting Global)) (p : ℕ) (n : Name) → are_apart hs ≡ true → length ls ≤ p → p < length hs → name_of hs p ≡ n
    → later_of n (laters_from hs (map (λ x. since_view ns x.value) ls)) ≡ no_since
later_past hs ns ls p n apart le lt name =
    later_at hs (map (λ x. since_view ns x.value) ls) p n apart lt name
    ∙ ap (λ o. unwrap_or o no_since) (slice_get-map (λ (x : Arc Lasting Global). since_view ns x.value) ls p ∙ ap (option_map (λ x. since_view ns x.value)) (slice_get_past ls p le))
