-- What is found of all hosts, where some stand for others.
use denote.Ref.{Bor}
use Rattle.std.proofs.Common.{◌≡◌, ◌⊎◌, ◌<◌, ◌≤◌, get_or, arith, ℕ, zero, suc, List, [], ◌∷◌, ◌++◌, length, map, Option, Some, None, option_map, slice_get, false, inl, inr, refl, sym, ap, subst, ◌∙◌}
use Rattle.std.proofs.lemmas.List.{length-map}
use Rattle.std.proofs.lemmas.Option.{slice_get-get_or, slice_get-map, slice_get_within}
use Rattle.pb_semantics.specs.Kind.{Slots}
use Rattle.pb_language.specs.Kinds.{known_slots}
use Rattle.pb_language.specs.Program.{Inventory, Program}
use Rattle.pb_language.specs.Scope.{Later, View, view_of}
use Rattle.pb_language.specs.Tables.{known_views}
use Rattle.pb_language.specs.World.{HostVariables}
use Rattle.pb_walks.specs.Alone.{plays_read_others}
use Rattle.pb_walks.proofs.SameWalks.{known_views_agree}
use Rattle.pb_alike.specs.Alike.{LookAlike}
use Rattle.pb_alike.specs.Named.{plays_read_name}
use Rattle.pb_inventory.specs.Inventory.{inventory_view}
use Rattle.pb_inventory.specs.declared.inventory.Inventory as read
use Rattle.pb_hosts.proofs.Places.{apart_hosts, known_views_from}
use Rattle.pb_tables.specs.Ends.{AreAlike, AreEnds, AreShared, found_in}
use Rattle.pb_tables.specs.Found.{HostFinds}
use Rattle.pb_tables.specs.Rounds.{seen_of}
use Rattle.pb_tables.specs.declared.end.HostEnd.{HostEnd}
use Rattle.pb_tables.specs.declared.host.HostFound.{HostFound}
use Rattle.pb_tables.proofs.Rounded.{nobody}
use Rattle.pb_tables.proofs.Sharing.{Laws, found_alike}
use Rattle.pb_tables.proofs.Viewed.{seen_all}

-- ---- what is found of each, one host more

last_there : {A : Type 0} (xs : List A) (x y : A) (n : ℕ) → slice_get (xs ++ x ∷ []) n ≡ Some y → (slice_get xs n ≡ Some y) ⊎ ((n ≡ length xs) × (x ≡ y))
last_there [] x y zero at = inr (refl, cc)
last_there [] x y (suc n) at = absurd (cc)
last_there (z ∷ xs) x y zero at = inl at
last_there (z ∷ xs) x y (suc n) at = elim (last_there xs x y n at) [
  | inl h ↦ inl h
  | inr h ↦ inr (ap suc h.0, h.1)
]

module _ (i : Inventory) (ps : Program) (vs : List View) (ls : List (List Later)) where
  pub no_ends : AreEnds i ps vs ls []
  no_ends = λ h x e at there. absurd (cc)

  pub ends_more : (es : List HostEnd) (e : HostEnd) → AreEnds i ps vs ls es → ((x : HostVariables) → slice_get i.hosts (length es) ≡ Some x → HostFinds i ps vs ls x (found_in e)) → AreEnds i ps vs ls (es ++ e ∷ [])
  ends_more es e before here = λ h x d at there. elim (last_there es e d h at) [
    | inl a ↦ before h x d a there
    | inr a ↦ subst (λ (c : HostEnd). HostFinds i ps vs ls x (found_in c)) a.1 (here x (subst (λ n. slice_get i.hosts n ≡ Some x) a.0 there))
  ]

  -- what was found of the host that stands for it, where there is one, or on its own way
  pub end_found : (firsts : List ℕ) (es : List HostEnd) (o : Option (Bor HostEnd)) (e : HostEnd) (x : HostVariables) (h : ℕ)
      → ((d : HostEnd) → option_map (λ r. r.now) o ≡ Some d → (f : ℕ) × (slice_get firsts h ≡ Some f) × (slice_get es f ≡ Some d))
      → ((d : HostEnd) → option_map (λ r. r.now) o ≡ Some d → found_in e ≡ found_in d) → (option_map (λ r. r.now) o ≡ None → HostFinds i ps vs ls x (found_in e))
      → AreShared i ps vs ls firsts → AreEnds i ps vs ls es → length es ≤ length i.hosts → slice_get i.hosts h ≡ Some x → HostFinds i ps vs ls x (found_in e)
  end_found firsts es None e x h told same walked shared ends few at = walked refl
  end_found firsts es (Some r) e x h told same walked shared ends few at =
      let first = told r.now refl in
      let f = first.0 in
      let made : f < length es = slice_get_within es f r.now first.2 in
      let y = get_or i.hosts f nobody in
      let there : slice_get i.hosts f ≡ Some y = slice_get-get_or i.hosts f nobody (omega (arith, made, few)) in
      subst (λ (g : HostFound). HostFinds i ps vs ls x g) (sym (same r.now refl)) (shared h f y x (found_in r.now) first.1 there at (ends f y r.now first.2 there))

  pub none_shared : AreShared i ps vs ls []
  none_shared = λ h f x y found first a b. absurd (cc)

-- ---- hosts that look alike

abbrev known : HostVariables → Slots
known h = known_slots h.variables

-- what others see of a host by what the inventory says
seen_known : (j : read.Inventory) (h : ℕ) (x : HostVariables) → slice_get (inventory_view j).hosts h ≡ Some x → view_of x.name (known_views (inventory_view j).hosts) ≡ known x
seen_known j h x at =
    let xs = (inventory_view j).hosts in
    let vs = known_views xs in
    let all : seen_of vs xs ≡ map known xs = ap (λ us. seen_of us xs) (known_views_from xs) ∙ seen_all xs (map known xs) (apart_hosts j) (length-map xs known) in
    let both : Some (view_of x.name vs) ≡ Some (known x) =
    ap (option_map (λ (y : HostVariables). view_of y.name vs)) (sym at) ∙ sym (slice_get-map (λ (y : HostVariables). view_of y.name vs) xs h)
    ∙ ap (λ ss. slice_get ss h) all ∙ slice_get-map known xs h ∙ ap (option_map known) at in
    cc

pub alike_shared : Laws → (j : read.Inventory) (ps : Program) (ls : List (List Later)) (firsts : List ℕ) → plays_read_others ps ≡ false → plays_read_name ps ≡ false → AreAlike (inventory_view j) ps firsts
    → AreShared (inventory_view j) ps (known_views (inventory_view j).hosts) ls firsts
alike_shared laws j ps ls firsts others name alike = λ h f x y found first a b finds.
    let i = inventory_view j in
    let look = alike h f x y first a b in
    found_alike laws i ps (known_views i.hosts) ls (known_views_agree i).well x y look others name (seen_known j f x a ∙ look.known ∙ sym (seen_known j h y b)) found finds

-- the same, in words that are equal
pub standing_shared : Laws → (j : read.Inventory) (ps : Program) (firsts gs : List ℕ) (vs : List View) → vs ≡ known_views (inventory_view j).hosts → gs ≡ firsts → plays_read_others ps ≡ false → plays_read_name ps ≡ false
    → AreAlike (inventory_view j) ps firsts → AreShared (inventory_view j) ps vs [] gs
standing_shared laws j ps firsts gs vs views same others name alike =
    subst (λ us. AreShared (inventory_view j) ps us [] gs) (sym views) (subst (AreShared (inventory_view j) ps (known_views (inventory_view j).hosts) []) (sym same) (alike_shared laws j ps [] firsts others name alike))

module _ (i : Inventory) (ps : Program) where
  pub none_alike : AreAlike i ps []
  none_alike = λ h f x y first a b. absurd (cc)

  pub alike_more : (fs : List ℕ) (f : ℕ) → AreAlike i ps fs → ((x y : HostVariables) → slice_get i.hosts f ≡ Some x → slice_get i.hosts (length fs) ≡ Some y → LookAlike i ps x y) → AreAlike i ps (fs ++ f ∷ [])
  alike_more fs f before here = λ h g x y first a b. elim (last_there fs f g h first) [
    | inl at ↦ before h g x y at a b
    | inr at ↦ here x y (subst (λ n. slice_get i.hosts n ≡ Some x) (sym at.1) a) (subst (λ n. slice_get i.hosts n ≡ Some y) at.0 b)
  ]
