-- Hosts that look alike, play by play and host by host.
use Rattle.std.proofs.Common.{◌≡◌, ◌∙◌, ℕ, suc, ◌<◌, ◌≤◌, List, [], ◌∷◌, length, drop, get_or, map, Bool, true, false, not, Option, Some, option_map, slice_get, String, Global, string_bytes, refl, sym, ap, subst}
use Rattle.std.proofs.Math.Bool.{beq}
use Rattle.std.proofs.lemmas.List.{drop_all, length-map}
use Rattle.std.proofs.lemmas.Option.{slice_get-map}
use Rattle.std.specs.declared.sync.Arc.{Arc}
use Rattle.pb_semantics.specs.Keeps.{is_among}
use Rattle.pb_semantics.specs.Kind.{Slots, no_slots}
use Rattle.pb_language.specs.Expression.{Name}
use Rattle.pb_language.specs.Kinds.{known_slots}
use Rattle.pb_language.specs.Program.{Inventory, Play, Program, memberships_of}
use Rattle.pb_language.specs.Tables.{known_views}
use Rattle.pb_language.specs.World.{HostVariables}
use Rattle.pb_alike.specs.Alike.{LookAlike, SamePlays}
use Rattle.pb_inventory.specs.Inventory.{inventory_view}
use Rattle.pb_inventory.specs.declared.inventory.Inventory as read
use Rattle.pb_hosts.specs.Shown.{views_view}
use Rattle.pb_hosts.specs.Tables.{slots_in}
use Rattle.pb_tables.specs.Scenes.{AreScenes, IsScene}
use Rattle.pb_tables.specs.declared.scene.Scene.{Scene}
use Rattle.pb_tables.specs.declared.table.Stage.{Stage}
use Rattle.pb_tables.proofs.HostDrops.{here_and_rest}
use Rattle.pb_tables.proofs.HostSeen.{one_of}

module _ (inventory : read.Inventory) (scenes : List Scene) (x y : HostVariables) where
  -- the plays name both or neither where those from that number on do
  abbrev pub SameLeft : Program → ℕ → Type 0
  SameLeft ps n = (qs : Program) × AreScenes inventory qs (drop n scenes) × (SamePlays qs x.name y.name → SamePlays ps x.name y.name)

  one_less : (ps qs : Program) (n : ℕ) (s : Scene) → AreScenes inventory qs (s ∷ drop (suc n) scenes) → ((p : Play) → IsScene inventory p s → is_among x.name p.hosts ≡ is_among y.name p.hosts)
      → (SamePlays qs x.name y.name → SamePlays ps x.name y.name) → SameLeft ps (suc n)
  one_less ps [] n s a same go = absurd a
  one_less ps (p ∷ qs) n s a same go = (qs, a.1, λ rest. go (same p a.0, rest))

  pub same_next : (ps : Program) (n : ℕ) → n < length scenes → ((s : Scene) (p : Play) → slice_get scenes n ≡ Some s → IsScene inventory p s → is_among x.name p.hosts ≡ is_among y.name p.hosts)
      → SameLeft ps n → SameLeft ps (suc n)
  same_next ps n lt same left =
      let here = here_and_rest scenes n lt in
      one_less ps left.0 n here.0 (subst (AreScenes inventory left.0) here.2 left.1) (λ p is. same here.0 p here.1 is) left.2

  none_more : (ps qs : Program) → AreScenes inventory qs [] → (SamePlays qs x.name y.name → SamePlays ps x.name y.name) → SamePlays ps x.name y.name
  none_more ps [] a go = go tt
  none_more ps (p ∷ qs) a go = absurd a

  pub same_all : (ps : Program) (n : ℕ) → length scenes ≤ n → SameLeft ps n → SamePlays ps x.name y.name
  same_all ps n past left = none_more ps left.0 (subst (AreScenes inventory left.0) (drop_all n scenes past) left.1) left.2

-- ---- hosts of which the same is known

abbrev known : HostVariables → Slots
known h = known_slots h.variables

known_in : (xs : List HostVariables) → slots_in (known_views xs) ≡ map known xs
known_in [] = refl
known_in (x ∷ xs) = ap (λ ss. known x ∷ ss) (known_in xs)

module _ (s : Stage) where
  abbrev hosts : List HostVariables
  hosts = (inventory_view s.inventory.now).hosts

  abbrev said_of : List Slots
  said_of = slots_in (views_view s.known.now)

  -- of each host, in host order
  said_known : said_of ≡ map known hosts
  said_known = ap slots_in s.said ∙ known_in hosts

  -- there is a first for each host
  pub has_first : (p : ℕ) → p < length hosts → p < length s.firsts.now
  has_first p lt =
      let each : length s.firsts.now ≡ length hosts = sym (length-map s.firsts.now (λ f. get_or said_of f no_slots)) ∙ ap length s.shared ∙ ap length said_known ∙ length-map hosts known in
      subst (λ n. p < n) (sym each) lt

  -- of a host the same is known as of its first
  as_of_first : (p f : ℕ) (x : HostVariables) → slice_get s.firsts.now p ≡ Some f → slice_get hosts p ≡ Some x → Some (known x) ≡ Some (get_or said_of f no_slots)
  as_of_first p f x first at =
      ap (option_map known) (sym at) ∙ sym (slice_get-map known hosts p) ∙ ap (λ ss. slice_get ss p) (sym said_known ∙ sym s.shared)
      ∙ slice_get-map (λ g. get_or said_of g no_slots) s.firsts.now p ∙ ap (option_map (λ g. get_or said_of g no_slots)) first

  pub same_known : (p q f : ℕ) (x y : HostVariables) → slice_get s.firsts.now p ≡ Some f → slice_get s.firsts.now q ≡ Some f → slice_get hosts p ≡ Some x → slice_get hosts q ≡ Some y → known_slots x.variables ≡ known_slots y.variables
  same_known p q f x y one other a b =
      let both : Some (known x) ≡ Some (known y) = as_of_first p f x one a ∙ sym (as_of_first q f y other b) in
      cc

-- ---- hosts in equally many groups

pub so_many_groups : (i : Inventory) (o : Option HostVariables) (x : HostVariables) (ns : List (Arc (String Global) Global)) → option_map (λ h. memberships_of h.name i.groups) o ≡ Some (map (λ n. string_bytes n.value) ns) → o ≡ Some x
    → length (memberships_of x.name i.groups) ≡ length ns
so_many_groups i o x ns told at =
    let its : memberships_of x.name i.groups ≡ map (λ (n : Arc (String Global) Global). string_bytes n.value) ns = one_of (λ (h : HostVariables). memberships_of h.name i.groups) o x (map (λ n. string_bytes n.value) ns) told at in
    ap length its ∙ length-map ns (λ n. string_bytes n.value)

-- ---- a host looks like itself

own_plays : (ps : Program) (h : Name) → SamePlays ps h h
own_plays [] h = tt
own_plays (p ∷ ps) h = (refl, own_plays ps h)

pub own_look : (i : Inventory) (ps : Program) (o : Option HostVariables) (x y : HostVariables) → o ≡ Some x → o ≡ Some y → LookAlike i ps x y
own_look i ps o x y a b =
    let both : Some x ≡ Some y = sym a ∙ b in
    let same : x ≡ y = cc in
    subst (λ (z : HostVariables). LookAlike i ps x z) same (record { known = refl; memberships = refl; plays = own_plays ps x.name })

pub same_answers : (a b : Bool) → not (beq a b) ≡ false → a ≡ b
same_answers true true h = refl
same_answers true false h = absurd (cc)
same_answers false true h = absurd (cc)
same_answers false false h = refl
