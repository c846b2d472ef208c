-- What a host of a play sees, as the play's setting.
use denote.Ref.{Bor}
use Rattle.std.proofs.Common.{◌≡◌, ◌∙◌, ℕ, zero, suc, ◌<◌, List, [], ◌∷◌, Bool, Option, Some, None, length, get_or, map, option_map, slice_get, refl, sym, ap, subst}
use Rattle.std.proofs.lemmas.Option.{slice_get-get_or}
use Rattle.std.specs.Option.{option_copied}
use Rattle.pb_semantics.specs.Keeps.{is_among}
use Rattle.pb_semantics.specs.Kind.{Slots}
use Rattle.pb_language.specs.Expression.{Name}
use Rattle.pb_language.specs.Judgement.{Exit}
use Rattle.pb_language.specs.Kinds.{known_slots}
use Rattle.pb_language.specs.Notify.{HandlerNames}
use Rattle.pb_language.specs.Plays.{names_of_handlers}
use Rattle.pb_language.specs.Program.{Inventory, Play, memberships_of, setting_of}
use Rattle.pb_language.specs.Scope.{Later, View}
use Rattle.pb_language.specs.Setting.{Setting}
use Rattle.pb_language.specs.Tables.{known_views}
use Rattle.pb_language.specs.Task.{Row}
use Rattle.pb_language.specs.World.{HostVariables}
use Rattle.pb_inventory.specs.Inventory.{inventory_view}
use Rattle.pb_inventory.specs.declared.inventory.Inventory as read
use Rattle.pb_play.specs.Plays.{handler_view}
use Rattle.pb_hosts.specs.Casts.{cast_hosts}
use Rattle.pb_hosts.specs.Shown.{views_view}
use Rattle.pb_hosts.specs.Sights.{laters_view, seen_setting}
use Rattle.pb_hosts.specs.declared.cast.Cast.{Cast}
use Rattle.pb_hosts.specs.declared.constants.Constants.{Constants}
use Rattle.pb_hosts.specs.declared.lasting.Lasting.{Lasting}
use Rattle.pb_hosts.specs.declared.seen.Laters.{Laters}
use Rattle.pb_hosts.specs.declared.seen.Seen.{Seen}
use Rattle.pb_hosts.specs.declared.views.Views.{Views}
use Rattle.pb_tables.specs.Played.{PlayFinds, PlayLasts, laters_here}
use Rattle.pb_tables.specs.Scenes.{IsScene}
use Rattle.pb_tables.specs.declared.host.HostFound.{HostFound}
use Rattle.pb_tables.specs.declared.scene.Scene.{Scene}

-- what is found at a place is one thing
pub one_there : {A : Type 0} (xs : List A) (i : ℕ) (d x : A) → i < length xs → slice_get xs i ≡ Some x → get_or xs i d ≡ x
one_there xs i d x lt h = let both : Some (get_or xs i d) ≡ Some x = sym (slice_get-get_or xs i d lt) ∙ h in cc

pub one_of : {A B : Type 0} (f : A → B) (o : Option A) (x : A) (y : B) → option_map f o ≡ Some y → o ≡ Some x → f x ≡ y
one_of f o x y h i = let both : Some (f x) ≡ Some y = ap (option_map f) (sym i) ∙ h in cc

-- what the inventory says of the host at a place
pub known_there : (xs : List HostVariables) (i : ℕ) → option_map (λ v. v.slots) (slice_get (known_views xs) i) ≡ option_map (λ h. known_slots h.variables) (slice_get xs i)
known_there [] i = refl
known_there (x ∷ xs) zero = refl
known_there (x ∷ xs) (suc i) = known_there xs i

-- a setting, part by part
abbrev made : Inventory → List Name → List HandlerNames → List View → List Later → Name → Setting
made i hosts handlers views laters h = record {
  this = h;
  groups = i.groups;
  memberships = memberships_of h i.groups;
  play_hosts = hosts;
  handlers = handlers;
  views = views;
  laters = laters;
}

same_made : (i j : Inventory) (hosts hosts-too : List Name) (handlers handlers-too : List HandlerNames) (views : List View) (ls ms : List Later) (h g : Name) → i ≡ j → hosts ≡ hosts-too → handlers ≡ handlers-too → ls ≡ ms → h ≡ g
    → made i hosts handlers views ls h ≡ made j hosts-too handlers-too views ms g
same_made i j hosts hosts-too handlers handlers-too views ls ms h g a b d e f =
    ap (λ x. made x hosts handlers views ls h) a ∙ ap (λ x. made j x handlers views ls h) b ∙ ap (λ x. made j hosts-too x views ls h) d ∙ ap (λ x. made j hosts-too handlers-too views x h) e ∙ ap (λ x. made j hosts-too handlers-too views ms x) f

pub seen_there : (s : Seen) (scene : Scene) (cast : Bor Cast) (constants : Bor Constants) (views : Bor Views) (laters : Option (Bor Laters)) (i : read.Inventory) (p : Play) (h : Name) (ls : List Later)
    → s.cast ≡ cast → s.constants ≡ constants → s.views ≡ views → s.laters ≡ laters → constants.now.name.now ≡ h → cast.now ≡ scene.cast → IsScene i p scene → laters_view (inventory_view i) laters ≡ ls
    → seen_setting s ≡ setting_of (inventory_view i) p (views_view views.now) ls h
seen_there s scene cast constants views laters i p h ls a k b d e f is known =
    let c = s.cast.now in
    let same : c ≡ scene.cast = ap (λ (x : Bor Cast). x.now) a ∙ f in
    let its : inventory_view c.inventory.now ≡ inventory_view i = ap (λ (x : Cast). inventory_view x.inventory.now) same ∙ ap inventory_view is.inventory in
    same_made (inventory_view c.inventory.now) (inventory_view i) (cast_hosts c) p.hosts (names_of_handlers (map handler_view c.play.now.handlers.items)) p.handlers (views_view s.views.now) (laters_view (inventory_view c.inventory.now) s.laters) ls s.constants.now.name.now h its
    (ap cast_hosts same ∙ is.hosts) (ap (λ (x : Cast). names_of_handlers (map handler_view x.play.now.handlers.items)) same ∙ is.handlers)
    (ap (λ j. laters_view j s.laters) its ∙ ap (laters_view (inventory_view i)) d ∙ known) (ap (λ (x : Bor Constants). x.now.name.now) k ∙ e)
    ∙ ap (λ (v : Bor Views). setting_of (inventory_view i) p (views_view v.now) ls h) b

pub laters_lent : (i : Inventory) (o : Option (Bor Laters)) → laters_view i o ≡ laters_here i (option_copied o)
laters_lent i None = refl
laters_lent i (Some l) = refl

-- the same, in words that are equal
pub finds_as : (h : Name) (st su : Setting) (row rest : Row) (view seen : Slots) (from to : Exit) (old new : HostFound) → st ≡ su → row ≡ rest → view ≡ seen → PlayFinds h st row view from to old new → PlayFinds h su rest seen from to old new
finds_as h st su row rest view seen from to old new a b c x =
    subst (λ v. PlayFinds h su rest v from to old new) c (subst (λ r. PlayFinds h su r view from to old new) b (subst (λ s. PlayFinds h s row view from to old new) a x))

pub lasts_as : (ns ms : List Name) (st su : Setting) (row : Row) (from to : Exit) (l : Lasting) → ns ≡ ms → st ≡ su → PlayLasts ns st row from to l → PlayLasts ms su row from to l
lasts_as ns ms st su row from to l a b x = subst (λ s. PlayLasts ms s row from to l) b (subst (λ n. PlayLasts n st row from to l) a x)

-- whether the play names the host
pub named_in : (i : read.Inventory) (p : Play) (scene : Scene) (host : ℕ) (x : HostVariables) (b : Bool) → IsScene i p scene
    → option_map (λ h. is_among h.name (cast_hosts scene.cast)) (slice_get (inventory_view scene.cast.inventory.now).hosts host) ≡ Some b → slice_get (inventory_view i).hosts host ≡ Some x → is_among x.name p.hosts ≡ b
named_in i p scene host x b is has at =
    let there : slice_get (inventory_view scene.cast.inventory.now).hosts host ≡ Some x = ap (λ (j : read.Inventory). slice_get (inventory_view j).hosts host) is.inventory ∙ at in
    sym (ap (is_among x.name) is.hosts) ∙ one_of (λ (h : HostVariables). is_among h.name (cast_hosts scene.cast)) (slice_get (inventory_view scene.cast.inventory.now).hosts host) x b has there
