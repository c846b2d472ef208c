-- From which places on a host has its variables, play by play.
use Rattle.std.proofs.Common.{◌≡◌, ℕ, suc, ◌<◌, ◌≤◌, List, [], ◌∷◌, ◌++◌, length, drop, Bool, true, false, cond, Some, slice_get, append_assoc, refl, sym, ap, subst}
use Rattle.std.proofs.lemmas.List.{append-nil, drop_all}
use Rattle.pb_semantics.specs.Keeps.{is_among}
use Rattle.pb_language.specs.Expression.{Name}
use Rattle.pb_language.specs.Judgement.{Exit, dead, live}
use Rattle.pb_language.specs.Kinds.{known_slots}
use Rattle.pb_language.specs.Program.{Inventory, Play, Program, setting_of}
use Rattle.pb_language.specs.Scope.{Since, View, every_name, is_later, no_since}
use Rattle.pb_language.specs.Tables.{PlayWalk, after_first, known_views, since_first}
use Rattle.pb_language.specs.Wells.{WellExit, WellViews}
use Rattle.pb_language.specs.World.{HostVariables}
use Rattle.pb_language.proofs.WellKinds.{well_known_slots}
use Rattle.pb_inventory.specs.Inventory.{inventory_view}
use Rattle.pb_inventory.specs.declared.inventory.Inventory as read
use Rattle.pb_walks.specs.Agree.{ExitsAgree}
use Rattle.pb_hosts.specs.Tables.{since_view}
use Rattle.pb_hosts.specs.declared.lasting.Lasting.{Lasting}
use Rattle.pb_tables.specs.Found.{AllLast, HostLasts}
use Rattle.pb_tables.specs.Played.{PlayLasts}
use Rattle.pb_tables.specs.Scenes.{AreScenes, IsScene}
use Rattle.pb_tables.specs.declared.scene.Scene.{Scene}
use Rattle.pb_tables.proofs.HostDrops.{here_and_rest}
use Rattle.pb_tables.proofs.HostWalks.{WaysFrom, no_ways, ways_named, ways_unnamed}

-- from which places on a host has its variables on its way through plays from an exit
pub record PlaysLast (ns : List Name) (i : Inventory) (views : List View) (h : Name) (ps : Program) (from : Exit) (ls : List Lasting) : Type 0 where
  pub ways : List PlayWalk
  pub agree : WaysFrom i views h ps [] from ways
  pub lasts : AllLast ns ps h ways ls

named_first : (q : Bool) (w : PlayWalk) (ws : List PlayWalk) (l : Since) (p : ℕ) (x : Name) → q ≡ true → is_later l p x ≡ is_later (since_first (w ∷ ws)) p x → is_later l p x ≡ is_later (cond q (since_first (w ∷ ws)) (every_name 0 no_since)) p x
named_first true w ws l p x h e = e
named_first false w ws l p x h e = absurd (cc)

named_rest : (q : Bool) (w : PlayWalk) (ws : List PlayWalk) → q ≡ true → ws ≡ after_first q (w ∷ ws)
named_rest true w ws h = refl
named_rest false w ws h = absurd (cc)

other_first : (q : Bool) (s l : Since) → q ≡ false → l ≡ every_name 0 no_since → l ≡ cond q s (every_name 0 no_since)
other_first true s l h e = absurd (cc)
other_first false s l h e = e

other_rest : (q : Bool) (ws : List PlayWalk) → q ≡ false → ws ≡ after_first q ws
other_rest true ws h = absurd (cc)
other_rest false ws h = refl

module _ (ns : List Name) (i : Inventory) (views : List View) (wv : WellViews views) (h : Name) where
  nothing_lasts : (from : Exit) → PlaysLast ns i views h [] from []
  nothing_lasts from = record { ways = []; agree = no_ways i views h [] from; lasts = refl }

  lasts_named : (p : Play) (ps : Program) (from to : Exit) (l : Lasting) (ls : List Lasting) → is_among h p.hosts ≡ true → WellExit from → PlayLasts ns (setting_of i p views [] h) p.row from to l → PlaysLast ns i views h ps to ls
      → PlaysLast ns i views h (p ∷ ps) from (l ∷ ls)
  lasts_named p ps from to l ls named w x y =
      let one : PlayWalk = record { play = p; walked = record { visits = x.visits; well = to; hurt = dead } } in
      record {
        ways = one ∷ y.ways;
        agree = ways_named i views h p ps [] from to x.visits y.ways wv w x.way.well named x.way.visits x.way.ends y.agree;
        lasts = (
          λ q n. named_first (is_among h p.hosts) one y.ways (since_view ns l) q n named (x.lasts.at q n),
          subst (λ ws. AllLast ns ps h ws ls) (named_rest (is_among h p.hosts) one y.ways named) y.lasts,
        );
      }

  lasts_unnamed : (p : Play) (ps : Program) (from to : Exit) (l : Lasting) (ls : List Lasting) → is_among h p.hosts ≡ false → since_view ns l ≡ every_name 0 no_since → to ≡ from → PlaysLast ns i views h ps to ls
      → PlaysLast ns i views h (p ∷ ps) from (l ∷ ls)
  lasts_unnamed p ps from to l ls unnamed every stays y =
      let z = subst (λ (e : Exit). PlaysLast ns i views h ps e ls) stays y in
      record {
        ways = z.ways;
        agree = ways_unnamed i views h p ps [] from z.ways unnamed z.agree;
        lasts = (
          λ q n. ap (λ s. is_later s q n) (other_first (is_among h p.hosts) (since_first z.ways) (since_view ns l) unnamed every),
          subst (λ ws. AllLast ns ps h ws ls) (other_rest (is_among h p.hosts) z.ways unnamed) z.lasts,
        );
      }

module _ (ns : List Name) (inventory : read.Inventory) (views : List View) (scenes : List Scene) (x : HostVariables) where
  -- what the host has once the plays from that number on are done
  abbrev pub LeftLasting : Program → ℕ → Exit → List Lasting → Type 0
  LeftLasting ps n from done = (qs : Program) × AreScenes inventory qs (drop n scenes)
      × ((ls : List Lasting) → PlaysLast ns (inventory_view inventory) views x.name qs from ls → HostLasts ns (inventory_view inventory) ps x (done ++ ls))

  -- in a play, whether it names the host or not
  pub record LastingStep (n : ℕ) (from to : Exit) (l : Lasting) : Type 0 where
    pub named : (s : Scene) (p : Play) → slice_get scenes n ≡ Some s → IsScene inventory p s → is_among x.name p.hosts ≡ true → PlayLasts ns (setting_of (inventory_view inventory) p views [] x.name) p.row from to l
    pub others : (s : Scene) (p : Play) → slice_get scenes n ≡ Some s → IsScene inventory p s → is_among x.name p.hosts ≡ false → (since_view ns l ≡ every_name 0 no_since) × (to ≡ from)

  -- from what the inventory says of the host on
  pub lasting_start : (ps : Program) (from : Exit) → views ≡ known_views (inventory_view inventory).hosts → ExitsAgree from (live (known_slots x.variables)) → AreScenes inventory ps scenes → LeftLasting ps 0 from []
  lasting_start ps from known begins a = (
    ps,
    a,
    λ ls y.
        let z = subst (λ (vs : List View). PlaysLast ns (inventory_view inventory) vs x.name ps from ls) known y in
        record {
          walk = record { host = x.name; plays = z.ways };
          agrees = record { host = refl; plays = z.agree (live (known_slots x.variables)) (well_known_slots x.variables) begins };
          lasts = z.lasts;
        },
  )

  module _ (wv : WellViews views) where
    either : (q : Bool) (s : Scene) (p : Play) (qs : Program) (n : ℕ) (from to : Exit) (l : Lasting) (ls : List Lasting) → is_among x.name p.hosts ≡ q → slice_get scenes n ≡ Some s → IsScene inventory p s → WellExit from → LastingStep n from to l
        → PlaysLast ns (inventory_view inventory) views x.name qs to ls → PlaysLast ns (inventory_view inventory) views x.name (p ∷ qs) from (l ∷ ls)
    either true s p qs n from to l ls h is a w step y = lasts_named ns (inventory_view inventory) views wv x.name p qs from to l ls h w (step.named s p is a h) y
    either false s p qs n from to l ls h is a w step y =
        let same = step.others s p is a h in
        lasts_unnamed ns (inventory_view inventory) views wv x.name p qs from to l ls h same.0 same.1 y

    one_less : (ps qs : Program) (n : ℕ) (s : Scene) (from to : Exit) (done : List Lasting) (l : Lasting) → slice_get scenes n ≡ Some s → AreScenes inventory qs (s ∷ drop (suc n) scenes) → WellExit from → LastingStep n from to l
        → ((ls : List Lasting) → PlaysLast ns (inventory_view inventory) views x.name qs from ls → HostLasts ns (inventory_view inventory) ps x (done ++ ls)) → LeftLasting ps (suc n) to (done ++ l ∷ [])
    one_less ps [] n s from to done l is a w step go = absurd a
    one_less ps (p ∷ qs) n s from to done l is a w step go = (
      qs,
      a.1,
      λ ls y. subst (HostLasts ns (inventory_view inventory) ps x) (sym (append_assoc done (l ∷ []) ls)) (go (l ∷ ls) (either (is_among x.name p.hosts) s p qs n from to l ls refl is a.0 w step y)),
    )

    pub next_lasting : (ps : Program) (n : ℕ) (from to : Exit) (done : List Lasting) (l : Lasting) → n < length scenes → WellExit from → LastingStep n from to l → LeftLasting ps n from done → LeftLasting ps (suc n) to (done ++ l ∷ [])
    next_lasting ps n from to done l lt w step left =
        let here = here_and_rest scenes n lt in
        one_less ps left.0 n here.0 from to done l here.1 (subst (AreScenes inventory left.0) here.2 left.1) w step left.2

    none_more : (ps qs : Program) (from : Exit) (done : List Lasting) → AreScenes inventory qs [] → ((ls : List Lasting) → PlaysLast ns (inventory_view inventory) views x.name qs from ls → HostLasts ns (inventory_view inventory) ps x (done ++ ls))
        → HostLasts ns (inventory_view inventory) ps x done
    none_more ps [] from done a go = subst (HostLasts ns (inventory_view inventory) ps x) (append-nil done) (go [] (nothing_lasts ns (inventory_view inventory) views wv x.name from))
    none_more ps (p ∷ qs) from done a go = absurd a

    pub all_lasting : (ps : Program) (n : ℕ) (from : Exit) (done : List Lasting) → length scenes ≤ n → LeftLasting ps n from done → HostLasts ns (inventory_view inventory) ps x done
    all_lasting ps n from done past left = none_more ps left.0 from done (subst (AreScenes inventory left.0) (drop_all n scenes past) left.1) left.2
