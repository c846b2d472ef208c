-- What is found of a host, play by play.
use Rattle.std.proofs.Common.{◌≡◌, ℕ, suc, ◌+◌, ◌<◌, ◌≤◌, List, [], ◌∷◌, length, drop, Bool, true, false, ◌&&◌, None, Some, slice_get, refl, sym, ap, subst, ◌∙◌, arith}
use Rattle.std.proofs.lemmas.List.{drop_all}
use Rattle.pb_semantics.specs.Keeps.{is_among}
use Rattle.pb_semantics.specs.Kind.{Slots, recs}
use Rattle.pb_semantics.specs.Well.{Well}
use Rattle.pb_language.specs.Expression.{Name}
use Rattle.pb_language.specs.Judgement.{Exit, dead, live}
use Rattle.pb_language.specs.Kinds.{known_slots}
use Rattle.pb_language.specs.Program.{Inventory, Play, Program, setting_of}
use Rattle.pb_language.specs.Scope.{Later, View, view_of}
use Rattle.pb_language.specs.Tables.{PlayWalk, first_laters, other_laters, plays_below, plays_calls, plays_walked, visits_below, with_plays}
use Rattle.pb_language.specs.Verdict.{lesser, plays_offence, visits_offence}
use Rattle.pb_language.specs.Walk.{walk}
use Rattle.pb_language.specs.Wells.{WellExit, WellViews}
use Rattle.pb_language.specs.World.{HostVariables}
use Rattle.pb_language.proofs.WellKinds.{well_known_slots}
use Rattle.pb_inventory.specs.Inventory.{inventory_view}
use Rattle.pb_inventory.specs.declared.inventory.Inventory as read
use Rattle.pb_walks.specs.Agree.{ExitsAgree, SlotsAgree}
use Rattle.pb_walks.specs.Notified.{PlaysNameHandlers}
use Rattle.pb_walks.proofs.Agreeing.{slots_own}
use Rattle.pb_find.specs.Finds.{offence_of}
use Rattle.pb_find.proofs.Offences.{lesser_assoc, lesser_none}
use Rattle.pb_find.proofs.Writes.{and_again, and_true, next_of}
use Rattle.pb_tables.specs.Found.{HostFinds}
use Rattle.pb_tables.specs.Played.{PlayFinds}
use Rattle.pb_tables.specs.Scenes.{AreScenes, IsScene}
use Rattle.pb_tables.specs.declared.host.HostFound.{HostFound}
use Rattle.pb_tables.specs.declared.scene.Scene.{Scene}
use Rattle.pb_tables.proofs.HostDrops.{here_and_rest, others_left}
use Rattle.pb_tables.proofs.HostWalks.{WaysFrom, exits_own, no_ways, ways_named, ways_unnamed}
use Rattle.pb_tables.proofs.HostWrites.{writes_then}

-- what is found on a host's way through plays from an exit, after what was found before
pub record PlaysFind (i : Inventory) (views : List View) (h : Name) (ps : Program) (ls : List (List Later)) (from : Exit) (old new : HostFound) : Type 0 where
  pub ways : List PlayWalk
  pub agree : WaysFrom i views h ps ls from ways
  pub fault : PlaysNameHandlers ways → offence_of h new.find.fault ≡ lesser (offence_of h old.find.fault) (plays_offence h ways)
  pub next : SlotsAgree (next_of new.find) (with_plays ways (next_of old.find))
  pub well : Well (recs (next_of new.find))
  pub settled : new.find.is_settled ≡ old.find.is_settled && plays_below ways (view_of h views)
  pub same : new.find.is_same ≡ true → (old.find.is_same ≡ true) × (next_of new.find ≡ next_of old.find)
  pub calls : new.calls ≡ old.calls + plays_calls ways

module _ (i : Inventory) (views : List View) (wv : WellViews views) (h : Name) where
  pub nothing_more : (ls : List (List Later)) (from : Exit) (f : HostFound) → Well (recs (next_of f.find)) → PlaysFind i views h [] ls from f f
  nothing_more ls from f w = record {
    ways = [];
    agree = no_ways i views h ls from;
    fault = λ n. sym (lesser_none (offence_of h f.find.fault));
    next = slots_own (next_of f.find) w;
    well = w;
    settled = and_true f.find.is_settled;
    same = λ e. (e, refl);
    calls = omega arith;
  }

  -- a play that names the host, and then others
  pub found_named : (p : Play) (ps : Program) (ls : List (List Later)) (from to : Exit) (old mid new : HostFound) → is_among h p.hosts ≡ true → WellExit from → Well (recs (next_of old.find))
      → PlayFinds h (setting_of i p views (first_laters ls) h) p.row (view_of h views) from to old mid → PlaysFind i views h ps (other_laters ls) to mid new → PlaysFind i views h (p ∷ ps) ls from old new
  found_named p ps ls from to old mid new named w wo x y =
      let view = view_of h views in
      let st = setting_of i p views (first_laters ls) h in
      let vs = x.visits in
      let one : PlayWalk = record { play = p; walked = record { visits = vs; well = to; hurt = dead } } in
      let f = x.finds in
      record {
        ways = one ∷ y.ways;
        agree = ways_named i views h p ps ls from to vs y.ways wv w x.way.well named x.way.visits x.way.ends y.agree;
        fault = λ n. y.fault n.1 ∙ ap (λ o. lesser o (plays_offence h y.ways)) (f.fault n.0) ∙ lesser_assoc (offence_of h old.find.fault) (visits_offence h vs) (plays_offence h y.ways);
        next = writes_then vs (walk st p.row from).visits y.ways (plays_walked i views h to ps (other_laters ls)) (next_of old.find) (next_of mid.find) (next_of new.find) x.way.visits (y.agree to x.way.well (exits_own to x.way.well)) wo f.well y.well f.next y.next;
        well = y.well;
        settled = y.settled ∙ ap (λ q. q && plays_below y.ways view) f.settled ∙ and_again old.find.is_settled (visits_below vs view) (plays_below y.ways view);
        same = λ e. let b = y.same e in let a = f.same b.0 in (a.0, b.1 ∙ a.1);
        calls = omega (arith, y.calls, x.calls);
      }

  pub found_unnamed : (p : Play) (ps : Program) (ls : List (List Later)) (from to : Exit) (old mid new : HostFound) → is_among h p.hosts ≡ false → mid ≡ old → to ≡ from
      → PlaysFind i views h ps (other_laters ls) to mid new → PlaysFind i views h (p ∷ ps) ls from old new
  found_unnamed p ps ls from to old mid new unnamed same stays y =
      let z = subst (λ (f : HostFound). PlaysFind i views h ps (other_laters ls) from f new) same (subst (λ (e : Exit). PlaysFind i views h ps (other_laters ls) e mid new) stays y) in
      record {
        ways = z.ways;
        agree = ways_unnamed i views h p ps ls from z.ways unnamed z.agree;
        fault = z.fault;
        next = z.next;
        well = z.well;
        settled = z.settled;
        same = z.same;
        calls = z.calls;
      }

module _ (i : Inventory) (views : List View) (x : HostVariables) where
  -- from what the inventory says of the host on
  pub found_all : (ps : Program) (ls : List (List Later)) (from : Exit) (old new : HostFound) → ExitsAgree from (live (known_slots x.variables)) → old.find.fault ≡ None → next_of old.find ≡ view_of x.name views
      → old.find.is_settled ≡ true → old.calls ≡ 0 → PlaysFind i views x.name ps ls from old new → HostFinds i ps views ls x new
  found_all ps ls from old new begins fault next settled calls y = record {
    walk = record { host = x.name; plays = y.ways };
    agrees = record { host = refl; plays = y.agree (live (known_slots x.variables)) (well_known_slots x.variables) begins };
    fault = λ n. y.fault n ∙ ap (λ o. lesser (offence_of x.name o) (plays_offence x.name y.ways)) fault;
    next = subst (λ (ss : Slots). SlotsAgree (next_of new.find) (with_plays y.ways ss)) next y.next;
    well = y.well;
    settled = y.settled ∙ ap (λ q. q && plays_below y.ways (view_of x.name views)) settled;
    same = λ e. (y.same e).1 ∙ next;
    calls = omega (arith, y.calls, calls);
  }

module _ (inventory : read.Inventory) (views : List View) (ls : List (List Later)) (scenes : List Scene) (x : HostVariables) where
  -- what is found once the plays from that number on are done
  abbrev pub Left : Program → ℕ → Exit → HostFound → Type 0
  Left ps n from old = (qs : Program) × AreScenes inventory qs (drop n scenes)
      × ((new : HostFound) → PlaysFind (inventory_view inventory) views x.name qs (drop n ls) from old new → HostFinds (inventory_view inventory) ps views ls x new)

  -- what is found in a play, whether it names the host or not
  pub record Step (n : ℕ) (from to : Exit) (old new : HostFound) : Type 0 where
    pub named : (s : Scene) (p : Play) → slice_get scenes n ≡ Some s → IsScene inventory p s → is_among x.name p.hosts ≡ true
        → PlayFinds x.name (setting_of (inventory_view inventory) p views (first_laters (drop n ls)) x.name) p.row (view_of x.name views) from to old new
    pub others : (s : Scene) (p : Play) → slice_get scenes n ≡ Some s → IsScene inventory p s → is_among x.name p.hosts ≡ false → (new ≡ old) × (to ≡ from)

  module _ (wv : WellViews views) where
    either : (q : Bool) (s : Scene) (p : Play) (qs : Program) (n : ℕ) (from to : Exit) (old mid new : HostFound) → is_among x.name p.hosts ≡ q → slice_get scenes n ≡ Some s → IsScene inventory p s → WellExit from → Well (recs (next_of old.find))
        → Step n from to old mid → PlaysFind (inventory_view inventory) views x.name qs (drop (suc n) ls) to mid new → PlaysFind (inventory_view inventory) views x.name (p ∷ qs) (drop n ls) from old new
    either true s p qs n from to old mid new h is a w wo step y =
        found_named (inventory_view inventory) views wv x.name p qs (drop n ls) from to old mid new h w wo (step.named s p is a h)
        (subst (λ ms. PlaysFind (inventory_view inventory) views x.name qs ms to mid new) (sym (others_left ls n)) y)
    either false s p qs n from to old mid new h is a w wo step y =
        let same = step.others s p is a h in
        found_unnamed (inventory_view inventory) views wv x.name p qs (drop n ls) from to old mid new h same.0 same.1
        (subst (λ ms. PlaysFind (inventory_view inventory) views x.name qs ms to mid new) (sym (others_left ls n)) y)

    one_less : (ps qs : Program) (n : ℕ) (s : Scene) (from to : Exit) (old mid : HostFound) → slice_get scenes n ≡ Some s → AreScenes inventory qs (s ∷ drop (suc n) scenes) → WellExit from → Well (recs (next_of old.find)) → Step n from to old mid
        → ((new : HostFound) → PlaysFind (inventory_view inventory) views x.name qs (drop n ls) from old new → HostFinds (inventory_view inventory) ps views ls x new) → Left ps (suc n) to mid
    one_less ps [] n s from to old mid is a w wo step go = absurd a
    one_less ps (p ∷ qs) n s from to old mid is a w wo step go = (qs, a.1, λ new y. go new (either (is_among x.name p.hosts) s p qs n from to old mid new refl is a.0 w wo step y))

    pub next_left : (ps : Program) (n : ℕ) (from to : Exit) (old mid : HostFound) → n < length scenes → WellExit from → Well (recs (next_of old.find)) → Step n from to old mid → Left ps n from old → Left ps (suc n) to mid
    next_left ps n from to old mid lt w wo step left =
        let here = here_and_rest scenes n lt in
        one_less ps left.0 n here.0 from to old mid here.1 (subst (AreScenes inventory left.0) here.2 left.1) w wo step left.2

    none_more : (ps qs : Program) (n : ℕ) (from : Exit) (f : HostFound) → AreScenes inventory qs [] → Well (recs (next_of f.find))
        → ((new : HostFound) → PlaysFind (inventory_view inventory) views x.name qs (drop n ls) from f new → HostFinds (inventory_view inventory) ps views ls x new) → HostFinds (inventory_view inventory) ps views ls x f
    none_more ps [] n from f a w go = go f (nothing_more (inventory_view inventory) views wv x.name (drop n ls) from f w)
    none_more ps (p ∷ qs) n from f a w go = absurd a

    pub all_done : (ps : Program) (n : ℕ) (from : Exit) (f : HostFound) → length scenes ≤ n → Well (recs (next_of f.find)) → Left ps n from f → HostFinds (inventory_view inventory) ps views ls x f
    all_done ps n from f past w left = none_more ps left.0 n from f (subst (AreScenes inventory left.0) (drop_all n scenes past) left.1) w left.2
