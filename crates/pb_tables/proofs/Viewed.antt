-- The next views, host by host.
use Rattle.std.proofs.Common.{◌≡◌, List, [], ◌∷◌, ◌++◌, length, map, Bool, true, false, cond, bytes_eq, refl, ap, ap₂, ◌∙◌, arith}
use Rattle.std.specs.Prelude.{◌||◌, not}
use Rattle.pb_semantics.specs.Keeps.{is_among}
use Rattle.pb_semantics.specs.Kind.{Slots, no_slots}
use Rattle.pb_semantics.proofs.Bools.{and-left, and-right, neither-right, not-true}
use Rattle.pb_semantics.proofs.Names.{own_name}
use Rattle.pb_language.specs.Expression.{Name}
use Rattle.pb_language.specs.Scope.{View, has_view, view_of}
use Rattle.pb_language.specs.Tables.{HostWalk, next_views, with_plays}
use Rattle.pb_language.specs.Wells.{WellViews}
use Rattle.pb_language.specs.World.{HostVariables}
use Rattle.pb_walks.specs.Agree.{AllHostsAgree, SlotsAgree, ViewsAgree}
use Rattle.pb_walks.proofs.Agreeing.{slots_own, views_own}
use Rattle.pb_walks.proofs.SameWrites.{next_views_agree}
use Rattle.pb_inventory.specs.Numbered.{are_apart}
use Rattle.pb_inventory.proofs.Apart.{differs, is_among-head}
use Rattle.pb_hosts.specs.Tables.{views_from}
use Rattle.pb_tables.specs.Rounds.{EachNext, seen_of}

pub next_joined : (vs : List View) (xs : List HostVariables) (ss : List Slots) (ws : List HostWalk) (x : HostVariables) (s : Slots) (w : HostWalk) → EachNext vs xs ss ws → x.name ≡ w.host
    → SlotsAgree s (with_plays w.plays (view_of w.host vs)) → EachNext vs (xs ++ x ∷ []) (ss ++ s ∷ []) (ws ++ w ∷ [])
next_joined vs [] [] [] x s w e n a = (n, a, tt)
next_joined vs [] [] (v ∷ ws) x s w e n a = absurd e
next_joined vs [] (t ∷ ss) ws x s w e n a = absurd e
next_joined vs (y ∷ xs) [] ws x s w e n a = absurd e
next_joined vs (y ∷ xs) (t ∷ ss) [] x s w e n a = absurd e
next_joined vs (y ∷ xs) (t ∷ ss) (v ∷ ws) x s w e n a = (e.0, e.1, next_joined vs xs ss ws x s w e.2 n a)

abbrev names : List HostVariables → List Name
names xs = map (λ x. x.name) xs

either : (q : Bool) (ss ts us ws : Slots) → SlotsAgree ss us → SlotsAgree ts ws → SlotsAgree (cond q ss ts) (cond q us ws)
either true ss ts us ws a b = a
either false ss ts us ws a b = b

module _ (vs : List View) (g : Name) where
  next_hosts : (xs : List HostVariables) (ss : List Slots) (ws : List HostWalk) → EachNext vs xs ss ws → has_view g (views_from (names xs) ss) ≡ has_view g (next_views ws vs)
  next_hosts [] [] [] e = refl
  next_hosts [] [] (v ∷ ws) e = absurd e
  next_hosts [] (t ∷ ss) ws e = absurd e
  next_hosts (y ∷ xs) [] ws e = absurd e
  next_hosts (y ∷ xs) (t ∷ ss) [] e = absurd e
  next_hosts (y ∷ xs) (t ∷ ss) (v ∷ ws) e =
      ap (λ n. bytes_eq g n || has_view g (views_from (names xs) ss)) e.0 ∙ ap (λ b. bytes_eq g v.host || b) (next_hosts xs ss ws e.2)

  next_slots : (xs : List HostVariables) (ss : List Slots) (ws : List HostWalk) → EachNext vs xs ss ws → SlotsAgree (view_of g (views_from (names xs) ss)) (view_of g (next_views ws vs))
  next_slots [] [] [] e = slots_own no_slots (refl, tt)
  next_slots [] [] (v ∷ ws) e = absurd e
  next_slots [] (t ∷ ss) ws e = absurd e
  next_slots (y ∷ xs) [] ws e = absurd e
  next_slots (y ∷ xs) (t ∷ ss) [] e = absurd e
  next_slots (y ∷ xs) (t ∷ ss) (v ∷ ws) e =
      rw (e.0) (either (bytes_eq g v.host) t (view_of g (views_from (names xs) ss)) (with_plays v.plays (view_of v.host vs)) (view_of g (next_views ws vs)) e.1 (next_slots xs ss ws e.2))

-- all of them are the next views
pub next_agree : (vs : List View) (xs : List HostVariables) (ss : List Slots) (ws us : List HostWalk) → EachNext vs xs ss ws → WellViews (views_from (names xs) ss) → WellViews vs → AllHostsAgree ws us
    → ViewsAgree (views_from (names xs) ss) (next_views ws vs)
next_agree vs xs ss ws us e well well_before a = record {
  hosts = λ g. next_hosts vs g xs ss ws e;
  slots = λ g. next_slots vs g xs ss ws e;
  well = well;
  well_too = (next_views_agree ws us vs vs a (views_own vs well_before)).well;
}

-- ---- the views of each host, by name

passed : (n : Name) (s : Slots) (vs : List View) (xs : List HostVariables) → is_among n (names xs) ≡ false → seen_of (record { host = n; slots = s } ∷ vs) xs ≡ seen_of vs xs
passed n s vs [] none = refl
passed n s vs (x ∷ xs) none =
    ap₂ (λ (t : Slots) ts. t ∷ ts) (ap (λ b. cond b s (view_of x.name vs)) (differs x.name n (names (x ∷ xs)) (is_among-head x.name (names xs)) none))
    (passed n s vs xs (neither-right (bytes_eq n x.name) (is_among n (names xs)) none))

pub seen_all : (xs : List HostVariables) (ss : List Slots) → are_apart (names xs) ≡ true → length ss ≡ length xs → seen_of (views_from (names xs) ss) xs ≡ ss
seen_all [] [] a e = refl
seen_all [] (s ∷ ss) a e = absurd (omega (arith, e))
seen_all (x ∷ xs) [] a e = absurd (omega (arith, e))
seen_all (x ∷ xs) (s ∷ ss) a e =
    let rest = views_from (names xs) ss in
    ap₂ (λ (t : Slots) ts. t ∷ ts) (ap (λ b. cond b s (view_of x.name rest)) (own_name x.name))
    (passed x.name s rest xs (not-true (is_among x.name (names xs)) (and-left (not (is_among x.name (names xs))) (are_apart (names xs)) a))
    ∙ seen_all xs ss (and-right (not (is_among x.name (names xs))) (are_apart (names xs)) a) (omega (arith, e)))
