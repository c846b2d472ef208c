-- Kinds go up with the scope.
use Rattle.std.proofs.Common.{◌≡◌, List, [], ◌∷◌, Bool, true, false, ◌&&◌, ◌||◌, cond, bytes_eq, Option, Some, None, unwrap_or, nat_le, codes, ⊎_elim, refl, sym, subst}
use Rattle.pb_semantics.specs.Kind.{KindData, Slots, Spot, never, nulls, booleans, ints, texts, hosts, lists, recs, results, anything, nowhere, spot, slot_at}
use Rattle.pb_semantics.specs.Keeps.{is_among}
use Rattle.pb_semantics.specs.Below.{below, are_among}
use Rattle.pb_semantics.specs.Join.{join_spot}
use Rattle.pb_semantics.proofs.Bools.{untrue, and-left, and-right, and-both, or-right, or-cases}
use Rattle.pb_semantics.proofs.Names.{same_name}
use Rattle.pb_semantics.proofs.Order.{own_below, le_own}
use Rattle.pb_semantics.proofs.Through.{never_below}
use Rattle.pb_language.specs.Expression.{Name, Expression, literal, path, hostvars_alone, path_or, value_or, list_of, record_of, Root, variable, alias, other, member, Expressions, no_expressions, expression, Parts, no_parts, part, Term, named_host, this_host, item_host, group_member}
use Rattle.pb_language.specs.World.{member_of}
use Rattle.pb_language.specs.Scope.{Scope, hosts_of_kind, hosts_at, only, is_present, spot_kind, is_certain, below_spot, unnamed, sure, view_of, later_of, is_later, learned_kind, own_spot, view_spot, host_spot, each_spot, spot_among, taught_spot, other_spot, with_slot}
use Rattle.pb_language.specs.Kinds.{known_kind, path_spot, member_spot, shown_spot, kind_of, root_spot, items_kind, parts_slots, count}
use Rattle.pb_language.specs.Knows.{WellScope}
use Rattle.pb_language.specs.Ordered.{SpotLe, SlotsLe, PathLe, TaughtLe, KnownLe, moved, ScopeLe}
use Rattle.pb_language.proofs.WithSlot.{at_with}
use Rattle.pb_language.proofs.WellKinds.{well_path, well_member, well_shown, well_host, well_each_host, well_unnamed, well_kind, well_root, well_items, well_parts, well_known}
use Rattle.pb_language.proofs.Spots.{le_slots, join_up, path_le, path_own, path_through, path_least, path_first, path_second, below_up, uncertain_below, path_up, shown_up, default_up}

alias_up : (o p : Option KindData) (k m : KindData) → KnownLe o p → below k m ≡ true → below (unwrap_or o k) (unwrap_or p m) ≡ true
alias_up None None k m l h = h
alias_up None (Some j) k m l h = untrue l
alias_up (Some i) None k m l h = untrue l
alias_up (Some i) (Some j) k m l h = l

slot_step : (q : Bool) (s t : Spot) (k m : KindData) → below k m ≡ true → SpotLe s t → SpotLe (cond q (spot true k) s) (cond q (spot true m) t)
slot_step true s t k m h l = (refl, h)
slot_step false s t k m h l = l

pub with_up : (n : Name) (k m : KindData) (ss ts : Slots) → below k m ≡ true → SlotsLe ss ts → SlotsLe (with_slot n true k ss) (with_slot n true m ts)
with_up n k m ss ts h l = record { at = λ p. rw (at_with p n true k ss, at_with p n true m ts) (slot_step (bytes_eq p n) (slot_at p ss) (slot_at p ts) k m h (l.at p)) }

sure_host : (q : Bool) (s t : Spot) → SpotLe s t → SpotLe (cond q (sure s) s) (cond q (sure t) t)
sure_host true nowhere nowhere l = (refl, refl)
sure_host true nowhere (spot b m) l = (refl, never_below m)
sure_host true (spot a k) nowhere l = untrue l
sure_host true (spot a k) (spot b m) l = (refl, l.1)
sure_host false s t l = l

-- what is known of variables, under what tests taught
spots_over : (o p s t : Spot) → TaughtLe o p → SpotLe s t → SpotLe (taught_spot o s) (taught_spot p t)
spots_over nowhere nowhere s t x y = y
spots_over nowhere (spot b m) s t x y = untrue x
spots_over (spot a k) nowhere s t x y = untrue x
spots_over (spot a k) (spot b m) s t x y = x

pub own_up : (c d : Scope) (x : Name) → ScopeLe c d → SpotLe (own_spot c x) (own_spot d x)
own_up c d x l = spots_over (slot_at x c.own_slots) (slot_at x d.own_slots) (slot_at x c.own) (slot_at x d.own) (l.own_slots x) (l.own.at x)

view_up : (c d : Scope) (x g : Name) → ScopeLe c d → SpotLe (view_spot c x g) (view_spot d x g)
view_up c d x g l =
    spots_over (slot_at x (view_of g c.views)) (slot_at x (view_of g d.views)) (slot_at x (view_of g c.table)) (slot_at x (view_of g d.table)) (l.views g x) ((l.table g).at x)

-- two scopes, the second of which knows less of each variable of a host
module _ (c e : Scope) (w : WellScope c) (v : WellScope e) (up : (on : Bool) (x g : Name) → PathLe (host_spot c on x g) (host_spot e on x g)) where
  each_above : (on : Bool) (x g : Name) (hs : List Name) → is_among g hs ≡ true → PathLe (host_spot e on x g) (each_spot e on x hs)
  each_above on x g [] h = untrue h
  each_above on x g (n ∷ hs) h =
      let first = path_first (host_spot e on x n) (each_spot e on x hs) (well_host e on x n v) (well_each_host e on x hs v) in
      let second = path_second (host_spot e on x n) (each_spot e on x hs) (well_host e on x n v) (well_each_host e on x hs v) in
      ⊎_elim (λ y. rw (same_name g n y) first)
      (λ z. path_through (host_spot e on x g) (each_spot e on x hs) (join_spot (host_spot e on x n) (each_spot e on x hs)) (well_host e on x g v) (each_above on x g hs z) second)
      (or-cases (bytes_eq g n) (is_among g hs) h)

  each_up : (on : Bool) (x : Name) (gs hs : List Name) → are_among gs hs ≡ true → PathLe (each_spot c on x gs) (each_spot e on x hs)
  each_up on x [] hs h = (never_below (spot_kind (each_spot e on x hs)), refl)
  each_up on x (g ∷ gs) hs h =
      path_least (host_spot c on x g) (each_spot c on x gs) (each_spot e on x hs) (well_host c on x g w) (well_each_host c on x gs w)
      (path_through (host_spot c on x g) (host_spot e on x g) (each_spot e on x hs) (well_host c on x g w) (up on x g) (each_above on x g hs (and-left (is_among g hs) (are_among gs hs) h)))
      (each_up on x gs hs (and-right (is_among g hs) (are_among gs hs) h))

  pub each_same : (on : Bool) (x : Name) (gs : List Name) → PathLe (each_spot c on x gs) (each_spot e on x gs)
  each_same on x gs = each_up on x gs gs (own_below (hosts gs) tt)

  -- the hosts that a kind may name
  kind_hosts : (on : Bool) (x : Name) (k m : KindData) → below k m ≡ true → PathLe (spot_among c on x (hosts_of_kind k)) (spot_among e on x (hosts_of_kind m))
  kind_hosts on x never m h = (never_below (spot_kind (spot_among e on x (hosts_of_kind m))), refl)
  kind_hosts on x k anything h = (refl, or-right (is_certain (spot_among c on x (hosts_of_kind k))) true refl)
  kind_hosts on x nulls nulls h = (refl, refl)
  kind_hosts on x nulls m h = untrue h
  kind_hosts on x booleans booleans h = (refl, refl)
  kind_hosts on x booleans m h = untrue h
  kind_hosts on x ints ints h = (refl, refl)
  kind_hosts on x ints m h = untrue h
  kind_hosts on x texts texts h = (refl, refl)
  kind_hosts on x texts m h = untrue h
  kind_hosts on x (hosts ns) texts h = (refl, or-right (is_certain (each_spot c on x ns)) true refl)
  kind_hosts on x (hosts ns) (hosts ms) h = each_up on x ns ms h
  kind_hosts on x (hosts ns) m h = untrue h
  kind_hosts on x (lists k n) (lists m o) h = (refl, refl)
  kind_hosts on x (lists k n) m h = untrue h
  kind_hosts on x (recs ss) (recs ts) h = (refl, refl)
  kind_hosts on x (recs ss) m h = untrue h
  kind_hosts on x (results cs r) (recs ts) h = (refl, refl)
  kind_hosts on x (results cs r) (results ds q) h = (refl, refl)
  kind_hosts on x (results cs r) m h = untrue h
  kind_hosts on x anything m h = untrue h

  -- what is known of a variable of the host that the item names
  item_hosts : (on : Bool) (x : Name) (s t : Spot) → SpotLe s t → PathLe (below_spot (is_certain s) (spot_among c on x (hosts_at s))) (below_spot (is_certain t) (spot_among e on x (hosts_at t)))
  item_hosts on x nowhere nowhere h = (refl, refl)
  item_hosts on x nowhere (spot b m) h =
      let u = below_spot b (spot_among e on x (hosts_of_kind m)) in
      (never_below (spot_kind u), uncertain_below b (spot_among e on x (hosts_of_kind m)) h)
  item_hosts on x (spot a k) nowhere h = untrue h
  item_hosts on x (spot a k) (spot b m) h = below_up a b (spot_among c on x (hosts_of_kind k)) (spot_among e on x (hosts_of_kind m)) h.0 (kind_hosts on x k m h.1)

  pub item_up : (on : Bool) (x : Name) (s t i j : Spot) → SpotLe i j → TaughtLe s t
      → PathLe (below_spot (is_certain i) (taught_spot s (spot_among c on x (hosts_at i)))) (below_spot (is_certain j) (taught_spot t (spot_among e on x (hosts_at j))))
  item_up on x nowhere nowhere i j y z = item_hosts on x i j y
  item_up on x nowhere (spot b m) i j y z = untrue z
  item_up on x (spot a k) nowhere i j y z = untrue z
  item_up on x (spot a k) (spot b m) i j y z = below_up (is_certain i) (is_certain j) (spot a k) (spot b m) ((path_le i j y).1) (z.1, z.0)

  pub only_up : (on : Bool) (x : Name) (o : Option Name) → PathLe (spot_among c on x (only o)) (spot_among e on x (only o))
  only_up on x None = (refl, refl)
  only_up on x (Some g) = each_same on x (g ∷ [])

-- a scope with other variables, of which less is known
module _ (c d : Scope) (w : WellScope c) (v : WellScope (moved c d)) (l : ScopeLe c (moved c d)) where
  abbrev e : Scope
  e = moved c d

  -- a host that has a name at its later places has it in both
  later_host : (q : Bool) (x g : Name) (s t : Spot) → SpotLe s t → SpotLe (cond (q && is_later (later_of g c.laters) c.place x) (sure s) s) (cond (q && is_later (later_of g d.laters) c.place x) (sure t) t)
  later_host q x g s t h = rw (l.laters g x) (sure_host (q && is_later (later_of g d.laters) c.place x) s t h)

  pub host_up : (on : Bool) (x g : Name) → PathLe (host_spot c on x g) (host_spot e on x g)
  host_up on x g = path_le (host_spot c on x g) (host_spot e on x g) (later_host (on || is_among g c.active) x g (view_spot c x g) (view_spot d x g) (view_up c e x g l))

  table_up : (on : Bool) (x g : Name) → PathLe (host_spot (unnamed c) on x g) (host_spot (unnamed e) on x g)
  table_up on x g = path_le (host_spot (unnamed c) on x g) (host_spot (unnamed e) on x g) (later_host (on || false) x g (slot_at x (view_of g c.table)) (slot_at x (view_of g d.table)) ((l.table g).at x))

  pub other_up : (t : Term) (x : Name) → PathLe (other_spot c t x) (other_spot e t x)
  other_up (named_host n) x = each_same c e w v host_up false x (n ∷ [])
  other_up this_host x = each_same c e w v host_up false x (c.this ∷ [])
  other_up item_host x = item_up (unnamed c) (unnamed e) (well_unnamed c w) (well_unnamed e v) table_up c.item_active x (slot_at x c.item_slots) (slot_at x d.item_slots) (own_spot c (codes "item")) (own_spot d (codes "item")) (own_up c e (codes "item") l) (l.item_slots x)
  other_up (group_member g n) x = only_up c e w v host_up false x (member_of g n c.groups)

  mutual
    pub kind_up : (x : Expression) → below (kind_of c x) (kind_of e x) ≡ true
    kind_up (literal y) = own_below (known_kind y) (well_known y)
    kind_up (path r ns) = (path_up ns (root_spot c r) (root_spot e r) (well_root c w r) (well_root e v r) (root_up r)).0
    kind_up (hostvars_alone o) = refl
    kind_up (path_or r ns x) =
        let s = path_spot ns (root_spot c r) in
        let t = path_spot ns (root_spot e r) in
        let q = is_present c r ns in
        let ws = well_path ns (root_spot c r) (well_root c w r) in
        let wt = well_path ns (root_spot e r) (well_root e v r) in
        default_up (shown_spot q s) (shown_spot q t) (kind_of c x) (kind_of e x) (well_shown q s ws) (well_shown q t wt) (well_kind c w x) (well_kind e v x)
        (shown_up q s t (path_up ns (root_spot c r) (root_spot e r) (well_root c w r) (well_root e v r) (root_up r))) (kind_up x)
    kind_up (value_or a x) = kind_up a
    kind_up (list_of es) = and-both (nat_le (count es) (count es)) (below (items_kind c es) (items_kind e es)) (le_own (count es)) (items_up es)
    kind_up (record_of ps) = le_slots (parts_slots c ps) (parts_slots e ps) (well_parts e v ps).0 (parts_up ps)
    kind_up x = refl

    pub root_up : (r : Root) → PathLe (root_spot c r) (root_spot e r)
    root_up (variable n) = path_le (own_spot c n) (own_spot d n) (own_up c e n l)
    root_up (alias n x) = (alias_up (learned_kind n x c.learned) (learned_kind n x d.learned) (kind_of c x) (kind_of e x) (l.learned n x) (kind_up x), refl)
    root_up (other t x) = other_up t x
    root_up (member g n) = path_own (member_spot (member_of g n c.groups)) (well_member (member_of g n c.groups))

    items_up : (es : Expressions) → below (items_kind c es) (items_kind e es) ≡ true
    items_up no_expressions = refl
    items_up (expression x es) = join_up (kind_of c x) (items_kind c es) (kind_of e x) (items_kind e es) (well_kind c w x) (well_items c w es) (well_kind e v x) (well_items e v es) (kind_up x) (items_up es)

    parts_up : (ps : Parts) → SlotsLe (parts_slots c ps) (parts_slots e ps)
    parts_up no_parts = record { at = λ n. tt }
    parts_up (part n x ps) = with_up n (kind_of c x) (kind_of e x) (parts_slots c ps) (parts_slots e ps) (kind_up x) (parts_up ps)

pub well_moved : (c d : Scope) → WellScope d → WellScope (moved c d)
well_moved c d v = record { own = v.own; table = v.table; own_slots = v.own_slots; views = v.views; learned = v.learned; item_slots = v.item_slots }

pub moved_le : (c d : Scope) → ScopeLe c d → ScopeLe c (moved c d)
moved_le c d l = subst (λ z. ScopeLe c z) l.same l

pub kinds_up : (c d : Scope) (x : Expression) → WellScope c → WellScope d → ScopeLe c d → below (kind_of c x) (kind_of d x) ≡ true
kinds_up c d x w v l = subst (λ z. below (kind_of c x) (kind_of z x) ≡ true) (sym l.same) (kind_up c d w (well_moved c d v) (moved_le c d l) x)

pub roots_up : (c d : Scope) (r : Root) → WellScope c → WellScope d → ScopeLe c d → PathLe (root_spot c r) (root_spot d r)
roots_up c d r w v l = subst (λ z. PathLe (root_spot c r) (root_spot z r)) (sym l.same) (root_up c d w (well_moved c d v) (moved_le c d l) r)

pub others_up : (c d : Scope) (t : Term) (x : Name) → WellScope c → WellScope d → ScopeLe c d → PathLe (other_spot c t x) (other_spot d t x)
others_up c d t x w v l = subst (λ z. PathLe (other_spot c t x) (other_spot z t x)) (sym l.same) (other_up c d w (well_moved c d v) (moved_le c d l) t x)
