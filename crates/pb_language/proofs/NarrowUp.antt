-- What tests teach goes up with the scope.
use Rattle.std.proofs.Common.{◌≡◌, List, ◌∷◌, Bool, true, false, not, ◌&&◌, cond, bytes_eq, Option, Some, None, refl, sym, ap, subst, ◌∙◌}
use Rattle.pb_semantics.specs.Kind.{KindData, Slots, Spot, recs, nowhere, spot, slot_at}
use Rattle.pb_semantics.specs.Below.{below}
use Rattle.pb_semantics.specs.Well.{Well}
use Rattle.pb_semantics.proofs.Bools.{untrue}
use Rattle.pb_language.specs.Expression.{Name, Expression, negation, conjunction, disjunction, in_batch, defined, path_status, Root, variable, alias, other, member, Expressions, no_expressions, expression, Term, named_host, this_host, item_host, group_member}
use Rattle.pb_language.specs.Same.{same_expression}
use Rattle.pb_language.specs.World.{member_of}
use Rattle.pb_language.specs.Scope.{Scope, spot_kind, is_certain, with_taught, has_view, view_of, put_view, learned_kind, own_spot, host_spot, other_spot, resolved, both_slots, both_scopes}
use Rattle.pb_language.specs.Kinds.{root_spot}
use Rattle.pb_language.specs.Narrow.{cases_with, answers, on_results, changed_spot, changed_at, there_spot, defined_at, teach_host, teach_member, teach, teach_present, active_member, teach_active, any_teaches, where_taught, narrow, narrow_each, narrow_some}
use Rattle.pb_language.specs.Knows.{WellScope}
use Rattle.pb_language.specs.Wells.{WellSpot}
use Rattle.pb_language.specs.Ordered.{PathLe, TaughtLe, KnownLe, moved, ScopeLe}
use Rattle.pb_language.proofs.WithSlot.{at_with}
use Rattle.pb_language.proofs.WellKinds.{well_slot, well_own, well_host, well_other, well_root}
use Rattle.pb_language.proofs.Scopes.{view_put, view_both, both_kind, learned_both, both_spot, at_both}
use Rattle.pb_language.proofs.Known.{well_narrow, well_narrow_some}
use Rattle.pb_language.proofs.Spots.{join_up, path_le, presences}
use Rattle.pb_language.proofs.ChangesUp.{SpotUp, changed_up, there_up, changes_up, left_up, defines_up}
use Rattle.pb_language.proofs.KindsUp.{own_up, host_up, other_up, root_up, well_moved, moved_le}

known_both : (o p s t : Option KindData) → ((k : KindData) → o ≡ Some k → Well k) → ((k : KindData) → p ≡ Some k → Well k) → ((k : KindData) → s ≡ Some k → Well k) → ((k : KindData) → t ≡ Some k → Well k)
    → KnownLe o p → KnownLe s t → KnownLe (both_kind o s) (both_kind p t)
known_both None None s t a b c d x y = tt
known_both None (Some j) s t a b c d x y = untrue x
known_both (Some i) None s t a b c d x y = untrue x
known_both (Some i) (Some j) None None a b c d x y = tt
known_both (Some i) (Some j) None (Some m) a b c d x y = untrue y
known_both (Some i) (Some j) (Some k) None a b c d x y = untrue y
known_both (Some i) (Some j) (Some k) (Some m) a b c d x y = join_up i k j m (a i refl) (c k refl) (b j refl) (d m refl) x y

taught_both : (o p s t : Spot) → WellSpot o → WellSpot p → WellSpot s → WellSpot t → TaughtLe o p → TaughtLe s t → TaughtLe (both_spot o s) (both_spot p t)
taught_both nowhere nowhere s t a b c d x y = tt
taught_both nowhere (spot q j) s t a b c d x y = untrue x
taught_both (spot o i) nowhere s t a b c d x y = untrue x
taught_both (spot o i) (spot q j) nowhere nowhere a b c d x y = tt
taught_both (spot o i) (spot q j) nowhere (spot r m) a b c d x y = untrue y
taught_both (spot o i) (spot q j) (spot p k) nowhere a b c d x y = untrue y
taught_both (spot o i) (spot q j) (spot p k) (spot r m) a b c d x y = (presences o q p r x.0 y.0, join_up i k j m a c b d x.1 y.1)

known_cond : (q : Bool) (k m : KindData) (o p : Option KindData) → below k m ≡ true → KnownLe o p → KnownLe (cond q (Some k) o) (cond q (Some m) p)
known_cond true k m o p x y = x
known_cond false k m o p x y = y

taught_cond : (q : Bool) (s t u v : Spot) → TaughtLe s t → TaughtLe u v → TaughtLe (cond q s u) (cond q t v)
taught_cond true s t u v x y = x
taught_cond false s t u v x y = y

-- what is taught of a name goes up with its spot
taught_up : (x : Name) (s t : Spot) (ss ts : Slots) → PathLe s t → ((y : Name) → TaughtLe (slot_at y ss) (slot_at y ts)) → (y : Name) → TaughtLe (slot_at y (with_taught x s ss)) (slot_at y (with_taught x t ts))
taught_up x s t ss ts p l y =
    rw (at_with y x (is_certain s) (spot_kind s) ss, at_with y x (is_certain t) (spot_kind t) ts) (taught_cond (bytes_eq y x) (spot (is_certain s) (spot_kind s)) (spot (is_certain t) (spot_kind t)) (slot_at y ss) (slot_at y ts) (p.1, p.0) (l y))

-- slots of which both ways teach
slots_both : (ss us ts vs : Slots) → Well (recs ss) → Well (recs us) → Well (recs ts) → Well (recs vs) → ((x : Name) → TaughtLe (slot_at x ss) (slot_at x us)) → ((x : Name) → TaughtLe (slot_at x ts) (slot_at x vs))
    → (x : Name) → TaughtLe (slot_at x (both_slots ss ts)) (slot_at x (both_slots us vs))
slots_both ss us ts vs a b c d l m x =
    rw (at_both x ss ts, at_both x us vs)
    (taught_both (slot_at x ss) (slot_at x us) (slot_at x ts) (slot_at x vs) (well_slot x ss a.1) (well_slot x us b.1) (well_slot x ts c.1) (well_slot x vs d.1) (l x) (m x))

scope_cond : (q : Bool) (c d x y : Scope) → ScopeLe c d → ScopeLe x y → ScopeLe (cond q c x) (cond q d y)
scope_cond true c d x y l m = l
scope_cond false c d x y l m = m

view_cond : (q : Bool) (y : Name) (ss ts us vs : Slots) → TaughtLe (slot_at y ss) (slot_at y ts) → TaughtLe (slot_at y us) (slot_at y vs) → TaughtLe (slot_at y (cond q ss us)) (slot_at y (cond q ts vs))
view_cond true y ss ts us vs l m = l
view_cond false y ss ts us vs l m = m

-- both of two scopes
pub both_up : (c d x y : Scope) → WellScope c → WellScope d → WellScope x → WellScope y → ScopeLe c d → ScopeLe x y → ScopeLe (both_scopes c x) (both_scopes d y)
both_up c d x y wc wd wx wy l m = record {
  same = ap (λ z. both_scopes z y) l.same ∙ ap (λ z. both_scopes (moved c d) z) m.same;
  own = l.own;
  table = l.table;
  hosts = l.hosts;
  own_slots = slots_both c.own_slots d.own_slots x.own_slots y.own_slots wc.own_slots wd.own_slots wx.own_slots wy.own_slots l.own_slots m.own_slots;
  views = λ g. rw (view_both g c.views x.views, view_both g d.views y.views)
      (slots_both (view_of g c.views) (view_of g d.views) (view_of g x.views) (view_of g y.views) (wc.views g) (wd.views g) (wx.views g) (wy.views g) (l.views g) (m.views g));
  learned = λ n e. rw (learned_both n e c.learned x.learned, learned_both n e d.learned y.learned)
      (known_both (learned_kind n e c.learned) (learned_kind n e d.learned) (learned_kind n e x.learned) (learned_kind n e y.learned) (wc.learned n e) (wd.learned n e) (wx.learned n e) (wy.learned n e) (l.learned n e) (m.learned n e));
  item_slots = slots_both c.item_slots d.item_slots x.item_slots y.item_slots wc.item_slots wd.item_slots wx.item_slots wy.item_slots l.item_slots m.item_slots;
  laters = l.laters;
}

pub resolved_same : (c d : Scope) (r : Root) → resolved (moved c d) r ≡ resolved c r
resolved_same c d (variable n) = refl
resolved_same c d (alias n x) = refl
resolved_same c d (other (named_host g) x) = refl
resolved_same c d (other this_host x) = refl
resolved_same c d (other item_host x) = refl
resolved_same c d (other (group_member g n) x) = refl
resolved_same c d (member g n) = refl

module _ (c d : Scope) (w : WellScope c) (v : WellScope (moved c d)) (l : ScopeLe c (moved c d)) where
  abbrev e : Scope
  e = moved c d

  module _ (f : Spot → Spot) (u : SpotUp f) where
    host_taught : (x g : Name) → ScopeLe (teach_host c f x g) (teach_host e f x g)
    host_taught x g =
        let s = host_spot c false x g in
        let t = host_spot e false x g in
        let p = u.paths s t (well_host c false x g w) (well_host e false x g v) (host_up c d w v l false x g) in
        let ss = with_taught x (f s) (view_of g c.views) in
        let ts = with_taught x (f t) (view_of g d.views) in
        let put : ScopeLe (record c { views = put_view g ss c.views }) (record e { views = put_view g ts d.views }) = record {
          same = refl;
          own = l.own;
          table = l.table;
          hosts = l.hosts;
          own_slots = l.own_slots;
          views = λ h y. rw (view_put g h ss c.views, view_put g h ts d.views)
              (view_cond (bytes_eq h g) y ss ts (view_of h c.views) (view_of h d.views) (taught_up x (f s) (f t) (view_of g c.views) (view_of g d.views) p (l.views g) y) (l.views h y));
          learned = l.learned;
          item_slots = l.item_slots;
          laters = l.laters;
        } in
        rw (l.hosts g) (scope_cond (has_view g d.table) (record c { views = put_view g ss c.views }) (record e { views = put_view g ts d.views }) c e put l)

    member_up : (x : Name) (o : Option Name) → ScopeLe (teach_member c f x o) (teach_member e f x o)
    member_up x None = l
    member_up x (Some g) = host_taught x g

    teach_here : (r : Root) → ScopeLe (teach c f r) (teach e f r)
    teach_here (variable n) =
        let s = own_spot c n in
        let t = own_spot d n in
        let p = u.paths s t (well_own c n w) (well_own e n v) (path_le s t (own_up c e n l)) in
        record {
          same = refl;
          own = l.own;
          table = l.table;
          hosts = l.hosts;
          own_slots = taught_up n (f s) (f t) c.own_slots d.own_slots p l.own_slots;
          views = l.views;
          learned = l.learned;
          item_slots = l.item_slots;
          laters = l.laters;
        }
    teach_here (alias n x) =
        let s = root_spot c (alias n x) in
        let t = root_spot e (alias n x) in
        let p = u.paths s t (well_root c w (alias n x)) (well_root e v (alias n x)) (root_up c d w v l (alias n x)) in
        record {
          same = refl;
          own = l.own;
          table = l.table;
          hosts = l.hosts;
          own_slots = l.own_slots;
          views = l.views;
          learned = λ m g. known_cond (bytes_eq m n && same_expression g x) (spot_kind (f s)) (spot_kind (f t)) (learned_kind m g c.learned) (learned_kind m g d.learned) p.0 (l.learned m g);
          item_slots = l.item_slots;
          laters = l.laters;
        }
    teach_here (other (named_host g) x) = host_taught x g
    teach_here (other this_host x) = host_taught x c.this
    teach_here (other item_host x) =
        let s = f (other_spot c item_host x) in
        let t = f (other_spot e item_host x) in
        let p : PathLe s t = u.paths (other_spot c item_host x) (other_spot e item_host x) (well_other c item_host x w) (well_other e item_host x v) (other_up c d w v l item_host x) in
        record {
          same = refl;
          own = l.own;
          table = l.table;
          hosts = l.hosts;
          own_slots = l.own_slots;
          views = l.views;
          learned = l.learned;
          item_slots = taught_up x s t c.item_slots d.item_slots p l.item_slots;
          laters = l.laters;
        }
    teach_here (other (group_member g n) x) = member_up x (member_of g n c.groups)
    teach_here (member g n) = l

  abbrev with_present : Scope → Root → List Name → Scope
  with_present z r ns = record z { present = record { root = r; steps = ns } ∷ c.present }

  present_here : (r : Root) (ns : List Name) → ScopeLe (teach_present c r ns) (teach_present e r ns)
  present_here r ns =
      let f = there_spot (defined_at ns) in
      let m = teach_here f (there_up (defined_at ns) (defines_up ns)) r in
      record {
        same = ap (λ z. with_present z (resolved e r) ns) m.same ∙ ap (λ q. with_present (moved (teach c f r) (teach e f r)) q ns) (resolved_same c d r);
        own = m.own;
        table = m.table;
        hosts = m.hosts;
        own_slots = m.own_slots;
        views = m.views;
        learned = m.learned;
        item_slots = m.item_slots;
        laters = m.laters;
      }

  active_member_here : (o : Option Name) → ScopeLe (active_member c o) (active_member e o)
  active_member_here None = l
  active_member_here (Some g) = record { same = refl; own = l.own; table = l.table; hosts = l.hosts; own_slots = l.own_slots; views = l.views; learned = l.learned; item_slots = l.item_slots; laters = l.laters }

  active_here : (t : Term) → ScopeLe (teach_active c t) (teach_active e t)
  active_here (named_host g) = record { same = refl; own = l.own; table = l.table; hosts = l.hosts; own_slots = l.own_slots; views = l.views; learned = l.learned; item_slots = l.item_slots; laters = l.laters }
  active_here this_host = record { same = refl; own = l.own; table = l.table; hosts = l.hosts; own_slots = l.own_slots; views = l.views; learned = l.learned; item_slots = l.item_slots; laters = l.laters }
  active_here item_host = record { same = refl; own = l.own; table = l.table; hosts = l.hosts; own_slots = l.own_slots; views = l.views; learned = l.learned; item_slots = l.item_slots; laters = l.laters }
  active_here (group_member g n) = active_member_here (member_of g n c.groups)

pub teach_up : (c d : Scope) (f : Spot → Spot) (r : Root) → SpotUp f → WellScope c → WellScope d → ScopeLe c d → ScopeLe (teach c f r) (teach d f r)
teach_up c d f r u w v l = subst (λ z. ScopeLe (teach c f r) (teach z f r)) (sym l.same) (teach_here c d w (well_moved c d v) (moved_le c d l) f u r)

present_up : (c d : Scope) (r : Root) (ns : List Name) → WellScope c → WellScope d → ScopeLe c d → ScopeLe (teach_present c r ns) (teach_present d r ns)
present_up c d r ns w v l = subst (λ z. ScopeLe (teach_present c r ns) (teach_present z r ns)) (sym l.same) (present_here c d w (well_moved c d v) (moved_le c d l) r ns)

active_up : (c d : Scope) (t : Term) → WellScope c → WellScope d → ScopeLe c d → ScopeLe (teach_active c t) (teach_active d t)
active_up c d t w v l = subst (λ z. ScopeLe (teach_active c t) (teach_active z t)) (sym l.same) (active_here c d w (well_moved c d v) (moved_le c d l) t)

either_up : (q : Bool) (c d x y : Scope) → ScopeLe c d → ScopeLe x y → ScopeLe (where_taught q c x) (where_taught q d y)
either_up true c d x y l m = l
either_up false c d x y l m = m

mutual
  pub narrow_up : (x : Expression) (c d : Scope) (b : Bool) → WellScope c → WellScope d → ScopeLe c d → ScopeLe (narrow c x b) (narrow d x b)
  narrow_up (negation x) c d b w v l = narrow_up x c d (not b) w v l
  narrow_up (conjunction es) c d true w v l = each_up es c d true w v l
  narrow_up (conjunction es) c d false w v l = either_up (any_teaches es) (narrow_some c es false) (narrow_some d es false) c d (some_up es c d false w v l) l
  narrow_up (disjunction es) c d true w v l = either_up (any_teaches es) (narrow_some c es true) (narrow_some d es true) c d (some_up es c d true w v l) l
  narrow_up (disjunction es) c d false w v l = each_up es c d false w v l
  narrow_up (in_batch t) c d true w v l = active_up c d t w v l
  narrow_up (defined r ns) c d true w v l = present_up c d r ns w v l
  narrow_up (path_status s r ns) c d b w v l =
      let g = changed_at ns (on_results (cases_with (answers s b))) in
      teach_up c d (changed_spot g) r (changed_up g (changes_up ns (on_results (cases_with (answers s b))) (left_up s b))) w v l
  narrow_up x c d b w v l = l

  pub each_up : (es : Expressions) (c d : Scope) (b : Bool) → WellScope c → WellScope d → ScopeLe c d → ScopeLe (narrow_each c es b) (narrow_each d es b)
  each_up no_expressions c d b w v l = l
  each_up (expression x es) c d b w v l = each_up es (narrow c x b) (narrow d x b) b (well_narrow x c b w) (well_narrow x d b v) (narrow_up x c d b w v l)

  some_up : (es : Expressions) (c d : Scope) (b : Bool) → WellScope c → WellScope d → ScopeLe c d → ScopeLe (narrow_some c es b) (narrow_some d es b)
  some_up no_expressions c d b w v l = l
  some_up (expression x no_expressions) c d b w v l = narrow_up x c d b w v l
  some_up (expression x (expression y es)) c d b w v l =
      let wc = well_narrow x c (not b) w in
      let wd = well_narrow x d (not b) v in
      both_up (narrow c x b) (narrow d x b) (narrow_some (narrow c x (not b)) (expression y es) b) (narrow_some (narrow d x (not b)) (expression y es) b)
      (well_narrow x c b w) (well_narrow x d b v) (well_narrow_some (expression y es) (narrow c x (not b)) b wc) (well_narrow_some (expression y es) (narrow d x (not b)) b wd)
      (narrow_up x c d b w v l) (some_up (expression y es) (narrow c x (not b)) (narrow d x (not b)) b wc wd (narrow_up x c d (not b) w v l))
