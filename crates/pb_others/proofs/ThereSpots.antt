-- Under another table that says the same of a variable, the same is known of it; and no test changes the table.
use Rattle.std.proofs.Common.{◌≡◌, List, [], ◌∷◌, Bool, true, false, not, ◌&&◌, ◌||◌, cond, codes, Option, Some, None, refl, sym, subst, ap, ◌∙◌}
use Rattle.pb_semantics.specs.Kind.{Spot, slot_at}
use Rattle.pb_semantics.specs.Keeps.{is_among}
use Rattle.pb_semantics.specs.Join.{join_spot}
use Rattle.pb_language.specs.Expression.{Name, Term, named_host, this_host, item_host, group_member, Expression, negation, conjunction, disjunction, in_batch, defined, path_status, Root, variable, alias, other, member, Expressions, no_expressions, expression}
use Rattle.pb_language.specs.World.{member_of}
use Rattle.pb_language.specs.Scope.{Scope, View, Hosts, these, any_host, no_hosts, nobody, taught_spot, is_certain, is_later, later_of, sure, below_spot, view_of, has_view, put_view, with_taught, own_spot, view_spot, host_spot, each_spot, spot_among, hosts_of, unnamed, other_spot}
use Rattle.pb_language.specs.Narrow.{there_spot, changed_spot, changed_at, on_results, cases_with, answers, defined_at, teach_host, teach_member, teach, active_member, teach_active, any_teaches, where_taught, narrow, narrow_each, narrow_some}
use Rattle.pb_walks.proofs.AloneFaults.{both}

-- the scope with another table
abbrev pub under : List View → Scope → Scope
under vs c = record c { table = vs }

-- the same hosts, and the same of each variable of another host but those of which this holds
pub record SameBut (q : Root → Bool) (vs us : List View) : Type 0 where
  pub hosts : (g : Name) → has_view g vs ≡ has_view g us
  pub slots : (t : Term) (x : Name) → q (other t x) ≡ false → (g : Name) → slot_at x (view_of g vs) ≡ slot_at x (view_of g us)

-- ---- one variable of which the tables say the same

module _ (vs : List View) (x : Name) where
  abbrev Same : Scope → Type 0
  Same c = (g : Name) → slot_at x (view_of g vs) ≡ slot_at x (view_of g c.table)

  view_there : (c : Scope) (g : Name) → Same c → view_spot (under vs c) x g ≡ view_spot c x g
  view_there c g s = ap (λ z. taught_spot (slot_at x (view_of g c.views)) z) (s g)

  host_there : (c : Scope) (on : Bool) (g : Name) → Same c → host_spot (under vs c) on x g ≡ host_spot c on x g
  host_there c on g s = ap (λ z. cond ((on || is_among g c.active) && is_later (later_of g c.laters) c.place x) (sure z) z) (view_there c g s)

  each_there : (c : Scope) (on : Bool) (gs : List Name) → Same c → each_spot (under vs c) on x gs ≡ each_spot c on x gs
  each_there c on [] s = refl
  each_there c on (g ∷ gs) s = both join_spot _ _ _ _ (host_there c on g s) (each_there c on gs s)

  among_there : (c : Scope) (on : Bool) (hs : Hosts) → Same c → spot_among (under vs c) on x hs ≡ spot_among c on x hs
  among_there c on (these gs) s = each_there c on gs s
  among_there c on any_host s = refl
  among_there c on no_hosts s = refl
  among_there c on nobody s = refl

  pub other_there : (c : Scope) (t : Term) → Same c → other_spot (under vs c) t x ≡ other_spot c t x
  other_there c (named_host n) s = among_there c false (hosts_of c (named_host n)) s
  other_there c this_host s = among_there c false (hosts_of c this_host) s
  other_there c item_host s =
      ap (λ z. below_spot (is_certain (own_spot c (codes "item"))) (taught_spot (slot_at x c.item_slots) z)) (among_there (unnamed c) c.item_active (hosts_of c item_host) s)
  other_there c (group_member g n) s = among_there c false (hosts_of c (group_member g n)) s

  either_under : (q : Bool) (d c : Scope) → cond q (under vs d) (under vs c) ≡ under vs (cond q d c)
  either_under true d c = refl
  either_under false d c = refl

  -- what a test teaches of it
  pub host_taught : (f : Spot → Spot) (c : Scope) (g : Name) → has_view g vs ≡ has_view g c.table → Same c → teach_host (under vs c) f x g ≡ under vs (teach_host c f x g)
  host_taught f c g h s =
      ap (λ z. cond (has_view g vs) (record (under vs c) { views = put_view g (with_taught x (f z) (view_of g c.views)) c.views }) (under vs c)) (host_there c false g s)
      ∙ ap (λ q. cond q (under vs (record c { views = put_view g (with_taught x (f (host_spot c false x g)) (view_of g c.views)) c.views })) (under vs c)) h
      ∙ either_under (has_view g c.table) (record c { views = put_view g (with_taught x (f (host_spot c false x g)) (view_of g c.views)) c.views }) c

  pub member_taught : (f : Spot → Spot) (c : Scope) (o : Option Name) → ((g : Name) → has_view g vs ≡ has_view g c.table) → Same c → teach_member (under vs c) f x o ≡ under vs (teach_member c f x o)
  member_taught f c None h s = refl
  member_taught f c (Some g) h s = host_taught f c g (h g) s

-- ---- the table stays

either_keeps : (q : Bool) (d c : Scope) → d.table ≡ c.table → (cond q d c).table ≡ c.table
either_keeps true d c e = e
either_keeps false d c e = refl

host_keeps : (c : Scope) (f : Spot → Spot) (x g : Name) → (teach_host c f x g).table ≡ c.table
host_keeps c f x g = either_keeps (has_view g c.table) (record c { views = put_view g (with_taught x (f (host_spot c false x g)) (view_of g c.views)) c.views }) c refl

member_keeps : (c : Scope) (f : Spot → Spot) (x : Name) (o : Option Name) → (teach_member c f x o).table ≡ c.table
member_keeps c f x None = refl
member_keeps c f x (Some g) = host_keeps c f x g

teach_keeps : (f : Spot → Spot) (r : Root) (c : Scope) → (teach c f r).table ≡ c.table
teach_keeps f (variable x) c = refl
teach_keeps f (alias x e) c = refl
teach_keeps f (other (named_host g) x) c = host_keeps c f x g
teach_keeps f (other this_host x) c = host_keeps c f x c.this
teach_keeps f (other item_host x) c = refl
teach_keeps f (other (group_member g n) x) c = member_keeps c f x (member_of g n c.groups)
teach_keeps f (member g n) c = refl

active_member_keeps : (c : Scope) (o : Option Name) → (active_member c o).table ≡ c.table
active_member_keeps c None = refl
active_member_keeps c (Some g) = refl

active_keeps : (c : Scope) (t : Term) → (teach_active c t).table ≡ c.table
active_keeps c (named_host g) = refl
active_keeps c this_host = refl
active_keeps c item_host = refl
active_keeps c (group_member g n) = active_member_keeps c (member_of g n c.groups)

where_keeps : (q : Bool) (d c : Scope) → d.table ≡ c.table → (where_taught q d c).table ≡ c.table
where_keeps true d c e = e
where_keeps false d c e = refl

mutual
  narrow_keeps : (e : Expression) (c : Scope) (b : Bool) → (narrow c e b).table ≡ c.table
  narrow_keeps (negation e) c b = narrow_keeps e c (not b)
  narrow_keeps (conjunction es) c true = each_keeps es c true
  narrow_keeps (conjunction es) c false = where_keeps (any_teaches es) (narrow_some c es false) c (some_keeps es c false)
  narrow_keeps (disjunction es) c true = where_keeps (any_teaches es) (narrow_some c es true) c (some_keeps es c true)
  narrow_keeps (disjunction es) c false = each_keeps es c false
  narrow_keeps (in_batch t) c true = active_keeps c t
  narrow_keeps (defined r ns) c true = teach_keeps (there_spot (defined_at ns)) r c
  narrow_keeps (path_status s r ns) c b = teach_keeps (changed_spot (changed_at ns (on_results (cases_with (answers s b))))) r c
  narrow_keeps e c b = refl

  each_keeps : (es : Expressions) (c : Scope) (b : Bool) → (narrow_each c es b).table ≡ c.table
  each_keeps no_expressions c b = refl
  each_keeps (expression e es) c b = each_keeps es (narrow c e b) b ∙ narrow_keeps e c b

  some_keeps : (es : Expressions) (c : Scope) (b : Bool) → (narrow_some c es b).table ≡ c.table
  some_keeps no_expressions c b = refl
  some_keeps (expression e no_expressions) c b = narrow_keeps e c b
  some_keeps (expression e (expression f es)) c b = narrow_keeps e c b

-- so what two tables say stays the same
pub narrowed : (q : Root → Bool) (vs : List View) (e : Expression) (c : Scope) (b : Bool) → SameBut q vs c.table → SameBut q vs (narrow c e b).table
narrowed q vs e c b s = subst (λ us. SameBut q vs us) (sym (narrow_keeps e c b)) s

pub each_narrowed : (q : Root → Bool) (vs : List View) (es : Expressions) (c : Scope) (b : Bool) → SameBut q vs c.table → SameBut q vs (narrow_each c es b).table
each_narrowed q vs es c b s = subst (λ us. SameBut q vs us) (sym (each_keeps es c b)) s
