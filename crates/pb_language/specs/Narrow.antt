-- What a test teaches (Ansible's page on conditionals).
use Rattle.std.specs.Prelude.{List, [], ◌∷◌, Bool, true, false, not, ◌||◌, cond, Option, Some, None}
use Rattle.std.specs.Prelude.{codes}
use Rattle.pb_semantics.specs.Data.{bool_eq}
use Rattle.pb_semantics.specs.Kind.{KindData, Cases, Shape, Spot, never, recs, results, anything}
use Rattle.pb_semantics.specs.Kind.{no_cases, one, nowhere, spot, slot_at, is_listed}
use Rattle.pb_semantics.specs.Kind.{is_skipped as is_skip}
use Rattle.pb_semantics.specs.Join.{join}
use Rattle.pb_language.specs.Expression.{Name, Status, is_failed, is_changed, is_skipped, Term}
use Rattle.pb_language.specs.Expression.{named_host, this_host, item_host, group_member, Expression}
use Rattle.pb_language.specs.Expression.{negation, conjunction, disjunction, in_batch, defined}
use Rattle.pb_language.specs.Expression.{path_status, Root, variable, alias, other, member}
use Rattle.pb_language.specs.Expression.{Expressions, no_expressions, expression}
use Rattle.pb_language.specs.World.{member_of}
use Rattle.pb_language.specs.Scope.{Scope, resolved, spot_kind, with_spot, with_taught, taught}
use Rattle.pb_language.specs.Scope.{has_view, view_of, put_view, own_spot, host_spot, other_spot}
use Rattle.pb_language.specs.Scope.{both_scopes}
use Rattle.pb_language.specs.Kinds.{root_spot}

-- the least record above the cases
abbrev pub least_record : Cases → KindData
least_record no_cases = never
least_record (one m sh fl k cs) = join k (least_record cs)

abbrev pub results_of : Cases → KindData
results_of cs = results cs (least_record cs)

-- the cases with that shape, failed status and record
abbrev pub cases_with : (Shape → Bool → KindData → Bool) → Cases → Cases
cases_with f no_cases = no_cases
cases_with f (one m sh fl k cs) =
    cond (f sh fl k) (one m sh fl k (cases_with f cs)) (cases_with f cs)

abbrev pub has_slot : Name → KindData → Bool
has_slot n (recs ss) = is_listed n ss
has_slot n k = false

-- the cases in which the test may have that answer
abbrev pub answers : Status → Bool → Shape → Bool → KindData → Bool
answers is_failed b sh fl k = bool_eq b fl
answers is_skipped true sh fl k = is_skip sh || has_slot (codes "skipped") k
answers is_skipped false sh fl k = not (is_skip sh)
answers is_changed true sh fl k = not (is_skip sh)
answers is_changed false sh fl k = true

abbrev pub on_results : (Cases → Cases) → KindData → KindData
on_results f (results cs r) = results_of (f cs)
on_results f k = k

abbrev pub changed_spot : (KindData → KindData) → Spot → Spot
changed_spot f nowhere = nowhere
changed_spot f (spot a k) = spot a (f k)

-- a record with that change of a field
abbrev pub with_change : Name → (KindData → KindData) → KindData → KindData
with_change n f (recs ss) = recs (with_spot n (changed_spot f (slot_at n ss)) ss)
with_change n f k = k

abbrev pub cases_changed : (KindData → KindData) → Cases → Cases
cases_changed f no_cases = no_cases
cases_changed f (one m sh fl k cs) = one m sh fl (f k) (cases_changed f cs)

-- the kind with that change at the end of a path through records and results
abbrev pub changed_at : List Name → (KindData → KindData) → KindData → KindData
changed_at [] f k = f k
changed_at (n ∷ ns) f (recs ss) = with_change n (changed_at ns f) (recs ss)
changed_at (n ∷ ns) f (results cs r) =
    results_of (cases_changed (with_change n (changed_at ns f)) cs)
changed_at (n ∷ ns) f k = k

-- whether a value of the kind may have the steps
abbrev pub may_step : (KindData → Bool) → Spot → Bool
may_step f nowhere = false
may_step f (spot a k) = f k

abbrev pub can_have : List Name → KindData → Bool
can_have [] k = true
can_have (n ∷ ns) (recs ss) = may_step (can_have ns) (slot_at n ss)
can_have (n ∷ ns) (results cs (recs ss)) = may_step (can_have ns) (slot_at n ss)
can_have (n ∷ ns) anything = true
can_have (n ∷ ns) k = false

-- a name or field that is there; one that isn't known has the kind of nothing
abbrev pub there_spot : (KindData → KindData) → Spot → Spot
there_spot f nowhere = spot true never
there_spot f (spot a k) = spot true (f k)

abbrev pub with_step : Name → (KindData → KindData) → KindData → KindData
with_step n f (recs ss) = recs (with_spot n (there_spot f (slot_at n ss)) ss)
with_step n f k = k

-- the cases that can have the steps, with the first of them there
abbrev pub cases_stepped : (KindData → Bool) → (KindData → KindData) → Cases → Cases
cases_stepped p f no_cases = no_cases
cases_stepped p f (one m sh fl k cs) =
    cond (p k) (one m sh fl (f k) (cases_stepped p f cs)) (cases_stepped p f cs)

-- each step of the path is there
abbrev pub defined_at : List Name → KindData → KindData
defined_at [] k = k
defined_at (n ∷ ns) (recs ss) = with_step n (defined_at ns) (recs ss)
defined_at (n ∷ ns) (results cs r) =
    results_of (cases_stepped (can_have (n ∷ ns)) (with_step n (defined_at ns)) cs)
defined_at (n ∷ ns) k = k

-- what is taught of the variable of a host that is known
abbrev pub teach_host : Scope → (Spot → Spot) → Name → Name → Scope
teach_host c f x g = cond (has_view g c.table) (record c {
  views = put_view g (with_taught x (f (host_spot c false x g)) (view_of g c.views)) c.views;
}) c

abbrev pub teach_member : Scope → (Spot → Spot) → Name → Option Name → Scope
teach_member c f x None = c
teach_member c f x (Some g) = teach_host c f x g

-- what is taught of the value at a root
abbrev pub teach : Scope → (Spot → Spot) → Root → Scope
teach c f (variable n) = record c { own_slots = with_taught n (f (own_spot c n)) c.own_slots }
teach c f (alias n e) =
    record c { learned = taught n e (spot_kind (f (root_spot c (alias n e)))) c.learned }
teach c f (other (named_host g) x) = teach_host c f x g
teach c f (other this_host x) = teach_host c f x c.this
teach c f (other item_host x) =
    record c { item_slots = with_taught x (f (other_spot c item_host x)) c.item_slots }
teach c f (other (group_member g n) x) = teach_member c f x (member_of g n c.groups)
teach c f (member g n) = c

-- each step of the path is there
abbrev pub teach_present : Scope → Root → List Name → Scope
teach_present c r ns = record (teach c (there_spot (defined_at ns)) r)
    { present = record { root = resolved c r; steps = ns } ∷ c.present }

abbrev pub active_member : Scope → Option Name → Scope
active_member c None = c
active_member c (Some g) = record c { active = g ∷ c.active }

-- a host is known to be active
abbrev pub teach_active : Scope → Term → Scope
teach_active c (named_host g) = record c { active = g ∷ c.active }
teach_active c this_host = record c { active = c.this ∷ c.active }
teach_active c item_host = record c { item_active = true }
teach_active c (group_member g n) = active_member c (member_of g n c.groups)

-- whether a test may teach something
abbrev mutual
  pub teaches : Expression → Bool
  teaches (negation e) = teaches e
  teaches (conjunction es) = any_teaches es
  teaches (disjunction es) = any_teaches es
  teaches (in_batch t) = true
  teaches (defined r ns) = true
  teaches (path_status s r ns) = true
  teaches e = false

  pub any_teaches : Expressions → Bool
  any_teaches no_expressions = false
  any_teaches (expression e es) = teaches e || any_teaches es

-- where nothing teaches, what is known stays as it is
abbrev pub where_taught : Bool → Scope → Scope → Scope
where_taught true d c = d
where_taught false d c = c

-- what is known after a test that had that answer
abbrev mutual
  pub narrow : Scope → Expression → Bool → Scope
  narrow c (negation e) b = narrow c e (not b)
  narrow c (conjunction es) true = narrow_each c es true
  narrow c (conjunction es) false = where_taught (any_teaches es) (narrow_some c es false) c
  narrow c (disjunction es) true = where_taught (any_teaches es) (narrow_some c es true) c
  narrow c (disjunction es) false = narrow_each c es false
  narrow c (in_batch t) true = teach_active c t
  narrow c (defined r ns) true = teach_present c r ns
  narrow c (path_status s r ns) b =
      teach c (changed_spot (changed_at ns (on_results (cases_with (answers s b))))) r
  narrow c e b = c

  -- each of them had that answer
  pub narrow_each : Scope → Expressions → Bool → Scope
  narrow_each c no_expressions b = c
  narrow_each c (expression e es) b = narrow_each (narrow c e b) es b

  -- one of them had that answer, and those before it hadn't
  pub narrow_some : Scope → Expressions → Bool → Scope
  narrow_some c no_expressions b = c
  narrow_some c (expression e no_expressions) b = narrow c e b
  narrow_some c (expression e (expression f es)) b =
      both_scopes (narrow c e b) (narrow_some (narrow c e (not b)) (expression f es) b)
