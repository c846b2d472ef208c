-- What narrowing keeps of a scope, and two scopes of which one is so.
use Rattle.std.proofs.Common.{◌≡◌, List, [], ◌∷◌, Bool, true, false, not, ◌&&◌, ◌||◌, cond, bytes_eq, Option, Some, None, ⊎_elim, refl, sym, ap, subst, ◌∙◌}
use Rattle.pb_semantics.specs.Kind.{KindData, Slots, Spot, recs, no_slots, slot, nowhere, spot, slot_at, is_listed}
use Rattle.pb_semantics.specs.Keeps.{is_among}
use Rattle.pb_semantics.specs.Join.{join}
use Rattle.pb_semantics.specs.Well.{Well, are_once}
use Rattle.pb_semantics.proofs.Bools.{untrue, and-left, and-right, or-left, or-right, or-cases, true-false}
use Rattle.pb_semantics.proofs.Names.{same_name, own_name}
use Rattle.pb_semantics.proofs.JoinWell.{joins_well}
use Rattle.pb_language.specs.Expression.{Name, Expression, negation, conjunction, disjunction, in_batch, defined, path_status, Root, variable, alias, other, member, Expressions, no_expressions, expression, Term, named_host, this_host, item_host, group_member}
use Rattle.pb_language.specs.Same.{same_expression}
use Rattle.pb_language.specs.World.{member_of}
use Rattle.pb_language.specs.Scope.{Scope, View, Learned, nothing, taught, with_taught, has_view, view_of, put_view, learned_kind, host_spot, with_both_kinds, both_learned, both_names, with_both_spots, both_slots, both_views, both_scopes}
use Rattle.pb_language.specs.Narrow.{cases_with, answers, on_results, changed_spot, changed_at, there_spot, defined_at, teach_host, teach_member, teach, teach_present, active_member, teach_active, any_teaches, where_taught, narrow, narrow_each, narrow_some}
use Rattle.pb_language.specs.Knows.{WellScope}
use Rattle.pb_language.specs.Wells.{WellSpot}
use Rattle.pb_language.proofs.Same.{equal_expression}
use Rattle.pb_language.proofs.WithSlot.{at_with, well_with}
use Rattle.pb_language.proofs.WellKinds.{well_slot}

-- the views of hosts
put_step : (p q r : Bool) (g h : Name) (x : Name) (ss vs us u : Slots) → bytes_eq g x ≡ p → bytes_eq h x ≡ q → bytes_eq h g ≡ r → u ≡ cond r ss us → cond p (cond q ss us) (cond q vs u) ≡ cond r ss (cond q vs us)
put_step true true true g h x ss vs us u e i j f = refl
put_step true true false g h x ss vs us u e i j f = true-false (bytes_eq h g) (rw (same_name h x i, same_name g x e) (own_name x)) j
put_step true false true g h x ss vs us u e i j f = true-false (bytes_eq h x) (rw (same_name h g j) e) i
put_step true false false g h x ss vs us u e i j f = refl
put_step false true true g h x ss vs us u e i j f = true-false (bytes_eq g x) (rw (← same_name h g j) i) e
put_step false true false g h x ss vs us u e i j f = refl
put_step false false r g h x ss vs us u e i j f = f

view_cond : (p : Bool) (h : Name) (v : View) (ss : Slots) (vs us : List View) → view_of h (cond p (record { host = v.host; slots = ss } ∷ vs) (v ∷ us)) ≡ cond p (cond (bytes_eq h v.host) ss (view_of h vs)) (cond (bytes_eq h v.host) v.slots (view_of h us))
view_cond true h v ss vs us = refl
view_cond false h v ss vs us = refl

pub view_put : (g h : Name) (ss : Slots) (vs : List View) → view_of h (put_view g ss vs) ≡ cond (bytes_eq h g) ss (view_of h vs)
view_put g h ss [] = refl
view_put g h ss (v ∷ vs) =
    view_cond (bytes_eq g v.host) h v ss vs (put_view g ss vs)
    ∙ put_step (bytes_eq g v.host) (bytes_eq h v.host) (bytes_eq h g) g h v.host ss v.slots (view_of h vs) (view_of h (put_view g ss vs)) refl refl refl (view_put g h ss vs)

either_slots : (q : Bool) (Q : Slots → Type 0) (ss ts : Slots) → (q ≡ true → Q ss) → Q ts → Q (cond q ss ts)
either_slots true Q ss ts f x = f refl
either_slots false Q ss ts f x = x

-- what holds of a view holds of it where another is put
pub put_view_at : (Q : Slots → Type 0) (g h : Name) (ss : Slots) (vs : List View) → Q (view_of h vs) → (h ≡ g → Q ss) → Q (view_of h (put_view g ss vs))
put_view_at Q g h ss vs x f =
    subst Q (sym (view_put g h ss vs)) (either_slots (bytes_eq h g) Q ss (view_of h vs) (λ e. f (same_name h g e)) x)

view_both_step : (q : Bool) (g : Name) (v : View) (vs ws : List View) (us : Slots) → bytes_eq g v.host ≡ q → us ≡ both_slots (view_of g vs) (view_of g ws)
    → cond q (both_slots v.slots (view_of v.host ws)) us ≡ both_slots (cond q v.slots (view_of g vs)) (view_of g ws)
view_both_step true g v vs ws us e h = ap (λ n. both_slots v.slots (view_of n ws)) (sym (same_name g v.host e))
view_both_step false g v vs ws us e h = h

pub view_both : (g : Name) (vs ws : List View) → view_of g (both_views vs ws) ≡ both_slots (view_of g vs) (view_of g ws)
view_both g [] ws = refl
view_both g (v ∷ vs) ws = view_both_step (bytes_eq g v.host) g v vs ws (view_of g (both_views vs ws)) refl (view_both g vs ws)

-- what two scopes share
pub record SameGround (c d : Scope) : Type 0 where
  pub own : c.own ≡ d.own
  pub this : c.this ≡ d.this
  pub groups : c.groups ≡ d.groups
  pub laters : c.laters ≡ d.laters
  pub place : c.place ≡ d.place
  pub table : c.table ≡ d.table

pub own_ground : (c : Scope) → SameGround c c
own_ground c = record { own = refl; this = refl; groups = refl; laters = refl; place = refl; table = refl }

pub turned_ground : (c d : Scope) → SameGround c d → SameGround d c
turned_ground c d m = record { own = sym m.own; this = sym m.this; groups = sym m.groups; laters = sym m.laters; place = sym m.place; table = sym m.table }

pub ground_through : (c d e : Scope) → SameGround c d → SameGround d e → SameGround c e
ground_through c d e m n = record { own = m.own ∙ n.own; this = m.this ∙ n.this; groups = m.groups ∙ n.groups; laters = m.laters ∙ n.laters; place = m.place ∙ n.place; table = m.table ∙ n.table }

ground_both : (c d : Scope) → SameGround c (both_scopes c d)
ground_both c d = record { own = refl; this = refl; groups = refl; laters = refl; place = refl; table = refl }

-- of two scopes of which one is taken
pub one_scope : (P : Scope → Type 0) (q : Bool) (c d : Scope) → P c → P d → P (cond q c d)
one_scope P true c d x y = x
one_scope P false c d x y = y

ground_host : (c : Scope) (f : Spot → Spot) (x g : Name) → SameGround c (teach_host c f x g)
ground_host c f x g = one_scope (λ d. SameGround c d) (has_view g c.table) (record c { views = put_view g (with_taught x (f (host_spot c false x g)) (view_of g c.views)) c.views }) c
    (record { own = refl; this = refl; groups = refl; laters = refl; place = refl; table = refl }) (own_ground c)

ground_member : (c : Scope) (f : Spot → Spot) (x : Name) (o : Option Name) → SameGround c (teach_member c f x o)
ground_member c f x None = own_ground c
ground_member c f x (Some g) = ground_host c f x g

ground_teach : (c : Scope) (f : Spot → Spot) (r : Root) → SameGround c (teach c f r)
ground_teach c f (variable n) = record { own = refl; this = refl; groups = refl; laters = refl; place = refl; table = refl }
ground_teach c f (alias n e) = record { own = refl; this = refl; groups = refl; laters = refl; place = refl; table = refl }
ground_teach c f (other (named_host g) x) = ground_host c f x g
ground_teach c f (other this_host x) = ground_host c f x c.this
ground_teach c f (other item_host x) = record { own = refl; this = refl; groups = refl; laters = refl; place = refl; table = refl }
ground_teach c f (other (group_member g n) x) = ground_member c f x (member_of g n c.groups)
ground_teach c f (member g n) = own_ground c

ground_present : (c : Scope) (r : Root) (ns : List Name) → SameGround c (teach_present c r ns)
ground_present c r ns =
    let m = ground_teach c (there_spot (defined_at ns)) r in
    record { own = m.own; this = m.this; groups = m.groups; laters = m.laters; place = m.place; table = m.table }

ground_active_member : (c : Scope) (o : Option Name) → SameGround c (active_member c o)
ground_active_member c None = own_ground c
ground_active_member c (Some g) = record { own = refl; this = refl; groups = refl; laters = refl; place = refl; table = refl }

ground_active : (c : Scope) (t : Term) → SameGround c (teach_active c t)
ground_active c (named_host n) = record { own = refl; this = refl; groups = refl; laters = refl; place = refl; table = refl }
ground_active c this_host = record { own = refl; this = refl; groups = refl; laters = refl; place = refl; table = refl }
ground_active c item_host = record { own = refl; this = refl; groups = refl; laters = refl; place = refl; table = refl }
ground_active c (group_member g n) = ground_active_member c (member_of g n c.groups)

-- the same of what is known where nothing teaches
pub either_scope : (P : Scope → Type 0) (q : Bool) (c d : Scope) → P c → P d → P (where_taught q c d)
either_scope P true c d x y = x
either_scope P false c d x y = y

mutual
  pub ground_narrow : (e : Expression) (c : Scope) (b : Bool) → SameGround c (narrow c e b)
  ground_narrow (negation e) c b = ground_narrow e c (not b)
  ground_narrow (conjunction es) c true = ground_each es c true
  ground_narrow (conjunction es) c false = either_scope (λ d. SameGround c d) (any_teaches es) (narrow_some c es false) c (ground_some es c false) (own_ground c)
  ground_narrow (disjunction es) c true = either_scope (λ d. SameGround c d) (any_teaches es) (narrow_some c es true) c (ground_some es c true) (own_ground c)
  ground_narrow (disjunction es) c false = ground_each es c false
  ground_narrow (in_batch t) c true = ground_active c t
  ground_narrow (defined r ns) c true = ground_present c r ns
  ground_narrow (path_status s r ns) c b = ground_teach c (changed_spot (changed_at ns (on_results (cases_with (answers s b))))) r
  ground_narrow e c b = own_ground c

  ground_each : (es : Expressions) (c : Scope) (b : Bool) → SameGround c (narrow_each c es b)
  ground_each no_expressions c b = own_ground c
  ground_each (expression e es) c b = ground_through c (narrow c e b) (narrow_each (narrow c e b) es b) (ground_narrow e c b) (ground_each es (narrow c e b) b)

  pub ground_some : (es : Expressions) (c : Scope) (b : Bool) → SameGround c (narrow_some c es b)
  ground_some no_expressions c b = own_ground c
  ground_some (expression e no_expressions) c b = ground_narrow e c b
  ground_some (expression e (expression f es)) c b =
      ground_through c (narrow c e b) (both_scopes (narrow c e b) (narrow_some (narrow c e (not b)) (expression f es) b)) (ground_narrow e c b) (ground_both (narrow c e b) (narrow_some (narrow c e (not b)) (expression f es) b))

-- what both teach
abbrev pub both_kind : Option KindData → Option KindData → Option KindData
both_kind None p = None
both_kind (Some i) None = None
both_kind (Some i) (Some j) = Some (join i j)

none_of : (o : Option KindData) → both_kind o None ≡ None
none_of None = refl
none_of (Some i) = refl

learned_step : (q : Bool) (n m : Name) (e f : Expression) (i : KindData) (o p : Option KindData) (u t : Learned) → bytes_eq n m && same_expression e f ≡ q → p ≡ learned_kind m f t
    → learned_kind n e u ≡ both_kind o (learned_kind n e t) → learned_kind n e (with_both_kinds m f i p u) ≡ both_kind (cond q (Some i) o) (learned_kind n e t)
learned_step true n m e f i o None u t h y later =
    let a : n ≡ m = same_name n m (and-left (bytes_eq n m) (same_expression e f) h) in
    let b : e ≡ f = equal_expression e f (and-right (bytes_eq n m) (same_expression e f) h) in
    let z : learned_kind n e t ≡ None = rw (a, b) (sym y) in
    later ∙ ap (both_kind o) z ∙ none_of o ∙ sym (ap (both_kind (Some i)) z)
learned_step false n m e f i o None u t h y later = later
learned_step true n m e f i o (Some j) u t h y later =
    let a : n ≡ m = same_name n m (and-left (bytes_eq n m) (same_expression e f) h) in
    let b : e ≡ f = equal_expression e f (and-right (bytes_eq n m) (same_expression e f) h) in
    let z : learned_kind n e t ≡ Some j = rw (a, b) (sym y) in
    ap (λ q. cond q (Some (join i j)) (learned_kind n e u)) h ∙ sym (ap (both_kind (Some i)) z)
learned_step false n m e f i o (Some j) u t h y later = ap (λ q. cond q (Some (join i j)) (learned_kind n e u)) h ∙ later

pub learned_both : (n : Name) (e : Expression) (l t : Learned) → learned_kind n e (both_learned l t) ≡ both_kind (learned_kind n e l) (learned_kind n e t)
learned_both n e nothing t = refl
learned_both n e (taught m f i l) t = learned_step (bytes_eq n m && same_expression e f) n m e f i (learned_kind n e l) (learned_kind m f t) (both_learned l t) t refl refl (learned_both n e l t)

abbrev pub BothLearned : Name → Expression → Option KindData → Option KindData → KindData → Type 0
BothLearned n e o p k = (i : KindData) × (j : KindData) × (o ≡ Some i) × (p ≡ Some j) × (k ≡ join i j)

both_known : (n : Name) (e : Expression) (o p : Option KindData) (k : KindData) → both_kind o p ≡ Some k → BothLearned n e o p k
both_known n e None p k x = let z : None ≡ Some k = x in absurd (cc)
both_known n e (Some i) None k x = let z : None ≡ Some k = x in absurd (cc)
both_known n e (Some i) (Some j) k x = let z : join i j ≡ k = cc in (i, j, refl, refl, sym z)

pub both_learned_at : (n : Name) (e : Expression) (l t : Learned) (k : KindData) → learned_kind n e (both_learned l t) ≡ Some k → BothLearned n e (learned_kind n e l) (learned_kind n e t) k
both_learned_at n e l t k x = both_known n e (learned_kind n e l) (learned_kind n e t) k (sym (learned_both n e l t) ∙ x)

abbrev pub both_spot : Spot → Spot → Spot
both_spot nowhere t = nowhere
both_spot (spot a k) nowhere = nowhere
both_spot (spot a k) (spot b m) = spot (a && b) (join k m)

none_of_both : (s : Spot) → both_spot s nowhere ≡ nowhere
none_of_both nowhere = refl
none_of_both (spot a k) = refl

both_slot_step : (q : Bool) (x n : Name) (a : Bool) (k : KindData) (s t : Spot) (ts us : Slots) → bytes_eq x n ≡ q → t ≡ slot_at n ts → slot_at x us ≡ both_spot s (slot_at x ts)
    → slot_at x (with_both_spots n a k t us) ≡ both_spot (cond q (spot a k) s) (slot_at x ts)
both_slot_step true x n a k s nowhere ts us e h i =
    let z : slot_at x ts ≡ nowhere = rw (same_name x n e) (sym h) in
    i ∙ ap (λ u. both_spot s u) z ∙ none_of_both s ∙ sym (ap (λ u. both_spot (spot a k) u) z)
both_slot_step false x n a k s nowhere ts us e h i = i
both_slot_step true x n a k s (spot b m) ts us e h i =
    let z : slot_at x ts ≡ spot b m = rw (same_name x n e) (sym h) in
    at_with x n (a && b) (join k m) us ∙ ap (λ r. cond r (spot (a && b) (join k m)) (slot_at x us)) e ∙ sym (ap (λ u. both_spot (spot a k) u) z)
both_slot_step false x n a k s (spot b m) ts us e h i = at_with x n (a && b) (join k m) us ∙ ap (λ r. cond r (spot (a && b) (join k m)) (slot_at x us)) e ∙ i

pub at_both : (x : Name) (ss ts : Slots) → slot_at x (both_slots ss ts) ≡ both_spot (slot_at x ss) (slot_at x ts)
at_both x no_slots ts = refl
at_both x (slot n a k ss) ts = both_slot_step (bytes_eq x n) x n a k (slot_at x ss) (slot_at n ts) ts (both_slots ss ts) refl refl (at_both x ss ts)

well_both_spots : (n : Name) (a : Bool) (k : KindData) (s : Spot) (us : Slots) → Well k → WellSpot s → Well (recs us) → Well (recs (with_both_spots n a k s us))
well_both_spots n a k nowhere us w v u = u
well_both_spots n a k (spot b m) us w v u = well_with n (a && b) (join k m) us (joins_well k m w v) u

well_both_slots : (ss ts : Slots) → Well (recs ss) → Well (recs ts) → Well (recs (both_slots ss ts))
well_both_slots no_slots ts w v = (refl, tt)
well_both_slots (slot n a k ss) ts w v =
    well_both_spots n a k (slot_at n ts) (both_slots ss ts) w.1.0 (well_slot n ts v.1) (well_both_slots ss ts (and-right (not (is_listed n ss)) (are_once ss) w.0, w.1.1) v)

pub both_first : (n : Name) (ns ms : List Name) → is_among n (both_names ns ms) ≡ true → is_among n ns ≡ true
both_first n [] ms h = h
both_first n (m ∷ ns) ms h = first_step (is_among m ms) n m ns (both_names ns ms) (λ x. both_first n ns ms x) h where
  first_step : (q : Bool) (n m : Name) (ns os : List Name) → (is_among n os ≡ true → is_among n ns ≡ true) → is_among n (cond q (m ∷ os) os) ≡ true → bytes_eq n m || is_among n ns ≡ true
  first_step true n m ns os f h = ⊎_elim (λ x. or-left (bytes_eq n m) (is_among n ns) x) (λ y. or-right (bytes_eq n m) (is_among n ns) (f y)) (or-cases (bytes_eq n m) (is_among n os) h)
  first_step false n m ns os f h = or-right (bytes_eq n m) (is_among n ns) (f h)

pub both_second : (n : Name) (ns ms : List Name) → is_among n (both_names ns ms) ≡ true → is_among n ms ≡ true
both_second n [] ms h = untrue h
both_second n (m ∷ ns) ms h = second_step (is_among m ms) n m ms (both_names ns ms) refl (λ x. both_second n ns ms x) h where
  second_step : (q : Bool) (n m : Name) (ms os : List Name) → is_among m ms ≡ q → (is_among n os ≡ true → is_among n ms ≡ true) → is_among n (cond q (m ∷ os) os) ≡ true → is_among n ms ≡ true
  second_step true n m ms os e f h = ⊎_elim (λ x. rw (same_name n m x) e) (λ y. f y) (or-cases (bytes_eq n m) (is_among n os) h)
  second_step false n m ms os e f h = f h

pub well_both : (c d : Scope) → WellScope c → WellScope d → WellScope (both_scopes c d)
well_both c d w v =
    record {
      own = w.own;
      table = w.table;
      own_slots = well_both_slots c.own_slots d.own_slots w.own_slots v.own_slots;
      views = λ g. rw (view_both g c.views d.views) (well_both_slots (view_of g c.views) (view_of g d.views) (w.views g) (v.views g));
      learned = λ n e k i.
          let both = both_learned_at n e c.learned d.learned k i in
          rw both.4 (joins_well both.0 both.1 (w.learned n e both.0 both.2) (v.learned n e both.1 both.3));
      item_slots = well_both_slots c.item_slots d.item_slots w.item_slots v.item_slots;
    }
