-- A world that knows a scope knows what tests have taught of it.
use Rattle.std.proofs.Common.{◌≡◌, ℕ, List, [], ◌∷◌, Bool, true, false, not, ◌&&◌, cond, bytes_eq, Option, Some, None, codes, ⊎_elim, refl, sym, ap, ◌∙◌}
use Rattle.pb_semantics.specs.Data.{Data, Fields, boolean, text, rec, opaque, field_value}
use Rattle.pb_semantics.specs.Kind.{KindData, Slots, Spot, recs, nowhere, spot, slot_at}
use Rattle.pb_semantics.specs.Keeps.{is_among, keeps, spot_ok}
use Rattle.pb_semantics.specs.Well.{Well}
use Rattle.pb_semantics.proofs.Bools.{untrue, and-left, and-right, or-left, or-right, or-cases}
use Rattle.pb_semantics.proofs.Names.{same_name}
use Rattle.pb_language.specs.Expression.{Name, Status, Expression, negation, conjunction, disjunction, in_batch, defined, path_status, Root, variable, alias, other, member, Expressions, no_expressions, expression, Term, named_host, this_host, item_host, group_member}
use Rattle.pb_language.specs.Same.{same_expression, same_root}
use Rattle.pb_language.specs.World.{World, variables_of, member_of}
use Rattle.pb_language.specs.Evaluation.{Outcome, value, stuck, Look, there, absent, failing, or_stuck, no_field, value_below, is_value, is_there, undefined, found, readable, name_in, member_named, look_there, is_text_among, member_among, is_active, eval, look}
use Rattle.pb_language.specs.Scope.{Scope, Present, begins_with, is_present_path, resolved, both_present, Later, spot_kind, is_certain, with_taught, has_view, view_of, put_view, later_of, is_later, learned_kind, own_spot, host_spot, other_spot, both_slots, both_scopes}
use Rattle.pb_language.specs.Kinds.{root_spot}
use Rattle.pb_language.specs.Narrow.{cases_with, answers, on_results, changed_spot, changed_at, there_spot, defined_at, teach_host, teach_member, teach, teach_present, active_member, teach_active, any_teaches, narrow, narrow_each, narrow_some}
use Rattle.pb_language.specs.Knows.{WellScope, AreTaught, Knows}
use Rattle.pb_language.specs.Wells.{WellSpot}
use Rattle.pb_language.proofs.Same.{equal_expression, equal_root}
use Rattle.pb_language.proofs.WithSlot.{at_with, well_with}
use Rattle.pb_language.proofs.WellKinds.{well_slot, well_own, well_host, well_other, well_root}
use Rattle.pb_language.proofs.Paths.{keeps_first, keeps_second, meets_first, meets_second}
use Rattle.pb_language.proofs.Values.{own_ok, host_ok, other_ok, resolved_look, root_ok}
use Rattle.pb_language.proofs.Taught.{well_changed_spot, well_there_spot, well_answered, well_defined_at}
use Rattle.pb_language.proofs.Scopes.{put_view_at, view_both, SameGround, one_scope, either_scope, both_learned_at, both_spot, at_both, both_first, both_second, well_both}

abbrev pub WellsSpot : (Spot → Spot) → Type 0
WellsSpot f = (s : Spot) → WellSpot s → WellSpot (f s)

-- scopes stay well formed
well_learned : (q : Bool) (j k : KindData) (o : Option KindData) → Well j → (o ≡ Some k → Well k) → cond q (Some j) o ≡ Some k → Well k
well_learned true j k o w f h = let x : j ≡ k = cc in rw (← x) w
well_learned false j k o w f h = f h

well_spot_kind : (s : Spot) → WellSpot s → Well (spot_kind s)
well_spot_kind nowhere w = tt
well_spot_kind (spot a k) w = w

well_with_taught : (n : Name) (s : Spot) (ss : Slots) → WellSpot s → Well (recs ss) → Well (recs (with_taught n s ss))
well_with_taught n s ss w v = well_with n (is_certain s) (spot_kind s) ss (well_spot_kind s w) v

abbrev pub put_host : Scope → (Spot → Spot) → Name → Name → Scope
put_host c f x g = record c { views = put_view g (with_taught x (f (host_spot c false x g)) (view_of g c.views)) c.views }

well_put_host : (c : Scope) (f : Spot → Spot) (x g : Name) → WellsSpot f → WellScope c → WellScope (put_host c f x g)
well_put_host c f x g u w =
    let s = f (host_spot c false x g) in
    record {
      own = w.own;
      table = w.table;
      own_slots = w.own_slots;
      views = λ h. put_view_at (λ ts. Well (recs ts)) g h (with_taught x s (view_of g c.views)) c.views (w.views h) (λ e. well_with_taught x s (view_of g c.views) (u (host_spot c false x g) (well_host c false x g w)) (w.views g));
      learned = w.learned;
      item_slots = w.item_slots;
    }

well_teach_host : (c : Scope) (f : Spot → Spot) (x g : Name) → WellsSpot f → WellScope c → WellScope (teach_host c f x g)
well_teach_host c f x g u w = one_scope (λ d. WellScope d) (has_view g c.table) (put_host c f x g) c (well_put_host c f x g u w) w

well_teach_member : (c : Scope) (f : Spot → Spot) (x : Name) (o : Option Name) → WellsSpot f → WellScope c → WellScope (teach_member c f x o)
well_teach_member c f x None u w = w
well_teach_member c f x (Some g) u w = well_teach_host c f x g u w

pub well_teach : (c : Scope) (f : Spot → Spot) (r : Root) → WellsSpot f → WellScope c → WellScope (teach c f r)
well_teach c f (variable n) u w =
    record { own = w.own; table = w.table; own_slots = well_with_taught n (f (own_spot c n)) c.own_slots (u (own_spot c n) (well_own c n w)) w.own_slots; views = w.views; learned = w.learned; item_slots = w.item_slots }
well_teach c f (alias n e) u w =
    let s = root_spot c (alias n e) in
    record {
      own = w.own;
      table = w.table;
      own_slots = w.own_slots;
      views = w.views;
      learned = λ m g k h. well_learned (bytes_eq m n && same_expression g e) (spot_kind (f s)) k (learned_kind m g c.learned) (u s (well_root c w (alias n e))) (w.learned m g k) h;
      item_slots = w.item_slots;
    }
well_teach c f (other (named_host g) x) u w = well_teach_host c f x g u w
well_teach c f (other this_host x) u w = well_teach_host c f x c.this u w
well_teach c f (other item_host x) u w =
    record { own = w.own; table = w.table; own_slots = w.own_slots; views = w.views; learned = w.learned; item_slots = well_with_taught x (f (other_spot c item_host x)) c.item_slots (u (other_spot c item_host x) (well_other c item_host x w)) w.item_slots }
well_teach c f (other (group_member g n) x) u w = well_teach_member c f x (member_of g n c.groups) u w
well_teach c f (member g n) u w = w

well_active_member : (c : Scope) (o : Option Name) → WellScope c → WellScope (active_member c o)
well_active_member c None w = w
well_active_member c (Some g) w = record { own = w.own; table = w.table; own_slots = w.own_slots; views = w.views; learned = w.learned; item_slots = w.item_slots }

pub well_active : (c : Scope) (t : Term) → WellScope c → WellScope (teach_active c t)
well_active c (named_host n) w = record { own = w.own; table = w.table; own_slots = w.own_slots; views = w.views; learned = w.learned; item_slots = w.item_slots }
well_active c this_host w = record { own = w.own; table = w.table; own_slots = w.own_slots; views = w.views; learned = w.learned; item_slots = w.item_slots }
well_active c item_host w = record { own = w.own; table = w.table; own_slots = w.own_slots; views = w.views; learned = w.learned; item_slots = w.item_slots }
well_active c (group_member g n) w = well_active_member c (member_of g n c.groups) w

pub defined_wells : (ns : List Name) → WellsSpot (there_spot (defined_at ns))
defined_wells ns s w = well_there_spot (defined_at ns) s (λ k v. well_defined_at ns k v) w

pub answered_wells : (ns : List Name) (s : Status) (b : Bool) → WellsSpot (changed_spot (changed_at ns (on_results (cases_with (answers s b)))))
answered_wells ns s b t w = well_changed_spot (changed_at ns (on_results (cases_with (answers s b)))) t (λ k v. well_answered ns s b k v) w

pub well_present : (c : Scope) (r : Root) (ns : List Name) → WellScope c → WellScope (teach_present c r ns)
well_present c r ns w =
    let v = well_teach c (there_spot (defined_at ns)) r (defined_wells ns) w in
    record { own = v.own; table = v.table; own_slots = v.own_slots; views = v.views; learned = v.learned; item_slots = v.item_slots }

mutual
  pub well_narrow : (e : Expression) (c : Scope) (b : Bool) → WellScope c → WellScope (narrow c e b)
  well_narrow (negation e) c b w = well_narrow e c (not b) w
  well_narrow (conjunction es) c true w = well_narrow_each es c true w
  well_narrow (conjunction es) c false w = either_scope WellScope (any_teaches es) (narrow_some c es false) c (well_narrow_some es c false w) w
  well_narrow (disjunction es) c true w = either_scope WellScope (any_teaches es) (narrow_some c es true) c (well_narrow_some es c true w) w
  well_narrow (disjunction es) c false w = well_narrow_each es c false w
  well_narrow (in_batch t) c true w = well_active c t w
  well_narrow (defined r ns) c true w = well_present c r ns w
  well_narrow (path_status s r ns) c b w = well_teach c (changed_spot (changed_at ns (on_results (cases_with (answers s b))))) r (answered_wells ns s b) w
  well_narrow e c b w = w

  pub well_narrow_each : (es : Expressions) (c : Scope) (b : Bool) → WellScope c → WellScope (narrow_each c es b)
  well_narrow_each no_expressions c b w = w
  well_narrow_each (expression e es) c b w = well_narrow_each es (narrow c e b) b (well_narrow e c b w)

  pub well_narrow_some : (es : Expressions) (c : Scope) (b : Bool) → WellScope c → WellScope (narrow_some c es b)
  well_narrow_some no_expressions c b w = w
  well_narrow_some (expression e no_expressions) c b w = well_narrow e c b w
  well_narrow_some (expression e (expression f es)) c b w =
      well_both (narrow c e b) (narrow_some (narrow c e (not b)) (expression f es) b) (well_narrow e c b w) (well_narrow_some (expression f es) (narrow c e (not b)) b (well_narrow e c (not b) w))

-- two scopes of which one is so
both_spot_first : (o : Option Data) (s t : Spot) (a : Bool) (k : KindData) → WellSpot s → WellSpot t → ((b : Bool) (m : KindData) → s ≡ spot b m → spot_ok o (spot b m) ≡ true) → both_spot s t ≡ spot a k → spot_ok o (spot a k) ≡ true
both_spot_first o nowhere t a k w v f h = let x : nowhere ≡ spot a k = h in absurd (cc)
both_spot_first o (spot b m) nowhere a k w v f h = let x : nowhere ≡ spot a k = h in absurd (cc)
both_spot_first o (spot b m) (spot c j) a k w v f h = rw (← h) (meets_first o (spot b m) (spot c j) w v (f b m refl))

both_spot_second : (o : Option Data) (s t : Spot) (a : Bool) (k : KindData) → WellSpot s → WellSpot t → ((b : Bool) (m : KindData) → t ≡ spot b m → spot_ok o (spot b m) ≡ true) → both_spot s t ≡ spot a k → spot_ok o (spot a k) ≡ true
both_spot_second o nowhere t a k w v f h = let x : nowhere ≡ spot a k = h in absurd (cc)
both_spot_second o (spot b m) nowhere a k w v f h = let x : nowhere ≡ spot a k = h in absurd (cc)
both_spot_second o (spot b m) (spot c j) a k w v f h = rw (← h) (meets_second o (spot b m) (spot c j) w v (f c j refl))

both_taught_first : (fs : Fields) (ss ts : Slots) → Well (recs ss) → Well (recs ts) → AreTaught fs ss → AreTaught fs (both_slots ss ts)
both_taught_first fs ss ts w v m x a k h = both_spot_first (field_value x fs) (slot_at x ss) (slot_at x ts) a k (well_slot x ss w.1) (well_slot x ts v.1) (m x) (sym (at_both x ss ts) ∙ h)

both_taught_second : (fs : Fields) (ss ts : Slots) → Well (recs ss) → Well (recs ts) → AreTaught fs ts → AreTaught fs (both_slots ss ts)
both_taught_second fs ss ts w v m x a k h = both_spot_second (field_value x fs) (slot_at x ss) (slot_at x ts) a k (well_slot x ss w.1) (well_slot x ts v.1) (m x) (sym (at_both x ss ts) ∙ h)

-- a path that begins another that is there
shorter_path : (ns ms : List Name) (d : Data) → begins_with ns ms ≡ true → is_value (value_below ms d) ≡ true → is_value (value_below ns d) ≡ true
shorter_path [] ms d h i = refl
shorter_path (n ∷ ns) [] d h i = untrue h
shorter_path (n ∷ ns) (m ∷ ms) (rec fs) h i =
    shorter_step n m ns ms (field_value m fs) fs (same_name n m (and-left (bytes_eq n m) (begins_with ns ms) h)) refl (λ d j. shorter_path ns ms d (and-right (bytes_eq n m) (begins_with ns ms) h) j) i where
      shorter_step : (n m : Name) (ns ms : List Name) (o : Option Data) (fs : Fields) → n ≡ m → field_value m fs ≡ o → ((d : Data) → is_value (value_below ms d) ≡ true → is_value (value_below ns d) ≡ true)
          → is_value (or_stuck no_field (value_below ms) o) ≡ true → is_value (or_stuck no_field (value_below ns) (field_value n fs)) ≡ true
      shorter_step n m ns ms None fs e h f i = untrue i
      shorter_step n m ns ms (Some d) fs e h f i = rw (e, h) (f d i)
shorter_path (n ∷ ns) (m ∷ ms) d h i = untrue i

shorter_there : (ns ms : List Name) (p : Look) → begins_with ns ms ≡ true → is_there ms p ≡ value (boolean true) → is_there ns p ≡ value (boolean true)
shorter_there ns ms (there d) h i =
    let x : is_value (value_below ms d) ≡ true = cc in
    ap (λ b. value (boolean b)) (shorter_path ns ms d h x)
shorter_there ns ms absent h i = i
shorter_there ns ms (failing y) h i = i

-- a path that begins one of those that are there
one_there : (w : World) (r q : Root) (ns ms : List Name) → same_root r q && begins_with ns ms ≡ true → is_there ms (look w q) ≡ value (boolean true) → is_there ns (look w r) ≡ value (boolean true)
one_there w r q ns ms h i =
    shorter_there ns ms (look w r) (and-right (same_root r q) (begins_with ns ms) h) (ap (λ p. is_there ms (look w p)) (equal_root r q (and-left (same_root r q) (begins_with ns ms) h)) ∙ i)

present_first : (r : Root) (ns : List Name) (ps qs : List Present) → is_present_path r ns (both_present ps qs) ≡ true → is_present_path r ns ps ≡ true
present_first r ns [] qs h = h
present_first r ns (p ∷ ps) qs h = first_step (is_present_path p.root p.steps qs) r ns p ps (both_present ps qs) (λ x. present_first r ns ps qs x) h where
  first_step : (q : Bool) (r : Root) (ns : List Name) (p : Present) (ps os : List Present) → (is_present_path r ns os ≡ true → is_present_path r ns ps ≡ true) → is_present_path r ns (cond q (p ∷ os) os) ≡ true → is_present_path r ns (p ∷ ps) ≡ true
  first_step true r ns p ps os f h =
      let here = same_root r p.root && begins_with ns p.steps in
      ⊎_elim (λ x. or-left here (is_present_path r ns ps) x) (λ y. or-right here (is_present_path r ns ps) (f y)) (or-cases here (is_present_path r ns os) h)
  first_step false r ns p ps os f h = or-right (same_root r p.root && begins_with ns p.steps) (is_present_path r ns ps) (f h)

present_second : (w : World) (r : Root) (ns : List Name) (ps qs : List Present) → ((r : Root) (ns : List Name) → is_present_path r ns qs ≡ true → is_there ns (look w r) ≡ value (boolean true))
    → is_present_path r ns (both_present ps qs) ≡ true → is_there ns (look w r) ≡ value (boolean true)
present_second w r ns [] qs f h = untrue h
present_second w r ns (p ∷ ps) qs f h =
    second_step (is_present_path p.root p.steps qs) w r ns p (both_present ps qs) (λ e. f p.root p.steps e) (λ y. present_second w r ns ps qs f y) h where
      second_step : (q : Bool) (w : World) (r : Root) (ns : List Name) (p : Present) (ps : List Present) → (q ≡ true → is_there p.steps (look w p.root) ≡ value (boolean true))
          → (is_present_path r ns ps ≡ true → is_there ns (look w r) ≡ value (boolean true)) → is_present_path r ns (cond q (p ∷ ps) ps) ≡ true → is_there ns (look w r) ≡ value (boolean true)
      second_step true w r ns p ps f later i = ⊎_elim (λ x. one_there w r p.root ns p.steps x (f refl)) (λ y. later y) (or-cases (same_root r p.root && begins_with ns p.steps) (is_present_path r ns ps) i)
      second_step false w r ns p ps f later i = later i

pub knows_first : (w : World) (c d : Scope) → WellScope d → Knows w c → Knows w (both_scopes c d)
knows_first w c d v m =
    record {
      well = well_both c d m.well v;
      this = m.this;
      groups = m.groups;
      own = m.own;
      table = m.table;
      own_slots = both_taught_first w.mine c.own_slots d.own_slots m.well.own_slots v.own_slots m.own_slots;
      views = λ g. rw (view_both g c.views d.views) (both_taught_first (variables_of g w.hosts) (view_of g c.views) (view_of g d.views) (m.well.views g) (v.views g) (m.views g));
      learned = λ n e k x i j.
          let both = both_learned_at n e c.learned d.learned k i in
          rw both.4 (keeps_first x both.0 both.1 (m.well.learned n e both.0 both.2) (v.learned n e both.1 both.3) (m.learned n e both.0 x both.2 j));
      present = λ r ns h. m.present r ns (present_first r ns c.present d.present h);
      active = λ g h. m.active g (both_first g c.active d.active h);
      item_slots = λ g e. both_taught_first (variables_of g w.hosts) c.item_slots d.item_slots m.well.item_slots v.item_slots (m.item_slots g e);
      item_active = λ h. m.item_active (and-left c.item_active d.item_active h);
      later = m.later;
    }

later_same : (l t : List Later) (p q : ℕ) (g x : Name) → l ≡ t → p ≡ q → is_later (later_of g l) p x ≡ true → is_later (later_of g t) q x ≡ true
later_same l t p q g x e f h = rw (← e, ← f) h

pub knows_second : (w : World) (c d : Scope) → WellScope c → SameGround c d → Knows w d → Knows w (both_scopes c d)
knows_second w c d v s m =
    record {
      well = well_both c d v m.well;
      this = m.this ∙ sym s.this;
      groups = m.groups ∙ sym s.groups;
      own = rw s.own m.own;
      table = λ g. rw s.table (m.table g);
      own_slots = both_taught_second w.mine c.own_slots d.own_slots v.own_slots m.well.own_slots m.own_slots;
      views = λ g. rw (view_both g c.views d.views) (both_taught_second (variables_of g w.hosts) (view_of g c.views) (view_of g d.views) (v.views g) (m.well.views g) (m.views g));
      learned = λ n e k x i j.
          let both = both_learned_at n e c.learned d.learned k i in
          rw both.4 (keeps_second x both.0 both.1 (v.learned n e both.0 both.2) (m.well.learned n e both.1 both.3) (m.learned n e both.1 x both.3 j));
      present = λ r ns h. present_second w r ns c.present d.present m.present h;
      active = λ g h. m.active g (both_second g c.active d.active h);
      item_slots = λ g e. both_taught_second (variables_of g w.hosts) c.item_slots d.item_slots v.item_slots m.well.item_slots (m.item_slots g e);
      item_active = λ h. m.item_active (and-right c.item_active d.item_active h);
      later = λ g b x h. m.later g b x (later_same c.laters d.laters c.place d.place g x s.laters s.place h);
    }

-- a host that is known to be active
active_step : (g h : Name) (hs bs : List Name) → (is_among g hs ≡ true → is_among g bs ≡ true) → is_among h bs ≡ true → is_among g (h ∷ hs) ≡ true → is_among g bs ≡ true
active_step g h hs bs f i x = ⊎_elim (λ y. rw (same_name g h y) i) (λ z. f z) (or-cases (bytes_eq g h) (is_among g hs) x)

knows_active_host : (w : World) (c : Scope) (h : Name) → Knows w c → is_among h w.batch ≡ true → Knows w (record c { active = h ∷ c.active })
knows_active_host w c h m i =
    record {
      well = record { own = m.well.own; table = m.well.table; own_slots = m.well.own_slots; views = m.well.views; learned = m.well.learned; item_slots = m.well.item_slots };
      this = m.this;
      groups = m.groups;
      own = m.own;
      table = m.table;
      own_slots = m.own_slots;
      views = m.views;
      learned = m.learned;
      present = m.present;
      active = λ g x. active_step g h c.active w.batch (m.active g) i x;
      item_slots = m.item_slots;
      item_active = m.item_active;
      later = m.later;
    }

item_among : (o : Option Data) (g : Name) (ns : List Name) → o ≡ Some (text g) → or_stuck undefined (λ d. is_text_among d ns) o ≡ value (boolean true) → is_among g ns ≡ true
item_among o g ns e h = let x : value (boolean (is_among g ns)) ≡ value (boolean true) = rw e at h in cc

knows_member : (w : World) (c : Scope) (o : Option Name) → Knows w c → member_among o w.batch ≡ value (boolean true) → Knows w (active_member c o)
knows_member w c None m h = m
knows_member w c (Some g) m h = let x : is_among g w.batch ≡ true = cc in knows_active_host w c g m x

pub knows_active : (w : World) (c : Scope) (t : Term) → Knows w c → is_active w t ≡ value (boolean true) → Knows w (teach_active c t)
knows_active w c (named_host n) m h = let x : is_among n w.batch ≡ true = cc in knows_active_host w c n m x
knows_active w c this_host m h = let x : is_among w.this w.batch ≡ true = cc in knows_active_host w c c.this m (rw (ap (λ g. is_among g w.batch) m.this) at x)
knows_active w c item_host m h =
    record {
      well = record { own = m.well.own; table = m.well.table; own_slots = m.well.own_slots; views = m.well.views; learned = m.well.learned; item_slots = m.well.item_slots };
      this = m.this;
      groups = m.groups;
      own = m.own;
      table = m.table;
      own_slots = m.own_slots;
      views = m.views;
      learned = m.learned;
      present = m.present;
      active = m.active;
      item_slots = m.item_slots;
      item_active = λ x g e. item_among (field_value (codes "item") w.mine) g w.batch e h;
      later = m.later;
    }
knows_active w c (group_member g n) m h = knows_member w c (member_of g n c.groups) m (rw (ap (λ gs. member_among (member_of g n gs) w.batch) m.groups) at h)

-- what a test teaches of the value at a root
found_there : (o : Option Data) (d : Data) → found o ≡ there d → o ≡ Some d
found_there None d h = absurd (cc)
found_there (Some e) d h = let x : e ≡ d = cc in ap (λ y. Some y) x

readable_there : (o : Outcome) (d : Data) → readable o ≡ there d → o ≡ value d
readable_there (value opaque) d h = absurd (cc)
readable_there (value e) d h = let x : e ≡ d = cc in ap (λ y. value y) x
readable_there (stuck y) d h = absurd (cc)

known_spot : (d : Data) (s : Spot) → spot_ok (Some d) s ≡ true → keeps d (spot_kind s) ≡ true
known_spot d nowhere h = untrue h
known_spot d (spot a k) h = h

abbrev pub Teaches : Data → (Spot → Spot) → Type 0
Teaches d f = (s : Spot) → WellSpot s → spot_ok (Some d) s ≡ true → spot_ok (Some d) (f s) ≡ true

certain_ok : (o : Option Data) (s : Spot) → spot_ok o s ≡ true → spot_ok o (spot (is_certain s) (spot_kind s)) ≡ true
certain_ok None nowhere h = refl
certain_ok (Some d) nowhere h = untrue h
certain_ok o (spot a k) h = h

taught_step : (q : Bool) (fs : Fields) (x y : Name) (b : Bool) (j : KindData) (s : Spot) (a : Bool) (k : KindData) → bytes_eq y x ≡ q → spot_ok (field_value x fs) (spot b j) ≡ true
    → (s ≡ spot a k → spot_ok (field_value y fs) (spot a k) ≡ true) → cond q (spot b j) s ≡ spot a k → spot_ok (field_value y fs) (spot a k) ≡ true
taught_step true fs x y b j s a k e o f i = rw (← i, same_name y x e) o
taught_step false fs x y b j s a k e o f i = f i

taught_with : (fs : Fields) (ss : Slots) (x : Name) (s : Spot) → AreTaught fs ss → spot_ok (field_value x fs) s ≡ true → AreTaught fs (with_taught x s ss)
taught_with fs ss x s m o y a k h =
    taught_step (bytes_eq y x) fs x y (is_certain s) (spot_kind s) (slot_at y ss) a k refl (certain_ok (field_value x fs) s o) (m y a k) (sym (at_with y x (is_certain s) (spot_kind s) ss) ∙ h)

knows_host : (w : World) (c : Scope) (f : Spot → Spot) (x g : Name) (d : Data) → Knows w c → WellsSpot f → Teaches d f → field_value x (variables_of g w.hosts) ≡ Some d → Knows w (teach_host c f x g)
knows_host w c f x g d m u t e =
    let s = host_spot c false x g in
    let known : spot_ok (Some d) s ≡ true = rw e at (host_ok w c false x g m (λ y. untrue y)) in
    let ss = with_taught x (f s) (view_of g c.views) in
    let taught_now : AreTaught (variables_of g w.hosts) ss = taught_with (variables_of g w.hosts) (view_of g c.views) x (f s) (m.views g) (rw e (t s (well_host c false x g m.well) known)) in
    let known_now : Knows w (put_host c f x g) = record {
      well = well_put_host c f x g u m.well;
      this = m.this;
      groups = m.groups;
      own = m.own;
      table = m.table;
      own_slots = m.own_slots;
      views = λ h. put_view_at (λ ts. AreTaught (variables_of h w.hosts) ts) g h ss c.views (m.views h) (λ i. rw i taught_now);
      learned = m.learned;
      present = m.present;
      active = m.active;
      item_slots = m.item_slots;
      item_active = m.item_active;
      later = m.later;
    } in
    one_scope (λ z. Knows w z) (has_view g c.table) (put_host c f x g) c known_now m

knows_member_taught : (w : World) (c : Scope) (f : Spot → Spot) (x : Name) (o : Option Name) (d : Data) → Knows w c → WellsSpot f → Teaches d f → look_there w x (member_named o) ≡ there d → Knows w (teach_member c f x o)
knows_member_taught w c f x None d m u t e = m
knows_member_taught w c f x (Some g) d m u t e = knows_host w c f x g d m u t (found_there (field_value x (variables_of g w.hosts)) d e)

learned_step : (q : Bool) (w : World) (n p : Name) (e g : Expression) (j k : KindData) (o : Option KindData) (d x : Data) → bytes_eq p n && same_expression g e ≡ q → eval w e ≡ value d → keeps d j ≡ true
    → (o ≡ Some k → keeps x k ≡ true) → cond q (Some j) o ≡ Some k → eval w g ≡ value x → keeps x k ≡ true
learned_step true w n p e g j k o d x h i y later z v =
    let same : g ≡ e = equal_expression g e (and-right (bytes_eq p n) (same_expression g e) h) in
    let a : value x ≡ value d = sym v ∙ ap (λ r. eval w r) same ∙ i in
    let b : x ≡ d = cc in
    let c : j ≡ k = cc in
    rw (b, ← c) y
learned_step false w n p e g j k o d x h i y later z v = later z

pub knows_teach : (w : World) (c : Scope) (f : Spot → Spot) (r : Root) (d : Data) → Knows w c → WellsSpot f → Teaches d f → look w r ≡ there d → Knows w (teach c f r)
knows_teach w c f (variable n) d m u t e =
    let s = own_spot c n in
    let x : field_value n w.mine ≡ Some d = found_there (field_value n w.mine) d e in
    record {
      well = well_teach c f (variable n) u m.well;
      this = m.this;
      groups = m.groups;
      own = m.own;
      table = m.table;
      own_slots = taught_with w.mine c.own_slots n (f s) m.own_slots (rw x (t s (well_own c n m.well) (rw x at (own_ok w c n m))));
      views = m.views;
      learned = m.learned;
      present = m.present;
      active = m.active;
      item_slots = m.item_slots;
      item_active = m.item_active;
      later = m.later;
    }
knows_teach w c f (alias n g) d m u t e =
    let s = root_spot c (alias n g) in
    let x : eval w g ≡ value d = readable_there (eval w g) d e in
    let ok : spot_ok (Some d) s ≡ true = rw e at (root_ok w c m (alias n g)) in
    let kept : keeps d (spot_kind (f s)) ≡ true = known_spot d (f s) (t s (well_root c m.well (alias n g)) ok) in
    record {
      well = well_teach c f (alias n g) u m.well;
      this = m.this;
      groups = m.groups;
      own = m.own;
      table = m.table;
      own_slots = m.own_slots;
      views = m.views;
      learned = λ p q k y i j. learned_step (bytes_eq p n && same_expression q g) w n p g q (spot_kind (f s)) k (learned_kind p q c.learned) d y refl x kept (λ z. m.learned p q k y z j) i j;
      present = m.present;
      active = m.active;
      item_slots = m.item_slots;
      item_active = m.item_active;
      later = m.later;
    }
knows_teach w c f (other (named_host g) x) d m u t e = knows_host w c f x g d m u t (found_there (field_value x (variables_of g w.hosts)) d e)
knows_teach w c f (other this_host x) d m u t e =
    knows_host w c f x c.this d m u t (rw (ap (λ g. field_value x (variables_of g w.hosts)) m.this) at (found_there (field_value x (variables_of w.this w.hosts)) d e))
knows_teach w c f (other item_host x) d m u t e =
    let s = other_spot c item_host x in
    let ok : spot_ok (Some d) s ≡ true = rw e at (other_ok w c item_host x m) in
    let taught_now : spot_ok (Some d) (f s) ≡ true = t s (well_other c item_host x m.well) ok in
    record {
      well = well_teach c f (other item_host x) u m.well;
      this = m.this;
      groups = m.groups;
      own = m.own;
      table = m.table;
      own_slots = m.own_slots;
      views = m.views;
      learned = m.learned;
      present = m.present;
      active = m.active;
      item_slots = λ g i.
          let there_now : look_there w x (name_in (Some (text g))) ≡ there d = rw i at e in
          let has : field_value x (variables_of g w.hosts) ≡ Some d = found_there (field_value x (variables_of g w.hosts)) d there_now in
          taught_with (variables_of g w.hosts) c.item_slots x (f s) (m.item_slots g i) (rw has taught_now);
      item_active = m.item_active;
      later = m.later;
    }
knows_teach w c f (other (group_member g n) x) d m u t e =
    knows_member_taught w c f x (member_of g n c.groups) d m u t (rw (ap (λ gs. look_there w x (member_named (member_of g n gs))) m.groups) at e)
knows_teach w c f (member g n) d m u t e = m

-- a path that a test showed to be there
pub knows_present : (w : World) (c : Scope) (r : Root) (ns : List Name) (d : Data) → Knows w c → Teaches d (there_spot (defined_at ns)) → look w r ≡ there d → is_there ns (look w r) ≡ value (boolean true)
    → Knows w (teach_present c r ns)
knows_present w c r ns d m t e h =
    let k = knows_teach w c (there_spot (defined_at ns)) r d m (defined_wells ns) t e in
    let shown : is_there ns (look w (resolved c r)) ≡ value (boolean true) = ap (λ p. is_there ns p) (resolved_look w c r m) ∙ h in
    record {
      well = well_present c r ns m.well;
      this = k.this;
      groups = k.groups;
      own = k.own;
      table = k.table;
      own_slots = k.own_slots;
      views = k.views;
      learned = k.learned;
      present = λ q ms i. ⊎_elim (λ x. one_there w q (resolved c r) ms ns x shown) (λ y. m.present q ms y) (or-cases (same_root q (resolved c r) && begins_with ms ns) (is_present_path q ms c.present) i);
      active = k.active;
      item_slots = k.item_slots;
      item_active = k.item_active;
      later = k.later;
    }
