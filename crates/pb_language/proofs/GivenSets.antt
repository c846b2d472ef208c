-- What a task sets, and what is known of the variables then.
use Rattle.std.proofs.Common.{◌≡◌, ℕ, [], ◌∷◌, ◌++◌, Bool, true, false, not, ◌&&◌, ◌⊎◌, inl, inr, cond, bytes_eq, Option, Some, None, option_map, codes, refl, sym, ap, ◌∙◌, true≢false}
use Rattle.pb_semantics.specs.Data.{Data, Fields, rec, field_value}
use Rattle.pb_semantics.specs.Kind.{KindData, Slots, Spot, recs, no_slots, slot, nowhere, spot, slot_at, is_listed}
use Rattle.pb_semantics.specs.Keeps.{filled, keeps, slots_kept, all_listed, spot_ok, Models}
use Rattle.pb_semantics.specs.Below.{below}
use Rattle.pb_semantics.specs.Well.{are_once, Well}
use Rattle.pb_semantics.proofs.Bools.{untrue, and-left, and-right, not-true}
use Rattle.pb_semantics.proofs.Names.{same_name, own_name}
use Rattle.pb_semantics.proofs.Kept.{nothing_keeps_never}
use Rattle.pb_semantics.proofs.KeepsUp.{keeps_up}
use Rattle.pb_language.specs.Expression.{Name, Parts, no_parts, part}
use Rattle.pb_language.specs.Scope.{Scope, spot_kind, with_spot}
use Rattle.pb_language.specs.Task.{Action, call_of, debug, set_fact, assertion, failure_of, Task}
use Rattle.pb_language.specs.Cases.{Sets, no_sets, sets, parts_set, fact_prefix, after_prefix, with_stripped, stripped_slots, facts_set, gathered, is_setup, may_go_on_failed, is_certain_to_run, action_sets, set_spot, with_sets, shape_slots}
use Rattle.pb_language.specs.Start.{Changes, no_changes, change}
use Rattle.pb_language.specs.Give.{stripped_with, stripped, facts_changed, facts_of, with_changes}
use Rattle.pb_language.specs.Tables.{writes_below}
use Rattle.pb_language.specs.Wells.{WellSpot, WellSets}
use Rattle.pb_language.proofs.WithSlot.{at_with, models_with, models_written, models_kept}
use Rattle.pb_language.proofs.WellKinds.{well_slot}
use Rattle.pb_language.proofs.Paths.{meets_first, meets_second}
use Rattle.pb_language.proofs.Claims.{Follows, IsCall}
use Rattle.pb_language.proofs.After.{well_set, well_stripped}
use Rattle.pb_language.proofs.GivenFields.{models_put, models_put_with}

-- nothing is set for certain
abbrev pub Uncertain : Sets → Type 0
Uncertain no_sets = Unit {0}
Uncertain (sets n a k r) = (a ≡ false) × Uncertain r

first_false : (q r : Bool) → q ≡ false → q && r ≡ false
first_false true r h = absurd (true≢false h)
first_false false r h = refl

second_false : (q r : Bool) → r ≡ false → q && r ≡ false
second_false true r h = h
second_false false r h = refl

uncertain_facts : (q : Bool) (ss : Slots) → q ≡ false → Uncertain (facts_set q ss)
uncertain_facts q no_slots e = tt
uncertain_facts q (slot n b k ss) e = (first_false q b e, uncertain_facts q ss e)

uncertain_gathered : (a : Bool) (s : Spot) → a ≡ false → Uncertain (gathered a s)
uncertain_gathered a nowhere e = tt
uncertain_gathered a (spot b (recs ss)) e = (first_false a b e, uncertain_facts (a && b) ss (first_false a b e))
uncertain_gathered a (spot b k) e = tt

-- facts that may be missing
uncertain_missing : (a : Bool) (s : Spot) → spot_ok None s ≡ true → Uncertain (gathered a s)
uncertain_missing a nowhere h = tt
uncertain_missing a (spot b (recs ss)) h = let e = second_false a b (not-true b h) in (e, uncertain_facts (a && b) ss e)
uncertain_missing a (spot b k) h = tt

uncertain_parts : (c : Scope) (a : Bool) (ps : Parts) → a ≡ false → Uncertain (parts_set c a ps)
uncertain_parts c a no_parts e = tt
uncertain_parts c a (part n x ps) e = (e, uncertain_parts c a ps e)

uncertain_cond : (q : Bool) (s : Sets) → Uncertain s → Uncertain (cond q s no_sets)
uncertain_cond true s u = u
uncertain_cond false s u = tt

second_untrue : (q r : Bool) → r ≡ true → q && not r ≡ false
second_untrue true r h = rw h refl
second_untrue false r h = refl

pub uncertain_run : (a : Action) (c : Scope) (t : Task) → is_certain_to_run t ≡ false → Uncertain (action_sets c t a)
uncertain_run (call_of m ps) c t e =
    let q = is_certain_to_run t && not (may_go_on_failed t) in
    let facts = slot_at (codes "ansible_facts") (shape_slots m.ok) in
    uncertain_cond (is_setup m) (gathered q facts) (uncertain_gathered q facts (first_false (is_certain_to_run t) (not (may_go_on_failed t)) e))
uncertain_run (debug x) c t e = tt
uncertain_run (set_fact ps) c t e = uncertain_parts c (is_certain_to_run t) ps e
uncertain_run (assertion es o) c t e = tt
uncertain_run (failure_of o) c t e = tt

-- a call may go on with its failure, and then it sets nothing
pub uncertain_going : (a : Action) (c : Scope) (t : Task) → IsCall a → may_go_on_failed t ≡ true → Uncertain (action_sets c t a)
uncertain_going (call_of m ps) c t i e =
    let q = is_certain_to_run t && not (may_go_on_failed t) in
    let facts = slot_at (codes "ansible_facts") (shape_slots m.ok) in
    uncertain_cond (is_setup m) (gathered q facts) (uncertain_gathered q facts (second_untrue (is_certain_to_run t) (may_go_on_failed t) e))
uncertain_going (debug x) c t i e = untrue i
uncertain_going (set_fact ps) c t i e = untrue i
uncertain_going (assertion es o) c t i e = untrue i
uncertain_going (failure_of o) c t i e = untrue i

-- what is known grows with an uncertain set
step_at : (q : Bool) (p n : Name) (a : Bool) (k : KindData) (o : Option Data) (env : Slots) → bytes_eq p n ≡ q → (spot_ok o (slot_at n env) ≡ true → spot_ok o (spot a k) ≡ true) → spot_ok o (slot_at p env) ≡ true
    → spot_ok o (cond q (spot a k) (slot_at p env)) ≡ true
step_at true p n a k o env e f h = f (rw (same_name p n e) at h)
step_at false p n a k o env e f h = h

up_step : (p n : Name) (s : Spot) (o : Option Data) (env : Slots) → (spot_ok o (slot_at n env) ≡ true → spot_ok o s ≡ true) → spot_ok o (slot_at p env) ≡ true → spot_ok o (slot_at p (with_spot n s env)) ≡ true
up_step p n nowhere o env f h = h
up_step p n (spot a k) o env f h = rw (at_with p n a k env) (step_at (bytes_eq p n) p n a k o env refl f h)

own_cond : (q : Bool) (s t : Spot) → q ≡ true → cond q s t ≡ s
own_cond true s t h = refl
own_cond false s t h = untrue h

here_step : (n : Name) (s : Spot) (d : Data) (env : Slots) → spot_ok (Some d) s ≡ true → spot_ok (Some d) (slot_at n (with_spot n s env)) ≡ true
here_step n nowhere d env h = untrue h
here_step n (spot a k) d env h = rw (at_with n n a k env, own_cond (bytes_eq n n) (spot a k) (slot_at n env) (own_name n)) h

stays : (a : Bool) (s : Spot) (k : KindData) (o : Option Data) → a ≡ false → WellSpot s → Well k → spot_ok o s ≡ true → spot_ok o (set_spot a s k) ≡ true
stays true s k o e w v h = absurd (true≢false e)
stays false s k o e w v h = meets_first o s (spot true k) w v h

pub set_ok : (a : Bool) (s : Spot) (k : KindData) (d : Data) → WellSpot s → Well k → keeps d k ≡ true → spot_ok (Some d) (set_spot a s k) ≡ true
set_ok true s k d w v h = h
set_ok false s k d w v h = meets_second (Some d) s (spot true k) w v h

uncertain_up : (s : Sets) (env : Slots) → Uncertain s → WellSets s → Well (recs env) → (p : Name) (o : Option Data) → spot_ok o (slot_at p env) ≡ true → spot_ok o (slot_at p (with_sets s env)) ≡ true
uncertain_up no_sets env u v w p o h = h
uncertain_up (sets n a k r) env u v w p o h =
    let here = slot_at n env in
    uncertain_up r (with_spot n (set_spot a here k) env) u.1 v.1 (well_set n a k env v.0 w) p o (up_step p n (set_spot a here k) o env (stays a here k o u.0 (well_slot n env w.1) v.0) h)

pub uncertain_models : (s : Sets) (env : Slots) (vars : Fields) → Uncertain s → WellSets s → Well (recs env) → Models vars env → Models vars (with_sets s env)
uncertain_models s env vars u v w m = record { at = λ p. uncertain_up s env u v w p (field_value p vars) (m.at p) }

-- each value that is set may stand in the environment
abbrev pub Holds : Changes → Slots → Type 0
Holds no_changes env = Unit {0}
Holds (change n None c) env = Holds c env
Holds (change n (Some d) c) env = (spot_ok (Some d) (slot_at n env) ≡ true) × Holds c env

pub holds_models : (c : Changes) (vars : Fields) (env : Slots) → Holds c env → Models vars env → Models (with_changes c vars) env
holds_models no_changes vars env h m = m
holds_models (change n None c) vars env h m = holds_models c vars env h m
holds_models (change n (Some d) c) vars env h m = holds_models c _ env h.1 (models_put n d vars env m h.0)

pub follows_holds : (c : Changes) (s : Sets) (env : Slots) → Follows c s → Uncertain s → WellSets s → Well (recs env) → Holds c (with_sets s env)
follows_holds no_changes s env f u v w = tt
follows_holds (change n o c) no_sets env f u v w = untrue f
follows_holds (change n None c) (sets m a k r) env f u v w = follows_holds c r (with_spot m (set_spot a (slot_at m env) k) env) f.2 u.1 v.1 (well_set m a k env v.0 w)
follows_holds (change n (Some d) c) (sets m a k r) env f u v w =
    let s = set_spot a (slot_at m env) k in
    let x = well_set m a k env v.0 w in
    (rw f.0 (uncertain_up r (with_spot m s env) u.1 v.1 x m (Some d) (here_step m s d env (set_ok a (slot_at m env) k d (well_slot m env w.1) v.0 f.1))), follows_holds c r (with_spot m s env) f.2 u.1 v.1 x)

-- one item's sets, certain or not
pub follows_models : (c : Changes) (s : Sets) (vars : Fields) (env : Slots) → Follows c s → WellSets s → Well (recs env) → Models vars env → Models (with_changes c vars) (with_sets s env)
follows_models no_changes no_sets vars env f v w m = m
follows_models no_changes (sets n a k r) vars env f v w m = untrue f
follows_models (change n o c) no_sets vars env f v w m = untrue f
follows_models (change n None c) (sets p a k r) vars env f v w m =
    let here = slot_at p env in
    follows_models c r vars (with_spot p (set_spot a here k) env) f.2 v.1 (well_set p a k env v.0 w)
    (record { at = λ q. up_step q p (set_spot a here k) (field_value q vars) env (stays a here k (field_value q vars) f.1 (well_slot p env w.1) v.0) (m.at q) })
follows_models (change n (Some d) c) (sets p a k r) vars env f v w m =
    let s = set_spot a (slot_at p env) k in
    follows_models c r _ (with_spot p s env) f.2 v.1 (well_set p a k env v.0 w) (rw f.0 (models_put_with p d vars s env m (set_ok a (slot_at p env) k d (well_slot p env w.1) v.0 f.1)))

-- what is below a view may stand in it
pub below_ok : (d : Data) (k : KindData) (s : Spot) → keeps d k ≡ true → below k (spot_kind s) ≡ true → spot_ok (Some d) s ≡ true
below_ok d k nowhere h b = nothing_keeps_never d (keeps_up d k (spot_kind nowhere) b h)
below_ok d k (spot a j) h b = keeps_up d k j b h

pub follows_view : (c : Changes) (s : Sets) (view : Slots) → Follows c s → writes_below s view ≡ true → Holds c view
follows_view no_changes s view f b = tt
follows_view (change n o c) no_sets view f b = untrue f
follows_view (change n None c) (sets m a k r) view f b = follows_view c r view f.2 (and-right (below k (spot_kind (slot_at m view))) (writes_below r view) b)
follows_view (change n (Some d) c) (sets m a k r) view f b =
    let here = below k (spot_kind (slot_at m view)) in
    (rw f.0 (below_ok d k (slot_at m view) f.1 (and-left here (writes_below r view) b)), follows_view c r view f.2 (and-right here (writes_below r view) b))

-- names without their prefix are of one name each
prefix_step : (q : Bool) (a b : ℕ) (p n x : Name) → bytes_eq (a ∷ []) (b ∷ []) ≡ q → cond q (after_prefix p n) None ≡ Some x → (after_prefix p n ≡ Some x → n ≡ p ++ x) → b ∷ n ≡ (a ∷ p) ++ x
prefix_step true a b p n x e h f =
    let same : a ∷ [] ≡ b ∷ [] = same_name (a ∷ []) (b ∷ []) e in
    let i : a ≡ b = cc in
    rw (f h, i) refl
prefix_step false a b p n x e h f = absurd (cc)

prefixed : (p n x : Name) → after_prefix p n ≡ Some x → n ≡ p ++ x
prefixed [] n x h = let e : n ≡ x = cc in e
prefixed (a ∷ p) [] x h = absurd (cc)
prefixed (a ∷ p) (b ∷ n) x h = prefix_step (bytes_eq (a ∷ []) (b ∷ [])) a b p n x refl h (prefixed p n x)

other_stripped : (q : Bool) (x y : Name) (a : Bool) (k : KindData) (s : Spot) → bytes_eq x y ≡ q → (x ≡ y → false ≡ true) → s ≡ nowhere → cond q (spot a k) s ≡ nowhere
other_stripped true x y a k s e f h = untrue (f (same_name x y e))
other_stripped false x y a k s e f h = h

apart : (q b : Bool) (n m : Name) → bytes_eq n m ≡ q → cond q true b ≡ false → n ≡ m → false ≡ true
apart true b n m e h i = h' h where
  h' : true ≡ false → false ≡ true
  h' x = sym x
apart false b n m e h i = sym e ∙ rw i (own_name m)

later_false : (q b : Bool) → cond q true b ≡ false → b ≡ false
later_false true b h = absurd (true≢false h)
later_false false b h = h

stripped_option : (o : Option Name) (n m x : Name) (a : Bool) (k : KindData) (ss : Slots) → after_prefix fact_prefix m ≡ o → after_prefix fact_prefix n ≡ Some x → (n ≡ m → false ≡ true) → slot_at x ss ≡ nowhere → slot_at x (with_stripped o a k ss) ≡ nowhere
stripped_option None n m x a k ss e i f h = h
stripped_option (Some y) n m x a k ss e i f h =
    at_with x y a k ss ∙ other_stripped (bytes_eq x y) x y a k (slot_at x ss) refl (λ j. f (prefixed fact_prefix n x i ∙ ap (λ z. fact_prefix ++ z) j ∙ sym (prefixed fact_prefix m y e))) h

not_stripped : (n x : Name) (ss : Slots) → after_prefix fact_prefix n ≡ Some x → is_listed n ss ≡ false → slot_at x (stripped_slots ss) ≡ nowhere
not_stripped n x no_slots i h = refl
not_stripped n x (slot m a k ss) i h =
    stripped_option (after_prefix fact_prefix m) n m x a k (stripped_slots ss) refl i (apart (bytes_eq n m) (is_listed n ss) n m refl h) (not_stripped n x ss i (later_false (bytes_eq n m) (is_listed n ss) h))

missing_ok : (o : Option Data) (s : Spot) (a : Bool) (k : KindData) → s ≡ nowhere → spot_ok o s ≡ true → a ≡ false → spot_ok o (spot a k) ≡ true
missing_ok None s a k e h i = rw i refl
missing_ok (Some d) nowhere a k e h i = untrue h
missing_ok (Some d) (spot b j) a k e h i = absurd (cc)

-- a fact by its name without the prefix
stripped_step : (x : Option Name) (o : Option Data) (a : Bool) (k : KindData) (fs : Fields) (ss : Slots) → ((y : Name) → x ≡ Some y → slot_at y ss ≡ nowhere) → filled a (option_map (λ d. keeps d k) o) ≡ true → Models fs ss
    → Models (stripped_with x o fs) (with_stripped x a k ss)
stripped_step None o a k fs ss f h m = m
stripped_step (Some y) None a k fs ss f h m = models_with y fs ss (spot a k) m (missing_ok (field_value y fs) (slot_at y ss) a k (f y refl) (m.at y) (not-true a h))
stripped_step (Some y) (Some d) a k fs ss f h m = models_written y d fs a k ss m h

stripped_models : (ss : Slots) (fs : Fields) → are_once ss ≡ true → slots_kept fs ss ≡ true → Models (stripped ss fs) (stripped_slots ss)
stripped_models no_slots fs o h = record { at = λ p. refl }
stripped_models (slot n a k ss) fs o h =
    let here = filled a (option_map (λ d. keeps d k) (field_value n fs)) in
    let new = not-true (is_listed n ss) (and-left (not (is_listed n ss)) (are_once ss) o) in
    stripped_step (after_prefix fact_prefix n) (field_value n fs) a k (stripped ss fs) (stripped_slots ss) (λ y e. not_stripped n y ss e new) (and-left here (slots_kept fs ss) h)
    (stripped_models ss fs (and-right (not (is_listed n ss)) (are_once ss) o) (and-right here (slots_kept fs ss) h))

fact_step : (o : Option Data) (n : Name) (a b : Bool) (k : KindData) (c : Changes) (s : Sets) → filled b (option_map (λ d. keeps d k) o) ≡ true → Follows c s → Follows (change n o c) (sets n (a && b) k s)
fact_step None n a b k c s h f = (refl, second_false a b (not-true b h), f)
fact_step (Some d) n a b k c s h f = (refl, h, f)

facts_follow : (a : Bool) (ss : Slots) (fs : Fields) → slots_kept fs ss ≡ true → Follows (facts_changed ss fs) (facts_set a ss)
facts_follow a no_slots fs h = tt
facts_follow a (slot n b k ss) fs h =
    let here = filled b (option_map (λ d. keeps d k) (field_value n fs)) in
    fact_step (field_value n fs) n a b k (facts_changed ss fs) (facts_set a ss) (and-left here (slots_kept fs ss) h) (facts_follow a ss fs (and-right here (slots_kept fs ss) h))

-- what an ok answer of `setup` sets is gathered, or nothing is set, and nothing was certain
pub gathered_follows : (a : Bool) (s : Spot) (o : Option Data) → WellSpot s → spot_ok o s ≡ true → Follows (facts_of s o) (gathered a s) ⊎ ((facts_of s o ≡ no_changes) × Uncertain (gathered a s))
gathered_follows a nowhere o w h = inl tt
gathered_follows a (spot b (recs ss)) None w h = inr (refl, uncertain_missing a (spot b (recs ss)) h)
gathered_follows a (spot b (recs ss)) (Some (rec fs)) w h =
    let kept = and-left (slots_kept fs ss) (all_listed fs ss) h in
    inl (refl, models_kept (stripped ss fs) (stripped_slots ss) (well_stripped ss w.1).0 (stripped_models ss fs w.0 kept), facts_follow (a && b) ss fs kept)
gathered_follows a (spot b (recs ss)) (Some d) w h = untrue h
gathered_follows a (spot b k) o w h = inl tt
