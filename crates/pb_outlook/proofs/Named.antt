-- What is known of the names that are always there, over what else is known.
use Rattle.std.proofs.Common.{◌≡◌, ◌&&◌, ℕ, zero, suc, nat_lt, [], ◌∷◌, Bool, true, false, cond, codes, length, Option, Some, None, refl, sym, ap, ◌∙◌, subst, option_map, arith, Bor}
use Rattle.std.specs.Str.{bytes_eq}
use Rattle.pb_semantics.specs.Kind.{KindData, Slots, Spot, hosts, lists, recs, texts, no_slots, nowhere, spot, slot, slot_at}
use Rattle.std.proofs.lemmas.Bool.Decides.{nat_tests}
use Rattle.pb_semantics.proofs.Bools.{and-right, untrue}
use Rattle.pb_language.specs.Expression.{Expression, Name}
use Rattle.pb_language.specs.Judgement.{Exit, dead, live}
use Rattle.pb_language.specs.Scope.{taught_spot, with_slot}
use Rattle.pb_language.specs.Setting.{Setting, group_slots, host_list, named_slots, with_failure_slot}
use Rattle.pb_language.proofs.WithSlot.{at_with}
use Rattle.pb_syntax.specs.ExprView.{expr_view}
use Rattle.pb_syntax.specs.declared.expr.Expr.{Expr}
use Rattle.pb_lattice.specs.Environments.{spot_in}
use Rattle.pb_kind.specs.KindView.{is_always, kind_view}
use Rattle.pb_kind.specs.declared.kind.Kind.{Kind}
use Rattle.pb_kind.specs.declared.kind.Slot.{Slot}
use Rattle.pb_outlook.specs.Standing.{failure_spot, known_of, with_given, with_known}
use Rattle.pb_outlook.specs.declared.standing.Given.{Given}

over : (q : Bool) (a : Bool) (k : KindData) (s t u v : Spot) → s ≡ taught_spot t u → v ≡ cond q (spot a k) t → cond q (spot a k) s ≡ taught_spot v u
over true a k s t u v h i = rw i refl
over false a k s t u v h i = h ∙ ap (λ x. taught_spot x u) (sym i)

-- one name more in both
with_over : (n m : Name) (a : Bool) (k : KindData) (ss ts : Slots) (u : Spot) → slot_at n ss ≡ taught_spot (slot_at n ts) u → slot_at n (with_slot m a k ss) ≡ taught_spot (slot_at n (with_slot m a k ts)) u
with_over n m a k ss ts u h =
    at_with n m a k ss ∙ over (bytes_eq n m) a k (slot_at n ss) (slot_at n ts) u (slot_at n (with_slot m a k ts)) h (at_with n m a k ts)

-- names that are always there hide variables
pub named_over : (n : Name) (st : Setting) (d : ℕ) (env : Slots) → slot_at n (named_slots st d env) ≡ taught_spot (slot_at n (named_slots st 0 no_slots)) (slot_at n (with_failure_slot d env))
named_over n st d env =
    let u = slot_at n (with_failure_slot d env) in
    let b : KindData = host_list st.play_hosts in
    let m : KindData = lists texts (length st.memberships) in
    let g : KindData = recs (group_slots st.groups) in
    let w1 = with_over n (codes "ansible_play_batch") true b (with_failure_slot d env) no_slots u refl in
    let w2 = with_over n (codes "group_names") true m (with_slot (codes "ansible_play_batch") true b (with_failure_slot d env)) (with_slot (codes "ansible_play_batch") true b no_slots) u w1 in
    let w3 = with_over n (codes "groups") true g (with_slot (codes "group_names") true m (with_slot (codes "ansible_play_batch") true b (with_failure_slot d env)))
    (with_slot (codes "group_names") true m (with_slot (codes "ansible_play_batch") true b no_slots)) u w2 in
    with_over n (codes "inventory_hostname") true (hosts (st.this ∷ []))
    (with_slot (codes "groups") true g (with_slot (codes "group_names") true m (with_slot (codes "ansible_play_batch") true b (with_failure_slot d env))))
    (with_slot (codes "groups") true g (with_slot (codes "group_names") true m (with_slot (codes "ansible_play_batch") true b no_slots))) u w3

-- in a `rescue` part the failure hides a variable
pub failure_over : (n : Name) (d : ℕ) (env : Slots) → slot_at n (with_failure_slot (suc d) env) ≡ cond (bytes_eq n (codes "ansible_failed_result")) failure_spot (slot_at n env)
failure_over n d env = at_with n (codes "ansible_failed_result") true (recs (slot (codes "msg") true texts no_slots)) env

-- what one knows of a name, over what else is known
pub over_some : (s t u : Spot) (a : Bool) (k : KindData) → spot a k ≡ s → t ≡ taught_spot s u → spot a k ≡ t
over_some s t u a k h i = h ∙ sym (i ∙ ap (λ x. taught_spot x u) (sym h) ∙ h)

pub over_none : (s t u v : Spot) → nowhere ≡ s → v ≡ u → t ≡ taught_spot s u → v ≡ t
over_none s t u v h e i = sym (i ∙ ap (λ x. taught_spot x u) (sym h) ∙ sym e)

pub known_over : (n m : Name) (o : Option (Slot Kind)) (ss : Slots) → slot_at n (with_known m o ss) ≡ taught_spot (slot_at n (with_known m o no_slots)) (slot_at n ss)
known_over n m None ss = refl
known_over n m (Some s) ss = with_over n m (is_always s.presence) (kind_view s.kind) ss no_slots (slot_at n ss) refl

pub given_over : (n : Name) (o : Option Given) (ss : Slots) → slot_at n (with_given o ss) ≡ taught_spot (slot_at n (with_given o no_slots)) (slot_at n ss)
given_over n None ss = refl
given_over n (Some g) ss = with_over n g.name.now (is_always g.slot.presence) (kind_view g.slot.kind) ss no_slots (slot_at n ss) refl

-- the one name alone
pub one_known : (n m : Name) (a : Bool) (k : KindData) → slot_at n (with_slot m a k no_slots) ≡ cond (bytes_eq n m) (spot a k) nowhere
one_known n m a k = at_with n m a k no_slots

-- the failure, or what else is known
some : (d : ℕ) → nat_lt 0 (suc d) ≡ true
some d = grind (arith, nat_tests)

pub hidden : (n : Name) (d : ℕ) (env : Slots) → nat_lt 0 d && bytes_eq n (codes "ansible_failed_result") ≡ true → failure_spot ≡ slot_at n (with_failure_slot d env)
hidden n zero env h = untrue h
hidden n (suc d) env h =
    let is_so = and-right (nat_lt 0 (suc d)) (bytes_eq n (codes "ansible_failed_result")) h in
    sym (failure_over n d env ∙ ap (λ q. cond q failure_spot (slot_at n env)) is_so)

pub unhidden : (n : Name) (d : ℕ) (env : Slots) → nat_lt 0 d && bytes_eq n (codes "ansible_failed_result") ≡ false → slot_at n env ≡ slot_at n (with_failure_slot d env)
unhidden n zero env h = refl
unhidden n (suc d) env h =
    let is_no : bytes_eq n (codes "ansible_failed_result") ≡ false = subst (λ b. b && bytes_eq n (codes "ansible_failed_result") ≡ false) (some d) h in
    sym (failure_over n d env ∙ ap (λ q. cond q failure_spot (slot_at n env)) is_no)

pub spot_known : (n : Name) (e : Exit) → spot_in n e ≡ slot_at n (known_of e)
spot_known n dead = refl
spot_known n (live ss) = refl

-- a tree, and what becomes of it
pub mapped_twice : (f : Expression → Expression) (o : Option (Bor Expr)) → option_map f (option_map (λ e. expr_view e.now) o) ≡ option_map (λ e. f (expr_view e.now)) o
mapped_twice f None = refl
mapped_twice f (Some e) = refl
