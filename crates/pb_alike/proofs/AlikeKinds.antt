-- In scopes that are alike, what reads neither other hosts nor the host's name has the same kind, and teaches the same.
use Rattle.std.proofs.Common.{◌≡◌, List, ◌∷◌, Bool, true, false, not, cond, bytes_eq, unwrap_or, refl, sym, ap, ◌∙◌}
use Rattle.pb_semantics.specs.Kind.{Slots, Spot, KindData, spot, slot_at, lists, recs}
use Rattle.pb_semantics.specs.Join.{join}
use Rattle.pb_language.specs.Expression.{Name, Expression, literal, path, negation, conjunction, disjunction, in_batch, defined, path_status, path_or, value_or, list_of, record_of, Root, variable, alias, other, member, Expressions, no_expressions, expression, Parts, no_parts, part}
use Rattle.pb_language.specs.World.{member_of}
use Rattle.pb_language.specs.Scope.{Scope, learned_kind, resolved, is_present, is_present_path, own_spot, spot_kind, taught_spot, with_slot, with_taught, taught, both_slots, both_learned, both_present, both_scopes}
use Rattle.pb_language.specs.Kinds.{path_spot, shown_spot, default_kind, count, kind_of, root_spot, items_kind, parts_slots, member_spot}
use Rattle.pb_language.specs.Narrow.{there_spot, changed_spot, changed_at, on_results, cases_with, answers, defined_at, teach, teach_present, any_teaches, where_taught, narrow, narrow_each, narrow_some}
use Rattle.pb_language.proofs.WithSlot.{at_with}
use Rattle.pb_walks.proofs.AloneFaults.{both}
use Rattle.pb_alike.specs.Named.{is_own_name}
use Rattle.pb_alike.proofs.ReadsNeither.{Neither, RootNeither, EachNeither, PartsNeither}

-- the same is known of each variable but the host's name
abbrev pub SameSlots : Slots → Slots → Type 0
SameSlots ss ts = (x : Name) → is_own_name x ≡ false → slot_at x ss ≡ slot_at x ts

pub same_with : (n : Name) (a : Bool) (k : KindData) (ss ts : Slots) → SameSlots ss ts → SameSlots (with_slot n a k ss) (with_slot n a k ts)
same_with n a k ss ts s x m = at_with x n a k ss ∙ ap (λ z. cond (bytes_eq x n) (spot a k) z) (s x m) ∙ sym (at_with x n a k ts)

-- scopes that differ at most in what plays no part in such texts
pub record ScopesAlike (c d : Scope) : Type 0 where
  pub own : SameSlots c.own d.own
  pub groups : c.groups ≡ d.groups
  pub own_slots : c.own_slots ≡ d.own_slots
  pub learned : c.learned ≡ d.learned
  pub present : c.present ≡ d.present

own_alike : (x : Name) (c d : Scope) → ScopesAlike c d → is_own_name x ≡ false → own_spot c x ≡ own_spot d x
own_alike x c d a n = both taught_spot _ _ _ _ (ap (λ ss. slot_at x ss) a.own_slots) (a.own x n)

resolved_alike : (r : Root) (c d : Scope) → RootNeither r → resolved c r ≡ resolved d r
resolved_alike (variable x) c d n = refl
resolved_alike (alias x e) c d n = refl
resolved_alike (other t x) c d n = absurd n
resolved_alike (member g p) c d n = refl

pub present_alike : (r : Root) (ns : List Name) (c d : Scope) → ScopesAlike c d → RootNeither r → is_present c r ns ≡ is_present d r ns
present_alike r ns c d a n = both (λ q ps. is_present_path q ns ps) _ _ _ _ (resolved_alike r c d n) a.present

mutual
  pub kind_alike : (e : Expression) (c d : Scope) → ScopesAlike c d → Neither e → kind_of c e ≡ kind_of d e
  kind_alike (literal x) c d a n = refl
  kind_alike (path r ns) c d a n = ap (λ s. spot_kind (path_spot ns s)) (root_alike r c d a n)
  kind_alike (path_or r ns e) c d a n =
      both default_kind _ _ _ _ (both (λ q s. shown_spot q (path_spot ns s)) _ _ _ _ (present_alike r ns c d a n.0) (root_alike r c d a n.0)) (kind_alike e c d a n.1)
  kind_alike (value_or x e) c d a n = kind_alike x c d a n.0
  kind_alike (list_of es) c d a n = ap (λ k. lists k (count es)) (items_alike es c d a n)
  kind_alike (record_of ps) c d a n = ap (λ ss. recs ss) (slots_alike ps c d a n)
  kind_alike e c d a n = refl

  pub root_alike : (r : Root) (c d : Scope) → ScopesAlike c d → RootNeither r → root_spot c r ≡ root_spot d r
  root_alike (variable x) c d a n = own_alike x c d a n
  root_alike (alias x e) c d a n = both (λ l k. spot true (unwrap_or (learned_kind x e l) k)) _ _ _ _ a.learned (kind_alike e c d a n)
  root_alike (other t x) c d a n = absurd n
  root_alike (member g p) c d a n = ap (λ gs. member_spot (member_of g p gs)) a.groups

  items_alike : (es : Expressions) (c d : Scope) → ScopesAlike c d → EachNeither es → items_kind c es ≡ items_kind d es
  items_alike no_expressions c d a n = refl
  items_alike (expression e es) c d a n = both join _ _ _ _ (kind_alike e c d a n.0) (items_alike es c d a n.1)

  slots_alike : (ps : Parts) (c d : Scope) → ScopesAlike c d → PartsNeither ps → parts_slots c ps ≡ parts_slots d ps
  slots_alike no_parts c d a n = refl
  slots_alike (part x e ps) c d a n = both (λ k ss. with_slot x true k ss) _ _ _ _ (kind_alike e c d a n.0) (slots_alike ps c d a n.1)

-- ---- what tests teach

teach_alike : (f : Spot → Spot) (r : Root) (c d : Scope) → ScopesAlike c d → RootNeither r → ScopesAlike (teach c f r) (teach d f r)
teach_alike f (variable x) c d a n =
    record { own = a.own; groups = a.groups; own_slots = both (λ s ss. with_taught x (f s) ss) _ _ _ _ (own_alike x c d a n) a.own_slots; learned = a.learned; present = a.present }
teach_alike f (alias x e) c d a n =
    record { own = a.own; groups = a.groups; own_slots = a.own_slots; learned = both (λ s l. taught x e (spot_kind (f s)) l) _ _ _ _ (root_alike (alias x e) c d a n) a.learned; present = a.present }
teach_alike f (other t x) c d a n = absurd n
teach_alike f (member g p) c d a n = a

teach_present_alike : (r : Root) (ns : List Name) (c d : Scope) → ScopesAlike c d → RootNeither r → ScopesAlike (teach_present c r ns) (teach_present d r ns)
teach_present_alike r ns c d a n =
    let t = teach_alike (there_spot (defined_at ns)) r c d a n in
    record { own = t.own; groups = t.groups; own_slots = t.own_slots; learned = t.learned; present = both (λ q ps. record { root = q; steps = ns } ∷ ps) _ _ _ _ (resolved_alike r c d n) a.present }

where_alike : (q : Bool) (y z c d : Scope) → ScopesAlike c d → ScopesAlike y z → ScopesAlike (where_taught q y c) (where_taught q z d)
where_alike true y z c d a b = b
where_alike false y z c d a b = a

both_alike : (c d y z : Scope) → ScopesAlike c d → ScopesAlike y z → ScopesAlike (both_scopes c y) (both_scopes d z)
both_alike c d y z a b =
    record { own = a.own; groups = a.groups; own_slots = both both_slots _ _ _ _ a.own_slots b.own_slots; learned = both both_learned _ _ _ _ a.learned b.learned; present = both both_present _ _ _ _ a.present b.present }

mutual
  pub narrow_alike : (e : Expression) (c d : Scope) (b : Bool) → ScopesAlike c d → Neither e → ScopesAlike (narrow c e b) (narrow d e b)
  narrow_alike (negation e) c d b a n = narrow_alike e c d (not b) a n
  narrow_alike (conjunction es) c d true a n = narrow_each_alike es c d true a n
  narrow_alike (conjunction es) c d false a n = where_alike (any_teaches es) (narrow_some c es false) (narrow_some d es false) c d a (narrow_some_alike es c d false a n)
  narrow_alike (disjunction es) c d true a n = where_alike (any_teaches es) (narrow_some c es true) (narrow_some d es true) c d a (narrow_some_alike es c d true a n)
  narrow_alike (disjunction es) c d false a n = narrow_each_alike es c d false a n
  narrow_alike (in_batch t) c d b a n = absurd n
  narrow_alike (defined r ns) c d true a n = teach_present_alike r ns c d a n
  narrow_alike (path_status s r ns) c d b a n = teach_alike (changed_spot (changed_at ns (on_results (cases_with (answers s b))))) r c d a n
  narrow_alike e c d b a n = a

  pub narrow_each_alike : (es : Expressions) (c d : Scope) (b : Bool) → ScopesAlike c d → EachNeither es → ScopesAlike (narrow_each c es b) (narrow_each d es b)
  narrow_each_alike no_expressions c d b a n = a
  narrow_each_alike (expression e es) c d b a n = narrow_each_alike es (narrow c e b) (narrow d e b) b (narrow_alike e c d b a n.0) n.1

  narrow_some_alike : (es : Expressions) (c d : Scope) (b : Bool) → ScopesAlike c d → EachNeither es → ScopesAlike (narrow_some c es b) (narrow_some d es b)
  narrow_some_alike no_expressions c d b a n = a
  narrow_some_alike (expression e no_expressions) c d b a n = narrow_alike e c d b a n.0
  narrow_some_alike (expression e (expression f es)) c d b a n =
      both_alike (narrow c e b) (narrow d e b) (narrow_some (narrow c e (not b)) (expression f es) b) (narrow_some (narrow d e (not b)) (expression f es) b) (narrow_alike e c d b a n.0)
      (narrow_some_alike (expression f es) (narrow c e (not b)) (narrow d e (not b)) b (narrow_alike e c d (not b) a n.0) n.1)
