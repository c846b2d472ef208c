-- Under a table that says the same of what is read, a text has the same kind, and teaches the same.
use Rattle.std.proofs.Common.{◌≡◌, List, ◌∷◌, Bool, true, false, not, Option, Some, None, unwrap_or, refl, ap, ◌∙◌}
use Rattle.pb_semantics.specs.Kind.{Spot, spot, lists, recs}
use Rattle.pb_semantics.specs.Join.{join}
use Rattle.pb_semantics.proofs.Bools.{neither-left, neither-right}
use Rattle.pb_language.specs.Expression.{Name, Term, named_host, this_host, item_host, group_member, Expression, literal, path, negation, conjunction, disjunction, in_batch, defined, path_status, path_or, value_or, list_of, record_of, Root, variable, alias, other, member, Expressions, no_expressions, expression, Parts, no_parts, part}
use Rattle.pb_language.specs.World.{member_of}
use Rattle.pb_language.specs.Scope.{Scope, View, learned_kind, resolved, is_present, spot_kind, with_slot, with_taught, taught, both_scopes}
use Rattle.pb_language.specs.Kinds.{path_spot, shown_spot, default_kind, count, kind_of, root_spot, items_kind, parts_slots}
use Rattle.pb_language.specs.Narrow.{there_spot, changed_spot, changed_at, on_results, cases_with, answers, defined_at, teach, teach_present, active_member, teach_active, any_teaches, where_taught, narrow, narrow_each, narrow_some}
use Rattle.pb_walks.proofs.AloneFaults.{both}
use Rattle.pb_others.specs.Rooted.{has_root, root_holds, any_has_root, part_has_root}
use Rattle.pb_others.proofs.ThereSpots.{under, SameBut, other_there, host_taught, member_taught, narrowed}

module _ (q : Root → Bool) (vs : List View) where
  mutual
    pub kind_there : (e : Expression) (c : Scope) → has_root q e ≡ false → SameBut q vs c.table → kind_of (under vs c) e ≡ kind_of c e
    kind_there (literal d) c n s = refl
    kind_there (path r ns) c n s = ap (λ z. spot_kind (path_spot ns z)) (root_there r c n s)
    kind_there (path_or r ns e) c n s =
        both (λ z k. default_kind (shown_spot (is_present c r ns) (path_spot ns z)) k) _ _ _ _ (root_there r c (neither-left (root_holds q r) (has_root q e) n) s)
        (kind_there e c (neither-right (root_holds q r) (has_root q e) n) s)
    kind_there (value_or a e) c n s = kind_there a c (neither-left (has_root q a) (has_root q e) n) s
    kind_there (list_of es) c n s = ap (λ k. lists k (count es)) (items_there es c n s)
    kind_there (record_of ps) c n s = ap (λ ss. recs ss) (slots_there ps c n s)
    kind_there e c n s = refl

    pub root_there : (r : Root) (c : Scope) → root_holds q r ≡ false → SameBut q vs c.table → root_spot (under vs c) r ≡ root_spot c r
    root_there (variable x) c n s = refl
    root_there (alias x e) c n s = ap (λ k. spot true (unwrap_or (learned_kind x e c.learned) k)) (kind_there e c n s)
    root_there (other t x) c n s = other_there vs x c t (s.slots t x n)
    root_there (member g p) c n s = refl

    items_there : (es : Expressions) (c : Scope) → any_has_root q es ≡ false → SameBut q vs c.table → items_kind (under vs c) es ≡ items_kind c es
    items_there no_expressions c n s = refl
    items_there (expression e es) c n s =
        both join _ _ _ _ (kind_there e c (neither-left (has_root q e) (any_has_root q es) n) s) (items_there es c (neither-right (has_root q e) (any_has_root q es) n) s)

    slots_there : (ps : Parts) (c : Scope) → part_has_root q ps ≡ false → SameBut q vs c.table → parts_slots (under vs c) ps ≡ parts_slots c ps
    slots_there no_parts c n s = refl
    slots_there (part x e ps) c n s =
        both (with_slot x true) _ _ _ _ (kind_there e c (neither-left (has_root q e) (part_has_root q ps) n) s) (slots_there ps c (neither-right (has_root q e) (part_has_root q ps) n) s)

  teach_there : (f : Spot → Spot) (r : Root) (c : Scope) → root_holds q r ≡ false → SameBut q vs c.table → teach (under vs c) f r ≡ under vs (teach c f r)
  teach_there f (variable x) c n s = refl
  teach_there f (alias x e) c n s = ap (λ z. under vs (record c { learned = taught x e (spot_kind (f z)) c.learned })) (root_there (alias x e) c n s)
  teach_there f (other (named_host g) x) c n s = host_taught vs x f c g (s.hosts g) (s.slots (named_host g) x n)
  teach_there f (other this_host x) c n s = host_taught vs x f c c.this (s.hosts c.this) (s.slots this_host x n)
  teach_there f (other item_host x) c n s = ap (λ z. under vs (record c { item_slots = with_taught x (f z) c.item_slots })) (other_there vs x c item_host (s.slots item_host x n))
  teach_there f (other (group_member g p) x) c n s = member_taught vs x f c (member_of g p c.groups) s.hosts (s.slots (group_member g p) x n)
  teach_there f (member g p) c n s = refl

  teach_present_there : (r : Root) (ns : List Name) (c : Scope) → root_holds q r ≡ false → SameBut q vs c.table → teach_present (under vs c) r ns ≡ under vs (teach_present c r ns)
  teach_present_there r ns c n s = ap (λ (d : Scope). record d { present = record { root = resolved c r; steps = ns } ∷ c.present }) (teach_there (there_spot (defined_at ns)) r c n s)

  active_there : (c : Scope) (t : Term) → teach_active (under vs c) t ≡ under vs (teach_active c t)
  active_there c (named_host g) = refl
  active_there c this_host = refl
  active_there c item_host = refl
  active_there c (group_member g n) = member_there (member_of g n c.groups) where
    member_there : (o : Option Name) → active_member (under vs c) o ≡ under vs (active_member c o)
    member_there None = refl
    member_there (Some h) = refl

  where_there : (u : Bool) (d e c : Scope) → d ≡ under vs e → where_taught u d (under vs c) ≡ under vs (where_taught u e c)
  where_there true d e c h = h
  where_there false d e c h = refl

  mutual
    pub narrow_there : (e : Expression) (c : Scope) (b : Bool) → has_root q e ≡ false → SameBut q vs c.table → narrow (under vs c) e b ≡ under vs (narrow c e b)
    narrow_there (negation e) c b n s = narrow_there e c (not b) n s
    narrow_there (conjunction es) c true n s = narrow_each_there es c true n s
    narrow_there (conjunction es) c false n s = where_there (any_teaches es) (narrow_some (under vs c) es false) (narrow_some c es false) c (narrow_some_there es c false n s)
    narrow_there (disjunction es) c true n s = where_there (any_teaches es) (narrow_some (under vs c) es true) (narrow_some c es true) c (narrow_some_there es c true n s)
    narrow_there (disjunction es) c false n s = narrow_each_there es c false n s
    narrow_there (in_batch t) c true n s = active_there c t
    narrow_there (defined r ns) c true n s = teach_present_there r ns c n s
    narrow_there (path_status u r ns) c b n s = teach_there (changed_spot (changed_at ns (on_results (cases_with (answers u b))))) r c n s
    narrow_there e c b n s = refl

    pub narrow_each_there : (es : Expressions) (c : Scope) (b : Bool) → any_has_root q es ≡ false → SameBut q vs c.table → narrow_each (under vs c) es b ≡ under vs (narrow_each c es b)
    narrow_each_there no_expressions c b n s = refl
    narrow_each_there (expression e es) c b n s =
        ap (λ d. narrow_each d es b) (narrow_there e c b (neither-left (has_root q e) (any_has_root q es) n) s)
        ∙ narrow_each_there es (narrow c e b) b (neither-right (has_root q e) (any_has_root q es) n) (narrowed q vs e c b s)

    narrow_some_there : (es : Expressions) (c : Scope) (b : Bool) → any_has_root q es ≡ false → SameBut q vs c.table → narrow_some (under vs c) es b ≡ under vs (narrow_some c es b)
    narrow_some_there no_expressions c b n s = refl
    narrow_some_there (expression e no_expressions) c b n s = narrow_there e c b (neither-left (has_root q e) false n) s
    narrow_some_there (expression e (expression f es)) c b n s =
        let here = neither-left (has_root q e) (any_has_root q (expression f es)) n in
        let later = neither-right (has_root q e) (any_has_root q (expression f es)) n in
        both both_scopes _ _ _ _ (narrow_there e c b here s)
        (ap (λ d. narrow_some d (expression f es) b) (narrow_there e c (not b) here s) ∙ narrow_some_there (expression f es) (narrow c e (not b)) b later (narrowed q vs e c (not b) s))
