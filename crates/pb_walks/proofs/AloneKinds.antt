-- Under other tables and laters, what reads no other host has the same kind, and teaches the same.
use Rattle.std.proofs.Common.{◌≡◌, List, ◌∷◌, Bool, true, false, not, unwrap_or, refl, sym, ap, ◌∙◌}
use Rattle.pb_semantics.specs.Kind.{Spot, spot, lists, recs}
use Rattle.pb_semantics.specs.Join.{join}
use Rattle.pb_semantics.proofs.Bools.{untrue, neither-left, neither-right}
use Rattle.pb_language.specs.Expression.{Name, Expression, literal, path, negation, conjunction, disjunction, in_batch, defined, path_status, path_or, value_or, list_of, record_of, Root, variable, alias, other, member, Expressions, no_expressions, expression, Parts, no_parts, part}
use Rattle.pb_language.specs.Scope.{Scope, View, Later, learned_kind, resolved, is_present, is_present_path, spot_kind, with_slot, taught, both_scopes}
use Rattle.pb_language.specs.Kinds.{path_spot, shown_spot, default_kind, count, kind_of, root_spot, items_kind, parts_slots}
use Rattle.pb_language.specs.Narrow.{there_spot, changed_spot, changed_at, on_results, cases_with, answers, defined_at, teach, teach_present, any_teaches, where_taught, narrow, narrow_each, narrow_some}
use Rattle.pb_language.specs.Rules.{reads_others, root_reads_others, any_reads_others, part_reads_others}

-- the scope with another table and other laters
abbrev pub under : List View → List Later → Scope → Scope
under vs ls c = record c { table = vs; laters = ls }

module _ (vs : List View) (ls : List Later) where
  resolved_alone : (r : Root) (c : Scope) → root_reads_others r ≡ false → resolved (under vs ls c) r ≡ resolved c r
  resolved_alone (variable x) c n = refl
  resolved_alone (alias x e) c n = refl
  resolved_alone (other t x) c n = untrue (sym n)
  resolved_alone (member g p) c n = refl

  pub present_alone : (r : Root) (ns : List Name) (c : Scope) → root_reads_others r ≡ false → is_present (under vs ls c) r ns ≡ is_present c r ns
  present_alone r ns c n = ap (λ q. is_present_path q ns c.present) (resolved_alone r c n)

  mutual
    pub kind_alone : (e : Expression) (c : Scope) → reads_others e ≡ false → kind_of (under vs ls c) e ≡ kind_of c e
    kind_alone (literal d) c n = refl
    kind_alone (path r ns) c n = ap (λ s. spot_kind (path_spot ns s)) (root_alone r c n)
    kind_alone (path_or r ns e) c n =
        let m = neither-left (root_reads_others r) (reads_others e) n in
        ap (λ q. default_kind (shown_spot q (path_spot ns (root_spot (under vs ls c) r))) (kind_of (under vs ls c) e)) (present_alone r ns c m)
        ∙ ap (λ s. default_kind (shown_spot (is_present c r ns) (path_spot ns s)) (kind_of (under vs ls c) e)) (root_alone r c m)
        ∙ ap (λ k. default_kind (shown_spot (is_present c r ns) (path_spot ns (root_spot c r))) k) (kind_alone e c (neither-right (root_reads_others r) (reads_others e) n))
    kind_alone (value_or a e) c n = kind_alone a c (neither-left (reads_others a) (reads_others e) n)
    kind_alone (list_of es) c n = ap (λ k. lists k (count es)) (items_alone es c n)
    kind_alone (record_of ps) c n = ap (λ ss. recs ss) (slots_alone ps c n)
    kind_alone e c n = refl

    pub root_alone : (r : Root) (c : Scope) → root_reads_others r ≡ false → root_spot (under vs ls c) r ≡ root_spot c r
    root_alone (variable x) c n = refl
    root_alone (alias x e) c n = ap (λ k. spot true (unwrap_or (learned_kind x e c.learned) k)) (kind_alone e c n)
    root_alone (other t x) c n = untrue (sym n)
    root_alone (member g p) c n = refl

    items_alone : (es : Expressions) (c : Scope) → any_reads_others es ≡ false → items_kind (under vs ls c) es ≡ items_kind c es
    items_alone no_expressions c n = refl
    items_alone (expression e es) c n =
        ap (λ k. join k (items_kind (under vs ls c) es)) (kind_alone e c (neither-left (reads_others e) (any_reads_others es) n))
        ∙ ap (λ k. join (kind_of c e) k) (items_alone es c (neither-right (reads_others e) (any_reads_others es) n))

    slots_alone : (ps : Parts) (c : Scope) → part_reads_others ps ≡ false → parts_slots (under vs ls c) ps ≡ parts_slots c ps
    slots_alone no_parts c n = refl
    slots_alone (part x e ps) c n =
        ap (λ k. with_slot x true k (parts_slots (under vs ls c) ps)) (kind_alone e c (neither-left (reads_others e) (part_reads_others ps) n))
        ∙ ap (λ ss. with_slot x true (kind_of c e) ss) (slots_alone ps c (neither-right (reads_others e) (part_reads_others ps) n))

  teach_alone : (f : Spot → Spot) (r : Root) (c : Scope) → root_reads_others r ≡ false → teach (under vs ls c) f r ≡ under vs ls (teach c f r)
  teach_alone f (variable x) c n = refl
  teach_alone f (alias x e) c n = ap (λ s. under vs ls (record c { learned = taught x e (spot_kind (f s)) c.learned })) (root_alone (alias x e) c n)
  teach_alone f (other t x) c n = untrue (sym n)
  teach_alone f (member g p) c n = refl

  teach_present_alone : (r : Root) (ns : List Name) (c : Scope) → root_reads_others r ≡ false → teach_present (under vs ls c) r ns ≡ under vs ls (teach_present c r ns)
  teach_present_alone r ns c n =
      ap (λ q. record (teach (under vs ls c) (there_spot (defined_at ns)) r) { present = record { root = q; steps = ns } ∷ c.present }) (resolved_alone r c n)
      ∙ ap (λ (d : Scope). record d { present = record { root = resolved c r; steps = ns } ∷ c.present }) (teach_alone (there_spot (defined_at ns)) r c n)

  where_alone : (q : Bool) (d e c : Scope) → d ≡ under vs ls e → where_taught q d (under vs ls c) ≡ under vs ls (where_taught q e c)
  where_alone true d e c h = h
  where_alone false d e c h = refl

  mutual
    pub narrow_alone : (e : Expression) (c : Scope) (b : Bool) → reads_others e ≡ false → narrow (under vs ls c) e b ≡ under vs ls (narrow c e b)
    narrow_alone (negation e) c b n = narrow_alone e c (not b) n
    narrow_alone (conjunction es) c true n = narrow_each_alone es c true n
    narrow_alone (conjunction es) c false n = where_alone (any_teaches es) (narrow_some (under vs ls c) es false) (narrow_some c es false) c (narrow_some_alone es c false n)
    narrow_alone (disjunction es) c true n = where_alone (any_teaches es) (narrow_some (under vs ls c) es true) (narrow_some c es true) c (narrow_some_alone es c true n)
    narrow_alone (disjunction es) c false n = narrow_each_alone es c false n
    narrow_alone (in_batch t) c b n = untrue (sym n)
    narrow_alone (defined r ns) c true n = teach_present_alone r ns c n
    narrow_alone (path_status s r ns) c b n = teach_alone (changed_spot (changed_at ns (on_results (cases_with (answers s b))))) r c n
    narrow_alone e c b n = refl

    pub narrow_each_alone : (es : Expressions) (c : Scope) (b : Bool) → any_reads_others es ≡ false → narrow_each (under vs ls c) es b ≡ under vs ls (narrow_each c es b)
    narrow_each_alone no_expressions c b n = refl
    narrow_each_alone (expression e es) c b n =
        ap (λ d. narrow_each d es b) (narrow_alone e c b (neither-left (reads_others e) (any_reads_others es) n))
        ∙ narrow_each_alone es (narrow c e b) b (neither-right (reads_others e) (any_reads_others es) n)

    narrow_some_alone : (es : Expressions) (c : Scope) (b : Bool) → any_reads_others es ≡ false → narrow_some (under vs ls c) es b ≡ under vs ls (narrow_some c es b)
    narrow_some_alone no_expressions c b n = refl
    narrow_some_alone (expression e no_expressions) c b n = narrow_alone e c b (neither-left (reads_others e) false n)
    narrow_some_alone (expression e (expression f es)) c b n =
        let here = neither-left (reads_others e) (any_reads_others (expression f es)) n in
        let later = neither-right (reads_others e) (any_reads_others (expression f es)) n in
        ap (λ d. both_scopes d (narrow_some (narrow (under vs ls c) e (not b)) (expression f es) b)) (narrow_alone e c b here)
        ∙ ap (λ d. both_scopes (under vs ls (narrow c e b)) (narrow_some d (expression f es) b)) (narrow_alone e c (not b) here)
        ∙ ap (λ d. both_scopes (under vs ls (narrow c e b)) d) (narrow_some_alone (expression f es) (narrow c e (not b)) b later)
