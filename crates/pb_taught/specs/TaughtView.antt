-- The scope of what is known and of what tests have taught.
use Rattle.std.specs.Prelude.{List, [], ◌∷◌, map, false, Option, Some, None, String, string_bytes}
use Rattle.std.specs.declared.alloc.Global.{Global}
use Rattle.std.specs.declared.collections.btree_map.BTreeMap.{BTreeMap}
use Rattle.std.specs.declared.sync.Arc.{Arc}
use Rattle.pb_semantics.specs.Kind.{KindData, no_slots}
use Rattle.pb_language.specs.Expansion.{expanded_root}
use Rattle.pb_language.specs.Expression.{Name, Expression, Root, alias}
use Rattle.pb_language.specs.Scope.{Scope, Learned, Present, View, nothing, taught, both_scopes}
use Rattle.pb_kind.specs.KindView.{kind_view, slots_view}
use Rattle.pb_kind.specs.declared.kind.Kind.{Kind}
use Rattle.pb_kind.specs.declared.kind.Slot.{Slot}
use Rattle.pb_syntax.specs.ExprView.{names_of, root_view}
use Rattle.pb_syntax.specs.declared.expr.Path.{Path}
use Rattle.pb_taught.specs.declared.scope.Learned.{Learned as MadeLearned}
use Rattle.pb_taught.specs.declared.scope.Taught.{Taught}
use Rattle.pb_syntax.specs.Aliases.{Trees}
use Rattle.pb_taught.specs.Before.{Before}

abbrev pub present_view : Trees → Path → Present
present_view f p =
    record { root = expanded_root f (root_view p.root); steps = names_of p.steps.items }

abbrev pub presents_view : Trees → List (Arc Path Global) → List Present
presents_view f ps = map (λ p. present_view f p.value) ps

-- the tree of a root that is a name of `vars`
abbrev pub alias_tree : Root → Option Expression
alias_tree (alias n e) = Some e
alias_tree r = None

-- what a test taught of the value of a name of `vars`, which has that tree
abbrev pub with_learned : Name → Option Expression → KindData → Learned → Learned
with_learned n None k l = l
with_learned n (Some e) k l = taught n e k l

abbrev pub learned_view : Trees → List MadeLearned → Learned
learned_view f [] = nothing
learned_view f (l ∷ ls) =
    with_learned (string_bytes l.name) (f (string_bytes l.name)) (kind_view l.kind)
    (learned_view f ls)

abbrev pub views_view : List (String Global × BTreeMap (String Global) (Slot Kind) Global)
    → List View
views_view vs = map (λ v. record { host = string_bytes v.0; slots = slots_view v.1.entries }) vs

-- what is known where that was taught
abbrev pub scope_view : Before → Taught → Scope
scope_view b t = record b.scope {
  own_slots = slots_view t.slots.entries;
  views = views_view t.views.entries;
  learned = learned_view b.trees t.learned.items;
  present = presents_view b.trees t.paths.items;
  active = names_of t.active.items;
  item_slots = slots_view t.item_slots.entries;
  item_active = t.item_active;
}

-- what is known, where no test has taught anything
abbrev pub untaught : Scope → Scope
untaught c = record c {
  own_slots = no_slots;
  views = [];
  learned = nothing;
  present = [];
  active = [];
  item_slots = no_slots;
  item_active = false;
}

abbrev pub scopes_view : Before → List Taught → List Scope
scopes_view b ts = map (λ t. scope_view b t) ts

-- what each of the ways teaches, where there is one
abbrev pub taught_by : List Scope → Scope → Scope
taught_by [] c = c
taught_by (d ∷ []) c = d
taught_by (d ∷ e ∷ ds) c = both_scopes d (taught_by (e ∷ ds) c)
