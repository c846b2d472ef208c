-- What stands round the steps of a part of a block.
use Rattle.std.proofs.Common.{◌≡◌, ◌∙◌, List, [], ◌∷◌, ◌++◌, Bool, map, unwrap_or, Bor, refl, ap}
use Rattle.std.proofs.lemmas.List.{map-append}
use Rattle.pb_language.specs.Expression.{Expressions, Parts, no_expressions}
use Rattle.pb_language.specs.Book.{Registry}
use Rattle.pb_language.specs.Plays.{append_expressions, append_parts, inside}
use Rattle.pb_play.specs.Plays.{head_view}
use Rattle.pb_play.specs.declared.play.BlockHead.{BlockHead}
use Rattle.pb_syntax.specs.ExprView.{exprs_view}
use Rattle.pb_template.specs.Entries.{entries_view}
use Rattle.pb_flow.specs.Nodes.{around_view, conditions_after, scope_after}
use Rattle.pb_flow.specs.declared.graph.Around.{Around}

pub conditions-push : (es : Expressions) (bs : List BlockHead) (b : BlockHead) → conditions_after es (bs ++ b ∷ []) ≡ append_expressions (conditions_after es bs) (exprs_view b.when.items)
conditions-push es [] b = refl
conditions-push es (c ∷ bs) b = conditions-push (append_expressions es (exprs_view c.when.items)) bs b

pub scope-push : (ps : Parts) (bs : List BlockHead) (b : BlockHead) → scope_after ps (bs ++ b ∷ []) ≡ append_parts (entries_view b.vars.items) (scope_after ps bs)
scope-push ps [] b = refl
scope-push ps (c ∷ bs) b = scope-push (append_parts (entries_view c.vars.items) ps) bs b

-- one more block stands round them
pub around-inside : (ms : Registry) (vars : Parts) (a b : Around) (h : Bor BlockHead) → b.blocks.items ≡ a.blocks.items ++ h ∷ [] → b.ignores ≡ unwrap_or h.now.ignore_errors a.ignores
    → around_view ms vars b ≡ record (inside (around_view ms vars a) (head_view h.now)) { rescued = b.rescued; depth = b.depth }
around-inside ms vars a b h e i = at (map (λ x. x.now) b.blocks.items) b.ignores (ap (map (λ x. x.now)) e ∙ map-append (λ x. x.now) a.blocks.items (h ∷ [])) i where
  at : (bs : List BlockHead) (i : Bool) → bs ≡ map (λ x. x.now) a.blocks.items ++ h.now ∷ [] → i ≡ unwrap_or h.now.ignore_errors a.ignores
      → record { registry = ms; conditions = conditions_after no_expressions bs; scope = scope_after vars bs; ignores = i; rescued = b.rescued; depth = b.depth } ≡ record (inside (around_view ms vars a) (head_view h.now)) { rescued = b.rescued; depth = b.depth }
  at bs i e f = rw (e, f, conditions-push no_expressions (map (λ x. x.now) a.blocks.items) h.now, scope-push vars (map (λ x. x.now) a.blocks.items) h.now)
