use Rattle.std.proofs.Common.{◌≡◌, ◌∙◌, ℕ, suc, ◌<◌, ◌≤◌, List, length, get_or, Option, Some, None, option_map, MatchOption, IfSome, Bor, refl, ap, sym, arith}
use Rattle.std.proofs.lemmas.Option.{slice_get_past, slice_get_read}
use Rattle.std.specs.List.{HoldsAt}
use Rattle.pb_flow.specs.Exits.{node_at}
use Rattle.pb_flow.specs.declared.graph.Node.{Node}
use Rattle.pb_flow.proofs.graph.Graph.node_at.Goals as goal

looked-up : (xs : List Node) (m k : ℕ) (o : Option (Bor Node)) → m ≡ suc k → MatchOption o (length xs ≤ k) (λ x. (k < length xs) × HoldsAt (λ y. x.now ≡ y) xs k) → IfSome o (λ x. x.now ≡ get_or xs k x.now)
    → option_map (λ n. n.now) o ≡ node_at xs m
looked-up xs m k None e h i = sym (slice_get_past xs k h) ∙ ap (node_at xs) (sym e)
looked-up xs m k (Some x) e h i = sym (slice_get_read xs (length xs) k x.now refl h.0 i) ∙ ap (node_at xs) (sym e)

pub returns : goal.returns
returns c = looked-up c.deref.result.now c.args.node _ c.get.result (omega arith) c.get.ensures.lookup.3 c.get.ensures.lookup.1 ∙ ap (λ xs. node_at xs c.args.node) c.deref.ensures.value
