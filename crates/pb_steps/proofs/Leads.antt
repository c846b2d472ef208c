-- The steps lead on as the nodes do of which they are made.
use Rattle.std.proofs.Common.{◌≡◌, ℕ, suc, List, [], ◌∷◌, length, map, Bool, true, false, ◌&&◌, Option, refl, sym, ap, ap₂, ◌∙◌}
use Rattle.std.proofs.lemmas.List.{length-map}
use Rattle.pb_language.specs.Book.{Registry}
use Rattle.pb_language.specs.Expression.{Parts, no_parts}
use Rattle.pb_flow.specs.Ahead.{is_ahead, lead_on as nodes_lead_on, all_lead_on as all_nodes_lead_on}
use Rattle.pb_flow.specs.Nodes.{node_step}
use Rattle.pb_flow.specs.declared.graph.Node.{Node}
use Rattle.pb_flow.specs.declared.graph.Target.{Target}
use Rattle.pb_steps.specs.Leads.{leads_on, lead_on, all_lead_on}
use Rattle.pb_steps.specs.Outlines.{Outline, outline, outline_view}
use Rattle.pb_steps.specs.declared.step.Step.{Step}

abbrev outlines_lead_on : ℕ → ℕ → List Outline → Bool
outlines_lead_on last o [] = true
outlines_lead_on last o (x ∷ xs) = (is_ahead o last x.ok.to && is_ahead o last x.failed.to) && outlines_lead_on last (suc o) xs

by_steps : (last o : ℕ) (ss : List Step) → lead_on last o ss ≡ outlines_lead_on last o (map outline_view ss)
by_steps last o [] = refl
by_steps last o (s ∷ ss) = ap (λ b. leads_on last o s && b) (by_steps last (suc o) ss)

and-join : (a b c : Bool) → a && (b && c) ≡ (a && b) && c
and-join true b c = refl
and-join false b c = refl

by_nodes : (ms : Registry) (vars : Parts) (last o : ℕ) (ns : List Node) → nodes_lead_on last o ns ≡ outlines_lead_on last o (map (λ n. outline (node_step ms vars n)) ns)
by_nodes ms vars last o [] = refl
by_nodes ms vars last o (n ∷ ns) =
    and-join (is_ahead o last n.ok.to) (is_ahead o last n.failed.to) (nodes_lead_on last (suc o) ns)
    ∙ ap (λ b. (is_ahead o last n.ok.to && is_ahead o last n.failed.to) && b) (by_nodes ms vars last (suc o) ns)

pub steps-lead-on : (begin : Target) (first : Option ℕ) (ss : List Step) (ns : List Node) → begin.to ≡ first
    → map outline_view ss ≡ map (λ n. outline (node_step [] no_parts n)) ns → all_nodes_lead_on first ns ≡ true → all_lead_on begin ss ≡ true
steps-lead-on begin first ss ns b e leads =
    let many : length ss ≡ length ns = sym (length-map ss outline_view) ∙ ap length e ∙ length-map ns (λ n. outline (node_step [] no_parts n)) in
    let same : lead_on (suc (length ns)) 1 ss ≡ nodes_lead_on (suc (length ns)) 1 ns = by_steps (suc (length ns)) 1 ss ∙ ap (outlines_lead_on (suc (length ns)) 1) e ∙ sym (by_nodes [] no_parts (suc (length ns)) 1 ns) in
    ap₂ (λ k to. is_ahead 0 (suc k) to && lead_on (suc k) 1 ss) many b ∙ ap (λ q. is_ahead 0 (suc (length ns)) first && q) same ∙ leads
