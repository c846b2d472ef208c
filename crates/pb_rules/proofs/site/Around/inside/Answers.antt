use Rattle.std.proofs.Common.{◌≡◌, ◌∙◌, List, [], ◌∷◌, ◌++◌, Bor, map, ap}
use Rattle.std.proofs.lemmas.List.{map-append}
use Rattle.pb_language.specs.Expression.{no_expressions}
use Rattle.pb_play.specs.declared.play.BlockHead.{BlockHead}
use Rattle.pb_template.specs.Entries.{entries_view}
use Rattle.pb_flow.specs.Nodes.{conditions_after, scope_after}
use Rattle.pb_flow.proofs.Arounds.{conditions-push, scope-push}
use Rattle.pb_rules.specs.Sites.{conditions_round, scope_round}
use Rattle.pb_rules.proofs.site.Around.inside.Goals as goal

heads : (h : Bor BlockHead) (bs cs : List (Bor BlockHead)) → cs ≡ bs ++ h ∷ [] → map (λ b. b.now) cs ≡ map (λ b. b.now) bs ++ h.now ∷ []
heads h bs cs e = ap (map (λ b. b.now)) e ∙ map-append (λ (b : Bor BlockHead). b.now) bs (h ∷ [])

pub returns-clause-conditions : goal.returns-clause-conditions
returns-clause-conditions c =
    let old = c.args.self.now.blocks.items in
    let all : c.push.new.self.items ≡ old ++ c.args.head ∷ [] = c.in_ok-push.ensures.items
    ∙ ap (λ bs. bs ++ c.args.head ∷ []) (c.in_ok-extend_from_slice.ensures.items ∙ ap (λ bs. bs ++ c.deref.result.now) c.new-blocks.ensures.items ∙ c.deref.ensures.value) in
    ap conditions_round c.in_ok-new.ensures.ok ∙ ap (conditions_after no_expressions) (heads c.args.head old c.push.new.self.items all) ∙ conditions-push no_expressions (map (λ b. b.now) old) c.args.head.now

pub returns-clause-scope : goal.returns-clause-scope
returns-clause-scope c =
    let old = c.args.self.now.blocks.items in
    let vars = entries_view c.args.self.now.play.now.vars.items in
    let all : c.push.new.self.items ≡ old ++ c.args.head ∷ [] = c.in_ok-push.ensures.items
    ∙ ap (λ bs. bs ++ c.args.head ∷ []) (c.in_ok-extend_from_slice.ensures.items ∙ ap (λ bs. bs ++ c.deref.result.now) c.new-blocks.ensures.items ∙ c.deref.ensures.value) in
    ap scope_round c.in_ok-new.ensures.ok ∙ ap (scope_after vars) (heads c.args.head old c.push.new.self.items all) ∙ scope-push vars (map (λ b. b.now) old) c.args.head.now
