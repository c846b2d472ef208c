use Rattle.std.proofs.Common.{◌≡◌, ◌≤◌, ◌∙◌, ◌++◌, ◌∷◌, [], suc, unwrap_or, vec_len, ap, sym, subst, arith}
use Rattle.pb_flow.specs.Nodes.{around_view}
use Rattle.pb_flow.specs.declared.graph.Around.{Around}
use Rattle.pb_flow.proofs.Arounds.{around-inside}
use Rattle.pb_flow.proofs.scene.Part.inside.Goals as goal

pub invariant_of-result : goal.invariant_of-result
invariant_of-result c =
    let part = c.args.self.now in
    let longer : vec_len c.push.new.self ≡ suc (vec_len part.around.value.blocks) =
    omega (arith, c.in_ok-push.ensures.len, c.in_ok-extend_from_slice.ensures.len, c.new-blocks.ensures.len, c.deref.ensures.len, ap (λ (a : Around). vec_len a.blocks) c.deref-outer.ensures) in
    record {
      holders = subst (λ (a : Around). part.held ≤ vec_len a.blocks) (sym c.in_ok-new.ensures.ok) (omega (arith, longer, part.holders));
      rescuers = subst (λ (a : Around). a.depth ≤ vec_len a.blocks) (sym c.in_ok-new.ensures.ok) (omega (arith, longer, c.requires, part.rescuers));
    }

pub returns-clause-around : goal.returns-clause-around
returns-clause-around c = λ ms vars.
    let outer = c.args.self.now.around.value in
    ap (around_view ms vars) c.in_ok-new.ensures.ok
    ∙ around-inside ms vars outer (record { blocks = c.push.new.self; ignores = c.unwrap_or.result; rescued = c.args.rescued; depth = c.args.depth }) c.args.head
    (c.in_ok-push.ensures.items ∙ ap (λ bs. bs ++ c.args.head ∷ [])
    (c.in_ok-extend_from_slice.ensures.items ∙ ap (λ bs. bs ++ c.deref.result.now) c.new-blocks.ensures.items ∙ c.deref.ensures.value ∙ ap (λ (a : Around). a.blocks.items) c.deref-outer.ensures))
    (c.unwrap_or.ensures ∙ ap (λ (a : Around). unwrap_or c.args.head.now.ignore_errors a.ignores) c.deref-outer.ensures)

pub returns-clause-blocks : goal.returns-clause-blocks
returns-clause-blocks c =
    let longer : vec_len c.push.new.self ≡ suc (vec_len c.args.self.now.around.value.blocks) =
    omega (arith, c.in_ok-push.ensures.len, c.in_ok-extend_from_slice.ensures.len, c.new-blocks.ensures.len, c.deref.ensures.len, ap (λ (a : Around). vec_len a.blocks) c.deref-outer.ensures) in
    ap (λ (a : Around). vec_len a.blocks) c.in_ok-new.ensures.ok ∙ longer
