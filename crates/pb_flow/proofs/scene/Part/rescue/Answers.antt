use Rattle.std.proofs.Common.{◌≡◌, ◌+◌, suc, ap, arith}
use Rattle.pb_flow.specs.declared.graph.Around.{Around}
use Rattle.pb_flow.proofs.scene.Part.rescue.Goals as goal

pub overflow_add-depth : goal.overflow_add-depth
overflow_add-depth c =
    let part = c.args.self.now in
    let blocks = part.around.value.blocks in
    omega (arith, part.rescuers, blocks.ok.1, blocks.small, ap (λ (a : Around). a.depth) c.deref.ensures)

pub returns-clause-around : goal.returns-clause-around
returns-clause-around c =
    let e : c.deref.result.now.depth + 1 ≡ suc c.args.self.now.around.value.depth = omega (arith, ap (λ (a : Around). a.depth) c.deref.ensures) in
    rw (e, c.deref-2.ensures) at c.inside.ensures.around
