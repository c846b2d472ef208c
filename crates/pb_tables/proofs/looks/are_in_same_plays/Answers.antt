use Rattle.std.proofs.Common.{◌≡◌, ◌∙◌, ◌+◌, ◌<◌, ◌≤◌, length, suc, sym, subst, arith}
use Rattle.pb_tables.proofs.Playing.{SameLeft, same_all, same_answers, same_next}
use Rattle.pb_tables.proofs.looks.are_in_same_plays.Goals as goal

pub loop-play-preserved : goal.loop-play-preserved
loop-play-preserved c = λ ps x y scenes a b.
    let l = c.loop-play in
    let stage = c.args.stage.now in
    let next : suc l.play ≡ l.play + 1 = omega arith in
    let within : l.play < length stage.scenes.now = omega arith in
    subst (λ n. SameLeft stage.inventory.now stage.scenes.now x y ps n) next
    (same_next stage.inventory.now stage.scenes.now x y ps l.play within (λ s p at is. c.is_named.ensures s p x at is a ∙ same_answers c.is_named.result c.is_named-in-loop-play.result c.if-is_named.false ∙ sym (c.is_named-in-loop-play.ensures s p y at is b)) (l.invariant ps x y scenes a b))

pub returns : goal.returns
returns c = λ fine ps x y scenes a b.
    let l = c.loop-play in
    let stage = c.args.stage.now in
    let past : length stage.scenes.now ≤ l.play = omega arith in
    same_all stage.inventory.now stage.scenes.now x y ps l.play past (l.invariant ps x y scenes a b)
