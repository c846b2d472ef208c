use Rattle.std.proofs.Common.{◌≡◌, ◌∙◌, ap, length, sym, arith, vec_len}
use Rattle.pb_tables.specs.Listed.{lasting_lists, put_at, put_each}
use Rattle.pb_tables.proofs.Putting.{none_left, put_again, put_none}
use Rattle.pb_tables.proofs.laters.with_lasting.Goals as goal

pub loop-last-preserved : goal.loop-last-preserved
loop-last-preserved c =
    let l = c.loop-last in
    let os = lasting_lists l.laters.items in
    let rest = c.pop.new.self.items in
    let size : vec_len c.pop.new.self ≡ length rest = omega (arith, c.pop.new.self.ok) in
    ap (λ us. put_each us rest) (c.in_ok-put.ensures ∙ ap (λ n. put_at n c.in-Some.last os) (c.len.ensures ∙ size))
    ∙ put_again os rest c.in-Some.last ∙ ap (put_each os) (sym c.in-Some.ensures.items) ∙ l.invariant

pub returns : goal.returns
returns c =
    let l = c.loop-last in
    let none = none_left l.left.items (omega (arith, l.left.ok, c.in_default.ensures.cases.0)) in
    sym (put_none (lasting_lists l.laters.items)) ∙ ap (put_each (lasting_lists l.laters.items)) (sym none) ∙ l.invariant
