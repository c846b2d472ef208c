use Rattle.std.proofs.Common.{◌∙◌, ap, sym}
use Rattle.pb_kind.specs.KindView.{is_always, kind_view}
use Rattle.pb_lattice.specs.Arena.{part_view, tree_at}
use Rattle.pb_lattice.specs.Trees.{slots_over}
use Rattle.pb_language.specs.Judgement.{live}
use Rattle.pb_lattice.proofs.LostMarks.{bare_loses, fork_marks, same_lose, tree_loses}
use Rattle.pb_lattice.proofs.Meetings.{forked}
use Rattle.pb_lattice.proofs.tree.+mark_lost.Goals as goal

pub returns-then-before-after : goal.returns-then-before-after
returns-then-before-after t c = λ ns up many low high.
    let f = tree_at c.args.nodes.now in
    rw (← c.if-before-after.true) (sym (same_lose c.args.mark (live (slots_over (f c.args.before) ns)) ns c.args.marks.now many))

pub returns-in-Bare : goal.returns-in-Bare
returns-in-Bare t c = λ ns up many low high.
    let f = tree_at c.args.nodes.now in
    bare_loses c.args.mark (f c.args.before) (live (slots_over (f c.args.after) ns)) ns c.args.marks.now (c.part.ensures.means ∙ ap (part_view f) c.in-Bare.is) many

pub returns-in-Some : goal.returns-in-Some
returns-in-Some t c = λ ns up many low high.
    let f = tree_at c.args.nodes.now in
    let s = c.in-Known.slot in
    tree_loses c.args.mark (is_always s.presence) (kind_view s.kind) (f c.args.before) (f c.args.after) ns c.args.marks.now (c.part.ensures.means ∙ ap (part_view f) c.in-Known.is) many low high
    (sym c.is_always.ensures ∙ c.if-is_always.true) (sym c.is_certain.ensures ∙ c.if-not-is_certain.true)

pub returns-in-Fork : goal.returns-in-Fork
returns-in-Fork t c =
    let f = tree_at c.args.nodes.now in
    let k = forked f c.args.before c.part.result.now c.in-Fork.left c.in-Fork.right c.part.ensures.means c.in-Fork.is c.part.ensures.below in
    fork_marks c.args.mark (f c.args.before) (f c.args.after) (f c.in-Fork.left) (f c.in-Fork.right) (f c.halves-first.result.0) (f c.halves-first.result.1) c.args.marks.now c.split_at_mut-low.result.0.now c.split_at_mut-low.result.1.now
    c.mark_lost.new.marks c.mark_lost-in-Fork.new.marks k.means c.halves-first.ensures.split c.split_at_mut-low.ensures.front c.split_at_mut-low.ensures.back c.mark_lost.ensures c.mark_lost-in-Fork.ensures
