use Rattle.std.proofs.Common.{◌≡◌, ◌≤◌, List, [], length, map, sym, ap, subst, subst₂, ◌∙◌, ⊎_elim}
use Rattle.std.specs.List.{All}
use Rattle.pb_semantics.proofs.Bools.{untrue}
use Rattle.pb_semantics.specs.Limits.{most_play_steps}
use Rattle.pb_language.specs.Sites.{steps_of}
use Rattle.pb_sig.specs.Modules.{modules_of}
use Rattle.pb_play.specs.Plays.{play_view}
use Rattle.pb_play.specs.Sound.{AreSound, all_tasks}
use Rattle.pb_play.specs.declared.play.Play.{Play}
use Rattle.pb_book.specs.Books.{plays_of}
use Rattle.pb_slots.specs.Words.{names_of_slots}
use Rattle.pb_steps.specs.Nodes.{AreNodes}
use Rattle.pb_steps.specs.Outlines.{play_plan}
use Rattle.pb_steps.specs.Uses.{Adds}
use Rattle.pb_steps.specs.declared.nodes.PlayNodes.{PlayNodes}
use Rattle.pb_verify.specs.Scenes.{AllGather}
use Rattle.pb_plan.specs.Nodes.{AreNodesOf, AreTasksOf, SomeNodesUse}
use Rattle.pb_plan.specs.Plays.{AllPrepared, AllUsed, SomePlayUses}
use Rattle.pb_plan.proofs.Accepted.{accepted-few, handlers-of-views, plans-of-views}
use Rattle.pb_plan.proofs.Planned.{all-prepared, all-used, handlers-of, nodes-use, plans-of, plays-use}
use Rattle.pb_plan.proofs.plan.Plan.of.Goals as goal

pub nodes_of_plays-requires : goal.nodes_of_plays-requires
nodes_of_plays-requires c = record {
  few = subst (λ (ps : List Play). All (λ p. steps_of (play_view p) ≤ most_play_steps) ps) (sym (c.plays-plays.ensures ∙ ap plays_of c.book.ensures.value)) (accepted-few c.args.checked.now c.budget.ensures.accepted);
}

pub returns-clause-plays : goal.returns-clause-plays
returns-clause-plays c =
    let ms = modules_of c.args.checked.now.registry in
    let ps = c.plays-plays.result.now in
    let sound = subst (λ qs. AreSound ms (all_tasks qs)) (sym c.plays-plays.ensures) c.book.ensures.sound in
    let gather = subst₂ (λ r ts. AllGather (modules_of r) ps ts) c.registry.ensures (sym c.deref.ensures.value) c.in_ok-gathering.ensures in
    let of : AreNodesOf ms ps c.in_ok-nodes.nodes.items = c.in_ok-nodes.ensures.plays ms sound gather in
    c.in_ok-plays.ensures.plans ms ∙ plans-of ms ps c.in_ok-nodes.nodes.items of ∙ ap (map (λ p. play_plan ms (play_view p))) (c.plays-plays.ensures ∙ ap plays_of c.book.ensures.value)
    ∙ plans-of-views ms (plays_of c.args.checked.now.book)

pub returns-clause-uses : goal.returns-clause-uses
returns-clause-uses c =
    let ms = modules_of c.args.checked.now.registry in
    let ps = c.plays-plays.result.now in
    let names = names_of_slots c.in_ok-slots.slots in
    let sound = subst (λ qs. AreSound ms (all_tasks qs)) (sym c.plays-plays.ensures) c.book.ensures.sound in
    let gather = subst₂ (λ r ts. AllGather (modules_of r) ps ts) c.registry.ensures (sym c.deref.ensures.value) c.in_ok-gathering.ensures in
    let of : AreNodesOf ms ps c.in_ok-nodes.nodes.items = c.in_ok-nodes.ensures.plays ms sound gather in
    subst (λ qs. AllUsed ms names c.in_ok-plays.plays.items (map play_view qs)) (c.plays-plays.ensures ∙ ap plays_of c.book.ensures.value)
    (all-used ms names ps c.in_ok-nodes.nodes.items c.in_ok-plays.plays.items of (c.in_ok-plays.ensures.uses ms))

pub returns-clause-tasks : goal.returns-clause-tasks
returns-clause-tasks c =
    let ms = modules_of c.args.checked.now.registry in
    let ps = c.plays-plays.result.now in
    let ns = c.in_ok-nodes.nodes.items in
    let sound = subst (λ qs. AreSound ms (all_tasks qs)) (sym c.plays-plays.ensures) c.book.ensures.sound in
    let gather = subst₂ (λ r ts. AllGather (modules_of r) ps ts) c.registry.ensures (sym c.deref.ensures.value) c.in_ok-gathering.ensures in
    let of : AreNodesOf ms ps ns = c.in_ok-nodes.ensures.plays ms sound gather in
    let made : AreTasksOf ms c.in_ok-tasks.tasks.items ns = subst (AreTasksOf ms c.in_ok-tasks.tasks.items) c.deref-3.ensures.value (c.in_ok-tasks.ensures ms) in
    subst (λ qs. AllPrepared ms c.in_ok-tasks.tasks.items (map play_view qs)) (c.plays-plays.ensures ∙ ap plays_of c.book.ensures.value) (all-prepared ms ps ns c.in_ok-tasks.tasks.items of made)

pub returns-clause-handlers : goal.returns-clause-handlers
returns-clause-handlers c =
    let ms = modules_of c.args.checked.now.registry in
    let ps = c.plays-plays.result.now in
    let ns = c.in_ok-nodes.nodes.items in
    let sound = subst (λ qs. AreSound ms (all_tasks qs)) (sym c.plays-plays.ensures) c.book.ensures.sound in
    let gather = subst₂ (λ r ts. AllGather (modules_of r) ps ts) c.registry.ensures (sym c.deref.ensures.value) c.in_ok-gathering.ensures in
    let of : AreNodesOf ms ps ns = c.in_ok-nodes.ensures.plays ms sound gather in
    c.in_ok-plays.ensures.handlers ∙ handlers-of ms ps ns of ∙ ap (map (λ (p : Play). length p.handlers.items)) (c.plays-plays.ensures ∙ ap plays_of c.book.ensures.value)
    ∙ handlers-of-views (plays_of c.args.checked.now.book)

pub returns-clause-whole : goal.returns-clause-whole
returns-clause-whole c n u =
    let ms = modules_of c.args.checked.now.registry in
    let ps = c.plays-plays.result.now in
    let ns = c.in_ok-nodes.nodes.items in
    let sound = subst (λ qs. AreSound ms (all_tasks qs)) (sym c.plays-plays.ensures) c.book.ensures.sound in
    let gather = subst₂ (λ r ts. AllGather (modules_of r) ps ts) c.registry.ensures (sym c.deref.ensures.value) c.in_ok-gathering.ensures in
    let of : AreNodesOf ms ps ns = c.in_ok-nodes.ensures.plays ms sound gather in
    let adds : Adds (SomeNodesUse ns) [] (names_of_slots c.in_ok-slots.slots) = subst (λ xs. Adds (SomeNodesUse xs) [] (names_of_slots c.in_ok-slots.slots)) c.deref-2.ensures.value c.in_ok-slots.ensures in
    adds.whole n (nodes-use ms ps ns n c.in_ok-nodes.ensures.nodes of (subst (λ qs. SomePlayUses ms (map play_view qs) n) (sym (c.plays-plays.ensures ∙ ap plays_of c.book.ensures.value)) u))

pub returns-clause-sound : goal.returns-clause-sound
returns-clause-sound c n h =
    let ms = modules_of c.args.checked.now.registry in
    let ps = c.plays-plays.result.now in
    let ns = c.in_ok-nodes.nodes.items in
    let sound = subst (λ qs. AreSound ms (all_tasks qs)) (sym c.plays-plays.ensures) c.book.ensures.sound in
    let gather = subst₂ (λ r ts. AllGather (modules_of r) ps ts) c.registry.ensures (sym c.deref.ensures.value) c.in_ok-gathering.ensures in
    let of : AreNodesOf ms ps ns = c.in_ok-nodes.ensures.plays ms sound gather in
    let adds : Adds (SomeNodesUse ns) [] (names_of_slots c.in_ok-slots.slots) = subst (λ xs. Adds (SomeNodesUse xs) [] (names_of_slots c.in_ok-slots.slots)) c.deref-2.ensures.value c.in_ok-slots.ensures in
    subst (λ qs. SomePlayUses ms (map play_view qs) n) (c.plays-plays.ensures ∙ ap plays_of c.book.ensures.value) (plays-use ms ps ns n c.in_ok-nodes.ensures.nodes of (⊎_elim (λ e. untrue e) (λ x. x) (adds.sound n h)))

pub tasks_of_plays-requires : goal.tasks_of_plays-requires
tasks_of_plays-requires c = record {
  nodes = subst (λ (ns : List PlayNodes). All AreNodes ns) (sym c.deref-3.ensures.value) c.in_ok-nodes.ensures.nodes;
}
