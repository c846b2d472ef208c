use Rattle.pb_play.specs.Plays.{play_view}
use Rattle.pb_flow.specs.Nodes.{target_view}
use Rattle.pb_flow.proofs.Blocks.{both-ok, on-ok}
use Rattle.pb_flow.proofs.Sections.{sections-put}
use Rattle.pb_flow.proofs.Sounds.{stay-sections}
use Rattle.pb_flow.proofs.build.put_sections.Goals as goal

pub returns-clause-put : goal.returns-clause-put
returns-clause-put c =
    let scene = c.args.scene.now in
    let play = c.args.play.now in
    both-ok c.put_section-3.result _ _ _ c.put_section-3.ensures.put c.put_section-3.ensures.place (λ at p e. λ ms vars.
    sections-put ms vars scene (play_view play) (target_view c.args.after.now) c.args.tail.now c.put_section.new.tail c.put_section-2.new.tail c.put_section-3.new.tail (target_view c.in_ok-post_tasks.post_tasks) (target_view c.in_ok-tasks.tasks) (target_view at)
    (rw c.deref-2.ensures.value at c.in_ok-tasks.ensures.place)
    (rw c.deref-3.ensures.value at e)
    (rw c.deref.ensures.value at (c.in_ok-post_tasks.ensures.put ms vars))
    (rw c.deref-2.ensures.value at (c.in_ok-tasks.ensures.put ms vars))
    (rw c.deref-3.ensures.value at (p ms vars)))

pub returns-clause-sound : goal.returns-clause-sound
returns-clause-sound c =
    let before = rw c.deref.ensures.value at c.in_ok-post_tasks.ensures.sound in
    let middle = rw c.deref-2.ensures.value at c.in_ok-tasks.ensures.sound in
    on-ok c.put_section-3.result _ _ c.put_section-3.ensures.sound (λ h.
    stay-sections c.args.scene.now.handlers.now c.args.play.now c.args.tail.now c.put_section.new.tail c.put_section-2.new.tail c.put_section-3.new.tail before middle (rw c.deref-3.ensures.value at h))
