use Rattle.std.proofs.Common.{◌≡◌, ◌≤◌, ◌+◌, [], ◌∷◌, ◌++◌, take, length, option_map, refl, sym, ap, subst, ◌∙◌, Some, slice_get}
use Rattle.std.proofs.lemmas.List.{take_more}
use Rattle.std.proofs.lemmas.List.Elements.{All-push}
use Rattle.std.proofs.lemmas.Option.{slice_get_read}
use Rattle.pb_semantics.specs.Limits.{most_play_steps}
use Rattle.pb_language.specs.Sites.{steps_of}
use Rattle.pb_play.specs.Plays.{play_view}
use Rattle.pb_play.specs.Sound.{AreSound, play_tasks}
use Rattle.pb_play.specs.declared.play.Play.{Play}
use Rattle.pb_route.specs.Routes.{Gathers}
use Rattle.pb_steps.specs.Nodes.{AreNodes}
use Rattle.pb_verify.proofs.Gathered.{gathered_there, sound_there}
use Rattle.pb_plan.proofs.Planned.{nodes-more}
use Rattle.pb_plan.proofs.plan.nodes_of_plays.Goals as goal

pub of-requires : goal.of-requires
of-requires c = record {
  few = subst (λ (q : Play). steps_of (play_view q) ≤ most_play_steps) (sym c.index-plays-index.is) (c.requires.few c.loop-index.index c.index-plays-index.result c.loop-index-test.true);
}

pub loop-index-preserved : goal.loop-index-preserved
loop-index-preserved c =
    let plays = c.args.plays.now in
    let k = c.loop-index.index in
    let p = c.index-plays-index.result in
    let n = c.in_ok-of.field-0 in
    let there : slice_get plays k ≡ Some p = slice_get_read plays (length plays) k p refl c.loop-index-test.true c.index-plays-index.is in
    let more : take (k + 1) plays ≡ take k plays ++ p ∷ [] = take_more plays k p c.loop-index-test.true ∙ ap (λ x. take k plays ++ x ∷ []) (sym c.index-plays-index.is) in
    let of : n.play.now ≡ p = ap (λ x. x.now) c.in_ok-of.ensures.play in (
      rw c.in_ok-push.ensures.items (All-push AreNodes c.loop-index.nodes.items n c.loop-index.invariant.0 c.in_ok-of.ensures.nodes),
      λ ms sound gather.
          let gathers = subst (Gathers ms p.gathering) (sym c.gathering_at-task.ensures) (gathered_there ms plays c.args.gathering.now k p gather there) in
          rw (more, c.in_ok-push.ensures.items) (nodes-more ms (take k plays) c.loop-index.nodes.items p n (c.loop-index.invariant.1 ms sound gather)
          (record {
            play = of;
            sound = subst (λ (q : Play). AreSound ms (play_tasks q)) (sym of) (sound_there ms plays k p sound there);
            gathers = subst (λ (q : Play). Gathers ms q.gathering (option_map (λ t. t.now) n.gathering)) (sym of) (subst (λ o. Gathers ms p.gathering (option_map (λ t. t.now) o)) (sym c.in_ok-of.ensures.gathering) gathers);
          })),
    )
