use Rattle.std.proofs.Common.{◌≡◌, ◌+◌, [], ◌∷◌, ◌++◌, take, length, refl, sym, ap, subst, ◌∙◌, Some, slice_get}
use Rattle.std.proofs.lemmas.List.{take_more}
use Rattle.std.proofs.lemmas.List.Elements.{All-push}
use Rattle.std.proofs.lemmas.Option.{slice_get_read}
use Rattle.pb_route.specs.Routes.{Gathers}
use Rattle.pb_verify.proofs.Gathered.{gathered_there, program_more, scenes_more, sound_there}
use Rattle.pb_verify.proofs.scenes.scenes_of.Goals as goal

pub loop-index-preserved : goal.loop-index-preserved
loop-index-preserved c =
    let plays = c.args.plays.now in
    let i = c.args.inventory.now in
    let k = c.loop-index.index in
    let p = c.index-plays-index.result in
    let s = c.in_ok-of.field-0 in
    let there : slice_get plays k ≡ Some p = slice_get_read plays (length plays) k p refl c.loop-index-test.true c.index-plays-index.is in
    let more : take (k + 1) plays ≡ take k plays ++ p ∷ [] = take_more plays k p c.loop-index-test.true ∙ ap (λ x. take k plays ++ x ∷ []) (sym c.index-plays-index.is) in (
      rw c.in_ok-push.ensures.items (All-push (λ t. t.cast.inventory.now ≡ i) c.loop-index.scenes.items s c.loop-index.invariant.0 (ap (λ x. x.now) c.in_ok-of.ensures.inventory)),
      λ ms sound gather.
          let gathers = subst (Gathers ms p.gathering) (sym c.gathering_at-task.ensures) (gathered_there ms plays c.args.gathering.now k p gather there) in
          let scene = c.in_ok-of.ensures.scene ms (sound_there ms plays k p sound there) gathers in
          rw (more, c.in_ok-push.ensures.items, program_more ms i (take k plays) p) (scenes_more i _ c.loop-index.scenes.items _ s (c.loop-index.invariant.1 ms sound gather) scene),
    )
