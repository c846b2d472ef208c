use Rattle.std.proofs.Common.{ap, ◌∙◌}
use Rattle.std.proofs.lemmas.Result.{IfOk-weaker}
use Rattle.pb_semantics.specs.Kind.{recs}
use Rattle.pb_kind.specs.KindView.{slots_view}
use Rattle.pb_sig.proofs.ResultKinds.{recs-ended}
use Rattle.pb_sig.proofs.results.ended_record.Goals as goal

pub returns : goal.returns
returns c = IfOk-weaker c.of_slots.result _ _ (λ k h. h ∙ ap recs c.in_ok-slots.ensures ∙ recs-ended (slots_view c.args.shape.now.entries) c.requires) c.of_slots.ensures
