use Rattle.std.proofs.Common.{refl, ◌∙◌}
use Rattle.std.proofs.lemmas.Result.{IfOk-weaker}
use Rattle.pb_kind.proofs.KindLemmas.{kind_view-Text}
use Rattle.pb_sig.proofs.ResultKinds.{kind_view-Bool}
use Rattle.pb_sig.proofs.table.ping_shape.Goals as goal

pub returns : goal.returns
returns c =
    let changed = c.must.ensures in
    let ping = c.must-2.ensures in
    IfOk-weaker c.shape_of.result _ _ (λ k h. h ∙ rw (changed.name, changed.presence, changed.kind, ping.name, ping.presence, ping.kind, kind_view-Bool, kind_view-Text) refl) c.shape_of.ensures
