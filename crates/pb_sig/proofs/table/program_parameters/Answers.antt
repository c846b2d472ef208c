use Rattle.std.proofs.Common.{refl, ◌∙◌}
use Rattle.std.proofs.lemmas.Result.{IfOk-weaker}
use Rattle.pb_kind.proofs.KindLemmas.{kind_view-Text}
use Rattle.pb_sig.proofs.table.program_parameters.Goals as goal

pub returns : goal.returns
returns c =
    let cmd = c.must.ensures in
    let chdir = c.may.ensures in
    let creates = c.may-2.ensures in
    let removes = c.may-3.ensures in
    IfOk-weaker c.parameters_of.result _ _
    (λ ps h. h ∙ rw (cmd.name, cmd.presence, cmd.kind, chdir.name, chdir.presence, chdir.kind, creates.name, creates.presence, creates.kind, removes.name, removes.presence, removes.kind, kind_view-Text) refl) c.parameters_of.ensures
