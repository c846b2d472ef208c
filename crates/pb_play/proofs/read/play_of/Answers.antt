use Rattle.std.proofs.Common.{◌∙◌, ap, sym, add-one}
use Rattle.pb_sig.specs.Modules.{modules_of}
use Rattle.pb_value.specs.View.{fields_view}
use Rattle.pb_play.specs.Heads.{play_head_view}
use Rattle.pb_play.specs.Plays.{play_view}
use Rattle.pb_play.specs.Sections.{gathering_at, sections_view}
use Rattle.pb_play.specs.declared.play.Play.{Play}
use Rattle.pb_play.proofs.Plays.{gathering-refused, play-read, play-refused, sections-refused}
use Rattle.pb_play.proofs.Refusals.{passed-on}
use Rattle.pb_play.proofs.read.play_of.Goals as goal

pub returns-in_err-head-clause-given : goal.returns-in_err-head-clause-given
returns-in_err-head-clause-given c =
    passed-on (λ (r : Play × _). (play_view r.0, r.1)) c.from_residual.result c.in_err-head.field-0.0 _ _ c.from_residual.ensures.1 c.in_err-head.ensures.given
    (λ o h. play-refused (modules_of c.args.registry.now) c.args.earlier c.args.line (fields_view c.args.fields.now.entries) o h)

pub returns-in_err-gathering-clause-given : goal.returns-in_err-gathering-clause-given
returns-in_err-gathering-clause-given c =
    let behind = ap (λ n. gathering_at n c.in_ok-head.head.gathers) (sym (add-one c.args.line)) in
    passed-on (λ (r : Play × _). (play_view r.0, r.1)) c.from_residual-in_err-gathering.result c.in_err-gathering.field-0.0 _ _ c.from_residual-in_err-gathering.ensures.1 c.in_err-gathering.ensures
    (λ o h. gathering-refused (modules_of c.args.registry.now) c.args.earlier c.args.line (fields_view c.args.fields.now.entries) (play_head_view c.in_ok-head.head) o c.in_ok-head.ensures.given (behind ∙ h))

pub returns-in_err-sections-clause-given : goal.returns-in_err-sections-clause-given
returns-in_err-sections-clause-given c =
    let behind = ap (λ n. gathering_at n c.in_ok-head.head.gathers) (sym (add-one c.args.line)) in
    passed-on (λ (r : Play × _). (play_view r.0, r.1)) c.from_residual-in_err-sections.result c.in_err-sections.field-0.0 _ _ c.from_residual-in_err-sections.ensures.1 c.in_err-sections.ensures.given
    (λ o h. sections-refused (modules_of c.args.registry.now) c.args.earlier c.args.line c.in_ok-gathering.first (fields_view c.args.fields.now.entries) (play_head_view c.in_ok-head.head) c.in_ok-gathering.gathering o c.in_ok-head.ensures.given
    (behind ∙ c.in_ok-gathering.ensures) h)

pub returns-clause-given : goal.returns-clause-given
returns-clause-given c =
    let behind = ap (λ n. gathering_at n c.in_ok-head.head.gathers) (sym (add-one c.args.line)) in
    let read = play-read (modules_of c.args.registry.now) c.args.earlier c.args.line c.in_ok-gathering.first c.in_ok-sections.next (fields_view c.args.fields.now.entries) (play_head_view c.in_ok-head.head) c.in_ok-gathering.gathering
    (sections_view c.in_ok-sections.sections) c.in_ok-head.ensures.given (behind ∙ c.in_ok-gathering.ensures) c.in_ok-sections.ensures.given in
    rw c.play_with.ensures.given read
