use Rattle.std.proofs.Common.{◌∙◌, Ok, ap, sym, subst}
use Rattle.pb_semantics.specs.Gives.{Gives}
use Rattle.pb_language.specs.BookForm.{play_in}
use Rattle.pb_sig.specs.Modules.{modules_of}
use Rattle.pb_value.proofs.Views.{view-fields}
use Rattle.pb_play.specs.Faults.{offence_of}
use Rattle.pb_play.specs.Plays.{play_view}
use Rattle.pb_play.specs.declared.play.Play.{Play}
use Rattle.pb_play.proofs.read.play_in.Goals as goal

pub returns-in-Rec-clause-given : goal.returns-in-Rec-clause-given
returns-in-Rec-clause-given c =
    let known = view-fields c.args.item.now c.in-Rec.fields c.deref-in-Rec.result.now c.in-Rec.is (c.deref-in-Rec.ensures ∙ ap (λ w. w.parts) c.deref.ensures) in
    subst (λ d. Gives (λ (r : Play × _). Ok (play_view r.0, r.1)) offence_of c.play_of.result (play_in (modules_of c.args.registry.now) c.args.earlier c.args.line d)) (sym known) c.play_of.ensures.given
