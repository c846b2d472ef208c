use Rattle.std.proofs.Common.{◌∙◌, Ok, map, ap, sym, subst}
use Rattle.pb_semantics.specs.Gives.{Gives}
use Rattle.pb_sig.specs.Modules.{modules_of}
use Rattle.pb_value.proofs.Views.{view-fields}
use Rattle.pb_play.specs.Faults.{offence_of}
use Rattle.pb_play.specs.Handlers.{handler_read}
use Rattle.pb_play.specs.Plays.{handler_view}
use Rattle.pb_play.proofs.handler.handler_in.Goals as goal

pub returns-in-Rec-clause-given : goal.returns-in-Rec-clause-given
returns-in-Rec-clause-given c =
    let known = view-fields c.args.item.now c.in-Rec.fields c.deref-in-Rec.result.now c.in-Rec.is (c.deref-in-Rec.ensures ∙ ap (λ w. w.parts) c.deref.ensures) in
    subst (λ d. Gives (λ h. Ok (handler_view h)) offence_of c.handler_of.result (handler_read (modules_of c.args.registry.now) c.args.line (map handler_view c.args.earlier.now) d)) (sym known) c.handler_of.ensures.given
