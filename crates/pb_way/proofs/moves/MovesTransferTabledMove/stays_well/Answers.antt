use Rattle.pb_way.proofs.Alongs.{path-well}
use Rattle.pb_way.proofs.moves.MovesTransferTabledMove.stays_well.Goals as goal

pub returns : goal.returns
returns g c = λ m i e less a.
    let st = g.O.Outlook.setting m.outlook.now in
    path-well st (λ t w x p. c.what_is_led_goes_up.ensures.well st t w x (c.views_are_well.ensures m.outlook.now) p) m.route.now i e.exit a
