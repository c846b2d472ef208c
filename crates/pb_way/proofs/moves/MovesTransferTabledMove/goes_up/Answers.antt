use Rattle.pb_way.proofs.Alongs.{path-up}
use Rattle.pb_way.proofs.moves.MovesTransferTabledMove.goes_up.Goals as goal

pub returns : goal.returns
returns g c = λ m i e f less a b h.
    let st = g.O.Outlook.setting m.outlook.now in
    path-up st (λ t w x y p q k. c.what_is_led_goes_up.ensures.up st t w x y (c.views_are_well.ensures m.outlook.now) p q k) m.route.now i e.exit f.exit a b h
