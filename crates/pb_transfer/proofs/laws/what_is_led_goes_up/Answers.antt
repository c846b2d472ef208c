use Rattle.pb_transfer.proofs.Led.{led_up, led_well}
use Rattle.pb_transfer.proofs.laws.what_is_led_goes_up.Goals as goal

pub returns-clause-up : goal.returns-clause-up
returns-clause-up c = led_up

pub returns-clause-well : goal.returns-clause-well
returns-clause-well c = led_well
