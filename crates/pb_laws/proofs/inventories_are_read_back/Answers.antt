use Rattle.pb_laws.proofs.Inventories.{inventories_are_read_back}
use Rattle.pb_laws.proofs.inventories_are_read_back.Goals as goal

pub returns : goal.returns
returns c = inventories_are_read_back c.documents_are_read_back.ensures
