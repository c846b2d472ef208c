use Rattle.pb_inventory.proofs.WordBytes.{word-trimmed}
use Rattle.pb_inventory.proofs.pattern.word_in.Goals as goal

pub returns : goal.returns
returns c = word-trimmed c.args.text.now c.without_last_blanks.result.now c.without_first_blanks.result.now c.without_last_blanks.ensures c.without_first_blanks.ensures
