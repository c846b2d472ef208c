use Rattle.std.proofs.Common.{◌∙◌, sym}
use Rattle.pb_play.proofs.Cuts.{cut-list}
use Rattle.pb_play.proofs.serial.is_cut_list.Goals as goal

pub returns-then-not-is_empty : goal.returns-then-not-is_empty
returns-then-not-is_empty c = c.are_cuts.ensures ∙ sym (cut-list c.args.items.now (sym c.is_empty.ensures ∙ c.if-not-is_empty.true))
