-- Where a task stands.
use Rattle.pb_language.specs.Keywords as language
use Rattle.pb_language.specs.Keywords.{at_top, in_block, as_handler}
use Rattle.pb_task.specs.declared.keyword.Standing.{Standing}
use Rattle.pb_task.specs.declared.keyword.Standing.TheVariants.{AtTop, InBlock, AsHandler}

abbrev pub standing_view : Standing → language.Standing
standing_view AtTop = at_top
standing_view InBlock = in_block
standing_view AsHandler = as_handler
