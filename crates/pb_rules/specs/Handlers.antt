-- What handlers are named by.
use Rattle.std.specs.Prelude.{List, map, Option, option_map, string_bytes}
use Rattle.pb_language.specs.Expression.{Name}
use Rattle.pb_language.specs.Notify.{HandlerNames}
use Rattle.pb_language.specs.Plays.{names_of_handlers}
use Rattle.pb_play.specs.Plays.{handler_view}
use Rattle.pb_play.specs.declared.play.Handler.{Handler}
use Rattle.pb_task.specs.Tasks.{names_view}

abbrev pub handler_name : Handler → Option Name
handler_name h = option_map (λ n. string_bytes n.value) h.name

abbrev pub names_of : Handler → HandlerNames
names_of h = record { name = handler_name h; topics = names_view h.topics.items }

abbrev pub handlers_names : List Handler → List HandlerNames
handlers_names hs = names_of_handlers (map handler_view hs)
