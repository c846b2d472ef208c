-- The sections and the handlers of a play, as they are read one after the other.
use Rattle.std.specs.Prelude.{ℕ, suc, List, map, Bool, cond, Option, Some, None, Result, Ok, codes}
use Rattle.pb_semantics.specs.Data.{Fields, Items, field_value}
use Rattle.pb_language.specs.Book.{Book, HandlerData, PlayData, Registry, Steps}
use Rattle.pb_language.specs.BookForm.{Offence, Reading, and_then, book_read, changed, handlers_of}
use Rattle.pb_language.specs.BookForm.{line_offence, plays_in, unless}
use Rattle.pb_play.specs.Heads.{Head}
use Rattle.pb_play.specs.Parts.{steps_at}
use Rattle.pb_play.specs.Plays.{handler_view, steps_view}
use Rattle.pb_play.specs.declared.read.Sections as code

pub record Sections : Type 0 where
  pub pre_tasks : Steps
  pub tasks : Steps
  pub post_tasks : Steps
  pub handlers : List HandlerData

abbrev pub sections_view : code.Sections → Sections
sections_view s = record {
  pre_tasks = steps_view s.pre_tasks.items;
  tasks = steps_view s.tasks.items;
  post_tasks = steps_view s.post_tasks.items;
  handlers = map handler_view s.handlers.items;
}

abbrev pub sections_with : Steps → Steps → Steps → List HandlerData → Sections
sections_with pre tasks post hs =
    record { pre_tasks = pre; tasks = tasks; post_tasks = post; handlers = hs }

abbrev pub sections_in : Registry → ℕ → Fields → Reading Sections
sections_in ms l fs =
    and_then (steps_at ms 0 l (field_value (codes "pre_tasks") fs)) (λ pre b.
    and_then (steps_at ms 0 b (field_value (codes "tasks") fs)) (λ tasks c.
    and_then (steps_at ms 0 c (field_value (codes "post_tasks") fs)) (λ post d.
    changed (sections_with pre tasks post)
    (handlers_of ms d (field_value (codes "handlers") fs)))))

abbrev pub gathering_at : ℕ → Bool → Reading (Option ℕ)
gathering_at l g = cond g (unless l (line_offence l None) (Ok (Some l, suc l))) (Ok (None, l))

abbrev pub play_with : ℕ → Head → Option ℕ → Sections → PlayData
play_with l h gathering s = record {
  line = l;
  pattern = h.pattern;
  gathering = gathering;
  vars = h.vars;
  is_linear = h.is_linear;
  serial = h.serial;
  pre_tasks = s.pre_tasks;
  tasks = s.tasks;
  post_tasks = s.post_tasks;
  handlers = s.handlers;
  forces = h.forces;
}

-- the plays of a list
abbrev pub plays_from : Registry → Items → Result Book Offence
plays_from ms ds = book_read (plays_in ms 0 1 ds)
