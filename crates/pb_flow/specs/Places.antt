-- The places of a section with its flush, and those of a play.
use Rattle.std.specs.Prelude.{ℕ, ◌+◌, length, cond}
use Rattle.pb_language.specs.Book.{PlayData, Steps}
use Rattle.pb_language.specs.Plays.{is_given, places_in}
use Rattle.pb_language.specs.Sites.{gathering_steps}

abbrev pub section_places : ℕ → Steps → ℕ
section_places hs ss = cond (is_given ss) (places_in hs ss + hs) 0

abbrev pub sections_places : ℕ → PlayData → ℕ
sections_places hs p = section_places hs p.pre_tasks
    + (section_places hs p.tasks + section_places hs p.post_tasks)

abbrev pub play_places : PlayData → ℕ
play_places p = gathering_steps p.gathering + sections_places (length p.handlers) p
