-- The lines of a book, each with what stands round it.
use Rattle.std.specs.Prelude.{ℕ, suc, ◌+◌, ◌*◌, ◌^◌, List, [], ◌∷◌, ◌++◌, cond, Option, Some, None}
use Rattle.std.specs.Prelude.{length}
use Rattle.pb_language.specs.Expression.{Expressions, no_expressions, Parts, no_parts}
use Rattle.pb_language.specs.Book.{TaskData, Steps, no_steps, task_step, block_step, flush_step}
use Rattle.pb_language.specs.Book.{HandlerData, PlayData, Book}
use Rattle.pb_language.specs.Plays.{append_parts, append_expressions, is_given}

-- what stands at a line
pub data Thing : Type 0 where
  a_play : Thing
  a_block : Thing
  a_flush : Thing
  the_gathering : Thing
  a_task : TaskData → Thing
  -- with its number
  a_handler : ℕ → TaskData → Thing

pub record Site : Type 0 where
  pub line : ℕ
  pub thing : Thing
  pub play : PlayData
  -- every condition that is asked there
  pub conditions : Expressions
  -- the values of `vars` that are given at the line, and all that are in scope
  pub vars : Parts
  pub scope : Parts

abbrev pub site : PlayData → Expressions → Parts → ℕ → Thing → Parts → Site
site p cs scope l x vars = record {
  line = l;
  thing = x;
  play = p;
  conditions = cs;
  vars = vars;
  scope = append_parts vars scope;
}

abbrev pub sites_in : PlayData → Expressions → Parts → Steps → List Site
sites_in p cs scope no_steps = []
sites_in p cs scope (task_step t ss) = site p (append_expressions cs t.condition) scope t.line
    (a_task t) t.vars ∷ sites_in p cs scope ss
sites_in p cs scope (flush_step l ss) = site p cs scope l a_flush no_parts ∷ sites_in p cs scope ss
sites_in p cs scope (block_step b x y z ss) =
    site p cs scope b.line a_block b.vars ∷ (
    sites_in p (append_expressions cs b.condition) (append_parts b.vars scope) x
    ++ sites_in p (append_expressions cs b.condition) (append_parts b.vars scope) y
    ++ sites_in p (append_expressions cs b.condition) (append_parts b.vars scope) z
    ++ sites_in p cs scope ss
    )

abbrev pub handler_sites : PlayData → ℕ → List HandlerData → List Site
handler_sites p i [] = []
handler_sites p i (h ∷ hs) = site p h.work.condition p.vars h.work.line (a_handler i h.work)
    h.work.vars ∷ handler_sites p (suc i) hs

abbrev pub gathering_sites : PlayData → Option ℕ → List Site
gathering_sites p None = []
gathering_sites p (Some l) = site p no_expressions p.vars l the_gathering no_parts ∷ []

abbrev pub play_sites : PlayData → List Site
play_sites p =
    site p no_expressions no_parts p.line a_play p.vars
    ∷ (gathering_sites p p.gathering ++ sites_in p no_expressions p.vars p.pre_tasks
    ++ sites_in p no_expressions p.vars p.tasks ++ sites_in p no_expressions p.vars p.post_tasks
    ++ handler_sites p 0 p.handlers)

-- every line of the book
abbrev pub sites_of : Book → List Site
sites_of [] = []
sites_of (p ∷ ps) = play_sites p ++ sites_of ps

-- a task counts 2 to the number of `always` parts it stands in, and so does each handler of a flush
abbrev pub steps_in : ℕ → ℕ → Steps → ℕ
steps_in hs n no_steps = 0
steps_in hs n (task_step t ss) = 2 ^ n + steps_in hs n ss
steps_in hs n (flush_step l ss) = 2 ^ n * hs + steps_in hs n ss
steps_in hs n (block_step b x y z ss) =
    steps_in hs n x + (steps_in hs n y + (steps_in hs (suc n) z + steps_in hs n ss))

-- a flush that is forced counts twice
abbrev pub section_steps : ℕ → ℕ → Steps → ℕ
section_steps hs modes ss = cond (is_given ss) (steps_in hs 0 ss + modes * hs) 0

abbrev pub gathering_steps : Option ℕ → ℕ
gathering_steps None = 0
gathering_steps (Some l) = 1

abbrev pub sections_steps : ℕ → ℕ → PlayData → ℕ
sections_steps hs modes p = section_steps hs modes p.pre_tasks
    + (section_steps hs modes p.tasks + section_steps hs modes p.post_tasks)

abbrev pub steps_of : PlayData → ℕ
steps_of p =
    gathering_steps p.gathering + sections_steps (length p.handlers) (cond p.forces 2 1) p
