-- The lines of a book: each play, its task that gathers facts, then the blocks and tasks of its
-- sections and its handlers, counted as they run.
use Rattle.std.specs.Prelude.{ℕ, suc, List, [], ◌∷◌, Bool, true, false, ◌&&◌, ◌==◌, nat_le, cond}
use Rattle.std.specs.Prelude.{Option, Some, None}
use Rattle.pb_language.specs.Book.{Book, HandlerData, PlayData, Steps, no_steps, task_step}
use Rattle.pb_language.specs.Book.{block_step, flush_step}
use Rattle.pb_language.specs.BookForm.{most_lines}

-- the line behind a line that is the next and within the limit; none where it isn't
abbrev pub counted : ℕ → ℕ → Option ℕ
counted l m = cond ((m == l) && nat_le l most_lines) (Some (suc l)) None

abbrev pub then_lines : Option ℕ → (ℕ → Option ℕ) → Option ℕ
then_lines None f = None
then_lines (Some l) f = f l

-- the line behind steps that are counted from that line on
abbrev pub behind_steps : ℕ → Steps → Option ℕ
behind_steps l no_steps = Some l
behind_steps l (task_step t ss) = then_lines (counted l t.line) (λ m. behind_steps m ss)
behind_steps l (flush_step n ss) = then_lines (counted l n) (λ m. behind_steps m ss)
behind_steps l (block_step b body rescue always ss) = then_lines (counted l b.line)
    (λ m. then_lines (behind_steps m body) (λ n. then_lines (behind_steps n rescue)
    (λ o. then_lines (behind_steps o always) (λ p. behind_steps p ss))))

abbrev pub behind_handlers : ℕ → List HandlerData → Option ℕ
behind_handlers l [] = Some l
behind_handlers l (h ∷ hs) = then_lines (counted l h.work.line) (λ m. behind_handlers m hs)

abbrev pub behind_gathering : ℕ → Option ℕ → Option ℕ
behind_gathering l None = Some l
behind_gathering l (Some m) = counted l m

abbrev pub behind_play : ℕ → PlayData → Option ℕ
behind_play l p = then_lines (counted l p.line) (λ a. then_lines (behind_gathering a p.gathering)
    (λ b. then_lines (behind_steps b p.pre_tasks) (λ c. then_lines (behind_steps c p.tasks)
    (λ d. then_lines (behind_steps d p.post_tasks) (λ e. behind_handlers e p.handlers)))))

abbrev pub behind_plays : ℕ → Book → Option ℕ
behind_plays l [] = Some l
behind_plays l (p ∷ ps) = then_lines (behind_play l p) (λ m. behind_plays m ps)

abbrev pub is_there : Option ℕ → Bool
is_there None = false
is_there (Some l) = true

-- the lines of the book are counted from 1
abbrev pub is_counted : Book → Bool
is_counted ps = is_there (behind_plays 1 ps)
