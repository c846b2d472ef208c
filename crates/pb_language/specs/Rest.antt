-- What a host still has to do: the ways through a row (Ansible's pages on blocks and on handlers).
use Rattle.std.specs.Prelude.{ℕ, suc, Bool, cond}
use Rattle.pb_language.specs.Task.{Task, Handlers, no_handlers, handler, Row, end, task, flush}
use Rattle.pb_language.specs.Task.{section, block}

pub data Rest : Type 0 where
  -- the play is over
  done : Rest
  -- the host leaves as failed
  left : Rest
  -- a task, and the ways on where it goes on and where it fails
  next : Task → Rest → Rest → Rest
  -- the ways on where the handler is notified and where it isn't
  ask : ℕ → Rest → Rest → Rest
  -- the text of the failure is kept for the `rescue` part that begins, of which so many are open
  rescue : ℕ → Rest → Rest
  -- it is kept while an `always` part runs after a failure, of which so many are open
  hold : ℕ → Rest → Rest
  -- the failure that was held goes outwards
  release : ℕ → Rest → Rest

-- a host whose handler fails leaves at once
abbrev pub handler_rest : ℕ → Task → Rest → Rest
handler_rest n t well = ask n (next t well left) well

abbrev pub flush_rest : Handlers → Rest → Rest
flush_rest no_handlers well = well
flush_rest (handler n t hs) well = handler_rest n t (flush_rest hs well)

-- a failure in the body enters the rescue, where there is one
abbrev pub saved_rest : ℕ → Bool → (Rest → Rest → Rest) → Rest → Rest → Rest
saved_rest d saves rescued well hurt = cond saves (rescue d (rescued well hurt)) hurt

-- a body and its rescue, from where the always begins in each mode
abbrev pub block_rest : ℕ → (Rest → Rest → Rest) → Bool → (Rest → Rest → Rest) → Rest → Rest → Rest
block_rest d body saves rescued well hurt = body well (saved_rest d saves rescued well hurt)

-- the ways through a row, from where they go on when it is well and when it failed; the number
-- counts the `always` parts round it that run after a failure. A failure in a block enters its
-- rescue; without one the always, and goes outwards. A rescue that completes clears the failure.
-- The always runs in the end, whatever happened. A failure in a section that forces its handlers
-- goes to the flush at its end, and then the host leaves.
abbrev pub rest_of : Row → ℕ → Rest → Rest → Rest
rest_of end m well hurt = well
rest_of (task t row) m well hurt = next t (rest_of row m well hurt) hurt
rest_of (flush hs row) m well hurt = flush_rest hs (rest_of row m well hurt)
rest_of (section body hs row) m well hurt =
    rest_of body m (flush_rest hs (rest_of row m well hurt)) (flush_rest hs left)
rest_of (block d body saves rescued always row) m well hurt =
    block_rest d (rest_of body m) saves (rest_of rescued m)
    (rest_of always m (rest_of row m well hurt) hurt)
    (hold m (rest_of always (suc m) (release m hurt) hurt))
