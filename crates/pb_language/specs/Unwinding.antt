-- What a host still has to do as a row and the blocks that are open round it, and how blocks unwind
-- (Ansible's page on blocks).
use Rattle.std.specs.Prelude.{◌≡◌, ℕ, suc, List, [], ◌∷◌, Bool, true, false}
use Rattle.pb_language.specs.Rest.{Rest, done, left, next, rescue, hold, release, flush_rest}
use Rattle.pb_language.specs.Rest.{saved_rest, rest_of}
use Rattle.pb_language.specs.Task.{Task, Handlers, Row, end, task, flush, section, block}

-- an open block, by the part of it that runs, or an open section: with what is still to come of it,
-- and the row after it
pub data Part : Type 0 where
  block_part : ℕ → Bool → Row → Row → Row → Part
  rescue_part : Row → Row → Part
  always_part : Row → Part
  -- after a failure, which goes outwards when the part is done
  failed_always_part : Part
  -- a section that forces its handlers, and its flush after a failure, after which the host leaves
  section_part : Handlers → Row → Part
  failed_section_part : Part

-- a host before a row, or with a failure, inside its open blocks
pub data Place : Type 0 where
  before : Row → List Part → Place
  failing : List Part → Place

-- 1. a block begins with its body. 2. A body or a rescue that ends well is followed by the always,
-- and that by what comes after the block: a rescue that completes clears the failure. 3. A failure
-- in a body enters the rescue, where there is one. 4. Without one, and after a failure in the
-- rescue, the always runs, and then the failure goes outwards. 5. A failure in an always goes
-- outwards. A section that forces its handlers ends with its flush, and a failure in it enters that
-- flush too; then the host leaves.
abbrev pub unwound : Place → Place
unwound (before (block d body saves rescued always row) ps) =
    before body (block_part d saves rescued always row ∷ ps)
unwound (before (section body hs row) ps) = before body (section_part hs row ∷ ps)
unwound (before end (block_part d saves rescued always row ∷ ps)) =
    before always (always_part row ∷ ps)
unwound (before end (rescue_part always row ∷ ps)) = before always (always_part row ∷ ps)
unwound (before end (always_part row ∷ ps)) = before row ps
unwound (before end (failed_always_part ∷ ps)) = failing ps
unwound (before end (section_part hs row ∷ ps)) = before (flush hs row) ps
unwound (before end (failed_section_part ∷ ps)) = failing []
unwound (failing (block_part d true rescued always row ∷ ps)) =
    before rescued (rescue_part always row ∷ ps)
unwound (failing (block_part d false rescued always row ∷ ps)) =
    before always (failed_always_part ∷ ps)
unwound (failing (rescue_part always row ∷ ps)) = before always (failed_always_part ∷ ps)
unwound (failing (always_part row ∷ ps)) = failing ps
unwound (failing (failed_always_part ∷ ps)) = failing ps
unwound (failing (section_part hs row ∷ ps)) = before (flush hs end) (failed_section_part ∷ ps)
unwound (failing (failed_section_part ∷ ps)) = failing []
unwound x = x

-- how many failures are held by open `always` parts
abbrev pub held : List Part → ℕ
held [] = 0
held (failed_always_part ∷ ps) = suc (held ps)
held (p ∷ ps) = held ps

abbrev mutual
  -- the ways on from the open blocks when a row in them is done
  pub well_from : List Part → Rest
  well_from [] = done
  well_from (block_part d saves rescued always row ∷ ps) =
      rest_of always (held ps) (rest_of row (held ps) (well_from ps) (hurt_from ps)) (hurt_from ps)
  well_from (rescue_part always row ∷ ps) =
      rest_of always (held ps) (rest_of row (held ps) (well_from ps) (hurt_from ps)) (hurt_from ps)
  well_from (always_part row ∷ ps) = rest_of row (held ps) (well_from ps) (hurt_from ps)
  well_from (failed_always_part ∷ ps) = release (held ps) (hurt_from ps)
  well_from (section_part hs row ∷ ps) =
      flush_rest hs (rest_of row (held ps) (well_from ps) (hurt_from ps))
  well_from (failed_section_part ∷ ps) = left

  -- and when a task in them failed
  pub hurt_from : List Part → Rest
  hurt_from [] = left
  hurt_from (block_part d saves rescued always row ∷ ps) =
      saved_rest d saves (rest_of rescued (held ps))
      (rest_of always (held ps) (rest_of row (held ps) (well_from ps) (hurt_from ps))
      (hurt_from ps))
      (hold (held ps) (rest_of always (suc (held ps)) (release (held ps) (hurt_from ps))
      (hurt_from ps)))
  hurt_from (rescue_part always row ∷ ps) = hold (held ps)
      (rest_of always (suc (held ps)) (release (held ps) (hurt_from ps)) (hurt_from ps))
  hurt_from (always_part row ∷ ps) = hurt_from ps
  hurt_from (failed_always_part ∷ ps) = hurt_from ps
  hurt_from (section_part hs row ∷ ps) = flush_rest hs left
  hurt_from (failed_section_part ∷ ps) = left

-- the ways of a host at a place
abbrev pub ways_at : Place → Rest
ways_at (before row ps) = rest_of row (held ps) (well_from ps) (hurt_from ps)
ways_at (failing ps) = hurt_from ps

-- what happens to the failure's text as a block unwinds
abbrev pub with_text : Place → Rest → Rest
with_text (before end (failed_always_part ∷ ps)) r = release (held ps) r
with_text (failing (block_part d true rescued always row ∷ ps)) r = rescue d r
with_text (failing (block_part d false rescued always row ∷ ps)) r = hold (held ps) r
with_text (failing (rescue_part always row ∷ ps)) r = hold (held ps) r
with_text x r = r

-- unwinding walks the tree of ways, and a task's two ways on are those of the row after it and of
-- its failure
abbrev pub UnwindingWalks : Type 0
UnwindingWalks = ((x : Place) → ways_at x ≡ with_text x (ways_at (unwound x)))
    × ((t : Task) (row : Row) (ps : List Part)
    → ways_at (before (task t row) ps) ≡ next t (ways_at (before row ps)) (ways_at (failing ps)))
