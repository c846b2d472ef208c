-- Unwinding walks the tree of ways.
use Rattle.std.proofs.Common.{◌≡◌, [], ◌∷◌, true, false, refl}
use Rattle.pb_language.specs.Task.{end, task, flush, section, block}
use Rattle.pb_language.specs.Unwinding.{block_part, rescue_part, always_part, failed_always_part, section_part, failed_section_part, Place, before, failing, unwound, ways_at, with_text, UnwindingWalks}

unwinds : (x : Place) → ways_at x ≡ with_text x (ways_at (unwound x))
unwinds (before (block d body saves rescued always row) ps) = refl
unwinds (before end []) = refl
unwinds (before end (block_part d saves rescued always row ∷ ps)) = refl
unwinds (before end (rescue_part always row ∷ ps)) = refl
unwinds (before end (always_part row ∷ ps)) = refl
unwinds (before end (failed_always_part ∷ ps)) = refl
unwinds (before (task t row) ps) = refl
unwinds (before (flush hs row) ps) = refl
unwinds (before (section body hs row) ps) = refl
unwinds (before end (section_part hs row ∷ ps)) = refl
unwinds (before end (failed_section_part ∷ ps)) = refl
unwinds (failing (section_part hs row ∷ ps)) = refl
unwinds (failing (failed_section_part ∷ ps)) = refl
unwinds (failing []) = refl
unwinds (failing (block_part d true rescued always row ∷ ps)) = refl
unwinds (failing (block_part d false rescued always row ∷ ps)) = refl
unwinds (failing (rescue_part always row ∷ ps)) = refl
unwinds (failing (always_part row ∷ ps)) = refl
unwinds (failing (failed_always_part ∷ ps)) = refl

pub unwinding_walks : UnwindingWalks
unwinding_walks = (unwinds, λ t row ps. refl)
