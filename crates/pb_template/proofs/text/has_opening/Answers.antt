use Rattle.std.proofs.Common.{◌∙◌, List, ℕ, ap, slice_range, sym}
use Rattle.pb_language.specs.Inventories.{has_opening}
use Rattle.pb_template.proofs.Plain.{cut-there, is_cut, opens-found}
use Rattle.pb_template.proofs.text.has_opening.Goals as goal

pub returns : goal.returns
returns c =
    let bytes = c.as_bytes-bytes.result.now in
    sym (cut-there (slice_range bytes 0 c.opening_of.result) bytes c.opening_of.result) ∙ ap is_cut (sym c.opening_of.ensures.found) ∙ opens-found bytes ∙ ap (λ (bs : List ℕ). has_opening bs) c.as_bytes-bytes.ensures.value
