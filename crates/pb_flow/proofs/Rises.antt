-- Edges lead to higher nodes, and stand in the order of their sources.
use Rattle.std.proofs.Common.{◌≡◌, ◌≤◌, ◌<◌, ℕ, suc, ◌+◌, List, [], ◌∷◌, ◌++◌, Bool, true, false, Option, Some, None, refl, arith}
use Rattle.pb_language.specs.Links.{Link, Way, goes, fails, passes, entry, flush_entry, flush_links, handler_places, link_to, links, saved_entry, size}
use Rattle.pb_language.specs.Task.{Task, Handlers, no_handlers, handler, Row, end, task, flush, section, block}
use Rattle.pb_flow.specs.Flow.{AreRising, end_node, row_links}

-- the edges rise, and their sources are from the first number to the second
abbrev Rise : ℕ → ℕ → ℕ → List Link → Type 0
Rise lo hi last [] = lo ≤ hi
Rise lo hi last (l ∷ ls) = (lo ≤ l.source) × (l.source < l.target) × (l.target ≤ last) × Rise l.source hi last ls

-- a node within those bounds, where there is one
abbrev pub Within : ℕ → ℕ → Option ℕ → Type 0
Within lo last None = Unit {0}
Within lo last (Some n) = (lo ≤ n) × (n ≤ last)

within-more : (lo mid last : ℕ) (n : Option ℕ) → mid ≤ lo → Within lo last n → Within mid last n
within-more lo mid last None le w = tt
within-more lo mid last (Some n) le w = (omega arith, w.1)

rise-from : (lo mid hi last : ℕ) (ls : List Link) → lo ≤ mid → Rise mid hi last ls → Rise lo hi last ls
rise-from lo mid hi last [] le r = omega arith
rise-from lo mid hi last (l ∷ ls) le r = (omega arith, r.1, r.2, r.3)

rise-on : (lo mid hi last : ℕ) (xs ys : List Link) → Rise lo mid last xs → Rise mid hi last ys → Rise lo hi last (xs ++ ys)
rise-on lo mid hi last [] ys r s = rise-from lo mid hi last ys r s
rise-on lo mid hi last (x ∷ xs) ys r s = (r.0, r.1, r.2, rise-on x.source mid hi last xs ys r.3 s)

link-rises : (o last : ℕ) (t : Task) (way : Way) (n : Option ℕ) → Within (suc o) last n → Rise o o last (link_to o t way n)
link-rises o last t way None w = omega arith
link-rises o last t way (Some n) w = (omega arith, omega arith, w.1, omega arith)

flush-within : (hs : Handlers) (o last : ℕ) (after : Option ℕ) → o + handler_places hs ≤ last → Within (o + handler_places hs) last after → Within o last (flush_entry hs o after)
flush-within no_handlers o last after le w = within-more _ o last after (omega arith) w
flush-within (handler n t hs) o last after le w = (omega arith, omega arith)

pub row-within : (row : Row) (o last : ℕ) (after : Option ℕ) → o + size row ≤ last → Within (o + size row) last after → Within o last (entry row o after)
row-within end o last after le w = within-more _ o last after (omega arith) w
row-within (task t row) o last after le w = (omega arith, omega arith)
row-within (flush hs row) o last after le w =
    let n = o + handler_places hs in
    flush-within hs o last (entry row n after) (omega arith) (row-within row n last after (omega arith) (within-more _ _ last after (omega arith) w))
row-within (section body hs row) o last after le w =
    let a = o + size body in
    let f = a + handler_places hs in
    let n = f + handler_places hs in
    let next = entry row n after in
    row-within body o last (flush_entry hs a next) (omega arith)
    (flush-within hs a last next (omega arith) (within-more n _ last next (omega arith) (row-within row n last after (omega arith) (within-more _ _ last after (omega arith) w))))
row-within (block d body saves rescued always row) o last after le w =
    let r = o + size body in
    let a = r + size rescued in
    let n = a + size always + size always in
    let next = entry row n after in
    row-within body o last (entry always a next) (omega arith)
    (within-more a _ last (entry always a next) (omega arith) (row-within always a last next (omega arith) (within-more n _ last next (omega arith) (row-within row n last after (omega arith) (within-more _ _ last after (omega arith) w)))))

flush-rises : (hs : Handlers) (o hi last : ℕ) (after : Option ℕ) → o + handler_places hs ≡ hi → hi ≤ last → Within hi last after → Rise o hi last (flush_links hs o after)
flush-rises no_handlers o hi last after e le w = omega arith
flush-rises (handler n t hs) o hi last after e le w =
    let next = flush_entry hs (suc o) after in
    let into : Within (suc o) last next = flush-within hs (suc o) last after (omega arith) (within-more _ _ last after (omega arith) w) in
    rise-on o o hi last (link_to o t passes next) _ (link-rises o last t passes next into)
    (rise-on o o hi last (link_to o t goes next) _ (link-rises o last t goes next into)
    (rise-from o (suc o) hi last _ (omega arith) (flush-rises hs (suc o) hi last after (omega arith) le w)))

saved-within : (saves : Bool) (lo last : ℕ) (x y : Option ℕ) → Within lo last x → Within lo last y → Within lo last (saved_entry saves x y)
saved-within true lo last x y v w = v
saved-within false lo last x y v w = w

pub row-rises : (row : Row) (o hi last : ℕ) (after hurt : Option ℕ) → o + size row ≡ hi → hi ≤ last → Within hi last after → Within hi last hurt → Rise o hi last (links row o after hurt)
row-rises end o hi last after hurt e le v w = omega arith
row-rises (task t row) o hi last after hurt e le v w =
    let next = entry row (suc o) after in
    rise-on o o hi last (link_to o t goes next) _ (link-rises o last t goes next (row-within row (suc o) last after (omega arith) (within-more _ _ last after (omega arith) v)))
    (rise-on o o hi last (link_to o t fails hurt) _ (link-rises o last t fails hurt (within-more _ _ last hurt (omega arith) w))
    (rise-from o (suc o) hi last _ (omega arith) (row-rises row (suc o) hi last after hurt (omega arith) le v w)))
row-rises (flush hs row) o hi last after hurt e le v w =
    let n = o + handler_places hs in
    rise-on o n hi last (flush_links hs o (entry row n after)) _
    (flush-rises hs o n last (entry row n after) refl (omega arith) (row-within row n last after (omega arith) (within-more _ _ last after (omega arith) v)))
    (row-rises row n hi last after hurt (omega arith) le v w)
row-rises (section body hs row) o hi last after hurt e le v w =
    let a = o + size body in
    let f = a + handler_places hs in
    let n = f + handler_places hs in
    let next = entry row n after in
    let on : Within n last next = row-within row n last after (omega arith) (within-more _ _ last after (omega arith) v) in
    rise-on o a hi last (links body o (flush_entry hs a next) (flush_entry hs f None)) _
    (row-rises body o a last (flush_entry hs a next) (flush_entry hs f None) refl (omega arith)
    (flush-within hs a last next (omega arith) (within-more n _ last next (omega arith) on))
    (within-more f _ last _ (omega arith) (flush-within hs f last None (omega arith) tt)))
    (rise-on a f hi last (flush_links hs a next) _ (flush-rises hs a f last next refl (omega arith) (within-more n _ last next (omega arith) on))
    (rise-on f n hi last (flush_links hs f None) _ (flush-rises hs f n last None refl (omega arith) tt)
    (row-rises row n hi last after hurt (omega arith) le v w)))
row-rises (block d body saves rescued always row) o hi last after hurt e le v w =
    let r = o + size body in
    let a = r + size rescued in
    let f = a + size always in
    let n = f + size always in
    let next = entry row n after in
    let well = entry always a next in
    let hurts = entry always f hurt in
    let on : Within n last next = row-within row n last after (omega arith) (within-more _ _ last after (omega arith) v) in
    let on_well : Within a last well = row-within always a last next (omega arith) (within-more n _ last next (omega arith) on) in
    let out : Within f last hurts = row-within always f last hurt (omega arith) (within-more hi _ last hurt (omega arith) w) in
    let in_rescue : Within r last (entry rescued r well) = row-within rescued r last well (omega arith) on_well in
    rise-on o r hi last (links body o well (saved_entry saves (entry rescued r well) hurts)) _
    (row-rises body o r last well (saved_entry saves (entry rescued r well) hurts) refl (omega arith) (within-more a r last well (omega arith) on_well)
    (saved-within saves r last (entry rescued r well) hurts in_rescue (within-more f r last hurts (omega arith) out)))
    (rise-on r a hi last (links rescued r well hurts) _ (row-rises rescued r a last well hurts refl (omega arith) on_well (within-more f a last hurts (omega arith) out))
    (rise-on a f hi last (links always a next hurt) _ (row-rises always a f last next hurt refl (omega arith) (within-more n f last next (omega arith) on) (within-more hi f last hurt (omega arith) w))
    (rise-on f n hi last (links always f hurt hurt) _ (row-rises always f n last hurt hurt refl (omega arith) (within-more hi n last hurt (omega arith) w) (within-more hi n last hurt (omega arith) w))
    (row-rises row n hi last after hurt (omega arith) le v w))))

rising : (lo hi last : ℕ) (ls : List Link) → Rise lo hi last ls → AreRising lo last ls
rising lo hi last [] r = tt
rising lo hi last (l ∷ ls) r = (r.0, r.1, r.2, rising l.source hi last ls r.3)

pub links-rise : (row : Row) → AreRising 1 (end_node row) (row_links row)
links-rise row =
    let last = end_node row in
    rising 1 last last (row_links row) (row-rises row 1 last last (Some last) None (omega arith) (omega arith) (omega arith, omega arith) tt)
