-- A least assignment of numbers that covers is the walk's.
use Rattle.std.proofs.Common.{◌≡◌, ℕ, suc, ◌+◌, nat_lt, Some, None, Bool, true, false, cond, sym, subst, arith}
use Rattle.pb_language.specs.Task.{Handlers, no_handlers, handler, Row, end, task, flush, section, block}
use Rattle.pb_language.specs.Setting.{Setting}
use Rattle.pb_language.specs.Judgement.{Exit}
use Rattle.pb_language.specs.Walk.{walk}
use Rattle.pb_language.specs.Ordered.{ExitLe}
use Rattle.pb_language.specs.Wells.{WellViews, WellExit}
use Rattle.pb_language.specs.Nodes.{FlushValues, Values, FlushLe, ValuesLe, WellFlush, WellValues, values, CoversPlay}
use Rattle.pb_language.specs.Links.{handler_places, size, entry, links, flush_at, values_at, flush_numbers, numbered, LinksHold, Into}
use Rattle.pb_language.proofs.Walks.{covers_play, least_play, walk_well, values_well}
use Rattle.pb_language.proofs.Numbers.{numbers_cover, trees_cover}
use Rattle.pb_language.proofs.Numbered.{less, more, read_row}

either_well : (q : Bool) (x y : Exit) → WellExit x → WellExit y → WellExit (cond q x y)
either_well true x y w v = w
either_well false x y w v = v

flush_well : (hs : Handlers) (vs : FlushValues hs) (o i : ℕ) → WellFlush hs vs → WellExit (flush_numbers hs vs o i)
flush_well no_handlers vs o i w = tt
flush_well (handler n t hs) vs o i w = either_well (nat_lt i (suc o)) vs.0 (flush_numbers hs vs.1 (suc o) i) w.0 (flush_well hs vs.1 (suc o) i w.1)

numbered_well : (row : Row) (vs : Values row) (o i : ℕ) → WellValues row vs → WellExit (numbered row vs o i)
numbered_well end vs o i w = tt
numbered_well (task t row) vs o i w = either_well (nat_lt i (suc o)) vs.0 (numbered row vs.1 (suc o) i) w.0 (numbered_well row vs.1 (suc o) i w.1)
numbered_well (flush hs row) vs o i w =
    either_well (nat_lt i (o + handler_places hs)) (flush_numbers hs vs.0 o i) (numbered row vs.1 (o + handler_places hs) i) (flush_well hs vs.0 o i w.0) (numbered_well row vs.1 (o + handler_places hs) i w.1)
numbered_well (section body hs row) vs o i w =
    either_well (nat_lt i (o + size body)) _ _ (numbered_well body vs.0 o i w.0)
    (either_well (nat_lt i (o + size body + handler_places hs)) _ _ (flush_well hs vs.1 (o + size body) i w.1)
    (either_well (nat_lt i (o + size body + handler_places hs + handler_places hs)) _ _ (flush_well hs vs.2 (o + size body + handler_places hs) i w.2)
    (numbered_well row vs.3 (o + size body + handler_places hs + handler_places hs) i w.3)))
numbered_well (block d body saves rescued always row) vs o i w =
    either_well (nat_lt i (o + size body)) _ _ (numbered_well body vs.0 o i w.0)
    (either_well (nat_lt i (o + size body + size rescued)) _ _ (numbered_well rescued vs.1 (o + size body) i w.1)
    (either_well (nat_lt i (o + size body + size rescued + size always)) _ _ (numbered_well always vs.2 (o + size body + size rescued) i w.2)
    (either_well (nat_lt i (o + size body + size rescued + size always + size always)) _ _ (numbered_well always vs.3 (o + size body + size rescued + size always) i w.3)
    (numbered_well row vs.4 (o + size body + size rescued + size always + size always) i w.4))))

module _ (v w : ℕ → Exit) (l : (i : ℕ) → ExitLe (v i) (w i)) where
  flush_le : (hs : Handlers) (o : ℕ) → FlushLe hs (flush_at v hs o) (flush_at w hs o)
  flush_le no_handlers o = tt
  flush_le (handler n t hs) o = (l o, flush_le hs (suc o))

  at_le : (row : Row) (o : ℕ) → ValuesLe row (values_at v row o) (values_at w row o)
  at_le end o = tt
  at_le (task t row) o = (l o, at_le row (suc o))
  at_le (flush hs row) o = (flush_le hs o, at_le row (o + handler_places hs))
  at_le (section body hs row) o = (at_le body o, flush_le hs (o + size body), flush_le hs (o + size body + handler_places hs), at_le row (o + size body + handler_places hs + handler_places hs))
  at_le (block d body saves rescued always row) o = (
    at_le body o,
    at_le rescued (o + size body),
    at_le always (o + size body + size rescued),
    at_le always (o + size body + size rescued + size always),
    at_le row (o + size body + size rescued + size always + size always),
  )

module _ (v : ℕ → Exit) (a : (i : ℕ) → WellExit (v i)) where
  flush_at_well : (hs : Handlers) (o : ℕ) → WellFlush hs (flush_at v hs o)
  flush_at_well no_handlers o = tt
  flush_at_well (handler n t hs) o = (a o, flush_at_well hs (suc o))

  at_well : (row : Row) (o : ℕ) → WellValues row (values_at v row o)
  at_well end o = tt
  at_well (task t row) o = (a o, at_well row (suc o))
  at_well (flush hs row) o = (flush_at_well hs o, at_well row (o + handler_places hs))
  at_well (section body hs row) o = (at_well body o, flush_at_well hs (o + size body), flush_at_well hs (o + size body + handler_places hs), at_well row (o + size body + handler_places hs + handler_places hs))
  at_well (block d body saves rescued always row) o = (
    at_well body o,
    at_well rescued (o + size body),
    at_well always (o + size body + size rescued),
    at_well always (o + size body + size rescued + size always),
    at_well row (o + size body + size rescued + size always + size always),
  )

pub numbers_walk : (st : Setting) (row : Row) (e : Exit) (val : ℕ → Exit) (o : ℕ) → WellViews st.views → WellExit e → ((i : ℕ) → WellExit (val i)) → Into val (entry row o (Some (o + size row))) e → LinksHold st val (links row o (Some (o + size row)) None)
    → ((w : ℕ → Exit) → ((i : ℕ) → WellExit (w i)) → Into w (entry row o (Some (o + size row))) e → LinksHold st w (links row o (Some (o + size row)) None) → (i : ℕ) → ExitLe (val i) (w i))
    → ValuesLe row (values st row e) (values_at val row o) × ValuesLe row (values_at val row o) (values st row e) × ExitLe (walk st row e).well (val (o + size row)) × ExitLe (val (o + size row)) (walk st row e).well
numbers_walk st row e val o a we wv x y f =
    let last = o + size row in
    let up = least_play st row e (values_at val row o) (val last) a we (at_well val wv row o) (wv last) (numbers_cover st row e val o last x y) in
    let vs = values st row e in
    let top = (walk st row e).well in
    let w : ℕ → Exit = λ i. cond (nat_lt i (o + size row)) (numbered row vs o i) top in
    let same : values_at w row o ≡ vs = read_row row vs o w (λ i l k. less i (o + size row) (numbered row vs o i) top k) in
    let end_same : w last ≡ top = more last (o + size row) (numbered row vs o last) top (grind arith) in
    let wells = λ (i : ℕ). either_well (nat_lt i (o + size row)) (numbered row vs o i) top (numbered_well row vs o i (values_well st a row e we)) (walk_well st a row e we).0 in
    let cover : CoversPlay st row (values_at w row o) (w last) e =
    subst (λ us. CoversPlay st row us (w last) e) (sym same) (subst (λ t. CoversPlay st row vs t e) (sym end_same) (covers_play st row e a we)) in
    let links_hold = trees_cover st row e w o last cover in
    let low = f w wells links_hold.0 links_hold.1 in
    (up.0, subst (λ us. ValuesLe row (values_at val row o) us) same (at_le val w low row o), up.1, subst (λ t. ExitLe (val last) t) end_same (low last))
