-- The least solution on the graph of a play is the walk of its row.
use Rattle.std.proofs.Common.{◌≡◌, ◌≤◌, ◌<◌, ℕ, zero, suc, ◌+◌, List, [], ◌∷◌, ◌++◌, Bool, true, false, cond, nat_le, length, map, slice_index_or, Option, Some, None, refl, sym, ap, subst, arith}
use Rattle.std.proofs.lemmas.Bool.Decides.{nat_tests}
use Rattle.pb_language.specs.Task.{Handlers, no_handlers, handler, Row, end, task, flush, section, block}
use Rattle.pb_language.specs.Setting.{Setting}
use Rattle.pb_language.specs.Judgement.{Exit, dead}
use Rattle.pb_language.specs.Links.{Into, Link, LinksHold, carried, led, entry, links, handler_places, size, flush_at, values_at}
use Rattle.pb_language.specs.Nodes.{ValuesLe, values}
use Rattle.pb_language.specs.Ordered.{ExitLe}
use Rattle.pb_language.specs.Walk.{walk}
use Rattle.pb_language.specs.Wells.{WellExit, WellViews}
use Rattle.pb_language.proofs.NumbersWalk.{numbers_walk}
use Rattle.pb_language.proofs.Walks.{exit_own, exit_through}
use Rattle.pb_lattice.specs.Solution.{Covers}
use Rattle.pb_lattice.specs.declared.graph.Edge.{Edge}
use Rattle.pb_flow.specs.Ahead.{edge_to}
use Rattle.pb_flow.specs.Flow.{AreRising, begins_at, end_node, row_links}
use Rattle.pb_flow.specs.Solved.{begin_steps, row_graph, row_step}
use Rattle.pb_flow.proofs.Rises.{Within, links-rise, row-within}

-- what is known at each node covers what is known at the start, and what goes along each edge
record CoversRow (st : Setting) (row : Row) (e : Exit) (val : ℕ → Exit) : Type 0 where
  start : ExitLe e (val 0)
  begin : Into val (begins_at row) (val 0)
  edges : LinksHold st val (row_links row)

-- and is the least that does
record SolvesRow (st : Setting) (row : Row) (e : Exit) (val : ℕ → Exit) : Type 0 where
  wells : (n : ℕ) → WellExit (val n)
  covers : CoversRow st row e val
  least : (w : ℕ → Exit) → ((n : ℕ) → WellExit (w n)) → CoversRow st row e w
      → (n : ℕ) → ExitLe (val n) (w n)

-- a play begins behind its start, at the end at the latest
pub begin_within : (row : Row) → Within 1 (end_node row) (begins_at row)
begin_within row = row-within row 1 (end_node row) (Some (end_node row)) (grind arith) (grind arith, grind arith)

-- an assignment with another value at the start
abbrev from_one : (ℕ → Exit) → Exit → ℕ → Exit
from_one val e zero = e
from_one val e (suc n) = val (suc n)

none-below : 1 ≤ 0 → ⊥
none-below h = grind arith

into_other : (last : ℕ) (val : ℕ → Exit) (e f : Exit) (n : Option ℕ) → Within 1 last n → Into val n f → Into (from_one val e) n f
into_other last val e f None i x = tt
into_other last val e f (Some zero) i x = absurd (none-below i.0)
into_other last val e f (Some (suc n)) i x = x

inside_same : (val : ℕ → Exit) (e : Exit) (n : ℕ) → 1 ≤ n → from_one val e n ≡ val n
inside_same val e zero h = absurd (grind arith)
inside_same val e (suc n) h = refl

link_other : (st : Setting) (val : ℕ → Exit) (e : Exit) (l : Link) → 1 ≤ l.source → 1 ≤ l.target → ExitLe (carried st val l) (val l.target) → ExitLe (carried st (from_one val e) l) (from_one val e l.target)
link_other st val e l h i x = rw (inside_same val e l.source h, inside_same val e l.target i) x

links_other : (st : Setting) (val : ℕ → Exit) (e : Exit) (lowest last : ℕ) (ls : List Link) → 1 ≤ lowest → AreRising lowest last ls → LinksHold st val ls → LinksHold st (from_one val e) ls
links_other st val e lowest last [] h r x = tt
links_other st val e lowest last (l ∷ ls) h r x =
    (link_other st val e l (grind arith) (grind arith) x.0, links_other st val e l.source last ls (grind arith) r.3 x.1)

flush_same : (val : ℕ → Exit) (e : Exit) (hs : Handlers) (o : ℕ) → 1 ≤ o → flush_at (from_one val e) hs o ≡ flush_at val hs o
flush_same val e no_handlers o h = refl
flush_same val e (handler n t hs) zero h = absurd (grind arith)
flush_same val e (handler n t hs) (suc o) h = ap (λ vs. (val (suc o), vs)) (flush_same val e hs (suc (suc o)) (grind arith))

at_same : (val : ℕ → Exit) (e : Exit) (row : Row) (o : ℕ) → 1 ≤ o → values_at (from_one val e) row o ≡ values_at val row o
at_same val e end o h = refl
at_same val e (task t row) zero h = absurd (grind arith)
at_same val e (task t row) (suc o) h = ap (λ vs. (val (suc o), vs)) (at_same val e row (suc (suc o)) (grind arith))
at_same val e (flush hs row) o h = rw (flush_same val e hs o h, at_same val e row (o + handler_places hs) (grind arith)) refl
at_same val e (section body hs row) o h =
    let a = o + size body in
    let f = a + handler_places hs in
    rw (at_same val e body o h, flush_same val e hs a (grind arith), flush_same val e hs f (grind arith), at_same val e row (f + handler_places hs) (grind arith)) refl
at_same val e (block d body saves rescued always row) o h =
    let r = o + size body in
    let a = r + size rescued in
    let f = a + size always in
    rw (at_same val e body o h, at_same val e rescued r (grind arith), at_same val e always a (grind arith), at_same val e always f (grind arith), at_same val e row (f + size always) (grind arith)) refl

other_covers : (st : Setting) (row : Row) (e f : Exit) (w : ℕ → Exit) → WellExit e → Into w (begins_at row) e → LinksHold st w (row_links row) → CoversRow st row e (from_one w e)
other_covers st row e f w u x y = record {
  start = exit_own e u;
  begin = into_other (end_node row) w e e (begins_at row) (begin_within row) x;
  edges = links_other st w e 1 (end_node row) (row_links row) (grind arith) (links-rise row) y;
}

into_through : (w : ℕ → Exit) (e f : Exit) (n : Option ℕ) → WellExit e → WellExit f → ((i : ℕ) → WellExit (w i)) → ExitLe e f → Into w n f → Into w n e
into_through w e f None u v a x y = tt
into_through w e f (Some n) u v a x y = exit_through e f (w n) u v (a n) x y

other_well : (w : ℕ → Exit) (e : Exit) → WellExit e → ((i : ℕ) → WellExit (w i)) → (i : ℕ) → WellExit (from_one w e i)
other_well w e u a zero = u
other_well w e u a (suc i) = a (suc i)

below_other : (val w : ℕ → Exit) (e : Exit) → ((i : ℕ) → ExitLe (val i) (from_one w e i)) → (i : ℕ) → ExitLe (from_one val dead i) (w i)
below_other val w e l zero = tt
below_other val w e l (suc i) = l (suc i)

-- what the law of numbered nodes says where the end has that number
abbrev WalkTo : Setting → Row → Exit → (ℕ → Exit) → ℕ → Type 0
WalkTo st row e val last = Into val (entry row 1 (Some last)) e → LinksHold st val (links row 1 (Some last) None)
    → ((w : ℕ → Exit) → ((i : ℕ) → WellExit (w i)) → Into w (entry row 1 (Some last)) e → LinksHold st w (links row 1 (Some last) None) → (i : ℕ) → ExitLe (val i) (w i))
    → ValuesLe row (values st row e) (values_at val row 1) × ValuesLe row (values_at val row 1) (values st row e) × ExitLe (walk st row e).well (val last) × ExitLe (val last) (walk st row e).well

one-more : (n : ℕ) → 1 + n ≡ suc n
one-more n = grind arith

solved_walk : (st : Setting) (row : Row) (e : Exit) (val : ℕ → Exit) → WellViews st.views → WellExit e → SolvesRow st row e val
    → ValuesLe row (values st row e) (values_at val row 1) × ValuesLe row (values_at val row 1) (values st row e) × ExitLe (walk st row e).well (val (end_node row)) × ExitLe (val (end_node row)) (walk st row e).well
solved_walk st row e val a u s =
    let into = into_through val e (val 0) (begins_at row) u (s.wells 0) s.wells s.covers.start s.covers.begin in
    let inside = from_one val dead in
    let r = subst (WalkTo st row e inside) (one-more (size row)) (numbers_walk st row e inside 1 a u (other_well val dead tt s.wells))
    (into_other (end_node row) val dead e (begins_at row) (begin_within row) into)
    (links_other st val dead 1 (end_node row) (row_links row) (grind arith) (links-rise row) s.covers.edges)
    (λ w v x y. below_other val w e (s.least (from_one w e) (other_well w e u v) (other_covers st row e e w u x y))) in
    let same = at_same val dead row 1 (grind arith) in
    (subst (λ vs. ValuesLe row (values st row e) vs) same r.0, subst (λ vs. ValuesLe row vs (values st row e)) same r.1, r.2, r.3)

abbrev edges_of : List Link → List Edge
edges_of ls = map (λ l. record { source = l.source; target = l.target }) ls

abbrev steps_of : Setting → List Link → List (Exit → Exit)
steps_of st ls = map (λ l. led st l.by l.way) ls

-- of the edge of this number
abbrev HoldsAt : List Edge → List (Exit → Exit) → (ℕ → Exit) → ℕ → Type 0
HoldsAt es ss val i =
    let edge = slice_index_or es i (record { source = 0; target = 0 }) in
    ExitLe (slice_index_or ss i (λ e. e) (val edge.source)) (val edge.target)

from_index : (st : Setting) (val : ℕ → Exit) (ls : List Link) → ((i : ℕ) → i < length (edges_of ls) → HoldsAt (edges_of ls) (steps_of st ls) val i) → LinksHold st val ls
from_index st val [] f = tt
from_index st val (l ∷ ls) f = (f 0 (grind arith), from_index st val ls (λ i h. f (suc i) (grind arith)))

to_index : (st : Setting) (val : ℕ → Exit) (ls : List Link) → LinksHold st val ls → (i : ℕ) → i < length (edges_of ls) → HoldsAt (edges_of ls) (steps_of st ls) val i
to_index st val [] x i h = absurd (grind arith)
to_index st val (l ∷ ls) x zero h = x.0
to_index st val (l ∷ ls) x (suc i) h = to_index st val ls x.1 i (grind arith)

-- with the edge from the start
from_begin : (st : Setting) (val : ℕ → Exit) (o : Option ℕ) (ls : List Link) → ((i : ℕ) → i < length (edge_to 0 o ++ edges_of ls) → HoldsAt (edge_to 0 o ++ edges_of ls) (begin_steps o ++ steps_of st ls) val i)
    → Into val o (val 0) × LinksHold st val ls
from_begin st val None ls f = (tt, from_index st val ls f)
from_begin st val (Some n) ls f = (f 0 (grind arith), from_index st val ls (λ i h. f (suc i) (grind arith)))

to_begin : (st : Setting) (val : ℕ → Exit) (o : Option ℕ) (ls : List Link) → Into val o (val 0) → LinksHold st val ls → (i : ℕ) → i < length (edge_to 0 o ++ edges_of ls) → HoldsAt (edge_to 0 o ++ edges_of ls) (begin_steps o ++ steps_of st ls) val i
to_begin st val None ls x y i h = to_index st val ls y i h
to_begin st val (Some n) ls x y zero h = x
to_begin st val (Some n) ls x y (suc i) h = to_index st val ls y i (grind arith)

-- the values up to the end
abbrev within : ℕ → (ℕ → Exit) → ℕ → Exit
within last val n = cond (nat_le n last) (val n) dead

inside : (last n : ℕ) (x : Exit) → n ≤ last → cond (nat_le n last) x dead ≡ x
inside last n x h = go (nat_le n last) (grind (arith, nat_tests)) where
  go : (q : Bool) → q ≡ true → cond q x dead ≡ x
  go true e = refl
  go false e = absurd (cc)

within_well : (last : ℕ) (val : ℕ → Exit) → ((n : ℕ) → n < suc last → WellExit (val n)) → (n : ℕ) → WellExit (within last val n)
within_well last val w n = go (nat_le n last) refl where
  go : (q : Bool) → nat_le n last ≡ q → WellExit (cond q (val n) dead)
  go true e = w n (grind (arith, nat_tests))
  go false e = tt

within_le : (last : ℕ) (val w : ℕ → Exit) → ((n : ℕ) → n ≤ last → ExitLe (val n) (w n)) → (n : ℕ) → ExitLe (within last val n) (w n)
within_le last val w l n = go (nat_le n last) refl where
  go : (q : Bool) → nat_le n last ≡ q → ExitLe (cond q (val n) dead) (w n)
  go true e = l n (grind (arith, nat_tests))
  go false e = tt

into_within : (last : ℕ) (val : ℕ → Exit) (e : Exit) (o : Option ℕ) → Within 1 last o → Into val o e → Into (within last val) o e
into_within last val e None i x = tt
into_within last val e (Some n) i x = subst (ExitLe e) (sym (inside last n (val n) i.1)) x

link_within : (last : ℕ) (st : Setting) (val : ℕ → Exit) (l : Link) → l.source ≤ last → l.target ≤ last → ExitLe (carried st val l) (val l.target) → ExitLe (carried st (within last val) l) (within last val l.target)
link_within last st val l h i x = rw (inside last l.source (val l.source) h, inside last l.target (val l.target) i) x

links_within : (last : ℕ) (st : Setting) (val : ℕ → Exit) (lowest : ℕ) (ls : List Link) → AreRising lowest last ls → LinksHold st val ls → LinksHold st (within last val) ls
links_within last st val lowest [] r x = tt
links_within last st val lowest (l ∷ ls) r x = (link_within last st val l (grind arith) r.2 x.0, links_within last st val l.source ls r.3 x.1)

flush_within_same : (last : ℕ) (val : ℕ → Exit) (hs : Handlers) (o : ℕ) → o + handler_places hs ≤ suc last → flush_at (within last val) hs o ≡ flush_at val hs o
flush_within_same last val no_handlers o h = refl
flush_within_same last val (handler n t hs) o h = rw (inside last o (val o) (grind arith), flush_within_same last val hs (suc o) (grind arith)) refl

at_within : (last : ℕ) (val : ℕ → Exit) (row : Row) (o : ℕ) → o + size row ≤ suc last → values_at (within last val) row o ≡ values_at val row o
at_within last val end o h = refl
at_within last val (task t row) o h = rw (inside last o (val o) (grind arith), at_within last val row (suc o) (grind arith)) refl
at_within last val (flush hs row) o h = rw (flush_within_same last val hs o (grind arith), at_within last val row (o + handler_places hs) (grind arith)) refl
at_within last val (section body hs row) o h =
    let a = o + size body in
    let f = a + handler_places hs in
    rw (at_within last val body o (grind arith), flush_within_same last val hs a (grind arith), flush_within_same last val hs f (grind arith), at_within last val row (f + handler_places hs) (grind arith)) refl
at_within last val (block d body saves rescued always row) o h =
    let r = o + size body in
    let a = r + size rescued in
    let f = a + size always in
    rw (at_within last val body o (grind arith), at_within last val rescued r (grind arith), at_within last val always a (grind arith), at_within last val always f (grind arith), at_within last val row (f + size always) (grind arith)) refl

covers_row : (st : Setting) (row : Row) (e : Exit) (val : ℕ → Exit) → Covers WellExit ExitLe (row_step st row) (row_graph row) e val → CoversRow st row e (within (end_node row) val)
covers_row st row e val c =
    let last = end_node row in
    let x = from_begin st val (begins_at row) (row_links row) c.covered in
    let start = inside last 0 (val 0) (grind arith) in
    record {
      start = subst (ExitLe e) (sym start) c.entered;
      begin = into_within last val (within last val 0) (begins_at row) (begin_within row) (subst (Into val (begins_at row)) (sym start) x.0);
      edges = links_within last st val 1 (row_links row) (links-rise row) x.1;
    }

covers_graph : (st : Setting) (row : Row) (e : Exit) (w : ℕ → Exit) → ((n : ℕ) → WellExit (w n)) → CoversRow st row e w → Covers WellExit ExitLe (row_step st row) (row_graph row) e w
covers_graph st row e w a c = record {
  wells = λ n h. a n;
  entered = c.start;
  covered = to_begin st w (begins_at row) (row_links row) c.begin c.edges;
}

pub solution_walk : (st : Setting) (row : Row) (e : Exit) (val : ℕ → Exit) → WellViews st.views → WellExit e → Covers WellExit ExitLe (row_step st row) (row_graph row) e val
    → ((w : ℕ → Exit) → Covers WellExit ExitLe (row_step st row) (row_graph row) e w → (n : ℕ) → n ≤ end_node row → ExitLe (val n) (w n))
    → ValuesLe row (values st row e) (values_at val row 1) × ValuesLe row (values_at val row 1) (values st row e) × ExitLe (walk st row e).well (val (end_node row)) × ExitLe (val (end_node row)) (walk st row e).well
solution_walk st row e val a u c least =
    let last = end_node row in
    let s : SolvesRow st row e (within last val) = record {
      wells = within_well last val c.wells;
      covers = covers_row st row e val c;
      least = λ w v d. within_le last val w (least w (covers_graph st row e w v d));
    } in
    let r = solved_walk st row e (within last val) a u s in
    let ends = inside last last (val last) (grind arith) in
    let same = at_within last val row 1 (grind arith) in (
      subst (ValuesLe row (values st row e)) same r.0,
      subst (λ vs. ValuesLe row vs (values st row e)) same r.1,
      subst (ExitLe (walk st row e).well) ends r.2,
      subst (λ x. ExitLe x (walk st row e).well) ends r.3,
    )
