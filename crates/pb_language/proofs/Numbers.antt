-- An assignment of numbers that covers the edges is a tree of values that does.
use Rattle.std.proofs.Common.{ℕ, suc, ◌+◌, List, [], ◌∷◌, ◌++◌, Bool, true, false, Option, Some, None}
use Rattle.pb_language.specs.Task.{Task, Handlers, no_handlers, handler, Row, end, task, flush, section, block}
use Rattle.pb_language.specs.Setting.{Setting}
use Rattle.pb_language.specs.Judgement.{Exit}
use Rattle.pb_language.specs.Walk.{going_from, failing_from}
use Rattle.pb_language.specs.Ordered.{ExitLe}
use Rattle.pb_language.specs.Nodes.{FlushEnters, Enters, Saved, FlushInner, Inner, Leaves}
use Rattle.pb_language.specs.Links.{handler_places, Link, size, flush_entry, entry, link_to, flush_links, saved_entry, links, flush_at, values_at, led, Way, goes, fails, passes, LinksHold, Into}

module _ (st : Setting) (val : ℕ → Exit) where
  split : (xs ys : List Link) → LinksHold st val (xs ++ ys) → LinksHold st val xs × LinksHold st val ys
  split [] ys h = (tt, h)
  split (x ∷ xs) ys h = let k = split xs ys h.1 in ((h.0, k.0), k.1)

  arrive : (o : ℕ) (t : Task) (b : Way) (n : Option ℕ) → LinksHold st val (link_to o t b n) → Into val n (led st t b (val o))
  arrive o t b None h = tt
  arrive o t b (Some n) h = h.0

  into_flush : (hs : Handlers) (o : ℕ) (ws : Option ℕ) (after : Exit → Type 0) → ((f : Exit) → Into val ws f → after f) → (e : Exit) → Into val (flush_entry hs o ws) e → FlushEnters hs (flush_at val hs o) after e
  into_flush no_handlers o ws after g e x = g e x
  into_flush (handler n t hs) o ws after g e x = x

  into_row : (row : Row) (o : ℕ) (ws : Option ℕ) (after : Exit → Type 0) → ((f : Exit) → Into val ws f → after f) → (e : Exit) → Into val (entry row o ws) e → Enters row (values_at val row o) after e
  into_row end o ws after g e x = g e x
  into_row (task t row) o ws after g e x = x
  into_row (flush hs row) o ws after g e x =
      into_flush hs o (entry row (o + handler_places hs) ws) (Enters row (values_at val row (o + handler_places hs)) after) (λ f y. into_row row (o + handler_places hs) ws after g f y) e x
  into_row (section body hs row) o ws after g e x =
      let oa = o + size body in
      let on = oa + handler_places hs + handler_places hs in
      into_row body o (flush_entry hs oa (entry row on ws)) (FlushEnters hs (flush_at val hs oa) (Enters row (values_at val row on) after))
      (λ f y. into_flush hs oa (entry row on ws) (Enters row (values_at val row on) after) (λ h z. into_row row on ws after g h z) f y) e x
  into_row (block d body saves rescued always row) o ws after g e x =
      let oa = o + size body + size rescued in
      let on = oa + size always + size always in
      into_row body o (entry always oa (entry row on ws)) (Enters always (values_at val always oa) (Enters row (values_at val row on) after))
      (λ f y. into_row always oa (entry row on ws) (Enters row (values_at val row on) after) (λ h z. into_row row on ws after g h z) f y) e x

  into_saved : (q : Bool) (xs ys : Option ℕ) (P Q : Exit → Type 0) → ((f : Exit) → Into val xs f → P f) → ((f : Exit) → Into val ys f → Q f) → (f : Exit) → Into val (saved_entry q xs ys) f → Saved q P Q f
  into_saved true xs ys P Q p q f x = p f x
  into_saved false xs ys P Q p q f x = q f x

  flush_inner : (hs : Handlers) (o : ℕ) (ws : Option ℕ) (after : Exit → Type 0) → ((f : Exit) → Into val ws f → after f) → LinksHold st val (flush_links hs o ws) → FlushInner st hs (flush_at val hs o) after
  flush_inner no_handlers o ws after g x = tt
  flush_inner (handler n t hs) o ws after g x =
      let next = flush_entry hs (suc o) ws in
      let a = split (link_to o t passes next) (link_to o t goes next ++ flush_links hs (suc o) ws) x in
      let b = split (link_to o t goes next) (flush_links hs (suc o) ws) a.1 in
      let into = into_flush hs (suc o) ws after g in
      (into (val o) (arrive o t passes next a.0), into (going_from st t (val o)) (arrive o t goes next b.0), flush_inner hs (suc o) ws after g b.1)

  pub row_inner : (row : Row) (o : ℕ) (ws us : Option ℕ) (after hurt : Exit → Type 0) → ((f : Exit) → Into val ws f → after f) → ((f : Exit) → Into val us f → hurt f) → LinksHold st val (links row o ws us)
      → Inner st row (values_at val row o) after hurt
  row_inner end o ws us after hurt g h x = tt
  row_inner (task t row) o ws us after hurt g h x =
      let a = split (link_to o t goes (entry row (suc o) ws)) (link_to o t fails us ++ links row (suc o) ws us) x in
      let b = split (link_to o t fails us) (links row (suc o) ws us) a.1 in
      (into_row row (suc o) ws after g (going_from st t (val o)) (arrive o t goes (entry row (suc o) ws) a.0), h (failing_from st t (val o)) (arrive o t fails us b.0), row_inner row (suc o) ws us after hurt g h b.1)
  row_inner (flush hs row) o ws us after hurt g h x =
      let on = o + handler_places hs in
      let a = split (flush_links hs o (entry row on ws)) (links row on ws us) x in
      (flush_inner hs o (entry row on ws) (Enters row (values_at val row on) after) (λ f y. into_row row on ws after g f y) a.0, row_inner row on ws us after hurt g h a.1)
  row_inner (section body hs row) o ws us after hurt g h x =
      let oa = o + size body in
      let oh = o + size body + handler_places hs in
      let on = o + size body + handler_places hs + handler_places hs in
      let k = entry row on ws in
      let a1 = flush_entry hs oa k in
      let a2 = flush_entry hs oh None in
      let K = Enters row (values_at val row on) after in
      let gk = λ (f : Exit) (y : Into val k f). into_row row on ws after g f y in
      let ga = λ (f : Exit) (y : Into val a1 f). into_flush hs oa k K gk f y in
      let gb = λ (f : Exit) (y : Into val a2 f). into_flush hs oh None Leaves (λ c z. tt) f y in
      let l3 = links row on ws us in
      let l2 = flush_links hs oh None in
      let l1 = flush_links hs oa k in
      let s0 = split (links body o a1 a2) (l1 ++ (l2 ++ l3)) x in
      let s1 = split l1 (l2 ++ l3) s0.1 in
      let s2 = split l2 l3 s1.1 in (
        row_inner body o a1 a2 (FlushEnters hs (flush_at val hs oa) K) (FlushEnters hs (flush_at val hs oh) Leaves) ga gb s0.0,
        flush_inner hs oa k K gk s1.0,
        flush_inner hs oh None Leaves (λ c z. tt) s2.0,
        row_inner row on ws us after hurt g h s2.1,
      )
  row_inner (block d body saves rescued always row) o ws us after hurt g h x =
      let or = o + size body in
      let oa = o + size body + size rescued in
      let oh = o + size body + size rescued + size always in
      let on = o + size body + size rescued + size always + size always in
      let k = entry row on ws in
      let a1 = entry always oa k in
      let a2 = entry always oh us in
      let r = entry rescued or a1 in
      let K = Enters row (values_at val row on) after in
      let A = Enters always (values_at val always oa) K in
      let B = Enters always (values_at val always oh) hurt in
      let R = Enters rescued (values_at val rescued or) A in
      let gk = λ (f : Exit) (y : Into val k f). into_row row on ws after g f y in
      let ga = λ (f : Exit) (y : Into val a1 f). into_row always oa k K gk f y in
      let gb = λ (f : Exit) (y : Into val a2 f). into_row always oh us hurt h f y in
      let gr = λ (f : Exit) (y : Into val r f). into_row rescued or a1 A ga f y in
      let l4 = links row on ws us in
      let l3 = links always oh us us in
      let l2 = links always oa k us in
      let l1 = links rescued or a1 a2 in
      let s0 = split (links body o a1 (saved_entry saves r a2)) (l1 ++ (l2 ++ (l3 ++ l4))) x in
      let s1 = split l1 (l2 ++ (l3 ++ l4)) s0.1 in
      let s2 = split l2 (l3 ++ l4) s1.1 in
      let s3 = split l3 l4 s2.1 in (
        row_inner body o a1 (saved_entry saves r a2) A (Saved saves R B) ga (into_saved saves r a2 R B gr gb) s0.0,
        row_inner rescued or a1 a2 A B ga gb s1.0,
        row_inner always oa k us K hurt gk h s2.0,
        row_inner always oh us us hurt hurt h h s3.0,
        row_inner row on ws us after hurt g h s3.1,
      )

pub numbers_cover : (st : Setting) (row : Row) (e : Exit) (val : ℕ → Exit) (o last : ℕ) → Into val (entry row o (Some last)) e → LinksHold st val (links row o (Some last) None)
    → Enters row (values_at val row o) (λ f. ExitLe f (val last)) e × Inner st row (values_at val row o) (λ f. ExitLe f (val last)) Leaves
numbers_cover st row e val o last x y = (
  into_row st val row o (Some last) (λ f. ExitLe f (val last)) (λ f z. z) e x,
  row_inner st val row o (Some last) None (λ f. ExitLe f (val last)) Leaves (λ f z. z) (λ f z. tt) y,
)

-- and the other way round
module _ (st : Setting) (val : ℕ → Exit) where
  join_links : (xs ys : List Link) → LinksHold st val xs → LinksHold st val ys → LinksHold st val (xs ++ ys)
  join_links [] ys h i = i
  join_links (x ∷ xs) ys h i = (h.0, join_links xs ys h.1 i)

  depart : (o : ℕ) (t : Task) (b : Way) (n : Option ℕ) → Into val n (led st t b (val o)) → LinksHold st val (link_to o t b n)
  depart o t b None h = tt
  depart o t b (Some n) h = (h, tt)

  from_flush : (hs : Handlers) (o : ℕ) (ws : Option ℕ) (after : Exit → Type 0) → ((f : Exit) → after f → Into val ws f) → (e : Exit) → FlushEnters hs (flush_at val hs o) after e → Into val (flush_entry hs o ws) e
  from_flush no_handlers o ws after g e x = g e x
  from_flush (handler n t hs) o ws after g e x = x

  from_row : (row : Row) (o : ℕ) (ws : Option ℕ) (after : Exit → Type 0) → ((f : Exit) → after f → Into val ws f) → (e : Exit) → Enters row (values_at val row o) after e → Into val (entry row o ws) e
  from_row end o ws after g e x = g e x
  from_row (task t row) o ws after g e x = x
  from_row (flush hs row) o ws after g e x =
      from_flush hs o (entry row (o + handler_places hs) ws) (Enters row (values_at val row (o + handler_places hs)) after) (λ f y. from_row row (o + handler_places hs) ws after g f y) e x
  from_row (section body hs row) o ws after g e x =
      let oa = o + size body in
      let on = oa + handler_places hs + handler_places hs in
      from_row body o (flush_entry hs oa (entry row on ws)) (FlushEnters hs (flush_at val hs oa) (Enters row (values_at val row on) after))
      (λ f y. from_flush hs oa (entry row on ws) (Enters row (values_at val row on) after) (λ h z. from_row row on ws after g h z) f y) e x
  from_row (block d body saves rescued always row) o ws after g e x =
      let oa = o + size body + size rescued in
      let on = oa + size always + size always in
      from_row body o (entry always oa (entry row on ws)) (Enters always (values_at val always oa) (Enters row (values_at val row on) after))
      (λ f y. from_row always oa (entry row on ws) (Enters row (values_at val row on) after) (λ h z. from_row row on ws after g h z) f y) e x

  from_saved : (q : Bool) (xs ys : Option ℕ) (P Q : Exit → Type 0) → ((f : Exit) → P f → Into val xs f) → ((f : Exit) → Q f → Into val ys f) → (f : Exit) → Saved q P Q f → Into val (saved_entry q xs ys) f
  from_saved true xs ys P Q p q f x = p f x
  from_saved false xs ys P Q p q f x = q f x

  flush_out : (hs : Handlers) (o : ℕ) (ws : Option ℕ) (after : Exit → Type 0) → ((f : Exit) → after f → Into val ws f) → FlushInner st hs (flush_at val hs o) after → LinksHold st val (flush_links hs o ws)
  flush_out no_handlers o ws after g x = tt
  flush_out (handler n t hs) o ws after g x =
      let next = flush_entry hs (suc o) ws in
      let from = from_flush hs (suc o) ws after g in
      join_links (link_to o t passes next) (link_to o t goes next ++ flush_links hs (suc o) ws) (depart o t passes next (from (val o) x.0))
      (join_links (link_to o t goes next) (flush_links hs (suc o) ws) (depart o t goes next (from (going_from st t (val o)) x.1)) (flush_out hs (suc o) ws after g x.2))

  pub row_out : (row : Row) (o : ℕ) (ws us : Option ℕ) (after hurt : Exit → Type 0) → ((f : Exit) → after f → Into val ws f) → ((f : Exit) → hurt f → Into val us f) → Inner st row (values_at val row o) after hurt
      → LinksHold st val (links row o ws us)
  row_out end o ws us after hurt g h x = tt
  row_out (task t row) o ws us after hurt g h x =
      join_links (link_to o t goes (entry row (suc o) ws)) (link_to o t fails us ++ links row (suc o) ws us)
      (depart o t goes (entry row (suc o) ws) (from_row row (suc o) ws after g (going_from st t (val o)) x.0))
      (join_links (link_to o t fails us) (links row (suc o) ws us) (depart o t fails us (h (failing_from st t (val o)) x.1)) (row_out row (suc o) ws us after hurt g h x.2))
  row_out (flush hs row) o ws us after hurt g h x =
      let on = o + handler_places hs in
      join_links (flush_links hs o (entry row on ws)) (links row on ws us) (flush_out hs o (entry row on ws) (Enters row (values_at val row on) after) (λ f y. from_row row on ws after g f y) x.0) (row_out row on ws us after hurt g h x.1)
  row_out (section body hs row) o ws us after hurt g h x =
      let oa = o + size body in
      let oh = o + size body + handler_places hs in
      let on = o + size body + handler_places hs + handler_places hs in
      let k = entry row on ws in
      let a1 = flush_entry hs oa k in
      let a2 = flush_entry hs oh None in
      let K = Enters row (values_at val row on) after in
      let A = FlushEnters hs (flush_at val hs oa) K in
      let B = FlushEnters hs (flush_at val hs oh) Leaves in
      let gk = λ (f : Exit) (y : K f). from_row row on ws after g f y in
      let ga = λ (f : Exit) (y : A f). from_flush hs oa k K gk f y in
      let gb = λ (f : Exit) (y : B f). from_flush hs oh None Leaves (λ c z. tt) f y in
      let l3 = links row on ws us in
      let l2 = flush_links hs oh None in
      let l1 = flush_links hs oa k in
      join_links (links body o a1 a2) (l1 ++ (l2 ++ l3)) (row_out body o a1 a2 A B ga gb x.0)
      (join_links l1 (l2 ++ l3) (flush_out hs oa k K gk x.1) (join_links l2 l3 (flush_out hs oh None Leaves (λ c z. tt) x.2) (row_out row on ws us after hurt g h x.3)))
  row_out (block d body saves rescued always row) o ws us after hurt g h x =
      let or = o + size body in
      let oa = o + size body + size rescued in
      let oh = o + size body + size rescued + size always in
      let on = o + size body + size rescued + size always + size always in
      let k = entry row on ws in
      let a1 = entry always oa k in
      let a2 = entry always oh us in
      let r = entry rescued or a1 in
      let K = Enters row (values_at val row on) after in
      let A = Enters always (values_at val always oa) K in
      let B = Enters always (values_at val always oh) hurt in
      let R = Enters rescued (values_at val rescued or) A in
      let gk = λ (f : Exit) (y : K f). from_row row on ws after g f y in
      let ga = λ (f : Exit) (y : A f). from_row always oa k K gk f y in
      let gb = λ (f : Exit) (y : B f). from_row always oh us hurt h f y in
      let gr = λ (f : Exit) (y : R f). from_row rescued or a1 A ga f y in
      let l4 = links row on ws us in
      let l3 = links always oh us us in
      let l2 = links always oa k us in
      let l1 = links rescued or a1 a2 in
      join_links (links body o a1 (saved_entry saves r a2)) (l1 ++ (l2 ++ (l3 ++ l4))) (row_out body o a1 (saved_entry saves r a2) A (Saved saves R B) ga (from_saved saves r a2 R B gr gb) x.0)
      (join_links l1 (l2 ++ (l3 ++ l4)) (row_out rescued or a1 a2 A B ga gb x.1)
      (join_links l2 (l3 ++ l4) (row_out always oa k us K hurt gk h x.2)
      (join_links l3 l4 (row_out always oh us us hurt hurt h h x.3) (row_out row on ws us after hurt g h x.4))))

pub trees_cover : (st : Setting) (row : Row) (e : Exit) (val : ℕ → Exit) (o last : ℕ) → Enters row (values_at val row o) (λ f. ExitLe f (val last)) e × Inner st row (values_at val row o) (λ f. ExitLe f (val last)) Leaves
    → Into val (entry row o (Some last)) e × LinksHold st val (links row o (Some last) None)
trees_cover st row e val o last x = (
  from_row st val row o (Some last) (λ f. ExitLe f (val last)) (λ f z. z) e x.0,
  row_out st val row o (Some last) None (λ f. ExitLe f (val last)) Leaves (λ f z. z) (λ f z. tt) x.1,
)
